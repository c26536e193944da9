-- Parts that are cut off for the passes of hands.
use Rattle.std.proofs.Common.{◌≡◌, ◌≢◌, ℕ, ◌+◌, ◌-◌, ◌<◌, ◌≤◌, Bool, true, false, if◌then◌else◌, ◌==◌, nat_lt, List, [], ◌∷◌, ◌++◌, length, length-append, set, get_or, take, map, All, Some, slice_get, sym, refl, ap, subst, ◌∙◌, ⊎_elim, arith}
use Rattle.std.specs.Global.{Vec}
use Rattle.std.proofs.lemmas.Bool.{cases_lt, cases_eq, eq-eqb, ne_eqb}
use Rattle.std.proofs.lemmas.Bool.Decides.{nat_tests}
use Rattle.std.proofs.lemmas.List.{map-append, map-set, length-map, take_more}
use Rattle.std.proofs.lemmas.List.Elements.{All-push}
use Rattle.std.proofs.lemmas.Option.{get_or_from_slice_get, slice_get_within}
use Rattle.crossbeam_deque.specs.Handles.{SameWorker, worker_deque, worker_view}
use Rattle.work_share.specs.Accounts.{lessened}
use Rattle.work_share.specs.HandStore.{Owner, Pass, known_by, IsBare}
use Rattle.work_share.specs.Owners.{Stock, stock_of, row_known, no_cuts, cuts_after, IsCut, AreCut, IsRow, AreRows}
use Rattle.work_share.specs.Views.{DequeName}
use Rattle.work_share.specs.declared.account.Account.{Account}
use Rattle.work_share.proofs.Places.{each-push, each-set, get-map, get-read, get-unmap, same-element, set-same}

pub cuts-below : (hands at : ℕ) → at < hands → cuts_after hands at ≡ hands - 1
cuts-below hands at less =
    let test : nat_lt at hands ≡ true = grind (arith, nat_tests) in
    ap (λ (b : Bool). if b then hands - 1 else hands) test

pub cuts-above : (hands at : ℕ) → hands ≤ at → cuts_after hands at ≡ hands
cuts-above hands at past =
    let test : nat_lt at hands ≡ false = grind (arith, nat_tests) in
    ap (λ (b : Bool). if b then hands - 1 else hands) test

-- a hand has no part of its own deque, and one of each other
pub cuts-home : (number : ℕ) → cuts_after (number + 1) number ≡ cuts_after number number
cuts-home number =
    let one = cuts-below (number + 1) number (omega arith) in
    let other = cuts-above number number (omega arith) in
    omega (arith, one, other)

pub cuts-away : (number at : ℕ) → at ≢ number → cuts_after (number + 1) at ≡ cuts_after number at + 1
cuts-away number at apart =
    ⊎_elim
    (λ (less : at < number).
    let one = cuts-below (number + 1) at (omega (arith, less)) in
    let other = cuts-below number at less in
    omega (arith, one, other, less))
    (λ (no : number ≤ at).
    ⊎_elim
    (λ (here : at ≡ number). absurd (apart here))
    (λ (beyond : at ≢ number).
    let one = cuts-above (number + 1) at (omega (arith, no, beyond)) in
    let other = cuts-above number at no in
    omega (arith, one, other))
    (cases_eq at number))
    (cases_lt at number)

pub cuts-few : (number at : ℕ) → cuts_after number at ≤ number
cuts-few number at =
    ⊎_elim
    (λ (less : at < number). let is = cuts-below number at less in omega (arith, is))
    (λ (no : number ≤ at). let is = cuts-above number at no in omega (arith, is))
    (cases_lt at number)

-- the parts that the first hands have, and one hand more of the deques before a place
abbrev pub cuts_within : ℕ → ℕ → ℕ → ℕ
cuts_within number place at = cuts_after (if nat_lt at place then number + 1 else number) at

within-below : (number place at : ℕ) → at < place → cuts_within number place at ≡ cuts_after (number + 1) at
within-below number place at less =
    let test : nat_lt at place ≡ true = grind (arith, nat_tests) in
    ap (λ (b : Bool). cuts_after (if b then number + 1 else number) at) test

within-above : (number place at : ℕ) → place ≤ at → cuts_within number place at ≡ cuts_after number at
within-above number place at past =
    let test : nat_lt at place ≡ false = grind (arith, nat_tests) in
    ap (λ (b : Bool). cuts_after (if b then number + 1 else number) at) test

within-else : (number place at : ℕ) → at ≢ place → cuts_within number place at ≡ cuts_within number (place + 1) at
within-else number place at apart =
    ⊎_elim
    (λ (less : at < place). within-below number place at less ∙ sym (within-below number (place + 1) at (omega (arith, less))))
    (λ (no : place ≤ at).
    ⊎_elim
    (λ (here : at ≡ place). absurd (apart here))
    (λ (beyond : at ≢ place). within-above number place at no ∙ sym (within-above number (place + 1) at (omega (arith, no, beyond))))
    (cases_eq at place))
    (cases_lt at place)

-- an owner of whose deque a pass was made
abbrev pub passed : Bool → Account → Account
passed home a = if home then a else lessened a

passed-stock : (home : Bool) (o new : Owner) → SameWorker o new → worker_view new ≡ passed home (worker_view o) → stock_of new ≡ stock_of o
passed-stock true o new same view = λ i. record { deque = same.0 i; put = (view i).put }
passed-stock false o new same view = λ i. record { deque = same.0 i; put = (view i).put }

passed-cut : (home : Bool) (cuts more : ℕ) (o new : Owner) → IsCut cuts o → more ≡ (if home then cuts else cuts + 1) → 1 < (worker_view o).parts → SameWorker o new → worker_view new ≡ passed home (worker_view o) → IsCut more new
passed-cut true cuts more o new is count many same view = record {
  fifo = same.1 ∙ is.fifo;
  parts = (let parts = ap (λ (a : Account). a.parts) view in let before = is.parts in omega (arith, parts, before, count));
  taken = ap (λ (a : Account). a.taken) view ∙ is.taken;
  alone = λ none. ap (λ (a : Account). a.alone) view ∙ is.alone (omega (arith, none, count));
}
passed-cut false cuts more o new is count many same view = record {
  fifo = same.1 ∙ is.fifo;
  parts = (let parts = ap (λ (a : Account). a.parts) view in let before = is.parts in omega (arith, parts, before, count, many));
  taken = ap (λ (a : Account). a.taken) view ∙ is.taken;
  alone = λ none. absurd (omega (arith, none, count));
}

counted : (number place : ℕ) → cuts_within number (place + 1) place ≡ (if place == number then cuts_within number place place else cuts_within number place place + 1)
counted number place =
    let after = within-below number (place + 1) place (omega arith) in
    let before = within-above number place place (omega arith) in
    ⊎_elim
    (λ (here : place ≡ number).
    let home : cuts_after (number + 1) place ≡ cuts_after number place = subst (λ (n : ℕ). cuts_after (number + 1) n ≡ cuts_after number n) (sym here) (cuts-home number) in
    after ∙ home ∙ sym before
    ∙ ap (λ (b : Bool). if b then cuts_within number place place else cuts_within number place place + 1) (sym (eq-eqb place number here)))
    (λ (apart : place ≢ number).
    let away = cuts-away number place apart in
    let more : cuts_within number (place + 1) place ≡ cuts_within number place place + 1 = omega (arith, after, before, away) in
    more
    ∙ ap (λ (b : Bool). if b then cuts_within number place place else cuts_within number place place + 1) (sym (ne_eqb place number apart)))
    (cases_eq place number)

-- what holds while the passes of a hand are made: those of the deques before a place are
pub record IsCutting (number place : ℕ) (before owners : List Owner) (passes : List Pass) : Type 0 where
  pub same : map stock_of owners ≡ map stock_of before
  pub cut : AreCut (cuts_within number place) owners
  pub count : length passes ≡ place
  pub bare : All IsBare passes
  pub each : (at : ℕ) (p : Pass) → slice_get passes at ≡ Some p → (s : Stock) → slice_get (map stock_of before) at ≡ Some s → known_by p ≡ row_known (at == number) s

pub cutting-first : (number : ℕ) (owners : List Owner) → AreCut (cuts_after number) owners → (none : All IsBare []) → IsCutting number 0 owners owners []
cutting-first number owners cut none = record {
  same = refl;
  cut = λ at o there. subst (λ (n : ℕ). IsCut n o) (sym (within-above number 0 at (omega arith))) (cut at o there);
  count = refl;
  bare = none;
  each = λ at p there. absurd (cc (there));
}

pub cutting-many : (number place : ℕ) (before owners : List Owner) (passes : List Pass) (o : Owner) → IsCutting number place before owners passes → number < 16 → place < length owners → o ≡ get_or owners place o → 1 < (worker_view o).parts
cutting-many number place before owners passes o is few within o-is =
    let parts = (is.cut place o (get-read owners place o within o-is)).parts in
    let cuts = cuts-few number place in
    let now = within-above number place place (omega arith) in
    omega (arith, parts, cuts, now, few)

pub length-stocks : (before owners : List Owner) → map stock_of owners ≡ map stock_of before → length owners ≡ length before
length-stocks before owners same =
    let one = length-map owners stock_of in
    let other = length-map before stock_of in
    let both = ap (λ (l : List Stock). length l) same in
    omega (arith, one, other, both)

-- the deque of which a thief takes
pub cutting-thief : {T : Type 0} (name : T → DequeName) (before owners : List Owner) (thieves : List T) (place : ℕ) (o : Owner) (thief : T) → map stock_of owners ≡ map stock_of before → map name thieves ≡ map worker_deque before → place < length owners → o ≡ get_or owners place o → thief ≡ get_or thieves place thief → name thief ≡ worker_deque o
cutting-thief name before owners thieves place o thief same names within o-is thief-is =
    let here = get-map stock_of owners place o (get-read owners place o within o-is) in
    let was = get-unmap stock_of before place (stock_of o) (ap (λ (l : List Stock). slice_get l place) (sym same) ∙ here) in
    let long = length-map thieves name in
    let owners-long = length-map before worker_deque in
    let both = ap (λ (l : List DequeName). length l) names in
    let as-long = length-stocks before owners same in
    let there = get-map name thieves place thief (get-read thieves place thief (omega (arith, long, owners-long, both, as-long, within)) thief-is) in
    same-element (map worker_deque before) place (name thief) (worker_deque was.0) (ap (λ (l : List DequeName). slice_get l place) (sym names) ∙ there) (get-map worker_deque before place was.0 was.1)
    ∙ ap (λ (s : Stock). s.deque) was.2

-- one more pass was made
pub cutting-more : (number place : ℕ) (before owners : List Owner) (passes : List Pass) (o new : Owner) (p : Pass) → IsCutting number place before owners passes → number < 16 → place < length owners → o ≡ get_or owners place o → SameWorker o new → worker_view new ≡ passed (place == number) (worker_view o) → known_by p ≡ row_known (place == number) (stock_of o) → IsBare p → IsCutting number (place + 1) before (set owners place new) (passes ++ p ∷ [])
cutting-more number place before owners passes o new p is few within o-is same view known bare =
    let there = get-read owners place o within o-is in
    let stock = passed-stock (place == number) o new same view in
    let many = cutting-many number place before owners passes o is few within o-is in
    let long = length-append passes (p ∷ []) in
    let count = is.count in
    record {
      same = map-set stock_of owners place new
          ∙ ap (λ (s : Stock). set (map stock_of owners) place s) stock
          ∙ set-same (map stock_of owners) place (stock_of o) (get-map stock_of owners place o there)
          ∙ is.same;
      cut = each-set (λ at x. IsCut (cuts_within number place at) x) (λ at x. IsCut (cuts_within number (place + 1) at) x) owners place new is.cut
          (passed-cut (place == number) (cuts_within number place place) (cuts_within number (place + 1) place) o new (is.cut place o there) (counted number place) many same view)
          (λ at x apart kept. subst (λ (n : ℕ). IsCut n x) (within-else number place at apart) kept);
      count = omega (arith, long, count);
      bare = All-push IsBare passes p is.bare bare;
      each = each-push (λ at x. (s : Stock) → slice_get (map stock_of before) at ≡ Some s → known_by x ≡ row_known (at == number) s) passes p is.each
          (λ s here.
          let place-is : place ≡ length passes = sym is.count in
          let at-place : slice_get (map stock_of before) place ≡ Some s = ap (λ (n : ℕ). slice_get (map stock_of before) n) place-is ∙ here in
          let s-is : stock_of o ≡ s = same-element (map stock_of before) place (stock_of o) s (ap (λ (l : List Stock). slice_get l place) (sym is.same) ∙ get-map stock_of owners place o there) at-place in
          known ∙ (λ i. row_known (place-is i == number) (s-is i)));
    }

pub cutting-last : (number place : ℕ) (before owners : List Owner) (passes : List Pass) → IsCutting number place before owners passes → place ≡ length owners → AreCut (cuts_after (number + 1)) owners × IsRow number (map stock_of before) passes
cutting-last number place before owners passes is end =
    let long = length-stocks before owners is.same in
    let stocks = length-map before stock_of in
    let count = is.count in (
      (λ at o there.
          let inside = slice_get_within owners at o there in
          subst (λ (n : ℕ). IsCut n o) (within-below number place at (omega (arith, inside, end))) (is.cut at o there)),
      record { count = omega (arith, long, stocks, count, end); bare = is.bare; each = λ at p s one other. is.each at p one s other },
    )

-- what holds while the passes of hands are made: those of the hands before a number are
pub record AreCutting (number : ℕ) (before owners : List Owner) (rows : List (Vec Pass)) : Type 0 where
  pub same : map stock_of owners ≡ map stock_of before
  pub cut : AreCut (cuts_after number) owners
  pub count : length rows ≡ number
  pub each : (at : ℕ) (row : Vec Pass) → slice_get rows at ≡ Some row → IsRow at (map stock_of before) row.items

pub rows-first : (owners : List Owner) → AreCut no_cuts owners → AreCutting 0 owners owners []
rows-first owners cut = record {
  same = refl;
  cut = λ at o there. subst (λ (n : ℕ). IsCut n o) (sym (cuts-above 0 at (omega arith))) (cut at o there);
  count = refl;
  each = λ at row there. absurd (cc (there));
}

deques-of : (owners : List Owner) → map (λ (s : Stock). s.deque) (map stock_of owners) ≡ map worker_deque owners
deques-of [] = refl
deques-of (o ∷ os) = ap (λ (l : List DequeName). worker_deque o ∷ l) (deques-of os)

pub same-deques : (before owners : List Owner) → map stock_of owners ≡ map stock_of before → map worker_deque before ≡ map worker_deque owners
same-deques before owners same = sym (deques-of before) ∙ ap (λ (l : List Stock). map (λ (s : Stock). s.deque) l) (sym same) ∙ deques-of owners

puts-of : (owners : List Owner) → map (λ (s : Stock). s.put) (map stock_of owners) ≡ map (λ (o : Owner). (worker_view o).put) owners
puts-of [] = refl
puts-of (o ∷ os) = ap (λ (l : List (List ℕ)). (worker_view o).put ∷ l) (puts-of os)

pub same-puts : (before owners : List Owner) → map stock_of owners ≡ map stock_of before → map (λ (o : Owner). (worker_view o).put) owners ≡ map (λ (o : Owner). (worker_view o).put) before
same-puts before owners same = sym (puts-of owners) ∙ ap (λ (l : List Stock). map (λ (s : Stock). s.put) l) same ∙ puts-of before

pub rows-more : (number : ℕ) (before owners new : List Owner) (rows : List (Vec Pass)) (row : Vec Pass) → AreCutting number before owners rows → map stock_of new ≡ map stock_of owners → AreCut (cuts_after (number + 1)) new → IsRow number (map stock_of owners) row.items → AreCutting (number + 1) before new (rows ++ row ∷ [])
rows-more number before owners new rows row is same cut made =
    let long = length-append rows (row ∷ []) in
    let count = is.count in
    record {
      same = same ∙ is.same;
      cut = cut;
      count = omega (arith, long, count);
      each = each-push (λ at r. IsRow at (map stock_of before) r.items) rows row is.each
          (subst (λ (x : ℕ × List Stock). IsRow x.0 x.1 row.items) (λ i. (sym is.count i, is.same i)) made);
    }

pub rows-last : (number : ℕ) (before owners : List Owner) (rows : List (Vec Pass)) → AreCutting number before owners rows → number ≡ length owners → AreCut (cuts_after (length owners)) owners × AreRows (map stock_of before) rows
rows-last number before owners rows is end =
    let long = length-stocks before owners is.same in
    let stocks = length-map before stock_of in
    let count = is.count in (
      subst (λ (n : ℕ). AreCut (cuts_after n) owners) end is.cut,
      record { count = omega (arith, long, stocks, count, end); each = is.each },
    )

-- one thief more, of the deque at the next place
pub thieves-more : {T : Type 0} (name : T → DequeName) (owners : List Owner) (thieves : List T) (at : ℕ) (o : Owner) (thief : T) → map name thieves ≡ take at (map worker_deque owners) → at < length owners → o ≡ get_or owners at o → name thief ≡ worker_deque o → map name (thieves ++ thief ∷ []) ≡ take (at + 1) (map worker_deque owners)
thieves-more name owners thieves at o thief is within o-is same =
    let names = length-map owners worker_deque in
    let there = get_or_from_slice_get (map worker_deque owners) at (worker_deque o) (worker_deque o) (get-map worker_deque owners at o (get-read owners at o within o-is)) in
    map-append name thieves (thief ∷ [])
    ∙ (λ i. is i ++ (same ∙ sym there) i ∷ [])
    ∙ sym (take_more (map worker_deque owners) at (worker_deque o) (omega (arith, within, names)))
