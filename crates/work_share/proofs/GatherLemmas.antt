-- Owners that gather what passes knew.
use Rattle.std.proofs.Common.{◌≡◌, ◌≢◌, ℕ, suc, ◌+◌, ◌<◌, ◌≤◌, Bool, if◌then◌else◌, ◌==◌, List, [], ◌∷◌, length, length-set, set, get_or, drop, map, sum_by, count_by, All, Some, slice_get, sym, refl, ap, subst, ◌∙◌, ⊎_elim, arith}
use Rattle.std.specs.Global.{Vec}
use Rattle.std.proofs.lemmas.Bool.{cases_eq, eq-eqb, ne_eqb}
use Rattle.std.proofs.lemmas.List.{length-drop, length-map}
use Rattle.std.proofs.lemmas.List.Sums.{sum_by-cons}
use Rattle.std.proofs.lemmas.Option.{slice_get_within}
use Rattle.crossbeam_deque.specs.Handles.{view, IsPassOf, worker_deque, worker_view}
use Rattle.work_share.specs.Endings.{IsFifo, HasPart, IsWhole, IsJoined, AreOf, AreJoined, AreRowsOf, deque_by, taken_by, taken_at, taken_along}
use Rattle.work_share.specs.HandStore.{Owner, Pass, IsBare}
use Rattle.work_share.specs.Owners.{stock_of, cuts_after}
use Rattle.work_share.specs.Views.{DequeName}
use Rattle.work_share.specs.declared.account.Account.{Account}
use Rattle.work_share.proofs.AccountSums.{count-append}
use Rattle.work_share.proofs.Places.{all-at, all-from, get-drop, get-map, get-read, get-set, get-there, get-unmap, same-element, same-lists, set-else}
use Rattle.work_share.proofs.RowLemmas.{cuts-away, cuts-below, cuts-home, cuts-above, length-stocks, same-deques}

-- what holds while the passes of one row are gathered: those before a place are
pub record IsGathering (before : List Owner) (row : List Pass) (place : ℕ) (left : List Pass) (owners : List Owner) : Type 0 where
  pub left_is : drop place row ≡ left
  pub count : length owners ≡ length before
  pub joined : (at : ℕ) (o : Owner) (p : Pass) (n : Owner) → at < place → slice_get before at ≡ Some o → slice_get row at ≡ Some p → slice_get owners at ≡ Some n → IsJoined o p n
  pub kept : (at : ℕ) (n : Owner) → place ≤ at → slice_get owners at ≡ Some n → slice_get before at ≡ Some n

pub gathering-first : (owners : List Owner) (row : List Pass) → IsGathering owners row 0 row owners
gathering-first owners row =
    record { left_is = refl; count = refl; joined = λ at o p n less one other new. absurd (omega (arith, less)); kept = λ at n past there. there }

length-row : (before : List Owner) (row : List Pass) → AreOf (map worker_deque before) row → length row ≡ length before
length-row before row of =
    let one = length-map row deque_by in
    let other = length-map before worker_deque in
    let both = ap (λ (l : List DequeName). length l) of.deques_are in
    omega (arith, one, other, both)

-- the next pass has an owner
pub gathering-within : (before : List Owner) (row : List Pass) (place : ℕ) (p : Pass) (left : List Pass) (owners : List Owner) → AreOf (map worker_deque before) row → IsGathering before row place (p ∷ left) owners → place < length owners
gathering-within before row place p left owners of is =
    let here = slice_get_within row place p (get-drop row left place p is.left_is).0 in
    let long = length-row before row of in
    let count = is.count in
    omega (arith, here, long, count)

pub gathering-pass : (before : List Owner) (row : List Pass) (place : ℕ) (p : Pass) (left : List Pass) (owners : List Owner) (o : Owner) → AreOf (map worker_deque before) row → IsGathering before row place (p ∷ left) owners → o ≡ get_or owners place o → IsPassOf (worker_deque o) p
gathering-pass before row place p left owners o of is o-is =
    let there = (get-drop row left place p is.left_is).0 in
    let now = get-read owners place o (gathering-within before row place p left owners of is) o-is in
    let was = is.kept place o (omega arith) now in
    let same : deque_by p ≡ worker_deque o =
    same-element (map worker_deque before) place (deque_by p) (worker_deque o)
    (ap (λ (l : List DequeName). slice_get l place) (sym of.deques_are) ∙ get-map deque_by row place p there)
    (get-map worker_deque before place o was) in
    let bare = all-at IsBare row place p there of.bare in
    (ap (λ (d : DequeName). d.0) same, ap (λ (d : DequeName). d.1) same, bare.0, bare.1)

pub gathering-part : (before : List Owner) (row : List Pass) (place : ℕ) (p : Pass) (left : List Pass) (owners : List Owner) (o : Owner) → AreOf (map worker_deque before) row → IsGathering before row place (p ∷ left) owners → o ≡ get_or owners place o → All HasPart before → HasPart o
gathering-part before row place p left owners o of is o-is parts =
    let now = get-read owners place o (gathering-within before row place p left owners of is) o-is in
    all-at HasPart before place o (is.kept place o (omega arith) now) parts

pub gathering-more : (before : List Owner) (row : List Pass) (place : ℕ) (p : Pass) (left : List Pass) (owners : List Owner) (o new : Owner) → AreOf (map worker_deque before) row → IsGathering before row place (p ∷ left) owners → o ≡ get_or owners place o → IsJoined o p new → IsGathering before row (place + 1) left (set owners place new)
gathering-more before row place p left owners o new of is o-is join =
    let here = get-drop row left place p is.left_is in
    let now = get-read owners place o (gathering-within before row place p left owners of is) o-is in
    let was = is.kept place o (omega arith) now in
    record {
      left_is = here.1;
      count = length-set owners place new ∙ is.count;
      joined = λ at x q n less one other there.
          ⊎_elim
          (λ (same : (at ≡ place) × (new ≡ n)).
          let x-is : o ≡ x = same-element before place o x was (ap (λ (m : ℕ). slice_get before m) (sym same.0) ∙ one) in
          let q-is : p ≡ q = same-element row place p q here.0 (ap (λ (m : ℕ). slice_get row m) (sym same.0) ∙ other) in
          subst (λ (y : Owner × Pass × Owner). IsJoined y.0 y.1 y.2) (λ i. (x-is i, q-is i, same.1 i)) join)
          (λ (away : (at ≢ place) × (slice_get owners at ≡ Some n)).
          let apart = away.0 in
          is.joined at x q n (omega (arith, less, apart)) one other away.1)
          (get-set owners place at new n there);
      kept = λ at n past there. is.kept at n (omega (arith, past)) (sym (set-else owners place at new (λ e. omega (arith, e, past))) ∙ there);
    }

pub gathering-last : (before : List Owner) (row : List Pass) (place : ℕ) (left : List Pass) (owners : List Owner) → IsGathering before row place left owners → length left ≡ 0 → AreJoined before row owners
gathering-last before row place left owners is none =
    let all = ap (λ (l : List Pass). length l) is.left_is in
    let long = length-drop place row in
    record {
      count = is.count;
      each = λ at o p n one other there.
          let within = slice_get_within row at p other in
          is.joined at o p n (omega (arith, all, long, none, within)) one other there;
    }

sum-three : {X Y Z : Type 0} (f : X → ℕ) (g : Y → ℕ) (h : Z → ℕ) (xs : List X) (ys : List Y) (zs : List Z) → length ys ≡ length xs → length zs ≡ length xs →
    ((at : ℕ) (x : X) (y : Y) (z : Z) → slice_get xs at ≡ Some x → slice_get ys at ≡ Some y → slice_get zs at ≡ Some z → h z ≡ f x + g y) → sum_by h zs ≡ sum_by f xs + sum_by g ys
sum-three f g h [] [] [] one other each = refl
sum-three f g h [] (y ∷ ys) zs one other each = absurd (omega (arith, one))
sum-three f g h [] [] (z ∷ zs) one other each = absurd (omega (arith, other))
sum-three f g h (x ∷ xs) [] zs one other each = absurd (omega (arith, one))
sum-three f g h (x ∷ xs) (y ∷ ys) [] one other each = absurd (omega (arith, other))
sum-three f g h (x ∷ xs) (y ∷ ys) (z ∷ zs) one other each =
    let here = each 0 x y z refl refl refl in
    let rest = sum-three f g h xs ys zs (omega (arith, one)) (omega (arith, other)) (λ at u v w i j k. each (suc at) u v w i j k) in
    let a = sum_by-cons f x xs in
    let b = sum_by-cons g y ys in
    let c = sum_by-cons h z zs in
    omega (arith, here, rest, a, b, c)

joined-stock : (o : Owner) (p : Pass) (n : Owner) → IsJoined o p n → stock_of n ≡ stock_of o
joined-stock o p n join = λ i. record { deque = join.0.0 i; put = (join.1 i).put }

-- the parts of a deque's passes, with those of one hand more
cuts-step : (done at : ℕ) → cuts_after (done + 1) at ≡ cuts_after done at + (if at == done then 0 else 1)
cuts-step done at =
    ⊎_elim
    (λ (here : at ≡ done).
    let none = ap {B = ℕ} (λ (b : Bool). if b then 0 else 1) (eq-eqb at done here) in
    let home : cuts_after (done + 1) at ≡ cuts_after done at = subst (λ (n : ℕ). cuts_after (done + 1) n ≡ cuts_after done n) (sym here) (cuts-home done) in
    omega (arith, none, home))
    (λ (apart : at ≢ done).
    let one = ap {B = ℕ} (λ (b : Bool). if b then 0 else 1) (ne_eqb at done apart) in
    let away = cuts-away done at apart in
    omega (arith, one, away))
    (cases_eq at done)

-- what holds while rows are gathered: of those that don't remain all is known
pub record AreGathering (before : List Owner) (rows left : List (Vec Pass)) (owners : List Owner) : Type 0 where
  pub done : ℕ
  pub most : done ≤ length rows
  pub left_is : drop done rows ≡ left
  pub same : map stock_of owners ≡ map stock_of before
  pub fifo : All IsFifo owners
  pub parts : (at : ℕ) (o : Owner) → slice_get owners at ≡ Some o → (worker_view o).parts + length before ≡ 1025 + cuts_after done at
  pub taken : (test : ℕ → Bool) → sum_by (taken_by test) owners + sum_by (taken_along test) left ≡ sum_by (taken_by test) before + sum_by (taken_along test) rows

pub gathers-first : (owners : List Owner) (rows : List (Vec Pass)) → All IsFifo owners → All (λ (o : Owner). (worker_view o).parts + length owners ≡ 1025) owners → AreGathering owners rows rows owners
gathers-first owners rows fifo parts = record {
  done = 0;
  most = omega arith;
  left_is = refl;
  same = refl;
  fifo = fifo;
  parts = λ at o there.
      let one = all-at (λ (x : Owner). (worker_view x).parts + length owners ≡ 1025) owners at o there parts in
      let none = cuts-above 0 at (omega arith) in
      omega (arith, one, none);
  taken = λ test. refl;
}

-- the next row is of the deques
pub gathers-row : (before : List Owner) (rows left : List (Vec Pass)) (row : Vec Pass) (owners : List Owner) → AreRowsOf (map worker_deque before) rows → AreGathering before rows (row ∷ left) owners → AreOf (map worker_deque owners) row.items
gathers-row before rows left row owners of are =
    let here = get-drop rows left are.done row are.left_is in
    subst (λ (l : List DequeName). AreOf l row.items) (same-deques before owners are.same) (of.each are.done row here.0).of

pub gathers-parts : (before : List Owner) (rows left : List (Vec Pass)) (owners : List Owner) → length before < 1025 → AreGathering before rows left owners → All HasPart owners
gathers-parts before rows left owners few are = all-from HasPart owners (λ at o there. let parts = are.parts at o there in omega (arith, parts, few))

pub gathers-more : (before : List Owner) (rows left : List (Vec Pass)) (row : Vec Pass) (owners new : List Owner) → AreRowsOf (map worker_deque before) rows → AreGathering before rows (row ∷ left) owners → AreJoined owners row.items new → AreGathering before rows left new
gathers-more before rows left row owners new of are join =
    let here = get-drop rows left are.done row are.left_is in
    let this = of.each are.done row here.0 in
    let row-of = gathers-row before rows left row owners of are in
    let row-long = length-row owners row.items row-of in
    let count = join.count in
    let within = slice_get_within rows are.done row here.0 in
    let part : (at : ℕ) (n : Owner) → slice_get new at ≡ Some n → (o : Owner) × (p : Pass) × (slice_get owners at ≡ Some o) × (slice_get row.items at ≡ Some p) × IsJoined o p n =
    (λ at n there.
    let inside = slice_get_within new at n there in
    let o = get-there owners at (omega (arith, inside, count)) in
    let p = get-there row.items at (omega (arith, inside, count, row-long)) in
    (o.0, p.0, o.1, p.1, join.each at o.0 p.0 n o.1 p.1 there)) in
    record {
      done = are.done + 1;
      most = omega (arith, within);
      left_is = here.1;
      same = (
          let one = length-map new stock_of in
          let other = length-map owners stock_of in
          same-lists (map stock_of new) (map stock_of owners) (omega (arith, one, other, count))
          (λ at s t mine theirs.
          let n = get-unmap stock_of new at s mine in
          let x = part at n.0 n.1 in
          let o = get-unmap stock_of owners at t theirs in
          sym n.2 ∙ joined-stock x.0 x.1 n.0 x.4 ∙ ap stock_of (same-element owners at x.0 o.0 x.2 o.1) ∙ o.2)
          )
          ∙ are.same;
      fifo = all-from IsFifo new (λ at n there. let x = part at n there in x.4.0.1 ∙ all-at IsFifo owners at x.0 x.2 are.fifo);
      parts = λ at n there.
          let x = part at n there in
          let gained = ap (λ (a : Account). a.parts) x.4.1 in
          let before-parts = are.parts at x.0 x.2 in
          let one = this.parts at x.1 x.3 in
          let step = cuts-step are.done at in
          omega (arith, gained, before-parts, one, step);
      taken = λ test.
          let old = are.taken test in
          let cons = sum_by-cons (taken_along test) row left in
          let all = sum-three (taken_by test) (taken_at test) (taken_by test) owners row.items new row-long count
          (λ at o p n one other there.
          ap (λ (a : Account). count_by test a.taken) (join.each at o p n one other there).1 ∙ count-append test (worker_view o).taken (view p).taken) in
          omega (arith, old, cons, all);
    }

pub gathers-last : (before : List Owner) (rows left : List (Vec Pass)) (owners : List Owner) → AreRowsOf (map worker_deque before) rows → AreGathering before rows left owners → length left ≡ 0 →
    All IsWhole owners × ((test : ℕ → Bool) → sum_by (taken_by test) owners ≡ sum_by (taken_by test) before + sum_by (taken_along test) rows)
gathers-last before rows left owners of are none =
    let all = ap (λ (l : List (Vec Pass)). length l) are.left_is in
    let long = length-drop are.done rows in
    let most = are.most in
    let count = of.count in
    let names = length-map before worker_deque in
    let done : are.done ≡ length before = omega (arith, all, long, most, none, count, names) in
    let as-long = length-stocks before owners are.same in (
      all-from IsWhole owners
          (λ at o there.
          let parts = are.parts at o there in
          let inside = slice_get_within owners at o there in
          let cuts = cuts-below are.done at (omega (arith, inside, done, as-long)) in
          omega (arith, parts, cuts, done, inside, as-long)),
      (λ test.
          let taken = are.taken test in
          let empty = no-sum test left none in
          omega (arith, taken, empty)),
    )
  where
    no-sum : (test : ℕ → Bool) (l : List (Vec Pass)) → length l ≡ 0 → sum_by (taken_along test) l ≡ 0
    no-sum test [] is = refl
    no-sum test (x ∷ xs) is = absurd (omega (arith, is))
