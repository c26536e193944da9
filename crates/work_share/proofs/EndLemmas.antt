-- Hands that are taken apart, and what their share has come to.
use Rattle.std.proofs.Common.{◌≡◌, ◌≢◌, ℕ, ◌+◌, ◌<◌, Bool, if◌then◌else◌, ◌==◌, List, [], ◌∷◌, ◌++◌, length, map, sum_by, count_by, All, Some, slice_get, sym, refl, ap, subst, ◌∙◌, ⊎_elim, append_assoc, arith}
use Rattle.std.specs.Global.{Vec}
use Rattle.std.proofs.lemmas.Bool.{cases_eq, eq-eqb, ne_eqb}
use Rattle.std.proofs.lemmas.List.{append-nil, length-map, map-append}
use Rattle.std.proofs.lemmas.List.Elements.{All-head, All-nil, All-push, All-tail}
use Rattle.std.proofs.lemmas.List.Sums.{sum_by-cons}
use Rattle.std.proofs.lemmas.Option.{slice_get_within}
use Rattle.crossbeam_deque.specs.Handles.{view, worker_deque, worker_view}
use Rattle.work_share.specs.Accounts.{stranger}
use Rattle.work_share.specs.Dealt.{dealt, deals}
use Rattle.work_share.specs.Endings.{IsParted, IsFifo, AreRowsOf, deque_by, taken_by, taken_along, put_count}
use Rattle.work_share.specs.EndStore.{end_of}
use Rattle.work_share.specs.HandStore.{Owner, Pass, known_by, known_of, hand_of, IsBare, IsHand}
use Rattle.work_share.specs.Owners.{stock_of, put_by}
use Rattle.work_share.specs.Views.{DequeName, ShareView, Known, HandView, deque_of, put_in, AreHandsOf, IsEnded}
use Rattle.work_share.specs.declared.ending.Parted.{Parted}
use Rattle.work_share.specs.declared.hand.HandParts.{HandParts}
use Rattle.work_share.proofs.DealtLemmas.{length-deals, get-deals, deals-count}
use Rattle.work_share.proofs.Places.{all-at, all-from, get-map, get-there, get-unmap, same-element, same-lists, sum-equal, sum-through}
use Rattle.work_share.proofs.RowLemmas.{same-puts}

abbrev rows_of : List (Vec Pass) → List (List Known)
rows_of rows = map (λ (row : Vec Pass). map known_by row.items) rows

abbrev nets_of : List (Vec ℕ) → List (List ℕ)
nets_of taken = map (λ (nets : Vec ℕ). nets.items) taken

-- what holds while hands are taken apart: those that don't remain are
pub record IsParting (hands left : List HandView) (owners : List Owner) (rows : List (Vec Pass)) (taken : List (Vec ℕ)) : Type 0 where
  pub done : List HandView
  pub all : done ++ left ≡ hands
  pub owners_are : map known_of owners ≡ map (λ (h : HandView). h.own) done
  pub rows_are : rows_of rows ≡ map (λ (h : HandView). h.others) done
  pub taken_are : nets_of taken ≡ map (λ (h : HandView). h.taken) done
  pub fifo : All IsFifo owners
  pub bare : All (λ (row : Vec Pass). All IsBare row.items) rows
  pub hands_are : All IsHand done

pub parting-first : (hands : List HandView) → IsParting hands hands [] [] []
parting-first hands = record {
  done = [];
  all = refl;
  owners_are = refl;
  rows_are = refl;
  taken_are = refl;
  fifo = All-nil IsFifo;
  bare = All-nil (λ (row : Vec Pass). All IsBare row.items);
  hands_are = All-nil IsHand;
}

pub parting-more : (hands left : List HandView) (owners : List Owner) (rows : List (Vec Pass)) (taken : List (Vec ℕ)) (hand : HandView) (parts : HandParts) → IsParting hands (hand ∷ left) owners rows taken → IsHand hand → hand_of hand.number parts ≡ hand → IsFifo parts.own → All IsBare parts.passes.items →
    IsParting hands left (owners ++ parts.own ∷ []) (rows ++ parts.passes ∷ []) (taken ++ parts.taken ∷ [])
parting-more hands left owners rows taken hand parts is hand-is same fifo bare =
    let done = is.done ++ hand ∷ [] in
    record {
      done = done;
      all = append_assoc is.done (hand ∷ []) left ∙ is.all;
      owners_are = map-append known_of owners (parts.own ∷ [])
          ∙ (λ i. is.owners_are i ++ (same i).own ∷ [])
          ∙ sym (map-append (λ (h : HandView). h.own) is.done (hand ∷ []));
      rows_are = map-append (λ (row : Vec Pass). map known_by row.items) rows (parts.passes ∷ [])
          ∙ (λ i. is.rows_are i ++ (same i).others ∷ [])
          ∙ sym (map-append (λ (h : HandView). h.others) is.done (hand ∷ []));
      taken_are = map-append (λ (nets : Vec ℕ). nets.items) taken (parts.taken ∷ [])
          ∙ (λ i. is.taken_are i ++ (same i).taken ∷ [])
          ∙ sym (map-append (λ (h : HandView). h.taken) is.done (hand ∷ []));
      fifo = All-push IsFifo owners parts.own is.fifo fifo;
      bare = All-push (λ (row : Vec Pass). All IsBare row.items) rows parts.passes is.bare bare;
      hands_are = All-push IsHand is.done hand is.hands_are hand-is;
    }

pub parting-last : (hands left : List HandView) (parts : Parted) → IsParting hands left parts.owners.items parts.rows.items parts.taken.items → left ≡ [] → IsParted hands parts
parting-last hands left parts is none =
    let all : is.done ≡ hands = sym (append-nil is.done) ∙ ap (λ (l : List HandView). is.done ++ l) (sym none) ∙ is.all in
    record {
      owners = is.owners_are ∙ ap (λ (l : List HandView). map (λ (h : HandView). h.own) l) all;
      rows = is.rows_are ∙ ap (λ (l : List HandView). map (λ (h : HandView). h.others) l) all;
      taken = is.taken_are ∙ ap (λ (l : List HandView). map (λ (h : HandView). h.taken) l) all;
      fifo = is.fifo;
      bare = is.bare;
      hands_are = subst (λ (l : List HandView). All IsHand l) all is.hands_are;
    }

module _ (s : ShareView) (hands : List HandView) (parts : Parted) (all : AreHandsOf s hands) (parted : IsParted hands parts) where
  abbrev owners : List Owner
  owners = parts.owners.items

  pub owners-long : length owners ≡ s.workers
  owners-long =
      let one = length-map owners known_of in
      let other = length-map hands (λ (h : HandView). h.own) in
      let both = ap (λ (l : List Known). length l) parted.owners in
      let count = all.count in
      omega (arith, one, other, both, count)

  rows-long : length parts.rows.items ≡ s.workers
  rows-long =
      let one = length-map parts.rows.items (λ (row : Vec Pass). map known_by row.items) in
      let other = length-map hands (λ (h : HandView). h.others) in
      let both = ap (λ (l : List (List Known)). length l) parted.rows in
      let count = all.count in
      omega (arith, one, other, both, count)

  -- an owner and its hand
  record HasHand (at : ℕ) (own : Known) : Type 0 where
    hand : HandView
    there : slice_get hands at ≡ Some hand
    own_is : hand.own ≡ own

  hand-at : (at : ℕ) (o : Owner) → slice_get owners at ≡ Some o → HasHand at (known_of o)
  hand-at at o there =
      let known = ap (λ (l : List Known). slice_get l at) (sym parted.owners) ∙ get-map known_of owners at o there in
      let h = get-unmap (λ (x : HandView). x.own) hands at (known_of o) known in
      record { hand = h.0; there = h.1; own_is = h.2 }

  own-deque : (at : ℕ) (h : HandView) → slice_get hands at ≡ Some h → slice_get s.deques at ≡ Some h.own.deque
  own-deque at h there =
      let is = all-at IsHand hands at h there parted.hands_are in
      let of = all.each at h there in
      let number = all.numbers at h there in
      ap (λ (l : List DequeName). slice_get l at) (sym of.deques)
      ∙ ap (λ (n : ℕ). slice_get (map deque_of h.others) n) (sym number)
      ∙ get-map deque_of h.others h.number record { deque = h.own.deque; account = stranger } is.home

  pub deques-are : 0 < s.workers → map worker_deque owners ≡ s.deques
  deques-are some =
      let first = get-there hands 0 (let count = all.count in omega (arith, some, count)) in
      let of = all.each 0 first.0 first.1 in
      let one = length-map owners worker_deque in
      let other = ap (λ (l : List DequeName). length l) of.deques in
      let known = length-map first.0.others deque_of in
      let count = of.count in
      let long = owners-long in
      same-lists (map worker_deque owners) s.deques (omega (arith, one, other, known, count, long))
      (λ at l m mine theirs.
      let o = get-unmap worker_deque owners at l mine in
      let h = hand-at at o.0 o.1 in
      let named = same-element s.deques at h.hand.own.deque m (own-deque at h.hand h.there) theirs in
      sym o.2 ∙ ap (λ (k : Known). k.deque) (sym h.own_is) ∙ named)

  pub few : 0 < s.workers → length owners < 1025
  few some =
      let first = get-there hands 0 (let count = all.count in omega (arith, some, count)) in
      let is = all-at IsHand hands 0 first.0 first.1 parted.hands_are in
      let most = is.few in
      let count = (all.each 0 first.0 first.1).count in
      let long = owners-long in
      omega (arith, most, count, long)

  pub own-parts : All (λ (o : Owner). (worker_view o).parts + length owners ≡ 1025) owners
  own-parts =
      all-from (λ (o : Owner). (worker_view o).parts + length owners ≡ 1025) owners
      (λ at o there.
      let h = hand-at at o there in
      let is = all-at IsHand hands at h.hand h.there parted.hands_are in
      let parts-are = is.own in
      let count = (all.each at h.hand h.there).count in
      let long = owners-long in
      let same = ap (λ (k : Known). k.account.parts) h.own_is in
      omega (arith, parts-are, count, long, same))

  deques-along : (row : List Pass) → map deque_by row ≡ map deque_of (map known_by row)
  deques-along [] = refl
  deques-along (p ∷ ps) = ap (λ (l : List DequeName). deque_by p ∷ l) (deques-along ps)

  row-at : (at : ℕ) (row : Vec Pass) → slice_get parts.rows.items at ≡ Some row → (h : HandView) × (slice_get hands at ≡ Some h) × (h.others ≡ map known_by row.items)
  row-at at row there =
      get-unmap (λ (h : HandView). h.others) hands at (map known_by row.items)
      (ap (λ (l : List (List Known)). slice_get l at) (sym parted.rows) ∙ get-map (λ (r : Vec Pass). map known_by r.items) parts.rows.items at row there)

  row-parts : (number : ℕ) (row : Vec Pass) → slice_get parts.rows.items number ≡ Some row → (at : ℕ) (p : Pass) → slice_get row.items at ≡ Some p → (view p).parts ≡ (if at == number then 0 else 1)
  row-parts number row there at p here =
      let h = row-at number row there in
      let is = all-at IsHand hands number h.0 h.1 parted.hands_are in
      let mine = all.numbers number h.0 h.1 in
      let known : slice_get h.0.others at ≡ Some (known_by p) = ap (λ (l : List Known). slice_get l at) h.2 ∙ get-map known_by row.items at p here in
      ⊎_elim
      (λ (home : at ≡ number).
      let none = ap {B = ℕ} (λ (b : Bool). if b then 0 else 1) (eq-eqb at number home) in
      let at-home : at ≡ h.0.number = home ∙ sym mine in
      let strange = same-element h.0.others at (known_by p) record { deque = h.0.own.deque; account = stranger } known (ap (λ (n : ℕ). slice_get h.0.others n) at-home ∙ is.home) in
      ap (λ (k : Known). k.account.parts) strange ∙ sym none)
      (λ (away : at ≢ number).
      let one = ap {B = ℕ} (λ (b : Bool). if b then 0 else 1) (ne_eqb at number away) in
      is.parts at (known_by p) (λ e. away (e ∙ mine)) known ∙ sym one)
      (cases_eq at number)

  pub rows-are : 0 < s.workers → AreRowsOf (map worker_deque owners) parts.rows.items
  rows-are some =
      let names = length-map owners worker_deque in
      let one = owners-long in
      let other = rows-long in
      record {
        count = omega (arith, names, one, other);
        each = λ number row there.
            let h = row-at number row there in
            record {
              of = record {
                bare = all-at (λ (r : Vec Pass). All IsBare r.items) parts.rows.items number row there parted.bare;
                deques_are = deques-along row.items ∙ ap (λ (l : List Known). map deque_of l) (sym h.2) ∙ (all.each number h.0 h.1).deques ∙ sym (deques-are some);
              };
              parts = row-parts number row there;
            };
      }

  -- what was put in the deques is what was shared
  puts-are : map put_by owners ≡ deals s.workers s.nets
  puts-are =
      let one = length-map owners put_by in
      let other = length-deals s.workers s.nets in
      let long = owners-long in
      same-lists (map put_by owners) (deals s.workers s.nets) (omega (arith, one, other, long))
      (λ at l m mine theirs.
      let o = get-unmap put_by owners at l mine in
      let h = hand-at at o.0 o.1 in
      let of = all.each at h.hand h.there in
      let number = all.numbers at h.hand h.there in
      let within = slice_get_within (deals s.workers s.nets) at m theirs in
      let inside : at < s.workers = omega (arith, within, other) in
      sym o.2
      ∙ ap (λ (k : Known). put_in k) (sym h.own_is)
      ∙ of.own
      ∙ ap (λ (n : ℕ). dealt s.workers s.nets n) number
      ∙ same-element (deals s.workers s.nets) at (dealt s.workers s.nets at) m (get-deals s.workers at s.nets inside) theirs)

  pub puts-count : (test : ℕ → Bool) → 0 < s.workers → sum_by (put_count test) owners ≡ count_by test s.nets
  puts-count test some =
      sym (sum-through (λ (l : List ℕ). count_by test l) put_by owners)
      ∙ ap (λ (l : List (List ℕ)). sum_by (λ (m : List ℕ). count_by test m) l) puts-are
      ∙ deals-count test s.workers s.nets some

  -- what was taken through all accounts is what the hands took
  own-taken : (test : ℕ → Bool) → sum_by (taken_by test) owners ≡ sum_by (λ (h : HandView). count_by test h.own.account.taken) hands
  own-taken test =
      sym (sum-through (λ (k : Known). count_by test k.account.taken) known_of owners)
      ∙ ap (λ (l : List Known). sum_by (λ (k : Known). count_by test k.account.taken) l) parted.owners
      ∙ sum-through (λ (k : Known). count_by test k.account.taken) (λ (h : HandView). h.own) hands

  rows-taken : (test : ℕ → Bool) → sum_by (taken_along test) parts.rows.items ≡ sum_by (λ (h : HandView). sum_by (λ (k : Known). count_by test k.account.taken) h.others) hands
  rows-taken test =
      sum-equal (taken_along test) (λ (row : Vec Pass). sum_by (λ (k : Known). count_by test k.account.taken) (map known_by row.items)) parts.rows.items
      (λ row. sym (sum-through (λ (k : Known). count_by test k.account.taken) known_by row.items))
      ∙ sym (sum-through (λ (l : List Known). sum_by (λ (k : Known). count_by test k.account.taken) l) (λ (row : Vec Pass). map known_by row.items) parts.rows.items)
      ∙ ap (λ (l : List (List Known)). sum_by (λ (m : List Known). sum_by (λ (k : Known). count_by test k.account.taken) m) l) parted.rows
      ∙ sum-through (λ (l : List Known). sum_by (λ (k : Known). count_by test k.account.taken) l) (λ (h : HandView). h.others) hands

  hands-taken : (test : ℕ → Bool) → sum_by (λ (h : HandView). count_by test h.taken) hands ≡ sum_by (taken_by test) owners + sum_by (taken_along test) parts.rows.items
  hands-taken test =
      let own = own-taken test in
      let rows = rows-taken test in
      let both = sum-parts test hands parted.hands_are in
      omega (arith, own, rows, both)
    where
      sum-parts : (t : ℕ → Bool) (hs : List HandView) → All IsHand hs → sum_by (λ (h : HandView). count_by t h.taken) hs ≡ sum_by (λ (h : HandView). count_by t h.own.account.taken) hs + sum_by (λ (h : HandView). sum_by (λ (k : Known). count_by t k.account.taken) h.others) hs
      sum-parts t [] are = refl
      sum-parts t (h ∷ hs) are =
          let here = (All-head IsHand h hs are).counted t in
          let rest = sum-parts t hs (All-tail IsHand h hs are) in
          let a = sum_by-cons (λ (x : HandView). count_by t x.taken) h hs in
          let b = sum_by-cons (λ (x : HandView). count_by t x.own.account.taken) h hs in
          let c = sum_by-cons (λ (x : HandView). sum_by (λ (k : Known). count_by t k.account.taken) x.others) h hs in
          omega (arith, here, rest, a, b, c)

  -- the owners after they gathered what the passes knew
  pub ended : (now : List Owner) (rest : List ℕ) → 0 < s.workers → map stock_of now ≡ map stock_of owners →
      ((test : ℕ → Bool) → sum_by (taken_by test) now ≡ sum_by (taken_by test) owners + sum_by (taken_along test) parts.rows.items) →
      ((test : ℕ → Bool) → sum_by (put_count test) now ≡ sum_by (taken_by test) now + count_by test rest) → IsEnded s hands (end_of parts.taken.items rest)
  ended now rest some same gathered left = record {
    taken = parted.taken;
    each = λ net.
        let test : ℕ → Bool = λ n. n == net in
        let shared = puts-count test some in
        let kept : sum_by (put_count test) now ≡ sum_by (put_count test) owners =
        sym (sum-through (λ (l : List ℕ). count_by test l) put_by now)
        ∙ ap (λ (l : List (List ℕ)). sum_by (λ (m : List ℕ). count_by test m) l) (same-puts owners now same)
        ∙ sum-through (λ (l : List ℕ). count_by test l) put_by owners in
        let all-taken = hands-taken test in
        let gone = gathered test in
        let is = left test in
        omega (arith, shared, kept, all-taken, gone, is);
  }
