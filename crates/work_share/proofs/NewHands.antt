-- Hands that have taken nothing.
use Rattle.std.proofs.Common.{◌≡◌, ◌≢◌, ℕ, ◌-◌, ◌<◌, ◌≤◌, Bool, true, false, ◌==◌, List, [], length, length-set, set, get_or, map, sum_by, count_by, All, Some, slice_get, sym, refl, ap, subst, ◌∙◌, ⊎_elim, arith}
use Rattle.std.proofs.lemmas.Bool.{eq-eqb, ne_eqb}
use Rattle.std.proofs.lemmas.List.{length-map}
use Rattle.std.proofs.lemmas.List.Elements.{All-from_get_or}
use Rattle.std.proofs.lemmas.Option.{slice_get-get_or, slice_get_within}
use Rattle.crossbeam_deque.specs.Handles.{worker_deque, worker_flavor}
use Rattle.work_share.specs.Accounts.{stranger}
use Rattle.work_share.specs.Dealt.{dealt, deals}
use Rattle.work_share.specs.HandStore.{Owner, Pass, known_by, known_of, seen_in, IsHand, IsWithin, put_length}
use Rattle.work_share.specs.Owners.{Stock, stock_of, put_by, row_known, cuts_after, IsCut, AreCut, IsRow}
use Rattle.work_share.specs.Views.{Known, deque_of, put_in, share_of, IsNewHand}
use Rattle.work_share.proofs.DealtLemmas.{length-deals, get-deals, deals-length}
use Rattle.work_share.proofs.RowLemmas.{cuts-below}
use Rattle.work_share.proofs.Places.{get-map, get-set, get-there, get-unmap, same-element, same-lists, sum-none, sum-replaced, sum-through}

-- what the hand of a number knows of each deque, where the owners and its passes are these
pub record HasParts (nets : List ℕ) (owners : List Owner) (number : ℕ) (own : Owner) (passes : List Pass) : Type 0 where
  pub few : length owners ≤ 16
  pub cut : AreCut (cuts_after (length owners)) owners
  pub row : IsRow number (map stock_of owners) passes
  pub put : map put_by owners ≡ deals (length owners) nets
  pub own_is : slice_get owners number ≡ Some own

module _ (nets : List ℕ) (owners : List Owner) (number : ℕ) (own : Owner) (passes : List Pass) (has : HasParts nets owners number own passes) where
  abbrev others : List Known
  others = map known_by passes

  within : number < length owners
  within = slice_get_within owners number own has.own_is

  long : length others ≡ length owners
  long =
      let one = length-map passes known_by in
      let row = has.row.count in
      let stocks = length-map owners stock_of in
      omega (arith, one, row, stocks)

  record IsKnown (at : ℕ) (k : Known) : Type 0 where
    owner : Owner
    there : slice_get owners at ≡ Some owner
    is : k ≡ row_known (at == number) (stock_of owner)

  known-at : (at : ℕ) (k : Known) → slice_get others at ≡ Some k → IsKnown at k
  known-at at k there =
      let p = get-unmap known_by passes at k there in
      let inside = slice_get_within others at k there in
      let o = get-there owners at (let as-long = long in omega (arith, inside, as-long)) in
      record { owner = o.0; there = o.1; is = sym p.2 ∙ has.row.each at p.0 (stock_of o.0) p.1 (get-map stock_of owners at o.0 o.1) }

  away-known : (at : ℕ) (k : Known) → at ≢ number → (is : IsKnown at k) → k ≡ row_known false (stock_of is.owner)
  away-known at k apart is = is.is ∙ ap (λ (b : Bool). row_known b (stock_of is.owner)) (ne_eqb at number apart)

  home-known : slice_get others number ≡ Some record { deque = worker_deque own; account = stranger }
  home-known =
      let as-long = long in
      let inside = within in
      let k = get-there others number (omega (arith, as-long, inside)) in
      let is = known-at number k.0 k.1 in
      let same = same-element owners number is.owner own is.there has.own_is in
      k.1
      ∙ ap Some
      (is.is
      ∙ ap (λ (b : Bool). row_known b (stock_of is.owner)) (eq-eqb number number refl)
      ∙ ap (λ (o : Owner). row_known true (stock_of o)) same)

  none-taken : (b : Bool) (s : Stock) → (row_known b s).account.taken ≡ []
  none-taken true s = refl
  none-taken false s = refl

  taken-none : (at : ℕ) (k : Known) → slice_get others at ≡ Some k → k.account.taken ≡ []
  taken-none at k there =
      let is = known-at at k there in
      ap (λ (x : Known). x.account.taken) is.is ∙ none-taken (at == number) (stock_of is.owner)

  all-within : All IsWithin others
  all-within =
      let d : Known = known_of own in
      All-from_get_or IsWithin others d
      (λ i inside test.
      let none = ap (λ (l : List ℕ). count_by test l) (taken-none i (get_or others i d) (slice_get-get_or others i d inside)) in
      omega (arith, none))

  put-own : put_by own ≡ dealt (length owners) nets number
  put-own =
      same-element (deals (length owners) nets) number (put_by own) (dealt (length owners) nets number)
      (ap (λ (l : List (List ℕ)). slice_get l number) (sym has.put) ∙ get-map put_by owners number own has.own_is)
      (get-deals (length owners) number nets within)

  puts : map put_in others ≡ set (deals (length owners) nets) number []
  puts =
      let left = length-map others put_in in
      let right = length-set (deals (length owners) nets) number [] in
      let all = length-deals (length owners) nets in
      let as-long = long in
      same-lists (map put_in others) (set (deals (length owners) nets) number []) (omega (arith, left, right, all, as-long))
      (λ at l m one other.
      let k = get-unmap put_in others at l one in
      let is = known-at at k.0 k.1 in
      ⊎_elim
      (λ (here : (at ≡ number) × ([] ≡ m)).
      let home = ap (λ (b : Bool). put_in (row_known b (stock_of is.owner))) (eq-eqb at number here.0) in
      sym k.2 ∙ ap put_in is.is ∙ home ∙ here.1)
      (λ (away : (at ≢ number) × (slice_get (deals (length owners) nets) at ≡ Some m)).
      sym k.2 ∙ ap put_in (away-known at k.0 away.0 is)
      ∙ same-element (deals (length owners) nets) at (put_by is.owner) m
      (ap (λ (x : List (List ℕ)). slice_get x at) (sym has.put) ∙ get-map put_by owners at is.owner is.there)
      away.1)
      (get-set (deals (length owners) nets) number at [] m other))

  deque-known : (b : Bool) (s : Stock) → (row_known b s).deque ≡ s.deque
  deque-known true s = refl
  deque-known false s = refl

  deques : map deque_of others ≡ map worker_deque owners
  deques =
      let left = length-map others deque_of in
      let right = length-map owners worker_deque in
      let as-long = long in
      same-lists (map deque_of others) (map worker_deque owners) (omega (arith, left, right, as-long))
      (λ at l m one other.
      let k = get-unmap deque_of others at l one in
      let is = known-at at k.0 k.1 in
      let o = get-unmap worker_deque owners at m other in
      let same = same-element owners at is.owner o.0 is.there o.1 in
      sym k.2 ∙ ap deque_of is.is ∙ deque-known (at == number) (stock_of is.owner) ∙ ap worker_deque same ∙ o.2)

  cut-own : IsCut (length owners - 1) own
  cut-own =
      let inside = within in
      subst (λ (n : ℕ). IsCut n own) (cuts-below (length owners) number inside) (has.cut number own has.own_is)

  pub new-fifo : worker_flavor own ≡ 0
  new-fifo = cut-own.fifo

  pub new-is : IsHand (seen_in number own passes [])
  new-is =
      let as-long = long in
      let inside = within in
      let few-owners = has.few in
      let parts = cut-own.parts in
      record {
        number = omega (arith, as-long, inside);
        few = omega (arith, as-long, few-owners);
        own = omega (arith, as-long, parts, inside);
        home = home-known;
        parts = λ at k apart there. ap (λ (x : Known). x.account.parts) (away-known at k apart (known-at at k there));
        alone = λ one. (cut-own.alone (omega (arith, one, as-long)), cut-own.taken);
        own_within = λ test. (let none = ap (λ (l : List ℕ). count_by test l) cut-own.taken in omega (arith, none));
        within = all-within;
        counted = λ test.
            let own-none = ap (λ (l : List ℕ). count_by test l) cut-own.taken in
            let others-none = sum-none (λ (k : Known). count_by test k.account.taken) others (λ at k there. ap (λ (l : List ℕ). count_by test l) (taken-none at k there)) in
            omega (arith, own-none, others-none);
      }

  pub new-room : put_length (seen_in number own passes []) ≡ length nets
  new-room =
      let inside = within in
      let own-put = ap (λ (l : List ℕ). length l) put-own in
      let change = sum-replaced (λ (l : List ℕ). length l) (deals (length owners) nets) number (dealt (length owners) nets number) [] (get-deals (length owners) number nets inside) in
      let all = deals-length (length owners) nets (omega (arith, inside)) in
      let through = sum-through (λ (l : List ℕ). length l) put_in others in
      let same = ap (λ (x : List (List ℕ)). sum_by (λ (l : List ℕ). length l) x) puts in
      omega (arith, own-put, change, all, through, same)

  pub new-of : IsNewHand (share_of nets (map worker_deque owners)) number (seen_in number own passes [])
  new-of =
      let names = length-map owners worker_deque in
      let inside = within in
      let as-long = long in
      record {
        number_is = refl;
        taken_is = refl;
        of = record {
          number = omega (arith, names, inside);
          count = omega (arith, names, as-long);
          deques = deques;
          own = put-own ∙ ap (λ (n : ℕ). dealt n nets number) (sym names);
          others = puts ∙ ap (λ (n : ℕ). set (deals n nets) number []) (sym names);
        };
      }
