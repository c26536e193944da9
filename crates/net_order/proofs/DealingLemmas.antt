-- Nets that are put one of each region after the other, and what each hand is then dealt.
use Rattle.std.proofs.Common.{◌≡◌, ℕ, zero, suc, ◌+◌, ◌-◌, ◌*◌, ◌%◌, ◌<◌, ◌≤◌, inl, inr, Bool, true, false, ◌==◌, eq-eqb, ne_eqb, if◌then◌else◌, nat_lt, List, [], ◌∷◌, ◌++◌, All, length, map, take, drop, get_or, slice_index_or, sum_by, Vec, Global, refl, sym, ap, subst, ◌∙◌, append-nil, arith}
use Rattle.std.proofs.lemmas.Bool.{cases_eq, cases_lt}
use Rattle.std.proofs.lemmas.Bool.Decides.{nat_tests}
use Rattle.std.proofs.lemmas.List.{take_more, take_all, length-map, length-append}
use Rattle.std.proofs.lemmas.List.FromFn.{get_or-map-range_with_len}
use Rattle.std.proofs.lemmas.List.Sorted.{All-permutation}
use Rattle.std.proofs.lemmas.List.Sums.{sum_by-cons}
use Rattle.std.proofs.lemmas.Nat.{mod-mul-add}
use Rattle.std.proofs.Math.Nat.{suc-mul}
use Rattle.work_share.specs.Dealt.{dealt_from, dealt, deals}
use Rattle.work_share.specs.Views.{times}
use Rattle.work_share.proofs.DealtLemmas.{deals-count, length-deals}
use Rattle.gr_base.specs.Designs.{DesignView}
use Rattle.net_order.specs.Freedoms.{GoInTurn}
use Rattle.net_order.specs.Orders.{net_in, IsKey, IsDealtInTurn, IsSortOf, size_of, AreCutOf, AreKeysOf, nets_at}
use Rattle.net_order.proofs.KeyLemmas.{in-turn}
use Rattle.net_order.proofs.RegionLemmas.{times-moved}

-- what a hand is dealt of two lists, one behind the other
joined : (b : Bool) (x : ℕ) (xs ys whole : List ℕ) → whole ≡ xs ++ ys → (if b then x ∷ whole else whole) ≡ (if b then x ∷ xs else xs) ++ ys
joined true x xs ys whole is = ap (λ (l : List ℕ). x ∷ l) is
joined false x xs ys whole is = is

dealt-append : (place workers hand : ℕ) (xs ys : List ℕ) →
    dealt_from place workers hand (xs ++ ys) ≡ dealt_from place workers hand xs ++ dealt_from (place + length xs) workers hand ys
dealt-append place workers hand [] ys = ap (λ (n : ℕ). dealt_from n workers hand ys) (omega arith)
dealt-append place workers hand (x ∷ xs) ys =
    let next : suc place + length xs ≡ place + suc (length xs) = omega arith in
    joined (place % workers == hand) x (dealt_from (suc place) workers hand xs) (dealt_from (place + suc (length xs)) workers hand ys) (dealt_from (suc place) workers hand (xs ++ ys))
    (dealt-append (suc place) workers hand xs ys
    ∙ ap (λ (n : ℕ). dealt_from (suc place) workers hand xs ++ dealt_from n workers hand ys) next)

-- a row with at most one net a hand, behind whole rows
at-row : (rows workers j : ℕ) → j < workers → (rows * workers + j) % workers ≡ j
at-row rows workers j within = mod-mul-add rows workers j within

before-row : (rows workers hand j : ℕ) (row : List ℕ) → j + length row ≤ workers → hand < j → dealt_from (rows * workers + j) workers hand row ≡ []
before-row rows workers hand j [] fits before = refl
before-row rows workers hand j (x ∷ row) fits before =
    let place = at-row rows workers j (omega (arith, fits)) in
    let other : ((rows * workers + j) % workers == hand) ≡ false = ne_eqb ((rows * workers + j) % workers) hand (λ e. omega (arith, e, place, before)) in
    let next : suc (rows * workers + j) ≡ rows * workers + suc j = omega arith in
    ap (λ (b : Bool). if b then x ∷ dealt_from (suc (rows * workers + j)) workers hand row else dealt_from (suc (rows * workers + j)) workers hand row) other
    ∙ ap (λ (n : ℕ). dealt_from n workers hand row) next
    ∙ before-row rows workers hand (suc j) row (omega (arith, fits)) (omega (arith, before))

none-of : (n : ℕ) → ◌≡◌ {A = List ℕ} (take 1 (drop n [])) []
none-of zero = refl
none-of (suc n) = refl

row-from : (rows workers hand j : ℕ) (row : List ℕ) → j + length row ≤ workers → j ≤ hand →
    dealt_from (rows * workers + j) workers hand row ≡ take 1 (drop (hand - j) row)
row-from rows workers hand j [] fits behind = sym (none-of (hand - j))
row-from rows workers hand j (x ∷ row) fits behind =
    let place = at-row rows workers j (omega (arith, fits)) in
    let next : suc (rows * workers + j) ≡ rows * workers + suc j = omega arith in
    let both : Bool → List ℕ = λ b. if b then x ∷ dealt_from (suc (rows * workers + j)) workers hand row else dealt_from (suc (rows * workers + j)) workers hand row in
    elim (cases_eq j hand) [
      | inl here ↦
          let same : ((rows * workers + j) % workers == hand) ≡ true = eq-eqb ((rows * workers + j) % workers) hand (place ∙ here) in
          let none : hand - j ≡ 0 = omega (arith, here) in
          ap both same
          ∙ ap (λ (l : List ℕ). x ∷ l) (ap (λ (n : ℕ). dealt_from n workers hand row) next ∙ before-row rows workers hand (suc j) row (omega (arith, fits)) (omega (arith, here)))
          ∙ ap (λ (n : ℕ). take 1 (drop n (x ∷ row))) (sym none)
      | inr apart ↦
          let other : ((rows * workers + j) % workers == hand) ≡ false = ne_eqb ((rows * workers + j) % workers) hand (λ e. apart (sym place ∙ e)) in
          let some : suc (hand - suc j) ≡ hand - j = omega (arith, behind, apart) in
          ap both other
          ∙ ap (λ (n : ℕ). dealt_from n workers hand row) next
          ∙ row-from rows workers hand (suc j) row (omega (arith, fits)) (omega (arith, behind, apart))
          ∙ ap (λ (n : ℕ). take 1 (drop n (x ∷ row))) some
    ]

-- of a row behind whole rows each hand is dealt its net
dealt-row : (rows workers hand : ℕ) (order row : List ℕ) → length order ≡ rows * workers → length row ≤ workers →
    dealt workers (order ++ row) hand ≡ dealt workers order hand ++ take 1 (drop hand row)
dealt-row rows workers hand order row whole fits =
    let place : 0 + length order ≡ rows * workers + 0 = omega (arith, whole) in
    dealt-append 0 workers hand order row
    ∙ ap (λ (n : ℕ). dealt workers order hand ++ dealt_from n workers hand row) place
    ∙ ap (λ (l : List ℕ). dealt workers order hand ++ l) (row-from rows workers hand 0 row (omega (arith, fits)) (omega arith))
    ∙ ap (λ (n : ℕ). dealt workers order hand ++ take 1 (drop n row)) (omega arith)

-- one net of each region has been put, at each place so far
pub record AreDealt (rows : ℕ) (regions : List (Vec ℕ Global)) (order : List ℕ) : Type 0 where
  pub long : length order ≡ rows * length regions
  pub each : (hand : ℕ) (d : Vec ℕ Global) → hand < length regions →
      dealt (length regions) order hand ≡ take rows (map net_in (slice_index_or regions hand d).items)

pub dealt-none : (regions : List (Vec ℕ Global)) (order : List ℕ) → order ≡ [] → AreDealt 0 regions order
dealt-none regions order is = record {
  long = let none = ap (λ (l : List ℕ). length l) is in omega (arith, none);
  each = λ hand d within. ap (λ (l : List ℕ). dealt (length regions) l hand) is;
}

-- the net of a region in a row
net-at : (rows hand : ℕ) (regions : List (Vec ℕ Global)) (d : Vec ℕ Global) → hand < length regions →
    take 1 (drop hand (nets_at rows regions)) ≡ net_in (slice_index_or (slice_index_or regions hand d).items rows 0) ∷ []
net-at rows hand [] d within = absurd (omega (arith, within))
net-at rows zero (r ∷ regions) d within = refl
net-at rows (suc hand) (r ∷ regions) d within = net-at rows hand regions d (omega (arith, within))

none-at : (rows hand : ℕ) (regions : List (Vec ℕ Global)) → length regions ≤ hand → take 1 (drop hand (nets_at rows regions)) ≡ []
none-at rows hand [] past = none-of hand
none-at rows zero (r ∷ regions) past = absurd (omega (arith, past))
none-at rows (suc hand) (r ∷ regions) past = none-at rows hand regions (omega (arith, past))

get-map : (keys : List ℕ) (at : ℕ) → at < length keys → get_or (map net_in keys) at 0 ≡ net_in (slice_index_or keys at 0)
get-map [] at within = absurd (omega (arith, within))
get-map (x ∷ keys) zero within = refl
get-map (x ∷ keys) (suc at) within = get-map keys at (omega (arith, within))

more-of : (rows : ℕ) (keys : List ℕ) → rows < length keys → take (rows + 1) (map net_in keys) ≡ take rows (map net_in keys) ++ net_in (slice_index_or keys rows 0) ∷ []
more-of rows keys within =
    let long = length-map keys net_in in
    take_more (map net_in keys) rows 0 (omega (arith, within, long))
    ∙ ap (λ (n : ℕ). take rows (map net_in keys) ++ n ∷ []) (get-map keys rows within)

-- a whole row more
pub dealt-more : (rows : ℕ) (regions : List (Vec ℕ Global)) (order new : List ℕ) → AreDealt rows regions order →
    All (λ r. rows < length r.items) regions → new ≡ order ++ nets_at rows regions → AreDealt (rows + 1) regions new
dealt-more rows regions order new so_far long is = record {
  long =
      let before = so_far.long in
      let row = length-map regions (λ (r : Vec ℕ Global). net_in (slice_index_or r.items rows 0)) in
      let next = suc-mul rows (length regions) in
      let both = ap (λ (l : List ℕ). length l) is in
      let sum = length-append order (nets_at rows regions) in
      let one : rows + 1 ≡ suc rows = omega arith in
      both ∙ sum ∙ ap (λ (n : ℕ). n + length (nets_at rows regions)) before ∙ ap (λ (n : ℕ). rows * length regions + n) row ∙ sym next
      ∙ ap (λ (n : ℕ). n * length regions) (sym one);
  each = λ hand d within.
      let keys = (slice_index_or regions hand d).items in
      let row = length-map regions (λ (r : Vec ℕ Global). net_in (slice_index_or r.items rows 0)) in
      ap (λ (l : List ℕ). dealt (length regions) l hand) is
      ∙ dealt-row rows (length regions) hand order (nets_at rows regions) so_far.long (omega (arith, row))
      ∙ ap (λ (l : List ℕ). l ++ take 1 (drop hand (nets_at rows regions))) (so_far.each hand d within)
      ∙ ap (λ (l : List ℕ). take rows (map net_in keys) ++ l) (net-at rows hand regions d within)
      ∙ sym (more-of rows keys (long hand d within));
}

-- each region has a net at each place below those that all have
pub each-has : (each more rows : ℕ) (regions : List (Vec ℕ Global)) → AreCutOf each more regions → rows < each → All (λ r. rows < length r.items) regions
each-has each more rows regions cut below region d within =
    let size = cut.sizes region d within in
    elim (cases_lt region more) [
      | inl first ↦
          let test : nat_lt region more ≡ true = grind (arith, nat_tests) in
          let is : size_of each more region ≡ each + 1 = ap (λ (b : Bool). each + (if b then 1 else 0)) test in
          omega (arith, below, size, is)
      | inr later ↦
          let test : nat_lt region more ≡ false = grind (arith, nat_tests) in
          let is : size_of each more region ≡ each + 0 = ap (λ (b : Bool). each + (if b then 1 else 0)) test in
          omega (arith, below, size, is)
    ]

get-taken : (count region : ℕ) (regions : List (Vec ℕ Global)) (d : Vec ℕ Global) → region < count → slice_index_or (take count regions) region d ≡ slice_index_or regions region d
get-taken zero region regions d below = absurd (omega (arith, below))
get-taken (suc count) region [] d below = refl
get-taken (suc count) zero (r ∷ regions) d below = refl
get-taken (suc count) (suc region) (r ∷ regions) d below = get-taken count region regions d (omega (arith, below))

length-taken : (count : ℕ) (regions : List (Vec ℕ Global)) → count ≤ length regions → length (take count regions) ≡ count
length-taken zero regions within = refl
length-taken (suc count) [] within = absurd (omega (arith, within))
length-taken (suc count) (r ∷ regions) within = ap suc (length-taken count regions (omega (arith, within)))

-- the last row: then each hand is dealt its region
pub dealt-last : (each more : ℕ) (regions : List (Vec ℕ Global)) (order new : List ℕ) → AreDealt each regions order → AreCutOf each more regions →
    more ≤ length regions → new ≡ order ++ nets_at each (take more regions) →
    (hand : ℕ) (d : Vec ℕ Global) → hand < length regions → dealt (length regions) new hand ≡ map net_in (slice_index_or regions hand d).items
dealt-last each more regions order new so_far cut few is hand d within =
    let keys = (slice_index_or regions hand d).items in
    let size = cut.sizes hand d within in
    let keys_long = length-map keys net_in in
    let taken = length-taken more regions few in
    let row = length-map (take more regions) (λ (r : Vec ℕ Global). net_in (slice_index_or r.items each 0)) in
    ap (λ (l : List ℕ). dealt (length regions) l hand) is
    ∙ dealt-row each (length regions) hand order (nets_at each (take more regions)) so_far.long (omega (arith, row, taken, few))
    ∙ ap (λ (l : List ℕ). l ++ take 1 (drop hand (nets_at each (take more regions)))) (so_far.each hand d within)
    ∙ elim (cases_lt hand more) [
      | inl first ↦
          let test : nat_lt hand more ≡ true = grind (arith, nat_tests) in
          let one : size_of each more hand ≡ each + 1 = ap (λ (b : Bool). each + (if b then 1 else 0)) test in
          ap (λ (l : List ℕ). take each (map net_in keys) ++ l)
          (net-at each hand (take more regions) d (omega (arith, first, taken))
          ∙ ap (λ (r : Vec ℕ Global). net_in (slice_index_or r.items each 0) ∷ []) (get-taken more hand regions d first))
          ∙ sym (more-of each keys (omega (arith, size, one)))
          ∙ take_all (each + 1) (map net_in keys) (omega (arith, size, one, keys_long))
      | inr later ↦
          let test : nat_lt hand more ≡ false = grind (arith, nat_tests) in
          let none : size_of each more hand ≡ each + 0 = ap (λ (b : Bool). each + (if b then 1 else 0)) test in
          ap (λ (l : List ℕ). take each (map net_in keys) ++ l) (none-at each hand (take more regions) (omega (arith, later, taken)))
          ∙ append-nil (take each (map net_in keys))
          ∙ take_all each (map net_in keys) (omega (arith, size, none, keys_long))
    ]

-- so all hands together are dealt what the regions hold
sum-alike : {X Y : Type 0} (f : X → ℕ) (g : Y → ℕ) (xs : List X) (ys : List Y) → length xs ≡ length ys →
    ((at : ℕ) (x : X) (y : Y) → at < length ys → f (slice_index_or xs at x) ≡ g (slice_index_or ys at y)) → sum_by f xs ≡ sum_by g ys
sum-alike f g [] [] long each = refl
sum-alike f g [] (y ∷ ys) long each = absurd (omega (arith, long))
sum-alike f g (x ∷ xs) [] long each = absurd (omega (arith, long))
sum-alike f g (x ∷ xs) (y ∷ ys) long each =
    let left = sum_by-cons f x xs in
    let right = sum_by-cons g y ys in
    let here : f x ≡ g y = each 0 x y (omega arith) in
    let rest = sum-alike f g xs ys (omega (arith, long)) (λ at x y within. each (suc at) x y (omega (arith, within))) in
    omega (arith, left, right, here, rest)

pub dealt-all : (net : ℕ) (regions : List (Vec ℕ Global)) (order : List ℕ) → 0 < length regions →
    ((hand : ℕ) (d : Vec ℕ Global) → hand < length regions → dealt (length regions) order hand ≡ map net_in (slice_index_or regions hand d).items) →
    times net order ≡ sum_by (λ r. times net (map net_in r.items)) regions
dealt-all net regions order some each =
    sym (deals-count (λ (n : ℕ). n == net) (length regions) order some)
    ∙ sum-alike (λ (l : List ℕ). times net l) (λ (r : Vec ℕ Global). times net (map net_in r.items)) (deals (length regions) order) regions
    (length-deals (length regions) order)
    (λ at l r within.
    ap (λ (m : List ℕ). times net m)
    (get_or-map-range_with_len (dealt (length regions) order) 0 (length regions) at at l within (omega arith) ∙ each at r within))

-- regions whose numbers have changed places hold the same nets
pub sum-sorted : (net : ℕ) (old new : List (Vec ℕ Global)) → length new ≡ length old →
    ((at : ℕ) (d : Vec ℕ Global) → at < length old → times net (map net_in (slice_index_or new at d).items) ≡ times net (map net_in (slice_index_or old at d).items)) →
    sum_by (λ r. times net (map net_in r.items)) new ≡ sum_by (λ r. times net (map net_in r.items)) old
sum-sorted net old new long each =
    sum-alike (λ (r : Vec ℕ Global). times net (map net_in r.items)) (λ (r : Vec ℕ Global). times net (map net_in r.items)) new old long
    (λ at x y within.
    let same : slice_index_or new at x ≡ slice_index_or new at y = any-default new at x y (omega (arith, within, long)) in
    ap (λ (r : Vec ℕ Global). times net (map net_in r.items)) same ∙ each at y within)
  where
    any-default : {X : Type 0} (xs : List X) (at : ℕ) (x y : X) → at < length xs → slice_index_or xs at x ≡ slice_index_or xs at y
    any-default [] at x y within = absurd (omega (arith, within))
    any-default (z ∷ zs) zero x y within = refl
    any-default (z ∷ zs) (suc at) x y within = any-default zs at x y (omega (arith, within))

-- each hand is dealt its region, in the order of turns
pub dealt-in-turn : (d : DesignView) (round workers : ℕ) (nets placed order : List ℕ) (cut sorted shown : List (Vec ℕ Global)) → 0 < workers →
    length cut ≡ workers → length sorted ≡ length cut →
    ((at : ℕ) (e : Vec ℕ Global) → at < length cut → IsSortOf (slice_index_or cut at e).items (slice_index_or sorted at e).items) → AreKeysOf d round cut →
    ((net : ℕ) → sum_by (λ r. times net (map net_in r.items)) cut ≡ times net (map net_in placed)) → map net_in placed ≡ nets → shown ≡ sorted →
    ((hand : ℕ) (e : Vec ℕ Global) → hand < length shown → dealt (length shown) order hand ≡ map net_in (slice_index_or shown hand e).items) →
    IsDealtInTurn d round workers nets order
dealt-in-turn d round workers nets placed order cut [] shown some cut_long long sorts keys sums placed_is shown_is each = absurd (omega (arith, some, cut_long, long))
dealt-in-turn d round workers nets placed order cut (r ∷ rest) shown some cut_long long sorts keys sums placed_is shown_is each = record {
  same = λ net.
      dealt-all net sorted order (omega arith) of_sorted
      ∙ sum-sorted net cut sorted long (λ at e within. times-moved net (slice_index_or cut at e).items (slice_index_or sorted at e).items (sorts at e within).moved)
      ∙ sums net ∙ ap (λ (l : List ℕ). times net l) placed_is;
  turns = λ hand below.
      let inside : hand < length cut = omega (arith, below, cut_long) in
      let within : hand < length sorted = omega (arith, inside, long) in
      let all : length sorted ≡ workers = omega (arith, cut_long, long) in
      let old = (slice_index_or cut hand r).items in
      let new = (slice_index_or sorted hand r).items in
      let sort = sorts hand r inside in
      subst (GoInTurn d round) (sym (of_sorted hand r within) ∙ ap (λ (n : ℕ). dealt n order hand) all)
      (in-turn d round new sort.sorted (All-permutation (IsKey d round) old new sort.moved (keys hand r inside)));
}
  where
    sorted : List (Vec ℕ Global)
    sorted = r ∷ rest

    of_sorted : (hand : ℕ) (e : Vec ℕ Global) → hand < length sorted → dealt (length sorted) order hand ≡ map net_in (slice_index_or sorted hand e).items
    of_sorted = subst (λ (l : List (Vec ℕ Global)). (hand : ℕ) (e : Vec ℕ Global) → hand < length l → dealt (length l) order hand ≡ map net_in (slice_index_or l hand e).items)
        shown_is each
