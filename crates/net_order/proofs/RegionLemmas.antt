-- Nets that are cut into regions.
use Rattle.std.proofs.Common.{◌≡◌, ℕ, zero, suc, ◌+◌, ◌-◌, ◌*◌, ◌/◌, ◌%◌, ◌<◌, ◌≤◌, inl, inr, Bool, true, false, ◌==◌, cond, if◌then◌else◌, nat_lt, List, [], ◌∷◌, ◌++◌, All, length, map, take, get_or, slice_index_or, sum_by, IsPermutation, IsTrue, Vec, Global, refl, sym, ap, subst, ◌∙◌, arith}
use Rattle.std.proofs.lemmas.Bool.{cases_eq, cases_lt}
use Rattle.std.proofs.lemmas.Bool.Decides.{nat_tests}
use Rattle.std.proofs.lemmas.List.{length-append, length-map, nil_from_length, map-append, take_more, get_or-append-add}
use Rattle.std.proofs.lemmas.List.Sorted.{IsPermutation-map, sum_by-IsPermutation, length_permutation}
use Rattle.std.proofs.lemmas.List.Sums.{sum_by-append, sum_by-cons}
use Rattle.std.proofs.lemmas.Nat.{div-add-mod', mod_below}
use Rattle.std.proofs.Math.Nat.{suc-mul}
use Rattle.work_share.specs.Views.{times}
use Rattle.gr_base.specs.Designs.{DesignView, is_routed, AreRouted}
use Rattle.std.proofs.lemmas.List.Elements.{All-nil, All-cons, All-head, All-tail, All-push, All-same}
use Rattle.std.proofs.lemmas.Map.Views.{All-map-IsPermutation}
use Rattle.net_order.specs.Orders.{net_in, IsKey, AreKeysOf, size_of, IsSortOf, AreCutOf, ArePartsOf}

-- what holds of all of a list holds of its first part
pub all-first : {A : Type 0} (P : A → Type 0) (xs ys : List A) → All P (xs ++ ys) → All P xs
all-first P [] ys all = All-nil P
all-first P (x ∷ xs) ys all = All-cons P x xs (All-head P x (xs ++ ys) all) (all-first P xs ys (All-tail P x (xs ++ ys) all))

-- how many nets so many regions have from one on
unfoldable pub left_for : ℕ → ℕ → ℕ → ℕ → ℕ
left_for each more region zero = 0
left_for each more region (suc count) = size_of each more region + left_for each more (suc region) count

-- the first ones are one longer
size-is : (each more region : ℕ) → size_of each more region + (more - suc region) ≡ each + (more - region)
size-is each more region =
    elim (cases_lt region more) [
      | inl first ↦
          let test : nat_lt region more ≡ true = grind (arith, nat_tests) in
          let is : size_of each more region ≡ each + 1 = ap (λ (b : Bool). each + (if b then 1 else 0)) test in
          omega (arith, first, is)
      | inr later ↦
          let test : nat_lt region more ≡ false = grind (arith, nat_tests) in
          let is : size_of each more region ≡ each + 0 = ap (λ (b : Bool). each + (if b then 1 else 0)) test in
          omega (arith, later, is)
    ]

left-is : (each more region count : ℕ) → more ≤ region + count → left_for each more region count ≡ count * each + (more - region)
unfolding left_for
left-is each more region zero few = omega (arith, few)
left-is each more region (suc count) few =
    let rest = left-is each more (suc region) count (omega (arith, few)) in
    let size = size-is each more region in
    let product = suc-mul count each in
    omega (arith, rest, size, product)

-- all regions have all nets
pub left-all : (all count : ℕ) → 0 < count → all % count < count → all ≡ left_for (all / count) (all % count) 0 count
left-all all count some below =
    let whole = div-add-mod' all count in
    let is = left-is (all / count) (all % count) 0 count (omega (arith, below)) in
    let turned : count * (all / count) ≡ all / count * count = omega arith in
    omega (arith, whole, is, turned)

-- what is left before a region
pub left-next : (each more region count : ℕ) → region < count → left_for each more region (count - region) ≡ size_of each more region + left_for each more (suc region) (count - suc region)
unfolding left_for
left-next each more region count below =
    let is : count - region ≡ suc (count - suc region) = omega (arith, below) in
    ap (λ (n : ℕ). left_for each more region n) is

left-end : (each more region count : ℕ) → count ≡ 0 → left_for each more region count ≡ 0
unfolding left_for
left-end each more region count none = ap (λ (n : ℕ). left_for each more region n) none

-- a region more
get-new : (regions : List (Vec ℕ Global)) (r d : Vec ℕ Global) → slice_index_or (regions ++ r ∷ []) (length regions) d ≡ r
get-new [] r d = refl
get-new (q ∷ regions) r d = get-new regions r d

get-old : (regions : List (Vec ℕ Global)) (r d : Vec ℕ Global) (at : ℕ) → at < length regions → slice_index_or (regions ++ r ∷ []) at d ≡ slice_index_or regions at d
get-old [] r d at within = absurd (omega (arith, within))
get-old (q ∷ regions) r d zero within = refl
get-old (q ∷ regions) r d (suc at) within = get-old regions r d at (omega (arith, within))

length-push : (regions : List (Vec ℕ Global)) (r : Vec ℕ Global) → length (regions ++ r ∷ []) ≡ suc (length regions)
length-push [] r = refl
length-push (q ∷ regions) r = ap suc (length-push regions r)

cut-more : (each more : ℕ) (regions new : List (Vec ℕ Global)) (r : Vec ℕ Global) → AreCutOf each more regions → new ≡ regions ++ r ∷ [] →
    length r.items ≡ size_of each more (length regions) → AreCutOf each more new
cut-more each more regions new r cut is size =
    subst (AreCutOf each more) (sym is)
    (record {
      sizes = λ region d within.
          let long = length-push regions r in
          elim (cases_eq region (length regions)) [
            | inl last ↦
                ap (λ (n : ℕ). length (slice_index_or (regions ++ r ∷ []) n d).items) last ∙ ap (λ (q : Vec ℕ Global). length q.items) (get-new regions r d) ∙ size
                ∙ ap (λ (n : ℕ). size_of each more n) (sym last)
            | inr apart ↦
                let before : region < length regions = omega (arith, within, long, apart) in
                ap (λ (q : Vec ℕ Global). length q.items) (get-old regions r d region before) ∙ cut.sizes region d before
          ];
    })

-- regions have been cut from the greatest places on, and no net is lost
pub record IsCutting (count each more region : ℕ) (placed left : List ℕ) (regions : List (Vec ℕ Global)) : Type 0 where
  pub long : length regions ≡ region
  pub cut : AreCutOf each more regions
  pub left_long : length left ≡ left_for each more region (count - region)
  pub same : (net : ℕ) → sum_by (λ r. times net (map net_in r.items)) regions + times net (map net_in left) ≡ times net (map net_in placed)

cutting-first : (count : ℕ) (placed : List ℕ) (regions : List (Vec ℕ Global)) → 0 < count → regions ≡ [] →
    IsCutting count (length placed / count) (length placed % count) 0 placed placed regions
cutting-first count placed regions some none =
    let long = ap (λ (l : List (Vec ℕ Global)). length l) none in
    record {
      long = long;
      cut = record { sizes = λ region d within. absurd (omega (arith, within, long)) };
      left_long = left-all (length placed) count some (mod_below (length placed) count some)
          ∙ ap (λ (n : ℕ). left_for (length placed / count) (length placed % count) 0 n) (omega arith);
      same = λ net.
          let e = ap (λ (l : List (Vec ℕ Global)). sum_by (λ r. times net (map net_in r.items)) l) none in
          let z : sum_by (λ (r : Vec ℕ Global). times net (map net_in r.items)) [] ≡ 0 = refl in
          omega (arith, e, z);
    }

-- the next region's nets are left

pub cutting-none : (count n m : ℕ) (placed : List ℕ) (regions : List (Vec ℕ Global)) → 0 < count → n ≡ length placed → m ≡ length placed → regions ≡ [] →
    IsCutting count (n / count) (m % count) 0 placed placed regions
cutting-none count n m placed regions some n_is m_is none =
    subst (λ (k : ℕ). IsCutting count (k / count) (m % count) 0 placed placed regions) (sym n_is)
    (subst (λ (k : ℕ). IsCutting count (length placed / count) (k % count) 0 placed placed regions) (sym m_is) (cutting-first count placed regions some none))

pub cutting-enough : (count each more region : ℕ) (placed left : List ℕ) (regions : List (Vec ℕ Global)) → IsCutting count each more region placed left regions →
    region < count → size_of each more region ≤ length left
cutting-enough count each more region placed left regions so_far below =
    let before = so_far.left_long in
    let next = left-next each more region count below in
    omega (arith, before, next)

pub cutting-more : (count each more region : ℕ) (placed left others : List ℕ) (regions new : List (Vec ℕ Global)) (r : Vec ℕ Global) →
    IsCutting count each more region placed left regions → region < count → ArePartsOf (size_of each more region) left others r.items → new ≡ regions ++ r ∷ [] →
    IsCutting count each more (region + 1) placed others new
cutting-more count each more region placed left others regions new r so_far below parts is =
    let long = ap (λ (l : List (Vec ℕ Global)). length l) is ∙ length-push regions r in
    let before = so_far.long in
    let left_before = so_far.left_long in
    let next = left-next each more region count below in
    let one : suc region ≡ region + 1 = omega arith in
    let fewer = parts.others_long in
    record {
      long = omega (arith, long, before);
      cut = cut-more each more regions new r so_far.cut is (parts.apart_long ∙ ap (λ (n : ℕ). size_of each more n) (sym before));
      left_long =
          let there : length others ≡ left_for each more (suc region) (count - suc region) = omega (arith, fewer, left_before, next) in
          there ∙ ap (λ (n : ℕ). left_for each more n (count - n)) one;
      same = λ net.
          let old = so_far.same net in
          let split = parts.same net in
          let more_sum = ap (λ (l : List (Vec ℕ Global)). sum_by (λ q. times net (map net_in q.items)) l) is
          ∙ sum_by-append (λ (q : Vec ℕ Global). times net (map net_in q.items)) regions (r ∷ []) in
          let last = sum_by-cons (λ (q : Vec ℕ Global). times net (map net_in q.items)) r [] in
          let none : sum_by (λ (q : Vec ℕ Global). times net (map net_in q.items)) [] ≡ 0 = refl in
          omega (arith, old, split, more_sum, last, none);
    }

-- at the end all regions hold all nets
pub cutting-all : (count each more region : ℕ) (placed left : List ℕ) (regions : List (Vec ℕ Global)) → IsCutting count each more region placed left regions → region ≡ count →
    (length regions ≡ count) × ((net : ℕ) → sum_by (λ r. times net (map net_in r.items)) regions ≡ times net (map net_in placed))
cutting-all count each more region placed left regions so_far end =
    let before = so_far.left_long in
    let none : length left ≡ 0 = before ∙ left-end each more region (count - region) (omega (arith, end)) in (
      so_far.long ∙ end,
      λ net.
          let old = so_far.same net in
          let gone = ap (λ (l : List ℕ). times net (map net_in l)) (nil_from_length left none) in
          let zero_times : times net (map net_in []) ≡ 0 = refl in
          omega (arith, old, gone, zero_times),
    )

-- how often a net stands in two lists, one behind the other
times-both : (net : ℕ) (xs ys : List ℕ) → times net (map net_in (xs ++ ys)) ≡ times net (map net_in xs) + times net (map net_in ys)
times-both net xs ys =
    ap (λ (l : List ℕ). times net l) (map-append net_in xs ys) ∙ sum_by-append (λ (other : ℕ). cond {A = ℕ} (other == net) 1 0) (map net_in xs) (map net_in ys)

pub times-moved : (net : ℕ) (keys moved : List ℕ) → IsPermutation keys moved → times net (map net_in moved) ≡ times net (map net_in keys)
times-moved net keys moved order =
    sum_by-IsPermutation (λ (other : ℕ). cond {A = ℕ} (other == net) 1 0) (map net_in keys) (map net_in moved) (IsPermutation-map net_in keys moved order)

-- the greatest are put apart
pub parts-taken : (size kept : ℕ) (all held others apart front behind : List ℕ) (first : ℕ) → held ≡ all → IsPermutation held (front ++ first ∷ behind) → length front ≡ kept →
    kept + size ≡ length all → others ≡ front → map net_in apart ≡ map net_in (first ∷ behind) → ArePartsOf size all others apart
parts-taken size kept all held others apart front behind first held_is moves front_long whole others_is apart_is =
    let order : IsPermutation all (front ++ first ∷ behind) = subst (λ (l : List ℕ). IsPermutation l (front ++ first ∷ behind)) held_is moves in
    let long = length_permutation all (front ++ first ∷ behind) order in
    let sum = length-append front (first ∷ behind) in
    let others_long = ap (λ (l : List ℕ). length l) others_is in
    let apart_long : length apart ≡ length (first ∷ behind) = sym (length-map apart net_in) ∙ ap (λ (l : List ℕ). length l) apart_is ∙ length-map (first ∷ behind) net_in in
    record {
      others_long = omega (arith, others_long, front_long, whole);
      apart_long = omega (arith, apart_long, front_long, long, sum, whole);
      same = λ net.
          let moved = times-moved net all (front ++ first ∷ behind) order in
          let both = times-both net front (first ∷ behind) in
          let one = ap (λ (l : List ℕ). times net (map net_in l)) others_is in
          let other = ap (times net) apart_is in
          omega (arith, moved, both, one, other);
    }

pub parts-none : (size : ℕ) (all others apart : List ℕ) → size ≡ 0 → others ≡ all → apart ≡ [] → ArePartsOf size all others apart
parts-none size all others apart none others_is apart_is =
    let others_long = ap (λ (l : List ℕ). length l) others_is in
    let apart_long = ap (λ (l : List ℕ). length l) apart_is in
    record {
      others_long = omega (arith, others_long, none);
      apart_long = omega (arith, apart_long, none);
      same = λ net.
          let one = ap (λ (l : List ℕ). times net (map net_in l)) others_is in
          let other = ap (λ (l : List ℕ). times net (map net_in l)) apart_is in
          omega (arith, one, other);
    }

-- each number of a region is a key
pub no-keys : (d : DesignView) (round : ℕ) (regions : List (Vec ℕ Global)) → regions ≡ [] → AreKeysOf d round regions
no-keys d round regions none = subst (AreKeysOf d round) (sym none) (All-nil (λ (r : Vec ℕ Global). All (IsKey d round) r.items))

pub more-keys : (d : DesignView) (round : ℕ) (regions new : List (Vec ℕ Global)) (r : Vec ℕ Global) → AreKeysOf d round regions → All (IsKey d round) r.items →
    new ≡ regions ++ r ∷ [] → AreKeysOf d round new
more-keys d round regions new r old last is = subst (AreKeysOf d round) (sym is) (All-push (λ (q : Vec ℕ Global). All (IsKey d round) q.items) regions r old last)

-- what holds of two lists, one behind the other, holds of the last
last-part : (P : ℕ → Type 0) (xs ys : List ℕ) → All P (xs ++ ys) → All P ys
last-part P xs ys all at d within =
    let long = length-append xs ys in
    subst P (get_or-append-add xs ys at d) (all (length xs + at) d (omega (arith, long, within)))

-- the parts of routed nets are routed
pub routed-parts : (d : DesignView) (all held front behind : List ℕ) (first : ℕ) → held ≡ all → IsPermutation held (front ++ first ∷ behind) → AreRouted d (map net_in all) →
    AreRouted d (map net_in front) × AreRouted d (map net_in (first ∷ behind))
routed-parts d all held front behind first held_is moves routed =
    let P : ℕ → Type 0 = λ net. IsTrue (is_routed d net) in
    let moved = All-map-IsPermutation net_in P held (front ++ first ∷ behind) moves (subst (λ (l : List ℕ). AreRouted d (map net_in l)) (sym held_is) routed) in
    let parted = All-same P (map net_in front ++ map net_in (first ∷ behind)) (map net_in (front ++ first ∷ behind)) (sym (map-append net_in front (first ∷ behind))) moved in
    (all-first P (map net_in front) (map net_in (first ∷ behind)) parted, last-part P (map net_in front) (map net_in (first ∷ behind)) parted)

pub routed-behind : (d : DesignView) (first at e : ℕ) (others : List ℕ) → AreRouted d (map net_in (first ∷ others)) → at < length others →
    IsTrue (is_routed d (net_in (get_or others at e)))
routed-behind d first at e others routed within =
    let long = length-map others net_in in
    subst (λ (net : ℕ). IsTrue (is_routed d net)) (net-at others at within) (routed (suc at) 0 (omega (arith, long, within)))
  where
    net-at : (keys : List ℕ) (k : ℕ) → k < length keys → get_or (map net_in keys) k 0 ≡ net_in (get_or keys k e)
    net-at [] k inside = absurd (omega (arith, inside))
    net-at (x ∷ keys) zero inside = refl
    net-at (x ∷ keys) (suc k) inside = net-at keys k (omega (arith, inside))

-- regions whose numbers have changed places keep their sizes
pub sorted-cut : (each more : ℕ) (old new : List (Vec ℕ Global)) → AreCutOf each more old → length new ≡ length old →
    ((at : ℕ) (d : Vec ℕ Global) → at < length old → IsSortOf (slice_index_or old at d).items (slice_index_or new at d).items) → AreCutOf each more new
sorted-cut each more old new cut long sorts = record {
  sizes = λ region d within.
      let inside : region < length old = omega (arith, within, long) in
      length_permutation (slice_index_or old region d).items (slice_index_or new region d).items (sorts region d inside).moved ∙ cut.sizes region d inside;
}

-- a net more behind the number of its turn
pub behind-more : (first at e key : ℕ) (others keys new : List ℕ) → map net_in keys ≡ map net_in (first ∷ take at others) → new ≡ keys ++ key ∷ [] →
    net_in key ≡ net_in (get_or others at e) → at < length others → map net_in new ≡ map net_in (first ∷ take (at + 1) others)
behind-more first at e key others keys new so_far is net within =
    ap (map net_in) is ∙ map-append net_in keys (key ∷ []) ∙ ap (λ (l : List ℕ). l ++ net_in key ∷ []) so_far
    ∙ ap (λ (n : ℕ). map net_in (first ∷ take at others) ++ n ∷ []) net
    ∙ sym (map-append net_in (first ∷ take at others) (get_or others at e ∷ []))
    ∙ ap (λ (l : List ℕ). map net_in (first ∷ l)) (sym (take_more others at e within))

pub keys-more : (d : DesignView) (round key : ℕ) (keys new : List ℕ) → All (IsKey d round) keys → IsKey d round key → new ≡ keys ++ key ∷ [] → All (IsKey d round) new
keys-more d round key keys new old last is = subst (All (IsKey d round)) (sym is) (All-push (IsKey d round) keys key old last)
