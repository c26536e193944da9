-- How many candidates there are at a node.
use Rattle.std.proofs.Common.{◌≡◌, ◌≢◌, ℕ, zero, suc, ◌+◌, ◌-◌, ◌*◌, ◌<◌, ◌≤◌, inl, inr, Bool, true, false, List, [], ◌∷◌, ◌++◌, length, map, flat_map, filter_map, sum_by, Option, Some, None, if◌then◌else◌, refl, sym, ap, subst, ◌∙◌, arith}
use Rattle.std.specs.List.{range_with_len, cons_option}
use Rattle.std.proofs.lemmas.Bool.{cases_eq, cases_Bool, cond-true, cond-false}
use Rattle.std.proofs.lemmas.List.{length-append, length-map}
use Rattle.std.proofs.lemmas.List.FromFn.{length-range_with_len}
use Rattle.std.proofs.lemmas.List.Sums.{sum_by-cons}
use Rattle.elmore_delay.specs.BelowNodes.{lies_below, is_within, nodes_below}
use Rattle.elmore_delay.specs.FromLeaves.{sinks_seen}
use Rattle.elmore_delay.specs.Loadings.{LoadingView, IsLoading, rc_of}
use Rattle.elmore_delay.specs.RcTrees.{IsRcTree}
use Rattle.elmore_delay.proofs.BelowLemmas.{within-more, within-itself, within-below}
use Rattle.elmore_delay.proofs.RcLemmas.{rc-tree}
use Rattle.elmore_delay.proofs.Ranges.{sums, only, sums-same, sums-none, sum-passing}
use Rattle.rc_library.specs.Libraries.{LibraryView}
use Rattle.ginneken_lists.specs.Candidates.{Candidate, Nothing, along_edge, joined_with, all_joined, with_kind, offers, with_offers}
use Rattle.ginneken_lists.specs.Thinning.{AreRising}
use Rattle.ginneken_lists.proofs.Serving.{pairs-one}
use Rattle.ginneken_lists.proofs.Thinned.{Before, thinned-rising}
use Rattle.ginneken_lists.proofs.FewKept.{length-thinned, length-joined}
use Rattle.buffer_plan.specs.Picked.{Sites, sites_of, all_above, all_hanging, candidates_of_last, candidates_at}
use Rattle.buffer_plan.proofs.Complete.{complete}
use Rattle.buffer_plan.proofs.HungLemmas.{candidates-hung, candidates-other}

joined-rising : (left right : List Candidate) → AreRising (all_joined left right)
joined-rising left right = thinned-rising (flat_map (λ o. map (joined_with o) right) left)

-- the lists of nodes rise
rising-of_last : (n k v : ℕ) (s : Sites) → k + n ≡ s.tree.nodes → AreRising (candidates_of_last n s v)
rising-of_last zero k v s at = pairs-one Before (record { seen = sinks_seen s.tree v; chosen = Nothing })
rising-of_last (suc n) k v s at = elim (cases_eq v (s.tree.parent k)) [
  | inl same ↦ subst AreRising (sym (candidates-hung n k v s at same))
      (joined-rising (candidates_of_last n s v) (all_hanging s k (candidates_of_last n s k)))
  | inr other ↦ subst AreRising (sym (candidates-other n k v s at other)) (rising-of_last n (suc k) v s (omega arith))
]

pub rising-at : (l : LoadingView) (v : ℕ) → v < length l.tree.nodes → AreRising (candidates_at l v)
rising-at l v inside = rising-of_last (length l.tree.nodes - suc v) (suc v) v (sites_of l) (omega arith)

-- and have a candidate
some-of_last : (n k v : ℕ) (s : Sites) → k + n ≡ s.tree.nodes → 0 < length (candidates_of_last n s v)
some-of_last n k v s at =
    let served = complete n k v s (λ node. None) at (λ node. tt) in
    let below = served.among.1 in
    omega arith

-- at most one offer for each kind
length-cons_option : {B : Type 0} (o : Option B) (ys : List B) (n : ℕ) → length ys ≤ n → length (cons_option o ys) ≤ suc n
length-cons_option None ys n few = omega arith
length-cons_option (Some y) ys n few = omega arith

pub length-filter_map : {A B : Type 0} (h : A → Option B) (xs : List A) → length (filter_map h xs) ≤ length xs
length-filter_map h [] = omega arith
length-filter_map h (x ∷ xs) = length-cons_option (h x) (filter_map h xs) (length xs) (length-filter_map h xs)

offers-few : (lib : LibraryView) (node : ℕ) (all : List Candidate) → length (with_offers lib node all) ≤ length all + length lib.kinds
offers-few lib node all =
    let kept = length-thinned (all ++ offers lib node all) in
    let both = length-append all (offers lib node all) in
    let each = length-filter_map (with_kind lib node all) (range_with_len 0 (length lib.kinds)) in
    let kinds = length-range_with_len 0 (length lib.kinds) in
    omega arith

pub above-few : (s : Sites) (node : ℕ) (all : List Candidate) → length (all_above s node all) ≤ length all + length s.library.kinds
above-few s node all = by (s.free node)
  where
    by : (free : Bool) → length (if free then with_offers s.library node all else all) ≤ length all + length s.library.kinds
    by true = offers-few s.library node all
    by false = omega arith

pub hanging-few : (s : Sites) (node : ℕ) (all : List Candidate) → length (all_hanging s node all) ≤ length all + length s.library.kinds
hanging-few s node all =
    let wire = s.tree.wire node in
    let kept = length-thinned (map (along_edge wire) (all_above s node all)) in
    let same = length-map (all_above s node all) (along_edge wire) in
    let above = above-few s node all in
    omega arith

pub hanging-rising : (s : Sites) (node : ℕ) (all : List Candidate) → AreRising (all_hanging s node all)
hanging-rising s node all = thinned-rising (map (along_edge (s.tree.wire node)) (all_above s node all))

-- how many candidates a node has beyond one, where so many last nodes are hung
abbrev more : ℕ → Sites → ℕ → ℕ
more n s v = length (candidates_of_last n s v) - 1

more-hung : (n k : ℕ) (s : Sites) → k + suc n ≡ s.tree.nodes → more (suc n) s (s.tree.parent k) ≤ more n s (s.tree.parent k) + (more n s k + length s.library.kinds)
more-hung n k s at =
    let q = s.tree.parent k in
    let own = some-of_last n (suc k) q s (omega arith) in
    let below = some-of_last n (suc k) k s (omega arith) in
    let hung = hanging-few s k (candidates_of_last n s k) in
    let joined = length-joined (candidates_of_last n s q) (all_hanging s k (candidates_of_last n s k))
    (rising-of_last n (suc k) q s (omega arith)) (hanging-rising s k (candidates_of_last n s k)) own in
    let same = ap (λ (os : List Candidate). length os) (candidates-hung n k q s at refl) in
    omega arith

-- a sum of which one term is greater by at most x
sums-most : (f h : ℕ → ℕ) (x n p : ℕ) → p < n → h p ≤ f p + x → ((u : ℕ) → u < n → u ≢ p → h u ≡ f u) → sums h n ≤ sums f n + x
sums-most f h x zero p below here each = absurd (omega arith)
sums-most f h x (suc n) p below here each = elim (cases_eq p n) [
  | inl same ↦
      let rest = sums-same f h n (λ u lt. each u (omega arith) (λ e. omega arith)) in
      let at : f p ≡ f n = ap f same in
      let to : h p ≡ h n = ap h same in
      omega (arith, rest, at, to, here)
  | inr other ↦
      let rest = sums-most f h x n p (omega arith) here (λ u lt apart. each u (omega arith) apart) in
      let last = each n (omega arith) (λ e. other (sym e)) in
      omega (arith, rest, last)
]

abbrev one : ℕ → ℕ
one node = 1

-- counts of candidates beyond one each, where so many last nodes are hung: none at first, and at a node that is hung its
-- parent's grows by its own and by the kinds
pub record IsCount (s : Sites) (count : ℕ → ℕ → ℕ) : Type 0 where
  pub start : (v : ℕ) → count 0 v ≡ 0
  pub hung : (n k : ℕ) → k + suc n ≡ s.tree.nodes →
      count (suc n) (s.tree.parent k) ≤ count n (s.tree.parent k) + (count n k + length s.library.kinds)
  pub other : (n k v : ℕ) → k + suc n ≡ s.tree.nodes → v ≢ s.tree.parent k → count (suc n) v ≡ count n v

-- the candidates at v and at the nodes below it that aren't hung yet, beyond one each, are as many as the kinds times the hung ones allow
few-within : (n k v : ℕ) (s : Sites) (more : ℕ → ℕ → ℕ) → IsCount s more → IsRcTree s.tree → v < k → k + n ≡ s.tree.nodes →
    sums (only (is_within s.tree v) (more n)) k + length s.library.kinds * sums (only (lies_below s.tree v) one) k
    ≤ length s.library.kinds * sums (only (lies_below s.tree v) one) s.tree.nodes
few-within zero k v s more is tree later at =
    let none : sums (only (is_within s.tree v) (more zero)) k ≡ 0 =
    sums-none (only (is_within s.tree v) (more zero)) k (λ u lt. nothing (is_within s.tree v u) (more zero u) (is.start u)) in
    let same = ap (λ (m : ℕ). length s.library.kinds * sums (only (lies_below s.tree v) one) m) (let e : k ≡ s.tree.nodes = omega arith in e) in
    omega (arith, none, same)
  where
    nothing : (p : Bool) (n : ℕ) → n ≡ 0 → (if p then n else 0) ≡ 0
    nothing true n none = none
    nothing false n none = refl
few-within (suc n) k v s more is tree later at =
    let q = s.tree.parent k in
    let kinds : ℕ = length s.library.kinds in
    let f : ℕ → ℕ = only (is_within s.tree v) (more n) in
    let h : ℕ → ℕ = only (is_within s.tree v) (more (suc n)) in
    let count : ℕ → ℕ = only (lies_below s.tree v) one in
    let earlier = tree.earlier k (omega arith) (omega arith) in
    let rest = few-within n (suc k) v s more is tree (omega arith) (omega arith) in
    let others : (u : ℕ) → u < k → u ≢ q → h u ≡ f u = λ u lt other.
    ap (λ (m : ℕ). if is_within s.tree v u then m else 0) (is.other n k u at other) in
    elim (cases_Bool (is_within s.tree v k)) [
      | inl within ↦
          let upper : is_within s.tree v q ≡ true = sym (within-more s.tree v k tree later (omega arith)) ∙ within in
          let under : lies_below s.tree v k ≡ true = sym (within-below s.tree v k later) ∙ within in
          let grows = is.hung n k at in
          let first : f k ≡ more n k = cond-true (is_within s.tree v k) (more n k) 0 within in
          let second : f q ≡ more n q = cond-true (is_within s.tree v q) (more n q) 0 upper in
          let third : h q ≡ more (suc n) q = cond-true (is_within s.tree v q) (more (suc n) q) 0 upper in
          let fourth : count k ≡ 1 = cond-true (lies_below s.tree v k) 1 0 under in
          let most = sums-most f h (more n k + kinds) k q earlier (omega (arith, grows, second, third)) others in
          let product : kinds * (sums count k + 1) ≡ kinds * sums count k + kinds = omega arith in
          let next : kinds * sums count (suc k) ≡ kinds * (sums count k + 1) = ap (λ (m : ℕ). kinds * (sums count k + m)) fourth in
          omega (arith, rest, most, first, product, next)
      | inr apart ↦
          let upper : is_within s.tree v q ≡ false = sym (within-more s.tree v k tree later (omega arith)) ∙ apart in
          let under : lies_below s.tree v k ≡ false = sym (within-below s.tree v k later) ∙ apart in
          let first : f k ≡ 0 = cond-false (is_within s.tree v k) (more n k) 0 apart in
          let third : h q ≡ 0 = cond-false (is_within s.tree v q) (more (suc n) q) 0 upper in
          let fourth : count k ≡ 0 = cond-false (lies_below s.tree v k) 1 0 under in
          let most = sums-most f h 0 k q earlier (omega (arith, third)) others in
          let next : kinds * sums count (suc k) ≡ kinds * (sums count k + 0) = ap (λ (m : ℕ). kinds * (sums count k + m)) fourth in
          let same : kinds * (sums count k + 0) ≡ kinds * sums count k = omega arith in
          omega (arith, rest, most, first, next, same)
    ]

length-sum : (xs : List ℕ) → sum_by one xs ≡ length xs
length-sum [] = refl
length-sum (x ∷ xs) = let rest = length-sum xs in let first = sum_by-cons one x xs in omega (arith, rest, first)

-- so at a node there are at most as many as the kinds times the nodes below it, and one
pub few-counted : (l : LoadingView) (v : ℕ) (more : ℕ → ℕ → ℕ) → IsCount (sites_of l) more → IsLoading l → v < length l.tree.nodes →
    more (length l.tree.nodes - suc v) v ≤ length l.library.kinds * length (nodes_below (rc_of l) v)
few-counted l v more is loading inside =
    let s = sites_of l in
    let n : ℕ = length l.tree.nodes - suc v in
    let kinds : ℕ = length l.library.kinds in
    let few = few-within n (suc v) v s more is (rc-tree l loading) (omega arith) (omega arith) in
    let own : only (is_within s.tree v) (more n) v ≡ more n v = cond-true (is_within s.tree v v) (more n v) 0 (within-itself s.tree v) in
    let nodes : sums (only (lies_below s.tree v) one) s.tree.nodes ≡ length (nodes_below s.tree v) =
    sym (sum-passing (lies_below s.tree v) one s.tree.nodes) ∙ length-sum (nodes_below s.tree v) in
    let product = ap (λ (m : ℕ). kinds * m) nodes in
    omega (arith, few, own, product)

few-more : (s : Sites) → IsCount s (λ n v. more n s v)
few-more s = record {
  start = λ v. omega arith;
  hung = λ n k at. more-hung n k s at;
  other = λ n k v at apart. ap (λ (os : List Candidate). length os - 1) (candidates-other n k v s at apart);
}

pub few-at : (l : LoadingView) (v : ℕ) → IsLoading l → v < length l.tree.nodes →
    length (candidates_at l v) ≤ 1 + length l.library.kinds * length (nodes_below (rc_of l) v)
few-at l v loading inside =
    let few = few-counted l v (λ n u. more n (sites_of l) u) (few-more (sites_of l)) loading inside in
    omega (arith, few)
