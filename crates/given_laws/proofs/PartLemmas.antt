-- What parts of sets of edges take is at most what the sets take.
use Rattle.std.proofs.Common.{◌≡◌, ℕ, ◌+◌, ◌≤◌, max, inl, inr, Bool, true, false, cond, List, [], ◌∷◌, map, filter, fold, length, count_by, sum_by, if◌then◌else◌, IsTrue, refl, ap, ◌∙◌, arith}
use Rattle.std.proofs.Math.Nat.{mul-le-mul_left}
use Rattle.std.proofs.lemmas.Bool.{cases_Bool, false≢true}
use Rattle.std.proofs.lemmas.List.Sums.{sum_by-cons, sum_by-le-sum_by}
use Rattle.std.specs.List.{range_with_len}
use Rattle.gr_base.proofs.General.{filter-yes, filter-no}
use Rattle.gr_base.specs.Capacities.{need, capacity}
use Rattle.gr_base.specs.Designs.{DesignView, is_routed}
use Rattle.gr_base.specs.EdgeSets.{Edges}
use Rattle.gr_base.specs.Sums.{demand, overflow, sum_routed, total_over, most_over, vias, wirelength, via_edges, wire_edges}
use Rattle.gr_base.specs.declared.grid.Edge.{Edge}

-- each routed net's set is a part of its other set
abbrev pub ArePartsOf : DesignView → (parts sets : ℕ → Edges) → Type 0
ArePartsOf d parts sets = (net : ℕ) → IsTrue (is_routed d net) → (e : Edge) → IsTrue (parts net e) → IsTrue (sets net e)

-- a sum over what a test keeps, of terms that are no greater there
sum-most : (p : ℕ → Bool) (f h : ℕ → ℕ) (xs : List ℕ) → ((x : ℕ) → p x ≡ true → f x ≤ h x) → sum_by f (filter p xs) ≤ sum_by h (filter p xs)
sum-most p f h [] each = omega arith
sum-most p f h (x ∷ xs) each =
    let rest = sum-most p f h xs each in
    elim (cases_Bool (p x)) [
      | inl on ↦
          let first = each x on in
          let one : sum_by f (filter p (x ∷ xs)) ≡ f x + sum_by f (filter p xs) = ap (sum_by f) (filter-yes p x xs on) ∙ sum_by-cons f x (filter p xs) in
          let other : sum_by h (filter p (x ∷ xs)) ≡ h x + sum_by h (filter p xs) = ap (sum_by h) (filter-yes p x xs on) ∙ sum_by-cons h x (filter p xs) in
          omega (arith, rest, first, one, other)
      | inr off ↦
          let one : sum_by f (filter p (x ∷ xs)) ≡ sum_by f (filter p xs) = ap (sum_by f) (filter-no p x xs off) in
          let other : sum_by h (filter p (x ∷ xs)) ≡ sum_by h (filter p xs) = ap (sum_by h) (filter-no p x xs off) in
          omega (arith, rest, one, other)
    ]

if-most : (a b : Bool) (n : ℕ) → (a ≡ true → b ≡ true) → (if a then n else 0) ≤ (if b then n else 0)
if-most true true n more = omega arith
if-most true false n more = absurd (false≢true (more refl))
if-most false b n more = omega arith

count-most : (p q : Edge → Bool) (xs : List Edge) → ((x : Edge) → p x ≡ true → q x ≡ true) → count_by p xs ≤ count_by q xs
count-most p q xs more = sum_by-le-sum_by (λ x. cond (p x) 1 0) (λ x. cond (q x) 1 0) xs (λ x. if-most (p x) (q x) 1 (more x))

greatest-most : (f h : Edge → ℕ) (a b : ℕ) (xs : List Edge) → a ≤ b → ((x : Edge) → f x ≤ h x) → fold max a (map f xs) ≤ fold max b (map h xs)
greatest-most f h a b [] low each = low
greatest-most f h a b (x ∷ xs) low each = greatest-most f h (max a (f x)) (max b (h x)) xs (let one = each x in omega (arith, low, one)) each

module _ (d : DesignView) (parts sets : ℕ → Edges) (are : ArePartsOf d parts sets) where
  demand-most : (e : Edge) → demand d parts e ≤ demand d sets e
  demand-most e =
      sum-most (is_routed d) (λ net. if parts net e then need d net e else 0) (λ net. if sets net e then need d net e else 0) (range_with_len 0 (length d.nets))
      (λ net routed. if-most (parts net e) (sets net e) (need d net e) (are net routed e))

  over-most : (e : Edge) → overflow (demand d parts) (capacity d) e ≤ overflow (demand d sets) (capacity d) e
  over-most e = let most = demand-most e in omega (arith, most)

  pub total-most : total_over d parts ≤ total_over d sets
  total-most =
      sum_by-le-sum_by (overflow (demand d parts) (capacity d)) (overflow (demand d sets) (capacity d)) (wire_edges d.frame.shape) over-most

  pub max-most : most_over d parts ≤ most_over d sets
  max-most =
      greatest-most (overflow (demand d parts) (capacity d)) (overflow (demand d sets) (capacity d)) 0 0 (wire_edges d.frame.shape) (omega arith) over-most

  counted-most : (edges : List Edge) → sum_routed d (λ net. count_by (parts net) edges) ≤ sum_routed d (λ net. count_by (sets net) edges)
  counted-most edges =
      sum-most (is_routed d) (λ net. count_by (parts net) edges) (λ net. count_by (sets net) edges) (range_with_len 0 (length d.nets))
      (λ net routed. count-most (parts net) (sets net) edges (are net routed))

  pub vias-most : vias d parts ≤ vias d sets
  vias-most = counted-most (via_edges d.frame.shape)

  pub length-most : (via_cost : ℕ) → wirelength d via_cost parts ≤ wirelength d via_cost sets
  length-most via_cost =
      let wires = counted-most (wire_edges d.frame.shape) in
      let ups = mul-le-mul_left via_cost vias-most in
      omega (arith, wires, ups)
