-- Sums over all edges of a grid.
use Rattle.std.proofs.Common.{◌≡◌, ℕ, ◌+◌, ◌-◌, ◌≤◌, inl, inr, Bool, true, false, List, ◌++◌, All, slice_index_or, sum_by, if◌then◌else◌, IsTrue, refl, sym, ap, subst, ◌∙◌, arith}
use Rattle.std.proofs.lemmas.Bool.{cases_Bool, both_ways}
use Rattle.std.proofs.lemmas.List.Sums.{sum_by-append}
use Rattle.gr_base.specs.EdgeSets.{Edges}
use Rattle.gr_base.specs.Grid.{has_edge, is_wire, is_wire_way}
use Rattle.gr_base.specs.Sums.{wire_edges, via_edges}
use Rattle.gr_base.specs.declared.grid.Edge.{Edge}
use Rattle.gr_base.specs.declared.grid.Shape.{Shape}
use Rattle.gr_base.specs.declared.grid.Way.{Way}
use Rattle.gr_base.specs.declared.grid.Way.TheVariants.{East, North, Up}
use Rattle.price_laws.specs.Prices.{all_edges, sum_of}
use Rattle.wall_laws.proofs.GridLists.{wire-part, via-part}
use Rattle.wall_laws.proofs.SumLemmas.{sum-plus, sum-le}

way-up : (way : Way) → is_wire_way way ≡ false → way ≡ Up
way-up East is = absurd (both_ways true is refl)
way-up North is = absurd (both_ways true is refl)
way-up Up is = refl

-- what an edge of the grid adds to a sum over them all
pub edge-part : (g : Shape) (f : Edge → ℕ) (e : Edge) → IsTrue (has_edge g e) → f e ≤ sum_by f (all_edges g)
edge-part g f e edge =
    let whole = sum_by-append f (wire_edges g) (via_edges g) in
    elim (cases_Bool (is_wire e)) [
      | inl wire ↦ let part = wire-part g f e edge wire in omega (arith, whole, part)
      | inr via ↦ let part = via-part g f e edge (way-up e.way via) in omega (arith, whole, part)
    ]

-- a sum that is at most another at each edge, and less by a number at one edge of the grid, is less by that number
pub sum-more : (g : Shape) (f h : Edge → ℕ) (e : Edge) (v : ℕ) → IsTrue (has_edge g e) → ((x : Edge) → f x ≤ h x) → f e + v ≤ h e →
    sum_by f (all_edges g) + v ≤ sum_by h (all_edges g)
sum-more g f h e v edge each here =
    let edges : List Edge = all_edges g in
    let rest : Edge → ℕ = λ x. h x - f x in
    let part : rest e ≤ sum_by rest edges = edge-part g rest e edge in
    let both = sum-plus f rest edges in
    let le = sum-le (λ x. f x + rest x) h edges (λ k d below. let one = each (slice_index_or edges k d) in omega (arith, one)) in
    omega (arith, part, both, le, here)

-- a sum over a set is at most another where it is so at each edge of the set
pub set-le : (g : Shape) (set : Edges) (f h : Edge → ℕ) → ((e : Edge) → IsTrue (set e) → f e ≤ h e) → sum_of g set f ≤ sum_of g set h
set-le g set f h each =
    let edges : List Edge = all_edges g in
    sum-le (λ e. if set e then f e else 0) (λ e. if set e then h e else 0) edges
    (λ k d below. at (slice_index_or edges k d) (set (slice_index_or edges k d)) refl)
  where
    at : (e : Edge) (b : Bool) → set e ≡ b → (if b then f e else 0) ≤ (if b then h e else 0)
    at e true is = each e is
    at e false is = omega arith

-- the sum over a set of what two numbers come to
pub set-plus : (g : Shape) (set : Edges) (f h : Edge → ℕ) → sum_of g set (λ e. f e + h e) ≡ sum_of g set f + sum_of g set h
set-plus g set f h =
    let edges : List Edge = all_edges g in
    let a : Edge → ℕ = λ e. if set e then f e else 0 in
    let b : Edge → ℕ = λ e. if set e then h e else 0 in
    let c : Edge → ℕ = λ e. if set e then f e + h e else 0 in
    let both = sum-plus a b edges in
    let up = sum-le c (λ e. a e + b e) edges (λ k d below. at (slice_index_or edges k d) (set (slice_index_or edges k d))) in
    let down = sum-le (λ e. a e + b e) c edges (λ k d below. back (slice_index_or edges k d) (set (slice_index_or edges k d))) in
    omega (arith, both, up, down)
  where
    at : (e : Edge) (b : Bool) → (if b then f e + h e else 0) ≤ (if b then f e else 0) + (if b then h e else 0)
    at e true = omega arith
    at e false = omega arith

    back : (e : Edge) (b : Bool) → (if b then f e else 0) + (if b then h e else 0) ≤ (if b then f e + h e else 0)
    back e true = omega arith
    back e false = omega arith
