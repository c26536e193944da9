-- Walks between cells inside and outside of a set of cells have an edge that leads through.
use Rattle.std.proofs.Common.{◌≡◌, ℕ, ◌<◌, ◌&&◌, ◌||◌, not, inl, inr, Bool, true, false, List, [], ◌∷◌, All, IsTrue, refl, sym, ap, subst, ◌∙◌}
use Rattle.std.specs.List.{list_any}
use Rattle.std.proofs.lemmas.Bool.{cases_Bool, or_cases, and_parts, not-true, both_ways, false≢true}
use Rattle.std.proofs.lemmas.List.Elements.{All-head, All-tail}
use Rattle.gr_base.specs.declared.grid.Edge.{Edge}
use Rattle.gr_base.specs.declared.grid.Shape.{Shape}
use Rattle.gr_base.specs.EdgeSets.{Edges, Leads, IsJoined}
use Rattle.gr_base.specs.EdgeSets.Leads.{Stays, Goes_on}
use Rattle.gr_base.specs.Grid.{cells_of, high_of, has_edge, Joins}
use Rattle.route_evaluator.proofs.FloodLemmas.{joined, joins-inside}
use Rattle.wall_laws.specs.Walls.{differ, leads_through, is_parted}

-- each edge of the set is one of the grid's
abbrev pub AreInGrid : Shape → Edges → Type 0
AreInGrid g set = (e : Edge) → IsTrue (set e) → IsTrue (has_edge g e)

-- an edge of the set that leads through
pub record LeavesBy (g : Shape) (set : Edges) (inside : ℕ → Bool) (e : Edge) : Type 0 where
  pub among : IsTrue (set e)
  pub grid : IsTrue (has_edge g e)
  pub through : leads_through g inside e ≡ true

abbrev pub Leaves : Shape → Edges → (ℕ → Bool) → Type 0
Leaves g set inside = (e : Edge) × LeavesBy g set inside e

differ-same : (b : Bool) → differ b b ≡ true → ⊥
differ-same true is = false≢true is
differ-same false is = false≢true is

differ-swap : (a b : Bool) → differ a b ≡ differ b a
differ-swap true true = refl
differ-swap true false = refl
differ-swap false true = refl
differ-swap false false = refl

-- where two differ, one of them differs from a third
differ-before : (a b c : Bool) → differ a c ≡ true → differ b c ≡ false → differ a b ≡ true
differ-before true true true ac bc = ac
differ-before true true false ac bc = absurd (both_ways true bc refl)
differ-before true false c ac bc = refl
differ-before false true c ac bc = refl
differ-before false false true ac bc = absurd (both_ways true bc refl)
differ-before false false false ac bc = ac

pub differ-ends : (a b : Bool) → a ≡ true → b ≡ false → differ a b ≡ true
differ-ends a b in' out = rw (in', out) refl

joins-through : (g : Shape) (inside : ℕ → Bool) (e : Edge) (a b : ℕ) → Joins g e a b → differ (inside a) (inside b) ≡ true →
    leads_through g inside e ≡ true
joins-through g inside e a b joins is =
    elim joins.ends [
      | inl ends ↦ ap (λ (n : ℕ). differ (inside n) (inside (high_of g e))) ends.0 ∙ ap (λ (n : ℕ). differ (inside a) (inside n)) ends.1 ∙ is
      | inr ends ↦
          ap (λ (n : ℕ). differ (inside n) (inside (high_of g e))) ends.0 ∙ ap (λ (n : ℕ). differ (inside b) (inside n)) ends.1
          ∙ differ-swap (inside b) (inside a) ∙ is
    ]

-- the end of a walk from a cell is a cell, and a walk between cells that differ leads through
pub walk-inside : (g : Shape) (set : Edges) → AreInGrid g set → (a b : ℕ) → a < cells_of g → Leads g set a b → b < cells_of g
walk-inside g set within a _ a_in Stays = a_in
walk-inside g set within a c a_in (Goes_on {b = b} {e = e} walk edge among) =
    joins-inside g e b c (joined g b c e (walk-inside g set within a b a_in walk) edge (within e among))

pub walk-leaves : (g : Shape) (set : Edges) → AreInGrid g set → (inside : ℕ → Bool) → (a b : ℕ) → a < cells_of g → Leads g set a b →
    differ (inside a) (inside b) ≡ true → Leaves g set inside
walk-leaves g set within inside a _ a_in Stays is = absurd (differ-same (inside a) is)
walk-leaves g set within inside a c a_in (Goes_on {b = b} {e = e} walk edge among) is =
    elim (cases_Bool (differ (inside b) (inside c))) [
      | inl here ↦
          let joins = joined g b c e (walk-inside g set within a b a_in walk) edge (within e among) in
          (e, record { among = among; grid = within e among; through = joins-through g inside e b c joins here })
      | inr later ↦ walk-leaves g set within inside a b a_in walk (differ-before (inside a) (inside b) (inside c) is later)
    ]

-- one of the elements passes a test that some pass
pub any-passes : {X : Type 0} (P : X → Type 0) (p : X → Bool) (xs : List X) → All P xs → list_any p xs ≡ true → (x : X) × (P x × (p x ≡ true))
any-passes P p [] each is = absurd (false≢true is)
any-passes P p (x ∷ xs) each is =
    elim (or_cases (p x) (list_any p xs) is) [
      | inl here ↦ (x, (All-head P x xs each, here))
      | inr later ↦ any-passes P p xs (All-tail P x xs each) later
    ]

-- a set that joins cells of which some are inside and some outside has an edge that leads through
pub parted-leaves : (g : Shape) (set : Edges) → AreInGrid g set → (inside : ℕ → Bool) → (pins : List ℕ) → All (λ pin. pin < cells_of g) pins →
    IsJoined g set pins → is_parted inside pins ≡ true → Leaves g set inside
parted-leaves g set within inside [] pins_in joins parted = absurd (false≢true parted)
parted-leaves g set within inside (first ∷ pins) pins_in joins parted =
    let P : ℕ → Type 0 = λ cell. Leads g set first cell in
    let out : ℕ → Bool = λ cell. not (inside cell) in
    let first_in = All-head (λ pin. pin < cells_of g) first pins pins_in in
    let parts = and_parts (list_any inside (first ∷ pins)) (list_any out (first ∷ pins)) parted in
    let some = any-passes P inside (first ∷ pins) joins parts.0 in
    let other = any-passes P out (first ∷ pins) joins parts.1 in
    elim (cases_Bool (inside first)) [
      | inl starts ↦
          walk-leaves g set within inside first other.0 first_in other.1.0
          (differ-ends (inside first) (inside other.0) starts (not-true (inside other.0) other.1.1))
      | inr starts ↦
          walk-leaves g set within inside first some.0 first_in some.1.0
          (differ-swap (inside first) (inside some.0) ∙ differ-ends (inside some.0) (inside first) some.1.1 starts)
    ]
