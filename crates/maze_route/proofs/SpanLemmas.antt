-- The least box that holds some cells of a window.
use Rattle.std.proofs.Common.{◌≡◌, ℕ, ◌+◌, ◌-◌, ◌<◌, ◌≤◌, inl, inr, min, max, List, [], ◌∷◌, ◌++◌, take, length, get_or, IsTrue, sym, ap, subst, ◌∙◌, arith}
use Rattle.std.proofs.lemmas.List.{take_more}
use Rattle.gr_base.specs.declared.grid.Cell.{Cell}
use Rattle.gr_base.specs.Grid.{place_at}
use Rattle.gr_base.specs.Trees.{is_among}
use Rattle.maze_route.specs.Positions.{at, outside}
use Rattle.maze_route.specs.Spans.{with_end, beside_span, outside_by, IsNear}
use Rattle.maze_route.specs.declared.pane.Pane.{Pane}
use Rattle.maze_route.specs.declared.scales.Scales.{Scales}
use Rattle.maze_route.specs.declared.span.Span.{Span}
use Rattle.maze_route.proofs.EndLemmas.{among-cases}

outside-wider : (from to a x : ℕ) → outside (min from a) (max to a) x ≤ outside from to x
outside-wider from to a x =
    let one : min from a - x ≤ from - x = omega arith in
    let two : x - max to a ≤ x - to = omega arith in
    omega (arith, one, two)

outside-own : (from to a : ℕ) → outside (min from a) (max to a) a ≡ 0
outside-own from to a =
    let one : min from a - a ≡ 0 = omega arith in
    let two : a - max to a ≡ 0 = omega arith in
    omega (arith, one, two)

span-wider : (span : Span) (column row layer x y z : ℕ) → beside_span span x y z ≡ 0 → beside_span (with_end span column row layer) x y z ≡ 0
span-wider span column row layer x y z none =
    let columns = outside-wider span.left span.right column x in
    let rows = outside-wider span.low span.high row y in
    let layers : z - max span.top layer ≤ z - span.top = omega arith in
    omega (arith, none, columns, rows, layers)

span-own : (span : Span) (column row layer : ℕ) → beside_span (with_end span column row layer) column row layer ≡ 0
span-own span column row layer =
    let columns = outside-own span.left span.right column in
    let rows = outside-own span.low span.high row in
    let layers : layer - max span.top layer ≡ 0 = omega arith in
    omega (arith, columns, rows, layers)

pub near-turn : (span next : Span) (column row layer : ℕ) → next ≡ with_end span column row layer → IsNear span → IsNear next
near-turn span next column row layer is near =
    subst (λ (t : Span). IsNear t) (sym is) (record { left = omega (arith, near.left); low = omega (arith, near.low) })

-- one more cell
pub span-turn : (s : Scales) (p : Pane) (span next : Span) (ends : List ℕ) (index end d column row : ℕ) (place : Cell) → index < length ends → end ≡ get_or ends index d →
    place ≡ place_at p.shape end → column ≡ at s.columns.items place.x → row ≡ at s.rows.items place.y → next ≡ with_end span column row place.layer →
    ((n : ℕ) → IsTrue (is_among (take index ends) n) → outside_by s p span n ≡ 0) →
    (n : ℕ) → IsTrue (is_among (take (index + 1) ends) n) → outside_by s p next n ≡ 0
span-turn s p span next ends index end d column row place below is place_is column_is row_is next_is so_far n among =
    let push : take (index + 1) ends ≡ take index ends ++ end ∷ [] = take_more ends index d below ∙ ap (λ (c : ℕ). take index ends ++ c ∷ []) (sym is) in
    let P : Span → Type 0 = λ t. outside_by s p t n ≡ 0 in
    let A : List ℕ → Type 0 = λ xs. IsTrue (is_among xs n) in
    subst P (sym next_is)
    (elim (among-cases (take index ends) end n (subst A push among)) [
      | inl before ↦
          let q = place_at p.shape n in
          span-wider span column row place.layer (at s.columns.items q.x) (at s.rows.items q.y) q.layer (so_far n before)
      | inr same ↦
          let wide = with_end span column row place.layer in
          let O : Cell → ℕ = λ q. beside_span wide (at s.columns.items q.x) (at s.rows.items q.y) q.layer in
          let own : O place ≡ 0 =
          ap (λ (x : ℕ). beside_span wide x (at s.rows.items place.y) place.layer) (sym column_is)
          ∙ ap (λ (y : ℕ). beside_span wide column y place.layer) (sym row_is) ∙ span-own span column row place.layer in
          ap O (ap (λ (m : ℕ). place_at p.shape m) (sym same) ∙ sym place_is) ∙ own
    ])
