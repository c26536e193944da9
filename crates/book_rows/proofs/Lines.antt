-- Rows of tiles, trees along them, and the nets of their designs.
use Rattle.std.proofs.Common.{◌≡◌, ℕ, ◌+◌, ◌*◌, ◌<◌, ◌≤◌, true, false, ◌==◌, nat_lt, [], ◌∷◌, length, None, IsTrue, refl, sym, ap, subst, ◌∙◌, arith, length-append}
use Rattle.std.proofs.lemmas.Bool.Decides.{nat_tests}
use Rattle.std.proofs.lemmas.List.{length-map}
use Rattle.std.proofs.lemmas.List.Sums.{sum_by-append}
use Rattle.gr_base.specs.Designs.{DesignView, with_net, net_with_id}
use Rattle.gr_base.specs.Grid.{cells_of, number_of, IsInside, place_at, gap, AreNeighbours, beyond, has_edge}
use Rattle.gr_base.specs.Trees.{TreeView, IsWalkTo}
use Rattle.gr_base.specs.declared.frame.Net.{Net}
use Rattle.gr_base.specs.declared.grid.Cell.{Cell}
use Rattle.gr_base.specs.declared.grid.Shape.{Shape}
use Rattle.gr_base.specs.declared.grid.Way.TheVariants.{East}
use Rattle.gr_base.proofs.GridLemmas.{place-number, edge-of-beyond}
use Rattle.gr_base.proofs.DesignLemmas.{net_from-none}
use Rattle.book_rows.specs.Rows.{IsRow, HasNets, IsAlong, IsPlayed, first_edge}

-- a row has as many cells as columns
line-cells : (g : Shape) → g.rows ≡ 1 → g.layers ≡ 1 → cells_of g ≡ g.columns
line-cells g rows layers =
    ap (λ (n : ℕ × ℕ). g.columns * n.0 * n.1) (λ i. (rows i, layers i)) ∙ omega arith

-- the cells of a row
abbrev cell_in : ℕ → Cell
cell_in n = record { x = n; y = 0; layer = 0 }

line-place : (g : Shape) (n : ℕ) → g.rows ≡ 1 → g.layers ≡ 1 → n < g.columns → place_at g n ≡ cell_in n
line-place g n rows layers below =
    let inside : IsInside g (cell_in n) = record { column = below; row = omega (arith, rows); layer = omega (arith, layers) } in
    let same : number_of g (cell_in n) ≡ n = omega arith in
    subst (λ (k : ℕ). place_at g k ≡ cell_in n) same (place-number g (cell_in n) inside)

-- a cell and the one before it are neighbours
line-step : (g : Shape) (n before : ℕ) → g.rows ≡ 1 → g.layers ≡ 1 → n ≡ before + 1 → n < g.columns → AreNeighbours g n before
line-step g n before rows layers next below =
    let here = line-place g n rows layers below in
    let there = line-place g before rows layers (omega arith) in
    let f : Cell × Cell → ℕ = λ p. gap p.0.x p.1.x + gap p.0.y p.1.y + gap p.0.layer p.1.layer in
    let one : gap n before + gap 0 0 + gap 0 0 ≡ 1 = omega arith in
    ap f (λ i. (here i, there i)) ∙ one

-- a row of two tiles or more has the edge between the first two
pub has-first : (g : Shape) → g.rows ≡ 1 → g.layers ≡ 1 → 2 ≤ g.columns → IsTrue (has_edge g first_edge)
has-first g rows layers two =
    let cells = line-cells g rows layers in
    let zero = line-place g 0 rows layers (omega arith) in
    let one = line-place g 1 rows layers (omega arith) in
    let f : Cell → Cell = λ c. beyond c East in
    (edge-of-beyond g 0 1 East (omega (arith, cells)) (omega (arith, cells)) (one ∙ ap f (sym zero))).0

-- a cell behind those of a tree leads back to the tree
pub walks-back : (g : Shape) (t : TreeView) (n before : ℕ) → g.rows ≡ 1 → g.layers ≡ 1 → before + 1 ≡ n → n < g.columns → IsAlong g n t → IsWalkTo t (n ∷ before ∷ [])
walks-back g t n before rows layers next below along =
    let P : Shape → Type 0 = λ s. (n < cells_of s) × AreNeighbours s n before in
    let cells = line-cells g rows layers in
    let in_tree = subst P (sym along.shape) (omega (arith, cells), line-step g n before rows layers (sym next) below) in
    let out : nat_lt n n ≡ false = grind (arith, nat_tests) in
    let there : nat_lt before n ≡ true = grind (arith, nat_tests) in
    let other : (before == n) ≡ false = grind (arith, nat_tests) in (
      record { inside = in_tree.0; outside = along.cells n ∙ out; once = rw other refl; neighbours = in_tree.1 },
      along.cells before ∙ there,
    )

-- a design with the next net
pub nets-next : (tiles id : ℕ) (net : Net) (d : DesignView) → net.id ≡ id → length net.pins ≡ 2 → HasNets tiles id d → HasNets tiles (id + 1) (with_net net d)
nets-next tiles id net d is two has =
    record {
      line = has.line;
      nets = length-append d.nets (net ∷ []) ∙ omega (arith, has.nets);
      pins = sum_by-append (λ (n : Net). length n.pins) d.nets (net ∷ []) ∙ omega (arith, has.pins);
      fresh = later;
    }
  where
    later : (other : ℕ) → id + 1 ≤ other → net_with_id (with_net net d) other ≡ None
    later other above =
        let before = has.fresh other (omega arith) in
        let apart : (other == net.id) ≡ false = grind (arith, nat_tests) in
        net_from-none 0 other d.nets (net ∷ []) before ∙ rw apart refl

-- the design of a row is one that is played
pub is-played : (tiles nets room : ℕ) (d : DesignView) → IsRow tiles nets room → HasNets tiles nets d → IsPlayed d
is-played tiles nets room d row has =
    record {
      rows = has.line.rows;
      layers = has.line.layers;
      nets = omega (arith, row.many, has.nets, length-map d.nets (λ (net : Net). net.width));
      edge = has-first d.frame.shape has.line.rows has.line.layers (omega (arith, row.long, has.line.columns));
    }
