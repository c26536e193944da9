use Rattle.std.proofs.Common.{◌≡◌, ℕ, ◌+◌, ◌<◌, ◌≤◌, ap, ◌∙◌, arith}
use Rattle.cut_bounds.specs.Cuts.{tile_at}
use Rattle.cut_bounds.specs.declared.axis.Tile.{Tile}
use Rattle.cut_bounds.proofs.CutLemmas.{tile-next, tile-turns}
use Rattle.cut_bounds.proofs.axis.Tile.next.Goals as goal

one : (self : Tile) (columns number : ℕ) → self.x < columns → self ≡ tile_at columns number → self.x + 1 < columns →
    record { x = self.x + 1; y = self.y } ≡ tile_at columns (number + 1)
one self columns number low is room =
    let x = ap (λ (t : Tile). t.x) is in
    let y = ap (λ (t : Tile). t.y) is in
    let next = tile-next columns number (omega (arith, low)) (omega (arith, x, room)) in
    let a : self.x + 1 ≡ (tile_at columns (number + 1)).x = omega (arith, x, next.0) in
    let b : self.y ≡ (tile_at columns (number + 1)).y = omega (arith, y, next.1) in
    ap (λ (n : ℕ). record { x = n; y = self.y }) a ∙ ap (λ (n : ℕ). record { x = (tile_at columns (number + 1)).x; y = n }) b

turn : (self : Tile) (columns number : ℕ) → self.x < columns → self ≡ tile_at columns number → columns ≤ self.x + 1 →
    record { x = 0; y = self.y + 1 } ≡ tile_at columns (number + 1)
turn self columns number low is full =
    let x = ap (λ (t : Tile). t.x) is in
    let y = ap (λ (t : Tile). t.y) is in
    let next = tile-turns columns number (omega (arith, low)) (omega (arith, x, full)) in
    let a : 0 ≡ (tile_at columns (number + 1)).x = omega (arith, next.0) in
    let b : self.y + 1 ≡ (tile_at columns (number + 1)).y = omega (arith, y, next.1) in
    ap (λ (n : ℕ). record { x = n; y = self.y + 1 }) a ∙ ap (λ (n : ℕ). record { x = (tile_at columns (number + 1)).x; y = n }) b

pub returns-then-self-columns : goal.returns-then-self-columns
returns-then-self-columns c number is = one c.args.self c.args.columns number c.requires.x is c.if-self-columns.true

pub returns : goal.returns
returns c number is = turn c.args.self c.args.columns number c.requires.x is c.if-self-columns.false
