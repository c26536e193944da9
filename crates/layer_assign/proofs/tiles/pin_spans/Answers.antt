use Rattle.std.proofs.Common.{Option, ◌≡◌, ℕ, ◌*◌, ◌/◌, ◌%◌, ◌<◌, length, set, get_or, Some, refl, sym, ap, ◌∙◌, arith}
use Rattle.std.proofs.lemmas.List.{length-set}
use Rattle.std.proofs.lemmas.Option.{slice_get_read}
use Rattle.gr_base.specs.Trees.{TreeView, node_with}
use Rattle.gr_base.specs.declared.grid.Shape.{Shape}
use Rattle.gr_base.proofs.TreeLemmas.{node_with-at, cell_at-within}
use Rattle.layer_assign.specs.declared.span.Span.{Span}
use Rattle.layer_assign.specs.Spans.{widened, growing}
use Rattle.layer_assign.specs.Assignments.{tile_count, tile_of, level_of}
use Rattle.layer_assign.proofs.PinLemmas.{pins-more}
use Rattle.layer_assign.proofs.tiles.pin_spans.Goals as goal

pin_inside : (g : Shape) (t : TreeView) (pin columns rows node : ℕ) (o : Option ℕ) → o ≡ node_with t.nodes (pin % (columns * rows)) → o ≡ Some node → node < length t.nodes
pin_inside g t pin columns rows node o is found =
    cell_at-within t.nodes node (pin % (columns * rows)) (node_with-at t.nodes (pin % (columns * rows)) node (sym is ∙ found))

pub index-requires : goal.index-requires
index-requires c =
    let below = pin_inside c.args.shape c.args.flat.now (get_or c.args.pins.now c.loop-pin.pin-index 0) c.columns.result c.rows.result c.unwrap-node.result c.node_at.result c.node_at.ensures.node c.unwrap-node.ensures in
    let count = c.loop-pin.invariant.count in
    omega (arith, below, count, c.loop-pin.spans.ok.0)

pub index_mut-requires : goal.index_mut-requires
index_mut-requires c =
    let below = pin_inside c.args.shape c.args.flat.now (get_or c.args.pins.now c.loop-pin.pin-index 0) c.columns.result c.rows.result c.unwrap-node.result c.node_at.result c.node_at.ensures.node c.unwrap-node.ensures in
    let count = c.loop-pin.invariant.count in
    omega (arith, below, count, c.loop-pin.spans.ok.0)

pub loop-pin-preserved : goal.loop-pin-preserved
loop-pin-preserved c =
    let g = c.args.shape in
    let t = c.args.flat.now in
    let k = c.loop-pin.pin-index in
    let pin = get_or c.args.pins.now k 0 in
    let tiles : c.columns.result * c.rows.result ≡ tile_count g =
    ap (λ (n : ℕ). n * c.rows.result) c.columns.ensures.columns ∙ ap (λ (n : ℕ). g.columns * n) c.rows.ensures.rows in
    let found : node_with t.nodes (tile_of g pin) ≡ Some c.unwrap-node.result =
    ap (λ (n : ℕ). node_with t.nodes (pin % n)) (sym tiles) ∙ sym c.node_at.ensures.node ∙ c.unwrap-node.ensures in
    let below = cell_at-within t.nodes c.unwrap-node.result (tile_of g pin) (node_with-at t.nodes (tile_of g pin) c.unwrap-node.result found) in
    let long : length c.loop-pin.spans.items ≡ length t.nodes = c.loop-pin.invariant.count in
    let read = slice_get_read c.loop-pin.spans.items (length c.loop-pin.spans.items) c.unwrap-node.result c.index.result.now refl (omega arith) c.index.ensures in
    let is : c.widened.result ≡ widened c.index.result.now (level_of g pin) = c.widened.ensures ∙ ap (λ (n : ℕ). widened c.index.result.now (pin / n)) tiles in
    record {
      count = length-set c.loop-pin.spans.items c.unwrap-node.result c.widened.result ∙ long;
      spans = λ node lt.
          ap (λ (s : Option Span). growing (set c.loop-pin.spans.items c.unwrap-node.result s) node) is
          ∙ pins-more g t c.args.pins.now k pin c.unwrap-node.result c.loop-pin.spans.items c.index.result.now c.len.ensures.tree c.loop-pin-test.true refl found (omega arith) read
          c.loop-pin.invariant.spans node lt;
    }
