use Rattle.std.proofs.Common.{◌≡◌, ℕ, List, length, pos, ◌*◌, ◌-ℤ◌, sym, ap, ◌∙◌, arith}
use Rattle.std.proofs.lemmas.Int.{ints}
use Rattle.gr_base.proofs.DesignLemmas.{routed-below}
use Rattle.gr_base.specs.Designs.{pins_at}
use Rattle.gr_base.specs.declared.frame.Frame.{Frame}
use Rattle.gr_base.specs.declared.grid.Shape.{Shape}
use Rattle.maze_route.specs.declared.window.Window.{Window}
use Rattle.net_plan.specs.Mazes.{window_of}
use Rattle.net_order.specs.Freedoms.{across}
use Rattle.net_plan.specs.FlatTrees.{distinct_tiles}
use Rattle.net_order.proofs.FreedomLemmas.{routed-small}
use Rattle.net_order.proofs.traits.freedom.Goals as goal

pub net-requires : goal.net-requires
net-requires c = routed-below c.args.design.now c.args.net c.requires

pub overflow_sub-across : goal.overflow_sub-across
overflow_sub-across c = (routed-small _ _ _ _ c.net.ensures.design c.net.ensures.net c.requires c.maze_window-pins_box.ensures.window).columns

pub overflow_sub-across-2 : goal.overflow_sub-across-2
overflow_sub-across-2 c = (routed-small _ _ _ _ c.net.ensures.design c.net.ensures.net c.requires c.maze_window-pins_box.ensures.window).rows

pub overflow_add-across : goal.overflow_add-across
overflow_add-across c =
    let small = routed-small _ _ _ _ c.net.ensures.design c.net.ensures.net c.requires c.maze_window-pins_box.ensures.window in
    let column = small.last_column in
    let row = small.last_row in
    omega (arith, column, row)

pub tiles_with_pins-tiles-requires : goal.tiles_with_pins-tiles-requires
tiles_with_pins-tiles-requires c =
    let small = routed-small _ _ _ _ c.net.ensures.design c.net.ensures.net c.requires c.maze_window-pins_box.ensures.window in
    let few = small.few in
    let pins = ap (λ (l : List ℕ). length l) c.as_slice-pins.ensures in
    omega (arith, few, pins)

pub overflow_cast-result : goal.overflow_cast-result
overflow_cast-result c =
    let small = routed-small _ _ _ _ c.net.ensures.design c.net.ensures.net c.requires c.maze_window-pins_box.ensures.window in
    let column = small.last_column in
    let row = small.last_row in
    omega (arith, ints, column, row)

pub overflow_sub-result : goal.overflow_sub-result
overflow_sub-result c =
    let small = routed-small _ _ _ _ c.net.ensures.design c.net.ensures.net c.requires c.maze_window-pins_box.ensures.window in
    let column = small.last_column in
    let row = small.last_row in
    let few = small.few in
    let tiles = c.tiles_with_pins-tiles.ensures.few in
    let pins = ap (λ (l : List ℕ). length l) c.as_slice-pins.ensures in
    omega (arith, ints, column, row, few, tiles, pins)

pub returns-clause-freedom : goal.returns-clause-freedom
returns-clause-freedom c =
    let small = routed-small _ _ _ _ c.net.ensures.design c.net.ensures.net c.requires c.maze_window-pins_box.ensures.window in
    let column = small.last_column in
    let row = small.last_row in
    let few = small.few in
    let count = c.tiles_with_pins-tiles.ensures.few in
    let pins = ap (λ (l : List ℕ). length l) c.as_slice-pins.ensures in
    let box = c.maze_window-pins_box.result in
    let so : _ ≡ pos (across box) -ℤ pos (2 * c.tiles_with_pins-tiles.result) = omega (arith, ints, column, row, few, count, pins) in
    let shape = ap (λ (f : Frame). f.shape) c.frame.ensures.frame in
    let tiles = c.tiles_with_pins-tiles.ensures.tiles ∙ ap (λ (g : Shape). length (distinct_tiles g c.as_slice-pins.result.now)) shape
    ∙ ap (λ (l : List ℕ). length (distinct_tiles c.args.design.now.frame.shape l)) (c.as_slice-pins.ensures ∙ sym small.pins_are) in
    so ∙ ap (λ (w : Window). pos (across w) -ℤ pos (2 * c.tiles_with_pins-tiles.result)) c.maze_window-pins_box.ensures.window
    ∙ ap (λ (n : ℕ). pos (across (window_of c.args.design.now.frame.shape (pins_at c.args.design.now c.args.net) 0)) -ℤ pos (2 * n)) tiles

pub returns-clause-least : goal.returns-clause-least
returns-clause-least c =
    let small = routed-small _ _ _ _ c.net.ensures.design c.net.ensures.net c.requires c.maze_window-pins_box.ensures.window in
    let column = small.last_column in
    let row = small.last_row in
    let few = small.few in
    let tiles = c.tiles_with_pins-tiles.ensures.few in
    let pins = ap (λ (l : List ℕ). length l) c.as_slice-pins.ensures in
    omega (arith, ints, column, row, few, tiles, pins)
