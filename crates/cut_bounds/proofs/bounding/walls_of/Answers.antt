use Rattle.std.proofs.Common.{ap, ◌∙◌}
use Rattle.gr_base.specs.declared.frame.Frame.{Frame}
use Rattle.cut_bounds.specs.Candidates.{candidates, straight_cuts}
use Rattle.cut_bounds.specs.NetTiles.{placed_in}
use Rattle.cut_bounds.specs.declared.axis.Axis.TheVariants.{Columns, Rows}
use Rattle.cut_bounds.proofs.DesignLemmas.{code-few, code-lines, code-some, wires-few}
use Rattle.cut_bounds.proofs.OrderLemmas.{candidate-walls, straight-walls, walls-read, walls-taken}
use Rattle.cut_bounds.proofs.bounding.walls_of.Goals as goal

pub straight_cuts-requires-clause-nets : goal.straight_cuts-requires-clause-nets
straight_cuts-requires-clause-nets c = c.in_ok-nets.ensures.placed

pub straight_cuts-requires-clause-whole : goal.straight_cuts-requires-clause-whole
straight_cuts-requires-clause-whole c = c.in_ok-nets.ensures.whole

pub straight_cuts-requires-clause-wires : goal.straight_cuts-requires-clause-wires
straight_cuts-requires-clause-wires c = c.in_ok-wires.ensures

pub straight_cuts-requires-clause-some : goal.straight_cuts-requires-clause-some
straight_cuts-requires-clause-some c = code-some c.args.design.now (placed_in c.in_ok-nets.nets) c.in_ok-nets.ensures.placed

pub straight_cuts-requires-clause-columns : goal.straight_cuts-requires-clause-columns
straight_cuts-requires-clause-columns c = code-lines c.args.design.now Columns (placed_in c.in_ok-nets.nets) c.frame.ensures.design c.in_ok-nets.ensures.placed

pub straight_cuts-requires-clause-rows : goal.straight_cuts-requires-clause-rows
straight_cuts-requires-clause-rows c = code-lines c.args.design.now Rows (placed_in c.in_ok-nets.nets) c.frame.ensures.design c.in_ok-nets.ensures.placed

pub straight_cuts-requires-clause-few_needs : goal.straight_cuts-requires-clause-few_needs
straight_cuts-requires-clause-few_needs c = code-few c.args.design.now (placed_in c.in_ok-nets.nets) c.frame.ensures.design c.in_ok-nets.ensures.placed

pub straight_cuts-requires-clause-few_holds : goal.straight_cuts-requires-clause-few_holds
straight_cuts-requires-clause-few_holds c = wires-few c.args.design.now c.in_ok-wires.wires c.frame.ensures.design c.in_ok-wires.ensures

pub overfull_boxes-requires-clause-placed : goal.overfull_boxes-requires-clause-placed
overfull_boxes-requires-clause-placed c = c.in_ok-nets.ensures.placed

pub overfull_boxes-requires-clause-whole : goal.overfull_boxes-requires-clause-whole
overfull_boxes-requires-clause-whole c = c.in_ok-nets.ensures.whole

pub overfull_boxes-requires-clause-wires : goal.overfull_boxes-requires-clause-wires
overfull_boxes-requires-clause-wires c = c.in_ok-wires.ensures

pub taken_of-requires-clause-straight : goal.taken_of-requires-clause-straight
taken_of-requires-clause-straight c =
    walls-read c.args.design.now c.frame.result.now.shape (straight_cuts c.args.design.now) c.deref.result.now (ap (λ (f : Frame). f.shape) c.frame.ensures.frame) (straight-walls c.args.design.now)
    (c.deref.ensures.value ∙ c.in_ok-straight.ensures)

pub taken_of-requires-clause-boxes : goal.taken_of-requires-clause-boxes
taken_of-requires-clause-boxes c =
    walls-read c.args.design.now c.frame.result.now.shape (candidates c.args.design.now) c.in_ok-boxes.boxes.items (ap (λ (f : Frame). f.shape) c.frame.ensures.frame) (candidate-walls c.args.design.now)
    c.in_ok-boxes.ensures

pub returns-clause-straight : goal.returns-clause-straight
returns-clause-straight c = c.in_ok-straight.ensures

pub returns-clause-taken : goal.returns-clause-taken
returns-clause-taken c =
    walls-taken c.args.design.now c.frame.result.now.shape c.in_ok-straight.straight.items c.deref.result.now c.in_ok-boxes.boxes.items c.in_ok-taken.taken.items
    (ap (λ (f : Frame). f.shape) c.frame.ensures.frame) c.in_ok-straight.ensures c.deref.ensures.value c.in_ok-boxes.ensures c.in_ok-taken.ensures

pub returns-clause-design : goal.returns-clause-design
returns-clause-design c = c.frame.ensures.design
