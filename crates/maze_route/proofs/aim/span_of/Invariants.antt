use Rattle.std.proofs.Common.{◌≡◌, ℕ, take, IsTrue}
use Rattle.gr_base.specs.Trees.{is_among}
use Rattle.maze_route.specs.Spans.{IsNear, outside_by}
use Rattle.maze_route.proofs.aim.span_of.Given as goal

abbrev pub invariant-loop-end : goal.invariant-loop-end
invariant-loop-end l = record {
  near : IsNear l.span;
  ends : (end : ℕ) → IsTrue (is_among (take l.end-index l.ends) end) → outside_by l.scales l.pane l.span end ≡ 0;
}
