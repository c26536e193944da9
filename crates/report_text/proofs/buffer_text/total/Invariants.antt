use Rattle.std.proofs.Common.{◌≡◌, ◌*◌, ◌^◌, ◌≤◌, filter, sum_by}
use Rattle.std.specs.List.{range_with_len}
use Rattle.gr_base.specs.Designs.{is_routed}
use Rattle.elmore_delay.specs.PlanLists.{plan_at}
use Rattle.report_text.specs.BufferTexts.{buffers_in}
use Rattle.report_text.proofs.buffer_text.total.Given as goal

abbrev pub invariant-loop-net : goal.invariant-loop-net
invariant-loop-net l = record {
  sum : l.sum ≡ sum_by (λ net. buffers_in (plan_at l.plans net)) (filter (is_routed l.design) (range_with_len 0 l.net));
  low : l.sum ≤ l.net * 2 ^ 64;
}
