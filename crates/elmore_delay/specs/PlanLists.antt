-- The plans of a design's nets.
use Rattle.std.specs.Prelude.{ℕ, List, Option, option_and_then, slice_get}
use Rattle.elmore_delay.specs.declared.plans.Plan.{Plan}

-- the plan of a net, if one was set
abbrev pub plan_at : List (Option Plan) → ℕ → Option Plan
plan_at plans net = option_and_then (λ plan. plan) (slice_get plans net)
