-- The nets that a verdict names.
use Rattle.std.proofs.Common.{ℕ, ◌<◌, length, All, get_or, inl, inr, sym, ap, ◌∙◌}
use Rattle.std.proofs.lemmas.Bool.{false≢true}
use Rattle.std.proofs.lemmas.List.Elements.{Contains-get_or}
use Rattle.std.proofs.lemmas.Option.{slice_get_cases}
use Rattle.gr_base.specs.EdgeSets.{Edges}
use Rattle.gr_base.specs.Designs.{DesignView, is_routed_net}
use Rattle.route_evaluator.specs.declared.verdict.Verdict.{Verdict}
use Rattle.route_evaluator.specs.Verdicts.{IsVerdict}

-- the nets of a design's verdict are the design's
pub verdict-nets : (d : DesignView) (via_cost : ℕ) (sets : ℕ → Edges) (v : Verdict) → IsVerdict d via_cost sets v →
    All (λ net. net < length d.nets) v.unjoined
verdict-nets d via_cost sets v verdict k other below =
    let net : ℕ = get_or v.unjoined k other in
    let apart = (verdict.unjoined net).0 (Contains-get_or v.unjoined k other below) in
    elim (slice_get_cases d.nets net).1 [
      | inl here ↦ here.1
      | inr past ↦ absurd (false≢true (sym (ap is_routed_net past.1) ∙ apart.routed))
    ]
