use Rattle.std.proofs.Common.{◌≡◌, ℕ, List, length, Ok, sym, subst, ap, ◌∙◌}
use Rattle.solution_text.specs.Grammar.{net_of}
use Rattle.route_reader.specs.Gathered.{Flags}
use Rattle.route_reader.proofs.StepLemmas.{net-unmet, id-step}
use Rattle.route_reader.proofs.gathering.Gathering.take_id.Goals as goal

pub returns : goal.returns
returns c s gathers mode =
    let flags = subst (Flags (length c.args.design.now.nets) s.met) (sym c.deref.ensures.value) gathers.met in
    let net : net_of c.args.design.now s.met c.args.self.now.name.items c.args.id.now ≡ Ok c.in_ok-net.net =
    ap (λ (name : List ℕ). net_of c.args.design.now s.met name c.args.id.now) (sym c.deref-2.ensures.value) ∙ sym (c.in_ok-net.ensures.net s.met flags) in (
      _,
      id-step c.args.design.now s _ c.args.id.now c.in_ok-net.net mode net,
      c.begin_net.ensures c.args.design.now s gathers (net-unmet c.args.design.now s.met _ c.args.id.now c.in_ok-net.net net),
    )
