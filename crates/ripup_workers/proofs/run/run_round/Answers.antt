use Rattle.std.proofs.Common.{◌≡◌, ℕ, List, IsTrue, refl, sym, ap, ◌∙◌, arith}
use Rattle.std.specs.List.{filter}
use Rattle.gr_base.specs.Designs.{is_routed}
use Rattle.work_share.specs.Views.{times}
use Rattle.ripup_workers.specs.Rounding.{setting_of}
use Rattle.ripup_workers.proofs.JoiningAttempts.{attempted-as, rest-all}
use Rattle.ripup_workers.proofs.JoiningRounds.{round-over}
use Rattle.ripup_workers.proofs.JoiningEnds.{victims-of_design}
use Rattle.ripup_workers.proofs.run.run_round.Goals as goal

-- how often a net stands among those that are shared
same : (shared order read nets : List ℕ) → shared ≡ order → ((net : ℕ) → times net order ≡ times net read) → read ≡ nets →
    (net : ℕ) → times net nets ≡ times net shared
same shared order read nets first turned last net = sym (ap (times net) first ∙ turned net ∙ ap (times net) last)

pub attempt_nets-requires-clause-nets : goal.attempt_nets-requires-clause-nets
attempt_nets-requires-clause-nets g c κs within =
    rest-all (λ net. IsTrue (is_routed c.args.asked.now.design.now net)) c.args.nets.items c.deref-2.result.now (λ net. 0) c.requires.nets
    (λ net. let e = same _ _ _ c.args.nets.items c.deref-2.ensures.value c.in_ok-order.ensures.same c.deref.ensures.value net in omega (arith, e))

pub routed_of-requires : goal.routed_of-requires
routed_of-requires g c =
    victims-of_design c.args.asked.now.design.now g.N.BookName.capacity _ c.as_slice.result.now c.in_ok-marked.marked.victims c.requires.capacity c.as_slice.ensures
    c.in_ok-marked.ensures.mark.victims_are

pub returns : goal.returns
returns g c = record {
  victims = c.in_ok-marked.marked.victims;
  kept_are = c.in_ok-kept.ensures ∙ ap (λ (ns : List ℕ). filter (is_routed c.args.asked.now.design.now) ns) c.as_slice.ensures;
  behind = λ before at.
      round-over (setting_of c.args.asked.now) g.N.BookName.capacity c.args.round c.args.nets.items c.args.nets.items before _ _ _ _ _ c.in_ok-marked.marked c.requires.capacity refl at
      (attempted-as _ _ _ _ _ _ (same _ _ _ c.args.nets.items c.deref-2.ensures.value c.in_ok-order.ensures.same c.deref.ensures.value) c.in_ok-workers.ensures)
      c.in_ok-marked.ensures;
}
