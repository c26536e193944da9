use Rattle.std.proofs.Common.{List, ℕ, ◌++◌, sym, refl, ap, subst, ◌∙◌}
use Rattle.gr_io.specs.Devices.{device_of}
use Rattle.gr_io.specs.Parts.{AppendsPart}
use Rattle.route_reader.specs.Solutions.{edges_by}
use Rattle.text_commands.specs.Buffering.{StopsAtNet, IsPlacedText}
use Rattle.command_form.specs.Leaving.{WritesOne}
use Rattle.command_form.specs.declared.stop.Outcome.TheVariants.{Whole}
use Rattle.text_commands.proofs.BufferingLemmas.{stops-unwritten}
use Rattle.command_form.proofs.StopLemmas.{handed-on}
use Rattle.text_commands.proofs.buffering.write_buffers.Goals as goal

pub returns-in-Ok-write_whole : goal.returns-in-Ok-write_whole
returns-in-Ok-write_whole g c = record {
  text = c.in-Ok.text;
  said = record { whole = refl; trees = c.in_ok-trees.trees; are = c.in_ok-trees.ensures; says = c.in-Ok.ensures };
  gains = record {
    faults = c.in-Ok-write_whole.ensures.quiet;
    written = λ tells. c.in-Ok-write_whole.ensures.ok tells ∙ ap (λ (t : List ℕ). g.O.Sink.written c.args.out.now ++ t) c.bytes.ensures;
  };
}

pub returns : goal.returns
returns g c = record {
  outcome = Whole;
  text = c.in-Ok.text;
  said = record { whole = refl; trees = c.in_ok-trees.trees; are = c.in_ok-trees.ensures; says = c.in-Ok.ensures };
  cause = c.in-Err.ensures.failed;
  part = λ tells.
      subst (AppendsPart (g.O.Sink.written c.args.out.now) (g.O.Sink.written c.write_whole.new.sink)) c.bytes.ensures (c.in-Err.ensures.prefix tells);
}

pub returns-in_err-trees : goal.returns-in_err-trees
returns-in_err-trees g c =
    let d = c.args.design.now in
    let sets = edges_by c.args.solution.now in
    let says = IsPlacedText d c.args.library.now sets in
    let out = device_of g.O.Sink.tells g.O.Sink.faults g.O.Sink.written c.args.out.now c.args.out.now in
    subst (WritesOne says (StopsAtNet d sets) out) (sym (handed-on c.from_residual.result _ c.from_residual.ensures))
    (stops-unwritten d sets says out _ (record { faults = refl; written = λ tells. refl }) c.in_err-trees.ensures)
