use Rattle.std.proofs.Common.{ℕ, List, ◌++◌, ap, subst, ◌∙◌}
use Rattle.gr_io.specs.Parts.{AppendsPart}
use Rattle.command_form.specs.declared.stop.Outcome.TheVariants.{Whole}
use Rattle.bound_top.proofs.bounding.write_bounds.Goals as goal

pub returns-in-Ok-write_whole : goal.returns-in-Ok-write_whole
returns-in-Ok-write_whole g c = record {
  text = c.in-Ok.text;
  said = c.in-Ok.ensures;
  gains = record {
    faults = c.in-Ok-write_whole.ensures.quiet;
    written = λ tells. c.in-Ok-write_whole.ensures.ok tells ∙ ap (λ (t : List ℕ). g.O.Sink.written c.args.out.now ++ t) c.bytes.ensures;
  };
}

pub returns : goal.returns
returns g c = record {
  outcome = Whole;
  text = c.in-Ok.text;
  said = c.in-Ok.ensures;
  cause = c.in-Err.ensures.failed;
  part = λ tells.
      subst (AppendsPart (g.O.Sink.written c.args.out.now) (g.O.Sink.written c.write_whole.new.sink)) c.bytes.ensures (c.in-Err.ensures.prefix tells);
}
