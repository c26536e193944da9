use Rattle.std.proofs.Common.{ℕ, List, ◌++◌, refl, ap, subst, ◌∙◌}
use Rattle.gr_io.specs.Parts.{AppendsPart}
use Rattle.report_text.proofs.NetLemmas.{verdict-nets}
use Rattle.route_reader.specs.Solutions.{edges_by}
use Rattle.text_commands.specs.Judging.{outcome_of, verdict_text}
use Rattle.text_commands.proofs.judging.write_verdict.Goals as goal

pub verdict_text-requires : goal.verdict_text-requires
verdict_text-requires g c =
    verdict-nets c.args.design.now c.args.via_cost (edges_by c.args.solution.now) c.in-Ok.verdict c.in-Ok.ensures

pub returns-in-Ok-write_whole : goal.returns-in-Ok-write_whole
returns-in-Ok-write_whole g c =
    let v = c.in-Ok.verdict in
    record {
      text = verdict_text c.args.design.now v;
      said = record { verdict = v; judged = c.in-Ok.ensures; says = refl; ends = c.outcome_of.ensures };
      gains = record {
        faults = c.in-Ok-write_whole.ensures.quiet;
        written = λ tells.
            c.in-Ok-write_whole.ensures.ok tells ∙
            ap (λ (t : List ℕ). g.O.Sink.written c.args.out.now ++ t) (c.bytes.ensures ∙ c.in-Ok-verdict_text.ensures);
      };
    }

pub returns : goal.returns
returns g c =
    let v = c.in-Ok.verdict in
    record {
      outcome = outcome_of v.unjoined;
      text = verdict_text c.args.design.now v;
      said = record { verdict = v; judged = c.in-Ok.ensures; says = refl; ends = refl };
      cause = c.in-Err.ensures.failed;
      part = λ tells.
          subst (AppendsPart (g.O.Sink.written c.args.out.now) (g.O.Sink.written c.write_whole.new.sink)) (c.bytes.ensures ∙ c.in-Ok-verdict_text.ensures)
          (c.in-Err.ensures.prefix tells);
    }
