use Rattle.std.proofs.Common.{ℕ, length, arith, length-set, ◌<◌, ◌≤◌, ◌∙◌}
use Rattle.std.proofs.lemmas.List.Elements.{All-set}
use Rattle.gr_text.proofs.SeveralLemmas.{Reads-fails}
use Rattle.ispd_reader.proofs.HeaderLemmas.{by_layer-fails, by_layer-next, by_layer-done, others-next}
use Rattle.ispd_reader.proofs.header.by_layer.Goals as goal

pub returns-in_err-numbers-clause-reads : goal.returns-in_err-numbers-clause-reads
returns-in_err-numbers-clause-reads g c tells =
    let start = g.S.TokenSource.place c.args.source.now in
    let place = g.S.TokenSource.place c.loop-layer.source in
    Reads-fails _ _ (λ (n : ℕ). n) _ c.from_residual.result c.in_err-numbers.field-0.0 _ _ c.from_residual.ensures
    (λ fault is. by_layer-fails c.args.layers c.args.most c.loop-layer.layer c.loop-layer.numbers start place fault c.loop-layer-test.true (c.loop-layer.invariant.reads tells) is)
    (c.in_err-numbers.ensures.reads tells)

pub loop-layer-preserved : goal.loop-layer-preserved
loop-layer-preserved g c =
    let start = g.S.TokenSource.place c.args.source.now in
    let place = g.S.TokenSource.place c.loop-layer.source in
    let after = g.S.TokenSource.place c.natural.new.source in
    let within : c.loop-layer.layer < length c.loop-layer.numbers = omega arith in
    record {
      count = length-set c.loop-layer.numbers c.loop-layer.layer c.in_ok-numbers.field-0 ∙ c.loop-layer.invariant.count;
      reads = λ tells. by_layer-next c.args.layers c.args.most c.loop-layer.layer c.loop-layer.numbers start place after c.in_ok-numbers.field-0
          c.loop-layer-test.true within (c.loop-layer.invariant.reads tells) (c.in_ok-numbers.ensures.reads tells);
      faults = c.in_ok-numbers.ensures.moves.counts ∙ c.loop-layer.invariant.faults;
      origin = c.natural.ensures.moves.same ∙ c.loop-layer.invariant.origin;
      onward = λ bytes read. c.in_ok-numbers.ensures.moves.onward bytes (c.loop-layer.invariant.onward bytes read);
      most = All-set (λ (n : ℕ). n ≤ c.args.most) c.loop-layer.numbers c.loop-layer.layer c.in_ok-numbers.field-0 c.in_ok-numbers.ensures.most c.loop-layer.invariant.most;
      others = others-next c.loop-layer.numbers c.loop-layer.layer c.in_ok-numbers.field-0 within c.loop-layer.invariant.count c.loop-layer.invariant.others;
    }

pub returns-clause-reads : goal.returns-clause-reads
returns-clause-reads g c tells =
    let start = g.S.TokenSource.place c.args.source.now in
    let place = g.S.TokenSource.place c.loop-layer.source in
    by_layer-done c.args.layers c.args.most c.loop-layer.layer c.loop-layer.numbers start place (omega arith) c.requires c.loop-layer.invariant.count c.loop-layer.invariant.others (c.loop-layer.invariant.reads tells)
