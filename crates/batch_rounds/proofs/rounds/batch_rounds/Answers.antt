use Rattle.std.proofs.Common.{sym, ap, subst, ◌∙◌}
use Rattle.std.specs.Option.{is_some}
use Rattle.grid_demand.specs.Tables.{CapacityView}
use Rattle.book_state.specs.Books.{IsLegal}
use Rattle.run_histories.proofs.StandLemmas.{mark-within}
use Rattle.batch_rounds.specs.BatchedHistories.{batches_of}
use Rattle.batch_rounds.proofs.HeldNets.{batched-sound, batched-stands, batched-marked}
use Rattle.batch_rounds.proofs.rounds.batch_rounds.Goals as goal

pub unwrap-chosen-requires : goal.unwrap-chosen-requires
unwrap-chosen-requires g c =
    let t = batches_of c.args.design.now c.args.given.now c.args.rule.now.formula c.args.rounds c.args.batch in
    let made = c.in_ok-run_rounds.ensures in
    ap is_some c.least_mark.ensures ∙ batched-marked t c.run_rounds.new.book.history made.batched

pub returns : goal.returns
returns g c =
    let t = batches_of c.args.design.now c.args.given.now c.args.rule.now.formula c.args.rounds c.args.batch in
    let made = c.in_ok-run_rounds.ensures in
    let h = c.run_rounds.new.book.history in
    let least = sym c.least_mark.ensures ∙ c.unwrap-chosen.ensures in
    record {
      capacity = made.capacity;
      legal = made.legal;
      batched = made.batched;
      numbers = λ place e there. (batched-sound t h c.requires.given made.batched place e there).0;
      least = least;
      within = mark-within h c.unwrap-chosen.result least;
      stands = batched-stands t h c.unwrap-chosen.result c.requires.given made.batched (subst (λ (v : CapacityView). IsLegal v h) made.capacity made.legal) least;
    }
