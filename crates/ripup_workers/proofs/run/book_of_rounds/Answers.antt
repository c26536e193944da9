use Rattle.std.proofs.Common.{◌∷◌, map, subst, ◌∙◌}
use Rattle.grid_demand.specs.Tables.{CapacityView}
use Rattle.track_book.specs.Passes.{IsClosed}
use Rattle.ripup_workers.specs.Rounding.{setting_of}
use Rattle.ripup_workers.proofs.CallerLists.{are-new, are-all}
use Rattle.ripup_workers.proofs.JoiningEnds.{run-closed}
use Rattle.ripup_workers.proofs.run.book_of_rounds.Goals as goal

pub run_rounds-requires-clause-new : goal.run_rounds-requires-clause-new
run_rounds-requires-clause-new g c lives in_lives =
    are-new (setting_of c.args.asked.now) g.N.BookName.passes c.in_ok-coordinator.coordinator.pass _ c.in_ok-book.passes.items c.in_ok-book.ensures c.in_ok-coordinator.ensures c.requires.count

pub closed-requires : goal.closed-requires
closed-requires g c =
    are-all (setting_of c.args.asked.now) g.N.BookName.passes c.run_rounds.new.coordinator.pass _ c.in_ok-workers.ensures c.requires.count

pub returns : goal.returns
returns g c =
    let t = setting_of c.args.asked.now in
    record {
      capacity = c.in_ok-made.ensures.capacity ∙ c.requires.design;
      run = run-closed t c.run_rounds.new.coordinator.pass _ c.in_ok-made.made.state.history c.in_ok-workers.ensures
          (subst (λ (k : CapacityView). IsClosed k (c.run_rounds.new.coordinator.pass ∷ map (λ w. w.pass) c.in_ok-workers.workers.items) c.in_ok-made.made.state.history) c.requires.design c.in_ok-made.ensures.closed);
    }
