use Rattle.std.proofs.Common.{◌≡◌, ℕ, ap, ◌∙◌}
use Rattle.gr_base.specs.declared.frame.Frame.{Frame}
use Rattle.gr_base.specs.declared.grid.Way.TheVariants.{East, North}
use Rattle.route_evaluator.specs.RunSets.{gathered}
use Rattle.route_reader.specs.Solutions.{edges_by}
use Rattle.panel_text.proofs.StartLemmas.{net-added}
use Rattle.panel_text.proofs.gathered.add_net.Goals as goal

pub returns-clause-runs : goal.returns-clause-runs
returns-clause-runs c =
    let d = c.args.design.now in
    let sets = edges_by c.args.solution.now in
    let same = ap (λ (f : Frame). f.shape) c.frame.ensures.frame in
    let edges = c.in_ok-gather.ensures.edges in
    record {
      east = net-added d sets East c.frame.result.now.shape (gathered c.gather.new.self) c.args.net c.args.runs.now.east c.add_way.new.starts same edges
          c.requires.routed c.requires.behind.east c.in_ok-add_way.ensures.grid c.in_ok-add_way.ensures.chains;
      north = net-added d sets North c.frame.result.now.shape (gathered c.add_way.new.maker) c.args.net c.args.runs.now.north c.add_way-2.new.starts same
          (c.add_way.ensures.edges ∙ edges) c.requires.routed c.requires.behind.north c.in_ok-add_way-2.ensures.grid c.in_ok-add_way-2.ensures.chains;
    }
