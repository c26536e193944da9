use Rattle.std.proofs.Common.{◌≡◌, ◌+◌, ◌*◌, ℕ, length, sym, ap, subst, ◌∙◌, arith}
use Rattle.gr_base.specs.Designs.{DesignView}
use Rattle.gr_base.specs.EdgeSets.{Edges}
use Rattle.gr_base.specs.Grid.{cells_of}
use Rattle.gr_base.specs.declared.frame.Frame.{Frame}
use Rattle.route_reader.specs.Solutions.{edges_by}
use Rattle.grid_demand.specs.LoadSums.{LoadsView, no_loads}
use Rattle.grid_demand.specs.Tables.{CapacityView}
use Rattle.route_evaluator.specs.Counts.{AreCharged, AreTallied}
use Rattle.route_evaluator.specs.NumberSets.{empty_set}
use Rattle.route_evaluator.specs.declared.reached.Reached.{Reached}
use Rattle.route_evaluator.specs.declared.tally.Tally.{Tally}
use Rattle.route_evaluator.proofs.VerdictLemmas.{charged-none, charged-skip, loads-by, tallied-skip}
use Rattle.route_evaluator.proofs.judgement.evaluate.Goals as goal
use Rattle.route_evaluator.proofs.judgement.evaluate.Goals.{then-routed+in_ok-count_runs, else-routed}

pub loop-net-init : goal.loop-net-init
loop-net-init c =
    let cells : cells_of c.frame.result.now.shape ≡ cells_of c.args.design.now.frame.shape = ap (λ (f : Frame). cells_of f.shape) c.frame.ensures.frame in
    record {
      charged = charged-none c.args.design.now (edges_by c.args.solution.now) c.in_ok-loads.loads (c.in_ok-loads.ensures ∙ ap (λ (k : CapacityView). no_loads k.shape) c.in_ok-capacity.ensures);
      tallied = c.new-tally.ensures c.args.design.now (edges_by c.args.solution.now);
      edges = c.in_ok-edges.ensures ∙ ap (λ (n : ℕ). empty_set (3 * n)) (c.cells.ensures.cells ∙ cells);
      reached = c.in_ok-reached.ensures ∙ ap empty_set cells;
    }

pub loop-net-preserved : goal.loop-net-preserved
loop-net-preserved c =
    let d : DesignView = c.args.design.now in
    let sets : ℕ → Edges = edges_by c.args.solution.now in
    let P : Tally → Type 0 = λ t. AreTallied d sets (c.loop-net.net + 1) t in
    let Q : LoadsView → Type 0 = λ l. AreCharged d sets (c.loop-net.net + 1) l in
    elim c.if-routed.branch [
      | then-routed+in_ok-count_runs w ↦ record {
        charged = subst Q (sym w.loads-is) w.in_ok-count_runs.ensures.charged;
        tallied = subst P (sym w.tally-is) w.in_ok-count_runs.ensures.tallied;
        edges = w.edges-is ∙ w.in_ok-count_runs.ensures.edges ∙ c.loop-net.invariant.edges;
        reached = ap (λ (r : Reached). r.cells) w.reached-is ∙ w.in_ok-count_runs.ensures.reached ∙ c.loop-net.invariant.reached;
      }
      | else-routed w ↦ record {
        charged =
            subst Q (sym w.loads-is)
            (charged-skip d sets c.loop-net.net c.loop-net.loads (sym c.routed.ensures ∙ w.if-routed.false) c.loop-net.invariant.charged);
        tallied =
            subst P (sym w.tally-is)
            (tallied-skip d sets c.loop-net.net c.loop-net.tally (sym c.routed.ensures ∙ w.if-routed.false) c.loop-net.invariant.tallied);
        edges = w.edges-is ∙ c.loop-net.invariant.edges;
        reached = ap (λ (r : Reached). r.cells) w.reached-is ∙ c.loop-net.invariant.reached;
      }
    ]

pub returns : goal.returns
returns c =
    let d : DesignView = c.args.design.now in
    let sets : ℕ → Edges = edges_by c.args.solution.now in
    let all : c.loop-net.net ≡ length d.nets = omega (arith, c.loop-net.auto.net-end, c.loop-net-test.false, c.nets-net-end.ensures.nets) in
    c.verdict.ensures d sets c.in_ok-capacity.ensures (loads-by d sets c.loop-net.loads (subst (λ (k : ℕ). AreCharged d sets k c.loop-net.loads) all c.loop-net.invariant.charged))
    (subst (λ (k : ℕ). AreTallied d sets k c.loop-net.tally) all c.loop-net.invariant.tallied)
