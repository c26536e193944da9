use Rattle.std.proofs.Common.{◌≡◌, ℕ, ◌<◌, List, [], ◌∷◌, ◌++◌, get_or, refl, sym, ap, ◌∙◌}
use Rattle.std.proofs.lemmas.List.Elements.{All-push, All-same}
use Rattle.gr_base.specs.declared.grid.Edge.{Edge}
use Rattle.gr_base.specs.declared.grid.Way.TheVariants.{East}
use Rattle.straight_runs.specs.Lows.{is_low}
use Rattle.straight_runs.proofs.LowLemmas.{low-push}
use Rattle.straight_runs.proofs.lows.push_lows.Goals as goal

pub loop-edge-preserved : goal.loop-edge-preserved
loop-edge-preserved c =
    let d : Edge = record { low = 0; way = East } in
    let at = get_or c.args.edges.now c.loop-edge.edge-index d in
    let pushed : c.push.new.self.items ≡ c.loop-edge.lows.items ++ at.low ∷ [] = c.in_ok-push.ensures.items in
    record {
      members = λ cell.
          ap (λ (l : List ℕ). is_low l cell) pushed
          ∙ low-push c.args.way c.loop-edge.lows.items c.args.edges.now c.loop-edge.edge-index at d c.loop-edge-test.true refl (sym c.is_same.ensures ∙ c.if-not-is_same.false)
          c.loop-edge.invariant.members cell;
      within = λ cells all.
          let P : ℕ → Type 0 = λ low. low < cells in
          All-same P c.push.new.self.items (c.loop-edge.lows.items ++ at.low ∷ []) pushed
          (All-push P c.loop-edge.lows.items at.low (c.loop-edge.invariant.within cells all) (all c.loop-edge.edge-index d c.loop-edge-test.true));
    }
