use Rattle.std.proofs.Common.{ℕ, ◌<◌, Bool, Option, List, All, length, map, refl, sym, ap, subst, ◌∙◌, arith}
use Rattle.cost_rules.specs.Prices.{ArePrices, IsBelowVias}
use Rattle.gr_base.specs.declared.grid.Edge.{Edge}
use Rattle.gr_base.specs.declared.grid.Shape.{Shape}
use Rattle.gr_base.specs.Trees.{is_among}
use Rattle.maze_route.specs.Labels.{label_at}
use Rattle.maze_route.specs.Search.{is_marked}
use Rattle.maze_route.specs.Steps.{size_of, local_of, rest_of, pane_graph}
use Rattle.maze_route.proofs.GoalLemmas.{locals-below, can-reach, finds-first, found-of, walk-least, some-source, lies-in, some-locals, result-then}
use Rattle.maze_route.proofs.KeptLemmas.{known-goal}
use Rattle.maze_route.proofs.walk.walk_in.Goals as goal

pub aim_at-requires : goal.aim_at-requires
aim_at-requires g c =
    let fits = c.args.room.now.field.pane.fits in
    let B : List ℕ → Type 0 = λ xs. All (λ e. e < size_of c.args.room.now.field.pane) xs in
    record {
      ends = subst B (sym (c.deref.ensures.value ∙ c.in_ok-locals.ensures)) (locals-below c.args.room.now.field.pane c.args.goals.now (size_of c.args.room.now.field.pane) refl c.requires.goals);
      small = c.least_via.ensures.most;
      columns = omega (arith, c.requires.scales.columns, fits.columns);
      rows = omega (arith, c.requires.scales.rows, fits.rows);
    }

pub mark-requires : goal.mark-requires
mark-requires g c =
    let B : List ℕ → Type 0 = λ xs. All (λ e. e < size_of c.args.room.now.field.pane) xs in
    subst B (sym (c.deref-2.ensures.value ∙ c.in_ok-locals.ensures)) (locals-below c.args.room.now.field.pane c.args.goals.now (size_of c.args.room.now.field.pane) refl c.requires.goals)

pub resume-requires : goal.resume-requires
resume-requires g c =
    let price : Edge → Option ℕ = g.C.Costs.price c.args.costs.now in
    let guide = c.in_ok-aim.ensures.guide price c.requires.scales (subst (λ (s : Shape). IsBelowVias s price c.least_via.result) c.requires.grid c.least_via.ensures.vias) in
    record {
      aim = guide.fits;
      grid = c.requires.shape;
      tree = c.requires.tree;
      size = c.requires.size;
      kept = record { price = price; kept = c.requires.kept };
    }

pub nearest_of-known-requires : goal.nearest_of-known-requires
nearest_of-known-requires g c =
    let size = length c.resume.new.front.labels.costs.items in
    let B : List ℕ → Type 0 = λ xs. All (λ e. e < size) xs in
    subst B (sym (c.deref-3.ensures.value ∙ c.in_ok-locals.ensures)) (locals-below c.args.room.now.field.pane c.args.goals.now size c.resume.ensures.size c.requires.goals)

pub search-requires : goal.search-requires
search-requires g c =
    let price : Edge → Option ℕ = g.C.Costs.price c.args.costs.now in
    let P : Shape → Type 0 = λ s. ArePrices s (g.C.Costs.ways c.args.costs.now) price in
    let prices = subst P c.requires.grid (g.met.C.Costs.prices c.args.costs.now) in
    let p = c.args.room.now.field.pane in
    let ends = map (local_of p) c.args.goals.now in
    let below = locals-below p c.args.goals.now (size_of p) refl c.requires.goals in
    let source = some-source p c.args.tree.now c.requires.shape c.requires.tree c.requires.rooted in
    let marked = λ (n : ℕ). ap (λ (xs : List Bool). is_marked xs n) c.deref-4.ensures.value ∙ c.in_ok-mark.ensures.marks n ∙ ap (λ (xs : List ℕ). is_among xs n) (c.deref-2.ensures.value ∙ c.in_ok-locals.ensures) in
    let searching = c.in_ok-resume.ensures.searching price c.requires.kept in
    let known = known-goal (pane_graph p c.args.tree.now price) (rest_of p c.in_ok-aim.aim) (label_at c.resume.new.front.labels.costs.items) c.resume.new.front.queue.pairs (size_of p)
    c.deref-4.result.now c.deref-3.result.now c.nearest_of-known.result searching
    (λ n. ap (λ (xs : List Bool). is_marked xs n) c.deref-4.ensures.value ∙ c.in_ok-mark.ensures.marks n
    ∙ ap (λ (xs : List ℕ). is_among xs n) (c.deref-2.ensures.value ∙ sym c.deref-3.ensures.value)) c.nearest_of-known.ensures in
    record {
      grid = c.requires.grid;
      priced = c.requires.priced;
      guide = c.in_ok-aim.ensures.guide price c.requires.scales (subst (λ (s : Shape). IsBelowVias s price c.least_via.result) c.requires.grid c.least_via.ensures.vias);
      size = c.resume.ensures.size;
      sources = c.in_ok-resume.ensures.sources price;
      searching = searching;
      known = known.0;
      near = known.1;
      marks = ap (λ (xs : List Bool). length xs) c.deref-4.ensures.value ∙ c.in_ok-mark.ensures.size;
      aim = λ cell is. c.in_ok-aim.ensures.ends cell (ap (λ (xs : List ℕ). is_among xs cell) (c.deref.ensures.value ∙ c.in_ok-locals.ensures) ∙ sym (marked cell) ∙ is);
      goal = can-reach p c.args.tree.now (g.C.Costs.ways c.args.costs.now) price c.deref-4.result.now ends source.0 prices c.requires.passable source.1.0 source.1.1
          (some-locals p c.args.goals.now c.requires.some) below marked;
    }

pub first_reached-requires : goal.first_reached-requires
first_reached-requires g c =
    let p = c.args.room.now.field.pane in
    let size = length c.search.new.front.labels.costs.items in
    let B : List ℕ → Type 0 = λ xs. All (λ e. e < size) xs in
    subst B (sym (c.deref-5.ensures.value ∙ c.in_ok-locals.ensures)) (locals-below p c.args.goals.now size c.in_ok-search.ensures.size c.requires.goals)

pub unwrap-goal-requires : goal.unwrap-goal-requires
unwrap-goal-requires g c =
    let marked = λ (n : ℕ). ap (λ (xs : List Bool). is_marked xs n) c.deref-4.ensures.value ∙ c.in_ok-mark.ensures.marks n ∙ ap (λ (xs : List ℕ). is_among xs n) (c.deref-2.ensures.value ∙ sym c.deref-5.ensures.value) in
    finds-first c.deref-4.result.now c.deref-5.result.now (label_at c.search.new.front.labels.costs.items) c.in_ok-search.ensures.found.bound c.first_reached.result
    c.in_ok-search.ensures.found.goal marked c.first_reached.ensures

pub walk_back-requires : goal.walk_back-requires
walk_back-requires g c =
    let price : Edge → Option ℕ = g.C.Costs.price c.args.costs.now in
    let guide = c.in_ok-aim.ensures.guide price c.requires.scales (subst (λ (s : Shape). IsBelowVias s price c.least_via.result) c.requires.grid c.least_via.ensures.vias) in
    let found = found-of c.args.room.now.field.pane c.args.tree.now price c.in_ok-aim.aim
    c.deref-4.result.now _ (label_at c.search.new.front.labels.costs.items) c.args.goals.now c.deref-5.result.now c.deref.result.now c.deref-2.result.now _ c.first_reached.result c.unwrap-goal.result
    guide c.in_ok-search.ensures.found c.deref.ensures.value c.deref-2.ensures.value c.deref-5.ensures.value c.in_ok-locals.ensures
    c.deref-4.ensures.value c.in_ok-mark.ensures.marks c.in_ok-aim.ensures.ends c.requires.goals c.first_reached.ensures c.unwrap-goal.ensures in
    record { grid = c.requires.grid; priced = c.requires.priced; size = c.in_ok-search.ensures.size; near = found.near }

pub returns-clause-walk : goal.returns-clause-walk
returns-clause-walk g c =
    let price : Edge → Option ℕ = g.C.Costs.price c.args.costs.now in
    let guide = c.in_ok-aim.ensures.guide price c.requires.scales (subst (λ (s : Shape). IsBelowVias s price c.least_via.result) c.requires.grid c.least_via.ensures.vias) in
    let found = found-of c.args.room.now.field.pane c.args.tree.now price c.in_ok-aim.aim
    c.deref-4.result.now _ (label_at c.search.new.front.labels.costs.items) c.args.goals.now c.deref-5.result.now c.deref.result.now c.deref-2.result.now _ c.first_reached.result c.unwrap-goal.result
    guide c.in_ok-search.ensures.found c.deref.ensures.value c.deref-2.ensures.value c.deref-5.ensures.value c.in_ok-locals.ensures
    c.deref-4.ensures.value c.in_ok-mark.ensures.marks c.in_ok-aim.ensures.ends c.requires.goals c.first_reached.ensures c.unwrap-goal.ensures in
    result-then c.walk_back.result _ _ c.walk_back.ensures (λ cells walk.
    walk-least c.args.room.now.field.pane c.args.tree.now (g.C.Costs.price c.args.costs.now) c.args.goals.now cells c.unwrap-goal.result.cell (lies-in c.args.room.now.field.pane c.args.tree.now c.requires.shape c.requires.tree)
    c.requires.goals found.goal walk)
