use Rattle.std.proofs.Common.{refl, sym, ap, subst, ◌∙◌, arith}
use Rattle.gr_base.specs.Limits.{most_marks}
use Rattle.gr_base.specs.Sums.{wire_number}
use Rattle.grid_demand.specs.LoadSums.{LoadsView, AreLoads, marks_at}
use Rattle.grid_demand.specs.LoadsStore.{seen}
use Rattle.grid_demand.proofs.LoadLemmas.{marks-place, no-marks, index-most}
use Rattle.grid_demand.proofs.loads.Loads.marks.Goals as goal

pub returns-then-not-self-clause-marks : goal.returns-then-not-self-clause-marks
returns-then-not-self-clause-marks c =
    sym (no-marks (seen c.self.inside) c.args.self.now c.self.inside.marks c.args.e c.self.view_is refl
    (c.self.invariant.unmarked c.if-not-self.true) c.requires.edge)

pub at-requires : goal.at-requires
at-requires c =
    let here = marks-place (seen c.self.inside) c.args.self.now c.self.inside.demands c.self.inside.marks c.len.result c.args.e c.place.result
    c.self.invariant.loads c.self.view_is refl refl c.requires.edge c.len.ensures c.place.ensures in
    here.below

pub returns-clause-marks : goal.returns-clause-marks
returns-clause-marks c =
    let here = marks-place (seen c.self.inside) c.args.self.now c.self.inside.demands c.self.inside.marks c.len.result c.args.e c.place.result
    c.self.invariant.loads c.self.view_is refl refl c.requires.edge c.len.ensures c.place.ensures in
    c.at.ensures.value ∙ here.value ∙ ap (λ (l : LoadsView). marks_at l c.args.e) c.self.view_is

pub returns-clause-most : goal.returns-clause-most
returns-clause-most c =
    let marks = returns-clause-marks c in
    let loads : AreLoads c.args.self.now = subst (λ (l : LoadsView). AreLoads l) c.self.view_is c.self.invariant.loads in
    let few = index-most most_marks c.args.self.now.marks (wire_number c.args.e) loads.most in
    omega (arith, marks, few)

pub overflow_cast-result : goal.overflow_cast-result
overflow_cast-result c =
    let here = marks-place (seen c.self.inside) c.args.self.now c.self.inside.demands c.self.inside.marks c.len.result c.args.e c.place.result
    c.self.invariant.loads c.self.view_is refl refl c.requires.edge c.len.ensures c.place.ensures in
    let marks = c.at.ensures.value ∙ here.value in
    let few = index-most most_marks (seen c.self.inside).marks (wire_number c.args.e) c.self.invariant.loads.most in
    omega (arith, marks, few)
