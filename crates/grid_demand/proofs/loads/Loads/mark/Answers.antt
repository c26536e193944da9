use Rattle.std.proofs.Common.{◌≡◌, ◌∙◌, ℕ, List, refl, sym, ap, subst}
use Rattle.std.proofs.lemmas.Bool.{both_ways}
use Rattle.grid_demand.specs.LoadSums.{LoadsView, marked}
use Rattle.grid_demand.specs.LoadsStore.{seen}
use Rattle.grid_demand.specs.Planes.{by_number}
use Rattle.grid_demand.proofs.LoadLemmas.{demands-long, capacities-long, marks-long, marked-planes, marked-whole}
use Rattle.grid_demand.proofs.loads.Loads.mark.Goals as goal
use Rattle.grid_demand.proofs.loads.Loads.mark.Goals.{then-self, else-self}

pub mark_over-any-requires-clause-demands : goal.mark_over-any-requires-clause-demands
mark_over-any-requires-clause-demands c =
    demands-long (seen c.self.inside) c.self.inside.demands c.self.invariant.loads refl
    ∙ sym (marks-long (seen c.self.inside) c.self.inside.marks c.self.invariant.loads refl)

pub mark_over-any-requires-clause-capacities : goal.mark_over-any-requires-clause-capacities
mark_over-any-requires-clause-capacities c =
    capacities-long (seen c.self.inside) c.args.capacity.now c.table.result.now c.table.ensures.tables
    (c.requires ∙ sym (ap (λ (l : LoadsView). l.shape) c.self.view_is)) c.table.ensures.table
    ∙ sym (marks-long (seen c.self.inside) c.self.inside.marks c.self.invariant.loads refl)

-- the marks then
after : (c : goal.After-self-1) → by_number 0 c.mark_over-any.new.marks ≡ (marked c.args.capacity.now (seen c.self.inside)).marks
after c =
    marked-planes c.args.capacity.now (seen c.self.inside) c.self.inside.demands c.table.result.now c.self.inside.marks c.mark_over-any.new.marks
    c.self.invariant.loads c.table.ensures.tables (c.requires ∙ sym (ap (λ (l : LoadsView). l.shape) c.self.view_is))
    refl c.table.ensures.table refl c.mark_over-any.ensures.long c.mark_over-any.ensures.each

pub invariant_of-self : goal.invariant_of-self
invariant_of-self c = record {
  loads =
      marked-whole c.args.capacity.now (seen c.self.inside) (by_number 0 c.mark_over-any.new.marks) c.self.invariant.loads (after c);
  unmarked = λ none. elim c.if-self.branch [
    | then-self w ↦ absurd (both_ways c.if-self.self none (w.self-is ∙ w.if-self.true))
    | else-self w ↦ c.mark_over-any.ensures.none (sym w.self-is ∙ none) ∙ c.self.invariant.unmarked w.if-self.false
  ];
}

pub returns-clause-loads : goal.returns-clause-loads
returns-clause-loads c =
    let l : LoadsView = seen c.self.inside in
    let new : List ℕ → LoadsView = λ xs. record { shape = l.shape; demands = l.demands; marks = xs } in
    let P : LoadsView → Type 0 = λ v. new (by_number 0 c.mark_over-any.new.marks) ≡ marked c.args.capacity.now v in
    subst P c.self.view_is (ap new (after c))

pub returns-clause-whole : goal.returns-clause-whole
returns-clause-whole c =
    marked-whole c.args.capacity.now (seen c.self.inside) (by_number 0 c.mark_over-any.new.marks) c.self.invariant.loads (after c)
