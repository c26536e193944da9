use Rattle.std.proofs.Common.{◌≡◌, ◌<◌, ℕ, All, length, List, refl, sym, ap, subst, ◌∙◌, arith}
use Rattle.std.specs.List.Sorted.{IsStrictlyIncreasing}
use Rattle.std.proofs.lemmas.Bool.{both_ways}
use Rattle.std.proofs.lemmas.Bool.Decides.{nat_tests}
use Rattle.grid_demand.specs.LoadSums.{LoadsView, marked}
use Rattle.grid_demand.specs.LoadsStore.{seen}
use Rattle.grid_demand.specs.Overfull.{AreOverfull, is_told, told_places}
use Rattle.grid_demand.specs.Planes.{by_number, edge_placed}
use Rattle.grid_demand.proofs.LoadLemmas.{marks-long, marked-whole}
use Rattle.grid_demand.proofs.MarkSteps.{overfull-marked, nowhere-marked}
use Rattle.grid_demand.proofs.RangeFilters.{filter-rises, filter-below}
use Rattle.grid_demand.proofs.loads.Loads.mark_overfull.Goals as goal
use Rattle.grid_demand.proofs.loads.Loads.mark_overfull.Goals.{then-self, else-self}

pub mark_places-requires-clause-inside : goal.mark_places-requires-clause-inside
mark_places-requires-clause-inside c =
    let marks = c.self.inside.marks in
    let over_of : AreOverfull c.args.capacity.now (seen c.self.inside) c.args.over.now =
    subst (λ (l : LoadsView). AreOverfull c.args.capacity.now l c.args.over.now) (sym c.self.view_is) c.requires in
    let over = c.args.over.now.table in
    subst (λ (places : List ℕ). All (λ place. place < length marks) places) (sym c.places-places.ensures)
    (subst (λ (n : ℕ). All (λ place. place < n) (told_places over)) (over_of.long ∙ sym (marks-long (seen c.self.inside) marks c.self.invariant.loads refl))
    (filter-below (λ (place : ℕ). is_told over (edge_placed (length over) place)) (length over)))

pub mark_places-requires-clause-rising : goal.mark_places-requires-clause-rising
mark_places-requires-clause-rising c =
    let over = c.args.over.now.table in
    subst (λ (places : List ℕ). IsStrictlyIncreasing places) (sym c.places-places.ensures)
    (filter-rises (λ (place : ℕ). is_told over (edge_placed (length over) place)) (length over))

-- the marks then
after : (c : goal.After-self-1) → by_number 0 c.mark_places.new.marks ≡ (marked c.args.capacity.now (seen c.self.inside)).marks
after c =
    let over_of : AreOverfull c.args.capacity.now (seen c.self.inside) c.args.over.now =
    subst (λ (l : LoadsView). AreOverfull c.args.capacity.now l c.args.over.now) (sym c.self.view_is) c.requires in
    overfull-marked c.args.capacity.now (seen c.self.inside) c.self.inside.marks c.mark_places.new.marks c.places-places.result.now c.args.over.now
    c.self.invariant.loads over_of refl c.places-places.ensures c.mark_places.ensures.long c.mark_places.ensures.each

pub invariant_of-self : goal.invariant_of-self
invariant_of-self c = record {
  loads =
      marked-whole c.args.capacity.now (seen c.self.inside) (by_number 0 c.mark_places.new.marks) c.self.invariant.loads (after c);
  unmarked = λ none. elim c.if-self.branch [
    | then-self w ↦ absurd (both_ways c.if-self.self none (w.self-is ∙ w.if-self.true))
    | else-self w ↦
        let said = sym w.self-is ∙ none in
        let test = w.is_empty.ensures in
        let empty : length c.places-places.result.now ≡ 0 = grind (arith, nat_tests, said, test) in
        nowhere-marked c.places-places.result.now c.self.inside.marks c.mark_places.new.marks empty c.mark_places.ensures.long c.mark_places.ensures.each
        ∙ c.self.invariant.unmarked w.if-self.false
  ];
}

pub returns-clause-loads : goal.returns-clause-loads
returns-clause-loads c =
    let l : LoadsView = seen c.self.inside in
    let new : List ℕ → LoadsView = λ xs. record { shape = l.shape; demands = l.demands; marks = xs } in
    let P : LoadsView → Type 0 = λ v. new (by_number 0 c.mark_places.new.marks) ≡ marked c.args.capacity.now v in
    subst P c.self.view_is (ap new (after c))

pub returns-clause-whole : goal.returns-clause-whole
returns-clause-whole c =
    marked-whole c.args.capacity.now (seen c.self.inside) (by_number 0 c.mark_places.new.marks) c.self.invariant.loads (after c)
