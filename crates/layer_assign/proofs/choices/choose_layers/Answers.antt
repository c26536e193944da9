use Rattle.std.proofs.Common.{◌≡◌, ℕ, zero, suc, List, [], ◌∷◌, Option, None, get_or, refl, sym, ap, subst, ◌∙◌, arith}
use Rattle.layer_assign.specs.declared.span.Span.{Span}
use Rattle.layer_assign.specs.Spans.{IsWithin, growing}
use Rattle.layer_assign.specs.Assignments.{parent_of}
use Rattle.layer_assign.specs.Chosen.{Chooses}
use Rattle.layer_assign.proofs.FlatLemmas.{few, parent-at}
use Rattle.layer_assign.proofs.Running.{run-is}
use Rattle.layer_assign.proofs.choices.choose_layers.Goals as goal

growing-at : (spans : List (Option Span)) (node : ℕ) → growing spans node ≡ get_or spans node None
growing-at [] node = refl
growing-at (s ∷ spans) zero = refl
growing-at (s ∷ spans) (suc node) = growing-at spans node

pub is_run-requires : goal.is_run-requires
is_run-requires g c =
    let many = few c.args.flat.now c.parent-parent.ensures.tree in
    let b = c.requires.node.inside in
    let e = c.parent-parent.ensures.earlier c.requires.node.later in
    omega arith

pub choose_on_run-requires-clause-base : goal.choose_on_run-requires-clause-base
choose_on_run-requires-clause-base g c =
    subst (λ (s : Option Span). IsWithin c.args.shape.layers s) (growing-at c.args.pins.now c.args.node) (c.requires.within c.args.node c.requires.node.inside)

pub returns-then-is_run : goal.returns-then-is_run
returns-then-is_run g c =
    let pins = c.args.pins.now in
    let up = parent-at c.args.flat.now c.args.node c.parent-parent.result c.parent-parent.ensures.parent in
    let run = run-is c.parent-parent.result c.args.node (get_or pins c.parent-parent.result None) _ (sym c.is_run.ensures ∙ c.if-is_run.true) in
    let above : None ≡ growing pins (parent_of c.args.flat.now c.args.node) =
    sym (ap (λ (k : ℕ). growing pins k) up ∙ growing-at pins c.parent-parent.result ∙ run.none) in
    let new = c.choose_on_run.new.least.items in
    let chosen = c.choose_on_run.new.choices.items in
    let P : Option Span → Type 0 = λ s. Chooses c.args.shape (g.C.Costs.ways c.args.costs.now) (g.C.Costs.price c.args.costs.now) c.args.flat.now c.args.node (growing pins c.args.node) s c.args.least.now.items new c.args.choices.now.items chosen in
    let Q : Option Span → Type 0 = λ s. Chooses c.args.shape (g.C.Costs.ways c.args.costs.now) (g.C.Costs.price c.args.costs.now) c.args.flat.now c.args.node s None c.args.least.now.items new c.args.choices.now.items chosen in
    subst P above (subst Q (sym (growing-at pins c.args.node)) c.choose_on_run.ensures)

pub choose_by_span-requires-clause-base : goal.choose_by_span-requires-clause-base
choose_by_span-requires-clause-base g c =
    subst (λ (s : Option Span). IsWithin c.args.shape.layers s) (growing-at c.args.pins.now c.args.node) (c.requires.within c.args.node c.requires.node.inside)

pub choose_by_span-requires-clause-above : goal.choose_by_span-requires-clause-above
choose_by_span-requires-clause-above g c =
    let many = c.requires.node.inside in
    let early = c.parent-parent.ensures.earlier c.requires.node.later in
    subst (λ (s : Option Span). IsWithin c.args.shape.layers s) (growing-at c.args.pins.now c.parent-parent.result) (c.requires.within c.parent-parent.result (omega arith))

pub returns : goal.returns
returns g c =
    let pins = c.args.pins.now in
    let up = parent-at c.args.flat.now c.args.node c.parent-parent.result c.parent-parent.ensures.parent in
    let above : get_or pins c.parent-parent.result None ≡ growing pins (parent_of c.args.flat.now c.args.node) =
    sym (ap (λ (k : ℕ). growing pins k) up ∙ growing-at pins c.parent-parent.result) in
    let new = c.choose_by_span.new.least.items in
    let chosen = c.choose_by_span.new.choices.items in
    let P : Option Span → Type 0 = λ s. Chooses c.args.shape (g.C.Costs.ways c.args.costs.now) (g.C.Costs.price c.args.costs.now) c.args.flat.now c.args.node (growing pins c.args.node) s c.args.least.now.items new c.args.choices.now.items chosen in
    let Q : Option Span → Type 0 = λ s. Chooses c.args.shape (g.C.Costs.ways c.args.costs.now) (g.C.Costs.price c.args.costs.now) c.args.flat.now c.args.node s (get_or pins c.parent-parent.result None) c.args.least.now.items new c.args.choices.now.items chosen in
    subst P above (subst Q (sym (growing-at pins c.args.node)) c.choose_by_span.ensures)
