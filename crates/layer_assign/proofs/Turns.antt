-- The turns of the assignment, from the last node down.
use Rattle.std.proofs.Common.{◌≡◌, ℕ, suc, ◌+◌, ◌*◌, ◌<◌, ◌≤◌, inl, inr, Bool, true, false, List, All, length, set, get_or, Option, Some, None, unwrap_or, IfSome, sym, ap, subst, ◌∙◌, arith}
use Rattle.std.proofs.lemmas.Bool.{cases_eq, both_ways}
use Rattle.std.proofs.lemmas.List.{length-set, get_or-set_same, get_or-set_other}
use Rattle.std.specs.Option.{option_and_then}
use Rattle.cost_rules.specs.Prices.{ArePrices}
use Rattle.gr_base.specs.Grid.{cells_of, on_layer}
use Rattle.gr_base.proofs.GridLemmas.{some_layers}
use Rattle.gr_base.specs.Trees.{TreeView, IsTree}
use Rattle.gr_base.specs.declared.grid.Edge.{Edge}
use Rattle.gr_base.specs.declared.grid.Shape.{Shape}
use Rattle.gr_base.specs.declared.grid.Way.{Way}
use Rattle.layer_assign.specs.declared.span.Span.{Span}
use Rattle.layer_assign.specs.Spans.{climb, IsWithin, span_by, span_number, spans_of, growing}
use Rattle.layer_assign.specs.Assignments.{IsFlat, parent_of, may_take, wire_cost, ends_at, IsAssignment}
use Rattle.layer_assign.specs.Answers.{IsFirstLeast}
use Rattle.layer_assign.specs.Choices.{IsBest, entry, Follows, FollowsFrom, AreBest}
use Rattle.layer_assign.specs.Tables.{HasRows, IsSmall}
use Rattle.layer_assign.specs.Chosen.{onward_cost, may_precede, AreUntouched, Chooses}
use Rattle.layer_assign.proofs.Elimination.{Problem, IsSound, Step, Eliminates, Weighed, precedes-within, precedes-may, eliminates-more, eliminates-none, weighed-none, weighed-more, weighed-small}
use Rattle.layer_assign.proofs.FlatLemmas.{on_layer-edge, some_edge, few, few_layers, parent-before}
use Rattle.layer_assign.proofs.Following.{span_by-first}
use Rattle.layer_assign.proofs.Problems.{pin_span, problem, met-span, may-below, problem-sound, eliminates-best}

-- a node's choices are a step
pub chooses-step : (g : Shape) (ways : ℕ → Way → Bool) (price : Edge → Option ℕ) (t : TreeView) (pins : List ℕ) (v : ℕ) (base above : Option Span) (old new before after : List ℕ) →
    IsTree t → All (λ pin. pin < cells_of g) pins → 0 < v → v < length t.nodes → base ≡ pin_span g t pins v → above ≡ pin_span g t pins (parent_of t v) →
    Chooses g ways price t v base above old new before after →
    Step (problem g ways price t pins) v (entry g.layers old) (entry g.layers new) (entry g.layers after) (entry g.layers before)
chooses-step g ways price t pins v base above old new before after tree cells later inside is over chooses = record {
  best = λ s precedes.
      elim (chooses.each s (precedes-within p up v s sound precedes)) [
        | inl best ↦ by_base s best
        | inr left ↦
            let comes : may_precede up v above s ≡ true =
            subst (λ (b : Option Span). may_precede up v b s ≡ true) (sym over) (precedes-may p v s sound later inside precedes) in
            absurd (both_ways _ left.never comes)
      ];
  either = λ s within.
      elim (chooses.each s within) [
        | inl best ↦ inl (by_base s best)
        | inr left ↦ inr left.cost
      ];
  others = λ u s lt other within. chooses.others u s other within;
  kept = λ w s lt inside_w within. chooses.kept w s (λ e. omega arith) within;
}
  where
    p : Problem
    p = problem g ways price t pins

    up : ℕ
    up = parent_of t v

    sound : IsSound (problem g ways price t pins)
    sound = problem-sound g ways price t pins tree cells

    by_base : (s : Option Span) → IsBest (onward_cost g price t old v base s) (may_take g ways t v) (entry g.layers after v s) (entry g.layers new (parent_of t v) s) →
        IsBest (onward_cost g price t old v (pin_span g t pins v) s) (may_take g ways t v) (entry g.layers after v s) (entry g.layers new (parent_of t v) s)
    by_base s best =
        subst (λ (b : Option Span). IsBest (onward_cost g price t old v b s) (may_take g ways t v) (entry g.layers after v s) (entry g.layers new (parent_of t v) s)) is best

some_cheap : (o : Option ℕ) (most : ℕ) → IfSome o (λ cost. cost ≤ most) → unwrap_or o 0 ≤ most
some_cheap None most small = omega arith
some_cheap (Some x) most small = small

-- a wire edge costs at most 1,048,576
pub wire-cheap : (g : Shape) (ways : ℕ → Way → Bool) (price : Edge → Option ℕ) (t : TreeView) (v l : ℕ) → ArePrices g ways price → IsFlat g t.shape → IsTree t →
    0 < v → v < length t.nodes → l < g.layers → wire_cost g price t v l ≤ 1048576
wire-cheap g ways price t v l prices flat tree positive below less =
    let edge = some_edge t v tree positive below in
    let cheap = prices.most (on_layer g l edge.0) (on_layer-edge g t.shape l edge.0 flat edge.1.1 less) in
    subst (λ (o : Option Edge). unwrap_or (option_and_then (λ e. price (on_layer g l e)) o) 0 ≤ 1048576) (sym edge.1.0) (some_cheap (price (on_layer g l edge.0)) 1048576 cheap)

-- the layers of the nodes from a number on are chosen
pub record Chosen (g : Shape) (ways : ℕ → Way → Bool) (price : Edge → Option ℕ) (t : TreeView) (pins : List ℕ) (least choices : List ℕ) (joined : List Bool) (node : ℕ) : Type 0 where
  pub costs : HasRows g.layers (length t.nodes) least
  pub rows : HasRows g.layers (length t.nodes) choices
  pub count : length joined ≡ length t.nodes
  pub some : 0 < node
  pub most : node ≤ length t.nodes
  pub done : Eliminates (problem g ways price t pins) node (entry g.layers least) (entry g.layers choices)
  pub weighed : Weighed (problem g ways price t pins) node (entry g.layers least)
  pub below : (u : ℕ) (s : Option Span) → u < length t.nodes → IsWithin g.layers s → entry g.layers choices u s < g.layers
  pub untouched : AreUntouched g.layers joined least

pub chosen-none : (g : Shape) (ways : ℕ → Way → Bool) (price : Edge → Option ℕ) (t : TreeView) (pins : List ℕ) (least choices : List ℕ) (joined : List Bool) (node : ℕ) → IsTree t →
    All (λ pin. pin < cells_of g) pins → node ≡ length t.nodes → HasRows g.layers (length t.nodes) least → HasRows g.layers (length t.nodes) choices → length joined ≡ length t.nodes →
    ((u : ℕ) → (s : Option Span) → u < length t.nodes → IsWithin g.layers s → entry g.layers least u s ≡ climb s) → ((place : ℕ) → get_or choices place 0 ≡ 0) →
    Chosen g ways price t pins least choices joined node
chosen-none g ways price t pins least choices joined node tree cells is costs rows count each zeros =
    subst (λ (k : ℕ). Chosen g ways price t pins least choices joined k) (sym is) (record {
      costs = costs;
      rows = rows;
      count = count;
      some = tree.rooted;
      most = omega arith;
      done = eliminates-none (problem g ways price t pins) (entry g.layers least) (entry g.layers choices) (problem-sound g ways price t pins tree cells) each;
      weighed = weighed-none (problem g ways price t pins) (entry g.layers least) (few_layers g) each;
      below = λ u s lt within. let none = zeros (u * spans_of g.layers + span_number g.layers s) in let some = some_layers g in omega (arith, none, some);
      untouched = λ u s lt free within. each u s (omega arith) within;
    })

-- one more node; its parent's tile has joined an edge now
pub chosen-more : (g : Shape) (ways : ℕ → Way → Bool) (price : Edge → Option ℕ) (t : TreeView) (pins : List ℕ) (old new before after : List ℕ) (joined now : List Bool) (node v : ℕ) (base above : Option Span) →
    ArePrices g ways price → IsFlat g t.shape → IsTree t → All (λ pin. pin < cells_of g) pins → node ≡ suc v → 0 < v → base ≡ pin_span g t pins v →
    above ≡ pin_span g t pins (parent_of t v) → now ≡ set joined (parent_of t v) true →
    Chooses g ways price t v base above old new before after → Chosen g ways price t pins old before joined node → Chosen g ways price t pins new after now v
chosen-more g ways price t pins old new before after joined now node v base above prices flat tree cells is positive at over marked chooses so_far =
    let p = problem g ways price t pins in
    let sound = problem-sound g ways price t pins tree cells in
    let most = so_far.most in
    let inside : v < length t.nodes = omega arith in
    let early : parent_of t v < v = parent-before t v tree positive inside in
    let step = chooses-step g ways price t pins v base above old new before after tree cells positive inside at over chooses in
    let count : length now ≡ length t.nodes = ap (λ (xs : List Bool). length xs) marked ∙ length-set joined (parent_of t v) true ∙ so_far.count in
    record {
      costs = chooses.costs;
      rows = chooses.choices;
      count = count;
      some = positive;
      most = omega arith;
      done =
          eliminates-more p v (entry g.layers old) (entry g.layers new) (entry g.layers after) (entry g.layers before) sound positive inside step
          (subst (λ (k : ℕ). Eliminates p k (entry g.layers old) (entry g.layers before)) is so_far.done);
      weighed =
          weighed-more p v (entry g.layers old) (entry g.layers new) (entry g.layers after) (entry g.layers before) sound positive inside
          (λ l may. wire-cheap g ways price t v l prices flat tree positive inside (may-below g ways t v l may)) step
          (subst (λ (k : ℕ). Weighed p k (entry g.layers old)) is so_far.weighed);
      below = λ u s lt within.
          elim (cases_eq u v) [
            | inl same ↦
                let here : entry g.layers after v s < g.layers = elim (chooses.each s within) [
                  | inl best ↦ may-below g ways t v (entry g.layers after v s) best.allowed
                  | inr left ↦ let kept = left.choice in let small = so_far.below v s inside within in omega (arith, kept, small)
                ] in
                subst (λ (k : ℕ). entry g.layers after k s < g.layers) (sym same) here
            | inr other ↦ let kept = chooses.kept u s other within in let small = so_far.below u s lt within in omega (arith, kept, small)
          ];
      untouched = λ u s lt free within.
          elim (cases_eq u (parent_of t v)) [
            | inl same ↦
                let set_here : get_or now u false ≡ true =
                ap (λ (xs : List Bool). get_or xs u false) marked ∙ ap (λ (k : ℕ). get_or (set joined (parent_of t v) true) k false) same ∙
                get_or-set_same joined (parent_of t v) true false (let k = so_far.count in omega arith) in
                absurd (both_ways _ free set_here)
            | inr other ↦
                let kept : get_or joined u false ≡ false =
                sym (ap (λ (xs : List Bool). get_or xs u false) marked ∙ get_or-set_other joined (parent_of t v) u true false (λ e. other e)) ∙ free in
                chooses.others u s other within ∙ so_far.untouched u s (let k = so_far.count in omega arith) kept within
          ];
    }

-- the entries of nodes not yet chosen are small
pub chosen-small : (g : Shape) (ways : ℕ → Way → Bool) (price : Edge → Option ℕ) (t : TreeView) (pins : List ℕ) (least choices : List ℕ) (joined : List Bool) (node u : ℕ) → IsTree t →
    Chosen g ways price t pins least choices joined node → u < node → IsSmall g.layers least u
chosen-small g ways price t pins least choices joined node u tree so_far lt = λ s within.
    weighed-small (problem g ways price t pins) node (entry g.layers least) (few t tree) so_far.weighed u s lt within

pub chosen-best : (g : Shape) (ways : ℕ → Way → Bool) (price : Edge → Option ℕ) (t : TreeView) (pins : List ℕ) (least choices : List ℕ) (joined : List Bool) (node : ℕ) → IsTree t →
    All (λ pin. pin < cells_of g) pins → node ≡ 1 → Chosen g ways price t pins least choices joined node → AreBest g ways price t pins (entry g.layers choices)
chosen-best g ways price t pins least choices joined node tree cells is so_far =
    eliminates-best g ways price t pins (entry g.layers least) (entry g.layers choices) tree cells
    (subst (λ (k : ℕ). Eliminates (problem g ways price t pins) k (entry g.layers least) (entry g.layers choices)) is so_far.done)

-- layers that follow the best choices from the spans of the pins are the first least assignment
pub followed : (g : Shape) (ways : ℕ → Way → Bool) (price : Edge → Option ℕ) (t : TreeView) (pins : List ℕ) (choice : ℕ → Option Span → ℕ) (spans : List (Option Span)) (layers : List ℕ) → IsTree t →
    All (λ pin. pin < cells_of g) pins → ((u : ℕ) → u < length t.nodes → growing spans u ≡ pin_span g t pins u) → AreBest g ways price t pins choice →
    length layers ≡ length t.nodes → FollowsFrom t (growing spans) choice (λ node. get_or layers node 0) → IsFirstLeast g ways price t pins layers
followed g ways price t pins choice spans layers tree cells spans_are best count follows =
    let a : ℕ → ℕ = λ node. get_or layers node 0 in
    let as_pins : (v : ℕ) → 0 < v → v < length t.nodes → a v ≡ choice v (span_by (ends_at t) (pin_span g t pins) a (parent_of t v) v) =
    λ v positive below.
    follows v positive below
    ∙ ap (λ (s : Option Span). choice v s) (span_by-first (ends_at t) (growing spans) (pin_span g t pins) a (parent_of t v) v (spans_are (parent_of t v) (let early = parent-before t v tree positive below in omega arith))) in
    let in_words : Follows g t pins choice a =
    λ v positive below. as_pins v positive below ∙ ap (λ (s : Option Span). choice v s) (sym (met-span g ways price t pins a (parent_of t v) v)) in
    let assigned : IsAssignment g ways t a = best.allowed a in_words in
    record {
      nodes = count;
      assignment = assigned;
      least = best.least a assigned in_words;
      first = best.first a assigned in_words;
    }
