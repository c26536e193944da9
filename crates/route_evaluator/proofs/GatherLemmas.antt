-- The edges of runs, put into a set one after another.
use Rattle.std.proofs.Common.{◌≡◌, ℕ, suc, ◌+◌, ◌*◌, ◌<◌, ◌≤◌, inl, inr, min, max, Bool, ◌||◌, List, length, get_or, take, IsTrue, sym, ap, subst, ◌∙◌, arith}
use Rattle.std.proofs.Math.Nat.{mul-le-mul_right}
use Rattle.std.proofs.Math.Bool.{or-false, or_assoc}
use Rattle.std.proofs.lemmas.Bool.{cases_lt}
use Rattle.std.proofs.lemmas.List.Folds.{list_any_more}
use Rattle.std.specs.List.{list_any}
use Rattle.gr_base.specs.declared.grid.Edge.{Edge}
use Rattle.gr_base.specs.declared.grid.Shape.{Shape}
use Rattle.gr_base.specs.declared.grid.Way.{Way}
use Rattle.gr_base.specs.EdgeSets.{is_edge}
use Rattle.gr_base.specs.Grid.{steps_between, way_between, edge_at, stride, high_of, has_edge}
use Rattle.solution_text.specs.declared.run.Run.{Run}
use Rattle.solution_text.specs.Covers.{covers}
use Rattle.solution_text.proofs.RunLemmas.{stride-positive}
use Rattle.route_reader.specs.Solutions.{IsRun}
use Rattle.route_evaluator.specs.EdgeNumbers.{edge_number, edges_numbered}
use Rattle.route_evaluator.specs.Gathers.{covered_by, Adds}
use Rattle.route_evaluator.specs.NumberSets.{with_number}
use Rattle.route_evaluator.proofs.EdgeNumberLemmas.{edges-with}
use Rattle.route_evaluator.proofs.LineLemmas.{IsLine, on_line, line-edge, line-high, line-covers, run-line}

abbrev pub first_of : Run → ℕ
first_of run = min run.from run.to

abbrev pub last_of : Run → ℕ
last_of run = max run.from run.to

-- the edges from the run's lower end to a cell were put in
pub record IsUnderWay (g : Shape) (run : Run) (way : Way) (low : ℕ) (old new : List ℕ) : Type 0 where
  pub steps : ℕ
  pub most : steps ≤ steps_between g (first_of run) (last_of run)
  pub at : low ≡ first_of run + steps * stride g way
  pub edges : (e : Edge) → edges_numbered new e ≡ (edges_numbered old e || on_line g way (first_of run) steps e)

pub under-start : (g : Shape) (run : Run) (way : Way) (low : ℕ) (old : List ℕ) → low ≡ first_of run → IsUnderWay g run way low old old
under-start g run way low old is = record {
  steps = 0;
  most = omega arith;
  at = is ∙ omega arith;
  edges = λ e. sym (or-false (edges_numbered old e));
}

abbrev LineOf : Shape → Run → Way → Type 0
LineOf g run way = IsLine g way (first_of run) (steps_between g (first_of run) (last_of run)) (last_of run)

line-of : (g : Shape) (run : Run) (way : Way) → IsRun g run → way ≡ way_between g (first_of run) (last_of run) → LineOf g run way
line-of g run way is same = subst (λ (w : Way). LineOf g run w) (sym same) (run-line g run is).line

-- the end isn't reached yet
fewer : (g : Shape) (run : Run) (way : Way) (low steps : ℕ) → LineOf g run way → low ≡ first_of run + steps * stride g way → low < last_of run →
    steps < steps_between g (first_of run) (last_of run)
fewer g run way low steps line at less =
    elim (cases_lt steps (steps_between g (first_of run) (last_of run))) [
      | inl few ↦ few
      | inr many ↦
          let high = line-high g way (first_of run) (steps_between g (first_of run) (last_of run)) (last_of run) line in
          let more : steps_between g (first_of run) (last_of run) * stride g way ≤ steps * stride g way = mul-le-mul_right (stride g way) many in
          absurd (omega (arith, high, more, at, less))
    ]

pub under-edge : (g : Shape) (run : Run) (way : Way) (low : ℕ) (old new : List ℕ) → IsRun g run → way ≡ way_between g (first_of run) (last_of run) →
    IsUnderWay g run way low old new → low < last_of run → IsTrue (has_edge g (edge_at low way))
under-edge g run way low old new is same under less =
    let line = line-of g run way is same in
    let few = fewer g run way low under.steps line under.at less in
    subst (λ (n : ℕ). IsTrue (has_edge g (edge_at n way))) (sym under.at)
    (line-edge g way (first_of run) (steps_between g (first_of run) (last_of run)) (last_of run) line under.steps few)

pub under-next : (g : Shape) (run : Run) (way : Way) (low next : ℕ) (old new more : List ℕ) → IsRun g run → way ≡ way_between g (first_of run) (last_of run) →
    IsUnderWay g run way low old new → low < last_of run → more ≡ with_number new (edge_number (edge_at low way)) → next ≡ high_of g (edge_at low way) →
    IsUnderWay g run way next old more
under-next g run way low next old new more is same under less put on =
    let line = line-of g run way is same in
    let few = fewer g run way low under.steps line under.at less in
    let here : low ≡ first_of run + under.steps * stride g way = under.at in
    let one : suc under.steps * stride g way ≡ under.steps * stride g way + stride g way = omega arith in
    record {
      steps = suc under.steps;
      most = omega (arith, few);
      at = on ∙ omega (arith, here, one);
      edges = λ e.
          ap (λ (ns : List ℕ). edges_numbered ns e) put
          ∙ edges-with new (edge_at low way) e
          ∙ ap (λ (b : Bool). b || is_edge e (edge_at low way)) (under.edges e)
          ∙ or_assoc (edges_numbered old e) (on_line g way (first_of run) under.steps e) (is_edge e (edge_at low way))
          ∙ ap (λ (n : ℕ). edges_numbered old e || (on_line g way (first_of run) under.steps e || is_edge e (edge_at n way))) here;
    }

pub under-end : (g : Shape) (run : Run) (way : Way) (low : ℕ) (old new : List ℕ) → IsRun g run → way ≡ way_between g (first_of run) (last_of run) →
    IsUnderWay g run way low old new → last_of run ≤ low → Adds (covers g run) old new
under-end g run way low old new is same under done e =
    let line = line-of g run way is same in
    let count : ℕ = steps_between g (first_of run) (last_of run) in
    let high = line-high g way (first_of run) count (last_of run) line in
    let positive = stride-positive g way in
    let all : under.steps ≡ count =
    elim (cases_lt under.steps count) [
      | inl few ↦
          let less : suc under.steps * stride g way ≤ count * stride g way = mul-le-mul_right (stride g way) few in
          absurd (omega (arith, high, less, under.at, done, positive))
      | inr many ↦ let most = under.most in omega (arith, many, most)
    ] in
    under.edges e
    ∙ ap (λ (n : ℕ). edges_numbered old e || on_line g way (first_of run) n e) all
    ∙ ap (λ (b : Bool). edges_numbered old e || b)
    (sym (line-covers g way (first_of run) count (last_of run) line e) ∙ sym ((run-line g run is).covers_is e))

-- one more run
pub gather-next : (g : Shape) (runs : List Run) (i : ℕ) (d : Run) (old before after : List ℕ) → i < length runs →
    Adds (covered_by g (take i runs)) old before → Adds (covers g (get_or runs i d)) before after → Adds (covered_by g (take (i + 1) runs)) old after
gather-next g runs i d old before after within done more e =
    let covered : Run → Bool = λ run. covers g run e in
    more e
    ∙ ap (λ (b : Bool). b || covers g (get_or runs i d) e) (done e)
    ∙ or_assoc (edges_numbered old e) (list_any covered (take i runs)) (covers g (get_or runs i d) e)
    ∙ ap (λ (b : Bool). edges_numbered old e || b) (sym (list_any_more covered runs i d within))
