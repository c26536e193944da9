-- A solution's runs are the grid's.
use Rattle.std.proofs.Common.{◌≡◌, ℕ, ◌-◌, ◌<◌, List, [], length, map, drop, All, slice_index_or, subst, sym, ap, ◌∙◌, arith}
use Rattle.std.proofs.lemmas.List.{get_or-map, length-map}
use Rattle.std.proofs.lemmas.List.Elements.{All-take, All-drop}
use Rattle.gr_base.specs.declared.grid.Shape.{Shape}
use Rattle.solution_text.specs.declared.run.Run.{Run}
use Rattle.route_reader.specs.Solutions.{IsRun}
use Rattle.route_reader.specs.SolutionStore.{runs_between}
use Rattle.route_reader.specs.declared.solution.Stretch.{Stretch}

-- where each net's runs are the grid's, so are those of one net
pub runs-of-net : (g : Shape) (runs : List Run) (stretches : List Stretch) (net : ℕ) (stretch : Stretch) →
    All (All (IsRun g)) (map (runs_between runs) stretches) → net < length stretches → stretch ≡ slice_index_or stretches net stretch →
    All (IsRun g) (runs_between runs stretch)
runs-of-net g runs stretches net stretch each inside is =
    subst (All (IsRun g)) (get_or-map (runs_between runs) stretches net stretch [] inside ∙ ap (runs_between runs) (sym is))
    (each net [] (subst (λ n. net < n) (sym (length-map stretches (runs_between runs))) inside))

-- where all runs are the grid's, so are those of each stretch
pub each-run : (g : Shape) (runs : List Run) (stretches : List Stretch) → All (IsRun g) runs → All (All (IsRun g)) (map (runs_between runs) stretches)
each-run g runs stretches good net other inside =
    let count = length-map stretches (runs_between runs) in
    let nowhere : Stretch = record { start = 0; end = 0 } in
    let stretch : Stretch = slice_index_or stretches net nowhere in
    subst (All (IsRun g)) (sym (get_or-map (runs_between runs) stretches net nowhere other (omega arith)))
    (All-take (IsRun g) (stretch.end - stretch.start) (drop stretch.start runs) (All-drop (IsRun g) stretch.start runs good))
