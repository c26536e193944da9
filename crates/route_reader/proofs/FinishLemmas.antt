-- The solution that was gathered.
use Rattle.std.proofs.Common.{◌≡◌, ℕ, true, List, [], length, map, Ok, sym, ap, ◌∙◌, arith}
use Rattle.std.specs.List.{range_with_len}
use Rattle.std.proofs.lemmas.List.{ext_get_or, get_or-map, length-map}
use Rattle.std.proofs.lemmas.List.FromFn.{get_or-map-range_with_len, length-map-range_with_len}
use Rattle.gr_base.specs.Designs.{DesignView}
use Rattle.gr_base.specs.declared.grid.Shape.{Shape}
use Rattle.gr_text.specs.Tokens.{AtEnd}
use Rattle.solution_text.specs.declared.run.Run.{Run}
use Rattle.solution_text.specs.Grammar.{Progress}
use Rattle.route_reader.specs.Solutions.{SolutionView}
use Rattle.route_reader.specs.SolutionStore.{runs_between}
use Rattle.route_reader.specs.SolutionText.{runs_of_net, solution_from, end_of, is_between}
use Rattle.route_reader.specs.declared.solution.Stretch.{Stretch}
use Rattle.route_reader.specs.declared.gathering.Position.TheVariants as at
use Rattle.route_reader.specs.declared.gathering.Gathering.{Gathering}
use Rattle.route_reader.specs.Gathered.{mode_of, Stretches, Gathers}

all-stretches : (nets : ℕ) (found : List (ℕ × Run)) (runs : List Run) (stretches : List Stretch) → length stretches ≡ nets → Stretches nets found runs stretches →
    map (runs_of_net found) (range_with_len 0 nets) ≡ map (runs_between runs) stretches
all-stretches nets found runs stretches count reads =
    let made = length-map-range_with_len (runs_of_net found) 0 nets in
    let stored = length-map stretches (runs_between runs) in
    let nowhere : Stretch = record { start = 0; end = 0 } in
    ext_get_or [] (map (runs_of_net found) (range_with_len 0 nets)) (map (runs_between runs) stretches) (omega arith)
    (λ net below.
    get_or-map-range_with_len (runs_of_net found) 0 nets net net [] (omega arith) (omega arith)
    ∙ sym (reads net nowhere (omega arith))
    ∙ sym (get_or-map (runs_between runs) stretches net nowhere [] (omega arith)))

-- the text ends between two records
pub finished : (d : DesignView) (s : Progress) (g : Gathering) (number : ℕ) (shape : Shape) → Gathers d s g → g.position ≡ at.Between → shape ≡ d.frame.shape →
    solution_from d (end_of s number AtEnd) ≡ Ok (record { shape = shape; runs = map (runs_between g.runs.items) g.stretches.items })
finished d s g number shape gathers position shape_is =
    let mode : is_between s.mode ≡ true = ap is_between (gathers.mode ∙ ap (mode_of g.name.items) position) in
    rw mode (ap (λ (runs : List (List Run)). let v : SolutionView = record { shape = d.frame.shape; runs = runs } in Ok v)
    (all-stretches (length d.nets) s.found g.runs.items g.stretches.items gathers.fits.stretches gathers.stretches)
    ∙ ap (λ (form : Shape). let v : SolutionView = record { shape = form; runs = map (runs_between g.runs.items) g.stretches.items } in Ok v) (sym shape_is))
