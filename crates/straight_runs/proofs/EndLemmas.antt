-- The ends of runs are cells of the grid.
use Rattle.std.proofs.Common.{◌≡◌, ℕ, zero, suc, ◌+◌, ◌<◌, inl, inr, List, ◌++◌, map, All, IsTrue, sym, subst, arith}
use Rattle.std.specs.List.{filter, range_with_len}
use Rattle.std.proofs.lemmas.Bool.{cases_Bool}
use Rattle.std.proofs.lemmas.List.Elements.{All-nil, All-cons, All-append}
use Rattle.gr_base.specs.declared.grid.Edge.{Edge}
use Rattle.gr_base.specs.declared.grid.Shape.{Shape}
use Rattle.gr_base.specs.declared.grid.Way.{Way}
use Rattle.gr_base.specs.declared.grid.Way.TheVariants.{East, North, Up}
use Rattle.gr_base.specs.Grid.{cells_of, edge_at, stride, has_edge}
use Rattle.gr_base.specs.EdgeSets.{Edges, set_of}
use Rattle.gr_base.proofs.GridLemmas.{high-below}
use Rattle.solution_text.specs.declared.run.Run.{Run}
use Rattle.solution_text.specs.Runs.{LieIn, begins, reach, run_from, runs_of_way, runs_of}
use Rattle.straight_runs.specs.Ends.{LiesInside}
use Rattle.straight_runs.proofs.ListLemmas.{list-within}

module _ (g : Shape) (set : Edges) (within : LieIn g set) (way : Way) where
  reach-below : (steps cell : ℕ) → cell < cells_of g → reach g set way steps cell < cells_of g
  reach-below zero cell below = below
  reach-below (suc steps) cell below =
      elim (cases_Bool (set (edge_at cell way))) [
        | inl on ↦ rw on (reach-below steps (cell + stride g way) (high-below g (edge_at cell way) (within (edge_at cell way) on)))
        | inr off ↦ rw off below
      ]

  runs-inside : (a n : ℕ) → a + n ≡ cells_of g → All (LiesInside g) (map (run_from g set way) (filter (begins g set way) (range_with_len a n)))
  runs-inside a zero size = All-nil (LiesInside g)
  runs-inside a (suc n) size =
      let rest = runs-inside (a + 1) n (omega arith) in
      let below : a < cells_of g = omega arith in
      elim (cases_Bool (begins g set way a)) [
        | inl on ↦
            rw on (All-cons (LiesInside g) (run_from g set way a) (map (run_from g set way) (filter (begins g set way) (range_with_len (a + 1) n)))
            (record { from = below; to = reach-below (cells_of g) a below }) rest)
        | inr off ↦ rw off rest
      ]

-- the maximal runs of the grid's edges lie inside the grid
pub all-inside : (g : Shape) (edges : List Edge) (runs : List Run) → All (λ e. IsTrue (has_edge g e)) edges → runs ≡ runs_of g (set_of edges) → All (LiesInside g) runs
all-inside g edges runs in_grid is =
    let set = set_of edges in
    let within = list-within g edges in_grid in
    let one = λ (way : Way). runs-inside g set within way 0 (cells_of g) (omega arith) in
    let P : List Run → Type 0 = λ rs. All (LiesInside g) rs in
    subst P (sym is)
    (All-append (LiesInside g) (runs_of_way g set East ++ runs_of_way g set North) (runs_of_way g set Up)
    (All-append (LiesInside g) (runs_of_way g set East) (runs_of_way g set North) (one East) (one North)) (one Up))
