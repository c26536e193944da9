-- What the written text says when it is read back.
use Rattle.std.specs.Prelude.{◌≡◌, ℕ, ◌&&◌}
use Rattle.gr_base.specs.declared.grid.Edge.{Edge}
use Rattle.gr_base.specs.Designs.{DesignView, IsDesign, is_routed}
use Rattle.gr_base.specs.EdgeSets.{Edges}
use Rattle.solution_text.specs.Runs.{LieIn}
use Rattle.solution_text.specs.Cover.{cover}
use Rattle.solution_text.specs.WrittenText.{written_text}

-- the written text of sets of the grid's edges gives each routed net its set, and no edge to any other net
abbrev pub WrittenTextCovers : Type 0
WrittenTextCovers =
    (d : DesignView) → IsDesign d → (sets : ℕ → Edges) → ((net : ℕ) → LieIn d.frame.shape (sets net)) → (net : ℕ) → (e : Edge) →
    cover d (written_text d sets) net e ≡ (is_routed d net && sets net e)
