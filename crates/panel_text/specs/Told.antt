-- What is told of panels, one after another.
use Rattle.std.specs.Prelude.{◌≡◌, ℕ, ◌+◌, ◌*◌, ◌^◌, ◌≤◌, List, ◌++◌, fold, if◌then◌else◌, codes}
use Rattle.std.specs.Fmt.{decimal}
use Rattle.gr_base.specs.Designs.{DesignView}
use Rattle.gr_base.specs.EdgeSets.{Edges}
use Rattle.gr_base.specs.declared.grid.Way.{Way}
use Rattle.track_panels.specs.declared.piece.Piece.{Piece}
use Rattle.track_panels.specs.Numberings.{tracks_of}
use Rattle.panel_text.specs.declared.place.PanelPlace.{PanelPlace}
use Rattle.panel_text.specs.declared.starts.Starts.{Starts}
use Rattle.panel_text.specs.declared.told.Told.{Told}
use Rattle.panel_text.specs.Gathered.{AreStarts}
use Rattle.panel_text.specs.PanelPieces.{pieces_of}
use Rattle.panel_text.specs.Texts.{has_some, lines_of}

-- what is told once a panel with these pieces is told too
abbrev pub with_pieces : DesignView → PanelPlace → List Piece → Told → Told
with_pieces d place pieces told = record {
  lines = told.lines ++ lines_of d place pieces;
  panels = told.panels + (if has_some pieces then 1 else 0);
  tracks = told.tracks + tracks_of pieces;
}

abbrev pub with_panel : DesignView → (ℕ → Edges) → Told → PanelPlace → Told
with_panel d sets told place = with_pieces d place (pieces_of d sets place) told

-- what is told once these panels are
abbrev pub with_panels : DesignView → (ℕ → Edges) → Told → List PanelPlace → Told
with_panels d sets told places = fold (with_panel d sets) told places

-- what is told, behind its numbers
abbrev pub told_text : Told → List ℕ
told_text told =
    codes "panels " ++ decimal told.panels ++ codes "\n"
    ++ codes "tracks " ++ decimal told.tracks ++ codes "\n" ++ told.lines

-- these panels were told, of sets whose runs these are
abbrev pub Tell : DesignView → Way → Starts → List PanelPlace → (old new : Told) → Type 0
Tell d way s places old new = (sets : ℕ → Edges) → AreStarts d sets way 0 s → new ≡ with_panels d sets old places

-- so many panels at most were told; each has 2^31 tracks at most
pub record IsWithin (count : ℕ) (told : Told) : Type 0 where
  pub panels : told.panels ≤ count
  pub tracks : told.tracks ≤ count * 2 ^ 31
