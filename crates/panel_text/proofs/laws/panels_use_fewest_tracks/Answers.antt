use Rattle.panel_text.specs.PanelPieces.{pieces_of}
use Rattle.panel_text.proofs.PieceLemmas.{pieces-ordered}
use Rattle.track_panels.proofs.LawLemmas.{left-edge-fewest}
use Rattle.panel_text.proofs.laws.panels_use_fewest_tracks.Goals as goal

pub returns : goal.returns
returns c = λ d sets within place is. left-edge-fewest (pieces_of d sets place) (pieces-ordered d sets within place is)
