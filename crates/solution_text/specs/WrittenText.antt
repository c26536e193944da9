-- The text that is written of the nets' edges.
use Rattle.std.specs.Prelude.{ℕ, List, [], ◌++◌, length, Option, Some, None, slice_get, if◌then◌else◌, codes}
use Rattle.std.specs.Fmt.{decimal, signed_decimal}
use Rattle.std.specs.List.{flat_map, range_with_len}
use Rattle.gr_base.specs.declared.frame.Frame.{Frame}
use Rattle.gr_base.specs.declared.frame.Net.{Net}
use Rattle.gr_base.specs.declared.frame.Point.{Point}
use Rattle.gr_base.specs.Designs.{DesignView, centre_of, is_routed_net}
use Rattle.gr_base.specs.EdgeSets.{Edges}
use Rattle.solution_text.specs.declared.run.Run.{Run}
use Rattle.solution_text.specs.Runs.{runs_of}

-- a point as "(x,y,layer)"
abbrev pub point_text : Point → List ℕ
point_text p = codes "(" ++ signed_decimal p.x ++ codes "," ++ signed_decimal p.y ++ codes "," ++ decimal p.layer ++ codes ")"

-- a run by the centres of its ends
abbrev pub segment_text : Frame → Run → List ℕ
segment_text frame run = point_text (centre_of frame run.from) ++ codes "-" ++ point_text (centre_of frame run.to)

abbrev pub segment_line : Frame → Run → List ℕ
segment_line frame run = segment_text frame run ++ codes "\n"

-- a net's record: its name and id, a line for each maximal run of its edges, and the line "!"
abbrev pub record_text : Frame → Net → Edges → List ℕ
record_text frame net set =
    net.name ++ codes " " ++ decimal net.id ++ codes "\n" ++ flat_map (segment_line frame) (runs_of frame.shape set) ++ codes "!\n"

-- the record of a net that is routed
abbrev pub text_of_net : Frame → Option Net → Edges → List ℕ
text_of_net frame None set = []
text_of_net frame (Some net) set = if is_routed_net (Some net) then record_text frame net set else []

-- the text of the nets' edges: the records of the routed nets in the design's order
abbrev pub written_text : DesignView → (sets : ℕ → Edges) → List ℕ
written_text d sets =
    flat_map (λ net. text_of_net d.frame (slice_get d.nets net) (sets net)) (range_with_len 0 (length d.nets))
