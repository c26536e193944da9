-- The text of routes, and its parts.
use Rattle.std.specs.Prelude.{ℕ, ◌-◌, List, ◌++◌, Option, slice_get, codes}
use Rattle.std.specs.Fmt.{decimal}
use Rattle.std.specs.List.{flat_map, range_with_len}
use Rattle.gr_base.specs.Designs.{DesignView}
use Rattle.gr_base.specs.Trees.{TreeView, route_edges}
use Rattle.gr_base.specs.declared.frame.Net.{Net}
use Rattle.solution_text.specs.WrittenText.{text_of_net, written_text}

-- the line of a net's name and id
abbrev pub heading_text : Net → List ℕ
heading_text net = net.name ++ codes " " ++ decimal net.id ++ codes "\n"

-- the record of a net that is routed, by the edges of its tree
abbrev pub net_text : DesignView → List (Option TreeView) → ℕ → List ℕ
net_text d trees net = text_of_net d.frame (slice_get d.nets net) (route_edges trees net)

-- the text of the edges of each net's tree
abbrev pub routes_text : DesignView → List (Option TreeView) → List ℕ
routes_text d trees = written_text d (route_edges trees)

-- the records of the routed nets from the first number on, below the last
abbrev pub nets_text : DesignView → List (Option TreeView) → (first last : ℕ) → List ℕ
nets_text d trees first last = flat_map (net_text d trees) (range_with_len first (last - first))
