-- The text of the buffers in the trees of a design's nets.
use Rattle.std.specs.Prelude.{◌≡◌, ℕ, ◌-◌, List, [], ◌++◌, length, filter, count_by, Option, Some, None, is_some, unwrap_or, option_and_then, slice_get, if◌then◌else◌, IsTrue, IfSome, IsSomeAnd, codes}
use Rattle.std.specs.Fmt.{decimal, signed_decimal}
use Rattle.std.specs.List.{flat_map, range_with_len}
use Rattle.gr_base.specs.Designs.{DesignView, centre_of, is_routed}
use Rattle.gr_base.specs.Grid.{cells_of}
use Rattle.gr_base.specs.Sums.{sum_routed}
use Rattle.gr_base.specs.Trees.{TreeView, node_with, tree_at}
use Rattle.gr_base.specs.declared.frame.Frame.{Frame}
use Rattle.gr_base.specs.declared.frame.Net.{Net}
use Rattle.gr_text.specs.Lines.{number_line}
use Rattle.rc_library.specs.Libraries.{LibraryView, name_of}
use Rattle.elmore_delay.specs.Placements.{placed_at, NamesKinds}
use Rattle.elmore_delay.specs.PlanLists.{plan_at}
use Rattle.elmore_delay.specs.declared.plans.Plan.{Plan}
use Rattle.solution_text.specs.WrittenText.{point_text}

-- the kind of the buffer at the node that has a cell, or none
abbrev pub kind_on : TreeView → List (Option ℕ) → ℕ → Option ℕ
kind_on t kinds cell = option_and_then (placed_at kinds) (node_with t.nodes cell)

-- the cells with buffers, rising
abbrev pub buffered_cells : TreeView → List (Option ℕ) → List ℕ
buffered_cells t kinds = filter (λ cell. is_some (kind_on t kinds cell)) (range_with_len 0 (cells_of t.shape))

-- the line of a buffer of a kind: the centre of its cell, and the kind's name
abbrev pub kind_line : Frame → LibraryView → (cell : ℕ) → Option ℕ → List ℕ
kind_line frame lib cell kind =
    point_text (centre_of frame cell) ++ codes " " ++ unwrap_or (option_and_then (name_of lib) kind) [] ++ codes "\n"

abbrev pub buffer_line : Frame → LibraryView → TreeView → List (Option ℕ) → ℕ → List ℕ
buffer_line frame lib t kinds cell = kind_line frame lib cell (kind_on t kinds cell)

-- the lines of a placement's buffers, rising by their cells
abbrev pub placement_text : Frame → LibraryView → TreeView → List (Option ℕ) → List ℕ
placement_text frame lib t kinds = flat_map (buffer_line frame lib t kinds) (buffered_cells t kinds)

-- the line of a net with its plan: its name and id, the required time, and how many buffers there are
abbrev pub plan_line : Net → Plan → List ℕ
plan_line net plan =
    codes "net " ++ net.name ++ codes " " ++ decimal net.id
    ++ codes " required " ++ signed_decimal plan.required
    ++ codes " buffers " ++ decimal (count_by is_some plan.placement) ++ codes "\n"

-- the line of a net without a legal placement
abbrev pub no_legal_line : Net → List ℕ
no_legal_line net = codes "net " ++ net.name ++ codes " " ++ decimal net.id ++ codes " has no legal placement\n"

-- the lines of a net, where there is one with a tree: those of its plan, or that it has no legal placement
abbrev pub plan_text : Frame → LibraryView → Option Net → Option TreeView → Option Plan → List ℕ
plan_text frame lib (Some net) (Some t) (Some plan) = plan_line net plan ++ placement_text frame lib t plan.placement
plan_text frame lib (Some net) (Some t) None = no_legal_line net
plan_text frame lib _ _ _ = []

-- the lines of a routed net
abbrev pub net_buffers : DesignView → LibraryView → List (Option TreeView) → List (Option Plan) → ℕ → List ℕ
net_buffers d lib trees plans net =
    if is_routed d net then plan_text d.frame lib (slice_get d.nets net) (tree_at trees net) (plan_at plans net) else []

-- the lines of the routed nets from the first number on, below the last
abbrev pub net_lines : DesignView → LibraryView → List (Option TreeView) → List (Option Plan) →
    (first last : ℕ) → List ℕ
net_lines d lib trees plans first last = flat_map (net_buffers d lib trees plans) (range_with_len first (last - first))

-- how many buffers a plan has, if there is one
abbrev pub buffers_in : Option Plan → ℕ
buffers_in None = 0
buffers_in (Some plan) = count_by is_some plan.placement

-- how many buffers the routed nets have together
abbrev pub total_line : DesignView → List (Option Plan) → List ℕ
total_line d plans = number_line (codes "buffers") (sum_routed d (λ net. buffers_in (plan_at plans net)))

-- that line, and the lines of each of these nets in the design's order
abbrev pub buffers_text : DesignView → LibraryView → List (Option TreeView) → List (Option Plan) → List ℕ
buffers_text d lib trees plans = total_line d plans ++ net_lines d lib trees plans 0 (length d.nets)

-- a plan for a tree of the design, with kinds of the library
pub record IsPlanFor (d : DesignView) (lib : LibraryView) (t : TreeView) (plan : Plan) : Type 0 where
  pub shape : t.shape ≡ d.frame.shape
  pub nodes : length plan.placement ≡ length t.nodes
  pub kinds : NamesKinds lib plan.placement

-- each routed net has a tree and a plan for it
abbrev pub ArePlanned : DesignView → LibraryView → List (Option TreeView) → List (Option Plan) → Type 0
ArePlanned d lib trees plans = (net : ℕ) → IsTrue (is_routed d net) →
    IsSomeAnd (tree_at trees net) (λ t. IsSomeAnd (plan_at plans net) (IsPlanFor d lib t))

-- each routed net has a tree, and a plan for it or none
abbrev pub AreSomePlanned : DesignView → LibraryView → List (Option TreeView) → List (Option Plan) → Type 0
AreSomePlanned d lib trees plans = (net : ℕ) → IsTrue (is_routed d net) →
    IsSomeAnd (tree_at trees net) (λ t. IfSome (plan_at plans net) (IsPlanFor d lib t))
