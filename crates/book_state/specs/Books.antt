-- The book: bookings, demand and marks of a history, and the replies to calls.
use Rattle.std.specs.Prelude.{◌≡◌, ℕ, ◌+◌, ◌<◌, ◌≤◌, Bool, false, ◌&&◌, ◌==◌, nat_lt, min, List, length, map, take, Option, Some, None, is_some, if◌then◌else◌, IsTrue}
use Rattle.std.specs.List.{fold, filter, find, list_any, sum_by, count_by, range_with_len}
use Rattle.gr_base.specs.Grid.{has_edge, is_wire}
use Rattle.gr_base.specs.Sums.{total_overflow}
use Rattle.gr_base.specs.Trees.{TreeView, tree_edges, edges_or_none}
use Rattle.gr_base.specs.declared.grid.Edge.{Edge}
use Rattle.grid_demand.specs.LoadSums.{LoadsView, demand_at, marks_at}
use Rattle.gr_base.specs.Limits.{most_marks}
use Rattle.grid_demand.specs.Tables.{CapacityView, capacity_at, need_at}
use Rattle.book_state.specs.Entries.{AtEach, is_mark_at}
use Rattle.book_state.specs.declared.entry.Call.{Call}
use Rattle.book_state.specs.declared.entry.Call.TheVariants.{Claim as Claims, Release, Mark}
use Rattle.book_state.specs.declared.entry.Claim.{Claim}
use Rattle.book_state.specs.declared.entry.Entry.{Entry}
use Rattle.book_state.specs.declared.entry.Reply.{Reply}
use Rattle.book_state.specs.declared.entry.Reply.TheVariants.{Claimed, Taken, Full, Released, NotBooked, Marked}

-- how many nets the design has
abbrev pub nets_of : CapacityView → ℕ
nets_of c = length c.widths

-- what a call and its reply leave booked for a net, by what was booked before
abbrev pub booked_by : ℕ → Option TreeView → Call → Reply → Option TreeView
booked_by net tree (Claims claim) Claimed = if claim.net == net then Some claim.tree else tree
booked_by net tree (Release other) Released = if other == net then None else tree
booked_by net tree _ _ = tree

abbrev pub booked_after : ℕ → Option TreeView → Entry → Option TreeView
booked_after net tree e = booked_by net tree e.call e.reply

-- the booked tree of a net: that of its last claim that was answered Claimed, unless it was released since
unfoldable pub booked : List Entry → ℕ → Option TreeView
booked h net = fold (booked_after net) None h

-- the booked tree of each net, in the order of the design's nets
abbrev pub booked_routes : CapacityView → List Entry → List (Option TreeView)
booked_routes c h = map (booked h) (range_with_len 0 (nets_of c))

-- what a net takes of an edge by the tree that it has, if any
abbrev pub share_of : CapacityView → ℕ → Option TreeView → Edge → ℕ
share_of c net tree e = if edges_or_none tree e then need_at c net e else 0

-- the demand for an edge: what the booked nets take of it together
unfoldable pub demand : CapacityView → List Entry → Edge → ℕ
demand c h e = sum_by (λ net. share_of c net (booked h net) e) (range_with_len 0 (nets_of c))

-- the entry at a place is a mark, and finds the demand for the edge above its capacity
abbrev pub marks_over : CapacityView → List Entry → Edge → ℕ → Bool
marks_over c h e p = is_mark_at h p && nat_lt (capacity_at c e) (demand c (take p h) e)

-- the marks of an edge: how many marks of the history found it above its capacity, up to 1,048,576
unfoldable pub marks : CapacityView → List Entry → Edge → ℕ
marks c h e = min most_marks (count_by (marks_over c h e) (range_with_len 0 (length h)))

-- a wire edge has no room for a net's need beside the demand, within capacity and slack
abbrev pub is_full : CapacityView → (Edge → ℕ) → ℕ → ℕ → Edge → Bool
is_full c demands net slack e = is_wire e && nat_lt (capacity_at c e + slack) (demands e + need_at c net e)

-- the first such edge of a tree, by node number
abbrev pub first_full : CapacityView → (Edge → ℕ) → ℕ → ℕ → TreeView → Option Edge
first_full c demands net slack t = find (is_full c demands net slack) (tree_edges t)

-- the reply to a claim whose first full edge is this one
abbrev pub reply_by_full : (Edge → ℕ) → Option Edge → Reply
reply_by_full demands None = Claimed
reply_by_full demands (Some e) = Full e (demands e)

-- the reply to a claim of a net that isn't booked
abbrev pub reply_to_free : CapacityView → (Edge → ℕ) → Claim → Option ℕ → Reply
reply_to_free c demands claim None = Claimed
reply_to_free c demands claim (Some slack) = reply_by_full demands (first_full c demands claim.net slack claim.tree)

abbrev pub reply_to_claim : CapacityView → List Entry → Claim → Reply
reply_to_claim c h claim =
    if is_some (booked h claim.net) then Taken else reply_to_free c (demand c h) claim claim.slack

abbrev pub reply_to_release : List Entry → ℕ → Reply
reply_to_release h net = if is_some (booked h net) then Released else NotBooked

-- the total overflow
abbrev pub overflow_after : CapacityView → List Entry → ℕ
overflow_after c h = total_overflow c.shape (demand c h) (capacity_at c)

abbrev pub reply_to_mark : CapacityView → List Entry → Reply
reply_to_mark c h = Marked (overflow_after c h)

-- the reply to a call after a history
abbrev pub reply_to : CapacityView → List Entry → Call → Reply
reply_to c h (Claims claim) = reply_to_claim c h claim
reply_to c h (Release net) = reply_to_release h net
reply_to c h Mark = reply_to_mark c h

-- a claim is of a net of the design with a tree in its grid, planned from a part of a history of this length
pub record IsClaim (c : CapacityView) (length : ℕ) (claim : Claim) : Type 0 where
  pub net : claim.net < nets_of c
  pub shape : claim.tree.shape ≡ c.shape
  pub front : claim.front ≤ length

abbrev pub IsCall : CapacityView → ℕ → Call → Type 0
IsCall c length (Claims claim) = IsClaim c length claim
IsCall c length (Release net) = net < nets_of c
IsCall c length Mark = Unit {0}

-- an entry is in range, and its reply is the one to its call after the history before it
pub record IsRight (c : CapacityView) (before : List Entry) (e : Entry) : Type 0 where
  pub call : IsCall c (length before) e.call
  pub reply : e.reply ≡ reply_to c before e.call

-- a history is legal where each entry is right
pub record IsLegal (c : CapacityView) (h : List Entry) : Type 0 where
  pub right : AtEach (IsRight c) h

-- a wire edge has more demand than capacity
abbrev pub is_over : CapacityView → (Edge → ℕ) → Edge → Bool
is_over c demands e = is_wire e && nat_lt (capacity_at c e) (demands e)

-- a tree, if there is one, has such an edge
abbrev pub is_crowded : CapacityView → (Edge → ℕ) → Option TreeView → Bool
is_crowded c demands None = false
is_crowded c demands (Some t) = list_any (is_over c demands) (tree_edges t)

-- a booked net is a victim where its tree has an edge with more demand than capacity
abbrev pub is_victim : CapacityView → List Entry → ℕ → Bool
is_victim c h net = is_crowded c (demand c h) (booked h net)

-- the victims, in the order of the design's nets
abbrev pub victims : CapacityView → List Entry → List ℕ
victims c h = filter (is_victim c h) (range_with_len 0 (nets_of c))

-- loads have the demand and the marks of a history
pub record AreLoadsOf (c : CapacityView) (h : List Entry) (l : LoadsView) : Type 0 where
  pub shape : l.shape ≡ c.shape
  pub demand : (e : Edge) → IsTrue (has_edge c.shape e) → IsTrue (is_wire e) → demand_at l e ≡ demand c h e
  pub marks : (e : Edge) → IsTrue (has_edge c.shape e) → IsTrue (is_wire e) → marks_at l e ≡ marks c h e

-- an entry that books nothing and frees nothing, and isn't a mark
abbrev pub IsIdle : Call → Reply → Type 0
IsIdle (Claims claim) reply = reply ≡ Claimed → ⊥
IsIdle (Release net) reply = reply ≡ Released → ⊥
IsIdle Mark reply = ⊥
