-- Replicas: what stands for a history.
use Rattle.std.specs.Prelude.{◌≡◌, ℕ, List, length, Option, Some, None, is_some, slice_get}
use Rattle.std.specs.Option.{option_and_then}
use Rattle.gr_base.specs.Trees.{TreeView}
use Rattle.grid_demand.specs.LoadSums.{LoadsView}
use Rattle.grid_demand.specs.Tables.{CapacityView}
use Rattle.book_state.specs.Books.{nets_of, booked, AreLoadsOf}
use Rattle.book_state.specs.declared.entry.Call.{Call}
use Rattle.book_state.specs.declared.entry.Call.TheVariants.{Claim as Claims, Release}
use Rattle.book_state.specs.declared.entry.Claim.{Claim}
use Rattle.book_state.specs.declared.entry.Entry.{Entry}
use Rattle.book_state.specs.declared.entry.Reply.TheVariants.{Claimed, Released}

-- how many entries a replica has read, where the claims of the booked nets stand, by net, and its loads
pub record ReplicaView : Type 0 where
  pub front : ℕ
  pub places : List (Option ℕ)
  pub loads : LoadsView

-- the tree of a claim
abbrev pub tree_of_call : Call → Option TreeView
tree_of_call (Claims claim) = Some claim.tree
tree_of_call _ = None

abbrev pub tree_of : Option Entry → Option TreeView
tree_of None = None
tree_of (Some e) = tree_of_call e.call

-- the tree of the claim at a place, if a place is given
abbrev pub tree_at_place : List Entry → Option ℕ → Option TreeView
tree_at_place h None = None
tree_at_place h (Some place) = tree_of (slice_get h place)

abbrev pub place_of : List (Option ℕ) → ℕ → Option ℕ
place_of places net = option_and_then (λ place. place) (slice_get places net)

-- the place is that of a claim with the booked tree, and there is one exactly where a tree is booked
pub record IsPlace (h : List Entry) (place : Option ℕ) (tree : Option TreeView) : Type 0 where
  pub tree_there : tree_at_place h place ≡ tree
  pub known : is_some place ≡ is_some tree

-- each net's place is that of the claim with its booked tree
abbrev pub ArePlaces : List Entry → List (Option ℕ) → Type 0
ArePlaces h places = (net : ℕ) → IsPlace h (place_of places net) (booked h net)

-- a replica stands for a history: it has read all of it, and has its bookings, demand and marks
pub record StandsFor (c : CapacityView) (h : List Entry) (r : ReplicaView) : Type 0 where
  pub front : r.front ≡ length h
  pub nets : length r.places ≡ nets_of c
  pub places : ArePlaces h r.places
  pub loads : AreLoadsOf c h r.loads

-- the claim at a place of a history was answered Claimed
pub record IsClaimed (h : List Entry) (place : ℕ) (claim : Claim) : Type 0 where
  pub e : Entry
  pub there : slice_get h place ≡ Some e
  pub call : e.call ≡ Claims claim
  pub reply : e.reply ≡ Claimed

-- the release of a net at a place of a history was answered Released
pub record IsReleased (h : List Entry) (place net : ℕ) : Type 0 where
  pub e : Entry
  pub there : slice_get h place ≡ Some e
  pub call : e.call ≡ Release net
  pub reply : e.reply ≡ Released
