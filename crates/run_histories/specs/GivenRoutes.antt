-- Routes that are given to nets before the rounds begin, and the claims of these.
use Rattle.std.specs.Prelude.{◌≡◌, ℕ, Bool, ◌&&◌, List, [], ◌∷◌, ◌++◌, length, Option, Some, None, is_none, if◌then◌else◌, IsTrue}
use Rattle.std.specs.List.{fold, filter, range_with_len}
use Rattle.gr_base.specs.Capacities.{usable}
use Rattle.gr_base.specs.Designs.{DesignView, is_routed}
use Rattle.gr_base.specs.Plans.{IsRouteOfNet}
use Rattle.gr_base.specs.Trees.{TreeView, edges_of, tree_at}
use Rattle.gr_base.specs.declared.grid.Edge.{Edge}
use Rattle.book_state.specs.Views.{entry_of}
use Rattle.book_state.specs.declared.entry.Call.TheVariants.{Claim as Claims}
use Rattle.book_state.specs.declared.entry.Entry.{Entry}
use Rattle.book_state.specs.declared.entry.PlanKind.TheVariants.{Given}
use Rattle.book_state.specs.declared.entry.Reply.TheVariants.{Claimed}
use Rattle.run_histories.specs.Rounds.{first_worker, claim_of}

-- a tree may be given to a net: the net is routed, the tree routes it, and its edges are usable
pub record IsGivenRoute (d : DesignView) (net : ℕ) (tree : TreeView) : Type 0 where
  pub routed : IsTrue (is_routed d net)
  pub routes : IsRouteOfNet d net tree
  pub usable_edges : (e : Edge) → IsTrue (edges_of tree e) → IsTrue (usable d e)

-- each given tree is such a one
pub record AreGivenRoutes (d : DesignView) (given : List (Option TreeView)) : Type 0 where
  pub each : (net : ℕ) (tree : TreeView) → tree_at given net ≡ Some tree → IsGivenRoute d net tree

-- the tree that a routed net is given, if any: a net with one is kept, and any other routed net is open
abbrev pub given_to : DesignView → List (Option TreeView) → ℕ → Option TreeView
given_to d given net = if is_routed d net then tree_at given net else None

abbrev pub is_open : DesignView → List (Option TreeView) → ℕ → Bool
is_open d given net = is_routed d net && is_none (tree_at given net)

-- the open nets, in the design's order
abbrev pub open_nets : DesignView → List (Option TreeView) → List ℕ
open_nets d given = filter (is_open d given) (range_with_len 0 (length d.nets))

-- a history and, behind it, the claim of the tree that a net is given, if any: by the first worker, at any demand, with
-- its own place as front
abbrev pub with_given : List Entry → ℕ → Option TreeView → List Entry
with_given h net None = h
with_given h net (Some tree) = h ++ entry_of first_worker (Claims (claim_of net tree None (length h) Given)) Claimed ∷ []

-- the claims of the kept nets among the design's first nets, so many, in its order
unfoldable pub given_among : DesignView → List (Option TreeView) → ℕ → List Entry
given_among d given nets =
    fold (λ (h : List Entry) (net : ℕ). with_given h net (given_to d given net)) [] (range_with_len 0 nets)

-- the claims of all kept nets
abbrev pub given_claims : DesignView → List (Option TreeView) → List Entry
given_claims d given = given_among d given (length d.nets)
