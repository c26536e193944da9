-- The book of a design's rounds, the routes that it chooses, and the verdict on them.
use Rattle.std.specs.Prelude.{◌≡◌, ℕ, ◌≤◌, false, List, Option, Some, None, Result, length, slice_get, take, IsTrue, IfOk, OnOk}
use Rattle.cost_rules.specs.declared.sight.Watch.{Watch}
use Rattle.cost_rules.specs.declared.sight.Watch.TheVariants.{Never, Still, Goal}
use Rattle.gr_base.specs.Designs.{DesignView, is_routed, is_routed_net}
use Rattle.gr_base.specs.EdgeSets.{Edges, IsJoined}
use Rattle.gr_base.specs.Trees.{TreeView, IsTree, edges_or_none, route_edges, tree_at}
use Rattle.gr_base.specs.declared.frame.Net.{Net}
use Rattle.gr_base.specs.declared.grid.Shape.{Shape}
use Rattle.grid_demand.specs.Tables.{capacity_of}
use Rattle.book_state.specs.Books.{booked, IsLegal}
use Rattle.book_state.specs.Entries.{AtEach}
use Rattle.book_state.specs.Marks.{least_mark}
use Rattle.book_state.specs.Views.{BookView}
use Rattle.book_state.specs.declared.entry.Entry.{Entry}
use Rattle.route_evaluator.specs.NetTrees.{AreTrees as AreNetTrees}
use Rattle.route_evaluator.specs.Verdicts.{IsVerdict}
use Rattle.route_evaluator.specs.declared.verdict.Verdict.{Verdict}
use Rattle.straight_runs.specs.Routed.{HaveTrees}
use Rattle.batch_rounds.specs.BatchedHistories.{Batching, batches_of, IsBatched, IsNumbered}
use Rattle.ripup_workers.specs.declared.rounds.Rounds.{Rounds}
use Rattle.run_histories.specs.Hands.{ArePartedTo}
use Rattle.run_histories.specs.RunHistories.{Setting, asked_for, IsRunHistory}
use Rattle.run_histories.specs.Standing.{Stands}
use Rattle.run_histories.specs.declared.hands.HandLog.{HandLog}
use Rattle.router_top.specs.declared.booking.BookedRoutes.{BookedRoutes}
use Rattle.word_reader.specs.declared.order.Options.{Options}
use Rattle.word_reader.specs.declared.order.Stopping.{Stopping}

-- the edges of each net's booked tree
abbrev pub booked_edges : List Entry → ℕ → Edges
booked_edges h net = edges_or_none (booked h net)

-- each routed net is joined in its set of edges
abbrev pub AllJoined : DesignView → (ℕ → Edges) → Type 0
AllJoined d sets =
    (number : ℕ) → (net : Net) → slice_get d.nets number ≡ Some net → IsTrue (is_routed_net (Some net)) →
    IsJoined d.frame.shape (sets number) net.pins

-- the watch that ends rounds as they are to stop, and its goal
abbrev pub watch_of : Stopping → Watch
watch_of Stopping.Never = Never
watch_of Stopping.Still = Still
watch_of (Stopping.Goal overflow) = Goal

abbrev pub goal_of : Stopping → ℕ
goal_of Stopping.Never = 0
goal_of Stopping.Still = 0
goal_of (Stopping.Goal overflow) = overflow

-- the rounds by workers that the options ask for, from these given trees
abbrev pub setting_of : DesignView → (given : List (Option TreeView)) → Options → Setting
setting_of d given options =
    asked_for d given options.rule options.workers options.rounds (watch_of options.stop) (goal_of options.stop)

-- the rounds in batches of so many nets that they ask for, in which the number of workers is no part
abbrev pub batching_of : DesignView → (given : List (Option TreeView)) → Options → (batch : ℕ) → Batching
batching_of d given options batch = batches_of d given options.rule options.rounds batch

-- a batched history: the marks are at hand 0, and all other entries at hand 1
pub record IsInBatches (t : Batching) (h : List Entry) : Type 0 where
  pub batched : IsBatched t h
  pub numbers : AtEach (λ before e. IsNumbered e) h

-- the history of the rounds that are asked for: in batches where a number of nets is given, else by workers side by
-- side
abbrev pub IsHistoryBy : DesignView → (given : List (Option TreeView)) → Options → (batch : Option ℕ) → List Entry →
    Type 0
IsHistoryBy d given options None h = IsRunHistory (setting_of d given options) h
IsHistoryBy d given options (Some batch) h = IsInBatches (batching_of d given options batch) h

-- the book of a design's rounds, which begin from given trees: each entry of its history has the reply that the rules give, the history is one of the
-- rounds that are asked for, and the logs of the hands part it
pub record IsBookOf (d : DesignView) (given : List (Option TreeView)) (options : Options) (book : BookView)
    (hands : List HandLog) : Type 0 where
  pub capacity : book.capacity ≡ capacity_of d
  pub legal : IsLegal book.capacity book.history
  pub made : IsHistoryBy d given options options.batch book.history
  pub parted : ArePartedTo options.workers book.history hands

-- a design's rounds, at whose first mark of least overflow exactly the routed nets are booked
pub record AreRoundsOf (d : DesignView) (given : List (Option TreeView)) (options : Options) (r : Rounds) : Type 0 where
  pub made : IsBookOf d given options r.book.state r.hands.items
  pub least : least_mark r.book.state.history ≡ Some r.chosen
  pub within : r.chosen ≤ length r.book.state.history
  pub stands : Stands d (take r.chosen r.book.state.history)

-- a design's routes: the trees booked at the first mark of least overflow; exactly the routed nets have one, and it
-- joins their pins
pub record AreChosenRoutes (d : DesignView) (book : BookView) (front : ℕ) (trees : List
    (Option TreeView)) : Type 0 where
  pub least : least_mark book.history ≡ Some front
  pub booked : (net : ℕ) → tree_at trees net ≡ booked (take front book.history) net
  pub routed : HaveTrees d trees
  pub free : (net : ℕ) → is_routed d net ≡ false → tree_at trees net ≡ None
  pub joined : AllJoined d (route_edges trees)

-- each tree is one, in the grid
abbrev pub AreTrees : Shape → List (Option TreeView) → Type 0
AreTrees g trees = (net : ℕ) → (t : TreeView) → tree_at trees net ≡ Some t → IsTree t × (t.shape ≡ g)

-- a design's rounds, and the trees that are booked at their first mark of least overflow
pub record AreBookedRoutes (d : DesignView) (given : List (Option TreeView)) (options : Options) (r : BookedRoutes)
    : Type 0 where
  pub rounds : AreRoundsOf d given options r.rounds
  pub booked : (net : ℕ) → tree_at r.routes net ≡ booked (take r.rounds.chosen r.rounds.book.state.history) net

-- likewise, whatever trees the rounds begin from
abbrev pub HaveBookedRoutes : DesignView → Options → BookedRoutes → Type 0
HaveBookedRoutes d options r = (given : List (Option TreeView)) × AreBookedRoutes d given options r

-- the verdict on a design's trees
abbrev pub IsVerdictOn : DesignView → Options → List (Option TreeView) → Verdict → Type 0
IsVerdictOn d options trees v = IsVerdict d options.via_cost (route_edges trees) v

-- the verdict on a design's trees, each of which is one, where it is given
abbrev pub GivesVerdict : {E : Type 0} → DesignView → Options → List (Option TreeView) → Result Verdict E → Type 0
GivesVerdict d options trees given = IfOk given (IsVerdictOn d options trees) × OnOk given (AreNetTrees d trees)
