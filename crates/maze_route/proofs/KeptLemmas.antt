-- What is kept of a search stands for a tree that has grown, and by another bound.
use Rattle.std.proofs.Common.{◌≡◌, ℕ, ◌+◌, ◌<◌, ◌≤◌, inl, inr, Bool, true, false, ◌&&◌, ◌||◌, ◌==◌, nat_lt, List, [], ◌∷◌, ◌++◌, length, take, get_or, All, Contains, Option, Some, None, Result, Ok, Err, OnOk, IfSome, IsSomeAnd, IsTrue, refl, sym, ap, subst, ◌∙◌, arith}
use Rattle.std.specs.List.Sorted.{IsPermutation}
use Rattle.std.proofs.lemmas.Bool.{both_ways}
use Rattle.std.proofs.lemmas.Bool.Decides.{nat_tests}
use Rattle.std.proofs.lemmas.List.Elements.{All-nil, All-cons}
use Rattle.std.proofs.lemmas.List.{take_more}
use Rattle.std.proofs.lemmas.List.Sorted.{Contains-permutation, IsPermutation-sym}
use Rattle.std.proofs.lemmas.Option.{none-some, same_Some}
use Rattle.gr_base.specs.declared.grid.Edge.{Edge}
use Rattle.gr_base.specs.Trees.{TreeView, holds, is_among}
use Rattle.maze_route.specs.Kept.{cells_of_pairs, AreWaiting, IsKept, IsLabelOf, Serves}
use Rattle.maze_route.specs.Fields.{IsPriced}
use Rattle.maze_route.specs.Labels.{label_at}
use Rattle.maze_route.specs.Queues.{QueueView, IsPushed}
use Rattle.maze_route.specs.Scales.{AreScales}
use Rattle.maze_route.specs.Search.{most_distance, IsAtMost, IsSearching, is_marked, HasGoal}
use Rattle.maze_route.specs.Steps.{size_of, cell_in, pane_source, pane_graph}
use Rattle.maze_route.specs.Walks.{Graph, Reaches, Starts, Goes_on}
use Rattle.maze_route.specs.declared.field.Field.{Field}
use Rattle.maze_route.specs.declared.front.Frontier.{Frontier}
use Rattle.maze_route.specs.declared.pane.Pane.{Pane}
use Rattle.maze_route.specs.declared.room.MazeRoom.{MazeRoom}
use Rattle.maze_route.specs.declared.scales.Scales.{Scales}
use Rattle.maze_route.specs.declared.window.Window.{Window}
use Rattle.maze_route.proofs.Distances.{make-at-most}
use Rattle.maze_route.proofs.EndLemmas.{among-cases}
use Rattle.maze_route.proofs.LabelLemmas.{contains-head, contains-more, contains-cases}

-- the new tree has the old one's cells
abbrev pub Keeps : TreeView → TreeView → Type 0
Keeps old new = (cell : ℕ) → IsTrue (holds old cell) → IsTrue (holds new cell)

source-grown : (p : Pane) (t u : TreeView) (n : ℕ) → Keeps t u → IsTrue (pane_source p t n) → IsTrue (pane_source p u n)
source-grown p t u n keeps source =
    let below : nat_lt n (size_of p) ≡ true = grind (arith, nat_tests) in
    let held : holds t (cell_in p n) ≡ true = grind (arith, nat_tests) in
    let still : holds u (cell_in p n) ≡ true = keeps (cell_in p n) held in
    ap (λ b. b && holds u (cell_in p n)) below ∙ still

-- walks from a tree are walks from one that has grown
reaches-grown : (p : Pane) (t u : TreeView) (price : Edge → Option ℕ) (v cost : ℕ) → Keeps t u → Reaches (pane_graph p t price) v cost → Reaches (pane_graph p u price) v cost
reaches-grown p t u price v cost keeps (Starts source) = Starts (source-grown p t u v keeps source)
reaches-grown p t u price v cost keeps (Goes_on {u = from} {cost = before} walk taken) = Goes_on (reaches-grown p t u price from before keeps walk) taken

kept-grown : (p : Pane) (t u : TreeView) (price : Edge → Option ℕ) (nowhere : ℕ) (front : Frontier) → Keeps t u → IsKept (pane_graph p t price) nowhere front →
    IsKept (pane_graph p u price) nowhere front
kept-grown p t u price nowhere front keeps kept = record {
  rest = kept.rest;
  searching = record {
    walked = λ v cost is. reaches-grown p t u price v cost keeps (kept.searching.walked v cost is);
    small = kept.searching.small;
    settled = kept.searching.settled;
    queued = kept.searching.queued;
  };
}

-- a room serves a tree that has grown
pub serves-grown : (w : Window) (price : Edge → Option ℕ) (room : MazeRoom) (t u : TreeView) → u.shape ≡ t.shape → Keeps t u → Serves t w price room → Serves u w price room
serves-grown w price room t u same keeps serves = record {
  grid = serves.grid ∙ sym same;
  window = serves.window;
  priced = serves.priced;
  scales = serves.scales;
  size = serves.size;
  kept = kept-grown room.field.pane t u price (size_of room.field.pane) room.front keeps serves.kept;
}

-- before any label
pub kept-empty : (graph : Graph) (nowhere : ℕ) (front : Frontier) → ((n : ℕ) → label_at front.labels.costs.items n ≡ None) → front.queue.pairs ≡ [] → IsKept graph nowhere front
kept-empty graph nowhere front none empty = record {
  rest = λ _. 0;
  searching = record {
    walked = λ v cost is. absurd (none-some cost (sym (none v) ∙ is));
    small = λ v cost is. absurd (none-some cost (sym (none v) ∙ is));
    settled = λ v cost is _. absurd (none-some cost (sym (none v) ∙ is));
    queued = λ key v waits.
        let P : List (ℕ × ℕ) → Type 0 = λ xs. Contains xs (key, v) in
        let nothing = subst P empty waits in
        absurd (let below = nothing.1 in omega arith);
  };
}

or-right : (a b : Bool) → b ≡ true → (a || b) ≡ true
or-right true b is = refl
or-right false b is = is

among-here : (x cell : ℕ) (xs : List ℕ) → x ≡ cell → IsTrue (is_among (x ∷ xs) cell)
among-here x cell xs own = let test : (x == cell) ≡ true = grind (arith, nat_tests) in ap (λ b. b || is_among xs cell) test

-- a pair that waits has its cell among the cells
cell-among : (pairs : List (ℕ × ℕ)) (key cell : ℕ) → Contains pairs (key, cell) → IsTrue (is_among (cells_of_pairs pairs) cell)
cell-among [] key cell waits = absurd (let below = waits.1 in omega arith)
cell-among (pair ∷ pairs) key cell waits =
    elim (contains-cases pair (key, cell) pairs waits) [
      | inl same ↦
          let own : pair.1 ≡ cell = ap (λ (p : ℕ × ℕ). p.1) same in
          among-here pair.1 cell (cells_of_pairs pairs) own
      | inr later ↦ or-right (pair.1 == cell) (is_among (cells_of_pairs pairs) cell) (cell-among pairs key cell later)
    ]

-- the same search, where the cells that wait do so by another bound
pub requeued : (graph : Graph) (rest : ℕ → ℕ) (label : ℕ → Option ℕ) (before pairs : List (ℕ × ℕ)) (cells : List ℕ) (nowhere : ℕ) (old : ℕ → ℕ) →
    IsSearching graph old label before nowhere → cells ≡ cells_of_pairs before → AreWaiting rest label pairs cells → IsSearching graph rest label pairs nowhere
requeued graph rest label before pairs cells nowhere old searching are waiting = record {
  walked = searching.walked;
  small = searching.small;
  settled = λ v cost is other.
      elim (searching.settled v cost is other) [
        | inl waits ↦
            let A : List ℕ → Type 0 = λ xs. IsTrue (is_among xs v) in
            inl (waiting.all v cost (subst A (sym are) (cell-among before (cost + old v) v waits)) is)
        | inr relaxed ↦ inr relaxed
      ];
  queued = waiting.only;
}

-- nothing waits yet
pub waiting-none : (rest : ℕ → ℕ) (label : ℕ → Option ℕ) (pairs : List (ℕ × ℕ)) → pairs ≡ [] → AreWaiting rest label pairs []
waiting-none rest label pairs empty = record {
  all = λ cell cost among is. absurd (both_ways true (sym among) refl);
  only = λ key cell waits.
      let P : List (ℕ × ℕ) → Type 0 = λ xs. Contains xs (key, cell) in
      let nothing = subst P empty waits in
      absurd (let below = nothing.1 in omega arith);
}

make-some-and : (o : Option ℕ) (P : ℕ → Type 0) (x : ℕ) → o ≡ Some x → P x → IsSomeAnd o P
make-some-and o P x is h = let Q : Option ℕ → Type 0 = λ q. IsSomeAnd q P in subst Q (sym is) h

-- one more cell waits
pub waiting-turn : (rest : ℕ → ℕ) (label : ℕ → Option ℕ) (before after : QueueView) (cells : List ℕ) (index cell d cost key : ℕ) → index < length cells → cell ≡ get_or cells index d →
    label cell ≡ Some cost → key ≡ cost + rest cell → IsPushed key cell before after → AreWaiting rest label before.pairs (take index cells) →
    AreWaiting rest label after.pairs (take (index + 1) cells)
waiting-turn rest label before after cells index cell d cost key below is labelled is_key pushed waiting =
    let push : take (index + 1) cells ≡ take index cells ++ cell ∷ [] = take_more cells index d below ∙ ap (λ (c : ℕ). take index cells ++ c ∷ []) (sym is) in
    record {
      all = λ other found among own.
          let A : List ℕ → Type 0 = λ xs. IsTrue (is_among xs other) in
          elim (among-cases (take index cells) cell other (subst A push among)) [
            | inl earlier ↦
                Contains-permutation ((key, cell) ∷ before.pairs) after.pairs (found + rest other, other) pushed.pairs
                (contains-more (key, cell) (found + rest other, other) before.pairs (waiting.all other found earlier own))
            | inr same ↦
                let e : cost ≡ found = same_Some cost found (sym labelled ∙ ap label same ∙ own) in
                let r = ap rest same in
                let key_is : key ≡ found + rest other = omega (arith, is_key, e, r) in
                let P : ℕ → Type 0 = λ k. Contains after.pairs (k, other) in
                let Q : ℕ → Type 0 = λ c. Contains after.pairs (key, c) in
                subst P key_is (subst Q same (Contains-permutation ((key, cell) ∷ before.pairs) after.pairs (key, cell) pushed.pairs (contains-head (key, cell) before.pairs)))
          ];
      only = λ k other waits.
          let back = Contains-permutation after.pairs ((key, cell) ∷ before.pairs) (k, other) (IsPermutation-sym ((key, cell) ∷ before.pairs) after.pairs pushed.pairs) waits in
          elim (contains-cases (key, cell) (k, other) before.pairs back) [
            | inl same ↦
                let keys : key ≡ k = ap (λ (p : ℕ × ℕ). p.0) same in
                let cells_are : cell ≡ other = ap (λ (p : ℕ × ℕ). p.1) same in
                let r = ap rest cells_are in
                make-some-and (label other) (λ c. c + rest other ≤ k) cost (ap label (sym cells_are) ∙ labelled) (omega (arith, is_key, keys, r))
            | inr older ↦ waiting.only k other older
          ];
    }

-- a search whose last pair was put back
pub search-again : (graph : Graph) (rest : ℕ → ℕ) (label : ℕ → Option ℕ) (pairs again : List (ℕ × ℕ)) (nowhere : ℕ) → IsSearching graph rest label pairs nowhere →
    IsPermutation pairs again → IsSearching graph rest label again nowhere
search-again graph rest label pairs again nowhere searching moved = record {
  walked = searching.walked;
  small = searching.small;
  settled = λ v cost is other.
      elim (searching.settled v cost is other) [
        | inl waits ↦ inl (Contains-permutation pairs again (cost + rest v, v) moved waits)
        | inr relaxed ↦ inr relaxed
      ];
  queued = λ key v waits. searching.queued key v (Contains-permutation again pairs (key, v) (IsPermutation-sym pairs again moved) waits);
}

-- the cells that wait have labels
labelled-at : (label : ℕ → Option ℕ) (pairs : List (ℕ × ℕ)) → ((key cell : ℕ) → Contains pairs (key, cell) → IsAtMost (label cell) most_distance) →
    All (λ cell. IsAtMost (label cell) most_distance) (cells_of_pairs pairs)
labelled-at label [] each = All-nil (λ cell. IsAtMost (label cell) most_distance)
labelled-at label (pair ∷ pairs) each =
    All-cons (λ cell. IsAtMost (label cell) most_distance) pair.1 (cells_of_pairs pairs) (each pair.0 pair.1 (contains-head pair pairs))
    (labelled-at label pairs (λ key cell waits. each key cell (contains-more pair (key, cell) pairs waits)))

some-and : (o : Option ℕ) (P : ℕ → Type 0) → IsSomeAnd o P → (x : ℕ) × ((o ≡ Some x) × P x)
some-and None P h = absurd h
some-and (Some x) P h = (x, (refl, h))

pub cells-labelled : (graph : Graph) (nowhere : ℕ) (front : Frontier) → IsKept graph nowhere front →
    All (λ cell. IsAtMost (label_at front.labels.costs.items cell) most_distance) (cells_of_pairs front.queue.pairs)
cells-labelled graph nowhere front kept =
    let label = label_at front.labels.costs.items in
    labelled-at label front.queue.pairs (λ key cell waits.
    let found = some-and (label cell) (λ cost. cost + kept.rest cell ≤ key) (kept.searching.queued key cell waits) in
    make-at-most (label cell) found.0 most_distance found.1.0 (kept.searching.small cell found.0 found.1.0))

-- a goal that has a label
pub known-goal : (graph : Graph) (rest : ℕ → ℕ) (label : ℕ → Option ℕ) (pairs : List (ℕ × ℕ)) (nowhere : ℕ) (marks : List Bool) (ends : List ℕ) (known : Option ℕ) →
    IsSearching graph rest label pairs nowhere → ((n : ℕ) → is_marked marks n ≡ is_among ends n) → IfSome known (IsLabelOf label ends) →
    (IfSome known (HasGoal marks label)) × IfSome known (λ distance. distance ≤ most_distance)
known-goal graph rest label pairs nowhere marks ends None searching marked known = (tt, tt)
known-goal graph rest label pairs nowhere marks ends (Some cost) searching marked known = (
  record { goal = known.cell; marked = marked known.cell ∙ known.among; low = make-at-most (label known.cell) cost cost known.labelled (omega arith) },
  searching.small known.cell cost known.labelled,
)

-- a room still serves a tree after a walk to it
pub serves-after : (t : TreeView) (w : Window) (price : Edge → Option ℕ) (old new : MazeRoom) → Serves t w price old → new.field ≡ old.field → new.scales ≡ old.scales →
    length new.front.labels.costs.items ≡ size_of old.field.pane → IsKept (pane_graph old.field.pane t price) (size_of old.field.pane) new.front → Serves t w price new
serves-after t w price old new serves same scaled size kept =
    let S : Field → Type 0 = λ f. length new.front.labels.costs.items ≡ size_of f.pane in
    let K : Field → Type 0 = λ f. IsKept (pane_graph f.pane t price) (size_of f.pane) new.front in
    record {
      grid = ap (λ (f : Field). f.pane.grid) same ∙ serves.grid;
      window = ap (λ (f : Field). f.pane.window) same ∙ serves.window;
      priced = subst (λ (f : Field). IsPriced price f) (sym same) serves.priced;
      scales = subst (λ (f : Field). AreScales f.pane.grid w price new.scales) (sym same) (subst (λ (s : Scales). AreScales old.field.pane.grid w price s) (sym scaled) serves.scales);
      size = subst S (sym same) size;
      kept = subst K (sym same) kept;
    }

pub ok-both : {A E : Type 0} (r : Result A E) (P Q R : Type 0) → OnOk r P → OnOk r Q → (P → Q → R) → OnOk r R
ok-both (Ok x) P Q R first second then_is = then_is first second
ok-both (Err e) P Q R first second then_is = tt
