-- Which sinks get what they want, from the leaves to the driver.
use Rattle.std.proofs.Common.{◌≡◌, ◌≢◌, ℕ, zero, suc, ◌+◌, ◌-◌, ◌<◌, ◌≤◌, inl, inr, Bool, true, false, ◌&&◌, not, ◌==◌, List, [], ◌∷◌, filter, sum_by, All, Option, None, refl, sym, ap, subst, ◌∙◌, if◌then◌else◌, arith}
use Rattle.std.specs.List.{count_by, list_all}
use Rattle.std.proofs.lemmas.Bool.{cases_Bool, cases_eq, and_parts, eq-eqb, eqb-true}
use Rattle.std.proofs.lemmas.List.Elements.{All-cons, All-head, All-tail}
use Rattle.std.proofs.lemmas.List.Sums.{sum_by-append}
use Rattle.gr_base.proofs.General.{filter-yes, filter-no}
use Rattle.rc_library.specs.Libraries.{LibraryView}
use Rattle.elmore_delay.specs.RcTrees.{Sink, RcTree, IsRcTree, path_to}
use Rattle.elmore_delay.proofs.Paths.{above-more}
use Rattle.buffer_plan.proofs.HungLemmas.{Held, if-same, if-other}
use Rattle.polar_lists.specs.Polarity.{is_inverter, is_odd, is_inverted}
use Rattle.polar_lists.specs.Signals.{below_it, suits, suits_all}

-- below a node, of its children those that are among so many last nodes: with a signal there each sink gets what it wants
abbrev pub served_of_last : ℕ → RcTree → LibraryView → Held → ℕ → Bool → Bool
served_of_last zero t lib p v inverted = suits_all t v inverted
served_of_last (suc n) t lib p v inverted =
    let node = t.nodes - suc n in
    if v == t.parent node
    then served_of_last n t lib p v inverted && served_of_last n t lib p node (below_it (is_inverter lib (p node)) inverted)
    else served_of_last n t lib p v inverted

served-step : (n k v : ℕ) (t : RcTree) (lib : LibraryView) (p : Held) (inverted : Bool) → k + suc n ≡ t.nodes →
    served_of_last (suc n) t lib p v inverted
    ≡ (if v == t.parent k
    then served_of_last n t lib p v inverted && served_of_last n t lib p k (below_it (is_inverter lib (p k)) inverted)
    else served_of_last n t lib p v inverted)
served-step n k v t lib p inverted at =
    let node : t.nodes - suc n ≡ k = omega arith in
    ap (λ (m : ℕ). if v == t.parent m
    then served_of_last n t lib p v inverted && served_of_last n t lib p m (below_it (is_inverter lib (p m)) inverted)
    else served_of_last n t lib p v inverted) node

pub served-hung : (n k v : ℕ) (t : RcTree) (lib : LibraryView) (p : Held) (inverted : Bool) → k + suc n ≡ t.nodes → v ≡ t.parent k →
    served_of_last (suc n) t lib p v inverted
    ≡ (served_of_last n t lib p v inverted && served_of_last n t lib p k (below_it (is_inverter lib (p k)) inverted))
served-hung n k v t lib p inverted at same =
    served-step n k v t lib p inverted at
    ∙ if-same v (t.parent k) (served_of_last n t lib p v inverted && served_of_last n t lib p k (below_it (is_inverter lib (p k)) inverted))
    (served_of_last n t lib p v inverted) same

pub served-other : (n k v : ℕ) (t : RcTree) (lib : LibraryView) (p : Held) (inverted : Bool) → k + suc n ≡ t.nodes → v ≢ t.parent k →
    served_of_last (suc n) t lib p v inverted ≡ served_of_last n t lib p v inverted
served-other n k v t lib p inverted at other =
    served-step n k v t lib p inverted at
    ∙ if-other v (t.parent k) (served_of_last n t lib p v inverted && served_of_last n t lib p k (below_it (is_inverter lib (p k)) inverted))
    (served_of_last n t lib p v inverted) other

-- of the last n nodes alone what they hold matters
pub served-same : (n k v : ℕ) (t : RcTree) (lib : LibraryView) (p q : Held) (inverted : Bool) → k + n ≡ t.nodes →
    ((node : ℕ) → k ≤ node → node < t.nodes → p node ≡ q node) → served_of_last n t lib p v inverted ≡ served_of_last n t lib q v inverted
served-same zero k v t lib p q inverted at each = refl
served-same (suc n) k v t lib p q inverted at each =
    let later : (node : ℕ) → suc k ≤ node → node < t.nodes → p node ≡ q node = λ node le lt. each node (omega arith) lt in
    let own = served-same n (suc k) v t lib p q inverted (omega arith) later in
    elim (cases_eq v (t.parent k)) [
      | inl same ↦
          served-hung n k v t lib p inverted at same
          ∙ ap (λ (b : Bool). b && served_of_last n t lib p k (below_it (is_inverter lib (p k)) inverted)) own
          ∙ ap (λ (b : Bool). served_of_last n t lib q v inverted && b)
          (served-same n (suc k) k t lib p q (below_it (is_inverter lib (p k)) inverted) (omega arith) later)
          ∙ ap (λ (o : Option ℕ). served_of_last n t lib q v inverted && served_of_last n t lib q k (below_it (is_inverter lib o) inverted))
          (each k (omega arith) (omega arith))
          ∙ sym (served-hung n k v t lib q inverted at same)
      | inr other ↦ served-other n k v t lib p inverted at other ∙ own ∙ sym (served-other n k v t lib q inverted at other)
    ]

-- the signal below a node is that below its parent, inverted by the inverter that it may hold; below node 0 it is plain
pub odd-more : (lib : LibraryView) (held : Option ℕ) (path : List ℕ) (p : Held) (node : ℕ) → p node ≡ held →
    is_odd (count_by (λ (above : ℕ). is_inverter lib (p above)) (node ∷ path))
    ≡ below_it (is_inverter lib held) (is_odd (count_by (λ (above : ℕ). is_inverter lib (p above)) path))
odd-more lib held path p node is =
    let f : ℕ → ℕ = λ above. if is_inverter lib (p above) then 1 else 0 in
    ap is_odd (sum_by-append f (node ∷ []) path)
    ∙ ap (λ (o : Option ℕ). is_odd (0 + (if is_inverter lib o then 1 else 0) + sum_by f path)) is
    ∙ by (is_inverter lib held) (sum_by f path)
  where
    by : (b : Bool) (m : ℕ) → is_odd (0 + (if b then 1 else 0) + m) ≡ below_it b (is_odd m)
    by true m = let one : 0 + 1 + m ≡ suc m = omega arith in ap is_odd one
    by false m = let none : 0 + 0 + m ≡ m = omega arith in ap is_odd none

pub inverted-more : (t : RcTree) (lib : LibraryView) (p : Held) (node : ℕ) → IsRcTree t → 0 < node → node < t.nodes →
    is_inverted t lib p node ≡ below_it (is_inverter lib (p node)) (is_inverted t lib p (t.parent node))
inverted-more t lib p node tree later inside =
    ap (λ (path : List ℕ). is_odd (count_by (λ (above : ℕ). is_inverter lib (p above)) (node ∷ path))) (above-more t node tree later inside)
    ∙ odd-more lib (p node) (path_to t (t.parent node)) p node refl

pub inverted-root : (t : RcTree) (lib : LibraryView) (p : Held) → p 0 ≡ None → is_inverted t lib p 0 ≡ false
inverted-root t lib p none = odd-more lib None [] p 0 none

-- a sink wants the signal that it gets
pub right : (inverted flipped : Bool) → (if inverted then flipped else not flipped) ≡ true → inverted ≡ flipped
right true true is = refl
right true false is = sym is
right false true is = is
right false false is = refl

pub suited : (inverted flipped : Bool) → inverted ≡ flipped → (if inverted then flipped else not flipped) ≡ true
suited true true is = refl
suited true false is = sym is
suited false true is = is
suited false false is = refl

abbrev pub AreServed : (ℕ → Bool) → List Sink → Type 0
AreServed signal sinks = All (λ (sink : Sink). signal sink.node ≡ sink.flipped) sinks

abbrev pub at_node : ℕ → Sink → Bool
at_node v sink = sink.node == v

pub suited-rest : (signal : ℕ → Bool) (sink : Sink) (rest : List Sink) (v : ℕ) → list_all (suits (signal v)) (filter (at_node v) (sink ∷ rest)) ≡ true →
    list_all (suits (signal v)) (filter (at_node v) rest) ≡ true
suited-rest signal sink rest v all = elim (cases_Bool (at_node v sink)) [
  | inl here ↦ (and_parts (suits (signal v) sink) (list_all (suits (signal v)) (filter (at_node v) rest))
      (ap (list_all (suits (signal v))) (sym (filter-yes (at_node v) sink rest here)) ∙ all)).1
  | inr other ↦ ap (list_all (suits (signal v))) (sym (filter-no (at_node v) sink rest other)) ∙ all
]

served-from_nodes : (n : ℕ) (signal : ℕ → Bool) (sinks : List Sink) → All (λ (sink : Sink). sink.node < n) sinks →
    ((v : ℕ) → v < n → list_all (suits (signal v)) (filter (at_node v) sinks) ≡ true) → AreServed signal sinks
served-from_nodes n signal [] inside each = λ k d lt. absurd (omega arith)
served-from_nodes n signal (sink ∷ rest) inside each =
    let own = each sink.node (All-head (λ (s : Sink). s.node < n) sink rest inside) in
    let first = and_parts (suits (signal sink.node) sink) (list_all (suits (signal sink.node)) (filter (at_node sink.node) rest))
    (ap (list_all (suits (signal sink.node))) (sym (filter-yes (at_node sink.node) sink rest (eq-eqb sink.node sink.node refl))) ∙ own) in
    All-cons (λ (s : Sink). signal s.node ≡ s.flipped) sink rest (right (signal sink.node) sink.flipped first.0)
    (served-from_nodes n signal rest (All-tail (λ (s : Sink). s.node < n) sink rest inside) (λ v lt. suited-rest signal sink rest v (each v lt)))

nodes-from_served : (signal : ℕ → Bool) (sinks : List Sink) (v : ℕ) → AreServed signal sinks → list_all (suits (signal v)) (filter (at_node v) sinks) ≡ true
nodes-from_served signal [] v are = refl
nodes-from_served signal (sink ∷ rest) v are =
    let later = nodes-from_served signal rest v (All-tail (λ (s : Sink). signal s.node ≡ s.flipped) sink rest are) in
    elim (cases_Bool (at_node v sink)) [
      | inl here ↦
          let same : sink.node ≡ v = eqb-true sink.node v here in
          let own : suits (signal v) sink ≡ true = suited (signal v) sink.flipped
          (ap signal (sym same) ∙ All-head (λ (s : Sink). signal s.node ≡ s.flipped) sink rest are) in
          ap (list_all (suits (signal v))) (filter-yes (at_node v) sink rest here)
          ∙ ap (λ (b : Bool). b && list_all (suits (signal v)) (filter (at_node v) rest)) own ∙ later
      | inr other ↦ ap (list_all (suits (signal v))) (filter-no (at_node v) sink rest other) ∙ later
    ]

pub both-true : (x y : Bool) → x ≡ true → y ≡ true → (x && y) ≡ true
both-true x y first second = ap (λ (b : Bool). b && y) first ∙ second

-- each sink gets what it wants exactly where each node that isn't hung yet says so
module _ (t : RcTree) (lib : LibraryView) (p : Held) (tree : IsRcTree t) where
  pub sinks-served : (n k : ℕ) → 0 < k → k + n ≡ t.nodes →
      ((v : ℕ) → v < k → served_of_last n t lib p v (is_inverted t lib p v) ≡ true) → AreServed (is_inverted t lib p) t.sinks
  sinks-served zero k later at each =
      let all : t.nodes ≡ k = omega arith in
      served-from_nodes k (is_inverted t lib p) t.sinks (subst (λ (m : ℕ). All (λ (s : Sink). s.node < m) t.sinks) all tree.sinks) each
  sinks-served (suc n) k later at each =
      let q = t.parent k in
      let earlier : q < k = tree.earlier k later (omega arith) in
      let parts = and_parts (served_of_last n t lib p q (is_inverted t lib p q))
      (served_of_last n t lib p k (below_it (is_inverter lib (p k)) (is_inverted t lib p q)))
      (sym (served-hung n k q t lib p (is_inverted t lib p q) at refl) ∙ each q earlier) in
      sinks-served n (suc k) (omega arith) (omega arith) (λ v below. elim (cases_eq v k) [
        | inl last ↦
            ap (λ (u : ℕ). served_of_last n t lib p u (is_inverted t lib p u)) last
            ∙ ap (served_of_last n t lib p k) (inverted-more t lib p k tree later (omega arith)) ∙ parts.1
        | inr before ↦ elim (cases_eq v q) [
          | inl same ↦ ap (λ (u : ℕ). served_of_last n t lib p u (is_inverted t lib p u)) same ∙ parts.0
          | inr other ↦ sym (served-other n k v t lib p (is_inverted t lib p v) at other) ∙ each v (omega arith)
        ]
      ])

  pub nodes-served : (n k : ℕ) → 0 < k → k + n ≡ t.nodes → AreServed (is_inverted t lib p) t.sinks →
      (v : ℕ) → v < k → served_of_last n t lib p v (is_inverted t lib p v) ≡ true
  nodes-served zero k later at are v below = nodes-from_served (is_inverted t lib p) t.sinks v are
  nodes-served (suc n) k later at are v below =
      let own = nodes-served n (suc k) (omega arith) (omega arith) are v (omega arith) in
      elim (cases_eq v (t.parent k)) [
        | inl same ↦
            let hung = nodes-served n (suc k) (omega arith) (omega arith) are k (omega arith) in
            let through : below_it (is_inverter lib (p k)) (is_inverted t lib p v) ≡ is_inverted t lib p k =
            ap (λ (u : ℕ). below_it (is_inverter lib (p k)) (is_inverted t lib p u)) same ∙ sym (inverted-more t lib p k tree later (omega arith)) in
            served-hung n k v t lib p (is_inverted t lib p v) at same
            ∙ both-true (served_of_last n t lib p v (is_inverted t lib p v))
            (served_of_last n t lib p k (below_it (is_inverter lib (p k)) (is_inverted t lib p v))) own
            (ap (served_of_last n t lib p k) through ∙ hung)
        | inr other ↦ served-other n k v t lib p (is_inverted t lib p v) at other ∙ own
      ]
