-- Which sinks below a node get what they want from a signal there, by the paths to them and from the leaves.
use Rattle.std.proofs.Common.{◌≡◌, ℕ, zero, suc, ◌+◌, ◌<◌, ◌≤◌, inl, inr, Bool, true, false, ◌&&◌, not, ◌==◌, List, [], ◌∷◌, cond, take, filter, All, Option, refl, sym, ap, subst, ◌∙◌, arith}
use Rattle.std.specs.List.{count_by, list_all, prefix_len, before_first}
use Rattle.std.proofs.lemmas.Bool.{cases_Bool, cases_eq, and_parts, eq-eqb, eqb-true, ne_eqb, false≢true}
use Rattle.std.proofs.lemmas.List.Elements.{All-cons, All-head, All-tail}
use Rattle.gr_base.proofs.General.{filter-yes, filter-no}
use Rattle.rc_library.specs.Libraries.{LibraryView}
use Rattle.elmore_delay.specs.BelowNodes.{is_within, lies_below, sinks_within}
use Rattle.elmore_delay.specs.RcTrees.{Sink, RcTree, IsRcTree, path_to, above}
use Rattle.elmore_delay.proofs.BelowLemmas.{below-parent, below-through, within-more, within-itself, not-within}
use Rattle.elmore_delay.proofs.Paths.{above-more}
use Rattle.buffer_plan.proofs.HungLemmas.{Held}
use Rattle.polar_lists.specs.Polarity.{is_inverter, is_odd}
use Rattle.polar_lists.specs.Signals.{below_it, suits}
use Rattle.polar_lists.specs.SignalsBelow.{signal_from}
use Rattle.polar_lists.proofs.ServedSinks.{served_of_last, served-hung, served-other, odd-more, right, suited, at_node, suited-rest, AreServed, both-true}

-- what comes before the first node that passes, without and with the node at the head
front-none : (p : ℕ → Bool) (node : ℕ) (nodes : List ℕ) → p node ≡ true → before_first p (node ∷ nodes) ≡ []
front-none p node nodes here =
    ap (λ (b : Bool). take (cond (not b) (1 + prefix_len (λ (n : ℕ). not (p n)) nodes) 0) (node ∷ nodes)) here

front-one : (p : ℕ → Bool) (node : ℕ) (nodes : List ℕ) → p node ≡ false → before_first p (node ∷ nodes) ≡ node ∷ before_first p nodes
front-one p node nodes other =
    let q : ℕ → Bool = λ n. not (p n) in
    let more : 1 + prefix_len q nodes ≡ suc (prefix_len q nodes) = omega arith in
    ap (λ (b : Bool). take (cond (not b) (1 + prefix_len q nodes) 0) (node ∷ nodes)) other
    ∙ ap (λ (n : ℕ). take n (node ∷ nodes)) more

-- at v itself the signal is the one there; further below it is that of the parent, inverted by an inverter
below-both : (a b c : Bool) → below_it (below_it a b) c ≡ below_it a (below_it b c)
below-both true true true = refl
below-both true true false = refl
below-both true false true = refl
below-both true false false = refl
below-both false b c = refl

signal-itself : (t : RcTree) (lib : LibraryView) (p : Held) (v : ℕ) (inverted : Bool) → signal_from t lib p v inverted v ≡ inverted
signal-itself t lib p v inverted =
    ap (λ (path : List ℕ). below_it (is_odd (count_by (λ (above : ℕ). is_inverter lib (p above)) path)) inverted)
    (front-none (λ (other : ℕ). other == v) v (above t v) (eq-eqb v v refl))

signal-more : (t : RcTree) (lib : LibraryView) (p : Held) (v : ℕ) (inverted : Bool) (node : ℕ) → IsRcTree t → v < node → node < t.nodes →
    signal_from t lib p v inverted node ≡ below_it (is_inverter lib (p node)) (signal_from t lib p v inverted (t.parent node))
signal-more t lib p v inverted node tree later inside =
    let here : ℕ → Bool = λ other. other == v in
    let signal : List ℕ → Bool = λ path. is_odd (count_by (λ (above : ℕ). is_inverter lib (p above)) path) in
    let path : List ℕ = before_first here (path_to t (t.parent node)) in
    ap (λ (nodes : List ℕ). below_it (signal (before_first here (node ∷ nodes))) inverted) (above-more t node tree (omega arith) inside)
    ∙ ap (λ (nodes : List ℕ). below_it (signal nodes) inverted)
    (front-one here node (path_to t (t.parent node)) (ne_eqb node v (λ e. omega arith)))
    ∙ ap (λ (b : Bool). below_it b inverted) (odd-more lib (p node) path p node refl)
    ∙ below-both (is_inverter lib (p node)) (signal path) inverted

-- the sinks at some of the nodes get what they want where each of these nodes says so
served-on : (n : ℕ) (on signal : ℕ → Bool) (sinks : List Sink) → All (λ (sink : Sink). sink.node < n) sinks →
    ((u : ℕ) → u < n → on u ≡ true → list_all (suits (signal u)) (filter (at_node u) sinks) ≡ true) →
    AreServed signal (filter (λ (sink : Sink). on sink.node) sinks)
served-on n on signal [] inside each = λ k d lt. absurd (omega arith)
served-on n on signal (sink ∷ rest) inside each =
    let later = served-on n on signal rest (All-tail (λ (s : Sink). s.node < n) sink rest inside)
    (λ u lt is. suited-rest signal sink rest u (each u lt is)) in
    let chosen : Sink → Bool = λ s. on s.node in
    elim (cases_Bool (on sink.node)) [
      | inl is ↦
          let own = each sink.node (All-head (λ (s : Sink). s.node < n) sink rest inside) is in
          let first = and_parts (suits (signal sink.node) sink) (list_all (suits (signal sink.node)) (filter (at_node sink.node) rest))
          (ap (list_all (suits (signal sink.node))) (sym (filter-yes (at_node sink.node) sink rest (eq-eqb sink.node sink.node refl))) ∙ own) in
          subst (AreServed signal) (sym (filter-yes chosen sink rest is))
          (All-cons (λ (s : Sink). signal s.node ≡ s.flipped) sink (filter chosen rest) (right (signal sink.node) sink.flipped first.0) later)
      | inr off ↦ subst (AreServed signal) (sym (filter-no chosen sink rest off)) later
    ]

nodes-on : (on signal : ℕ → Bool) (sinks : List Sink) (u : ℕ) → AreServed signal (filter (λ (sink : Sink). on sink.node) sinks) → on u ≡ true →
    list_all (suits (signal u)) (filter (at_node u) sinks) ≡ true
nodes-on on signal [] u are is = refl
nodes-on on signal (sink ∷ rest) u are is =
    let chosen : Sink → Bool = λ s. on s.node in
    let skip : at_node u sink ≡ false → list_all (suits (signal u)) (filter (at_node u) rest) ≡ true →
    list_all (suits (signal u)) (filter (at_node u) (sink ∷ rest)) ≡ true =
    λ other later. ap (list_all (suits (signal u))) (filter-no (at_node u) sink rest other) ∙ later in
    elim (cases_Bool (on sink.node)) [
      | inl there ↦
          let all : AreServed signal (sink ∷ filter chosen rest) = subst (AreServed signal) (filter-yes chosen sink rest there) are in
          let later = nodes-on on signal rest u (All-tail (λ (s : Sink). signal s.node ≡ s.flipped) sink (filter chosen rest) all) is in
          elim (cases_Bool (at_node u sink)) [
            | inl here ↦
                let own : suits (signal u) sink ≡ true = suited (signal u) sink.flipped
                (ap signal (sym (eqb-true sink.node u here)) ∙ All-head (λ (s : Sink). signal s.node ≡ s.flipped) sink (filter chosen rest) all) in
                ap (list_all (suits (signal u))) (filter-yes (at_node u) sink rest here)
                ∙ both-true (suits (signal u) sink) (list_all (suits (signal u)) (filter (at_node u) rest)) own later
            | inr other ↦ skip other later
          ]
      | inr off ↦
          let later = nodes-on on signal rest u (subst (AreServed signal) (filter-no chosen sink rest off) are) is in
          elim (cases_Bool (at_node u sink)) [
            | inl here ↦ absurd (false≢true (sym off ∙ ap on (eqb-true sink.node u here) ∙ is))
            | inr other ↦ skip other later
          ]
    ]

-- the sinks at v and below it get what they want exactly where each such node that isn't hung yet says so
module _ (t : RcTree) (lib : LibraryView) (p : Held) (v : ℕ) (inverted : Bool) (tree : IsRcTree t) where
  abbrev signal : ℕ → Bool
  signal node = signal_from t lib p v inverted node

  served-below : (n k : ℕ) → v < k → k + n ≡ t.nodes →
      ((u : ℕ) → u < k → is_within t v u ≡ true → served_of_last n t lib p u (signal u) ≡ true) → AreServed signal (sinks_within t v)
  served-below zero k later at each =
      let all : t.nodes ≡ k = omega arith in
      served-on k (is_within t v) signal t.sinks (subst (λ (m : ℕ). All (λ (s : Sink). s.node < m) t.sinks) all tree.sinks) each
  served-below (suc n) k later at each =
      let q = t.parent k in
      let earlier : q < k = tree.earlier k (omega arith) (omega arith) in
      served-below n (suc k) (omega arith) (omega arith) (λ u below within. elim (cases_eq u k) [
        | inl last ↦
            let upper : is_within t v q ≡ true = sym (within-more t v k tree later (omega arith)) ∙ ap (is_within t v) (sym last) ∙ within in
            let parts = and_parts (served_of_last n t lib p q (signal q)) (served_of_last n t lib p k (below_it (is_inverter lib (p k)) (signal q)))
            (sym (served-hung n k q t lib p (signal q) at refl) ∙ each q earlier upper) in
            ap (λ (w : ℕ). served_of_last n t lib p w (signal w)) last
            ∙ ap (served_of_last n t lib p k) (signal-more t lib p v inverted k tree later (omega arith)) ∙ parts.1
        | inr before ↦ elim (cases_eq u q) [
          | inl same ↦
              let parts = and_parts (served_of_last n t lib p q (signal q)) (served_of_last n t lib p k (below_it (is_inverter lib (p k)) (signal q)))
              (sym (served-hung n k q t lib p (signal q) at refl) ∙ each q earlier (ap (is_within t v) (sym same) ∙ within)) in
              ap (λ (w : ℕ). served_of_last n t lib p w (signal w)) same ∙ parts.0
          | inr other ↦ sym (served-other n k u t lib p (signal u) at other) ∙ each u (omega arith) within
        ]
      ])

  nodes-below : (n k : ℕ) → v < k → k + n ≡ t.nodes → AreServed signal (sinks_within t v) →
      (u : ℕ) → u < k → is_within t v u ≡ true → served_of_last n t lib p u (signal u) ≡ true
  nodes-below zero k later at are u below within = nodes-on (is_within t v) signal t.sinks u are within
  nodes-below (suc n) k later at are u below within =
      let own = nodes-below n (suc k) (omega arith) (omega arith) are u (omega arith) within in
      elim (cases_eq u (t.parent k)) [
        | inl same ↦
            let lower : is_within t v k ≡ true = within-more t v k tree later (omega arith) ∙ ap (is_within t v) (sym same) ∙ within in
            let hung = nodes-below n (suc k) (omega arith) (omega arith) are k (omega arith) lower in
            let through : below_it (is_inverter lib (p k)) (signal u) ≡ signal k =
            ap (λ (w : ℕ). below_it (is_inverter lib (p k)) (signal w)) same ∙ sym (signal-more t lib p v inverted k tree later (omega arith)) in
            served-hung n k u t lib p (signal u) at same
            ∙ both-true (served_of_last n t lib p u (signal u)) (served_of_last n t lib p k (below_it (is_inverter lib (p k)) (signal u))) own
            (ap (served_of_last n t lib p k) through ∙ hung)
        | inr other ↦ served-other n k u t lib p (signal u) at other ∙ own
      ]

  -- at v alone, where all later nodes are hung
  pub served-from : (n : ℕ) → suc v + n ≡ t.nodes → served_of_last n t lib p v inverted ≡ true → AreServed signal (sinks_within t v)
  served-from n at is = served-below n (suc v) (omega arith) at (λ u below within. elim (cases_eq u v) [
    | inl same ↦
        ap (λ (w : ℕ). served_of_last n t lib p w (signal w)) same
        ∙ ap (served_of_last n t lib p v) (signal-itself t lib p v inverted) ∙ is
    | inr other ↦ absurd (false≢true (sym (not-within t v u tree (omega arith) (omega arith)) ∙ within))
  ])

  pub from-served : (n : ℕ) → suc v + n ≡ t.nodes → AreServed signal (sinks_within t v) → served_of_last n t lib p v inverted ≡ true
  from-served n at are =
      ap (served_of_last n t lib p v) (sym (signal-itself t lib p v inverted))
      ∙ nodes-below n (suc v) (omega arith) at are v (omega arith) (within-itself t v)

-- below a node what the nodes below it hold matters alone
pub served-within : (n k v : ℕ) (t : RcTree) (lib : LibraryView) (p q : Held) (inverted : Bool) → IsRcTree t → v < k → k + n ≡ t.nodes →
    ((node : ℕ) → k ≤ node → node < t.nodes → lies_below t v node ≡ true → p node ≡ q node) →
    served_of_last n t lib p v inverted ≡ served_of_last n t lib q v inverted
served-within zero k v t lib p q inverted tree later at each = refl
served-within (suc n) k v t lib p q inverted tree later at each =
    let own = served-within n (suc k) v t lib p q inverted tree (omega arith) (omega arith) (λ node le lt under. each node (omega arith) lt under) in
    elim (cases_eq v (t.parent k)) [
      | inl same ↦
          let hangs : lies_below t v k ≡ true = subst (λ (u : ℕ). lies_below t u k ≡ true) (sym same) (below-parent t k tree (omega arith) (omega arith)) in
          let lower = served-within n (suc k) k t lib p q (below_it (is_inverter lib (p k)) inverted) tree (omega arith) (omega arith)
          (λ node le lt under. each node (omega arith) lt (below-through t v k node tree lt hangs under)) in
          served-hung n k v t lib p inverted at same
          ∙ ap (λ (b : Bool). b && served_of_last n t lib p k (below_it (is_inverter lib (p k)) inverted)) own
          ∙ ap (λ (b : Bool). served_of_last n t lib q v inverted && b) lower
          ∙ ap (λ (o : Option ℕ). served_of_last n t lib q v inverted && served_of_last n t lib q k (below_it (is_inverter lib o) inverted))
          (each k (omega arith) (omega arith) hangs)
          ∙ sym (served-hung n k v t lib q inverted at same)
      | inr other ↦ served-other n k v t lib p inverted at other ∙ own ∙ sym (served-other n k v t lib q inverted at other)
    ]
