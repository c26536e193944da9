-- Any selection of candidates, one for each node that isn't hung yet, is what some placement gives at all of them.
use Rattle.std.proofs.Common.{◌≡◌, ◌≢◌, ℕ, zero, suc, ◌+◌, ◌<◌, ◌≤◌, inl, inr, ◌==◌, List, [], ◌∷◌, Contains, Option, None, option_and_then, if◌then◌else◌, refl, sym, ap, subst, ◌∙◌, arith}
use Rattle.std.proofs.lemmas.Bool.{cases_eq}
use Rattle.rc_library.specs.Libraries.{kind_of}
use Rattle.elmore_delay.specs.RcTrees.{IsRcTree}
use Rattle.elmore_delay.specs.FromLeaves.{along, joined, hanging, sinks_seen, seen_of_last}
use Rattle.elmore_delay.specs.declared.seen.Seen.{Seen}
use Rattle.elmore_delay.proofs.Loads.{seen-other}
use Rattle.ginneken_lists.specs.Candidates.{Chosen, Candidate, both}
use Rattle.buffer_plan.specs.Picked.{Sites, all_hanging, candidates_of_last}
use Rattle.buffer_plan.proofs.Members.{contains-cases}
use Rattle.buffer_plan.proofs.Served.{MayHold, seen_above}
use Rattle.buffer_plan.proofs.HungLemmas.{Held, buffers_by, if-same, if-other, seen-hung, candidates-hung, candidates-other, over, choice_of_last, choice-hung, choice-other, seen-same, choice-same}
use Rattle.buffer_plan.proofs.Complete.{AllMay, bare}
use Rattle.buffer_plan.proofs.Comings.{joined-comes, hanging-comes}

-- what is held, with which each selected candidate is seen and chosen
pub record IsReal (n k : ℕ) (s : Sites) (o : ℕ → Candidate) : Type 0 where
  pub held : Held
  pub may : AllMay s held
  pub chosen : (v : ℕ) → v < k → choice_of_last n s.tree held v ≡ (o v).chosen
  pub seen : (v : ℕ) → v < k → seen_of_last n s.tree (buffers_by s.library held) v ≡ (o v).seen

-- the one candidate of a leaf
pub leaf-is : (s : Seen) (o : Candidate) → Contains (bare s ∷ []) o → bare s ≡ o
leaf-is s o at = elim (contains-cases (bare s) o [] at) [
  | inl same ↦ same
  | inr later ↦ let none = later.1 in absurd (omega arith)
]

-- the selection before a node was hung: the parts of which its parent's candidate was joined
abbrev pub selected_before : (k q : ℕ) (below above : Candidate) → (ℕ → Candidate) → ℕ → Candidate
selected_before k q below above o v = if v == k then below else (if v == q then above else o v)

-- what is held, with what the node that is hung holds
abbrev pub held_with : (k : ℕ) → Option ℕ → Held → Held
held_with k own p v = if v == k then own else p v

-- what is seen and chosen at the parent of a node that is hung: a candidate of the parent before, and one of the node with
-- what the node holds
pub record IsHungFrom (s : Sites) (node : ℕ) (o : Candidate) : Type 0 where
  pub one : Candidate
  pub from : Candidate
  pub held : Option ℕ
  pub may : MayHold s node held
  pub seen : o.seen ≡ joined one.seen (along (s.tree.wire node) (seen_above s held from.seen))
  pub chosen : o.chosen ≡ both one.chosen (over node held from.chosen)

-- one more node is hung: what is seen and chosen at its parent, and elsewhere
module _ (n k : ℕ) (s : Sites) (o : ℕ → Candidate) (at : k + suc n ≡ s.tree.nodes) (earlier : s.tree.parent k < k)
    (parts : IsHungFrom s k (o (s.tree.parent k)))
    (rest : IsReal n (suc k) s (selected_before k (s.tree.parent k) parts.from parts.one o)) where
  now-k : held_with k parts.held rest.held k ≡ parts.held
  now-k = if-same k k parts.held (rest.held k) refl

  now-later : (node : ℕ) → suc k ≤ node → held_with k parts.held rest.held node ≡ rest.held node
  now-later node later = if-other node k parts.held (rest.held node) (λ e. omega arith)

  pub may-now : AllMay s (held_with k parts.held rest.held)
  may-now node = elim (cases_eq node k) [
    | inl same ↦ subst (λ (m : Option ℕ). MayHold s node m) (sym (if-same node k parts.held (rest.held node) same))
        (subst (λ (u : ℕ). MayHold s u parts.held) (sym same) parts.may)
    | inr other ↦ subst (λ (m : Option ℕ). MayHold s node m) (sym (if-other node k parts.held (rest.held node) other)) (rest.may node)
  ]

  -- the selection at the node, at its parent, and elsewhere
  selected-k : selected_before k (s.tree.parent k) parts.from parts.one o k ≡ parts.from
  selected-k = if-same k k parts.from (if k == s.tree.parent k then parts.one else o k) refl

  selected-parent : (v : ℕ) → v ≡ s.tree.parent k → selected_before k (s.tree.parent k) parts.from parts.one o v ≡ parts.one
  selected-parent v same =
      if-other v k parts.from (if v == s.tree.parent k then parts.one else o v) (λ e. omega arith)
      ∙ if-same v (s.tree.parent k) parts.one (o v) same

  selected-other : (v : ℕ) → v < k → v ≢ s.tree.parent k → selected_before k (s.tree.parent k) parts.from parts.one o v ≡ o v
  selected-other v below other =
      if-other v k parts.from (if v == s.tree.parent k then parts.one else o v) (λ e. omega arith)
      ∙ if-other v (s.tree.parent k) parts.one (o v) other

  -- before the node was hung
  chosen-before : (v : ℕ) → v < suc k →
      choice_of_last n s.tree (held_with k parts.held rest.held) v ≡ (selected_before k (s.tree.parent k) parts.from parts.one o v).chosen
  chosen-before v below =
      choice-same n (suc k) v s.tree (held_with k parts.held rest.held) rest.held (omega arith) (λ node later inside. now-later node later)
      ∙ rest.chosen v below

  seen-before : (v : ℕ) → v < suc k →
      seen_of_last n s.tree (buffers_by s.library (held_with k parts.held rest.held)) v
      ≡ (selected_before k (s.tree.parent k) parts.from parts.one o v).seen
  seen-before v below =
      seen-same n (suc k) v s.tree (buffers_by s.library (held_with k parts.held rest.held)) (buffers_by s.library rest.held) (omega arith)
      (λ node later inside. ap (λ (m : Option ℕ). option_and_then (kind_of s.library) m) (now-later node later))
      ∙ rest.seen v below

  pub chosen-now : (v : ℕ) → v < k → choice_of_last (suc n) s.tree (held_with k parts.held rest.held) v ≡ (o v).chosen
  chosen-now v below =
      let p : Held = held_with k parts.held rest.held in
      let own : ℕ → Chosen = choice_of_last n s.tree p in
      elim (cases_eq v (s.tree.parent k)) [
        | inl same ↦
            choice-hung n k v s.tree p at same
            ∙ ap (λ (x : Chosen). both x (over k (p k) (own k))) (chosen-before v (omega arith) ∙ ap (λ (c : Candidate). c.chosen) (selected-parent v same))
            ∙ ap (λ (x : Chosen). both parts.one.chosen (over k (p k) x)) (chosen-before k (omega arith) ∙ ap (λ (c : Candidate). c.chosen) selected-k)
            ∙ ap (λ (m : Option ℕ). both parts.one.chosen (over k m parts.from.chosen)) now-k
            ∙ sym parts.chosen
            ∙ ap (λ (u : ℕ). (o u).chosen) (sym same)
        | inr other ↦
            choice-other n k v s.tree p at other
            ∙ chosen-before v (omega arith) ∙ ap (λ (c : Candidate). c.chosen) (selected-other v below other)
      ]

  pub seen-now : (v : ℕ) → v < k → seen_of_last (suc n) s.tree (buffers_by s.library (held_with k parts.held rest.held)) v ≡ (o v).seen
  seen-now v below =
      let p : Held = held_with k parts.held rest.held in
      let b = buffers_by s.library p in
      let own : ℕ → Seen = seen_of_last n s.tree b in
      let wire = s.tree.wire k in
      elim (cases_eq v (s.tree.parent k)) [
        | inl same ↦
            seen-hung n k v s.tree b at same
            ∙ ap (λ (x : Seen). joined x (hanging s.tree b k (own k))) (seen-before v (omega arith) ∙ ap (λ (c : Candidate). c.seen) (selected-parent v same))
            ∙ ap (λ (x : Seen). joined parts.one.seen (hanging s.tree b k x)) (seen-before k (omega arith) ∙ ap (λ (c : Candidate). c.seen) selected-k)
            ∙ ap (λ (m : Option ℕ). joined parts.one.seen (along wire (seen_above s m parts.from.seen))) now-k
            ∙ sym parts.seen
            ∙ ap (λ (u : ℕ). (o u).seen) (sym same)
        | inr other ↦
            seen-other n k v s.tree b at other
            ∙ seen-before v (omega arith) ∙ ap (λ (c : Candidate). c.seen) (selected-other v below other)
      ]

  abbrev pub real-step : IsReal (suc n) k s o
  real-step = record { held = held_with k parts.held rest.held; may = may-now; chosen = chosen-now; seen = seen-now }

-- the selection before a node was hung selects candidates
selected-contained : (n k : ℕ) (s : Sites) (o : ℕ → Candidate) (one below : Candidate) → k + suc n ≡ s.tree.nodes → s.tree.parent k < k →
    Contains (candidates_of_last n s (s.tree.parent k)) one → Contains (candidates_of_last n s k) below →
    ((v : ℕ) → v < k → Contains (candidates_of_last (suc n) s v) (o v)) →
    (v : ℕ) → v < suc k → Contains (candidates_of_last n s v) (selected_before k (s.tree.parent k) below one o v)
selected-contained n k s o one below at earlier has_one has_below each v inside = elim (cases_eq v k) [
  | inl same ↦
      subst (λ (c : Candidate). Contains (candidates_of_last n s v) c) (sym (if-same v k below (if v == s.tree.parent k then one else o v) same))
      (subst (λ (u : ℕ). Contains (candidates_of_last n s u) below) (sym same) has_below)
  | inr apart ↦
      subst (λ (c : Candidate). Contains (candidates_of_last n s v) c) (sym (if-other v k below (if v == s.tree.parent k then one else o v) apart))
      (elim (cases_eq v (s.tree.parent k)) [
        | inl same ↦
            subst (λ (c : Candidate). Contains (candidates_of_last n s v) c) (sym (if-same v (s.tree.parent k) one (o v) same))
            (subst (λ (u : ℕ). Contains (candidates_of_last n s u) one) (sym same) has_one)
        | inr other ↦
            subst (λ (c : Candidate). Contains (candidates_of_last n s v) c) (sym (if-other v (s.tree.parent k) one (o v) other))
            (subst (λ (all : List Candidate). Contains all (o v)) (candidates-other n k v s at other) (each v (omega arith)))
      ])
]

pub real : (n k : ℕ) (s : Sites) (o : ℕ → Candidate) → IsRcTree s.tree → 0 < k → k + n ≡ s.tree.nodes →
    ((v : ℕ) → v < k → Contains (candidates_of_last n s v) (o v)) → IsReal n k s o
real zero k s o tree later at each =
    let leaf : (v : ℕ) → v < k → bare (sinks_seen s.tree v) ≡ o v = λ v below. leaf-is (sinks_seen s.tree v) (o v) (each v below) in
    record {
      held = λ v. None;
      may = λ v. tt;
      chosen = λ v below. ap (λ (c : Candidate). c.chosen) (leaf v below);
      seen = λ v below. ap (λ (c : Candidate). c.seen) (leaf v below);
    }
real (suc n) k s o tree later at each =
    let earlier : s.tree.parent k < k = tree.earlier k later (omega arith) in
    let all = subst (λ (xs : List Candidate). Contains xs (o (s.tree.parent k))) (candidates-hung n k (s.tree.parent k) s at refl)
    (each (s.tree.parent k) earlier) in
    let parts = joined-comes (candidates_of_last n s (s.tree.parent k)) (all_hanging s k (candidates_of_last n s k)) (o (s.tree.parent k)) all in
    let hung = hanging-comes s k (candidates_of_last n s k) parts.other parts.among_right in
    let rest = real n (suc k) s (selected_before k (s.tree.parent k) hung.from parts.one o) tree (omega arith) (omega arith)
    (selected-contained n k s o parts.one hung.from at earlier parts.among_left hung.among each) in
    let from : IsHungFrom s k (o (s.tree.parent k)) = record {
      one = parts.one;
      from = hung.from;
      held = hung.held;
      may = hung.may;
      seen = ap (λ (c : Candidate). c.seen) (sym parts.is) ∙ ap (λ (x : Seen). joined parts.one.seen x) hung.seen;
      chosen = ap (λ (c : Candidate). c.chosen) (sym parts.is) ∙ ap (λ (x : Chosen). both parts.one.chosen x) hung.chosen;
    } in
    real-step n k s o at earlier from rest
