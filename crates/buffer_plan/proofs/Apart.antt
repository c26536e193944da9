-- Each node that is hung stands in the choice of just one node that isn't.
use Rattle.std.proofs.Common.{◌≡◌, ◌≢◌, ℕ, zero, suc, ◌+◌, ◌<◌, ◌≤◌, inl, inr, true, Option, Some, None, if◌then◌else◌, refl, sym, ap, subst, ◌∙◌, arith}
use Rattle.std.proofs.lemmas.Bool.{cases_eq, cases_lt, cases_Bool, true≢false, cond-true, cond-false}
use Rattle.std.specs.Option.{option_or}
use Rattle.elmore_delay.specs.RcTrees.{RcTree, IsRcTree}
use Rattle.ginneken_lists.specs.Candidates.{Chosen, Nothing, Buffered, Both, both, chosen_at}
use Rattle.elmore_delay.specs.BelowNodes.{lies_below}
use Rattle.elmore_delay.proofs.BelowLemmas.{below-parent, below-highest, below-through, below-chain, not-below}
use Rattle.buffer_plan.proofs.Members.{or-none}
use Rattle.buffer_plan.proofs.HungLemmas.{Held, if-same, if-other, over, choice_of_last, choice-hung, choice-other}

-- what is chosen at a node where branches meet, and over a node
both-at : (left right : Chosen) (u : ℕ) → chosen_at (both left right) u ≡ option_or (chosen_at left u) (chosen_at right u)
both-at Nothing right u = refl
both-at (Buffered at kind below) Nothing u = sym (or-none (chosen_at (Buffered at kind below) u))
both-at (Buffered at kind below) (Buffered other number lower) u = refl
both-at (Buffered at kind below) (Both one two) u = refl
both-at (Both one two) Nothing u = sym (or-none (chosen_at (Both one two) u))
both-at (Both one two) (Buffered at kind below) u = refl
both-at (Both one two) (Both three four) u = refl

pub over-here : (k : ℕ) (held : Option ℕ) (below : Chosen) → chosen_at below k ≡ None → chosen_at (over k held below) k ≡ held
over-here k None below none = none
over-here k (Some kind) below none = if-same k k (Some kind) (chosen_at below k) refl

pub over-other : (k u : ℕ) (held : Option ℕ) (below : Chosen) → u ≢ k → chosen_at (over k held below) u ≡ chosen_at below u
over-other k u None below other = refl
over-other k u (Some kind) below other = if-other u k (Some kind) (chosen_at below u) other

-- a node that isn't hung stands in no choice
pub not-chosen : (n k u v : ℕ) (t : RcTree) (p : Held) → k + n ≡ t.nodes → u < k → chosen_at (choice_of_last n t p v) u ≡ None
not-chosen zero k u v t p at below = refl
not-chosen (suc n) k u v t p at below =
    let own = not-chosen n (suc k) u v t p (omega arith) (omega arith) in
    elim (cases_eq v (t.parent k)) [
      | inl same ↦
          let under = not-chosen n (suc k) u k t p (omega arith) (omega arith) in
          ap (λ (c : Chosen). chosen_at c u) (choice-hung n k v t p at same)
          ∙ both-at (choice_of_last n t p v) (over k (p k) (choice_of_last n t p k)) u
          ∙ ap (λ (m : Option ℕ). option_or m (chosen_at (over k (p k) (choice_of_last n t p k)) u)) own
          ∙ over-other k u (p k) (choice_of_last n t p k) (λ e. omega arith) ∙ under
      | inr other ↦ ap (λ (c : Chosen). chosen_at c u) (choice-other n k v t p at other) ∙ own
    ]

-- the one node in whose choice another stands as it is held
pub record IsOwned (n k : ℕ) (t : RcTree) (p : Held) (u : ℕ) : Type 0 where
  pub owner : ℕ
  pub inside : owner < k
  pub held : chosen_at (choice_of_last n t p owner) u ≡ p u
  pub others : (v : ℕ) → v < k → v ≢ owner → chosen_at (choice_of_last n t p v) u ≡ None
  pub above : lies_below t owner u ≡ true
  pub highest : (v : ℕ) → v < k → lies_below t v u ≡ true → v ≤ owner

-- the node that is hung is owned by its parent
owned-first : (n k : ℕ) (t : RcTree) (p : Held) → IsRcTree t → k + suc n ≡ t.nodes → t.parent k < k → IsOwned (suc n) k t p k
owned-first n k t p tree at earlier =
    let q = t.parent k in
    record {
      owner = q;
      inside = earlier;
      held =
          ap (λ (c : Chosen). chosen_at c k) (choice-hung n k q t p at refl)
          ∙ both-at (choice_of_last n t p q) (over k (p k) (choice_of_last n t p k)) k
          ∙ ap (λ (m : Option ℕ). option_or m (chosen_at (over k (p k) (choice_of_last n t p k)) k)) (not-chosen n (suc k) k q t p (omega arith) (omega arith))
          ∙ over-here k (p k) (choice_of_last n t p k) (not-chosen n (suc k) k k t p (omega arith) (omega arith));
      others = λ v below other.
          ap (λ (c : Chosen). chosen_at c k) (choice-other n k v t p at other) ∙ not-chosen n (suc k) k v t p (omega arith) (omega arith);
      above = below-parent t k tree (omega arith) (omega arith);
      highest = λ v below under. below-highest t v k tree (omega arith) (omega arith) under;
    }

-- a node that the hung one owned is owned by its parent now
owned-passed : (n k u : ℕ) (t : RcTree) (p : Held) → IsRcTree t → k + suc n ≡ t.nodes → t.parent k < k → k < u → u < t.nodes → (own : IsOwned n (suc k) t p u) → own.owner ≡ k →
    IsOwned (suc n) k t p u
owned-passed n k u t p tree at earlier past inside own is =
    let q = t.parent k in
    let under : lies_below t k u ≡ true = subst (λ (w : ℕ). lies_below t w u ≡ true) is own.above in
    record {
      owner = q;
      inside = earlier;
      held =
          ap (λ (c : Chosen). chosen_at c u) (choice-hung n k q t p at refl)
          ∙ both-at (choice_of_last n t p q) (over k (p k) (choice_of_last n t p k)) u
          ∙ ap (λ (m : Option ℕ). option_or m (chosen_at (over k (p k) (choice_of_last n t p k)) u)) (own.others q (omega arith) (λ e. omega arith))
          ∙ over-other k u (p k) (choice_of_last n t p k) (λ e. omega arith)
          ∙ ap (λ (w : ℕ). chosen_at (choice_of_last n t p w) u) (sym is) ∙ own.held;
      others = λ v below other.
          ap (λ (c : Chosen). chosen_at c u) (choice-other n k v t p at other) ∙ own.others v (omega arith) (λ e. omega arith);
      above = below-through t q k u tree inside (below-parent t k tree (omega arith) (omega arith)) under;
      highest = λ v below is_under.
          below-highest t v k tree (omega arith) (omega arith) (below-chain t v k u tree inside below is_under under);
    }

-- a node that another one owned is owned by it still
owned-kept : (n k u : ℕ) (t : RcTree) (p : Held) → k + suc n ≡ t.nodes → t.parent k < k → k < u → (own : IsOwned n (suc k) t p u) → own.owner ≢ k →
    IsOwned (suc n) k t p u
owned-kept n k u t p at earlier past own apart =
    let inside = own.inside in
    let still : (v : ℕ) → v < k → chosen_at (choice_of_last (suc n) t p v) u ≡ chosen_at (choice_of_last n t p v) u = λ v below. elim (cases_eq v (t.parent k)) [
      | inl same ↦
          ap (λ (c : Chosen). chosen_at c u) (choice-hung n k v t p at same)
          ∙ both-at (choice_of_last n t p v) (over k (p k) (choice_of_last n t p k)) u
          ∙ ap (λ (m : Option ℕ). option_or (chosen_at (choice_of_last n t p v) u) m)
          (over-other k u (p k) (choice_of_last n t p k) (λ e. omega arith) ∙ own.others k (omega arith) (λ e. apart (sym e)))
          ∙ or-none (chosen_at (choice_of_last n t p v) u)
      | inr other ↦ ap (λ (c : Chosen). chosen_at c u) (choice-other n k v t p at other)
    ] in
    record {
      owner = own.owner;
      inside = omega arith;
      held = still own.owner (omega arith) ∙ own.held;
      others = λ v below other. still v below ∙ own.others v (omega arith) other;
      above = own.above;
      highest = λ v below under. own.highest v (omega arith) under;
    }

pub owned : (n k u : ℕ) (t : RcTree) (p : Held) → IsRcTree t → 0 < k → k + n ≡ t.nodes → k ≤ u → u < t.nodes → IsOwned n k t p u
owned zero k u t p tree later at from inside = absurd (omega arith)
owned (suc n) k u t p tree later at from inside =
    let earlier : t.parent k < k = tree.earlier k later (omega arith) in
    elim (cases_eq u k) [
      | inl same ↦ subst (λ (w : ℕ). IsOwned (suc n) k t p w) (sym same) (owned-first n k t p tree at earlier)
      | inr apart ↦
          let own = owned n (suc k) u t p tree (omega arith) (omega arith) (omega arith) inside in
          elim (cases_eq own.owner k) [
            | inl passed ↦ owned-passed n k u t p tree at earlier (omega arith) inside own passed
            | inr kept ↦ owned-kept n k u t p at earlier (omega arith) own kept
          ]
    ]

-- when all later nodes are hung on their parents, those below v stand in its choice, and no others
pub chosen-below : (n v u : ℕ) (t : RcTree) (p : Held) → IsRcTree t → suc v + n ≡ t.nodes → u < t.nodes →
    chosen_at (choice_of_last n t p v) u ≡ (if lies_below t v u then p u else None)
chosen-below n v u t p tree at inside = elim (cases_lt v u) [
  | inl later ↦
      let own = owned n (suc v) u t p tree (omega arith) at (omega arith) inside in
      let low = own.inside in
      elim (cases_Bool (lies_below t v u)) [
        | inl under ↦
            let most = own.highest v (omega arith) under in
            let same : own.owner ≡ v = omega arith in
            ap (λ (w : ℕ). chosen_at (choice_of_last n t p w) u) (sym same) ∙ own.held ∙ sym (cond-true (lies_below t v u) (p u) None under)
        | inr apart ↦
            own.others v (omega arith) (λ same. true≢false (sym own.above ∙ ap (λ (w : ℕ). lies_below t w u) (sym same) ∙ apart))
            ∙ sym (cond-false (lies_below t v u) (p u) None apart)
      ]
  | inr before ↦
      not-chosen n (suc v) u v t p at (omega arith) ∙ sym (cond-false (lies_below t v u) (p u) None (not-below t v u tree inside before))
]

-- when all nodes are hung, each later node stands in the choice of node 0
pub chosen-whole : (n u : ℕ) (t : RcTree) (p : Held) → IsRcTree t → 1 + n ≡ t.nodes → 0 < u → u < t.nodes → chosen_at (choice_of_last n t p 0) u ≡ p u
chosen-whole n u t p tree at later inside =
    let own = owned n 1 u t p tree (omega arith) at (omega arith) inside in
    let low = own.inside in
    let root : own.owner ≡ 0 = omega arith in
    ap (λ (w : ℕ). chosen_at (choice_of_last n t p w) u) (sym root) ∙ own.held
