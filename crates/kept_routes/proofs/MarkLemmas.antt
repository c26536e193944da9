-- The marks of nodes on ways to pins.
use Rattle.std.proofs.Common.{◌≡◌, ◌⊎◌, ℕ, ◌+◌, ◌<◌, ◌≤◌, ◌||◌, ◌==◌, inl, inr, Bool, true, false, List, [], ◌∷◌, length, take, get_or, set, replicate, Some, None, refl, sym, ap, subst, ◌∙◌, arith}
use Rattle.std.proofs.lemmas.Bool.{cases_eq, cases_lt, or_cases, or_left, or_right, eqb-true, eq-eqb, false≢true}
use Rattle.std.proofs.lemmas.List.{length-set, get_or-set_same, get_or-set_other, get_or-replicate, get_or_past, length-replicate, take_all}
use Rattle.std.proofs.lemmas.List.Folds.{list_any_more}
use Rattle.std.proofs.lemmas.Option.{none-some, same_Some}
use Rattle.gr_base.specs.Trees.{TreeView, cell_at, is_among, node_with, parent_at}
use Rattle.gr_base.specs.declared.tree.Node.{Node}
use Rattle.gr_base.proofs.TreeLemmas.{node_with-at}
use Rattle.kept_routes.specs.Cuts.{is_set, IsAbove, Same, Higher, AreMarked, AreWanted, MarksAbove}

-- ---- one more mark

pub set-below : (marks : List Bool) (n : ℕ) → is_set marks n ≡ true → n < length marks
set-below marks n is =
    elim (cases n) [ inl below ↦ below | inr past ↦ absurd (false≢true (sym (get_or_past marks n false past) ∙ is)) ]
  where
    cases : (k : ℕ) → (k < length marks) ⊎ (length marks ≤ k)
    cases k = cases_lt k (length marks)

pub none-set : (n k : ℕ) → is_set (replicate n false) k ≡ true → ⊥
none-set n k is =
    let below = set-below (replicate n false) k is in
    let long = length-replicate n false in
    false≢true (sym (get_or-replicate n k false false (omega (arith, below, long))) ∙ is)

module _ (marks : List Bool) (m : ℕ) (below : m < length marks) where
  pub set-now : is_set (set marks m true) m ≡ true
  set-now = get_or-set_same marks m true false below

  pub set-kept : (n : ℕ) → is_set marks n ≡ true → is_set (set marks m true) n ≡ true
  set-kept n is =
      elim (cases_eq n m) [
        | inl same ↦ ap (λ (k : ℕ). is_set (set marks m true) k) same ∙ set-now
        | inr other ↦ get_or-set_other marks m n true false other ∙ is
      ]

  pub set-only : (n : ℕ) → is_set (set marks m true) n ≡ true → (n ≡ m) ⊎ (is_set marks n ≡ true)
  set-only n is =
      elim (cases_eq n m) [
        | inl same ↦ inl same
        | inr other ↦ inr (sym (get_or-set_other marks m n true false other) ∙ is)
      ]

-- ---- the nodes of pins

pub none-marked : (t : TreeView) (marks : List Bool) → marks ≡ replicate (length t.nodes) false → AreMarked t [] marks
none-marked t marks is = record {
  long = ap (λ (bs : List Bool). length bs) is ∙ length-replicate (length t.nodes) false;
  all = λ pin node none there. absurd (false≢true none);
  only = λ node on. absurd (none-set (length t.nodes) node (sym (ap (λ (bs : List Bool). is_set bs node) is) ∙ on));
}

taken-none : (pins : List ℕ) → take 0 pins ≡ []
taken-none [] = refl
taken-none (pin ∷ pins) = refl

pub marked-first : (t : TreeView) (pins : List ℕ) (marks : List Bool) → AreMarked t [] marks → AreMarked t (take 0 pins) marks
marked-first t pins marks marked = subst (λ (ps : List ℕ). AreMarked t ps marks) (sym (taken-none pins)) marked

pub marked-all : (t : TreeView) (pins : List ℕ) (n : ℕ) (marks : List Bool) → length pins ≤ n → AreMarked t (take n pins) marks → AreMarked t pins marks
marked-all t pins n marks past marked = subst (λ (ps : List ℕ). AreMarked t ps marks) (take_all n pins past) marked

module _ (t : TreeView) (pins : List ℕ) (at pin : ℕ) (marks : List Bool) (below : at < length pins) (is : get_or pins at pin ≡ pin)
    (marked : AreMarked t (take at pins) marks) where
  more : (x : ℕ) → is_among (take (at + 1) pins) x ≡ (is_among (take at pins) x || (pin == x))
  more x =
      list_any_more (λ other. other == x) pins at pin below ∙ ap (λ (n : ℕ). is_among (take at pins) x || (n == x)) is

  earlier : (x : ℕ) → is_among (take at pins) x ≡ true → is_among (take (at + 1) pins) x ≡ true
  earlier x among = more x ∙ or_left (is_among (take at pins) x) (pin == x) among

  pub marked-skip : node_with t.nodes pin ≡ None → AreMarked t (take (at + 1) pins) marks
  marked-skip none = record {
    long = marked.long;
    all = λ x node among there. elim (or_cases (is_among (take at pins) x) (pin == x) (sym (more x) ∙ among)) [
      | inl old ↦ marked.all x node old there
      | inr new ↦ absurd (none-some node (sym none ∙ ap (node_with t.nodes) (eqb-true pin x new) ∙ there))
    ];
    only = λ node on. let was = marked.only node on in (was.0, was.1, earlier was.0 was.2);
  }

  pub marked-next : (node : ℕ) → node_with t.nodes pin ≡ Some node → node < length marks → AreMarked t (take (at + 1) pins) (set marks node true)
  marked-next node found inside = record {
    long = length-set marks node true ∙ marked.long;
    all = λ x other among there. elim (or_cases (is_among (take at pins) x) (pin == x) (sym (more x) ∙ among)) [
      | inl old ↦ set-kept marks node inside other (marked.all x other old there)
      | inr new ↦
          let same : node ≡ other = same_Some node other (sym found ∙ ap (node_with t.nodes) (eqb-true pin x new) ∙ there) in
          subst (λ (k : ℕ). is_set (set marks node true) k ≡ true) same (set-now marks node inside)
    ];
    only = λ other on. elim (set-only marks node inside other on) [
      | inl same ↦
          (pin, ap (cell_at t.nodes) same ∙ node_with-at t.nodes pin node found, more pin ∙ or_right (is_among (take at pins) pin) (pin == pin) (eq-eqb pin pin refl))
      | inr old ↦ (let was = marked.only other old in (was.0, was.1, earlier was.0 was.2))
    ];
  }

-- ---- the nodes above them

pub above-none : (t : TreeView) (marks : List Bool) (from : ℕ) → length marks ≤ from → MarksAbove t from marks marks
above-none t marks from past = record {
  long = refl;
  closed = λ node parent behind on there. (let below = set-below marks node on in absurd (omega (arith, below, behind, past)));
  kept = λ node on. on;
  only = λ node on. (node, on, Same);
}

above-parent : (nodes : List Node) (node parent below : ℕ) → parent_at nodes node ≡ Some parent → parent < node → IsAbove nodes node below → IsAbove nodes parent below
above-parent nodes node parent below up less Same = Higher up less Same
above-parent nodes node parent below up less (Higher {parent = next} hung lower rest) = Higher hung lower (above-parent nodes node parent next up less rest)

module _ (t : TreeView) (from : ℕ) (old new : List Bool) (above : MarksAbove t (from + 1) old new) where
  pub above-skip : is_set new from ≡ false → MarksAbove t from old new
  above-skip off = record {
    long = above.long;
    closed = λ node parent behind on there. elim (cases_eq node from) [
      | inl same ↦ absurd (false≢true (sym off ∙ ap (is_set new) (sym same) ∙ on))
      | inr other ↦ above.closed node parent (omega (arith, behind, other)) on there
    ];
    kept = above.kept;
    only = above.only;
  }

  pub above-next : (parent : ℕ) → is_set new from ≡ true → parent_at t.nodes from ≡ Some parent → parent < from → MarksAbove t from old (set new parent true)
  above-next parent on up less =
      let from_below = set-below new from on in
      let inside : parent < length new = omega (arith, from_below, less) in
      record {
        long = length-set new parent true ∙ above.long;
        closed = λ node other behind set_on there. elim (set-only new parent inside node set_on) [
          | inl same ↦ absurd (omega (arith, same, behind, less))
          | inr was ↦ elim (cases_eq node from) [
            | inl here ↦
                let is : parent ≡ other = same_Some parent other (sym up ∙ ap (parent_at t.nodes) (sym here) ∙ there) in
                subst (λ (k : ℕ). is_set (set new parent true) k ≡ true) is (set-now new parent inside)
            | inr later ↦ set-kept new parent inside other (above.closed node other (omega (arith, behind, later)) was there)
          ]
        ];
        kept = λ node was. set-kept new parent inside node (above.kept node was);
        only = λ node set_on. elim (set-only new parent inside node set_on) [
          | inl same ↦
              let of = above.only from on in
              (of.0, of.1, subst (λ (k : ℕ). IsAbove t.nodes k of.0) (sym same) (above-parent t.nodes from parent of.0 up less of.2))
          | inr was ↦ above.only node was
        ];
      }

-- down to the first node but one
pub above-all : (t : TreeView) (from : ℕ) (old new : List Bool) → from ≤ 1 → MarksAbove t from old new → MarksAbove t 1 old new
above-all t from old new low above = record {
  long = above.long;
  closed = λ node parent behind on there. above.closed node parent (omega (arith, low, behind)) on there;
  kept = above.kept;
  only = above.only;
}

pub wanted-are : (t : TreeView) (pins : List ℕ) (marked wanted : List Bool) → AreMarked t pins marked → MarksAbove t 1 marked wanted → AreWanted t pins wanted
wanted-are t pins marked wanted pinned above = record {
  long = above.long ∙ pinned.long;
  all = λ pin node among there. above.kept node (pinned.all pin node among there);
  closed = above.closed;
  only = λ node on.
      let of = above.only node on in
      let pin = pinned.only of.0 of.1 in
      record { below = of.0; above = of.2; pin = pin.0; there = pin.1; is_pin = pin.2 };
}
