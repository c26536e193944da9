-- A mark that is followed.
use Rattle.std.proofs.Common.{◌≡◌, ℕ, ◌+◌, ◌<◌, ◌≤◌, inl, inr, Bool, true, false, not, is_some, ◌==◌, List, [], ◌∷◌, ◌++◌, length, map, replicate, Option, Some, None, is_none, if◌then◌else◌, slice_set, refl, sym, ap, subst, ◌∙◌, arith}
use Rattle.std.specs.Option.{option_or}
use Rattle.std.specs.List.{range_with_len}
use Rattle.std.proofs.lemmas.Bool.{cases_eq, cases_lt, cond-true, cond-false}
use Rattle.std.proofs.lemmas.List.{length-set, get_or-set_same, get_or-set_other, get_or-replicate, get_or_past, length-replicate, ext_get_or}
use Rattle.std.proofs.lemmas.List.Elements.{All-push, All-pop}
use Rattle.std.proofs.lemmas.List.FromFn.{length-map-range_with_len, get_or-map-range_with_len}
use Rattle.std.proofs.lemmas.List.Sums.{fold_push, sum_by_push}
use Rattle.elmore_delay.specs.Placements.{placed_at}
use Rattle.ginneken_lists.specs.Candidates.{Chosen, Nothing, Buffered, Both, chosen_at}
use Rattle.ginneken_lists.specs.Trails.{chosen_of}
use Rattle.buffer_plan.specs.Gathered.{IsWithin}
use Rattle.buffer_plan.specs.Following.{named_at, named_with, size_of, sizes_of, AreFollowable, IsFollowed}
use Rattle.buffer_plan.proofs.Members.{or-none}
use Rattle.buffer_plan.proofs.HungLemmas.{if-same, if-other}

or-group : {A : Type 0} (x y z : Option A) → option_or (option_or x y) z ≡ option_or x (option_or y z)
or-group None y z = refl
or-group (Some x) y z = refl

named-push : (trail : List Chosen) (marks : List ℕ) (mark node : ℕ) →
    named_at trail (marks ++ mark ∷ []) node ≡ option_or (chosen_at (chosen_of trail mark) node) (named_at trail marks node)
named-push trail marks mark node = fold_push (λ (named : Option ℕ) (m : ℕ). option_or (chosen_at (chosen_of trail m) node) named) None marks mark

sizes-push : (trail : List Chosen) (marks : List ℕ) (mark : ℕ) → sizes_of trail (marks ++ mark ∷ []) ≡ sizes_of trail marks + size_of (chosen_of trail mark)
sizes-push trail marks mark = sum_by_push (λ (m : ℕ). size_of (chosen_of trail m)) marks mark

followable-push : (nodes : ℕ) (trail : List Chosen) (marks : List ℕ) (mark : ℕ) → AreFollowable nodes trail marks → mark ≤ length trail →
    IsWithin nodes (chosen_of trail mark) → AreFollowable nodes trail (marks ++ mark ∷ [])
followable-push nodes trail marks mark are low within = record {
  marked = All-push (λ (m : ℕ). m ≤ length trail) marks mark are.marked low;
  within = All-push (λ (m : ℕ). IsWithin nodes (chosen_of trail m)) marks mark are.within within;
}

-- no buffer
pub followed-empty : (trail : List Chosen) (mark : ℕ) (marks : List ℕ) (p : List (Option ℕ)) → Nothing ≡ chosen_of trail mark →
    IsFollowed trail mark marks p marks p
followed-empty trail mark marks p is =
    let size = ap size_of is in
    record {
      long = refl;
      same = λ node. ap (λ (c : Chosen). option_or (placed_at p node) (option_or (chosen_at c node) (named_at trail marks node))) is;
      followable = λ are. are;
      less = omega arith;
    }

-- two branches
pub followed-both : (trail : List Chosen) (mark left right : ℕ) (marks : List ℕ) (p : List (Option ℕ)) →
    Both (chosen_of trail left) (chosen_of trail right) ≡ chosen_of trail mark → left ≤ length trail → right ≤ length trail →
    IsWithin (length p) (chosen_of trail mark) → IsFollowed trail mark marks p ((marks ++ right ∷ []) ++ left ∷ []) p
followed-both trail mark left right marks p is low_left low_right inside =
    let size = ap size_of is in
    let first = sizes-push trail marks right in
    let second = sizes-push trail (marks ++ right ∷ []) left in
    let within = subst (λ (c : Chosen). IsWithin (length p) c) (sym is) inside in
    record {
      long = refl;
      same = λ node.
          ap (λ (o : Option ℕ). option_or (placed_at p node) o)
          (named-push trail (marks ++ right ∷ []) left node
          ∙ ap (λ (o : Option ℕ). option_or (chosen_at (chosen_of trail left) node) o) (named-push trail marks right node)
          ∙ sym (or-group (chosen_at (chosen_of trail left) node) (chosen_at (chosen_of trail right) node) (named_at trail marks node)))
          ∙ ap (λ (c : Chosen). option_or (placed_at p node) (option_or (chosen_at c node) (named_at trail marks node))) is;
      followable = λ are. followable-push (length p) trail (marks ++ right ∷ []) left
          (followable-push (length p) trail marks right are low_right within.1) low_left within.0;
      less = omega arith;
    }

-- a buffer, where the node holds none and where it holds one
abbrev pub set_free : List (Option ℕ) → (node kind : ℕ) → List (Option ℕ)
set_free p node kind = if is_none (placed_at p node) then slice_set p node (Some kind) else p

pub none-told : (b : Bool) (o : Option ℕ) → is_some o ≡ not b → is_none o ≡ b
none-told true o told = ap not told
none-told false o told = ap not told

pub set-free : (p : List (Option ℕ)) (node kind : ℕ) → is_none (placed_at p node) ≡ true → slice_set p node (Some kind) ≡ set_free p node kind
set-free p node kind none = sym (cond-true (is_none (placed_at p node)) (slice_set p node (Some kind)) p none)

pub set-held : (p : List (Option ℕ)) (node kind : ℕ) → is_none (placed_at p node) ≡ false → p ≡ set_free p node kind
set-held p node kind held = sym (cond-false (is_none (placed_at p node)) (slice_set p node (Some kind)) p held)

free-at : (p : List (Option ℕ)) (at kind node : ℕ) (rest o : Option ℕ) → placed_at p at ≡ o → at < length p →
    option_or (placed_at (if is_none o then slice_set p at (Some kind) else p) node) rest
    ≡ option_or (placed_at p node) (if node == at then Some kind else rest)
free-at p at kind node rest None is inside = elim (cases_eq node at) [
  | inl same ↦
      let before : placed_at p node ≡ None = ap (λ (u : ℕ). placed_at p u) same ∙ is in
      ap (λ (u : ℕ). option_or (placed_at (slice_set p at (Some kind)) u) rest) same
      ∙ ap (λ (o : Option ℕ). option_or o rest) (get_or-set_same p at (Some kind) None inside)
      ∙ sym (if-same node at (Some kind) rest same)
      ∙ ap (λ (o : Option ℕ). option_or o (if node == at then Some kind else rest)) (sym before)
  | inr other ↦
      ap (λ (o : Option ℕ). option_or o rest) (get_or-set_other p at node (Some kind) None other)
      ∙ ap (λ (o : Option ℕ). option_or (placed_at p node) o) (sym (if-other node at (Some kind) rest other))
]
free-at p at kind node rest (Some held) is inside = elim (cases_eq node at) [
  | inl same ↦
      let before : placed_at p node ≡ Some held = ap (λ (u : ℕ). placed_at p u) same ∙ is in
      ap (λ (o : Option ℕ). option_or o rest) before
      ∙ ap (λ (o : Option ℕ). option_or o (if node == at then Some kind else rest)) (sym before)
  | inr other ↦ ap (λ (o : Option ℕ). option_or (placed_at p node) o) (sym (if-other node at (Some kind) rest other))
]

if-or : (b : Bool) (kind : ℕ) (x y : Option ℕ) → (if b then Some kind else option_or x y) ≡ option_or (if b then Some kind else x) y
if-or true kind x y = refl
if-or false kind x y = refl

free-long : (o : Option ℕ) (p : List (Option ℕ)) (at kind : ℕ) → length (if is_none o then slice_set p at (Some kind) else p) ≡ length p
free-long None p at kind = length-set p at (Some kind)
free-long (Some held) p at kind = refl

pub followed-buffer : (trail : List Chosen) (mark at kind below : ℕ) (marks : List ℕ) (p q : List (Option ℕ)) →
    Buffered at kind (chosen_of trail below) ≡ chosen_of trail mark → below ≤ length trail → IsWithin (length p) (chosen_of trail mark) →
    q ≡ set_free p at kind → IsFollowed trail mark marks p (marks ++ below ∷ []) q
followed-buffer trail mark at kind below marks p q is low inside now =
    let size = ap size_of is in
    let pushed = sizes-push trail marks below in
    let within = subst (λ (c : Chosen). IsWithin (length p) c) (sym is) inside in
    let long : length q ≡ length p = ap (λ (xs : List (Option ℕ)). length xs) now ∙ free-long (placed_at p at) p at kind in
    record {
      long = long;
      same = λ node.
          let named : ℕ → Option ℕ = named_at trail marks in
          ap (λ (o : Option ℕ). option_or (placed_at q node) o) (named-push trail marks below node)
          ∙ ap (λ (xs : List (Option ℕ)). option_or (placed_at xs node) (option_or (chosen_at (chosen_of trail below) node) (named node))) now
          ∙ free-at p at kind node (option_or (chosen_at (chosen_of trail below) node) (named node)) (placed_at p at) refl within.1
          ∙ ap (λ (o : Option ℕ). option_or (placed_at p node) o) (if-or (node == at) kind (chosen_at (chosen_of trail below) node) (named node))
          ∙ ap (λ (c : Chosen). option_or (placed_at p node) (option_or (chosen_at c node) (named node))) is;
      followable = λ are. subst (λ (n : ℕ). AreFollowable n trail (marks ++ below ∷ [])) (sym long)
          (followable-push (length p) trail marks below are low within.2);
      less = omega arith;
    }

-- the marks that are left, and what stands so far: together they name the choice
pub record IsUnderWay (nodes : ℕ) (trail : List Chosen) (chosen : Chosen) (marks : List ℕ) (p : List (Option ℕ)) : Type 0 where
  pub long : length p ≡ nodes
  pub same : (node : ℕ) → named_with trail marks p node ≡ chosen_at chosen node
  pub followable : AreFollowable nodes trail marks

none-placed : (nodes node : ℕ) → placed_at (replicate nodes None) node ≡ None
none-placed nodes node = elim (cases_lt node nodes) [
  | inl inside ↦ get_or-replicate nodes node None None inside
  | inr past ↦ let empty : List (Option ℕ) = replicate nodes None in let long : length empty ≡ nodes = length-replicate nodes None in get_or_past (replicate nodes None) node None (omega arith)
]

pub way-start : (nodes mark : ℕ) (trail : List Chosen) (marks : List ℕ) (p : List (Option ℕ)) → p ≡ replicate nodes None → marks ≡ mark ∷ [] →
    mark ≤ length trail → IsWithin nodes (chosen_of trail mark) → IsUnderWay nodes trail (chosen_of trail mark) marks p
way-start nodes mark trail marks p empty is low within =
    subst (λ (ms : List ℕ). IsUnderWay nodes trail (chosen_of trail mark) ms p) (sym is)
    (subst (λ (xs : List (Option ℕ)). IsUnderWay nodes trail (chosen_of trail mark) (mark ∷ []) xs) (sym empty) (record {
      long = length-replicate nodes None;
      same = λ node. ap (λ (o : Option ℕ). option_or o (named_at trail (mark ∷ []) node)) (none-placed nodes node)
          ∙ or-none (chosen_at (chosen_of trail mark) node);
      followable = followable-push nodes trail [] mark (record { marked = λ k d inside. absurd (omega arith); within = λ k d inside. absurd (omega arith) }) low within;
    }))

pub way-next : (nodes mark : ℕ) (trail : List Chosen) (chosen : Chosen) (before rest now : List ℕ) (p q : List (Option ℕ)) →
    IsUnderWay nodes trail chosen before p → before ≡ rest ++ mark ∷ [] → IsFollowed trail mark rest p now q → IsUnderWay nodes trail chosen now q
way-next nodes mark trail chosen before rest now p q way popped followed =
    let long = followed.long ∙ way.long in
    let marked = All-pop (λ (m : ℕ). m ≤ length trail) before rest (Some mark) popped way.followable.marked in
    let within = All-pop (λ (m : ℕ). IsWithin nodes (chosen_of trail m)) before rest (Some mark) popped way.followable.within in
    let left : AreFollowable nodes trail rest = record { marked = marked.0; within = within.0 } in
    record {
      long = long;
      same = λ node.
          followed.same node
          ∙ ap (λ (o : Option ℕ). option_or (placed_at p node) o) (sym (named-push trail rest mark node))
          ∙ ap (λ (ms : List ℕ). named_with trail ms p node) (sym popped)
          ∙ way.same node;
      followable = subst (λ (n : ℕ). AreFollowable n trail now) long
          (followed.followable (subst (λ (n : ℕ). AreFollowable n trail rest) (sym way.long) left));
    }

pub way-smaller : (mark : ℕ) (trail : List Chosen) (before rest now : List ℕ) (p q : List (Option ℕ)) → before ≡ rest ++ mark ∷ [] →
    IsFollowed trail mark rest p now q → sizes_of trail now < sizes_of trail before
way-smaller mark trail before rest now p q popped followed =
    let less = followed.less in
    let more = ap (λ (ms : List ℕ). sizes_of trail ms) popped ∙ sizes-push trail rest mark in
    omega arith

pub way-popped : (nodes mark : ℕ) (trail : List Chosen) (chosen : Chosen) (before rest : List ℕ) (p : List (Option ℕ)) →
    IsUnderWay nodes trail chosen before p → before ≡ rest ++ mark ∷ [] → (mark ≤ length trail) × IsWithin (length p) (chosen_of trail mark)
way-popped nodes mark trail chosen before rest p way popped =
    let marked = All-pop (λ (m : ℕ). m ≤ length trail) before rest (Some mark) popped way.followable.marked in
    let within = All-pop (λ (m : ℕ). IsWithin nodes (chosen_of trail m)) before rest (Some mark) popped way.followable.within in
    (marked.1, subst (λ (n : ℕ). IsWithin n (chosen_of trail mark)) (sym way.long) within.1)

no-marks : (marks : List ℕ) → length marks ≡ 0 → marks ≡ []
no-marks [] none = refl
no-marks (mark ∷ marks) none = absurd (omega arith)

pub way-ends : (nodes : ℕ) (trail : List Chosen) (chosen : Chosen) (marks : List ℕ) (p : List (Option ℕ)) → IsUnderWay nodes trail chosen marks p →
    length marks ≡ 0 → p ≡ map (chosen_at chosen) (range_with_len 0 nodes)
way-ends nodes trail chosen marks p way none =
    let long = length-map-range_with_len (chosen_at chosen) 0 nodes in
    ext_get_or None p (map (chosen_at chosen) (range_with_len 0 nodes)) (way.long ∙ sym long) (λ node inside.
    let own = way.long in
    sym (or-none (placed_at p node))
    ∙ ap (λ (ms : List ℕ). named_with trail ms p node) (sym (no-marks marks none))
    ∙ way.same node
    ∙ sym (get_or-map-range_with_len (chosen_at chosen) 0 nodes node node None (omega arith) (omega arith)))
