-- The recursions from the last node to the first, one node at a time.
use Rattle.std.proofs.Common.{◌≡◌, ◌≢◌, ℕ, zero, suc, ◌+◌, ◌-◌, ◌<◌, ◌≤◌, true, false, ◌==◌, List, Option, Some, None, option_and_then, refl, sym, ap, ◌∙◌, if◌then◌else◌, arith}
use Rattle.std.proofs.lemmas.Bool.{eq-eqb, ne_eqb, cond-true, cond-false}
use Rattle.rc_library.specs.Libraries.{LibraryView, kind_of}
use Rattle.rc_library.specs.declared.parts.Kind.{Kind}
use Rattle.elmore_delay.specs.RcTrees.{RcTree, Buffers}
use Rattle.elmore_delay.specs.FromLeaves.{along, behind, joined, hanging, seen_of_last}
use Rattle.elmore_delay.specs.declared.seen.Seen.{Seen}
use Rattle.elmore_delay.proofs.Loads.{seen-parent}
use Rattle.ginneken_lists.specs.Candidates.{Chosen, Nothing, Buffered, Candidate, both, all_joined, with_offers}
use Rattle.buffer_plan.specs.Picked.{Sites, all_above, all_hanging, candidates_of_last}

-- a value at one number, and another elsewhere
pub if-same : {A : Type 0} (v k : ℕ) (x y : A) → v ≡ k → (if v == k then x else y) ≡ x
if-same v k x y same = cond-true (v == k) x y (eq-eqb v k same)

pub if-other : {A : Type 0} (v k : ℕ) (x y : A) → v ≢ k → (if v == k then x else y) ≡ y
if-other v k x y other = cond-false (v == k) x y (ne_eqb v k other)

-- the kind at each node, or none
abbrev pub Held : Type 0
Held = ℕ → Option ℕ

-- the buffers of what is held
abbrev pub buffers_by : LibraryView → Held → Buffers
buffers_by lib p node = option_and_then (kind_of lib) (p node)

-- what is seen, at the parent of the node that is hung
pub seen-hung : (n k v : ℕ) (t : RcTree) (b : Buffers) → k + suc n ≡ t.nodes → v ≡ t.parent k →
    seen_of_last (suc n) t b v ≡ joined (seen_of_last n t b v) (hanging t b k (seen_of_last n t b k))
seen-hung n k v t b at same =
    ap (λ (u : ℕ). seen_of_last (suc n) t b u) same ∙ seen-parent n k t b at
    ∙ ap (λ (u : ℕ). joined (seen_of_last n t b u) (hanging t b k (seen_of_last n t b k))) (sym same)

-- the candidates, there and elsewhere
candidates-step : (n k v : ℕ) (s : Sites) → k + suc n ≡ s.tree.nodes →
    candidates_of_last (suc n) s v
    ≡ (if v == s.tree.parent k then all_joined (candidates_of_last n s v) (all_hanging s k (candidates_of_last n s k)) else candidates_of_last n s v)
candidates-step n k v s at =
    let node : s.tree.nodes - suc n ≡ k = omega arith in
    ap (λ (m : ℕ). if v == s.tree.parent m then all_joined (candidates_of_last n s v) (all_hanging s m (candidates_of_last n s m)) else candidates_of_last n s v) node

pub candidates-hung : (n k v : ℕ) (s : Sites) → k + suc n ≡ s.tree.nodes → v ≡ s.tree.parent k →
    candidates_of_last (suc n) s v ≡ all_joined (candidates_of_last n s v) (all_hanging s k (candidates_of_last n s k))
candidates-hung n k v s at same =
    candidates-step n k v s at
    ∙ if-same v (s.tree.parent k) (all_joined (candidates_of_last n s v) (all_hanging s k (candidates_of_last n s k))) (candidates_of_last n s v) same

pub candidates-other : (n k v : ℕ) (s : Sites) → k + suc n ≡ s.tree.nodes → v ≢ s.tree.parent k →
    candidates_of_last (suc n) s v ≡ candidates_of_last n s v
candidates-other n k v s at other =
    candidates-step n k v s at
    ∙ if-other v (s.tree.parent k) (all_joined (candidates_of_last n s v) (all_hanging s k (candidates_of_last n s k))) (candidates_of_last n s v) other

-- above a node where a buffer may stand, and where none may
pub above-free : (s : Sites) (lib : LibraryView) (node : ℕ) (all : List Candidate) → s.library ≡ lib → s.free node ≡ true →
    with_offers lib node all ≡ all_above s node all
above-free s lib node all same free =
    ap (λ (x : LibraryView). with_offers x node all) (sym same)
    ∙ sym (cond-true (s.free node) (with_offers s.library node all) all free)

pub above-blocked : (s : Sites) (node : ℕ) (all : List Candidate) → s.free node ≡ false → all ≡ all_above s node all
above-blocked s node all blocked = sym (cond-false (s.free node) (with_offers s.library node all) all blocked)

-- what is chosen over a node, and below a node of its children that are among so many last nodes, where so much is held
abbrev pub over : ℕ → Option ℕ → Chosen → Chosen
over node None below = below
over node (Some kind) below = Buffered node kind below

abbrev pub choice_of_last : ℕ → RcTree → Held → ℕ → Chosen
choice_of_last zero t p v = Nothing
choice_of_last (suc n) t p v =
    let node = t.nodes - suc n in
    let before = choice_of_last n t p in
    if v == t.parent node then both (before v) (over node (p node) (before node)) else before v

choice-step : (n k v : ℕ) (t : RcTree) (p : Held) → k + suc n ≡ t.nodes →
    choice_of_last (suc n) t p v
    ≡ (if v == t.parent k then both (choice_of_last n t p v) (over k (p k) (choice_of_last n t p k)) else choice_of_last n t p v)
choice-step n k v t p at =
    let node : t.nodes - suc n ≡ k = omega arith in
    ap (λ (m : ℕ). if v == t.parent m then both (choice_of_last n t p v) (over m (p m) (choice_of_last n t p m)) else choice_of_last n t p v) node

pub choice-hung : (n k v : ℕ) (t : RcTree) (p : Held) → k + suc n ≡ t.nodes → v ≡ t.parent k →
    choice_of_last (suc n) t p v ≡ both (choice_of_last n t p v) (over k (p k) (choice_of_last n t p k))
choice-hung n k v t p at same =
    choice-step n k v t p at
    ∙ if-same v (t.parent k) (both (choice_of_last n t p v) (over k (p k) (choice_of_last n t p k))) (choice_of_last n t p v) same

pub choice-other : (n k v : ℕ) (t : RcTree) (p : Held) → k + suc n ≡ t.nodes → v ≢ t.parent k →
    choice_of_last (suc n) t p v ≡ choice_of_last n t p v
choice-other n k v t p at other =
    choice-step n k v t p at
    ∙ if-other v (t.parent k) (both (choice_of_last n t p v) (over k (p k) (choice_of_last n t p k))) (choice_of_last n t p v) other

-- of the last n nodes alone what they hold matters
pub seen-same : (n k v : ℕ) (t : RcTree) (b c : Buffers) → k + n ≡ t.nodes → ((node : ℕ) → k ≤ node → node < t.nodes → b node ≡ c node) →
    seen_of_last n t b v ≡ seen_of_last n t c v
seen-same zero k v t b c at each = refl
seen-same (suc n) k v t b c at each =
    let m : ℕ = t.nodes - suc n in
    let own = seen-same n (suc k) v t b c (omega arith) (λ node le lt. each node (omega arith) lt) in
    let below = seen-same n (suc k) m t b c (omega arith) (λ node le lt. each node (omega arith) lt) in
    ap (λ (x : Seen). if v == t.parent m then joined x (along (t.wire m) (behind (b m) (seen_of_last n t b m))) else x) own
    ∙ ap (λ (x : Seen). if v == t.parent m then joined (seen_of_last n t c v) (along (t.wire m) (behind (b m) x)) else seen_of_last n t c v) below
    ∙ ap (λ (o : Option Kind). if v == t.parent m then joined (seen_of_last n t c v) (along (t.wire m) (behind o (seen_of_last n t c m))) else seen_of_last n t c v)
    (each m (omega arith) (omega arith))

pub choice-same : (n k v : ℕ) (t : RcTree) (p q : Held) → k + n ≡ t.nodes → ((node : ℕ) → k ≤ node → node < t.nodes → p node ≡ q node) →
    choice_of_last n t p v ≡ choice_of_last n t q v
choice-same zero k v t p q at each = refl
choice-same (suc n) k v t p q at each =
    let m : ℕ = t.nodes - suc n in
    let own = choice-same n (suc k) v t p q (omega arith) (λ node le lt. each node (omega arith) lt) in
    let below = choice-same n (suc k) m t p q (omega arith) (λ node le lt. each node (omega arith) lt) in
    ap (λ (x : Chosen). if v == t.parent m then both x (over m (p m) (choice_of_last n t p m)) else x) own
    ∙ ap (λ (x : Chosen). if v == t.parent m then both (choice_of_last n t q v) (over m (p m) x) else choice_of_last n t q v) below
    ∙ ap (λ (o : Option ℕ). if v == t.parent m then both (choice_of_last n t q v) (over m o (choice_of_last n t q m)) else choice_of_last n t q v)
    (each m (omega arith) (omega arith))
