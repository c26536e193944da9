-- Stages by climbing from a node, their loads node by node, and delays up a path.
use Rattle.std.proofs.Common.{◌≡◌, ℕ, suc, ◌+◌, ◌*◌, ◌^◌, ◌<◌, ◌≤◌, Bool, true, false, ◌&&◌, ◌||◌, ◌==◌, List, length, sum_by, Option, Some, None, is_some, is_none, refl, sym, ap, ◌∙◌, arith}
use Rattle.std.proofs.lemmas.Bool.{false≢true}
use Rattle.std.proofs.lemmas.Bool.Decides.{nat_tests}
use Rattle.elmore_delay.specs.RcTrees.{RcTree, Buffers, IsRcTree, above, path_to, in_stage, sinks_load, own_load, below, node_delay, delay_to}
use Rattle.elmore_delay.specs.Ranges.{most_load, IsSmall}
use Rattle.elmore_delay.proofs.Ranges.{sums, only, sums-none, sums-part, sum-passing}
use Rattle.elmore_delay.proofs.RangeLemmas.{below-low, delay-low}
use Rattle.gr_base.specs.Trees.{TreeView}
use Rattle.rc_library.specs.declared.parts.Kind.{Kind}
use Rattle.elmore_delay.specs.Placements.{buffers_of}
use Rattle.elmore_delay.specs.Loadings.{LoadingView, IsLoading, rc_of}
use Rattle.elmore_delay.proofs.RcLemmas.{rc-tree, rc-small}
use Rattle.elmore_delay.proofs.Paths.{above-more, stage-more, stage-later}
use Rattle.elmore_delay.proofs.RequiredFromLeaves.{no-root_delay}
use Rattle.std.proofs.lemmas.List.Sums.{sum_by-cons}

-- a climb from a node has come to another: the node is in the stage of v where it is v, or holds no buffer and is in the
-- stage
pub record IsClimb (t : RcTree) (b : Buffers) (v node at : ℕ) : Type 0 where
  pub inside : at < t.nodes
  pub stage : in_stage t b v node ≡ ((at == v) || (is_none (b at) && in_stage t b v at))

pub climb-starts : (t : RcTree) (b : Buffers) (v node : ℕ) → IsRcTree t → 0 < node → node < t.nodes → IsClimb t b v node (t.parent node)
climb-starts t b v node tree later below =
    let earlier = tree.earlier node later below in
    record { inside = omega arith; stage = stage-more t b v node tree later below }

-- where no buffer is
bare : (o : Option Kind) → false ≡ is_some o → is_none o ≡ true
bare None is = refl
bare (Some kind) is = absurd (false≢true is)

-- above v
past_v : (t : RcTree) (b : Buffers) (v node at : ℕ) → IsClimb t b v node at → v < at → in_stage t b v node ≡ (is_none (b at) && in_stage t b v at)
past_v t b v node at climb above = let other : (at == v) ≡ false = grind (arith, nat_tests) in climb.stage ∙ (rw other refl)

pub climb-more : (t : RcTree) (b : Buffers) (v node at : ℕ) → IsRcTree t → IsClimb t b v node at → v < at → false ≡ is_some (b at) →
    IsClimb t b v node (t.parent at)
climb-more t b v node at tree climb above none =
    let free = bare (b at) none in
    let inside = climb.inside in
    let earlier = tree.earlier at (omega arith) inside in
    record {
      inside = omega arith;
      stage = past_v t b v node at climb above ∙ (rw free refl) ∙ stage-more t b v at tree (omega arith) inside;
    }

-- at v or below it
pub climb-ends : (t : RcTree) (b : Buffers) (v node at : ℕ) → IsRcTree t → IsClimb t b v node at → at ≤ v → in_stage t b v node ≡ (at == v)
climb-ends t b v node at tree climb end =
    let out : in_stage t b v at ≡ false = stage-later t b v at tree climb.inside end in
    climb.stage ∙ ap (λ (p : Bool). (at == v) || (is_none (b at) && p)) out ∙ none (at == v) (is_none (b at))
  where
    none : (p q : Bool) → (p || (q && false)) ≡ p
    none true q = refl
    none false true = refl
    none false false = refl

-- the load of a stage, of the nodes below a number
abbrev pub load_to : RcTree → Buffers → ℕ → ℕ → ℕ
load_to t b v n = sinks_load t v + sums (only (in_stage t b v) (own_load t b)) n

pub load_to-start : (t : RcTree) (b : Buffers) (v n : ℕ) → IsRcTree t → v < t.nodes → n ≡ v + 1 → sinks_load t v ≡ load_to t b v n
load_to-start t b v n tree inside start =
    let none = sums-none (only (in_stage t b v) (own_load t b)) n (λ u lt.
    let out = stage-later t b v u tree (omega arith) (omega arith) in rw out refl) in
    omega (arith, none)

pub load_to-in : (t : RcTree) (b : Buffers) (v n : ℕ) → true ≡ in_stage t b v n → load_to t b v n + own_load t b n ≡ load_to t b v (n + 1)
load_to-in t b v n inn =
    let more : n + 1 ≡ suc n = omega arith in
    let last : only (in_stage t b v) (own_load t b) n ≡ own_load t b n = rw (← inn) refl in
    omega (arith, last) ∙ ap (λ (m : ℕ). load_to t b v m) (sym more)

pub load_to-out : (t : RcTree) (b : Buffers) (v n : ℕ) → false ≡ in_stage t b v n → load_to t b v n ≡ load_to t b v (n + 1)
load_to-out t b v n out =
    let more : n + 1 ≡ suc n = omega arith in
    let last : only (in_stage t b v) (own_load t b) n ≡ 0 = rw (← out) refl in
    omega (arith, last) ∙ ap (λ (m : ℕ). load_to t b v m) (sym more)

pub load_to-end : (t : RcTree) (b : Buffers) (v n : ℕ) → n ≡ t.nodes → load_to t b v n ≡ below t b v
load_to-end t b v n end =
    ap (λ (m : ℕ). load_to t b v m) end
    ∙ ap (λ (m : ℕ). sinks_load t v + m) (sym (sum-passing (in_stage t b v) (own_load t b) t.nodes))

-- no part of it is above the most
pub load_to-low : (t : RcTree) (b : Buffers) (v n : ℕ) → IsRcTree t → IsSmall t b → v < t.nodes → n ≤ t.nodes → load_to t b v n ≤ most_load
load_to-low t b v n tree small inside le =
    let part = sums-part (only (in_stage t b v) (own_load t b)) n t.nodes le in
    let end = load_to-end t b v t.nodes refl in
    let low = below-low t b v tree small inside in
    omega (arith, part, end, low)

-- a delay has those parts of the delay to a node that lie outside the path to another
pub record IsOnPath (t : RcTree) (b : Buffers) (node at delay : ℕ) : Type 0 where
  pub inside : at < t.nodes
  pub left : delay + sum_by (node_delay t b) (path_to t at) ≡ delay_to t b node

pub path-starts : (t : RcTree) (b : Buffers) (node load : ℕ) → node < t.nodes → load ≡ below t b 0 → IsOnPath t b node node (2 * t.driver * load)
path-starts t b node load inside is = record {
  inside = inside;
  left = ap (λ (m : ℕ). 2 * t.driver * m + sum_by (node_delay t b) (path_to t node)) is;
}

pub path-more : (t : RcTree) (b : Buffers) (node at delay : ℕ) → IsRcTree t → 0 < at → IsOnPath t b node at delay →
    IsOnPath t b node (t.parent at) (delay + node_delay t b at)
path-more t b node at delay tree later on =
    let inside = on.inside in
    let earlier = tree.earlier at later inside in
    let sum : sum_by (node_delay t b) (path_to t at) ≡ node_delay t b at + sum_by (node_delay t b) (path_to t (t.parent at)) =
    sum_by-cons (node_delay t b) at (above t at)
    ∙ ap (λ (nodes : List ℕ). node_delay t b at + sum_by (node_delay t b) nodes) (above-more t at tree later inside) in
    record { inside = omega arith; left = omega (arith, sum, on.left) }

-- node 0 adds nothing, where it holds no buffer
pub path-ends : (t : RcTree) (b : Buffers) (node at delay : ℕ) → IsRcTree t → b 0 ≡ None → at ≡ 0 → IsOnPath t b node at delay → delay ≡ delay_to t b node
path-ends t b node at delay tree root end on =
    let none : node_delay t b 0 ≡ 0 = no-root_delay t b tree root in
    let left = ap (λ (n : ℕ). delay + sum_by (node_delay t b) (path_to t n)) (sym end) ∙ on.left in
    omega (arith, none, left)

-- a part of the delay is at most the whole
pub path-low : (t : RcTree) (b : Buffers) (node at delay : ℕ) → IsRcTree t → IsSmall t b → node < t.nodes → IsOnPath t b node at delay → delay ≤ 2 ^ 91
path-low t b node at delay tree small inside on =
    let most = delay-low t b node tree small inside in
    omega (arith, most, on.left)

-- the same for a loading
pub delay-fits : (l : LoadingView) (t : TreeView) (kinds : List (Option ℕ)) (node at delay : ℕ) → IsLoading l → l.tree ≡ t → node < length t.nodes →
    IsOnPath (rc_of l) (buffers_of l.library kinds) node at delay → delay ≤ 2 ^ 91
delay-fits l t kinds node at delay loading same inside on =
    let long = ap (λ (u : TreeView). length u.nodes) same in
    path-low (rc_of l) (buffers_of l.library kinds) node at delay (rc-tree l loading) (rc-small l kinds loading) (omega (arith, long)) on
