-- The lists for both signals, one node at a time.
use Rattle.std.proofs.Common.{◌≡◌, ◌≢◌, ℕ, zero, suc, ◌+◌, ◌-◌, inl, inr, Bool, true, false, ◌==◌, List, [], flat_map, map, sym, ap, subst, ◌∙◌, if◌then◌else◌, arith}
use Rattle.std.proofs.lemmas.Bool.{cases_eq}
use Rattle.rc_library.specs.Libraries.{LibraryView}
use Rattle.elmore_delay.specs.FromLeaves.{sinks_seen}
use Rattle.ginneken_lists.specs.Candidates.{Nothing, Candidate, leaf, along_edge, joined_with, all_joined}
use Rattle.ginneken_lists.specs.Thinning.{Precedes, AreRising}
use Rattle.ginneken_lists.proofs.Thinned.{thinned-rising}
use Rattle.ginneken_lists.proofs.Serving.{pairs-none, pairs-one}
use Rattle.buffer_plan.specs.Picked.{Sites}
use Rattle.buffer_plan.proofs.HungLemmas.{if-same, if-other}
use Rattle.polar_lists.specs.Signals.{BySignal, suits_all, with_both_offers, both_above, both_hanging, both_of_last}

-- at the parent of the node that is hung, and elsewhere
both-step : (n k v : ℕ) (s : Sites) (inverted : Bool) → k + suc n ≡ s.tree.nodes →
    both_of_last (suc n) s v inverted
    ≡ (if v == s.tree.parent k then all_joined (both_of_last n s v inverted) (both_hanging s k (both_of_last n s k) inverted) else both_of_last n s v inverted)
both-step n k v s inverted at =
    let node : s.tree.nodes - suc n ≡ k = omega arith in
    ap (λ (m : ℕ). if v == s.tree.parent m then all_joined (both_of_last n s v inverted) (both_hanging s m (both_of_last n s m) inverted) else both_of_last n s v inverted) node

pub both-hung : (n k v : ℕ) (s : Sites) (inverted : Bool) → k + suc n ≡ s.tree.nodes → v ≡ s.tree.parent k →
    both_of_last (suc n) s v inverted ≡ all_joined (both_of_last n s v inverted) (both_hanging s k (both_of_last n s k) inverted)
both-hung n k v s inverted at same =
    both-step n k v s inverted at
    ∙ if-same v (s.tree.parent k) (all_joined (both_of_last n s v inverted) (both_hanging s k (both_of_last n s k) inverted)) (both_of_last n s v inverted) same

pub both-other : (n k v : ℕ) (s : Sites) (inverted : Bool) → k + suc n ≡ s.tree.nodes → v ≢ s.tree.parent k →
    both_of_last (suc n) s v inverted ≡ both_of_last n s v inverted
both-other n k v s inverted at other =
    both-step n k v s inverted at
    ∙ if-other v (s.tree.parent k) (all_joined (both_of_last n s v inverted) (both_hanging s k (both_of_last n s k) inverted)) (both_of_last n s v inverted) other

-- the same candidates for each signal are the same candidates
pub by-signal : (all other : BySignal) → ((inverted : Bool) → all inverted ≡ other inverted) → all ≡ other
by-signal all other same = λ i inverted. same inverted i

-- candidates rise
pub hanging-rising : (s : Sites) (node : ℕ) (all : BySignal) (inverted : Bool) → AreRising (both_hanging s node all inverted)
hanging-rising s node all inverted = thinned-rising (map (along_edge (s.tree.wire node)) (both_above s node all inverted))

joined-rising : (left right : List Candidate) → AreRising (all_joined left right)
joined-rising left right = thinned-rising (flat_map (λ (o : Candidate). map (joined_with o) right) left)

pub both-rising : (n k v : ℕ) (s : Sites) (inverted : Bool) → k + n ≡ s.tree.nodes → AreRising (both_of_last n s v inverted)
both-rising zero k v s inverted at = start (suits_all s.tree v inverted)
  where
    start : (b : Bool) → AreRising (if b then leaf (sinks_seen s.tree v) else [])
    start true = pairs-one (λ (x y : Candidate). Precedes x.seen y.seen) (record { seen = sinks_seen s.tree v; chosen = Nothing })
    start false = pairs-none (λ (x y : Candidate). Precedes x.seen y.seen)
both-rising (suc n) k v s inverted at = elim (cases_eq v (s.tree.parent k)) [
  | inl same ↦ subst AreRising (sym (both-hung n k v s inverted at same)) (joined-rising (both_of_last n s v inverted) (both_hanging s k (both_of_last n s k) inverted))
  | inr other ↦ subst AreRising (sym (both-other n k v s inverted at other)) (both-rising n (suc k) v s inverted (omega arith))
]

-- above a node where a buffer may stand, and where none may
pub both-free : (s : Sites) (lib : LibraryView) (node : ℕ) (all : BySignal) (inverted : Bool) → s.library ≡ lib → s.free node ≡ true →
    with_both_offers lib node all inverted ≡ both_above s node all inverted
both-free s lib node all inverted same free =
    ap (λ (x : LibraryView). with_both_offers x node all inverted) (sym same)
    ∙ ap (λ (b : Bool). (if b then with_both_offers s.library node all else all) inverted) (sym free)

pub both-blocked : (s : Sites) (node : ℕ) (all : BySignal) (inverted : Bool) → s.free node ≡ false → all inverted ≡ both_above s node all inverted
both-blocked s node all inverted blocked = ap (λ (b : Bool). (if b then with_both_offers s.library node all else all) inverted) (sym blocked)
