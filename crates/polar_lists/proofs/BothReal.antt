-- Any selection of candidates of nodes that aren't hung yet, of some for a signal and of the others without buffers, is what some
-- placement gives at all of them; with the signals of the former each sink gets what it wants.
use Rattle.std.proofs.Common.{◌≡◌, ◌≢◌, ℕ, zero, suc, ◌+◌, ◌<◌, inl, inr, Bool, true, false, ◌&&◌, ◌==◌, List, [], length, map, ◌++◌, Contains, Option, Some, None, refl, sym, ap, subst, ◌∙◌, if◌then◌else◌, arith}
use Rattle.std.specs.List.{range_with_len}
use Rattle.std.proofs.lemmas.Bool.{cases_eq, false≢true}
use Rattle.std.proofs.lemmas.List.Elements.{Contains-append_cases}
use Rattle.elmore_delay.specs.RcTrees.{IsRcTree}
use Rattle.elmore_delay.specs.FromLeaves.{along, joined, sinks_seen, seen_of_last}
use Rattle.elmore_delay.specs.declared.seen.Seen.{Seen}
use Rattle.elmore_delay.proofs.Loads.{seen-other}
use Rattle.ginneken_lists.specs.Candidates.{Chosen, Nothing, Candidate, along_edge, leaf, both}
use Rattle.buffer_plan.specs.Picked.{Sites}
use Rattle.buffer_plan.proofs.Members.{map-comes, filter_map-comes, range-below}
use Rattle.buffer_plan.proofs.Served.{MayHold, seen_above}
use Rattle.buffer_plan.proofs.HungLemmas.{Held, if-same, if-other, seen-hung, over}
use Rattle.buffer_plan.proofs.Comings.{from-all, joined-comes, offer-comes}
use Rattle.buffer_plan.proofs.Real.{IsReal, leaf-is, IsHungFrom, selected_before, held_with, real-step}
use Rattle.polar_lists.specs.Polarity.{is_inverter}
use Rattle.polar_lists.specs.Signals.{BySignal, below_it, suits_all, made_by, offers_by, with_both_offers, both_above, both_hanging, both_of_last}
use Rattle.polar_lists.proofs.SignalLemmas.{both-hung, both-other}
use Rattle.polar_lists.proofs.ServedSinks.{served_of_last, served-hung, served-other, served-same}

-- a candidate that the parent of a node sees comes from one below the node, for the signal there, and from what the node holds
pub record IsFromBoth (s : Sites) (node : ℕ) (all : BySignal) (inverted : Bool) (o : Candidate) : Type 0 where
  pub from : Candidate
  pub held : Option ℕ
  pub among : Contains (all (below_it (is_inverter s.library held) inverted)) from
  pub may : MayHold s node held
  pub seen : o.seen ≡ seen_above s held from.seen
  pub chosen : o.chosen ≡ over node held from.chosen

both-unbuffered : (s : Sites) (node : ℕ) (all : BySignal) (inverted : Bool) (o : Candidate) → Contains (all inverted) o → IsFromBoth s node all inverted o
both-unbuffered s node all inverted o at = record { from = o; held = None; among = at; may = tt; seen = refl; chosen = refl }

both-offered : (s : Sites) (node : ℕ) (all : BySignal) (inverted : Bool) (o : Candidate) → s.free node ≡ true →
    Contains (with_both_offers s.library node all inverted) o → IsFromBoth s node all inverted o
both-offered s node all inverted o free at =
    elim (Contains-append_cases (all inverted) (offers_by s.library node all inverted) o
    (from-all (all inverted ++ offers_by s.library node all inverted) o at)) [
      | inl before ↦ both-unbuffered s node all inverted o before
      | inr offered ↦
          let comes = filter_map-comes (made_by s.library node all inverted) (range_with_len 0 (length s.library.kinds)) o offered in
          let buffer = offer-comes s node comes.from (all (below_it (is_inverter s.library (Some comes.from)) inverted)) o comes.is in
          record {
            from = buffer.from;
            held = Some comes.from;
            among = buffer.among;
            may = (free, range-below (length s.library.kinds) comes.from comes.among);
            seen = buffer.seen;
            chosen = buffer.chosen;
          }
    ]

pub above-comes : (s : Sites) (node : ℕ) (all : BySignal) (inverted : Bool) (o : Candidate) → Contains (both_above s node all inverted) o →
    IsFromBoth s node all inverted o
above-comes s node all inverted o at = by (s.free node) refl at
  where
    by : (b : Bool) → s.free node ≡ b → Contains ((if b then with_both_offers s.library node all else all) inverted) o → IsFromBoth s node all inverted o
    by true free among = both-offered s node all inverted o free among
    by false free among = both-unbuffered s node all inverted o among

-- the same at the upper end of the edge
pub record IsHangingBoth (s : Sites) (node : ℕ) (all : BySignal) (inverted : Bool) (o : Candidate) : Type 0 where
  pub above : Candidate
  pub below : IsFromBoth s node all inverted above
  pub seen : o.seen ≡ along (s.tree.wire node) (seen_above s below.held below.from.seen)
  pub chosen : o.chosen ≡ over node below.held below.from.chosen

pub hanging-comes : (s : Sites) (node : ℕ) (all : BySignal) (inverted : Bool) (o : Candidate) → Contains (both_hanging s node all inverted) o →
    IsHangingBoth s node all inverted o
hanging-comes s node all inverted o at =
    let wire = s.tree.wire node in
    let comes = map-comes (along_edge wire) (both_above s node all inverted) o (from-all (map (along_edge wire) (both_above s node all inverted)) o at) in
    let below = above-comes s node all inverted comes.from comes.among in
    record {
      above = comes.from;
      below = below;
      seen = ap (λ (c : Candidate). c.seen) (sym comes.is) ∙ ap (along wire) below.seen;
      chosen = ap (λ (c : Candidate). c.chosen) (sym comes.is) ∙ below.chosen;
    }

-- what is seen below a node without buffers
abbrev pub unbuffered : ℕ → Sites → ℕ → Candidate
unbuffered n s v = record { seen = seen_of_last n s.tree (λ node. None) v; chosen = Nothing }

-- what is selected at a node: a candidate for a signal, or what is seen without buffers
abbrev pub IsSelected : ℕ → Sites → (wanted inverted : Bool) → ℕ → Candidate → Type 0
IsSelected n s true inverted v o = Contains (both_of_last n s v inverted) o
IsSelected n s false inverted v o = unbuffered n s v ≡ o

-- what is selected at the parent of a node that is hung comes from what is selected at both before
record IsHungBoth (n k : ℕ) (s : Sites) (wanted inverted : Bool) (o : Candidate) : Type 0 where
  parts : IsHungFrom s k o
  own : IsSelected n s wanted inverted (s.tree.parent k) parts.one
  below : IsSelected n s wanted (below_it (is_inverter s.library parts.held) inverted) k parts.from

hung-comes : (n k : ℕ) (s : Sites) (wanted inverted : Bool) (o : Candidate) → k + suc n ≡ s.tree.nodes →
    IsSelected (suc n) s wanted inverted (s.tree.parent k) o → IsHungBoth n k s wanted inverted o
hung-comes n k s true inverted o at among =
    let q = s.tree.parent k in
    let all : BySignal = both_of_last n s k in
    let joins = joined-comes (both_of_last n s q inverted) (both_hanging s k all inverted) o
    (subst (λ (xs : List Candidate). Contains xs o) (both-hung n k q s inverted at refl) among) in
    let hung = hanging-comes s k all inverted joins.other joins.among_right in
    record {
      parts = record {
        one = joins.one;
        from = hung.below.from;
        held = hung.below.held;
        may = hung.below.may;
        seen = ap (λ (c : Candidate). c.seen) (sym joins.is) ∙ ap (λ (x : Seen). joined joins.one.seen x) hung.seen;
        chosen = ap (λ (c : Candidate). c.chosen) (sym joins.is) ∙ ap (λ (x : Chosen). both joins.one.chosen x) hung.chosen;
      };
      own = joins.among_left;
      below = hung.below.among;
    }
hung-comes n k s false inverted o at is =
    let q = s.tree.parent k in
    record {
      parts = record {
        one = unbuffered n s q;
        from = unbuffered n s k;
        held = None;
        may = tt;
        seen = ap (λ (c : Candidate). c.seen) (sym is) ∙ seen-hung n k q s.tree (λ node. None) at refl;
        chosen = ap (λ (c : Candidate). c.chosen) (sym is);
      };
      own = refl;
      below = refl;
    }

-- what is selected at a node is the same before another one was hung elsewhere
selected-other : (n k v : ℕ) (s : Sites) (wanted inverted : Bool) (o : Candidate) → k + suc n ≡ s.tree.nodes → v ≢ s.tree.parent k →
    IsSelected (suc n) s wanted inverted v o → IsSelected n s wanted inverted v o
selected-other n k v s true inverted o at other among = subst (λ (xs : List Candidate). Contains xs o) (both-other n k v s inverted at other) among
selected-other n k v s false inverted o at other is =
    ap (λ (u : Seen). record { seen = u; chosen = Nothing }) (sym (seen-other n k v s.tree (λ node. None) at other)) ∙ is

-- for which nodes a candidate was selected before a node was hung, and for which signals
abbrev wanted_before : (k : ℕ) → Bool → (ℕ → Bool) → ℕ → Bool
wanted_before k wanted on v = if v == k then wanted else on v

-- what is held so that each selected candidate is seen and chosen, and the sinks that it says are served
pub record IsRealBoth (n k : ℕ) (s : Sites) (on inverted : ℕ → Bool) (o : ℕ → Candidate) : Type 0 where
  pub real : IsReal n k s o
  pub served : (v : ℕ) → v < k → on v ≡ true → served_of_last n s.tree s.library real.held v (inverted v) ≡ true

-- at the start
start-selected : (s : Sites) (wanted inverted : Bool) (v : ℕ) (o : Candidate) → IsSelected 0 s wanted inverted v o → unbuffered 0 s v ≡ o
start-selected s false inverted v o is = is
start-selected s true inverted v o among = by (suits_all s.tree v inverted) among
  where
    by : (b : Bool) → Contains (if b then leaf (sinks_seen s.tree v) else []) o → unbuffered 0 s v ≡ o
    by true at = leaf-is (sinks_seen s.tree v) o at
    by false at = let none = at.1 in absurd (omega arith)

start-served : (s : Sites) (wanted inverted : Bool) (v : ℕ) (o : Candidate) → IsSelected 0 s wanted inverted v o → wanted ≡ true → suits_all s.tree v inverted ≡ true
start-served s false inverted v o is on = absurd (false≢true on)
start-served s true inverted v o among on = by (suits_all s.tree v inverted) among
  where
    by : (b : Bool) → Contains (if b then leaf (sinks_seen s.tree v) else []) o → b ≡ true
    by true at = refl
    by false at = let none = at.1 in absurd (omega arith)

-- one more node
module _ (n k : ℕ) (s : Sites) (on inverted : ℕ → Bool) (o : ℕ → Candidate) (at : k + suc n ≡ s.tree.nodes) (earlier : s.tree.parent k < k)
    (hung : IsHungBoth n k s (on (s.tree.parent k)) (inverted (s.tree.parent k)) (o (s.tree.parent k))) where
  abbrev on_before : ℕ → Bool
  on_before = wanted_before k (on (s.tree.parent k)) on

  abbrev inverted_before : ℕ → Bool
  inverted_before = wanted_before k (below_it (is_inverter s.library hung.parts.held) (inverted (s.tree.parent k))) inverted

  abbrev before : ℕ → Candidate
  before = selected_before k (s.tree.parent k) hung.parts.from hung.parts.one o

  selected-before : ((v : ℕ) → v < k → IsSelected (suc n) s (on v) (inverted v) v (o v)) → (v : ℕ) → v < suc k →
      IsSelected n s (on_before v) (inverted_before v) v (before v)
  selected-before each v below = elim (cases_eq v k) [
    | inl same ↦
        subst (λ (u : ℕ). IsSelected n s (on_before u) (inverted_before u) u (before u)) (sym same)
        (subst (λ (b : Bool). IsSelected n s b (inverted_before k) k (before k)) (sym (if-same k k (on (s.tree.parent k)) (on k) refl))
        (subst (λ (b : Bool). IsSelected n s (on (s.tree.parent k)) b k (before k))
        (sym (if-same k k (below_it (is_inverter s.library hung.parts.held) (inverted (s.tree.parent k))) (inverted k) refl))
        (subst (λ (c : Candidate). IsSelected n s (on (s.tree.parent k)) (below_it (is_inverter s.library hung.parts.held) (inverted (s.tree.parent k))) k c)
        (sym (if-same k k hung.parts.from (if k == s.tree.parent k then hung.parts.one else o k) refl)) hung.below)))
    | inr apart ↦
        subst (λ (b : Bool). IsSelected n s b (inverted_before v) v (before v)) (sym (if-other v k (on (s.tree.parent k)) (on v) apart))
        (subst (λ (b : Bool). IsSelected n s (on v) b v (before v))
        (sym (if-other v k (below_it (is_inverter s.library hung.parts.held) (inverted (s.tree.parent k))) (inverted v) apart))
        (subst (λ (c : Candidate). IsSelected n s (on v) (inverted v) v c)
        (sym (if-other v k hung.parts.from (if v == s.tree.parent k then hung.parts.one else o v) apart))
        (elim (cases_eq v (s.tree.parent k)) [
          | inl parent ↦
              subst (λ (c : Candidate). IsSelected n s (on v) (inverted v) v c) (sym (if-same v (s.tree.parent k) hung.parts.one (o v) parent))
              (subst (λ (u : ℕ). IsSelected n s (on u) (inverted u) u hung.parts.one) (sym parent) hung.own)
          | inr other ↦
              subst (λ (c : Candidate). IsSelected n s (on v) (inverted v) v c) (sym (if-other v (s.tree.parent k) hung.parts.one (o v) other))
              (selected-other n k v s (on v) (inverted v) (o v) at other (each v (omega arith)))
        ])))
  ]

  module _ (rest : IsRealBoth n (suc k) s on_before inverted_before before) where
    abbrev held_now : Held
    held_now = held_with k hung.parts.held rest.real.held

    -- before the node was hung
    served-before : (v : ℕ) → v < k → on v ≡ true → served_of_last n s.tree s.library held_now v (inverted v) ≡ true
    served-before v below is =
        served-same n (suc k) v s.tree s.library held_now rest.real.held (inverted v) (omega arith)
        (λ node later inside. if-other node k hung.parts.held (rest.real.held node) (λ e. omega arith))
        ∙ ap (served_of_last n s.tree s.library rest.real.held v)
        (sym (if-other v k (below_it (is_inverter s.library hung.parts.held) (inverted (s.tree.parent k))) (inverted v) (λ e. omega arith)))
        ∙ rest.served v (omega arith) (if-other v k (on (s.tree.parent k)) (on v) (λ e. omega arith) ∙ is)

    served-k : on (s.tree.parent k) ≡ true →
        served_of_last n s.tree s.library held_now k (below_it (is_inverter s.library (held_now k)) (inverted (s.tree.parent k))) ≡ true
    served-k is =
        served-same n (suc k) k s.tree s.library held_now rest.real.held (below_it (is_inverter s.library (held_now k)) (inverted (s.tree.parent k))) (omega arith)
        (λ node later inside. if-other node k hung.parts.held (rest.real.held node) (λ e. omega arith))
        ∙ ap (λ (m : Option ℕ). served_of_last n s.tree s.library rest.real.held k (below_it (is_inverter s.library m) (inverted (s.tree.parent k))))
        (if-same k k hung.parts.held (rest.real.held k) refl)
        ∙ ap (served_of_last n s.tree s.library rest.real.held k)
        (sym (if-same k k (below_it (is_inverter s.library hung.parts.held) (inverted (s.tree.parent k))) (inverted k) refl))
        ∙ rest.served k (omega arith) (if-same k k (on (s.tree.parent k)) (on k) refl ∙ is)

    served-now : (v : ℕ) → v < k → on v ≡ true → served_of_last (suc n) s.tree s.library held_now v (inverted v) ≡ true
    served-now v below is = elim (cases_eq v (s.tree.parent k)) [
      | inl same ↦
          served-hung n k v s.tree s.library held_now (inverted v) at same
          ∙ ap (λ (b : Bool). b && served_of_last n s.tree s.library held_now k (below_it (is_inverter s.library (held_now k)) (inverted v))) (served-before v below is)
          ∙ ap (λ (u : ℕ). served_of_last n s.tree s.library held_now k (below_it (is_inverter s.library (held_now k)) (inverted u))) same
          ∙ served-k (ap on (sym same) ∙ is)
      | inr other ↦ served-other n k v s.tree s.library held_now (inverted v) at other ∙ served-before v below is
    ]

    both-step : IsRealBoth (suc n) k s on inverted o
    both-step = record { real = real-step n k s o at earlier hung.parts rest.real; served = served-now }

pub both-real : (n k : ℕ) (s : Sites) (on inverted : ℕ → Bool) (o : ℕ → Candidate) → IsRcTree s.tree → 0 < k → k + n ≡ s.tree.nodes →
    ((v : ℕ) → v < k → IsSelected n s (on v) (inverted v) v (o v)) → IsRealBoth n k s on inverted o
both-real zero k s on inverted o tree later at each =
    let start : (v : ℕ) → v < k → unbuffered 0 s v ≡ o v = λ v below. start-selected s (on v) (inverted v) v (o v) (each v below) in
    record {
      real = record {
        held = λ v. None;
        may = λ v. tt;
        chosen = λ v below. ap (λ (c : Candidate). c.chosen) (start v below);
        seen = λ v below. ap (λ (c : Candidate). c.seen) (start v below);
      };
      served = λ v below is. start-served s (on v) (inverted v) v (o v) (each v below) is;
    }
both-real (suc n) k s on inverted o tree later at each =
    let q = s.tree.parent k in
    let earlier : q < k = tree.earlier k later (omega arith) in
    let hung = hung-comes n k s (on q) (inverted q) (o q) at (each q earlier) in
    let rest = both-real n (suc k) s (on_before n k s on inverted o at earlier hung) (inverted_before n k s on inverted o at earlier hung)
    (before n k s on inverted o at earlier hung) tree (omega arith) (omega arith) (selected-before n k s on inverted o at earlier hung each) in
    both-step n k s on inverted o at earlier hung rest
