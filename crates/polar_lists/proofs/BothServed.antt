-- Whatever is placed below a node so that with a signal there each sink gets what it wants, a candidate for the signal serves as well.
use Rattle.std.proofs.Common.{◌≡◌, ℕ, zero, suc, ◌+◌, ◌<◌, inl, inr, Bool, true, false, List, [], ◌++◌, length, Option, Some, None, sym, subst, ◌∙◌, if◌then◌else◌, arith}
use Rattle.std.specs.List.{range_with_len}
use Rattle.std.proofs.lemmas.Bool.{cases_eq, and_parts}
use Rattle.std.proofs.lemmas.List.Elements.{Contains-append_left, Contains-append_right}
use Rattle.rc_library.specs.Libraries.{LibraryView, kind_of}
use Rattle.rc_library.specs.declared.parts.Kind.{Kind}
use Rattle.elmore_delay.specs.FromLeaves.{along, behind, sinks_seen, seen_of_last}
use Rattle.elmore_delay.specs.declared.seen.Seen.{Seen}
use Rattle.elmore_delay.proofs.Loads.{seen-other}
use Rattle.ginneken_lists.specs.Candidates.{Candidate, leaf, all_joined}
use Rattle.ginneken_lists.proofs.Serving.{serves-itself}
use Rattle.buffer_plan.specs.Picked.{Sites}
use Rattle.buffer_plan.proofs.Members.{contains-first, contains-filter_map, contains-range}
use Rattle.buffer_plan.proofs.Served.{IsServed, served-thinned, served-along, served-joined, kind-known, served-made, MayHold, seen_above}
use Rattle.buffer_plan.proofs.HungLemmas.{Held, buffers_by, seen-hung}
use Rattle.buffer_plan.proofs.Complete.{AllMay, bare}
use Rattle.polar_lists.specs.Polarity.{is_inverter}
use Rattle.polar_lists.specs.Signals.{BySignal, below_it, made_by, offers_by, with_both_offers, both_above, both_hanging, both_of_last}
use Rattle.polar_lists.proofs.SignalLemmas.{both-hung, both-other}
use Rattle.polar_lists.proofs.ServedSinks.{served_of_last, served-hung, served-other}

-- with what is offered: without a buffer, and with one
both-unbuffered : (lib : LibraryView) (node : ℕ) (all : BySignal) (inverted : Bool) (u : Seen) → IsServed (all inverted) u →
    IsServed (with_both_offers lib node all inverted) u
both-unbuffered lib node all inverted u h =
    let before : IsServed (all inverted ++ offers_by lib node all inverted) u = record {
      by = h.by;
      among = Contains-append_left (all inverted) (offers_by lib node all inverted) h.by h.among;
      well = h.well;
    } in
    served-thinned (all inverted ++ offers_by lib node all inverted) u before

both-buffered : (lib : LibraryView) (node number : ℕ) (kind : Kind) (all : BySignal) (inverted : Bool) (u : Seen) → number < length lib.kinds →
    kind_of lib number ≡ Some kind → IsServed (all (below_it (is_inverter lib (Some number)) inverted)) u →
    IsServed (with_both_offers lib node all inverted) (behind (Some kind) u)
both-buffered lib node number kind all inverted u below is h =
    let made = served-made lib node number kind (all (below_it (is_inverter lib (Some number)) inverted)) u is h in
    let before : IsServed (all inverted ++ offers_by lib node all inverted) (behind (Some kind) u) = record {
      by = made.by;
      among = Contains-append_right (all inverted) (offers_by lib node all inverted) made.by
          (contains-filter_map (made_by lib node all inverted) number made.by (range_with_len 0 (length lib.kinds))
          (contains-range (length lib.kinds) number below) made.is);
      well = made.well;
    } in
    served-thinned (all inverted ++ offers_by lib node all inverted) (behind (Some kind) u) before

both-served_above : (s : Sites) (node : ℕ) (held : Option ℕ) (all : BySignal) (inverted : Bool) (u : Seen) → MayHold s node held →
    IsServed (all (below_it (is_inverter s.library held) inverted)) u → IsServed (both_above s node all inverted) (seen_above s held u)
both-served_above s node None all inverted u may h = without (s.free node)
  where
    without : (b : Bool) → IsServed ((if b then with_both_offers s.library node all else all) inverted) u
    without true = both-unbuffered s.library node all inverted u h
    without false = h
both-served_above s node (Some number) all inverted u may h =
    let kind = kind-known s.library number may.1 in
    let buffered_well = both-buffered s.library node number kind.0 all inverted u may.1 kind.1 h in
    let seen = subst (λ (o : Option Kind). IsServed (with_both_offers s.library node all inverted) (behind o u)) (sym kind.1) buffered_well in
    subst (λ (b : Bool). IsServed ((if b then with_both_offers s.library node all else all) inverted) (behind (kind_of s.library number) u)) (sym may.0) seen

both-served_hanging : (s : Sites) (node : ℕ) (held : Option ℕ) (all : BySignal) (inverted : Bool) (u : Seen) → MayHold s node held →
    IsServed (all (below_it (is_inverter s.library held) inverted)) u → IsServed (both_hanging s node all inverted) (along (s.tree.wire node) (seen_above s held u))
both-served_hanging s node held all inverted u may h =
    served-along (s.tree.wire node) (both_above s node all inverted) (seen_above s held u) (both-served_above s node held all inverted u may h)

pub both-complete : (n k v : ℕ) (s : Sites) (p : Held) (inverted : Bool) → k + n ≡ s.tree.nodes → AllMay s p →
    served_of_last n s.tree s.library p v inverted ≡ true → IsServed (both_of_last n s v inverted) (seen_of_last n s.tree (buffers_by s.library p) v)
both-complete zero k v s p inverted at may served =
    let one : IsServed (leaf (sinks_seen s.tree v)) (sinks_seen s.tree v) = record {
      by = bare (sinks_seen s.tree v);
      among = contains-first (bare (sinks_seen s.tree v)) [];
      well = serves-itself (sinks_seen s.tree v);
    } in
    subst (λ (b : Bool). IsServed (if b then leaf (sinks_seen s.tree v) else []) (sinks_seen s.tree v)) (sym served) one
both-complete (suc n) k v s p inverted at may served =
    let b = buffers_by s.library p in
    let all : BySignal = both_of_last n s k in
    elim (cases_eq v (s.tree.parent k)) [
      | inl same ↦
          let parts = and_parts (served_of_last n s.tree s.library p v inverted)
          (served_of_last n s.tree s.library p k (below_it (is_inverter s.library (p k)) inverted))
          (sym (served-hung n k v s.tree s.library p inverted at same) ∙ served) in
          let own = both-complete n (suc k) v s p inverted (omega arith) may parts.0 in
          let below = both-complete n (suc k) k s p (below_it (is_inverter s.library (p k)) inverted) (omega arith) may parts.1 in
          let hung = both-served_hanging s k (p k) all inverted (seen_of_last n s.tree b k) (may k) below in
          let both = served-joined (both_of_last n s v inverted) (both_hanging s k all inverted) (seen_of_last n s.tree b v)
          (along (s.tree.wire k) (seen_above s (p k) (seen_of_last n s.tree b k))) own hung in
          subst (λ (xs : List Candidate). IsServed xs (seen_of_last (suc n) s.tree b v)) (sym (both-hung n k v s inverted at same))
          (subst (λ (u : Seen). IsServed (all_joined (both_of_last n s v inverted) (both_hanging s k all inverted)) u)
          (sym (seen-hung n k v s.tree b at same)) both)
      | inr other ↦
          let own = both-complete n (suc k) v s p inverted (omega arith) may (sym (served-other n k v s.tree s.library p inverted at other) ∙ served) in
          subst (λ (xs : List Candidate). IsServed xs (seen_of_last (suc n) s.tree b v)) (sym (both-other n k v s inverted at other))
          (subst (λ (u : Seen). IsServed (both_of_last n s v inverted) u) (sym (seen-other n k v s.tree b at other)) own)
    ]
