-- Whatever is placed below a node, one of the candidates there serves as well.
use Rattle.std.proofs.Common.{◌≡◌, ℕ, zero, suc, ◌+◌, inl, inr, List, [], sym, subst, arith}
use Rattle.std.proofs.lemmas.Bool.{cases_eq}
use Rattle.elmore_delay.specs.FromLeaves.{along, sinks_seen, seen_of_last}
use Rattle.elmore_delay.specs.declared.seen.Seen.{Seen}
use Rattle.elmore_delay.proofs.Loads.{seen-other}
use Rattle.ginneken_lists.specs.Candidates.{Candidate, Nothing, all_joined}
use Rattle.ginneken_lists.proofs.Serving.{serves-itself}
use Rattle.buffer_plan.specs.Picked.{Sites, all_hanging, candidates_of_last}
use Rattle.buffer_plan.proofs.Members.{contains-first}
use Rattle.buffer_plan.proofs.Served.{IsServed, served-joined, MayHold, seen_above, served-hanging}
use Rattle.buffer_plan.proofs.HungLemmas.{Held, buffers_by, seen-hung, candidates-hung, candidates-other}

-- each node holds what it may
abbrev pub AllMay : Sites → Held → Type 0
AllMay s p = (node : ℕ) → MayHold s node (p node)

-- the candidate of a leaf
abbrev pub bare : Seen → Candidate
bare s = record { seen = s; chosen = Nothing }

pub complete : (n k v : ℕ) (s : Sites) (p : Held) → k + n ≡ s.tree.nodes → AllMay s p →
    IsServed (candidates_of_last n s v) (seen_of_last n s.tree (buffers_by s.library p) v)
complete zero k v s p at may = record {
  by = bare (sinks_seen s.tree v);
  among = contains-first (bare (sinks_seen s.tree v)) [];
  well = serves-itself (sinks_seen s.tree v);
}
complete (suc n) k v s p at may =
    let b = buffers_by s.library p in
    let own = complete n (suc k) v s p (omega arith) may in
    elim (cases_eq v (s.tree.parent k)) [
      | inl same ↦
          let below = complete n (suc k) k s p (omega arith) may in
          let hung = served-hanging s k (p k) (candidates_of_last n s k) (seen_of_last n s.tree b k) (may k) below in
          let both = served-joined (candidates_of_last n s v) (all_hanging s k (candidates_of_last n s k)) (seen_of_last n s.tree b v)
          (along (s.tree.wire k) (seen_above s (p k) (seen_of_last n s.tree b k))) own hung in
          subst (λ (all : List Candidate). IsServed all (seen_of_last (suc n) s.tree b v)) (sym (candidates-hung n k v s at same))
          (subst (λ (u : Seen). IsServed (all_joined (candidates_of_last n s v) (all_hanging s k (candidates_of_last n s k))) u)
          (sym (seen-hung n k v s.tree b at same)) both)
      | inr other ↦
          subst (λ (all : List Candidate). IsServed all (seen_of_last (suc n) s.tree b v)) (sym (candidates-other n k v s at other))
          (subst (λ (u : Seen). IsServed (candidates_of_last n s v) u) (sym (seen-other n k v s.tree b at other)) own)
    ]
