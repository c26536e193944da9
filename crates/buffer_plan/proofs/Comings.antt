-- Where the candidates of a list come from.
use Rattle.std.proofs.Common.{◌≡◌, ℕ, Bool, true, false, inl, inr, List, ◌++◌, length, map, flat_map, Contains, Option, Some, None, option_and_then, option_map, refl, sym, ap, ◌∙◌, if◌then◌else◌, arith}
use Rattle.std.specs.List.{range_with_len}
use Rattle.std.proofs.lemmas.List.Elements.{All-contains, Contains-append_cases}
use Rattle.rc_library.specs.Libraries.{kind_of}
use Rattle.rc_library.specs.declared.parts.Kind.{Kind}
use Rattle.elmore_delay.specs.FromLeaves.{behind, along}
use Rattle.ginneken_lists.specs.Candidates.{Candidate, Buffered, thinned, along_edge, joined_with, all_joined, best_driven, buffered, with_buffer, with_kind, offers, with_offers}
use Rattle.buffer_plan.specs.Picked.{Sites, all_above, all_hanging}
use Rattle.ginneken_lists.proofs.Thinned.{thinned-real}
use Rattle.buffer_plan.proofs.Members.{map-comes, flat_map-arises, filter_map-comes, range-below}
use Rattle.buffer_plan.proofs.BestDriven.{best-is}
use Rattle.buffer_plan.proofs.Served.{MayHold, seen_above}
use Rattle.buffer_plan.proofs.HungLemmas.{over}

-- a candidate that is kept is one of all
pub from-all : (all : List Candidate) (o : Candidate) → Contains (thinned all) o → Contains all o
from-all all o at = All-contains (Contains all) (thinned all) o (thinned-real all) at

-- a candidate above a node comes from one below it and from what the node holds
pub record IsAbove (s : Sites) (node : ℕ) (all : List Candidate) (o : Candidate) : Type 0 where
  pub from : Candidate
  pub among : Contains all from
  pub held : Option ℕ
  pub may : MayHold s node held
  pub seen : o.seen ≡ seen_above s held from.seen
  pub chosen : o.chosen ≡ over node held from.chosen

-- a candidate where branches meet comes from one of each
pub record IsJoined (left right : List Candidate) (o : Candidate) : Type 0 where
  pub one : Candidate
  pub other : Candidate
  pub among_left : Contains left one
  pub among_right : Contains right other
  pub is : joined_with one other ≡ o

pub joined-comes : (left right : List Candidate) (o : Candidate) → Contains (all_joined left right) o → IsJoined left right o
joined-comes left right o at =
    let with_right : Candidate → List Candidate = λ x. map (joined_with x) right in
    let arises = flat_map-arises with_right left o (from-all (flat_map with_right left) o at) in
    let comes = map-comes (joined_with arises.from) right o arises.within in
    record { one = arises.from; other = comes.from; among_left = arises.among; among_right = comes.among; is = comes.is }

unbuffered-comes : (s : Sites) (node : ℕ) (all : List Candidate) (o : Candidate) → Contains all o → IsAbove s node all o
unbuffered-comes s node all o at = record { from = o; among = at; held = None; may = tt; seen = refl; chosen = refl }

-- what a kind makes comes from a candidate below it
pub record IsBufferOver (s : Sites) (node number : ℕ) (all : List Candidate) (o : Candidate) : Type 0 where
  pub from : Candidate
  pub among : Contains all from
  pub seen : o.seen ≡ seen_above s (Some number) from.seen
  pub chosen : o.chosen ≡ Buffered node number from.chosen

best-comes : (s : Sites) (node number : ℕ) (all : List Candidate) (o : Candidate) (kind : Kind) (best : Option Candidate) →
    kind_of s.library number ≡ Some kind → best_driven kind.r all ≡ best → option_map (buffered node number kind) best ≡ Some o → IsBufferOver s node number all o
best-comes s node number all o kind None kind_is best_is is = absurd (grind arith)
best-comes s node number all o kind (Some from) kind_is best_is is =
    let made : buffered node number kind from ≡ o = cc in
    record {
      from = from;
      among = (best-is kind.r all from best_is).among;
      seen = ap (λ (c : Candidate). c.seen) (sym made) ∙ ap (λ (k : Option Kind). behind k from.seen) (sym kind_is);
      chosen = ap (λ (c : Candidate). c.chosen) (sym made);
    }

kind-comes : (s : Sites) (node number : ℕ) (all : List Candidate) (o : Candidate) (kind : Option Kind) →
    kind_of s.library number ≡ kind → option_and_then (with_buffer node number all) kind ≡ Some o → IsBufferOver s node number all o
kind-comes s node number all o None kind_is is = absurd (grind arith)
kind-comes s node number all o (Some kind) kind_is is = best-comes s node number all o kind (best_driven kind.r all) kind_is refl is

pub offer-comes : (s : Sites) (node number : ℕ) (all : List Candidate) (o : Candidate) → with_kind s.library node all number ≡ Some o →
    IsBufferOver s node number all o
offer-comes s node number all o is = kind-comes s node number all o (kind_of s.library number) refl is

offers-come : (s : Sites) (node : ℕ) (all : List Candidate) (o : Candidate) → s.free node ≡ true → Contains (with_offers s.library node all) o →
    IsAbove s node all o
offers-come s node all o free at =
    elim (Contains-append_cases all (offers s.library node all) o (from-all (all ++ offers s.library node all) o at)) [
      | inl before ↦ unbuffered-comes s node all o before
      | inr offered ↦
          let comes = filter_map-comes (with_kind s.library node all) (range_with_len 0 (length s.library.kinds)) o offered in
          let over = offer-comes s node comes.from all o comes.is in
          record {
            from = over.from;
            among = over.among;
            held = Some comes.from;
            may = (free, range-below (length s.library.kinds) comes.from comes.among);
            seen = over.seen;
            chosen = over.chosen;
          }
    ]

above-comes : (s : Sites) (node : ℕ) (all : List Candidate) (o : Candidate) (b : Bool) → s.free node ≡ b →
    Contains (if b then with_offers s.library node all else all) o → IsAbove s node all o
above-comes s node all o true free at = offers-come s node all o free at
above-comes s node all o false free at = unbuffered-comes s node all o at

pub above-is : (s : Sites) (node : ℕ) (all : List Candidate) (o : Candidate) → Contains (all_above s node all) o → IsAbove s node all o
above-is s node all o at = above-comes s node all o (s.free node) refl at

-- a candidate that the parent of a node sees
pub record IsHanging (s : Sites) (node : ℕ) (all : List Candidate) (o : Candidate) : Type 0 where
  pub from : Candidate
  pub among : Contains all from
  pub held : Option ℕ
  pub may : MayHold s node held
  pub seen : o.seen ≡ along (s.tree.wire node) (seen_above s held from.seen)
  pub chosen : o.chosen ≡ over node held from.chosen

pub hanging-comes : (s : Sites) (node : ℕ) (all : List Candidate) (o : Candidate) → Contains (all_hanging s node all) o → IsHanging s node all o
hanging-comes s node all o at =
    let wire = s.tree.wire node in
    let comes = map-comes (along_edge wire) (all_above s node all) o (from-all (map (along_edge wire) (all_above s node all)) o at) in
    let above = above-is s node all comes.from comes.among in
    record {
      from = above.from;
      among = above.among;
      held = above.held;
      may = above.may;
      seen = ap (λ (c : Candidate). c.seen) (sym comes.is) ∙ ap (along wire) above.seen;
      chosen = ap (λ (c : Candidate). c.chosen) (sym comes.is) ∙ above.chosen;
    }
