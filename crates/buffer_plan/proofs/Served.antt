-- Candidates that serve as well as what is seen, through the operations on lists.
use Rattle.std.proofs.Common.{◌≡◌, ℕ, ◌<◌, Bool, true, false, List, ◌++◌, length, map, flat_map, Contains, option_and_then, option_map, Option, Some, None, sym, ap, subst, ◌∙◌, if◌then◌else◌}
use Rattle.std.specs.List.{range_with_len}
use Rattle.std.proofs.lemmas.List.Elements.{All-contains, Contains-append_left, Contains-append_right}
use Rattle.rc_library.specs.Libraries.{LibraryView, kind_of}
use Rattle.rc_library.specs.declared.parts.Kind.{Kind}
use Rattle.rc_library.specs.declared.parts.NamedKind.{NamedKind}
use Rattle.rc_library.specs.declared.parts.Wire.{Wire}
use Rattle.elmore_delay.specs.FromLeaves.{behind, along, joined}
use Rattle.elmore_delay.specs.declared.seen.Seen.{Seen}
use Rattle.ginneken_lists.specs.Candidates.{Candidate, serves, thinned, along_edge, all_along, joined_with, all_joined, driven_time, buffered, with_buffer, with_kind, offers, with_offers}
use Rattle.ginneken_lists.specs.Thinning.{is_served}
use Rattle.ginneken_lists.proofs.TimeOrder.{no_later-through}
use Rattle.ginneken_lists.proofs.Serving.{serves-through}
use Rattle.buffer_plan.specs.Picked.{Sites, all_above, all_hanging}
use Rattle.ginneken_lists.proofs.Thinned.{thinned-complete}
use Rattle.buffer_plan.proofs.Members.{any-finds, contains-map, contains-flat_map, contains-filter_map, contains-range, element-at}
use Rattle.buffer_plan.proofs.ServingKept.{along-kept, joined-kept, driven-kept, behind-kept}
use Rattle.buffer_plan.proofs.BestDriven.{best-is, best-some, best-greatest}

-- one of some candidates serves as well as something that is seen
pub record IsServed (all : List Candidate) (s : Seen) : Type 0 where
  pub by : Candidate
  pub among : Contains all by
  pub well : serves by.seen s ≡ true

-- where one of some candidates serves as well, one that is kept does
pub served-thinned : (all : List Candidate) (s : Seen) → IsServed all s → IsServed (thinned all) s
served-thinned all s h =
    let kept = any-finds (λ (other : Candidate). serves other.seen h.by.seen) (thinned all)
    (All-contains (λ (o : Candidate). is_served o (thinned all) ≡ true) all h.by (thinned-complete all) h.among) in
    record { by = kept.0; among = kept.1.among; well = serves-through kept.0.seen h.by.seen s kept.1.passes h.well }

pub served-along : (wire : Wire) (all : List Candidate) (s : Seen) → IsServed all s → IsServed (all_along wire all) (along wire s)
served-along wire all s h =
    let before : IsServed (map (along_edge wire) all) (along wire s) = record {
      by = along_edge wire h.by;
      among = contains-map (along_edge wire) h.by all h.among;
      well = along-kept wire h.by.seen s h.well;
    } in
    served-thinned (map (along_edge wire) all) (along wire s) before

pub served-joined : (left right : List Candidate) (s u : Seen) → IsServed left s → IsServed right u → IsServed (all_joined left right) (joined s u)
served-joined left right s u h k =
    let with_right : Candidate → List Candidate = λ o. map (joined_with o) right in
    let before : IsServed (flat_map with_right left) (joined s u) = record {
      by = joined_with h.by k.by;
      among = contains-flat_map with_right h.by (joined_with h.by k.by) left h.among (contains-map (joined_with h.by) k.by right k.among);
      well = joined-kept h.by.seen s k.by.seen u h.well k.well;
    } in
    served-thinned (flat_map with_right left) (joined s u) before

-- the kind of a number of the library
pub kind-known : (lib : LibraryView) (number : ℕ) → number < length lib.kinds → (kind : Kind) × (kind_of lib number ≡ Some kind)
kind-known lib number below =
    let named = element-at lib.kinds number below in
    (named.0.kind, ap (λ (o : Option NamedKind). option_map (λ (n : NamedKind). n.kind) o) named.1)

-- with an offer of each kind: without a buffer, and with one
served-unbuffered : (lib : LibraryView) (node : ℕ) (all : List Candidate) (s : Seen) → IsServed all s → IsServed (with_offers lib node all) s
served-unbuffered lib node all s h =
    let before : IsServed (all ++ offers lib node all) s = record {
      by = h.by;
      among = Contains-append_left all (offers lib node all) h.by h.among;
      well = h.well;
    } in
    served-thinned (all ++ offers lib node all) s before

-- what a kind makes where one of some candidates serves as well: a buffer over the one that it drives best
pub record IsMade (lib : LibraryView) (node number : ℕ) (all : List Candidate) (s : Seen) : Type 0 where
  pub by : Candidate
  pub is : with_kind lib node all number ≡ Some by
  pub well : serves by.seen s ≡ true

pub served-made : (lib : LibraryView) (node number : ℕ) (kind : Kind) (all : List Candidate) (s : Seen) → kind_of lib number ≡ Some kind → IsServed all s →
    IsMade lib node number all (behind (Some kind) s)
served-made lib node number kind all s is h =
    let best = best-some kind.r all h.by h.among in
    let time = no_later-through (driven_time kind.r s) (driven_time kind.r h.by.seen) (driven_time kind.r best.0.seen) (driven-kept kind.r h.by.seen s h.well)
    (best-greatest kind.r all best.0 h.by (best-is kind.r all best.0 best.1) h.among) in
    record {
      by = buffered node number kind best.0;
      is = ap (λ (o : Option Kind). option_and_then (with_buffer node number all) o) is
          ∙ ap (λ (o : Option Candidate). option_map (buffered node number kind) o) best.1;
      well = behind-kept kind best.0.seen s time;
    }

served-buffered : (lib : LibraryView) (node number : ℕ) (kind : Kind) (all : List Candidate) (s : Seen) → number < length lib.kinds →
    kind_of lib number ≡ Some kind → IsServed all s → IsServed (with_offers lib node all) (behind (Some kind) s)
served-buffered lib node number kind all s below is h =
    let made = served-made lib node number kind all s is h in
    let before : IsServed (all ++ offers lib node all) (behind (Some kind) s) = record {
      by = made.by;
      among = Contains-append_right all (offers lib node all) made.by
          (contains-filter_map (with_kind lib node all) number made.by (range_with_len 0 (length lib.kinds))
          (contains-range (length lib.kinds) number below) made.is);
      well = made.well;
    } in
    served-thinned (all ++ offers lib node all) (behind (Some kind) s) before

-- what a node may hold: nothing, and where a buffer may stand a kind of the library
abbrev pub MayHold : Sites → ℕ → Option ℕ → Type 0
MayHold s node None = Unit {0}
MayHold s node (Some number) = (s.free node ≡ true) × (number < length s.library.kinds)

-- what is seen above a node with what it holds
abbrev pub seen_above : Sites → Option ℕ → Seen → Seen
seen_above s held u = behind (option_and_then (kind_of s.library) held) u

pub served-above : (s : Sites) (node : ℕ) (held : Option ℕ) (all : List Candidate) (u : Seen) → MayHold s node held → IsServed all u →
    IsServed (all_above s node all) (seen_above s held u)
served-above s node None all u may h = without (s.free node)
  where
    without : (b : Bool) → IsServed (if b then with_offers s.library node all else all) u
    without true = served-unbuffered s.library node all u h
    without false = h
served-above s node (Some number) all u may h =
    let kind = kind-known s.library number may.1 in
    let buffered_well = served-buffered s.library node number kind.0 all u may.1 kind.1 h in
    let seen = subst (λ (o : Option Kind). IsServed (with_offers s.library node all) (behind o u)) (sym kind.1) buffered_well in
    subst (λ (b : Bool). IsServed (if b then with_offers s.library node all else all) (behind (kind_of s.library number) u)) (sym may.0) seen

pub served-hanging : (s : Sites) (node : ℕ) (held : Option ℕ) (all : List Candidate) (u : Seen) → MayHold s node held → IsServed all u →
    IsServed (all_hanging s node all) (along (s.tree.wire node) (seen_above s held u))
served-hanging s node held all u may h =
    served-along (s.tree.wire node) (all_above s node all) (seen_above s held u) (served-above s node held all u may h)
