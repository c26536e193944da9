-- What the kinds of buffers offer, one after another.
use Rattle.std.proofs.Common.{◌≡◌, ℕ, zero, suc, ◌+◌, ◌*◌, ◌<◌, ◌≤◌, List, [], ◌∷◌, ◌++◌, length, get_or, drop, All, Contains, Option, Some, refl, sym, ap, subst, ◌∙◌, arith}
use Rattle.std.proofs.Math.Nat.{mul-le-mul}
use Rattle.std.proofs.lemmas.List.{drop_more, length_push}
use Rattle.std.proofs.lemmas.List.Elements.{All-push, All-contains, filter_map-append}
use Rattle.std.proofs.lemmas.List.Sums.{fold-append}
use Rattle.std.specs.List.{cons_option, filter_map, range_with_len}
use Rattle.std.specs.Option.{option_and_then, option_map}
use Rattle.gr_base.proofs.General.{range-more}
use Rattle.rc_library.specs.Libraries.{LibraryView, kind_of}
use Rattle.rc_library.specs.declared.parts.Kind.{Kind}
use Rattle.elmore_delay.specs.FromLeaves.{behind}
use Rattle.elmore_delay.specs.declared.seen.Seen.{Seen}
use Rattle.ginneken_lists.specs.Candidates.{Chosen, Buffered, Candidate, with_one, thinned, best_driven, buffered, with_buffer, with_kind, offers, with_offers}
use Rattle.ginneken_lists.specs.Thinning.{AreRising}
use Rattle.ginneken_lists.specs.Trails.{chosen_of, trail_of, Keeps}
use Rattle.ginneken_lists.specs.TrailStore.{AreChoices}
use Rattle.ginneken_lists.specs.StoredPairs.{stored_candidate}
use Rattle.ginneken_lists.specs.Offering.{with_all, buffer_over, offered}
use Rattle.ginneken_lists.specs.declared.choice.Choice.{Choice}
use Rattle.ginneken_lists.specs.declared.stored.Stored.{Stored}
use Rattle.ginneken_lists.proofs.ThinnedAgain.{thinned-stays}
use Rattle.ginneken_lists.proofs.TrailLemmas.{Keeps-itself, Keeps-through}
use Rattle.ginneken_lists.proofs.StoredLemmas.{all_of, sight}

-- one more of those that are offered
offered-push : (trail : List Chosen) (node from : ℕ) (found : List Stored) (s : Stored) →
    offered trail node from (found ++ s ∷ []) ≡ offered trail node from found ++ record { seen = sight s; chosen = Buffered node (from + length found) (chosen_of trail s.mark) } ∷ []
offered-push trail node from [] s =
    let place : from ≡ from + 0 = omega arith in
    ap (λ (n : ℕ). record { seen = sight s; chosen = Buffered node n (chosen_of trail s.mark) } ∷ []) place
offered-push trail node from (x ∷ found) s =
    let place : from + 1 + length found ≡ from + suc (length found) = omega arith in
    ap (λ (os : List Candidate). record { seen = sight x; chosen = Buffered node from (chosen_of trail x.mark) } ∷ os)
    (offered-push trail node (from + 1) found s
    ∙ ap (λ (n : ℕ). offered trail node (from + 1) found ++ record { seen = sight s; chosen = Buffered node n (chosen_of trail s.mark) } ∷ []) place)

-- what was found of the kinds before a number
pub record AreFound (lib : LibraryView) (items found : List Stored) (number : ℕ) : Type 0 where
  pub offers : (trail : List Chosen) (node : ℕ) → filter_map (with_kind lib node (all_of trail items)) (range_with_len 0 number) ≡ offered trail node 0 found
  pub long : length found ≡ number
  pub marks : (most : ℕ) → All (λ (pair : Stored). pair.mark ≤ most) items → All (λ (pair : Stored). pair.mark ≤ most) found

pub found-more : (lib : LibraryView) (items found : List Stored) (number : ℕ) (kind : Kind) (best s : Stored) → AreFound lib items found number →
    kind_of lib number ≡ Some kind → ((trail : List Chosen) → best_driven kind.r (all_of trail items) ≡ Some (stored_candidate trail best)) →
    Contains items best → sight s ≡ behind (Some kind) (sight best) → s.mark ≡ best.mark → AreFound lib items (found ++ s ∷ []) (number + 1)
found-more lib items found number kind best s are kind_is driven one seen named =
    record {
      offers = λ trail node.
          let all = all_of trail items in
          let o : Candidate = record { seen = sight s; chosen = Buffered node number (chosen_of trail s.mark) } in
          let place : 0 + length found ≡ number = let long = are.long in omega arith in
          let with_it : with_kind lib node all number ≡ Some o =
          ap (λ (k : Option Kind). option_and_then (with_buffer node number all) k) kind_is
          ∙ ap (option_map (buffered node number kind)) (driven trail)
          ∙ ap (λ (t : Seen). Some (record { seen = t; chosen = Buffered node number (chosen_of trail best.mark) })) (sym seen)
          ∙ ap (λ (m : ℕ). Some (record { seen = sight s; chosen = Buffered node number (chosen_of trail m) })) (sym named) in
          ap (filter_map (with_kind lib node all)) (range-more 0 number)
          ∙ filter_map-append (with_kind lib node all) (range_with_len 0 number) ((0 + number) ∷ [])
          ∙ ap (λ (os : List Candidate). os ++ filter_map (with_kind lib node all) ((0 + number) ∷ [])) (are.offers trail node)
          ∙ ap (λ (n : ℕ). offered trail node 0 found ++ filter_map (with_kind lib node all) (n ∷ [])) (let e : 0 + number ≡ number = omega arith in e)
          ∙ ap (λ (x : Option Candidate). offered trail node 0 found ++ cons_option x []) with_it
          ∙ ap (λ (n : ℕ). offered trail node 0 found ++ record { seen = sight s; chosen = Buffered node n (chosen_of trail s.mark) } ∷ []) (sym place)
          ∙ sym (offered-push trail node 0 found s);
      long = length_push found s ∙ ap (λ (n : ℕ). n + 1) are.long;
      marks = λ most all. All-push (λ (pair : Stored). pair.mark ≤ most) found s (are.marks most all)
          (subst (λ (n : ℕ). n ≤ most) (sym named) (All-contains (λ (pair : Stored). pair.mark ≤ most) items best all one));
    }

-- some of what was found is offered, over the marks of a trail from which the choices go on
pub record AreOffered (found : List Stored) (node : ℕ) (trail : List Chosen) (old items : List Stored) (choices : List Choice) (number : ℕ) : Type 0 where
  pub rest : with_all (all_of (trail_of choices) items) (offered trail node number (drop number found)) ≡ with_all (all_of trail old) (offered trail node 0 found)
  pub named : AreChoices choices
  pub keeps : Keeps trail (trail_of choices)
  pub marks : All (λ (pair : Stored). pair.mark ≤ length choices) items

pub offered-none : (found : List Stored) (node : ℕ) (old : List Stored) (choices : List Choice) → AreChoices choices →
    All (λ (pair : Stored). pair.mark ≤ length choices) old → AreOffered found node (trail_of choices) old old choices 0
offered-none found node old choices named marks = record {
  rest = refl;
  named = named;
  keeps = Keeps-itself (trail_of choices);
  marks = marks;
}

pub offered-more : (found : List Stored) (node : ℕ) (trail : List Chosen) (old items new : List Stored) (choices more : List Choice) (number : ℕ) (s : Stored) →
    AreOffered found node trail old items choices number → number < length found → s ≡ get_or found number s → s.mark ≤ length trail →
    all_of (trail_of more) new ≡ with_one (buffer_over (trail_of choices) node number s) (all_of (trail_of choices) items) →
    AreChoices more → Keeps (trail_of choices) (trail_of more) → All (λ (pair : Stored). pair.mark ≤ length more) new →
    AreOffered found node trail old new more (number + 1)
offered-more found node trail old items new choices more number s are inside read mark one named keeps marks = record {
  rest =
      let later = offered trail node (number + 1) (drop (number + 1) found) in
      let next : drop number found ≡ s ∷ drop (number + 1) found =
      drop_more found number s inside ∙ ap (λ (x : Stored). x ∷ drop (number + 1) found) (sym read) in
      ap (λ (os : List Candidate). with_all os later) one
      ∙ ap (λ (c : Chosen). with_all (with_one (record { seen = sight s; chosen = Buffered node number c }) (all_of (trail_of choices) items)) later)
      (are.keeps.same s.mark mark)
      ∙ ap (λ (xs : List Stored). with_all (all_of (trail_of choices) items) (offered trail node number xs)) (sym next)
      ∙ are.rest;
  named = named;
  keeps = Keeps-through trail (trail_of choices) (trail_of more) are.keeps keeps;
  marks = marks;
}

-- candidates that rise are thinned with what is offered over them
pub with_offers-is : (lib : LibraryView) (node : ℕ) (all found : List Candidate) → AreRising all → offers lib node all ≡ found → with_all all found ≡ with_offers lib node all
with_offers-is lib node all found rising is =
    ap (λ (kept : List Candidate). with_all kept found) (sym (thinned-stays all rising))
    ∙ sym (fold-append (λ (kept : List Candidate) (o : Candidate). with_one o kept) [] all found)
    ∙ ap (λ (os : List Candidate). thinned (all ++ os)) (sym is)

-- the steps of finding what is offered, and of offering it
pub offer-steps : (kinds n first second found old now new : ℕ) → first ≡ n → second ≡ n → found ≡ kinds → now ≤ old + kinds * (first + 1) →
    new ≤ now + found * (2 * (second + found)) → new ≤ old + 3 * (kinds * (n + kinds))
offer-steps zero n first second found old now new one two three search each =
    let none : found * (2 * (second + found)) ≡ 0 = ap (λ (k : ℕ). k * (2 * (second + k))) three ∙ omega arith in
    let least : zero * (first + 1) ≡ 0 = omega arith in
    omega arith
offer-steps (suc k) n first second found old now new one two three search each =
    let kinds : ℕ = suc k in
    let a : kinds * (first + 1) ≤ kinds * (n + kinds) = mul-le-mul (omega arith) (omega arith) in
    let b : found * (2 * (second + found)) ≡ kinds * (2 * (n + kinds)) =
    ap (λ (f : ℕ). f * (2 * (second + f))) three ∙ ap (λ (s : ℕ). kinds * (2 * (s + kinds))) two in
    let c : kinds * (2 * (n + kinds)) ≡ 2 * (kinds * (n + kinds)) = omega arith in
    omega (arith, a, b, c)
