-- What the marks of a trail name.
use Rattle.std.proofs.Common.{◌≡◌, ℕ, zero, suc, ◌+◌, ◌<◌, ◌≤◌, inl, inr, false, List, [], ◌∷◌, ◌++◌, length, get_or, fold, All, refl, sym, ap, subst, ◌∙◌, arith}
use Rattle.std.proofs.lemmas.Bool.{cases_lt}
use Rattle.std.proofs.lemmas.List.{get_or_default, get_or_append_left, get_or_push, length-append, length_push}
use Rattle.std.proofs.lemmas.List.Sums.{fold_push}
use Rattle.ginneken_lists.specs.Candidates.{Chosen, Nothing, Buffered, Both, is_nothing, both}
use Rattle.ginneken_lists.specs.Trails.{chosen_of, chosen_by, trail_of, HasBuffer, IsBelow, Keeps}
use Rattle.ginneken_lists.specs.TrailStore.{IsChoiceAt, AreChoices}
use Rattle.ginneken_lists.specs.declared.choice.Choice.{Choice}
use Rattle.ginneken_lists.specs.declared.choice.Choice.TheVariants.{Empty, Buffer, Both as Branches}

-- a longer trail keeps what the marks of a shorter one name
pub chosen-append : (trail more : List Chosen) (mark : ℕ) → mark ≤ length trail → chosen_of (trail ++ more) mark ≡ chosen_of trail mark
chosen-append trail more zero within = refl
chosen-append trail more (suc at) within = get_or_append_left trail more Nothing at (omega arith)

pub Keeps-append : (trail more : List Chosen) → Keeps trail (trail ++ more)
Keeps-append trail more = record {
  longer = let long = length-append trail more in omega arith;
  same = λ mark within. chosen-append trail more mark within;
}

pub Keeps-itself : (trail : List Chosen) → Keeps trail trail
Keeps-itself trail = record { longer = omega arith; same = λ mark within. refl }

pub Keeps-through : (trail other third : List Chosen) → Keeps trail other → Keeps other third → Keeps trail third
Keeps-through trail other third first second =
    let long = first.longer in
    let longer = second.longer in
    record { longer = omega arith; same = λ mark within. second.same mark (omega arith) ∙ first.same mark within }

-- a choice of lower marks names the same in a longer trail
chosen_by-keeps : (trail other : List Chosen) (choice : Choice) (mark : ℕ) → Keeps trail other → mark ≤ length trail + 1 → IsBelow mark choice →
    chosen_by other choice ≡ chosen_by trail choice
chosen_by-keeps trail other Empty mark keeps within below = refl
chosen_by-keeps trail other (Buffer node kind at) mark keeps within below =
    ap (λ (c : Chosen). Buffered node kind c) (keeps.same at (omega arith))
chosen_by-keeps trail other (Branches left right) mark keeps within below =
    let first = below.0 in
    let second = below.1 in
    ap (λ (c : Chosen). Both c (chosen_of other right)) (keeps.same left (omega arith))
    ∙ ap (λ (c : Chosen). Both (chosen_of trail left) c) (keeps.same right (omega arith))

-- a choice behind others
pub trail-push : (choices : List Choice) (choice : Choice) → trail_of (choices ++ choice ∷ []) ≡ trail_of choices ++ chosen_by (trail_of choices) choice ∷ []
trail-push choices choice = fold_push (λ (trail : List Chosen) (c : Choice). trail ++ chosen_by trail c ∷ []) [] choices choice

-- the trail of some choices goes on from that of the first of them
abbrev from : List Chosen → List Choice → List Chosen
from trail choices = fold (λ (before : List Chosen) (c : Choice). before ++ chosen_by before c ∷ []) trail choices

from-keeps : (choices : List Choice) (trail : List Chosen) → Keeps trail (from trail choices)
from-keeps [] trail = Keeps-itself trail
from-keeps (choice ∷ choices) trail =
    Keeps-through trail (trail ++ chosen_by trail choice ∷ []) (from trail (choice ∷ choices)) (Keeps-append trail (chosen_by trail choice ∷ []))
    (from-keeps choices (trail ++ chosen_by trail choice ∷ []))

from-length : (choices : List Choice) (trail : List Chosen) → length (from trail choices) ≡ length trail + length choices
from-length [] trail = omega arith
from-length (choice ∷ choices) trail =
    let rest = from-length choices (trail ++ chosen_by trail choice ∷ []) in
    let long = length_push trail (chosen_by trail choice) in
    omega arith

pub length-trail : (choices : List Choice) → length (trail_of choices) ≡ length choices
length-trail choices = let none : 0 + length choices ≡ length choices = omega arith in from-length choices [] ∙ none

-- what a mark names is what the choice at its place names
from-at : (choices : List Choice) (trail : List Chosen) (at : ℕ) (d : Choice) → at < length choices → IsBelow (length trail + at + 1) (get_or choices at d) →
    chosen_of (from trail choices) (suc (length trail + at)) ≡ chosen_by (from trail choices) (get_or choices at d)
from-at [] trail at d within below = absurd (omega arith)
from-at (choice ∷ choices) trail zero d within below =
    let next = trail ++ chosen_by trail choice ∷ [] in
    let keeps = from-keeps choices next in
    let long = length_push trail (chosen_by trail choice) in
    let place : suc (length trail + 0) ≡ suc (length trail) = omega arith in
    let first : chosen_of next (suc (length trail)) ≡ chosen_by trail choice = get_or_push trail (chosen_by trail choice) Nothing (length trail) refl in
    let whole : Keeps trail (from next choices) = Keeps-through trail next (from next choices) (Keeps-append trail (chosen_by trail choice ∷ [])) keeps in
    ap (chosen_of (from next choices)) place
    ∙ keeps.same (suc (length trail)) (omega arith)
    ∙ first
    ∙ sym (chosen_by-keeps trail (from next choices) choice (length trail + 0 + 1) whole (omega arith) below)
from-at (choice ∷ choices) trail (suc at) d within below =
    let next = trail ++ chosen_by trail choice ∷ [] in
    let long = length_push trail (chosen_by trail choice) in
    let place : suc (length trail + suc at) ≡ suc (length next + at) = omega arith in
    let mark : length trail + suc at + 1 ≡ length next + at + 1 = omega arith in
    ap (chosen_of (from next choices)) place
    ∙ from-at choices next at d (omega arith) (subst (λ (m : ℕ). IsBelow m (get_or choices at d)) mark below)

-- a mark above 0 names what the choice before it in number names
pub chosen-choice : (choices : List Choice) (at mark : ℕ) (d : Choice) → AreChoices choices → suc at ≡ mark → at < length choices →
    chosen_of (trail_of choices) mark ≡ chosen_by (trail_of choices) (get_or choices at d)
chosen-choice choices at mark d are next within =
    let below : IsBelow (0 + at + 1) (get_or choices at d) =
    subst (λ (m : ℕ). IsBelow m (get_or choices at d)) (omega arith) (are at d within).below in
    let place : mark ≡ suc (0 + at) = omega arith in
    ap (chosen_of (trail_of choices)) place ∙ from-at choices [] at d within below

pub below-choice : (choices : List Choice) (at mark : ℕ) (d : Choice) → AreChoices choices → suc at ≡ mark → at < length choices → IsBelow mark (get_or choices at d)
below-choice choices at mark d are next within =
    let place : at + 1 ≡ mark = omega arith in
    subst (λ (m : ℕ). IsBelow m (get_or choices at d)) place (are at d within).below

pub some-choice : (choices : List Choice) (at : ℕ) (d : Choice) → AreChoices choices → at < length choices → HasBuffer (get_or choices at d)
some-choice choices at d are within = (are at d within).some

-- one more choice
pub AreChoices-push : (choices : List Choice) (choice : Choice) → AreChoices choices → HasBuffer choice → IsBelow (length choices + 1) choice →
    AreChoices (choices ++ choice ∷ [])
AreChoices-push choices choice are some below at d within =
    let long = length_push choices choice in
    elim (cases_lt at (length choices)) [
      | inl before ↦ subst (λ (c : Choice). IsChoiceAt (at + 1) c) (sym (get_or_append_left choices (choice ∷ []) d at before)) (are at d before)
      | inr last ↦
          let here : length choices ≡ at = omega arith in
          let is : get_or (choices ++ choice ∷ []) at d ≡ choice = get_or_push choices choice d at here in
          record {
            some = subst HasBuffer (sym is) some;
            below = subst (λ (c : Choice). IsBelow (at + 1) c) (sym is) (subst (λ (n : ℕ). IsBelow (n + 1) choice) here below);
          }
    ]

-- no mark above 0 names no buffer
pub chosen-something : (choice : Choice) (trail : List Chosen) → HasBuffer choice → is_nothing (chosen_by trail choice) ≡ false
chosen-something Empty trail some = absurd some
chosen-something (Buffer node kind below) trail some = refl
chosen-something (Branches left right) trail some = refl

abbrev IsTrail : List Chosen → Type 0
IsTrail trail = All (λ chosen. is_nothing chosen ≡ false) trail

trail-is : (choices : List Choice) → AreChoices choices → IsTrail (trail_of choices)
trail-is choices are at d within =
    let long = length-trail choices in
    let inside : at < length choices = omega arith in
    let named : get_or (trail_of choices) at d ≡ chosen_by (trail_of choices) (get_or choices at Empty) =
    get_or_default (trail_of choices) at d Nothing within ∙ chosen-choice choices at (suc at) Empty are refl inside in
    ap is_nothing named ∙ chosen-something (get_or choices at Empty) (trail_of choices) (are at Empty inside).some

-- two marks on two branches, where neither is 0
both-branches : (trail : List Chosen) (left right : ℕ) → IsTrail trail → 0 < left → 0 < right → left ≤ length trail → right ≤ length trail →
    both (chosen_of trail left) (chosen_of trail right) ≡ Both (chosen_of trail left) (chosen_of trail right)
both-branches trail zero right is first second within inside = absurd (omega arith)
both-branches trail (suc at) zero is first second within inside = absurd (omega arith)
both-branches trail (suc at) (suc place) is first second within inside =
    let some : is_nothing (get_or trail at Nothing) ≡ false = is at Nothing (omega arith) in
    let other : is_nothing (get_or trail place Nothing) ≡ false = is place Nothing (omega arith) in
    rw (some, other) refl

-- one more mark for two others
pub both-named : (choices new : List Choice) (left right mark : ℕ) → AreChoices choices → new ≡ choices ++ Branches left right ∷ [] → mark ≡ length choices + 1 →
    0 < left → 0 < right → left ≤ length (trail_of choices) → right ≤ length (trail_of choices) →
    chosen_of (trail_of new) mark ≡ both (chosen_of (trail_of choices) left) (chosen_of (trail_of choices) right)
both-named choices new left right mark are new_is mark_is first second within inside =
    let trail = trail_of choices in
    let long = length-trail choices in
    let named : Chosen = Both (chosen_of trail left) (chosen_of trail right) in
    let place : mark ≡ suc (length trail) = omega arith in
    ap (λ (cs : List Choice). chosen_of (trail_of cs) mark) new_is
    ∙ ap (λ (t : List Chosen). chosen_of t mark) (trail-push choices (Branches left right))
    ∙ ap (chosen_of (trail ++ named ∷ [])) place
    ∙ get_or_push trail named Nothing (length trail) refl
    ∙ sym (both-branches trail left right (trail-is choices are) first second within inside)

pub push-keeps : (choices new : List Choice) (choice : Choice) → new ≡ choices ++ choice ∷ [] → Keeps (trail_of choices) (trail_of new)
push-keeps choices new choice new_is =
    subst (λ (t : List Chosen). Keeps (trail_of choices) t) (sym (ap trail_of new_is ∙ trail-push choices choice))
    (Keeps-append (trail_of choices) (chosen_by (trail_of choices) choice ∷ []))

-- one more mark for a buffer over what another one names
pub buffer-named : (choices new : List Choice) (node kind below mark : ℕ) → new ≡ choices ++ Buffer node kind below ∷ [] → mark ≡ length choices + 1 →
    chosen_of (trail_of new) mark ≡ Buffered node kind (chosen_of (trail_of choices) below)
buffer-named choices new node kind below mark new_is mark_is =
    let trail = trail_of choices in
    let long = length-trail choices in
    let named : Chosen = Buffered node kind (chosen_of trail below) in
    let place : mark ≡ suc (length trail) = omega arith in
    ap (λ (cs : List Choice). chosen_of (trail_of cs) mark) new_is
    ∙ ap (λ (t : List Chosen). chosen_of t mark) (trail-push choices (Buffer node kind below))
    ∙ ap (chosen_of (trail ++ named ∷ [])) place
    ∙ get_or_push trail named Nothing (length trail) refl
