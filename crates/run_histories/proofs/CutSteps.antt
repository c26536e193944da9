-- Cuts of histories as entries are added, and the mark that is still to come.
use Rattle.std.proofs.Common.{◌≡◌, ℕ, suc, zero, ◌+◌, ◌≤◌, inl, inr, Bool, true, false, ◌||◌, List, [], ◌∷◌, ◌++◌, length, take, All, Some, slice_get, if◌then◌else◌, IsTrue, refl, sym, ap, subst, ◌∙◌, arith, append_assoc}
use Rattle.std.specs.List.{fold}
use Rattle.std.proofs.lemmas.Bool.{cases_Bool, both_ways}
use Rattle.std.proofs.lemmas.List.{append-nil, take_at}
use Rattle.std.proofs.lemmas.List.Elements.{All-nil, All-push, All-head, All-tail}
use Rattle.std.proofs.lemmas.Option.{slice_get_cases}
use Rattle.book_state.proofs.BookingLaws.{cut-push}
use Rattle.book_state.proofs.HistoryLists.{slice_get-right}
use Rattle.book_state.proofs.ReplicaSteps.{take-entry}
use Rattle.book_state.specs.Cuts.{Cut, uncut, ends_segment, cut_after, cut, AtMarks}
use Rattle.book_state.specs.Entries.{AtEach, is_mark, is_mark_call, is_given, is_given_call}
use Rattle.book_state.specs.declared.entry.Call.{Call}
use Rattle.book_state.specs.declared.entry.Call.TheVariants.{Claim as Claims, Release, Mark}
use Rattle.book_state.specs.declared.entry.Entry.{Entry}

-- a cut with another segment, with more entries, and with a mark behind it
abbrev pub with_segment : Cut → List Entry → Cut
with_segment s segment = record { round = s.round; before = s.before; segment = segment }

abbrev pub grown : Cut → List Entry → Cut
grown s entries = with_segment s (s.segment ++ entries)

abbrev pub closed : Cut → Entry → Cut
closed s e = record { round = s.round + 1; before = s.before ++ s.segment ++ e ∷ []; segment = [] }

abbrev ended : Cut → Entry → Bool → Cut
ended s e mark = record { round = s.round + (if mark then 1 else 0); before = s.before ++ s.segment ++ e ∷ []; segment = [] }

abbrev pub step_of : Cut → Entry → (mark given : Bool) → Cut
step_of s e mark given = if mark || given then ended s e mark else grown s (e ∷ [])

pub after-other : (s : Cut) (e : Entry) → ends_segment e ≡ false → cut_after s e ≡ grown s (e ∷ [])
after-other s e is = ap (λ (b : Bool). if b then ended s e (is_mark e) else grown s (e ∷ [])) is

pub cut-other : (h : List Entry) (e : Entry) → ends_segment e ≡ false → cut (h ++ e ∷ []) ≡ grown (cut h) (e ∷ [])
cut-other h e is = cut-push h e ∙ after-other (cut h) e is

pub cut-mark : (h : List Entry) (e : Entry) → is_mark e ≡ true → cut (h ++ e ∷ []) ≡ closed (cut h) e
cut-mark h e is = cut-push h e ∙ ap (λ (mark : Bool). step_of (cut h) e mark (is_given e)) is

-- a claim of a given tree is no mark
given-unmarked : (call : Call) → is_given_call call ≡ true → is_mark_call call ≡ false
given-unmarked (Claims claim) is = refl
given-unmarked (Release net) is = refl
given-unmarked Mark is = absurd (both_ways false refl is)

pub cut-given : (h : List Entry) (e : Entry) → is_given e ≡ true → cut (h ++ e ∷ []) ≡ record { round = (cut h).round; before = (cut h).before ++ (cut h).segment ++ e ∷ []; segment = [] }
cut-given h e is =
    let same : (cut h).round + 0 ≡ (cut h).round = omega arith in
    cut-push h e ∙ ap (λ (mark : Bool). step_of (cut h) e mark (is_given e)) (given-unmarked e.call is)
    ∙ ap (λ (given : Bool). step_of (cut h) e false given) is
    ∙ ap (λ (round : ℕ). record { round = round; before = (cut h).before ++ (cut h).segment ++ e ∷ []; segment = [] }) same

-- an entry that ends no segment is neither
pub neither : (a b : Bool) → (a || b) ≡ false → (a ≡ false) × (b ≡ false)
neither true b is = absurd (both_ways true is refl)
neither false b is = (refl, is)

pub unended : (e : Entry) → is_mark e ≡ false → is_given e ≡ false → ends_segment e ≡ false
unended e mark given = ap (λ (b : Bool). b || is_given e) mark ∙ given

pub unmarked : (e : Entry) → ends_segment e ≡ false → is_mark e ≡ false
unmarked e is = (neither (is_mark e) (is_given e) is).0

pub ungiven : (e : Entry) → ends_segment e ≡ false → is_given e ≡ false
ungiven e is = (neither (is_mark e) (is_given e) is).1

-- the parts of a cut are the history
whole-after : (s : Cut) (e : Entry) → (cut_after s e).before ++ (cut_after s e).segment ≡ s.before ++ s.segment ++ e ∷ []
whole-after s e = by (ends_segment e)
  where
    by : (b : Bool) →
        (if b then ended s e (is_mark e) else grown s (e ∷ [])).before ++ (if b then ended s e (is_mark e) else grown s (e ∷ [])).segment ≡ s.before ++ s.segment ++ e ∷ []
    by true = append-nil (s.before ++ s.segment ++ e ∷ [])
    by false = sym (append_assoc s.before s.segment (e ∷ []))

whole-from : (s : Cut) (rest : List Entry) → (fold cut_after s rest).before ++ (fold cut_after s rest).segment ≡ s.before ++ s.segment ++ rest
whole-from s [] = sym (append-nil (s.before ++ s.segment))
whole-from s (e ∷ rest) =
    whole-from (cut_after s e) rest ∙ ap (λ (k : List Entry). k ++ rest) (whole-after s e) ∙ append_assoc (s.before ++ s.segment) (e ∷ []) rest

pub cut-whole : (h : List Entry) → (cut h).before ++ (cut h).segment ≡ h
unfolding cut
cut-whole h = whole-from uncut h

-- after a mark the history is all before
pub closed-before : (h : List Entry) (e : Entry) → (closed (cut h) e).before ≡ h ++ e ∷ []
closed-before h e = ap (λ (k : List Entry). k ++ e ∷ []) (cut-whole h)

-- the last entry is a mark, or there is none and the entry before was one
abbrev pub marked_last : Bool → List Entry → Bool
marked_last last entries = fold (λ (before : Bool) (e : Entry). is_mark e) last entries

-- the next entry and the history before it
pub each-next : (P : List Entry → Entry → Type 0) (h rest : List Entry) (e : Entry) → AtEach P (h ++ e ∷ rest) → P h e
each-next P h rest e each =
    subst (λ (k : List Entry). P k e) (take_at h (e ∷ rest) (length h) refl)
    (each (length h) e (slice_get-right h (e ∷ rest) (length h) 0 (omega arith)))

-- what holds of the cut at each mark holds of the cut here with the entries up to the next mark, where no given trees are
-- claimed from here on
pub ahead : (P : Cut → Type 0) (h rest : List Entry) (last : Bool) → AtMarks P (h ++ rest) → All (λ (e : Entry). is_given e ≡ false) rest → last ≡ false →
    marked_last last rest ≡ true → (more : List Entry) × P (grown (cut h) more)
ahead P h [] last each plain off ends = absurd (both_ways last off ends)
ahead P h (e ∷ rest) last each plain off ends = elim (cases_Bool (is_mark e)) [
  | inl mark ↦
      let here : P (cut h) = each-next (λ before x. IsTrue (is_mark x) → P (cut before)) h rest e each mark in
      ([], subst (λ (segment : List Entry). P (with_segment (cut h) segment)) (sym (append-nil (cut h).segment)) here)
  | inr other ↦
      let free = unended e other (All-head (λ (x : Entry). is_given x ≡ false) e rest plain) in
      let later : (more : List Entry) × P (grown (cut (h ++ e ∷ [])) more) =
      ahead P (h ++ e ∷ []) rest (is_mark e) (subst (AtMarks P) (sym (append_assoc h (e ∷ []) rest)) each)
      (All-tail (λ (x : Entry). is_given x ≡ false) e rest plain) other ends in (
        e ∷ later.0,
        subst (λ (segment : List Entry). P (with_segment (cut h) segment)) (append_assoc (cut h).segment (e ∷ []) later.0)
            (subst (λ (s : Cut). P (grown s later.0)) (cut-other h e free) later.1),
      )
]

-- what holds of nothing, and goes on from each first part of a history to the next, holds of each first part
pub each-part : (Q : List Entry → Type 0) (h : List Entry) → Q [] → ((p : ℕ) (e : Entry) → slice_get h p ≡ Some e → Q (take p h) → Q (take p h ++ e ∷ [])) →
    (n : ℕ) → n ≤ length h → Q (take n h)
each-part Q h none step zero most = none
each-part Q h none step (suc n) most = elim (slice_get_cases h n).1 [
  | inl at ↦
      let more : n + 1 ≡ suc n = omega arith in
      subst (λ (k : ℕ). Q (take k h)) more
      (subst Q (sym (take-entry h n at.0 at.2)) (step n at.0 at.2 (each-part Q h none step n (omega arith))))
  | inr past ↦ absurd (omega (arith, past.0, most))
]

segment-none : (P : Entry → Type 0) → All P (cut []).segment
unfolding cut
segment-none P = All-nil P

-- what holds of each entry holds of those of the last segment
pub segment-all : (P : Entry → Type 0) (h : List Entry) → AtEach (λ before e. P e) h → (n : ℕ) → n ≤ length h → All P (cut (take n h)).segment
segment-all P h each n most = each-part (λ (k : List Entry). All P (cut k).segment) h (segment-none P) more n most
  where
    more : (p : ℕ) (e : Entry) → slice_get h p ≡ Some e → All P (cut (take p h)).segment → All P (cut (take p h ++ e ∷ [])).segment
    more p e there all = elim (cases_Bool (ends_segment e)) [
      | inl ends ↦
          subst (λ (s : Cut). All P s.segment)
          (sym (cut-push (take p h) e ∙ ap (λ (b : Bool). if b then ended (cut (take p h)) e (is_mark e) else grown (cut (take p h)) (e ∷ [])) ends)) (All-nil P)
      | inr other ↦
          subst (λ (s : Cut). All P s.segment) (sym (cut-other (take p h) e other)) (All-push P (cut (take p h)).segment e all (each p e there))
    ]
