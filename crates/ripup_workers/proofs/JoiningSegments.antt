-- Entries that workers add between two marks.
use Rattle.std.proofs.Common.{◌≡◌, ℕ, suc, zero, ◌<◌, ◌≤◌, inl, inr, true, false, ◌||◌, List, [], ◌∷◌, ◌++◌, All, Option, Some, None, IsTrue, refl, sym, ap, subst, ◌∙◌, arith, append_assoc}
use Rattle.std.specs.List.{fold}
use Rattle.std.proofs.lemmas.Bool.{cases_eq, both_ways}
use Rattle.std.proofs.lemmas.List.{append-nil}
use Rattle.std.proofs.lemmas.List.Elements.{All-nil, All-cons, All-head, All-tail}
use Rattle.std.proofs.lemmas.List.Sums.{fold-append}
use Rattle.grid_demand.specs.Tables.{CapacityView}
use Rattle.book_state.proofs.LegalHistories.{each-push}
use Rattle.book_state.specs.Books.{IsRight, IsLegal}
use Rattle.book_state.specs.Cuts.{Cut, uncut, ends_segment, cut_after, cut, AtMarks}
use Rattle.book_state.specs.Entries.{AtEach, is_mark, is_mark_call, is_given_kind, is_given_call, calls_of}
use Rattle.book_state.specs.declared.entry.Call.{Call}
use Rattle.book_state.specs.declared.entry.Call.TheVariants.{Claim as Claims, Release, Mark}
use Rattle.book_state.specs.declared.entry.Claim.{Claim}
use Rattle.book_state.specs.declared.entry.Entry.{Entry}
use Rattle.book_state.specs.Marks.{overflow_of}
use Rattle.run_histories.specs.Attempts.{Stage, Rests, Broken, kind_of, stage_after, stage_of}
use Rattle.run_histories.proofs.CutSteps.{with_segment, grown, after-other, each-next}
use Rattle.run_histories.proofs.StandLemmas.{marked-mark, reply-marked}
use Rattle.run_histories.specs.RunHistories.{IsNumbered, overflows_after, overflows_of}
use Rattle.run_histories.proofs.StageSteps.{broken-stays, rests-broken, first-shape, later-shape}
use Rattle.ripup_workers.proofs.JoiningLists.{calls-first, calls-after}
use Rattle.run_histories.proofs.KeptRules.{overflows-push}

-- part of an attempt is neither a mark nor a claim of a given tree
claim-free : (e : Entry) (claim : Claim) → e.call ≡ Claims claim → is_given_kind claim.kind ≡ false → ends_segment e ≡ false
claim-free e claim call plain = ap (λ (k : Call). is_mark_call k || is_given_call k) call ∙ plain

unbroken-free : (round : ℕ) (stage : Stage) (e : Entry) → (stage_after round stage e ≡ Broken → ⊥) → ends_segment e ≡ false
unbroken-free zero stage e fine =
    let shape = first-shape stage e.call fine in
    claim-free e shape.claim shape.call_is (ap is_given_kind (sym shape.fits.kind_is))
unbroken-free (suc r) stage e fine = elim (later-shape (kind_of (suc r)) stage e.call e.reply fine) [
  | inl shape ↦ ap (λ (k : Call). is_mark_call k || is_given_call k) shape.call_is
  | inr shape ↦ claim-free e shape.claim shape.call_is (ap is_given_kind (sym shape.fits.kind_is))
]

-- whole attempts hold none of these
all-free : (round : ℕ) (stage : Stage) (es : List Entry) → fold (stage_after round) stage es ≡ Rests → All (λ (e : Entry). ends_segment e ≡ false) es
all-free round stage [] whole = All-nil (λ (e : Entry). ends_segment e ≡ false)
all-free round stage (e ∷ es) whole =
    All-cons (λ (e : Entry). ends_segment e ≡ false) e es
    (unbroken-free round stage e (λ broken.
    rests-broken (sym whole ∙ ap (λ (s : Stage). fold (stage_after round) s es) broken ∙ broken-stays round es)))
    (all-free round (stage_after round stage e) es whole)

pub whole-free : (round : ℕ) (es : List Entry) → stage_of round es ≡ Rests → All (λ (e : Entry). ends_segment e ≡ false) es
whole-free round es whole = all-free round Rests es whole

-- what holds of each number's entries holds of all
pub calls-all : (P : Entry → Type 0) (most : ℕ) (es : List Entry) → All (λ (e : Entry). e.number ≤ most) es → ((number : ℕ) → number ≤ most → All P (calls_of number es)) → All P es
calls-all P most [] numbers each = All-nil P
calls-all P most (e ∷ es) numbers each =
    let few = All-head (λ (x : Entry). x.number ≤ most) e es numbers in
    All-cons P e es (All-head P e (calls_of e.number es) (subst (All P) (calls-first e.number e es refl) (each e.number few)))
    (calls-all P most es (All-tail (λ (x : Entry). x.number ≤ most) e es numbers) (λ number less. elim (cases_eq e.number number) [
      | inl same ↦ All-tail P e (calls_of number es) (subst (All P) (calls-first number e es same) (each number less))
      | inr apart ↦ subst (All P) (calls-after number e es apart) (each number less)
    ]))

-- a number with entries among these is one of them
pub calls-none : (most number : ℕ) (es : List Entry) → All (λ (e : Entry). e.number ≤ most) es → most < number → calls_of number es ≡ []
calls-none most number [] numbers past = refl
calls-none most number (e ∷ es) numbers past =
    let few = All-head (λ (x : Entry). x.number ≤ most) e es numbers in
    calls-after number e es (λ is. absurd (omega (arith, few, past, is)))
    ∙ calls-none most number es (All-tail (λ (x : Entry). x.number ≤ most) e es numbers) past

-- what holds of each entry of a history and of any entry of a kind holds after more of this kind
pub each-more : (P : List Entry → Entry → Type 0) (Q : Entry → Type 0) (h es : List Entry) → AtEach P h → ((before : List Entry) (e : Entry) → Q e → P before e) → All Q es → AtEach P (h ++ es)
each-more P Q h [] each of all = subst (AtEach P) (sym (append-nil h)) each
each-more P Q h (e ∷ es) each of all =
    subst (AtEach P) (append_assoc h (e ∷ []) es)
    (each-more P Q (h ++ e ∷ []) es (each-push P h e each (of h e (All-head Q e es all))) of (All-tail Q e es all))

pub marks-more : (P : Cut → Type 0) (h es : List Entry) → AtMarks P h → All (λ (e : Entry). is_mark e ≡ false) es → AtMarks P (h ++ es)
marks-more P h es each all =
    each-more (λ before e. IsTrue (is_mark e) → P (cut before)) (λ (e : Entry). is_mark e ≡ false) h es each
    (λ before e other mark. absurd (both_ways (is_mark e) other mark)) all

-- entries that end no segment stand in the last one
grown-fold : (s : Cut) (es : List Entry) → All (λ (e : Entry). ends_segment e ≡ false) es → fold cut_after s es ≡ grown s es
grown-fold s [] all = ap (λ (segment : List Entry). with_segment s segment) (sym (append-nil s.segment))
grown-fold s (e ∷ es) all =
    let other = All-head (λ (e : Entry). ends_segment e ≡ false) e es all in
    ap (λ (k : Cut). fold cut_after k es) (after-other s e other)
    ∙ grown-fold (grown s (e ∷ [])) es (All-tail (λ (e : Entry). ends_segment e ≡ false) e es all)
    ∙ ap (λ (segment : List Entry). with_segment s segment) (append_assoc s.segment (e ∷ []) es)

pub cut-more : (h es : List Entry) → All (λ (e : Entry). ends_segment e ≡ false) es → cut (h ++ es) ≡ grown (cut h) es
unfolding cut
cut-more h es all = fold-append cut_after uncut h es ∙ grown-fold (cut h) es all

pub mark-call : (call : Call) → is_mark_call call ≡ true → call ≡ Mark
mark-call (Claims claim) is = absurd (both_ways false refl is)
mark-call (Release net) is = absurd (both_ways false refl is)
mark-call Mark is = refl

-- a call that is no mark is a worker's
pub numbered : (workers : ℕ) (call : Call) (number : ℕ) → is_mark_call call ≡ false → 0 < number → number ≤ workers → IsNumbered workers call number
numbered workers (Claims claim) number other some few = (some, few)
numbered workers (Release net) number other some few = (some, few)
numbered workers Mark number other some few = absurd (both_ways true other refl)

-- only marks tell an overflow
no-overflow : (c : CapacityView) (before : List Entry) (e : Entry) → IsRight c before e → is_mark e ≡ false → overflow_of e ≡ None
no-overflow c before e right other = by (overflow_of e) refl
  where
    by : (o : Option ℕ) → overflow_of e ≡ o → o ≡ None
    by None is = refl
    by (Some n) is =
        let call : e.call ≡ Mark = marked-mark c before e.call n (sym right.reply ∙ reply-marked e.reply n is) in
        absurd (both_ways (is_mark e) other (ap is_mark_call call))

pub overflows-more : (c : CapacityView) (h es more : List Entry) → IsLegal c (h ++ (es ++ more)) → All (λ (e : Entry). is_mark e ≡ false) es → overflows_of (h ++ es) ≡ overflows_of h
overflows-more c h [] more legal all = ap overflows_of (append-nil h)
overflows-more c h (e ∷ es) more legal all =
    let right = each-next (IsRight c) h (es ++ more) e legal.right in
    let other = All-head (λ (x : Entry). is_mark x ≡ false) e es all in
    let rest = overflows-more c (h ++ e ∷ []) es more (subst (IsLegal c) (sym (append_assoc h (e ∷ []) (es ++ more))) legal)
    (All-tail (λ (x : Entry). is_mark x ≡ false) e es all) in
    ap overflows_of (sym (append_assoc h (e ∷ []) es)) ∙ rest ∙ overflows-push h e
    ∙ ap (λ (o : Option ℕ). overflows_after (overflows_of h) o) (no-overflow c h e right other)
