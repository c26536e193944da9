-- The joining law: attempts at the nets that are due, each made once, are turns, however those of several workers
-- interleave.
use Rattle.std.proofs.Common.{◌≡◌, ℕ, suc, ◌+◌, inl, inr, ◌⊎◌, Bool, true, false, ◌&&◌, nat_lt, List, [], ◌∷◌, ◌++◌, length, All, Option, Some, None, is_some, is_none, if◌then◌else◌, IsTrue, refl, sym, ap, subst, ◌∙◌, arith, append_assoc}
use Rattle.std.proofs.lemmas.Bool.{cases_Bool, both_ways, and_parts}
use Rattle.std.proofs.lemmas.List.{append-nil}
use Rattle.std.proofs.lemmas.List.Elements.{All-head, All-tail}
use Rattle.std.proofs.lemmas.List.Sums.{fold-append}
use Rattle.gr_base.specs.Designs.{DesignView, is_routed}
use Rattle.gr_base.specs.Trees.{TreeView}
use Rattle.grid_demand.specs.Tables.{capacity_of}
use Rattle.book_state.proofs.BookingLaws.{victim-booked}
use Rattle.book_state.proofs.LegalHistories.{each-push}
use Rattle.book_state.proofs.ReplicaSteps.{booked-mark}
use Rattle.book_state.specs.Books.{booked, IsRight}
use Rattle.book_state.specs.Cuts.{Cut, cut, AtMarks}
use Rattle.book_state.specs.Entries.{AtEach, is_mark, is_mark_call, is_given, calls_of}
use Rattle.book_state.specs.declared.entry.Call.{Call}
use Rattle.book_state.specs.declared.entry.Call.TheVariants.{Claim as Claims, Release, Mark}
use Rattle.book_state.specs.declared.entry.Claim.{Claim}
use Rattle.book_state.specs.declared.entry.Entry.{Entry}
use Rattle.book_state.specs.declared.entry.Reply.{Reply}
use Rattle.book_state.specs.declared.entry.Reply.TheVariants.{Claimed}
use Rattle.run_histories.specs.Apart.{HasClaimant, AreApart, AreApartIn}
use Rattle.run_histories.specs.Attempts.{Rests, stage_of, attempts_at, IsGranted}
use Rattle.run_histories.specs.GivenRoutes.{given_claims}
use Rattle.run_histories.specs.RunHistories.{Setting, claims_given, is_due, ends_with_mark, AreWhole, AreOfDue, AreAttempts, AreGranted}
use Rattle.run_histories.proofs.Answered.{IsPart, is-later, answered}
use Rattle.run_histories.proofs.CutSteps.{grown, closed, cut-other, cut-mark, closed-before, marked_last, unended, each-next, ahead}
use Rattle.run_histories.proofs.GivenLemmas.{IsOfGiven, given-no_mark, each-all, among-all, among-cut, among-unended, given-free}
use Rattle.run_histories.proofs.ApartSteps.{never-rests}
use Rattle.run_histories.proofs.StageSteps.{whole-unbroken, first-begun}

-- where the turns of a segment are whole and at the nets that are due, exactly the routed nets are booked
pub record AreHeld (d : DesignView) (h : List Entry) : Type 0 where
  pub held : (net : ℕ) → is_routed d net ≡ true → is_some (booked h net) ≡ true
  pub off : (net : ℕ) → is_routed d net ≡ false → booked h net ≡ None

due-begun : (d : DesignView) (r : ℕ) (before segment : List Entry) (net : ℕ) → attempts_at r net segment ≡ (if is_due d r before net then 1 else 0) →
    is_due d r before net ≡ true → attempts_at r net segment ≡ 0 → ⊥
due-begun d r before segment net count due none =
    let one : attempts_at r net segment ≡ 1 = count ∙ ap (λ (b : Bool). if b then 1 else 0) due in
    absurd (omega (arith, one, none))

pub all-held : (d : DesignView) (h : List Entry) (s : Cut) → AreApartIn d h s → AreWhole s → AreOfDue d s → AreHeld d h
all-held d h s turns whole due = record { held = λ net routed. by net routed (booked h net) refl; off = turns.off }
  where
    lacking : (net : ℕ) → ((is_due d s.round s.before net ≡ true) × (attempts_at s.round net s.segment ≡ 0)) ⊎
        HasClaimant (λ worker. stage_of s.round (calls_of worker s.segment)) net → ⊥
    lacking net (inl waits) = due-begun d s.round s.before s.segment net (due net) waits.0 waits.1
    lacking net (inr claimant) =
        never-rests (stage_of s.round (calls_of claimant.worker s.segment)) net claimant.slacks (whole claimant.worker) claimant.claims

    by : (net : ℕ) → is_routed d net ≡ true → (o : Option TreeView) → booked h net ≡ o → is_some o ≡ true
    by net routed None is = absurd (lacking net (turns.missing net routed is))
    by net routed (Some t) is = refl

-- as a segment begins
fresh-apart : (d : DesignView) (r : ℕ) (before h : List Entry) → ((net : ℕ) → is_due d r before net ≡ true → is_some (booked h net) ≡ nat_lt 0 r) →
    ((net : ℕ) → is_routed d net ≡ false → booked h net ≡ None) → ((net : ℕ) → is_routed d net ≡ true → booked h net ≡ None → is_due d r before net ≡ true) → AreApart d r before h []
fresh-apart d r before h waiting off missing = record {
  free = λ worker net slacks is. absurd (never-rests Rests net slacks refl is);
  fit = λ worker net slacks is. absurd (never-rests Rests net slacks refl is);
  alone = λ worker other net slacks again is too. absurd (never-rests Rests net slacks refl is);
  started = λ worker net slacks is. absurd (never-rests Rests net slacks refl is);
  waiting = λ net due none. waiting net due;
  off = off;
  missing = λ net routed none. inl (missing net routed none, refl);
}

-- behind the claims of given trees the routed nets that aren't booked are due
unbooked : (o : Option TreeView) → is_none o ≡ true → is_some o ≡ false
unbooked None is = refl
unbooked (Some tree) is = absurd (both_ways false refl is)

pub given-apart : (d : DesignView) (given : List (Option TreeView)) → AreApartIn d (given_claims d given) (cut (given_claims d given))
given-apart d given =
    let g = given_claims d given in
    subst (λ (s : Cut). AreApartIn d g s) (sym (among-cut d given (length d.nets)))
    (fresh-apart d 0 g g (λ net due. unbooked (booked g net) (and_parts (is_routed d net) (is_none (booked g net)) due).1) (given-free d given)
    (λ net routed none. ap (λ (b : Bool). b && is_none (booked g net)) routed ∙ ap (λ (o : Option TreeView). is_none o) none))

mark-call : (call : Call) → is_mark_call call ≡ true → call ≡ Mark
mark-call (Claims claim) is = absurd (both_ways false refl is)
mark-call (Release net) is = absurd (both_ways false refl is)
mark-call Mark is = refl

-- a mark changes no booking
mark-held : (d : DesignView) (h : List Entry) (e : Entry) → is_mark e ≡ true → AreHeld d h → AreHeld d (h ++ e ∷ [])
mark-held d h e mark all = record {
  held = λ net routed. ap (λ (o : Option TreeView). is_some o) (booked-mark h e net (mark-call e.call mark)) ∙ all.held net routed;
  off = λ net out. booked-mark h e net (mark-call e.call mark) ∙ all.off net out;
}

-- the victims at a mark are booked
pub mark-apart : (d : DesignView) (h : List Entry) (e : Entry) → is_mark e ≡ true → AreHeld d h → AreApartIn d (h ++ e ∷ []) (cut (h ++ e ∷ []))
mark-apart d h e mark all =
    let now : List Entry = h ++ e ∷ [] in
    let r : ℕ = suc (cut h).round in
    let next : (cut h).round + 1 ≡ suc (cut h).round = omega arith in
    let still = mark-held d h e mark all in
    let fresh : AreApart d r now now [] =
    fresh-apart d r now now (λ net due. victim-booked (capacity_of d) now net due ∙ sym (is-later (cut h).round)) still.off
    (λ net routed none. absurd (both_ways (is_some (booked now net)) (ap (λ (o : Option TreeView). is_some o) none) (still.held net routed))) in
    subst (λ (s : Cut). AreApartIn d now s) (sym (cut-mark h e mark))
    (subst (λ (k : ℕ). AreApart d k (closed (cut h) e).before now []) (sym next)
    (subst (λ (k : List Entry). AreApart d r k now []) (sym (closed-before h e)) fresh))

-- a mark is granted whatever it is answered
mark-granted : (e : Entry) → is_mark e ≡ true → IsGranted e.call e.reply
mark-granted e mark = subst (λ (k : Call). IsGranted k e.reply) (sym (mark-call e.call mark)) tt

-- an entry that isn't a mark is part of an attempt
next-part : (t : Setting) (h rest : List Entry) (e : Entry) → AreAttempts t (h ++ e ∷ rest) → All (λ (x : Entry). is_given x ≡ false) (e ∷ rest) → is_mark e ≡ false →
    marked_last (is_mark e) rest ≡ true → IsPart (capacity_of t.design) t.design (cut h).round (cut h).before h (cut h).segment e
next-part t h rest e attempts plain other ends =
    let d : DesignView = t.design in
    let s : Cut = cut h in
    let split = append_assoc h (e ∷ []) rest in
    let later = All-tail (λ (x : Entry). is_given x ≡ false) e rest plain in
    let same = cut-other h e (unended e other (All-head (λ (x : Entry). is_given x ≡ false) e rest plain)) in
    let whole = ahead AreWhole (h ++ e ∷ []) rest (is_mark e) (subst (AtMarks AreWhole) (sym split) attempts.whole) later other ends in
    let wholly : AreWhole (grown (grown s (e ∷ [])) whole.0) = subst (λ (k : Cut). AreWhole (grown k whole.0)) same whole.1 in
    let due = ahead (AreOfDue d) (h ++ e ∷ []) rest (is_mark e) (subst (AtMarks (AreOfDue d)) (sym split) attempts.due) later other ends in
    let duly : AreOfDue d (grown (grown s (e ∷ [])) due.0) = subst (λ (k : Cut). AreOfDue d (grown k due.0)) same due.1 in
    record {
      right = each-next (IsRight (capacity_of d)) h rest e attempts.legal.right;
      unbroken = whole-unbroken s.round e.number (s.segment ++ e ∷ []) whole.0 (wholly e.number);
      first = λ net begun. first-begun s.round net s.segment due.0 e (is_due d s.round s.before net) (duly net) begun;
    }

-- an entry gets what a turn is to get, and exactly the routed nets are booked at a mark
pub record IsInOrder (d : DesignView) (before : List Entry) (e : Entry) : Type 0 where
  pub granted : IsGranted e.call e.reply
  pub held : is_mark e ≡ true → AreHeld d before

-- entry by entry, behind the claims of given trees
in-order : (t : Setting) (h rest : List Entry) (last : Bool) → AreAttempts t (h ++ rest) → All (λ (e : Entry). is_given e ≡ false) rest → marked_last last rest ≡ true →
    AreApartIn t.design h (cut h) → AtEach (IsInOrder t.design) h → AtEach (IsInOrder t.design) (h ++ rest)
in-order t h [] last attempts plain ends apart each = subst (AtEach (IsInOrder t.design)) (sym (append-nil h)) each
in-order t h (e ∷ rest) last attempts plain ends apart each =
    let d : DesignView = t.design in
    let split = append_assoc h (e ∷ []) rest in
    let go = in-order t (h ++ e ∷ []) rest (is_mark e) (subst (AreAttempts t) (sym split) attempts)
    (All-tail (λ (x : Entry). is_given x ≡ false) e rest plain) ends in
    let now : AtEach (IsInOrder d) (h ++ e ∷ [] ++ rest) = elim (cases_Bool (is_mark e)) [
      | inl mark ↦
          let all = all-held d h (cut h) apart (each-next (λ before x. IsTrue (is_mark x) → AreWhole (cut before)) h rest e attempts.whole mark)
          (each-next (λ before x. IsTrue (is_mark x) → AreOfDue d (cut before)) h rest e attempts.due mark) in
          go (mark-apart d h e mark all) (each-push (IsInOrder d) h e each (record { granted = mark-granted e mark; held = λ is. all }))
      | inr other ↦
          let well = answered (capacity_of d) d (cut h).before h (cut h).segment e (cut h).round (next-part t h rest e attempts plain other ends) apart in
          let same = cut-other h e (unended e other (All-head (λ (x : Entry). is_given x ≡ false) e rest plain)) in
          go (subst (λ (s : Cut). AreApartIn d (h ++ e ∷ []) s) (sym same) well.apart)
          (each-push (IsInOrder d) h e each (record { granted = well.granted; held = λ is. absurd (both_ways (is_mark e) other is) }))
    ] in
    subst (AtEach (IsInOrder d)) split now

pub given-granted : (call : Call) (claim : Claim) (reply : Reply) → call ≡ Claims claim → reply ≡ Claimed → IsGranted call reply
given-granted call claim reply is claimed = subst (λ (k : Call). IsGranted k reply) (sym is) (inl claimed)

given-in_order : (t : Setting) → AtEach (IsInOrder t.design) (claims_given t)
given-in_order t p e there =
    let of = each-all IsOfGiven (claims_given t) (among-all t.design t.given (length t.design.nets)) p e there in
    record {
      granted = given-granted e.call of.claim e.reply of.call_is of.reply_is;
      held = λ mark. absurd (both_ways (is_mark e) (given-no_mark e of) mark);
    }

-- a history that ends with a mark does so behind the claims of given trees
ends-behind : (t : Setting) (rest : List Entry) → ends_with_mark (claims_given t ++ rest) ≡ true → marked_last false rest ≡ true
ends-behind t rest ends =
    ap (λ (last : Bool). marked_last last rest) (sym (among-unended t.design t.given (length t.design.nets)))
    ∙ sym (fold-append (λ (last : Bool) (e : Entry). is_mark e) false (claims_given t) rest) ∙ ends

pub attempts-in_order : (t : Setting) (h : List Entry) → AreAttempts t h → AtEach (IsInOrder t.design) h
attempts-in_order t h attempts =
    let rest = attempts.given.rest in
    let is = attempts.given.history_is in
    subst (AtEach (IsInOrder t.design)) (sym is)
    (in-order t (claims_given t) rest false (subst (AreAttempts t) is attempts) attempts.given.others
    (ends-behind t rest (ap ends_with_mark (sym is) ∙ attempts.last)) (given-apart t.design t.given) (given-in_order t))

pub attempts-granted : (t : Setting) (h : List Entry) → AreAttempts t h → AreGranted h
attempts-granted t h attempts = λ p e there. (attempts-in_order t h attempts p e there).granted
