-- A run history begins with the claims of the given trees, then with claims of open nets up to its first mark.
use Rattle.std.proofs.Common.{◌≡◌, ℕ, ◌+◌, ◌<◌, ◌≤◌, inl, inr, Bool, true, false, cond, ◌==◌, List, [], ◌∷◌, ◌++◌, length, get_or, All, Some, slice_get, if◌then◌else◌, refl, sym, ap, subst, ◌∙◌, arith, append_assoc, length-append}
use Rattle.std.specs.List.{fold}
use Rattle.std.proofs.lemmas.Bool.{cases_Bool, false≢true}
use Rattle.std.proofs.lemmas.Bool.Decides.{nat_tests}
use Rattle.std.proofs.lemmas.List.{append-nil, get_or_append_left}
use Rattle.std.proofs.lemmas.List.Elements.{All-nil, All-cons, All-head, All-tail}
use Rattle.std.proofs.lemmas.List.Sums.{fold-append, get_or-le-sum_by}
use Rattle.std.proofs.lemmas.Option.{slice_get-get_or}
use Rattle.gr_base.proofs.General.{filter-yes, filter-no}
use Rattle.gr_base.specs.Designs.{DesignView}
use Rattle.gr_base.specs.Trees.{TreeView}
use Rattle.book_state.proofs.BookingLaws.{cut-push}
use Rattle.book_state.proofs.HistoryLists.{slice_get-left, slice_get-right}
use Rattle.book_state.specs.Cuts.{Cut, ends_segment, cut_after, cut, AtMarks}
use Rattle.book_state.specs.Entries.{is_mark, is_given, calls_of}
use Rattle.book_state.specs.declared.entry.Call.TheVariants.{Claim as Claims}
use Rattle.book_state.specs.declared.entry.Claim.{Claim}
use Rattle.book_state.specs.declared.entry.Entry.{Entry}
use Rattle.book_state.specs.declared.entry.PlanKind.{PlanKind}
use Rattle.book_state.specs.declared.entry.PlanKind.TheVariants.{Pattern}
use Rattle.run_histories.proofs.CutSteps.{with_segment, grown, cut-other, cut-mark, unended, marked_last, each-next}
use Rattle.run_histories.proofs.GivenLemmas.{among-cut, among-unended, open-due}
use Rattle.run_histories.proofs.StageSteps.{broken-stays, rests-broken, first-shape}
use Rattle.run_histories.specs.Attempts.{Stage, Rests, stage_after, begins, is_claim_of, attempts_at}
use Rattle.run_histories.specs.Rounds.{IsPlanFor}
use Rattle.run_histories.specs.RunHistories.{Setting, claims_given, is_due, ends_with_mark, AreWhole, AreOfDue, BeginsGiven, IsAsked, IsRunHistory}
use Rattle.given_laws.proofs.OpenClaims.{BeginsOpen, IsGridTree, IsOpenClaim}

-- a list up to its first mark
record SplitsAtMark (rest : List Entry) : Type 0 where
  firsts : List Entry
  mark : Entry
  after : List Entry
  rest_is : rest ≡ firsts ++ mark ∷ after
  marked : is_mark mark ≡ true
  unmarked : All (λ (e : Entry). is_mark e ≡ false) firsts

split-at : (rest : List Entry) → marked_last false rest ≡ true → SplitsAtMark rest
split-at [] ends = absurd (false≢true ends)
split-at (e ∷ es) ends = elim (cases_Bool (is_mark e)) [
  | inl mark ↦ record {
    firsts = [];
    mark = e;
    after = es;
    rest_is = refl;
    marked = mark;
    unmarked = All-nil (λ (x : Entry). is_mark x ≡ false);
  }
  | inr other ↦
      let later = split-at es (ap (λ (b : Bool). marked_last b es) (sym other) ∙ ends) in
      record {
        firsts = e ∷ later.firsts;
        mark = later.mark;
        after = later.after;
        rest_is = ap (λ (xs : List Entry). e ∷ xs) later.rest_is;
        marked = later.marked;
        unmarked = All-cons (λ (x : Entry). is_mark x ≡ false) e later.firsts other later.unmarked;
      }
]

-- entries that begin no segment lengthen the last one
cut-more : (h es : List Entry) → All (λ (e : Entry). is_mark e ≡ false) es → All (λ (e : Entry). is_given e ≡ false) es → cut (h ++ es) ≡ grown (cut h) es
cut-more h [] unmarked ungiven =
    ap cut (append-nil h) ∙ ap (λ (segment : List Entry). with_segment (cut h) segment) (sym (append-nil (cut h).segment))
cut-more h (e ∷ es) unmarked ungiven =
    ap cut (sym (append_assoc h (e ∷ []) es))
    ∙ cut-more (h ++ e ∷ []) es (All-tail (λ (x : Entry). is_mark x ≡ false) e es unmarked) (All-tail (λ (x : Entry). is_given x ≡ false) e es ungiven)
    ∙ ap (λ (s : Cut). grown s es)
    (cut-other h e (unended e (All-head (λ (x : Entry). is_mark x ≡ false) e es unmarked) (All-head (λ (x : Entry). is_given x ≡ false) e es ungiven)))
    ∙ ap (λ (segment : List Entry). with_segment (cut h) segment) (append_assoc (cut h).segment (e ∷ []) es)

-- a claim for a pattern plan
record IsPatternClaim (e : Entry) : Type 0 where
  claim : Claim
  call_is : e.call ≡ Claims claim
  kind_is : claim.kind ≡ Pattern

-- whole attempts of round 0 are such claims
patterns-from : (stage : Stage) (es : List Entry) → fold (stage_after 0) stage es ≡ Rests → All IsPatternClaim es
patterns-from stage [] is = All-nil IsPatternClaim
patterns-from stage (e ∷ es) is =
    let first = first-shape stage e.call (λ broken. rests-broken (sym is ∙ ap (λ (s : Stage). fold (stage_after 0) s es) broken ∙ broken-stays 0 es)) in
    All-cons IsPatternClaim e es
    (record { claim = first.claim; call_is = first.call_is; kind_is = sym first.fits.kind_is })
    (patterns-from (stage_after 0 stage e) es is)

-- what holds of each number's entries holds of all
all-numbers : (P : Entry → Type 0) (es : List Entry) → ((number : ℕ) → All P (calls_of number es)) → All P es
all-numbers P [] each = All-nil P
all-numbers P (e ∷ es) each = All-cons P e es (All-head P e (calls_of e.number es) own) (all-numbers P es others)
  where
    is_of : ℕ → Entry → Bool
    is_of number x = x.number == number

    own : All P (e ∷ calls_of e.number es)
    own =
        let same : is_of e.number e ≡ true = grind (arith, nat_tests) in
        subst (λ (xs : List Entry). All P xs) (filter-yes (is_of e.number) e es same) (each e.number)

    others : (number : ℕ) → All P (calls_of number es)
    others number = elim (cases_Bool (is_of number e)) [
      | inl on ↦ All-tail P e (calls_of number es) (subst (λ (xs : List Entry). All P xs) (filter-yes (is_of number) e es on) (each number))
      | inr off ↦ subst (λ (xs : List Entry). All P xs) (filter-no (is_of number) e es off) (each number)
    ]

-- an attempt that begins among entries is counted
claim-counted : (es : List Entry) (k : ℕ) (e : Entry) (claim : Claim) → k < length es → (get_or es k e).call ≡ Claims claim → 1 ≤ attempts_at 0 claim.net es
claim-counted es k e claim within call =
    let own : (claim.net == claim.net) ≡ true = grind (arith, nat_tests) in
    let begun : begins 0 claim.net (get_or es k e) ≡ true = ap (is_claim_of claim.net) call ∙ own in
    let one : cond {A = ℕ} (begins 0 claim.net (get_or es k e)) 1 0 ≡ 1 = ap (λ (b : Bool). cond {A = ℕ} b 1 0) begun in
    let part = get_or-le-sum_by (λ (x : Entry). cond {A = ℕ} (begins 0 claim.net x) 1 0) es k e within in
    omega (arith, one, part)

-- what is claimed in round 0 is due then
due-if : (due : Bool) (n : ℕ) → n ≡ (if due then 1 else 0) → 1 ≤ n → due ≡ true
due-if true n is some = refl
due-if false n is some = absurd (omega (arith, is, some))

-- the round of a cut never falls
round-after : (s : Cut) (e : Entry) → s.round ≤ (cut_after s e).round
round-after s e = by (ends_segment e)
  where
    next : Bool → Cut
    next b =
        if b
        then record { round = s.round + (if is_mark e then 1 else 0); before = s.before ++ s.segment ++ e ∷ []; segment = [] }
        else record { round = s.round; before = s.before; segment = s.segment ++ e ∷ [] }

    by : (b : Bool) → s.round ≤ (next b).round
    by true = omega arith
    by false = omega arith

-- where no rounds are asked for, no mark comes behind another
none-after : (t : Setting) (h es : List Entry) → t.rounds ≡ 0 → 1 ≤ (cut h).round → AtMarks (λ s. 0 < s.round → IsAsked t s) (h ++ es) →
    All (λ (e : Entry). is_mark e ≡ false) es
none-after t h [] none past asked = All-nil (λ (e : Entry). is_mark e ≡ false)
none-after t h (e ∷ es) none past asked =
    All-cons (λ (x : Entry). is_mark x ≡ false) e es here
    (none-after t (h ++ e ∷ []) es none more (subst (AtMarks (λ s. 0 < s.round → IsAsked t s)) (sym (append_assoc h (e ∷ []) es)) asked))
  where
    more : 1 ≤ (cut (h ++ e ∷ [])).round
    more =
        let grows = round-after (cut h) e in
        let same : (cut (h ++ e ∷ [])).round ≡ (cut_after (cut h) e).round = ap (λ (s : Cut). s.round) (cut-push h e) in
        omega (arith, past, grows, same)

    here : is_mark e ≡ false
    here = elim (cases_Bool (is_mark e)) [
      | inl mark ↦
          let most = (each-next (λ before x. is_mark x ≡ true → 0 < (cut before).round → IsAsked t (cut before)) h es e asked mark past).most in
          absurd (omega (arith, most, past, none))
      | inr other ↦ other
    ]

module _ (t : Setting) (h : List Entry) (run : IsRunHistory t h) where
  abbrev d : DesignView
  d = t.design

  abbrev begun : List Entry
  begun = claims_given t

  begins_so : BeginsGiven t h
  begins_so = run.attempts.given

  ends : marked_last false begins_so.rest ≡ true
  ends =
      ap (λ (b : Bool). marked_last b begins_so.rest) (sym (among-unended d t.given (length d.nets)))
      ∙ sym (fold-append (λ (last : Bool) (e : Entry). is_mark e) false begun begins_so.rest)
      ∙ ap ends_with_mark (sym begins_so.history_is) ∙ run.attempts.last

  split : SplitsAtMark begins_so.rest
  split = split-at begins_so.rest ends

  whole_is : h ≡ begun ++ split.firsts ++ split.mark ∷ split.after
  whole_is = begins_so.history_is ∙ ap (λ (xs : List Entry). begun ++ xs) split.rest_is ∙ sym (append_assoc begun split.firsts (split.mark ∷ split.after))

  ungiven : All (λ (e : Entry). is_given e ≡ false) split.firsts
  ungiven = λ k e within.
      let long = ap (λ (xs : List Entry). length xs) split.rest_is ∙ length-append split.firsts (split.mark ∷ split.after) in
      let there : get_or begins_so.rest k e ≡ get_or split.firsts k e = ap (λ (xs : List Entry). get_or xs k e) split.rest_is ∙ get_or_append_left split.firsts (split.mark ∷ split.after) e k within in
      subst (λ (x : Entry). is_given x ≡ false) there (begins_so.others k e (omega (arith, long, within)))

  cut_is : cut (begun ++ split.firsts) ≡ record { round = 0; before = begun; segment = split.firsts }
  cut_is =
      cut-more begun split.firsts split.unmarked ungiven
      ∙ ap (λ (s : Cut). grown s split.firsts) (among-cut d t.given (length d.nets))

  at_mark : (P : Cut → Type 0) → AtMarks P h → P (record { round = 0; before = begun; segment = split.firsts })
  at_mark P each =
      subst P cut_is
      (each-next (λ before e. is_mark e ≡ true → P (cut before)) (begun ++ split.firsts) split.after split.mark
      (subst (AtMarks P) whole_is each) split.marked)

  patterns : All IsPatternClaim split.firsts
  patterns = all-numbers IsPatternClaim split.firsts (λ number. patterns-from Rests (calls_of number split.firsts) (at_mark AreWhole run.attempts.whole number))

  -- the plan of each claim of round 0 is a tree of the grid
  planned : (k : ℕ) (e : Entry) (claim : Claim) → k < length split.firsts → (get_or split.firsts k e).call ≡ Claims claim → claim.kind ≡ Pattern → IsGridTree d claim.tree
  planned k e claim within call kind =
      let n : ℕ = length begun + k in
      let long = length-append begun split.firsts in
      let there : slice_get h n ≡ Some (get_or split.firsts k e) =
      ap (λ (xs : List Entry). slice_get xs n) whole_is
      ∙ slice_get-left (begun ++ split.firsts) (split.mark ∷ split.after) n (omega (arith, long, within))
      ∙ slice_get-right begun split.firsts n k refl ∙ slice_get-get_or split.firsts k e within in
      let plan = (run.attempts.plans n (get_or split.firsts k e) there claim call).tree in
      of-pattern claim.kind kind _ claim.net claim.tree plan
    where
      of-pattern : (kind : PlanKind) → kind ≡ Pattern → (before : List Entry) (net : ℕ) (tree : TreeView) → IsPlanFor d t.formula before net kind tree → IsGridTree d tree
      of-pattern kind is before net tree plan =
          let pattern = (subst (λ (k : PlanKind). IsPlanFor d t.formula before net k tree) is plan).plan.plan in
          (pattern.tree, pattern.shape)

  open_claims : All (IsOpenClaim d t.given) split.firsts
  open_claims = λ k e within.
      let of = patterns k e within in
      let some = claim-counted split.firsts k e of.claim within of.call_is in
      let count = at_mark (AreOfDue d) run.attempts.due of.claim.net in
      record {
        claim = of.claim;
        call_is = of.call_is;
        is_of_open = sym (open-due d t.given of.claim.net) ∙ due-if (is_due d 0 begun of.claim.net) (attempts_at 0 of.claim.net split.firsts) count some;
        tree = planned k e of.claim within of.call_is of.kind_is;
      }

  alone : t.rounds ≡ 0 → All (λ (e : Entry). is_mark e ≡ false) split.after
  alone none =
      none-after t (begun ++ split.firsts ++ split.mark ∷ []) split.after none past
      (subst (AtMarks (λ s. 0 < s.round → IsAsked t s)) (whole_is ∙ sym (append_assoc (begun ++ split.firsts) (split.mark ∷ []) split.after)) run.asked)
    where
      past : 1 ≤ (cut (begun ++ split.firsts ++ split.mark ∷ [])).round
      past =
          let one : (cut (begun ++ split.firsts ++ split.mark ∷ [])).round ≡ (cut (begun ++ split.firsts)).round + 1 =
          ap (λ (s : Cut). s.round) (cut-mark (begun ++ split.firsts) split.mark split.marked) in
          omega (arith, one)

  pub run-begins : BeginsOpen t.design t.given t.rounds h
  run-begins = record {
    firsts = split.firsts;
    mark = split.mark;
    rest = split.after;
    history_is = whole_is;
    open_claims = open_claims;
    marked = split.marked;
    alone = alone;
  }
