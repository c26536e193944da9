-- A round of several workers, from the mark before it to its own.
use Rattle.std.proofs.Common.{◌≡◌, ℕ, suc, zero, ◌+◌, ◌<◌, ◌≤◌, inl, inr, Bool, false, ◌==◌, List, [], ◌∷◌, ◌++◌, length, take, get_or, All, Option, Some, slice_get, sum_by, IsTrue, refl, sym, ap, subst, ◌∙◌, arith, append_assoc, length-append}
use Rattle.std.specs.List.{count_by, range_with_len}
use Rattle.std.proofs.lemmas.Bool.{cases_lt}
use Rattle.std.proofs.lemmas.Bool.Decides.{nat_tests}
use Rattle.std.proofs.lemmas.List.{append-nil, append_cancel_left, append_cancel_right, take-append-le}
use Rattle.std.proofs.lemmas.List.Elements.{All-nil, filter_passes}
use Rattle.std.proofs.lemmas.List.Sums.{fold_push, sum_by-cons}
use Rattle.std.proofs.lemmas.Option.{same_Some, slice_get_within}
use mathlib.Core.List.{IsPrefix}
use Rattle.grid_demand.specs.Tables.{CapacityView, capacity_of}
use Rattle.book_front.proofs.Prefixes.{prefix-then, prefix-more, prefix-length}
use Rattle.book_state.proofs.HistoryLists.{slice_get-left}
use Rattle.book_state.proofs.LegalHistories.{each-push}
use Rattle.book_state.specs.Books.{IsLegal, victims}
use Rattle.book_state.specs.Cuts.{Cut, ends_segment, cut, AtMarks}
use Rattle.book_state.specs.Entries.{AtEach, is_mark, calls_of}
use Rattle.book_state.specs.Views.{entry_of}
use Rattle.book_state.specs.declared.entry.Call.{Call}
use Rattle.book_state.specs.declared.entry.Call.TheVariants.{Claim as Claims, Mark}
use Rattle.book_state.specs.declared.entry.Claim.{Claim}
use Rattle.book_state.specs.declared.entry.Entry.{Entry}
use Rattle.book_state.specs.declared.entry.Reply.TheVariants.{Marked as Answer}
use Rattle.run_histories.specs.Attempts.{stage_of, begins, attempts_at}
use Rattle.run_histories.specs.RunHistories.{Setting, Overflows, IsNumbered, IsPlanned, IsAsked, BeginsGiven, AreWhole, AreOfDue, AreAttempts, ends_with_mark, overflows_of}
use Rattle.run_histories.specs.Standing.{Stands}
use Rattle.run_histories.proofs.CutSteps.{grown, closed, cut-mark, cut-whole, unmarked, ungiven, each-next}
use Rattle.run_histories.proofs.GivenLemmas.{begins-more, begins-push}
use Rattle.run_histories.proofs.JoiningLaw.{attempts-granted}
use Rattle.run_histories.proofs.RoutedTrees.{attempts-stand}
use Rattle.run_histories.proofs.StandLemmas.{mark-stands}
use Rattle.track_book.specs.Passes.{PassView, IsAnswered}
use Rattle.track_book.proofs.Dealing.{get-there}
use Rattle.ripup_workers.specs.Marking.{AreMarked}
use Rattle.ripup_workers.specs.Meetings.{HasMet}
use Rattle.ripup_workers.specs.Rounding.{AreOf, HasSeen, IsWorkerAt, AreAt, HaveAttempted, IsNext, HasEnded, AreBefore, AreBehind, overflows}
use Rattle.work_share.specs.Views.{times}
use Rattle.ripup_workers.specs.Working.{HasAttempted}
use Rattle.ripup_workers.specs.declared.team.Marked.{Marked}
use Rattle.ripup_workers.proofs.JoiningLists.{all-at, all-prefix, all-second, calls-append, prefix-calls, prefix-long, squeeze, same-history, calls-first, calls-after, count-parts, sum-places}
use Rattle.ripup_workers.proofs.JoiningPasses.{learns-own, nothing-more, planned-learns}
use Rattle.ripup_workers.proofs.JoiningSegments.{whole-free, calls-all, calls-none, each-more, marks-more, cut-more, numbered, overflows-more}
use Rattle.run_histories.proofs.KeptRules.{overflows-push}
use Rattle.run_histories.specs.RunHistories.{KeepsRules}

abbrev cut_of : ℕ → List Entry → List Entry → Cut
cut_of round before segment = record { round = round; before = before; segment = segment }

module _ (t : Setting) (round : ℕ) (nets : List ℕ) (h : List Entry) (coordinator new : PassView) (workers worked after : List PassView) (marked : Marked)
    (at : AreAt t h coordinator workers) (tried : HaveAttempted t round nets workers worked) (m : AreMarked (capacity_of t.design) coordinator new worked after marked) where
  abbrev c_here : CapacityView
  c_here = capacity_of t.design

  abbrev answered : IsAnswered c_here m.met m.mark.at_mark Mark (Answer marked.overflow)
  answered = m.mark.mark

  -- the history up to and with the mark, and before it
  abbrev pub marked_history : List Entry
  marked_history = m.mark.at_mark.seen

  abbrev pub unmarked_history : List Entry
  unmarked_history = answered.before

  abbrev pub mark_entry : Entry
  mark_entry = entry_of m.met.number Mark (Answer marked.overflow)

  pub met-number : m.met.number ≡ 0
  met-number = m.before.learns.learnt.number ∙ at.number

  before-here : IsPrefix unmarked_history marked_history
  before-here = subst (λ (l : List Entry). IsPrefix unmarked_history l) (sym answered.seen) (prefix-more unmarked_history (mark_entry ∷ []))

  met-here : IsPrefix m.met.seen marked_history
  met-here = prefix-then m.met.seen unmarked_history marked_history answered.begins before-here

  pub here-made : IsPrefix marked_history m.made.seen
  here-made = m.mark.learnt.begins

  pub made-new : IsPrefix m.made.seen new.seen
  made-new = m.behind.learns.learnt.begins

  pub here-new : IsPrefix marked_history new.seen
  here-new = prefix-then marked_history m.made.seen new.seen here-made made-new

  pub old-new : IsPrefix coordinator.seen new.seen
  old-new = prefix-then coordinator.seen m.met.seen new.seen m.before.learns.learnt.begins (prefix-then m.met.seen marked_history new.seen met-here here-new)

  pub old-before : IsPrefix h unmarked_history
  old-before = prefix-then h coordinator.seen unmarked_history at.seen.begins (prefix-then coordinator.seen m.met.seen unmarked_history m.before.learns.learnt.begins answered.begins)

  -- the coordinator's own entries
  made-number : m.made.number ≡ 0
  made-number = m.mark.learnt.number ∙ answered.number ∙ met-number

  own-met : calls_of 0 m.met.seen ≡ calls_of 0 h
  own-met =
      ap (λ (n : ℕ). calls_of n m.met.seen) (sym met-number) ∙ learns-own c_here coordinator m.met m.before.learns ∙ at.seen.own
      ∙ ap (λ (n : ℕ). calls_of n h) at.number

  own-made : calls_of 0 m.made.seen ≡ calls_of 0 h ++ mark_entry ∷ []
  own-made =
      ap (λ (n : ℕ). calls_of n m.made.seen) (sym made-number) ∙ sym m.behind.learns.knew.calls ∙ m.mark.learnt.mine ∙ answered.mine
      ∙ ap (λ (l : List Entry). l ++ mark_entry ∷ []) (m.before.learns.knows.calls ∙ ap (λ (n : ℕ). calls_of n m.met.seen) met-number ∙ own-met)

  pub calls-here : calls_of 0 marked_history ≡ calls_of 0 unmarked_history ++ mark_entry ∷ []
  calls-here =
      ap (λ (l : List Entry). calls_of 0 l) answered.seen ∙ calls-append 0 unmarked_history (mark_entry ∷ [])
      ∙ ap (λ (l : List Entry). calls_of 0 unmarked_history ++ l) (calls-first 0 mark_entry [] met-number)

  pub own-mark : calls_of 0 marked_history ≡ calls_of 0 m.made.seen
  own-mark =
      let low = prefix-length (calls_of 0 m.met.seen) (calls_of 0 unmarked_history) (prefix-calls 0 m.met.seen unmarked_history answered.begins) in
      let met = ap length own-met in
      let made = ap length own-made ∙ length-append (calls_of 0 h) (mark_entry ∷ []) in
      let here = ap length calls-here ∙ length-append (calls_of 0 unmarked_history) (mark_entry ∷ []) in
      prefix-long (calls_of 0 marked_history) (calls_of 0 m.made.seen) (prefix-calls 0 marked_history m.made.seen here-made) (omega (arith, low, met, made, here))

  pub own-zero : calls_of 0 marked_history ≡ calls_of 0 h ++ mark_entry ∷ []
  own-zero = own-mark ∙ own-made

  new-number : new.number ≡ 0
  new-number = m.behind.learns.learnt.number ∙ made-number

  coordinator-seen : HasSeen c_here marked_history new
  coordinator-seen = record {
    pass = m.behind.learns.knows;
    begins = here-new;
    own = learns-own c_here m.made new m.behind.learns ∙ ap (λ (n : ℕ). calls_of n m.made.seen) made-number ∙ sym own-mark
        ∙ ap (λ (n : ℕ). calls_of n marked_history) (sym new-number);
  }

  -- a worker in the round
  pub record InRound (place : ℕ) : Type 0 where
    pub first : PassView
    pub part : List ℕ
    pub tries : PassView
    pub meets : PassView
    pub last : PassView
    pub first_is : IsWorkerAt t h (place + 1) first
    pub attempted : HasAttempted t round part first tries
    pub before : HasMet c_here coordinator m.met tries meets
    pub behind : HasMet c_here m.made new meets last
    pub part_there : slice_get tried.parts place ≡ Some part
    pub last_there : slice_get after place ≡ Some last

  pub in-round : (place : ℕ) → place < t.workers → InRound place
  in-round place within =
      let few = at.count in
      let worked_few = tried.count in
      let parts_few = tried.parts_count in
      let between_few = m.before.count in
      let after_few = m.behind.count in
      let p = get-there workers place (omega (arith, within, few)) in
      let q = get-there worked place (omega (arith, within, few, worked_few)) in
      let part = get-there tried.parts place (omega (arith, within, few, parts_few)) in
      let r = get-there m.between place (omega (arith, within, few, worked_few, between_few)) in
      let s = get-there after place (omega (arith, within, few, worked_few, between_few, after_few)) in
      record {
        first = p.0;
        part = part.0;
        tries = q.0;
        meets = r.0;
        last = s.0;
        first_is = at.each place p.0 p.1;
        attempted = tried.each place p.0 q.0 part.0 p.1 q.1 part.1;
        before = m.before.each place q.0 r.0 q.1 r.1;
        behind = m.behind.each place r.0 s.0 r.1 s.1;
        part_there = part.1;
        last_there = s.1;
      }

  module _ (place : ℕ) (w : InRound place) where
    tries-number : w.tries.number ≡ place + 1
    tries-number = w.attempted.number ∙ w.first_is.number_is

    meets-number : w.meets.number ≡ place + 1
    meets-number = w.before.learns.learnt.number ∙ tries-number

    last-number : w.last.number ≡ place + 1
    last-number = w.behind.learns.learnt.number ∙ meets-number

    abbrev own_calls : List Entry
    own_calls = calls_of (place + 1) h ++ w.attempted.added

    own-tries : calls_of (place + 1) w.tries.seen ≡ own_calls
    own-tries =
        ap (λ (n : ℕ). calls_of n w.tries.seen) (sym tries-number) ∙ sym w.before.learns.knew.calls ∙ w.attempted.mine
        ∙ ap (λ (l : List Entry). l ++ w.attempted.added)
        (w.first_is.seen.pass.calls ∙ w.first_is.seen.own ∙ ap (λ (n : ℕ). calls_of n h) w.first_is.number_is)

    own-meets : calls_of (place + 1) w.meets.seen ≡ own_calls
    own-meets =
        ap (λ (n : ℕ). calls_of n w.meets.seen) (sym meets-number) ∙ learns-own c_here w.tries w.meets w.before.learns
        ∙ ap (λ (n : ℕ). calls_of n w.tries.seen) tries-number ∙ own-tries

    own-last : calls_of (place + 1) w.last.seen ≡ own_calls
    own-last =
        ap (λ (n : ℕ). calls_of n w.last.seen) (sym last-number) ∙ learns-own c_here w.meets w.last w.behind.learns
        ∙ ap (λ (n : ℕ). calls_of n w.meets.seen) meets-number ∙ own-meets

    meets-here : IsPrefix w.meets.seen marked_history
    meets-here = prefix-then w.meets.seen m.met.seen marked_history w.before.to met-here

    made-last : IsPrefix m.made.seen w.last.seen
    made-last = w.behind.from

    here-last : IsPrefix marked_history w.last.seen
    here-last = prefix-then marked_history m.made.seen w.last.seen here-made made-last

    pub own-here : calls_of (place + 1) marked_history ≡ own_calls
    own-here = squeeze (place + 1) w.meets.seen marked_history w.last.seen meets-here here-last (own-last ∙ sym own-meets) ∙ own-meets

    pub own-made-too : calls_of (place + 1) m.made.seen ≡ calls_of (place + 1) marked_history
    own-made-too = squeeze (place + 1) marked_history m.made.seen w.last.seen here-made made-last (own-last ∙ sym own-here)

    pub worker-at : IsWorkerAt t marked_history (place + 1) w.last
    worker-at = record {
      number_is = last-number;
      seen = record {
        pass = w.behind.learns.knows;
        begins = here-last;
        own = ap (λ (n : ℕ). calls_of n w.last.seen) last-number ∙ own-last ∙ sym own-here ∙ ap (λ (n : ℕ). calls_of n marked_history) (sym last-number);
      };
      planned = planned-learns t c_here w.meets w.last w.behind.learns
          (planned-learns t c_here w.tries w.meets w.before.learns (w.attempted.planned w.first_is.planned));
    }

  -- the callers stand at the mark
  after-few : length after ≡ t.workers
  after-few = m.behind.count ∙ m.before.count ∙ tried.count ∙ at.count

  pub at-mark : AreAt t marked_history new after
  at-mark = record {
    count = after-few;
    number = new-number;
    seen = coordinator-seen;
    each = λ place p there.
        let within = slice_get_within after place p there in
        let few = after-few in
        let w = in-round place (omega (arith, within, few)) in
        subst (IsWorkerAt t marked_history (place + 1)) (same_Some w.last p (sym w.last_there ∙ there)) (worker-at place w);
  }

  -- where all entries are the callers', the coordinator has seen nothing behind the mark when it finds the victims
  pub made-here : AreOf t.workers m.made.seen → marked_history ≡ m.made.seen
  made-here numbers = same-history t.workers marked_history m.made.seen here-made numbers same
    where
      same : (number : ℕ) → number ≤ t.workers → calls_of number m.made.seen ≡ calls_of number marked_history
      same zero few = sym own-mark
      same (suc place) few =
          let next : place + 1 ≡ suc place = omega arith in
          subst (λ (n : ℕ). calls_of n m.made.seen ≡ calls_of n marked_history) next (own-made-too place (in-round place (omega (arith, few))))

  -- where all entries are the callers', the entries since the mark before are those of the attempts
  module _ (numbers : AreOf t.workers new.seen) (overflow : Option ℕ) (next : IsNext t round nets overflow h) where
    abbrev segment : List Entry
    segment = old-before.0

    split : h ++ segment ≡ unmarked_history
    split = old-before.1

    of-segment : AreOf t.workers segment
    of-segment =
        all-second (λ (e : Entry). e.number ≤ t.workers) h segment
        (subst (AreOf t.workers) (sym split)
        (all-prefix (λ (e : Entry). e.number ≤ t.workers) unmarked_history new.seen (prefix-then unmarked_history marked_history new.seen before-here here-new) numbers))

    calls-split : (number : ℕ) → calls_of number unmarked_history ≡ calls_of number h ++ calls_of number segment
    calls-split number = ap (λ (l : List Entry). calls_of number l) (sym split) ∙ calls-append number h segment

    of-worker : (place : ℕ) (w : InRound place) → calls_of (place + 1) segment ≡ w.attempted.added
    of-worker place w =
        let n : ℕ = place + 1 in
        let apart : mark_entry.number ≡ n → ⊥ = λ is. (let zero_is = met-number in absurd (omega (arith, is, zero_is))) in
        let here : calls_of n marked_history ≡ calls_of n h ++ calls_of n segment =
        ap (λ (l : List Entry). calls_of n l) answered.seen ∙ calls-append n unmarked_history (mark_entry ∷ [])
        ∙ ap (λ (l : List Entry). calls_of n unmarked_history ++ l) (calls-after n mark_entry [] apart)
        ∙ append-nil (calls_of n unmarked_history) ∙ calls-split n in
        append_cancel_left (calls_of n h) (calls_of n segment) w.attempted.added (sym here ∙ own-here place w)

    of-coordinator : calls_of 0 segment ≡ []
    of-coordinator =
        let both : (calls_of 0 h ++ calls_of 0 segment) ++ mark_entry ∷ [] ≡ calls_of 0 h ++ mark_entry ∷ [] =
        ap (λ (l : List Entry). l ++ mark_entry ∷ []) (sym (calls-split 0)) ∙ sym calls-here ∙ own-zero in
        nothing-more (calls_of 0 h) (calls_of 0 segment) (append_cancel_right (calls_of 0 h ++ calls_of 0 segment) (calls_of 0 h) (mark_entry ∷ []) both)

    -- they end no segment, and are the workers'
    record IsPart (e : Entry) : Type 0 where
      pub other : ends_segment e ≡ false
      pub some : 0 < e.number
      pub few : e.number ≤ t.workers

    parts : All IsPart segment
    parts = calls-all IsPart t.workers segment of-segment by
      where
        by : (number : ℕ) → number ≤ t.workers → All IsPart (calls_of number segment)
        by zero few = subst (All IsPart) (sym of-coordinator) (All-nil IsPart)
        by (suc place) few =
            let w = in-round place (omega (arith, few)) in
            let next_number : place + 1 ≡ suc place = omega arith in
            let calls : calls_of (suc place) segment ≡ w.attempted.added =
            subst (λ (n : ℕ). calls_of n segment ≡ w.attempted.added) next_number (of-worker place w) in
            let free = subst (All (λ (e : Entry). ends_segment e ≡ false)) (sym calls) (whole-free round w.attempted.added w.attempted.led) in
            let own = filter_passes (λ (e : Entry). e.number == suc place) segment in
            λ i d within. (
            let test = own i d within in
            let is : (get_or (calls_of (suc place) segment) i d).number ≡ suc place = grind (arith, nat_tests) in
            record { other = free i d within; some = omega (arith, is); few = omega (arith, is, few) })

    all_free : All (λ (e : Entry). ends_segment e ≡ false) segment
    all_free = λ i d within. (parts i d within).other

    all_unmarked : All (λ (e : Entry). is_mark e ≡ false) segment
    all_unmarked = λ i d within. unmarked (get_or segment i d) (all_free i d within)

    before-is : (cut h).before ≡ h
    before-is = sym (append-nil (cut h).before) ∙ ap (λ (l : List Entry). (cut h).before ++ l) (sym next.done.segment) ∙ cut-whole h

    cut-h : cut h ≡ cut_of round h []
    cut-h = λ i. cut_of (next.done.round_is i) (before-is i) (next.done.segment i)

    cut-unmarked : cut unmarked_history ≡ cut_of round h segment
    cut-unmarked = ap cut (sym split) ∙ cut-more h segment all_free ∙ ap (λ (s : Cut). grown s segment) cut-h

    whole-here : AreWhole (cut_of round h segment)
    whole-here zero = ap (λ (l : List Entry). stage_of round l) of-coordinator
    whole-here (suc place) = elim (cases_lt place t.workers) [
      | inl within ↦
          let w = in-round place within in
          let next_number : place + 1 ≡ suc place = omega arith in
          ap (λ (n : ℕ). stage_of round (calls_of n segment)) (sym next_number)
          ∙ ap (λ (l : List Entry). stage_of round l) (of-worker place w) ∙ w.attempted.led
      | inr past ↦ ap (λ (l : List Entry). stage_of round l) (calls-none t.workers (suc place) segment of-segment (omega (arith, past)))
    ]

    count-here : (net : ℕ) → attempts_at round net segment ≡ times net nets
    count-here net =
        let counts : ℕ → ℕ = λ number. count_by (begins round net) (calls_of number segment) in
        let long = tried.parts_count ∙ at.count in
        let next_number : t.workers + 1 ≡ suc t.workers = omega arith in
        let zero_is : counts 0 ≡ 0 = ap (λ (l : List Entry). count_by (begins round net) l) of-coordinator in
        let workers_are : sum_by counts (range_with_len 1 (length tried.parts)) ≡ sum_by (λ (part : List ℕ). times net part) tried.parts =
        sum-places (λ (part : List ℕ). times net part) counts tried.parts 1 (λ place part number there is. of-part place part number there is) in
        let first = sum_by-cons counts 0 (range_with_len 1 t.workers) in
        let same : sum_by counts (range_with_len 1 t.workers) ≡ sum_by counts (range_with_len 1 (length tried.parts)) =
        ap (λ (n : ℕ). sum_by counts (range_with_len 1 n)) (sym long) in
        count-parts (begins round net) t.workers segment of-segment ∙ ap (λ (n : ℕ). sum_by counts (range_with_len 0 n)) next_number
        ∙ first ∙ omega (arith, zero_is, same, workers_are) ∙ sym (tried.whole net)
      where
        of-part : (place : ℕ) (part : List ℕ) (number : ℕ) → slice_get tried.parts place ≡ Some part → number ≡ 1 + place →
            count_by (begins round net) (calls_of number segment) ≡ times net part
        of-part place part number there is =
            let within = slice_get_within tried.parts place part there in
            let long = tried.parts_count ∙ at.count in
            let w = in-round place (omega (arith, within, long)) in
            let number_is : number ≡ place + 1 = omega (arith, is) in
            ap (λ (n : ℕ). count_by (begins round net) (calls_of n segment)) number_is
            ∙ ap (λ (l : List Entry). count_by (begins round net) l) (of-worker place w) ∙ w.attempted.each net
            ∙ ap (λ (ns : List ℕ). times net ns) (same_Some w.part part (sym w.part_there ∙ there))

    due-here : AreOfDue t.design (cut_of round h segment)
    due-here net = count-here net ∙ next.due net

    asked-here : 0 < round → IsAsked t (cut_of round h segment)
    asked-here later =
        let asked : IsAsked t (cut_of round h []) = subst (IsAsked t) cut-h (next.asked later) in
        record { some = asked.some; most = asked.most; on = asked.on }

    -- what holds at each mark holds at this one too
    at-marks : (P : Cut → Type 0) → AtMarks P h → P (cut_of round h segment) → AtMarks P marked_history
    at-marks P old here =
        subst (AtMarks P) (sym answered.seen)
        (each-push (λ prior e. IsTrue (is_mark e) → P (cut prior)) unmarked_history mark_entry
        (subst (AtMarks P) split (marks-more P h segment old all_unmarked)) (λ mark. subst P (sym cut-unmarked) here))

    numbers-here : AtEach (λ prior e. IsNumbered t.workers e.call e.number) marked_history
    numbers-here =
        subst (AtEach (λ prior e. IsNumbered t.workers e.call e.number)) (sym answered.seen)
        (each-push (λ prior e. IsNumbered t.workers e.call e.number) unmarked_history mark_entry
        (subst (AtEach (λ prior e. IsNumbered t.workers e.call e.number)) split
        (each-more (λ prior e. IsNumbered t.workers e.call e.number) IsPart h segment next.done.rules.numbers
        (λ prior e part. numbered t.workers e.call e.number (unmarked e part.other) part.some part.few) parts)) met-number)

    plans-here : AtEach (λ prior e. (claim : Claim) → e.call ≡ Claims claim → IsPlanned t prior e.number claim) marked_history
    plans-here p e there claim call = by e.number refl
      where
        within : p < length marked_history
        within = slice_get_within marked_history p e there

        own : e.number ≤ t.workers
        own = all-at (λ (x : Entry). x.number ≤ t.workers) marked_history p e
            (all-prefix (λ (x : Entry). x.number ≤ t.workers) marked_history new.seen here-new numbers) there

        by : (number : ℕ) → e.number ≡ number → IsPlanned t (take p marked_history) e.number claim
        by zero is =
            let claims : IsNumbered t.workers (Claims claim) e.number =
            subst (λ (k : Call). IsNumbered t.workers k e.number) call (numbers-here p e there) in
            absurd (omega (arith, claims.0, is))
        by (suc place) is =
            let w = in-round place (omega (arith, own, is)) in
            let worker = worker-at place w in
            let more = worker.seen.begins in
            let is_there : slice_get w.last.seen p ≡ Some e =
            ap (λ (l : List Entry). slice_get l p) (sym more.1) ∙ slice_get-left marked_history more.0 p within ∙ there in
            let first : take p w.last.seen ≡ take p marked_history =
            ap (λ (l : List Entry). take p l) (sym more.1) ∙ take-append-le p marked_history more.0 (omega (arith, within)) in
            let number : e.number ≡ w.last.number = is ∙ omega arith ∙ sym worker.number_is in
            subst (λ (l : List Entry). IsPlanned t l e.number claim) first (worker.planned.own p e is_there number claim call)

    begins-here : BeginsGiven t marked_history
    begins-here =
        subst (BeginsGiven t) (sym answered.seen)
        (begins-push t unmarked_history mark_entry
        (subst (BeginsGiven t) split (begins-more t h segment next.done.rules.given (λ i d within. ungiven (get_or segment i d) (all_free i d within)))) refl)

    last-here : IsTrue (ends_with_mark marked_history)
    last-here =
        ap (λ (l : List Entry). ends_with_mark l) answered.seen ∙ fold_push (λ (last : Bool) (e : Entry). is_mark e) false unmarked_history mark_entry

    attempts-here : AreAttempts t marked_history
    attempts-here = record {
      legal = answered.legal;
      given = begins-here;
      last = last-here;
      numbers = numbers-here;
      plans = plans-here;
      whole = at-marks AreWhole next.done.rules.whole whole-here;
      due = at-marks (AreOfDue t.design) next.done.rules.due due-here;
    }

    rules-here : KeepsRules t marked_history
    rules-here = record {
      legal = answered.legal;
      given = begins-here;
      numbers = numbers-here;
      plans = plans-here;
      granted = attempts-granted t marked_history attempts-here;
      whole = attempts-here.whole;
      due = attempts-here.due;
      asked = at-marks (λ s. 0 < s.round → IsAsked t s) next.done.rules.asked asked-here;
    }

    stands-here : Stands t.design marked_history
    stands-here =
        let before = each-next (λ prior e. IsTrue (is_mark e) → Stands t.design prior) unmarked_history [] mark_entry
        (subst (AtEach (λ prior e. IsTrue (is_mark e) → Stands t.design prior)) answered.seen (attempts-stand t marked_history attempts-here)) refl in
        subst (Stands t.design) (sym answered.seen) (mark-stands t.design unmarked_history mark_entry refl before)

    cut-here : cut marked_history ≡ closed (cut_of round h segment) mark_entry
    cut-here =
        ap cut answered.seen ∙ cut-mark unmarked_history mark_entry refl ∙ ap (λ (s : Cut). closed s mark_entry) cut-unmarked

    overflows-here : overflows_of marked_history ≡ overflows marked.overflow overflow
    overflows-here =
        let legal : IsLegal c_here (h ++ (segment ++ mark_entry ∷ [])) =
        subst (IsLegal c_here) (answered.seen ∙ ap (λ (l : List Entry). l ++ mark_entry ∷ []) (sym split) ∙ append_assoc h segment (mark_entry ∷ [])) answered.legal in
        ap (λ (l : List Entry). overflows_of l) answered.seen ∙ overflows-push unmarked_history mark_entry
        ∙ ap (λ (o : Option ℕ). overflows marked.overflow o)
        (ap (λ (l : List Entry). (overflows_of l).last) (sym split)
        ∙ ap (λ (o : Overflows). o.last) (overflows-more c_here h segment (mark_entry ∷ []) legal all_unmarked) ∙ next.overflow_is)

    victims-here : marked.victims ≡ victims c_here marked_history
    victims-here =
        m.mark.victims_are ∙ ap (λ (l : List Entry). victims c_here l) (sym (made-here
        (all-prefix (λ (e : Entry). e.number ≤ t.workers) m.made.seen new.seen made-new numbers)))

    pub has-ended : HasEnded t round marked.overflow overflow marked.victims marked_history
    has-ended = record {
      done = record {
        rules = rules-here;
        round_is = ap (λ (s : Cut). s.round) cut-here;
        segment = ap (λ (s : Cut). s.segment) cut-here;
      };
      last = last-here;
      stands = stands-here;
      overflows_are = overflows-here;
      victims_are = victims-here;
    }

  pub old-numbers : AreOf t.workers new.seen → AreOf t.workers coordinator.seen
  old-numbers numbers = all-prefix (λ (e : Entry). e.number ≤ t.workers) coordinator.seen new.seen old-new numbers

-- from one round to its mark
pub round-ends : (t : Setting) (round : ℕ) (nets : List ℕ) (overflow : Option ℕ) (coordinator new : PassView) (workers worked after : List PassView) (marked : Marked) →
    AreBefore t round nets overflow coordinator workers → HaveAttempted t round nets workers worked → AreMarked (capacity_of t.design) coordinator new worked after marked →
    AreBehind t round marked.overflow overflow marked.victims new after
round-ends t round nets overflow coordinator new workers worked after marked before tried m = record {
  h = m.mark.at_mark.seen;
  at = at-mark t round nets before.h coordinator new workers worked after marked before.at tried m;
  ended = λ numbers.
      has-ended t round nets before.h coordinator new workers worked after marked before.at tried m numbers overflow
      (before.next (old-numbers t round nets before.h coordinator new workers worked after marked before.at tried m numbers));
}

pub round-over : (t : Setting) (c : CapacityView) (round : ℕ) (nets list : List ℕ) (overflow : Option ℕ) (coordinator new : PassView) (workers worked after : List PassView) (marked : Marked) →
    c ≡ capacity_of t.design → list ≡ nets → AreBefore t round nets overflow coordinator workers → HaveAttempted t round list workers worked → AreMarked c coordinator new worked after marked →
    AreBehind t round marked.overflow overflow marked.victims new after
round-over t c round nets list overflow coordinator new workers worked after marked is same before tried m =
    round-ends t round nets overflow coordinator new workers worked after marked before (subst (λ (ns : List ℕ). HaveAttempted t round ns workers worked) same tried)
    (subst (λ (k : CapacityView). AreMarked k coordinator new worked after marked) is m)
