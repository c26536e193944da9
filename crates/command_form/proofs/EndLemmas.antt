-- What each status says, of how a command ended and what err was told.
use Rattle.std.proofs.Common.{◌≡◌, ℕ, ◌⊎◌, inl, inr, Bool, true, false, not, ◌||◌, ◌==◌, nat_eq, List, [], ◌∷◌, ◌++◌, Option, Some, None, Result, Ok, Err, IsTrue, refl, sym, ap, subst, ◌∙◌}
use Rattle.std.specs.List.{list_any}
use Rattle.gr_io.specs.Counts.{Rose}
use Rattle.gr_io.specs.declared.shelf.Slot.{Slot}
use Rattle.gr_io.specs.declared.shelf.Slot.TheVariants.{Design, Library, Solution}
use Rattle.word_reader.specs.declared.program.Program.{Program}
use Rattle.gr_io.specs.Devices.{Device, Reading, IsUntouched, Gains, GainsPart, GainsLine}
use Rattle.gr_io.specs.Parts.{AppendsPart}
use Rattle.command_form.specs.Commands.{Command, Asked, Unasked, Asks, IsLawful, reads_some}
use Rattle.command_form.specs.Ends.{LeavesFor, upto, afterwards, Ends}
use Rattle.command_form.specs.Leaving.{IsDone, IsFaulty, IsRefused, FailsToRead, FailsToWrite, WantsMemory, IsSilent, Leaves}
use Rattle.command_form.specs.Statuses.{is_apart, is_status, ReportsFault, ReportsNet, IsAnswer, IsByStatus}
use Rattle.command_form.specs.Stops.{status_at, status_of, told_line, IsToldOrNot, Finishes}
use Rattle.command_form.specs.declared.stop.Outcome.{Outcome}
use Rattle.command_form.specs.declared.stop.Outcome.TheVariants.{Whole, Open}
use Rattle.command_form.specs.declared.stop.Stop.{Stop}
use Rattle.command_form.specs.declared.stop.Stop.TheVariants.{Usage, Fault, NotTree, ReadFailed, WriteFailed, NoMemory}

-- of three tests
no-both : (b : Bool) → IsTrue b → IsTrue (not b) → ⊥
no-both true yes_is no_is = cc
no-both false yes_is no_is = cc

some-first : (a b c : Bool) → IsTrue a → IsTrue (a || b || c)
some-first true b c is = refl
some-first false b c is = absurd cc

some-second : (a b c : Bool) → IsTrue b → IsTrue (a || b || c)
some-second true b c is = refl
some-second false true c is = refl
some-second false false c is = absurd cc

some-third : (a b c : Bool) → IsTrue c → IsTrue (a || b || c)
some-third true b c is = refl
some-third false true c is = refl
some-third false false c is = is

-- err up to the moment at which it is told, and from there on
module _ (err : Device) (faults : ℕ) (written : List ℕ) where
  untouched-both : IsUntouched (upto err faults written) → IsUntouched (afterwards err faults written) → IsUntouched err
  untouched-both first second = record { faults = second.faults ∙ first.faults; written = λ tells. second.written tells ∙ first.written tells }

  gains-then : (text : List ℕ) → Gains (upto err faults written) text → IsUntouched (afterwards err faults written) → Gains err text
  gains-then text first second = record { faults = second.faults ∙ first.faults; written = λ tells. second.written tells ∙ first.written tells }

  part-then : (text : List ℕ) → GainsPart (upto err faults written) text → IsUntouched (afterwards err faults written) → GainsPart err text
  part-then text first second = λ tells. subst (λ (w : List ℕ). AppendsPart err.written w text) (sym (second.written tells)) (first tells)

  line-then : (line : List ℕ) → IsUntouched (upto err faults written) → GainsLine (afterwards err faults written) line → GainsLine err line
  line-then line first second =
      elim second [
        | inl whole ↦ inl (whole.0 ∙ first.faults, λ tells. whole.1 tells ∙ ap (λ (w : List ℕ). w ++ line) (first.written tells))
        | inr part ↦
            inr (
              subst (λ (f : ℕ). Rose f err.faults_after) first.faults part.0,
              λ tells. subst (λ (w : List ℕ). AppendsPart w err.written_after line) (first.written tells) (part.1 tells),
            )
      ]

abbrev pick : Bool → Type 0 → Type 0 → Type 0
pick true A B = A
pick false A B = B

-- what a status says of a command
abbrev SaysAt : {K : Type 0} → Program → Command K → Reading → (out err : Device) → Option K → ℕ → Type 0
SaysAt program command shelf out err kept status =
    pick (status == 0) (IsDone command shelf out err kept Whole)
    (pick (status == 1) (IsDone command shelf out err kept Open)
    (pick (status == 3) (ReportsFault program Design command shelf out err)
    (pick (status == 4) (ReportsFault program Library command shelf out err)
    (pick (status == 5) (ReportsFault program Solution command shelf out err ⊎ ReportsNet program command shelf out err)
    (pick (status == 6) (FailsToRead command shelf out × GainsLine err (told_line program ReadFailed))
    (pick (status == 7) (FailsToWrite command shelf out err kept)
    (pick (status == 8) (WantsMemory command shelf out kept × GainsLine err (told_line program NoMemory)) ⊥)))))))

-- a status, what it says, and how it answers what the files say
record IsShown {K : Type 0} (program : Program) (command : Command K) (shelf : Reading) (out err : Device) (kept : Option K) (status : ℕ) : Type 0 where
  known : IsTrue (is_status status)
  says : SaysAt program command shelf out err kept status
  unkept : (status ≡ 0 → ⊥) → (status ≡ 7 → ⊥) → (status ≡ 8 → ⊥) → kept ≡ None
  answers : IsTrue shelf.tells → (Rose shelf.faults shelf.faults_after → ⊥) → (said : Result (Unit {0}) Stop) →
      command.files shelf ≡ Some said → IsAnswer command shelf said out err status

-- files say one thing
one_answer : (o : Option (Result (Unit {0}) Stop)) (a b : Result (Unit {0}) Stop) → o ≡ Some a → o ≡ Some b → a ≡ b
one_answer o a b first second = cc

module _ {K : Type 0} (program : Program) (command : Command K) (law : IsLawful command) (shelf : Reading) (out err : Device) (kept : Option K) where
  -- a command whose texts were made answers accepted files
  done-answers : (outcome : Outcome) (text report : List ℕ) (status : ℕ) → command.says shelf kept outcome text report →
      IsAnswer command shelf (Ok tt) out err status → IsTrue shelf.tells → (said : Result (Unit {0}) Stop) →
      command.files shelf ≡ Some said → IsAnswer command shelf said out err status
  done-answers outcome text report status says answer tells said is =
      subst (λ (r : Result (Unit {0}) Stop). IsAnswer command shelf r out err status)
      (one_answer (command.files shelf) (Ok tt) said (law.accepts shelf kept outcome text report says tells) is) answer

  shown-whole : IsDone command shelf out err kept Whole → IsShown program command shelf out err kept 0
  shown-whole done = record {
    known = refl;
    says = done;
    unkept = λ no no_write no_memory. absurd (no refl);
    answers = λ tells quiet. done-answers Whole done.text done.report 0 done.says (λ writes. inl refl) tells;
  }

  shown-open : IsDone command shelf out err kept Open → IsShown program command shelf out err kept 1
  shown-open done = record {
    known = refl;
    says = done;
    unkept = λ no no_write no_memory. law.unkept shelf kept done.text done.report done.says;
    answers = λ tells quiet. done-answers Open done.text done.report 1 done.says (λ writes. inr (inl refl)) tells;
  }

  -- a fault answers files that say it
  fault-answers : (stop : Stop) → IsFaulty command shelf out stop → IsTrue shelf.tells → (said : Result (Unit {0}) Stop) →
      command.files shelf ≡ Some said → IsAnswer command shelf said out err (status_of stop)
  fault-answers stop faulty tells said is =
      subst (λ (r : Result (Unit {0}) Stop). IsAnswer command shelf r out err (status_of stop))
      (one_answer (command.files shelf) (Err stop) said (faulty.said tells) is) (inl refl)

  -- another cause answers accepted files
  refused-answers : (stop : Stop) → command.refuses shelf stop → IsTrue shelf.tells → (said : Result (Unit {0}) Stop) →
      command.files shelf ≡ Some said → IsAnswer command shelf said out err (status_of stop)
  refused-answers stop refused tells said is =
      subst (λ (r : Result (Unit {0}) Stop). IsAnswer command shelf r out err (status_of stop))
      (one_answer (command.files shelf) (Ok tt) said (law.refuses shelf stop refused tells) is)
      (λ writes. inr (inr (inr (stop, refused, refl))))

  -- a net without a tree that was told
  shown-net : (id : ℕ) → IsRefused command shelf out (NotTree id) → GainsLine err (told_line program (NotTree id)) → kept ≡ None →
      IsShown program command shelf out err kept 5
  shown-net id refused line none = record {
    known = refl;
    says = inr (record { id = id; refused = refused; line = line });
    unkept = λ no no_write no_memory. none;
    answers = λ tells quiet. refused-answers (NotTree id) refused.refuses tells;
  }

  -- a fault of a text that was told is one that its status says
  at-text : (text : Slot) → ReportsFault program text command shelf out err → SaysAt program command shelf out err kept (status_at text)
  at-text Design says = says
  at-text Library says = says
  at-text Solution says = inl says

  known-text : (text : Slot) → IsTrue (is_status (status_at text))
  known-text Design = refl
  known-text Library = refl
  known-text Solution = refl

  shown-text : (text : Slot) (number token : ℕ) → IsFaulty command shelf out (Fault text number token) →
      GainsLine err (told_line program (Fault text number token)) → kept ≡ None → IsShown program command shelf out err kept (status_at text)
  shown-text text number token faulty line none = record {
    known = known-text text;
    says = at-text text (record { number = number; token = token; faulty = faulty; line = line });
    unkept = λ no no_write no_memory. none;
    answers = λ tells quiet. fault-answers (Fault text number token) faulty tells;
  }

  -- a cause of a failed read that is no fault of the shelf is a name that isn't held
  excused : (said : Result (Unit {0}) Stop) → FailsToRead command shelf out → IsTrue shelf.tells →
      command.files shelf ≡ Some said → (Rose shelf.faults shelf.faults_after → ⊥) → ⊥
  excused said fails tells is quiet =
      elim fails.cause [
        | inl rose ↦ quiet rose
        | inr missing ↦ (let none = missing.1 tells in cc)
      ]

  shown-read : FailsToRead command shelf out → GainsLine err (told_line program ReadFailed) → kept ≡ None → IsShown program command shelf out err kept 6
  shown-read fails line none = record {
    known = refl;
    says = (fails, line);
    unkept = λ no no_write no_memory. none;
    answers = λ tells quiet said is. absurd (excused said fails tells is quiet);
  }

  -- a failed write is one that may fail
  write-answers : FailsToWrite command shelf out err kept → IsTrue shelf.tells → (said : Result (Unit {0}) Stop) →
      command.files shelf ≡ Some said → IsAnswer command shelf said out err 7
  write-answers (inl fails) tells said is =
      done-answers fails.part.outcome fails.part.text fails.part.report 7 fails.part.says
      (λ quiet. absurd (quiet (inl fails.cause))) tells said is
  write-answers (inr half) tells said is =
      done-answers half.outcome half.text half.report 7 half.says
      (λ quiet. absurd (quiet (inr (half.reports, half.cause)))) tells said is

  shown-write : FailsToWrite command shelf out err kept → IsShown program command shelf out err kept 7
  shown-write fails = record {
    known = refl;
    says = fails;
    unkept = λ no no_write no_memory. absurd (no_write refl);
    answers = λ tells quiet. write-answers fails tells;
  }

  any-answer : (said : Result (Unit {0}) Stop) → IsAnswer command shelf said out err 8
  any-answer (Ok done) = λ writes. inr (inr (inl refl))
  any-answer (Err stop) = inr refl

  shown-memory : WantsMemory command shelf out kept → GainsLine err (told_line program NoMemory) → IsShown program command shelf out err kept 8
  shown-memory wants line = record {
    known = refl;
    says = (wants, line);
    unkept = λ no no_write no_memory. absurd (no_memory refl);
    answers = λ tells quiet said is. any-answer said;
  }

  -- what was told decides the status
  shown-told : (stop told : Stop) (status : ℕ) → told ≡ stop → status ≡ status_of told →
      IsShown program command shelf out err kept (status_of stop) → IsShown program command shelf out err kept status
  shown-told stop told status is by shown = subst (IsShown program command shelf out err kept) (sym (by ∙ ap status_of is)) shown

  -- a cause that was told, or memory wanted for its line
  shown-fault : (stop : Stop) (faults : ℕ) (written : List ℕ) (told : Stop) (status : ℕ) → IsUntouched out →
      IsSilent (upto err faults written) kept → IsToldOrNot program (afterwards err faults written) stop told → status ≡ status_of told →
      (GainsLine err (told_line program stop) → IsShown program command shelf out err kept (status_of stop)) → IsShown program command shelf out err kept status
  shown-fault stop faults written told status unwritten silent is_told by shown =
      elim is_told [
        | inl h ↦ shown-told stop told status h.0 by (shown (line-then err faults written (told_line program stop) silent.0 h.1))
        | inr h ↦
            shown-told NoMemory told status h.0 by
            (shown-memory (inl (unwritten, silent.1)) (line-then err faults written (told_line program NoMemory) silent.0 h.1))
      ]

  -- of a command that was done err is told nothing
  done-told : (outcome : Outcome) (faults : ℕ) (written : List ℕ) → IsDone command shelf out (upto err faults written) kept outcome →
      IsUntouched (afterwards err faults written) → IsDone command shelf out err kept outcome
  done-told outcome faults written done untouched = record {
    reads = done.reads;
    text = done.text;
    report = done.report;
    out_gains = done.out_gains;
    err_gains = gains-then err faults written done.report done.err_gains untouched;
    says = done.says;
  }

  -- an end, with what was told of it
  shown : (end : Result Outcome Stop) (faults : ℕ) (written : List ℕ) (status : ℕ) →
      Leaves command shelf out (upto err faults written) kept end → Finishes program (afterwards err faults written) end status →
      IsShown program command shelf out err kept status
  shown (Ok Whole) faults written status leaves told =
      subst (IsShown program command shelf out err kept) (sym told.0) (shown-whole (done-told Whole faults written leaves told.1))
  shown (Ok Open) faults written status leaves told =
      subst (IsShown program command shelf out err kept) (sym told.0) (shown-open (done-told Open faults written leaves told.1))
  shown (Err Usage) faults written status leaves told = absurd leaves
  shown (Err (Fault text number token)) faults written status leaves told =
      shown-fault (Fault text number token) faults written told.0 status leaves.0.unwritten leaves.1 told.1 told.2
      (λ line. shown-text text number token leaves.0 line leaves.1.1)
  shown (Err (NotTree id)) faults written status leaves told =
      shown-fault (NotTree id) faults written told.0 status leaves.0.unwritten leaves.1 told.1 told.2
      (λ line. shown-net id leaves.0 line leaves.1.1)
  shown (Err ReadFailed) faults written status leaves told =
      shown-told ReadFailed told.0 status told.1.0 told.2
      (shown-read leaves.0 (line-then err faults written (told_line program ReadFailed) leaves.1.0 told.1.1) leaves.1.1)
  shown (Err WriteFailed) faults written status leaves told =
      shown-told WriteFailed told.0 status told.1.0 told.2 (shown-write (fails leaves))
    where
      fails : FailsToWrite command shelf out (upto err faults written) kept → FailsToWrite command shelf out err kept
      fails (inl first) =
          inl (record { reads = first.reads; cause = first.cause; part = first.part; silent = untouched-both err faults written first.silent told.1.1 })
      fails (inr second) =
          inr (record {
            reads = second.reads;
            outcome = second.outcome;
            text = second.text;
            report = second.report;
            reports = second.reports;
            out_gains = second.out_gains;
            cause = subst (Rose err.faults) (sym told.1.1.faults) second.cause;
            part = part-then err faults written second.report second.part told.1.1;
            says = second.says;
          })
  shown (Err NoMemory) faults written status leaves told =
      shown-told NoMemory told.0 status told.1.0 told.2
      (shown-memory leaves.0 (line-then err faults written (told_line program NoMemory) leaves.1 told.1.1))

-- a status that is shown says what each status says
by-shown : {K : Type 0} (program : Program) (command : Command K) → IsLawful command → (shelf : Reading) (out err : Device) (kept : Option K) (status : ℕ) →
    IsShown program command shelf out err kept status → IsByStatus program (Asks command) shelf out err kept status
by-shown program command law shelf out err kept status is_shown = record {
  known = is_shown.known;
  usage = (λ is. absurd (subst says is is_shown.says), λ none. absurd none);
  usage_line = λ is. absurd (subst says is is_shown.says);
  whole = λ is. subst says is is_shown.says;
  unjoined = λ is. subst says is is_shown.says;
  design_fault = λ is. subst says is is_shown.says;
  library_fault = λ is. subst says is is_shown.says;
  solution_fault = λ is. subst says is is_shown.says;
  read_failed = λ is. subst says is is_shown.says;
  write_failed = λ is. subst says is is_shown.says;
  no_memory = λ is. subst says is is_shown.says;
  unkept = is_shown.unkept;
  completes = is_shown.answers;
  opens = λ tells. (λ is. opened tells (subst says is is_shown.says), λ is. closed tells (subst says is is_shown.says));
}
  where
    says : ℕ → Type 0
    says = SaysAt program command shelf out err kept

    opened : IsTrue shelf.tells → IsDone command shelf out err kept Open → command.is_open shelf
    opened tells done = law.opens shelf kept done.text done.report done.says tells

    closed : IsTrue shelf.tells → IsDone command shelf out err kept Whole → command.is_open shelf → ⊥
    closed tells done = law.closes shelf kept done.text done.report done.says tells

-- a run whose words give no order
by-usage : {K : Type 0} (program : Program) (shelf : Reading) (out err : Device) (kept : Option K) → IsUntouched out → GainsLine err (told_line program Usage) → kept ≡ None →
    IsByStatus program Unasked shelf out err kept 2
by-usage program shelf out err kept untouched line none = record {
  known = refl;
  usage = (λ status. tt, λ unasked. refl);
  usage_line = λ status. (untouched, line);
  whole = λ status. tt;
  unjoined = λ status. tt;
  design_fault = λ status. tt;
  library_fault = λ status. tt;
  solution_fault = λ status. tt;
  read_failed = λ status. tt;
  write_failed = λ status. tt;
  no_memory = λ status. tt;
  unkept = λ no no_write no_memory. none;
  completes = tt;
  opens = tt;
}

usage-status : (program : Program) (err : Device) (end : Result Outcome Stop) (status : ℕ) → end ≡ Err Usage → Finishes program err end status →
    (status ≡ 2) × GainsLine err (told_line program Usage)
usage-status program err end status is told =
    let by : Finishes program err (Err Usage) status = subst (λ (e : Result Outcome Stop). Finishes program err e status) is told in
    (by.2 ∙ ap status_of by.1.0, by.1.1)

-- the command that words give is lawful
abbrev pub IsLawfully : {K : Type 0} → Asked K → Type 0
IsLawfully Unasked = Unit {0}
IsLawfully (Asks command) = IsLawful command

-- what the status of a run says
pub by-status : {K : Type 0} (program : Program) (asked : Asked K) → IsLawfully asked → (shelf : Reading) (out err : Device) (kept : Option K) (status : ℕ) →
    Ends program asked shelf out err kept status → IsByStatus program asked shelf out err kept status
by-status program Unasked law shelf out err kept status ends =
    let usage = usage-status program (afterwards err ends.faults ends.written) ends.end status ends.leaves.0 ends.finishes in
    let silent = ends.leaves.2 in
    subst (IsByStatus program Unasked shelf out err kept) (sym usage.0)
    (by-usage program shelf out err kept ends.leaves.1 (line-then err ends.faults ends.written (told_line program Usage) silent.0 usage.1) silent.1)
by-status program (Asks command) law shelf out err kept status ends =
    by-shown program command law shelf out err kept status
    (shown program command law shelf out err kept ends.end ends.faults ends.written status ends.leaves ends.finishes)

-- a run whose command left what it says, and whose end was told
pub ends-with : {K : Type 0} (program : Program) (asked : Asked K) (shelf : Reading) (out err : Device) (faults : ℕ) (written : List ℕ) (kept given : Option K)
    (end : Result Outcome Stop) (status told : ℕ) → kept ≡ given → status ≡ told →
    LeavesFor asked shelf out (upto err faults written) given end → Finishes program (afterwards err faults written) end told →
    Ends program asked shelf out err kept status
ends-with {K = K} program asked shelf out err faults written kept given end status told same is leaves finishes = record {
  end = end;
  faults = faults;
  written = written;
  leaves = subst (λ (k : Option K). LeavesFor asked shelf out (upto err faults written) k end) (sym same) leaves;
  finishes = subst (Finishes program (afterwards err faults written) end) (sym is) finishes;
}

-- a command that reads no texts ends done, at a failed write or for want of memory
abbrev known : ℕ → Type 0
known status = IsTrue (list_any (nat_eq status) (0 ∷ 7 ∷ 8 ∷ []))

module _ {K : Type 0} (program : Program) (command : Command K) (law : IsLawful command) (apart : IsTrue (not (reads_some command))) (shelf : Reading) (out err : Device)
    (kept : Option K) (told : Device) (status : ℕ) where
  reads-none : IsTrue (reads_some command) → ⊥
  reads-none reads = no-both (reads_some command) reads apart

  some-text : (text : Slot) → IsTrue (command.reads text) → IsTrue (reads_some command)
  some-text Design is = some-first (command.reads Design) (command.reads Library) (command.reads Solution) is
  some-text Library is = some-second (command.reads Design) (command.reads Library) (command.reads Solution) is
  some-text Solution is = some-third (command.reads Design) (command.reads Library) (command.reads Solution) is

  stopped : (stop : Stop) → known (status_of stop) → (told : Stop) → told ≡ stop → status ≡ status_of told → known status
  stopped stop is told same by = subst known (sym (by ∙ ap status_of same)) is

  by-end : (end : Result Outcome Stop) → Leaves command shelf out err kept end → Finishes program told end status → known status
  by-end (Ok Whole) leaves is = subst known (sym is.0) refl
  by-end (Ok Open) leaves is = absurd (reads-none (law.opens_read shelf kept leaves.text leaves.report leaves.says))
  by-end (Err Usage) leaves is = absurd leaves
  by-end (Err (Fault text number token)) leaves is = absurd (reads-none (some-text text leaves.0.read))
  by-end (Err (NotTree id)) leaves is = absurd (reads-none (law.refuses_read shelf (NotTree id) leaves.0.refuses))
  by-end (Err ReadFailed) leaves is = absurd (reads-none leaves.0.read)
  by-end (Err WriteFailed) leaves is = stopped WriteFailed refl is.0 is.1.0 is.2
  by-end (Err NoMemory) leaves is = stopped NoMemory refl is.0 is.1.0 is.2

pub apart-status : {K : Type 0} (program : Program) (asked : Asked K) → IsLawfully asked → IsTrue (is_apart asked) → (shelf : Reading) (out err : Device)
    (kept : Option K) (end : Result Outcome Stop) (told : Device) (status : ℕ) → LeavesFor asked shelf out err kept end →
    Finishes program told end status → IsTrue (list_any (nat_eq status) (0 ∷ 7 ∷ 8 ∷ []))
apart-status program Unasked law apart shelf out err kept end told status leaves is = absurd cc
apart-status program (Asks command) law apart shelf out err kept end told status leaves is =
    by-end program command law apart shelf out err kept told status end leaves is
