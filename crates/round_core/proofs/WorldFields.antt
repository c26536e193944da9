-- What the steps of the machine do to its fields.
use Rattle.std.proofs.Common.{◌≡◌, ℕ, ◌+◌, ◌<◌, ◌≤◌, Bool, true, false, not, ◌==◌, List, [], ◌∷◌, ◌++◌, filter, length, get_or, Option, Some, None, is_some, slice_get, slice_set, if◌then◌else◌, refl, sym, ap, subst, ◌∙◌, arith, length-set}
use Rattle.std.specs.Global.{Global}
use Rattle.std.specs.Vec.{with_item}
use Rattle.std.specs.declared.vec.Vec.{Vec}
use Rattle.std.proofs.lemmas.Bool.{both_ways}
use Rattle.std.proofs.lemmas.List.{length_push}
use Rattle.std.proofs.lemmas.Option.{slice_get_read}
use Rattle.gr_base.specs.declared.grid.Edge.{Edge}
use Rattle.grid_demand.specs.Tables.{CapacityView, capacity_of}
use Rattle.book_state.specs.Books.{nets_of, booked, demand, reply_by_full, first_full, reply_to_free, reply_to_claim, reply_to}
use Rattle.book_state.specs.Entries.{is_mark_call}
use Rattle.book_state.specs.Marks.{overflow_in}
use Rattle.book_state.specs.Views.{BookView, entry_of, with_call}
use Rattle.book_state.specs.declared.entry.Call.{Call}
use Rattle.book_state.specs.declared.entry.Call.TheVariants.{Claim as Claims, Release as Releases, Mark as Marks}
use Rattle.book_state.specs.declared.entry.Claim.{Claim}
use Rattle.book_state.specs.declared.entry.Entry.{Entry}
use Rattle.book_state.specs.declared.entry.Reply.{Reply}
use Rattle.book_state.specs.declared.entry.Reply.TheVariants.{Taken, Released, NotBooked}
use Rattle.run_histories.specs.RunHistories.{Overflows, overflows_after, overflows_of, IsRunHistory}
use Rattle.round_core.specs.WorldRules.{IsPhaseRight, IsWorld}
use Rattle.round_core.specs.Worlds.{WorldView, phase_in, phase_at, phase_before_end, net_in, tries_in, phase_replied, IsStep, with_taken, entry_by, with_entry_by, is_allowed, happens}
use Rattle.round_core.specs.WorldStore.{seen, Keeps}
use Rattle.round_core.specs.declared.steps.Phase.{Phase}
use Rattle.round_core.specs.declared.steps.Phase.TheVariants.{Idle, Holding, Trying, Ended}
use Rattle.round_core.specs.declared.steps.Step.TheVariants.{Take, Release, Claim as Claiming}
use Rattle.round_core.specs.declared.world.World.TheInside.{Inside}
use Rattle.run_histories.proofs.KeptRules.{overflows-push}
use Rattle.round_core.proofs.WorldCalls.{release-by, release-world, claim-runs, claim-world}
use Rattle.round_core.proofs.WorldEnds.{ended-run}
use Rattle.round_core.proofs.WorldTakes.{taken-world}

-- a worker's phase, as it is read
pub phase-read : (w : Inside) (worker : ℕ) (phase : Phase) → w.over ≡ false → worker < length w.phases.items → phase ≡ get_or w.phases.items worker phase →
    phase ≡ phase_at (seen w) worker
phase-read w worker phase runs within is =
    let there = slice_get_read w.phases.items (length w.phases.items) worker phase refl within is in
    sym (ap (λ (b : Bool). if b then Ended else phase_in (slice_get w.phases.items worker)) runs ∙ ap (λ (o : Option Phase). phase_in o) there)

-- once the rounds are over, every worker's phase is Ended
pub over-ended : (w : Inside) (worker : ℕ) → Keeps w → w.over ≡ true → IsRunHistory (seen w).setting (seen w).history
over-ended w worker keeps over =
    ended-run (seen w) worker keeps.world (ap (λ (b : Bool). if b then Ended else phase_in (slice_get w.phases.items worker)) over)

-- the view of fields in which other vectors stand
abbrev view_with : Inside → ℕ → List ℕ → List Phase → WorldView
view_with w workers left phases = record {
  setting = record { design = w.design.now; given = []; formula = w.formula; workers = workers; rounds = w.rounds; watch = w.watch; goal = w.goal };
  history = w.book.history;
  round = w.round;
  over = w.over;
  left = left;
  phases = phases;
  since = w.since.items;
}

-- after a worker took a net
abbrev pub taken_fields : Inside → ℕ → ℕ → Vec ℕ Global → Inside
taken_fields w worker net left = record w { left = left; phases = with_item w.phases worker (Holding net) }

pub taken-view : (w : Inside) (worker net : ℕ) (left : Vec ℕ Global) → left.items ≡ filter (λ (n : ℕ). not (n == net)) w.left.items →
    seen (taken_fields w worker net left) ≡ with_taken (seen w) worker net
taken-view w worker net left is =
    ap (λ (n : ℕ). view_with w n left.items (slice_set w.phases.items worker (Holding net))) (length-set w.phases.items worker (Holding net))
    ∙ ap (λ (nets : List ℕ). view_with w (length w.phases.items) nets (slice_set w.phases.items worker (Holding net))) is

pub taken-keeps : (w : Inside) (worker net : ℕ) (left : Vec ℕ Global) → Keeps w → worker < length w.phases.items → is_allowed (seen w) (Take worker net) ≡ true →
    left.items ≡ filter (λ (n : ℕ). not (n == net)) w.left.items → length left.items ≤ length w.left.items → Keeps (taken_fields w worker net left)
taken-keeps w worker net left keeps within allowed is fewer =
    let long = length-set w.phases.items worker (Holding net) in
    let workers = keeps.workers in
    let most = keeps.left in
    record {
      world = subst IsWorld (sym (taken-view w worker net left is)) (taken-world (seen w) worker net keeps.world within allowed);
      capacity = keeps.capacity;
      overflow = keeps.overflow;
      workers = omega (arith, long, workers);
      since = keeps.since ∙ sym long;
      left = omega (arith, most, fewer);
      round = keeps.round;
      rounds = keeps.rounds;
      nets = keeps.nets;
    }

-- an entry that isn't a mark's leaves the overflow of the last mark
full-unmarked : (demands : Edge → ℕ) (o : Option Edge) → overflow_in (reply_by_full demands o) ≡ None
full-unmarked demands None = refl
full-unmarked demands (Some e) = refl

free-unmarked : (c : CapacityView) (demands : Edge → ℕ) (claim : Claim) (slack : Option ℕ) → overflow_in (reply_to_free c demands claim slack) ≡ None
free-unmarked c demands claim None = refl
free-unmarked c demands claim (Some slack) = full-unmarked demands (first_full c demands claim.net slack claim.tree)

reply-unmarked : (c : CapacityView) (h : List Entry) (call : Call) → is_mark_call call ≡ false → overflow_in (reply_to c h call) ≡ None
reply-unmarked c h (Claims claim) other = by (is_some (booked h claim.net))
  where
    by : (b : Bool) → overflow_in (if b then Taken else reply_to_free c (demand c h) claim claim.slack) ≡ None
    by true = refl
    by false = free-unmarked c (demand c h) claim claim.slack
reply-unmarked c h (Releases net) other = by (is_some (booked h net))
  where
    by : (b : Bool) → overflow_in (if b then Released else NotBooked) ≡ None
    by true = refl
    by false = refl
reply-unmarked c h Marks other = absurd (both_ways true other refl)

-- after a worker's call
abbrev pub called_fields : Inside → BookView → ℕ → Phase → ℕ → Inside
called_fields w book worker phase since = record {
  alloc = w.alloc;
  design = w.design;
  formula = w.formula;
  rounds = w.rounds;
  watch = w.watch;
  goal = w.goal;
  book = book;
  overflow = w.overflow;
  round = w.round;
  over = w.over;
  left = w.left;
  phases = with_item w.phases worker phase;
  since = with_item w.since worker since;
}

-- what a call of a worker adds to the book
pub record IsCalled (w : Inside) (book : BookView) (worker : ℕ) (call : Call) (since : ℕ) : Type 0 where
  pub reply : Reply
  pub book_is : book ≡ with_call w.book (worker + 1) call reply
  pub reply_is : reply ≡ reply_to w.book.capacity w.book.history call
  pub since_is : since ≡ length book.history

abbrev called_view : Inside → ℕ → Phase → ℕ → List Entry → ℕ → WorldView
called_view w worker phase workers history since = record {
  setting = record { design = w.design.now; given = []; formula = w.formula; workers = workers; rounds = w.rounds; watch = w.watch; goal = w.goal };
  history = history;
  round = w.round;
  over = w.over;
  left = w.left.items;
  phases = slice_set w.phases.items worker phase;
  since = slice_set w.since.items worker since;
}

called-history : (w : Inside) (book : BookView) (worker : ℕ) (call : Call) (since : ℕ) → Keeps w → IsCalled w book worker call since →
    book.history ≡ w.book.history ++ entry_by (seen w) (worker + 1) call ∷ []
called-history w book worker call since keeps is =
    ap (λ (b : BookView). b.history) is.book_is
    ∙ ap (λ (reply : Reply). w.book.history ++ entry_of (worker + 1) call reply ∷ []) is.reply_is
    ∙ ap (λ (c : CapacityView). w.book.history ++ entry_of (worker + 1) call (reply_to c w.book.history call) ∷ []) keeps.capacity

called-since : (w : Inside) (book : BookView) (worker : ℕ) (call : Call) (since : ℕ) → Keeps w → IsCalled w book worker call since → since ≡ length w.book.history + 1
called-since w book worker call since keeps is =
    is.since_is ∙ ap (λ (h : List Entry). length h) (called-history w book worker call since keeps is)
    ∙ length_push w.book.history (entry_by (seen w) (worker + 1) call)

pub called-view : (w : Inside) (book : BookView) (worker : ℕ) (call : Call) (phase : Phase) (since : ℕ) → Keeps w → IsCalled w book worker call since →
    seen (called_fields w book worker phase since) ≡ with_entry_by (seen w) worker call phase
called-view w book worker call phase since keeps is =
    ap (λ (n : ℕ). called_view w worker phase n book.history since) (length-set w.phases.items worker phase)
    ∙ ap (λ (h : List Entry). called_view w worker phase (length w.phases.items) h since) (called-history w book worker call since keeps is)
    ∙ ap (λ (n : ℕ). called_view w worker phase (length w.phases.items) (w.book.history ++ entry_by (seen w) (worker + 1) call ∷ []) n)
    (called-since w book worker call since keeps is)

pub called-keeps : (w : Inside) (book : BookView) (worker : ℕ) (call : Call) (phase : Phase) (since : ℕ) → Keeps w → IsCalled w book worker call since → is_mark_call call ≡ false →
    IsWorld (with_entry_by (seen w) worker call phase) → Keeps (called_fields w book worker phase since)
called-keeps w book worker call phase since keeps is other world =
    let long = length-set w.phases.items worker phase in
    let longer = length-set w.since.items worker since in
    let workers = keeps.workers in
    let entry : Entry = entry_by (seen w) (worker + 1) call in
    let same : overflows_of book.history ≡ overflows_of w.book.history =
    ap (λ (h : List Entry). overflows_of h) (called-history w book worker call since keeps is) ∙ overflows-push w.book.history entry
    ∙ ap (λ (o : Option ℕ). overflows_after (overflows_of w.book.history) o) (reply-unmarked (capacity_of w.design.now) w.book.history call other) in
    record {
      world = subst IsWorld (sym (called-view w book worker call phase since keeps is)) world;
      capacity = ap (λ (b : BookView). b.capacity) is.book_is ∙ keeps.capacity;
      overflow = keeps.overflow ∙ ap (λ (o : Overflows). o.last) (sym same);
      workers = omega (arith, long, workers);
      since = longer ∙ keeps.since ∙ sym long;
      left = keeps.left;
      round = keeps.round;
      rounds = keeps.rounds;
      nets = keeps.nets;
    }

-- a release that is allowed
pub record IsReleaseIn (w : Inside) (worker net : ℕ) : Type 0 where
  pub net_is : net ≡ net_in (phase_at (seen w) worker)
  pub below : net < nets_of w.book.capacity

pub release-in : (w : Inside) (worker : ℕ) (phase : Phase) → Keeps w → worker < length w.phases.items → is_allowed (seen w) (Release worker) ≡ true →
    phase ≡ get_or w.phases.items worker phase → IsReleaseIn w worker (net_in phase)
release-in w worker phase keeps within allowed is =
    let by = release-by (seen w) worker keeps.world within allowed in
    let same : net_in phase ≡ net_in (phase_at (seen w) worker) = ap net_in (phase-read w worker phase by.runs within is) in
    record {
      net_is = same;
      below = subst (λ (c : CapacityView). net_in phase < nets_of c) (sym keeps.capacity) (subst (λ (n : ℕ). n < nets_of (capacity_of w.design.now)) (sym same) by.call.in_range);
    }

pub released-view : (w : Inside) (book : BookView) (worker net since : ℕ) → Keeps w → IsReleaseIn w worker net → IsCalled w book worker (Releases net) since →
    seen (called_fields w book worker (Trying net 0 since) since) ≡ happens (seen w) (Release worker)
released-view w book worker net since keeps release is =
    called-view w book worker (Releases net) (Trying net 0 since) since keeps is
    ∙ ap (λ (n : ℕ). with_entry_by (seen w) worker (Releases net) (Trying net 0 n)) (called-since w book worker (Releases net) since keeps is)
    ∙ ap (λ (n : ℕ). with_entry_by (seen w) worker (Releases n) (Trying n 0 (length w.book.history + 1))) release.net_is

pub released-keeps : (w : Inside) (book : BookView) (worker net since : ℕ) → Keeps w → worker < length w.phases.items → is_allowed (seen w) (Release worker) ≡ true →
    IsReleaseIn w worker net → IsCalled w book worker (Releases net) since → Keeps (called_fields w book worker (Trying net 0 since) since)
released-keeps w book worker net since keeps within allowed release is =
    called-keeps w book worker (Releases net) (Trying net 0 since) since keeps is refl
    (subst IsWorld (sym (released-view w book worker net since keeps release is) ∙ called-view w book worker (Releases net) (Trying net 0 since) since keeps is)
    (release-world (seen w) worker keeps.world within allowed))

-- a claim that is allowed
pub claimed-view : (w : Inside) (book : BookView) (worker : ℕ) (claim : Claim) (phase : Phase) (reply : Reply) (since : ℕ) → Keeps w → worker < length w.phases.items →
    is_allowed (seen w) (Claiming worker claim) ≡ true → phase ≡ get_or w.phases.items worker phase → reply ≡ reply_to_claim w.book.capacity w.book.history claim →
    IsCalled w book worker (Claims claim) since →
    seen (called_fields w book worker (phase_replied claim.net (tries_in phase) since reply) since) ≡ happens (seen w) (Claiming worker claim)
claimed-view w book worker claim phase reply since keeps within allowed is reply_is called =
    let runs = claim-runs (seen w) worker claim allowed in
    called-view w book worker (Claims claim) (phase_replied claim.net (tries_in phase) since reply) since keeps called
    ∙ ap (λ (n : ℕ). with_entry_by (seen w) worker (Claims claim) (phase_replied claim.net (tries_in phase) n reply)) (called-since w book worker (Claims claim) since keeps called)
    ∙ ap (λ (p : Phase). with_entry_by (seen w) worker (Claims claim) (phase_replied claim.net (tries_in p) (length w.book.history + 1) reply)) (phase-read w worker phase runs within is)
    ∙ ap (λ (r : Reply). with_entry_by (seen w) worker (Claims claim) (phase_replied claim.net (tries_in (phase_at (seen w) worker)) (length w.book.history + 1) r)) reply_is
    ∙ ap (λ (c : CapacityView). with_entry_by (seen w) worker (Claims claim)
    (phase_replied claim.net (tries_in (phase_at (seen w) worker)) (length w.book.history + 1) (reply_to_claim c w.book.history claim))) keeps.capacity

pub claimed-keeps : (w : Inside) (book : BookView) (worker : ℕ) (claim : Claim) (phase : Phase) (reply : Reply) (since : ℕ) → Keeps w → IsStep (seen w) (Claiming worker claim) →
    is_allowed (seen w) (Claiming worker claim) ≡ true → phase ≡ get_or w.phases.items worker phase → reply ≡ reply_to_claim w.book.capacity w.book.history claim →
    IsCalled w book worker (Claims claim) since → Keeps (called_fields w book worker (phase_replied claim.net (tries_in phase) since reply) since)
claimed-keeps w book worker claim phase reply since keeps step allowed is reply_is called =
    let new : Phase = phase_replied claim.net (tries_in phase) since reply in
    called-keeps w book worker (Claims claim) new since keeps called refl
    (subst IsWorld (sym (claimed-view w book worker claim phase reply since keeps step.0 allowed is reply_is called) ∙ called-view w book worker (Claims claim) new since keeps called)
    (claim-world (seen w) worker claim keeps.world step allowed))

-- whose claim is allowed has tried at most twice
few-tries : (round last : ℕ) (p : Phase) → IsPhaseRight round last p → tries_in p ≤ 2
few-tries round last Idle right = omega arith
few-tries round last (Holding net) right = omega arith
few-tries round last (Trying net tries since) right = right.1
few-tries round last Ended right = absurd right

pub claimed-tries : (w : Inside) (worker : ℕ) (claim : Claim) (phase : Phase) → Keeps w → worker < length w.phases.items → is_allowed (seen w) (Claiming worker claim) ≡ true →
    phase ≡ get_or w.phases.items worker phase → tries_in phase ≤ 2
claimed-tries w worker claim phase keeps within allowed is =
    let runs = claim-runs (seen w) worker claim allowed in
    let few = few-tries _ _ (phase_before_end (seen w) worker) ((keeps.world.running runs).right worker) in
    let at : phase ≡ phase_before_end (seen w) worker =
    phase-read w worker phase runs within is ∙ ap (λ (b : Bool). if b then Ended else phase_before_end (seen w) worker) runs in
    subst (λ (p : Phase). tries_in p ≤ 2) (sym at) few
