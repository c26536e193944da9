-- The pure machine of the rounds: which steps it allows, and what they do.
use Rattle.std.specs.Prelude.{◌≡◌, ℕ, ◌+◌, ◌<◌, Bool, true, false, not, ◌&&◌, ◌==◌, nat_lt, nat_le, List, [], ◌∷◌, ◌++◌, length, take, replicate, slice_get, slice_set, Option, Some, None, is_none, if◌then◌else◌}
use Rattle.std.specs.List.{filter, find, list_any}
use Rattle.cost_rules.specs.declared.sight.Going.{Going}
use Rattle.cost_rules.specs.declared.sight.Going.TheVariants.{On, Stop}
use Rattle.grid_demand.specs.Tables.{capacity_of}
use Rattle.book_state.specs.Books.{nets_of, reply_to, reply_to_claim, victims, IsClaim}
use Rattle.book_state.specs.Views.{entry_of}
use Rattle.book_state.specs.declared.entry.Call.{Call}
use Rattle.book_state.specs.declared.entry.Call.TheVariants.{Claim as Claims, Release as Releases, Mark as Marks}
use Rattle.book_state.specs.declared.entry.Claim.{Claim as ClaimOf}
use Rattle.book_state.specs.declared.entry.Entry.{Entry}
use Rattle.book_state.specs.declared.entry.Reply.{Reply}
use Rattle.book_state.specs.declared.entry.Reply.TheVariants.{Full}
use Rattle.run_histories.specs.Attempts.{kind_of, is_claim_for}
use Rattle.run_histories.specs.Rounds.{marker}
use Rattle.run_histories.specs.RunHistories.{Setting, IsPlanOver, says, routed_nets}
use Rattle.round_core.specs.declared.steps.Phase.{Phase}
use Rattle.round_core.specs.declared.steps.Phase.TheVariants.{Idle, Holding, Trying, Ended}
use Rattle.round_core.specs.declared.steps.Step.{Step}
use Rattle.round_core.specs.declared.steps.StepRefused.{StepRefused}
use Rattle.round_core.specs.declared.steps.StepRefused.TheVariants.{NotAllowed, NoMemory}
use Rattle.round_core.specs.declared.steps.Step.TheVariants.{Take, Release, Claim, Mark}

-- a state: what is asked for, the history, the round, whether the rounds are over, which nets are left, and for each
-- worker its phase before the end and the length of the history just after its last entry
pub record WorldView : Type 0 where
  pub setting : Setting
  pub history : List Entry
  pub round : ℕ
  pub over : Bool
  pub left : List ℕ
  pub phases : List Phase
  pub since : List ℕ

-- whether a net is left
abbrev pub is_left : WorldView → ℕ → Bool
is_left v net = list_any (λ (left : ℕ). left == net) v.left

-- where a worker stands before the end, and behind which place its last entry lies
abbrev pub phase_in : Option Phase → Phase
phase_in None = Idle
phase_in (Some phase) = phase

abbrev pub phase_before_end : WorldView → ℕ → Phase
phase_before_end v worker = phase_in (slice_get v.phases worker)

abbrev pub since_in : Option ℕ → ℕ
since_in None = 0
since_in (Some since) = since

abbrev pub since_of : WorldView → ℕ → ℕ
since_of v worker = since_in (slice_get v.since worker)

-- where a worker stands
abbrev pub phase_at : WorldView → ℕ → Phase
phase_at v worker = if v.over then Ended else phase_before_end v worker

abbrev pub is_idle : Phase → Bool
is_idle Idle = true
is_idle _ = false

-- the phase of the first worker that isn't idle
abbrev pub first_busy : List Phase → Option Phase
first_busy phases = find (λ (phase : Phase). not (is_idle phase)) phases

abbrev pub is_holding : Phase → Bool
is_holding (Holding net) = true
is_holding _ = false

-- the slack of a claim after so many tries: two ask for room within capacity
abbrev pub slack_after : ℕ → Option ℕ
slack_after tries = if nat_lt tries 2 then Some 0 else None

-- in round 0 a worker may claim the net that it holds, and later the net that it tries
abbrev pub allows_claim : ℕ → Phase → ClaimOf → Bool
allows_claim round (Holding net) claim = (round == 0) && is_claim_for net (kind_of 0) None claim
allows_claim round (Trying net tries since) claim = is_claim_for net (kind_of round) (slack_after tries) claim
allows_claim round _ claim = false

-- the steps that are allowed
abbrev pub is_allowed : WorldView → Step → Bool
is_allowed v (Take worker net) = is_idle (phase_at v worker) && is_left v net
is_allowed v (Release worker) = nat_lt 0 v.round && is_holding (phase_at v worker)
is_allowed v (Claim worker claim) = nat_le (since_of v worker) claim.front && allows_claim v.round (phase_at v worker) claim
is_allowed v Mark = not v.over && (is_none (first_busy v.phases) && (length v.left == 0))

-- the phase that a refusal of a step names
abbrev pub refused_phase : WorldView → Step → Phase
refused_phase v (Take worker net) = phase_at v worker
refused_phase v (Release worker) = phase_at v worker
refused_phase v (Claim worker claim) = phase_at v worker
refused_phase v Mark = if v.over then Ended else phase_in (first_busy v.phases)

-- a net that a worker holds or tries, and how often it tried
abbrev pub net_in : Phase → ℕ
net_in (Holding net) = net
net_in (Trying net tries since) = net
net_in _ = 0

abbrev pub tries_in : Phase → ℕ
tries_in (Trying net tries since) = tries
tries_in _ = 0

-- after a claim that is answered Full a worker tries on; else it is idle
abbrev pub phase_replied : ℕ → ℕ → ℕ → Reply → Phase
phase_replied net tries since (Full edge demand) = Trying net (tries + 1) since
phase_replied net tries since _ = Idle

-- a worker takes a net
abbrev pub with_taken : WorldView → ℕ → ℕ → WorldView
with_taken v worker net = record {
  setting = v.setting;
  history = v.history;
  round = v.round;
  over = v.over;
  left = filter (λ (left : ℕ). not (left == net)) v.left;
  phases = slice_set v.phases worker (Holding net);
  since = v.since;
}

-- a worker's call adds its entry, and leaves the worker in a phase
abbrev pub entry_by : WorldView → ℕ → Call → Entry
entry_by v number call = entry_of number call (reply_to (capacity_of v.setting.design) v.history call)

abbrev pub with_entry_by : WorldView → ℕ → Call → Phase → WorldView
with_entry_by v worker call phase = record {
  setting = v.setting;
  history = v.history ++ entry_by v (worker + 1) call ∷ [];
  round = v.round;
  over = v.over;
  left = v.left;
  phases = slice_set v.phases worker phase;
  since = slice_set v.since worker (length v.history + 1);
}

-- another round follows a history: one more is asked for, there are victims, and the watch says On
abbrev pub is_on : Going → Bool
is_on On = true
is_on Stop = false

abbrev pub goes_on_by : ℕ → ℕ → List ℕ → Going → Bool
goes_on_by round rounds victims going = nat_lt round rounds && (nat_lt 0 (length victims) && is_on going)

abbrev pub goes_on : Setting → ℕ → List Entry → Bool
goes_on t round h = goes_on_by round t.rounds (victims (capacity_of t.design) h) (says t h)

-- a mark ends the round, and begins the next or ends the rounds
abbrev pub marked : WorldView → List Entry
marked v = v.history ++ entry_by v marker Marks ∷ []

abbrev pub with_mark : WorldView → Bool → WorldView
with_mark v on = record {
  setting = v.setting;
  history = marked v;
  round = if on then v.round + 1 else v.round;
  over = not on;
  left = if on then victims (capacity_of v.setting.design) (marked v) else v.left;
  phases = v.phases;
  since = v.since;
}

-- what a step that is allowed does
abbrev pub happens : WorldView → Step → WorldView
happens v (Take worker net) = with_taken v worker net
happens v (Release worker) =
    with_entry_by v worker (Releases (net_in (phase_at v worker))) (Trying (net_in (phase_at v worker)) 0 (length v.history + 1))
happens v (Claim worker claim) =
    with_entry_by v worker (Claims claim)
    (phase_replied claim.net (tries_in (phase_at v worker)) (length v.history + 1)
    (reply_to_claim (capacity_of v.setting.design) v.history claim))
happens v Mark = with_mark v (goes_on v.setting v.round (marked v))

-- a step of one of the workers, at a net of the design; a claim is in range, and its tree is planned from the entries
-- before its front
abbrev pub IsStep : WorldView → Step → Type 0
IsStep v (Take worker net) = (worker < v.setting.workers) × (net < nets_of (capacity_of v.setting.design))
IsStep v (Release worker) = worker < v.setting.workers
IsStep v (Claim worker claim) =
    (worker < v.setting.workers) × IsClaim (capacity_of v.setting.design) (length v.history) claim ×
    IsPlanOver v.setting (take claim.front v.history) claim
IsStep v Mark = Unit {0}

-- the state at first: each routed net is left, and each worker is idle
abbrev pub at_first : Setting → WorldView
at_first t = record {
  setting = t;
  history = [];
  round = 0;
  over = false;
  left = routed_nets t.design;
  phases = replicate t.workers Idle;
  since = replicate t.workers 0;
}

-- a refusal gives the step back: the rules don't allow it, and the phase is named, or they do, and memory is wanting
abbrev pub IsRefusal : WorldView → Step → StepRefused → Type 0
IsRefusal v step (NotAllowed phase back) = (is_allowed v step ≡ false) × (phase ≡ refused_phase v step) × (back ≡ step)
IsRefusal v step (NoMemory back) = (is_allowed v step ≡ true) × (back ≡ step)
