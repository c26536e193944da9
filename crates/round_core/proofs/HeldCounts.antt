-- How many workers hold a net as phases change, and how often a net is left as nets are taken.
use Rattle.std.proofs.Common.{◌≡◌, ℕ, suc, zero, ◌+◌, ◌<◌, inl, inr, Bool, true, false, cond, not, ◌==◌, List, [], ◌∷◌, filter, length, get_or, None, slice_get, slice_set, refl, sym, ap, ◌∙◌, arith}
use Rattle.std.specs.List.{count_by, list_any}
use Rattle.std.proofs.lemmas.Bool.{cases_Bool, both_ways}
use Rattle.std.proofs.lemmas.Bool.Decides.{nat_tests}
use Rattle.std.proofs.lemmas.List.Sums.{sum_by-cons, sum_by-set, get_or-le-sum_by}
use Rattle.std.proofs.lemmas.Option.{none-some, slice_get-get_or}
use Rattle.gr_base.proofs.General.{filter-yes, filter-no}
use Rattle.round_core.specs.WorldRules.{is_holding_net}
use Rattle.round_core.specs.Worlds.{phase_in, is_idle, first_busy}
use Rattle.round_core.specs.declared.steps.Phase.{Phase}
use Rattle.round_core.specs.declared.steps.Phase.TheVariants.{Idle, Holding, Trying, Ended}

abbrev held_once : ℕ → Phase → ℕ
held_once net phase = cond (is_holding_net net phase) 1 0

phase-there : (phases : List Phase) (worker : ℕ) (phase : Phase) → worker < length phases → phase_in (slice_get phases worker) ≡ phase → get_or phases worker Idle ≡ phase
phase-there phases worker phase within is = ap phase_in (sym (slice_get-get_or phases worker Idle within)) ∙ is

-- one worker's phase changes
pub held-change : (phases : List Phase) (worker net : ℕ) (old new : Phase) → worker < length phases → phase_in (slice_get phases worker) ≡ old →
    held_once net old + count_by (is_holding_net net) (slice_set phases worker new) ≡ count_by (is_holding_net net) phases + held_once net new
held-change phases worker net old new within is =
    let set = sum_by-set (held_once net) phases worker new Idle within in
    let there : held_once net (get_or phases worker Idle) ≡ held_once net old = ap (held_once net) (phase-there phases worker old within is) in
    omega (arith, set, there)

-- a worker's net is held
pub held-some : (phases : List Phase) (worker net : ℕ) → worker < length phases → phase_in (slice_get phases worker) ≡ Holding net → 0 < count_by (is_holding_net net) phases
held-some phases worker net within is =
    let part = get_or-le-sum_by (held_once net) phases worker Idle within in
    let itself : (net == net) ≡ true = grind (arith, nat_tests) in
    let one : held_once net (get_or phases worker Idle) ≡ 1 =
    ap (held_once net) (phase-there phases worker (Holding net) within is) ∙ ap (λ (b : Bool). cond {A = ℕ} b 1 0) itself in
    omega (arith, part, one)

-- where no worker is busy each is idle, and none holds a net
idle-is : (phase : Phase) → is_idle phase ≡ true → phase ≡ Idle
idle-is Idle is = refl
idle-is (Holding net) is = absurd (both_ways false refl is)
idle-is (Trying net tries since) is = absurd (both_ways false refl is)
idle-is Ended is = absurd (both_ways false refl is)

first-idle : (phase : Phase) (phases : List Phase) → first_busy (phase ∷ phases) ≡ None → (phase ≡ Idle) × (first_busy phases ≡ None)
first-idle Idle phases none = (refl, none)
first-idle (Holding net) phases none = absurd (none-some (Holding net) (sym none))
first-idle (Trying net tries since) phases none = absurd (none-some (Trying net tries since) (sym none))
first-idle Ended phases none = absurd (none-some Ended (sym none))

pub all-idle : (phases : List Phase) → first_busy phases ≡ None → (worker : ℕ) → phase_in (slice_get phases worker) ≡ Idle
all-idle [] none worker = refl
all-idle (phase ∷ phases) none zero = (first-idle phase phases none).0
all-idle (phase ∷ phases) none (suc worker) = all-idle phases (first-idle phase phases none).1 worker

pub none-held : (phases : List Phase) → first_busy phases ≡ None → (net : ℕ) → count_by (is_holding_net net) phases ≡ 0
none-held [] none net = refl
none-held (phase ∷ phases) none net =
    let first = first-idle phase phases none in
    sum_by-cons (held_once net) phase phases ∙ ap (λ (p : Phase). held_once net p + count_by (is_holding_net net) phases) first.0
    ∙ ap (λ (n : ℕ). 0 + n) (none-held phases first.1 net)

-- a net that is left is in the list, and isn't once it is taken
abbrev left_once : ℕ → ℕ → ℕ
left_once net left = cond (left == net) 1 0

pub left-some : (nets : List ℕ) (net : ℕ) → list_any (λ (left : ℕ). left == net) nets ≡ true → 0 < count_by (λ (left : ℕ). left == net) nets
left-some [] net is = absurd (both_ways false refl is)
left-some (n ∷ nets) net is = elim (cases_Bool (n == net)) [
  | inl here ↦
      let more = sum_by-cons (left_once net) n nets in
      let one : left_once net n ≡ 1 = ap (λ (b : Bool). cond {A = ℕ} b 1 0) here in
      omega (arith, more, one)
  | inr other ↦
      let more = sum_by-cons (left_once net) n nets in
      let rest = left-some nets net (rw other at is) in
      omega (arith, more, rest)
]

pub taken-none : (nets : List ℕ) (net : ℕ) → count_by (λ (left : ℕ). left == net) (filter (λ (left : ℕ). not (left == net)) nets) ≡ 0
taken-none [] net = refl
taken-none (n ∷ nets) net = elim (cases_Bool (n == net)) [
  | inl here ↦
      ap (λ (ns : List ℕ). count_by (λ (left : ℕ). left == net) ns) (filter-no (λ (left : ℕ). not (left == net)) n nets (ap not here))
      ∙ taken-none nets net
  | inr other ↦
      ap (λ (ns : List ℕ). count_by (λ (left : ℕ). left == net) ns) (filter-yes (λ (left : ℕ). not (left == net)) n nets (ap not other))
      ∙ sum_by-cons (left_once net) n (filter (λ (left : ℕ). not (left == net)) nets)
      ∙ ap (λ (b : Bool). cond {A = ℕ} b 1 0 + count_by (λ (left : ℕ). left == net) (filter (λ (left : ℕ). not (left == net)) nets)) other
      ∙ ap (λ (k : ℕ). 0 + k) (taken-none nets net)
]

pub taken-other : (nets : List ℕ) (net other : ℕ) → (other ≡ net → ⊥) →
    count_by (λ (left : ℕ). left == other) (filter (λ (left : ℕ). not (left == net)) nets) ≡ count_by (λ (left : ℕ). left == other) nets
taken-other [] net other apart = refl
taken-other (n ∷ nets) net other apart =
    let rest = taken-other nets net other apart in
    let all = sum_by-cons (left_once other) n nets in
    elim (cases_Bool (n == net)) [
      | inl here ↦
          let away : (n == other) ≡ false = grind (arith, nat_tests) in
          let none : left_once other n ≡ 0 = ap (λ (b : Bool). cond {A = ℕ} b 1 0) away in
          ap (λ (ns : List ℕ). count_by (λ (left : ℕ). left == other) ns) (filter-no (λ (left : ℕ). not (left == net)) n nets (ap not here)) ∙ omega (arith, rest, all, none)
      | inr away ↦
          ap (λ (ns : List ℕ). count_by (λ (left : ℕ). left == other) ns) (filter-yes (λ (left : ℕ). not (left == net)) n nets (ap not away))
          ∙ sum_by-cons (left_once other) n (filter (λ (left : ℕ). not (left == net)) nets) ∙ omega (arith, rest, all)
    ]
