-- The places of a caller in a history.
use Rattle.std.proofs.Common.{◌≡◌, ℕ, ◌+◌, ◌<◌, ◌≤◌, ◌==◌, inl, inr, true, false, List, map, length, get_or, Some, slice_get, slice_set, refl, sym, ap, ◌∙◌, arith}
use Rattle.std.specs.List.{filter, range_with_len}
use Rattle.std.proofs.lemmas.Bool.{cases_eq}
use Rattle.std.proofs.lemmas.List.{get_or-set_same, get_or-set_other, length-set}
use Rattle.std.proofs.lemmas.List.FromFn.{fill_by_all, get_or-map-range_with_len, length-map-range_with_len}
use Rattle.std.proofs.lemmas.Bool.Decides.{nat_tests}
use Rattle.book_state.specs.declared.entry.Entry.{Entry}
use Rattle.grid_demand.proofs.RangeFilters.{filter-passes, filter-fails}
use Rattle.run_histories.specs.Hands.{is_by, with_place}
use Rattle.run_histories.specs.declared.hands.HandLog.{HandLog}

-- the entry at a place is the caller's, or another's
pub by-it : (h : List Entry) (number place : ℕ) (e : Entry) → slice_get h place ≡ Some e → e.number ≡ number → is_by number (slice_get h place) ≡ true
by-it h number place e there is =
    let same : (e.number == number) ≡ true = grind (arith, nat_tests) in
    ap (is_by number) there ∙ same

pub by-other : (h : List Entry) (number place : ℕ) (e : Entry) → slice_get h place ≡ Some e → (e.number ≡ number → ⊥) → is_by number (slice_get h place) ≡ false
by-other h number place e there other_than =
    let other : (e.number == number) ≡ false = grind (arith, nat_tests) in
    ap (is_by number) there ∙ other

-- the places of a caller among the first ones of a history
abbrev pub log_upto : List Entry → (place number : ℕ) → HandLog
log_upto h place number = record { number = number; places = filter (λ p. is_by number (slice_get h p)) (range_with_len 0 place) }

-- one place more: its caller's log gains it, and the others' don't
pub log-gains : (h : List Entry) (number place : ℕ) (e : Entry) → slice_get h place ≡ Some e → e.number ≡ number →
    with_place (log_upto h place number) place ≡ log_upto h (place + 1) number
log-gains h number place e there is =
    ap (λ (places : List ℕ). record { number = number; places = places })
    (filter-passes (λ p. is_by number (slice_get h p)) place _ _ refl (by-it h number place e there is) refl)

pub log-keeps : (h : List Entry) (number place : ℕ) (e : Entry) → slice_get h place ≡ Some e → (e.number ≡ number → ⊥) →
    log_upto h place number ≡ log_upto h (place + 1) number
log-keeps h number place e there other =
    ap (λ (places : List ℕ). record { number = number; places = places })
    (filter-fails (λ p. is_by number (slice_get h p)) place _ refl (by-other h number place e there other))

pub length-logs : (h : List Entry) (callers place : ℕ) (logs : List HandLog) → logs ≡ map (log_upto h place) (range_with_len 0 callers) → length logs ≡ callers
length-logs h callers place logs are = ap (λ (xs : List HandLog). length xs) are ∙ length-map-range_with_len (log_upto h place) 0 callers

-- all logs after one place more, of a caller among them and of another
pub logs-gain : (h : List Entry) (callers place : ℕ) (e : Entry) (old log : HandLog) (logs : List HandLog) → slice_get h place ≡ Some e → e.number < callers →
    logs ≡ map (log_upto h place) (range_with_len 0 callers) → old ≡ get_or logs e.number old → log ≡ with_place old place →
    slice_set logs e.number log ≡ map (log_upto h (place + 1)) (range_with_len 0 callers)
logs-gain h callers place e old log logs there below are read is =
    let long = length-logs h callers place logs are in
    let at : (k : ℕ) (default : HandLog) → k < callers → get_or logs k default ≡ log_upto h place k = λ k default inside.
    ap (λ (xs : List HandLog). get_or xs k default) are ∙ get_or-map-range_with_len (log_upto h place) 0 callers k k default inside (omega arith) in
    let gained = is ∙ ap (λ (l : HandLog). with_place l place) (read ∙ at e.number old below) ∙ log-gains h e.number place e there refl in
    fill_by_all (log_upto h (place + 1)) (slice_set logs e.number log) callers log (length-set logs e.number log ∙ long)
    (λ k inside. elim (cases_eq k e.number) [
      | inl same ↦
          ap (λ (n : ℕ). get_or (slice_set logs e.number log) n log) same ∙ get_or-set_same logs e.number log log (omega (arith, long, below))
          ∙ gained ∙ ap (log_upto h (place + 1)) (sym same)
      | inr apart ↦ get_or-set_other logs e.number k log log apart ∙ at k log inside ∙ log-keeps h k place e there (λ is. apart (sym is))
    ])

pub logs-keep : (h : List Entry) (callers place : ℕ) (e : Entry) (logs : List HandLog) → slice_get h place ≡ Some e → callers ≤ e.number →
    logs ≡ map (log_upto h place) (range_with_len 0 callers) → logs ≡ map (log_upto h (place + 1)) (range_with_len 0 callers)
logs-keep h callers place e logs there past are =
    let long = length-logs h callers place logs are in
    fill_by_all (log_upto h (place + 1)) logs callers (log_upto h place 0) long
    (λ k inside.
    ap (λ (xs : List HandLog). get_or xs k (log_upto h place 0)) are ∙ get_or-map-range_with_len (log_upto h place) 0 callers k k (log_upto h place 0) inside (omega arith)
    ∙ log-keeps h k place e there (λ is. let apart : k < e.number = omega (arith, past, inside) in omega (arith, is, apart)))
