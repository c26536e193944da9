-- Numbers that two lists make together.
use Rattle.std.proofs.Common.{◌≡◌, ℕ, ◌+◌, ◌*◌, ◌/◌, ◌%◌, ◌<◌, ◌≤◌, inl, inr, List, [], ◌∷◌, length, replicate, slice_index, slice_set, sym, ap, ◌∙◌, arith}
use Rattle.std.proofs.lemmas.Bool.{cases_eq}
use Rattle.std.proofs.lemmas.Grind.{same_number_lists}
use Rattle.std.proofs.lemmas.List.{length-replicate, get_or-replicate, length-set, get_or-set_same, get_or-set_other}
use Rattle.std.proofs.lemmas.List.FromFn.{length-map-range_with_len, get_or-map-range_with_len}
use Rattle.grid_demand.specs.JoinedLists.{together}

pub length-together : (unit : ℕ) (low high : List ℕ) → length (together unit low high) ≡ length low
length-together unit low high = length-map-range_with_len (λ (place : ℕ). slice_index low place + unit * slice_index high place) 0 (length low)

pub together-at : (unit : ℕ) (low high : List ℕ) (n : ℕ) → n < length low → slice_index (together unit low high) n ≡ slice_index low n + unit * slice_index high n
together-at unit low high n below =
    get_or-map-range_with_len (λ (place : ℕ). slice_index low place + unit * slice_index high place) 0 (length low) n n 0 below (omega arith)

-- zeros and nothing make zeros
pub together-none : (unit : ℕ) (low high : List ℕ) (wires : ℕ) → low ≡ replicate wires 0 → high ≡ [] → together unit low high ≡ replicate wires 0
together-none unit low high wires zeros none =
    let long : length low ≡ wires = ap length zeros ∙ length-replicate wires 0 in
    same_number_lists (together unit low high) (replicate wires 0) (length-together unit low high ∙ ap length zeros)
    (λ n below.
    let inside : n < length low = let h = length-together unit low high in omega (arith, below, h) in
    let zero : slice_index low n ≡ 0 = ap (λ (xs : List ℕ). slice_index xs n) zeros ∙ get_or-replicate wires n 0 0 (omega (arith, inside, long)) in
    let nothing : slice_index high n ≡ 0 = ap (λ (xs : List ℕ). slice_index xs n) none in
    let blank : 0 + unit * 0 ≡ 0 = omega arith in
    together-at unit low high n inside ∙ ap (λ (k : ℕ). k + unit * slice_index high n) zero ∙ ap (λ (k : ℕ). 0 + unit * k) nothing ∙ blank
    ∙ sym (get_or-replicate wires n 0 0 (omega (arith, inside, long))))

-- a number that is put at a place
pub together-set : (unit : ℕ) (low high after : List ℕ) (p rest m : ℕ) → p < length low → rest + unit * slice_index after p ≡ m →
    ((n : ℕ) → (n ≡ p → ⊥) → slice_index after n ≡ slice_index high n) →
    together unit (slice_set low p rest) after ≡ slice_set (together unit low high) p m
together-set unit low high after p rest m inside there others =
    let new : List ℕ = slice_set low p rest in
    let long : length new ≡ length low = length-set low p rest in
    let left : length (together unit new after) ≡ length low = length-together unit new after ∙ long in
    let right : length (slice_set (together unit low high) p m) ≡ length low = length-set (together unit low high) p m ∙ length-together unit low high in
    same_number_lists (together unit new after) (slice_set (together unit low high) p m) (left ∙ sym right)
    (λ n below.
    let within : n < length low = omega (arith, below, left) in
    let made = together-at unit new after n (omega (arith, within, long)) in
    elim (cases_eq n p) [
      | inl same ↦
          let put : slice_index new n ≡ rest = ap (λ (k : ℕ). slice_index new k) same ∙ get_or-set_same low p rest 0 inside in
          made ∙ ap (λ (k : ℕ). k + unit * slice_index after n) put ∙ ap (λ (k : ℕ). rest + unit * slice_index after k) same ∙ there
          ∙ sym (ap (λ (k : ℕ). slice_index (slice_set (together unit low high) p m) k) same
          ∙ get_or-set_same (together unit low high) p m 0 (let h = length-together unit low high in omega (arith, h, inside)))
      | inr other ↦
          let kept : slice_index new n ≡ slice_index low n = get_or-set_other low p n rest 0 other in
          let more : slice_index after n ≡ slice_index high n = others n other in
          made ∙ ap (λ (k : ℕ). k + unit * slice_index after n) kept ∙ ap (λ (k : ℕ). slice_index low n + unit * k) more
          ∙ sym (get_or-set_other (together unit low high) p n m 0 other ∙ together-at unit low high n within)
    ])

-- a place of the lists
pub within-low : (unit : ℕ) (low high now : List ℕ) (p : ℕ) → together unit low high ≡ now → p < length now → p < length low
within-low unit low high now p is inside = let long = length-together unit low high in let same = ap length is in omega (arith, long, same, inside)

-- what is read at a place
pub together-read : (unit : ℕ) (low high now : List ℕ) (p : ℕ) → together unit low high ≡ now → p < length now → slice_index low p + unit * slice_index high p ≡ slice_index now p
together-read unit low high now p is inside = sym (together-at unit low high p (within-low unit low high now p is inside)) ∙ ap (λ (xs : List ℕ). slice_index xs p) is

-- a number that is put at a place
pub together-put : (low high after now : List ℕ) (p number : ℕ) → together 65536 low high ≡ now → p < length now →
    slice_index after p ≡ number / 65536 → ((n : ℕ) → (n ≡ p → ⊥) → slice_index after n ≡ slice_index high n) →
    together 65536 (slice_set low p (number % 65536)) after ≡ slice_set now p number
together-put low high after now p number is inside there others =
    together-set 65536 low high after p (number % 65536) number (within-low 65536 low high now p is inside) (omega (arith, there)) others
    ∙ ap (λ (xs : List ℕ). slice_set xs p number) is

-- below 65,536 an empty second list has nothing of a number
pub nothing-high : (high : List ℕ) (p number : ℕ) → length high ≡ 0 → number < 65536 → slice_index high p ≡ number / 65536
nothing-high [] p number empty few = omega (arith, few)
nothing-high (times ∷ high) p number empty few = absurd (omega (arith, empty))

-- where there is nothing in the second list, a number is what the first has
pub low-within : (low high now : List ℕ) (bound n : ℕ) → together 65536 low high ≡ now → length high ≡ 0 → n < length now →
    slice_index low n ≤ bound → slice_index now n ≤ bound
low-within low high now bound n is empty inside within =
    let sum = together-read 65536 low high now n is inside in
    let none = nothing-high high n 0 empty (omega arith) in
    omega (arith, sum, none, within)

pub low-is : (low high now : List ℕ) → together 65536 low high ≡ now → length high ≡ 0 → low ≡ now
low-is low high now is empty =
    same_number_lists low now (sym (length-together 65536 low high) ∙ ap length is)
    (λ n below.
    let inside : n < length now = let h = length-together 65536 low high in let same = ap length is in omega (arith, h, same, below) in
    let sum = together-read 65536 low high now n is inside in
    let none = nothing-high high n 0 empty (omega arith) in
    omega (arith, sum, none))
