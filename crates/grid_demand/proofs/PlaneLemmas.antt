-- Tables of wire edges in planes, and what they have by number.
use Rattle.std.proofs.Common.{◌≡◌, ℕ, suc, zero, ◌+◌, ◌-◌, ◌*◌, ◌/◌, ◌%◌, ◌==◌, ◌<◌, ◌⊎◌, inl, inr, max, true, false, List, [], ◌∷◌, map, zip, fold, sum_by, length, replicate, slice_index, slice_index_or, slice_set, refl, sym, ap, subst, ◌∙◌, arith}
use Rattle.std.proofs.lemmas.Bool.{cases_Bool, cases_eq}
use Rattle.std.proofs.lemmas.Bool.Decides.{nat_tests}
use Rattle.std.proofs.lemmas.Grind.{same_number_lists}
use Rattle.std.proofs.lemmas.List.{length-replicate, get_or-replicate, length-set, get_or-set_same, get_or-set_other}
use Rattle.std.proofs.lemmas.List.FromFn.{length-map-range_with_len, get_or-map-range_with_len, map-range_with_len_more, sum_by-map-range_with_len_more}
use Rattle.std.proofs.lemmas.List.Sums.{sum_by-cons, fold_push}
use Rattle.std.specs.List.{range_with_len}
use Rattle.grid_demand.proofs.WireLemmas.{halves}
use Rattle.grid_demand.specs.Planes.{place_of, by_number}

-- the places of a cell's East edge and of its North edge
pub place-east : (cells cell : ℕ) → place_of (2 * cells) (2 * cell) ≡ cell
place-east cells cell =
    let half : 2 * cell / 2 ≡ cell = omega arith in
    let even : (2 * cell % 2 == 0) ≡ true = grind (arith, nat_tests) in
    rw (half, even) (omega arith)

pub place-north : (cells cell : ℕ) → place_of (2 * cells) (2 * cell + 1) ≡ cells + cell
place-north cells cell =
    let half : (2 * cell + 1) / 2 ≡ cell = omega arith in
    let odd : ((2 * cell + 1) % 2 == 0) ≡ false = grind (arith, nat_tests) in
    let first : 2 * cells / 2 ≡ cells = omega arith in
    rw (half, odd, first) refl

-- what is known of the place of a number
pub record IsPlace (cells number place : ℕ) : Type 0 where
  pub low : ℕ
  pub either : ((number ≡ 2 * low) × (place ≡ low)) ⊎ ((number ≡ 2 * low + 1) × (place ≡ cells + low))

pub placed : (cells number : ℕ) → IsPlace cells number (place_of (2 * cells) number)
placed cells number =
    elim (halves number) [
      | inl even ↦ record { low = number / 2; either = inl (even, ap (place_of (2 * cells)) even ∙ place-east cells (number / 2)) }
      | inr odd ↦ record { low = number / 2; either = inr (odd, ap (place_of (2 * cells)) odd ∙ place-north cells (number / 2)) }
    ]

-- a place is in the table
pub place-below : (wires number : ℕ) → number < wires → place_of wires number < wires
place-below wires number below =
    elim (cases_Bool (number % 2 == 0)) [
      | inl even ↦ rw even (omega arith)
      | inr odd ↦ let one : (number % 2 ≡ 0) → ⊥ = grind (arith, nat_tests) in rw odd (omega (arith, one))
    ]

-- two numbers have two places
pub place-apart : (cells m n : ℕ) → m < 2 * cells → n < 2 * cells → place_of (2 * cells) m ≡ place_of (2 * cells) n → m ≡ n
place-apart cells m n m_below n_below same =
    let a = placed cells m in
    let b = placed cells n in
    elim a.either [
      | inl east ↦ elim b.either [
        | inl also ↦ let e = east.0 in let f = east.1 in let g = also.0 in let h = also.1 in omega (arith, e, f, g, h, same)
        | inr north ↦ let e = east.0 in let f = east.1 in let g = north.0 in let h = north.1 in omega (arith, e, f, g, h, same, m_below, n_below)
      ]
      | inr north ↦ elim b.either [
        | inl east ↦ let e = east.0 in let f = east.1 in let g = north.0 in let h = north.1 in omega (arith, e, f, g, h, same, m_below, n_below)
        | inr also ↦ let e = north.0 in let f = north.1 in let g = also.0 in let h = also.1 in omega (arith, e, f, g, h, same)
      ]
    ]

-- what a table has by number
pub length-by_number : {X : Type 0} (blank : X) (xs : List X) → length (by_number blank xs) ≡ length xs
length-by_number blank xs = length-map-range_with_len (λ (number : ℕ). slice_index_or xs (place_of (length xs) number) blank) 0 (length xs)

pub by_number-at : {X : Type 0} (blank : X) (xs : List X) (n : ℕ) → n < length xs →
    slice_index_or (by_number blank xs) n blank ≡ slice_index_or xs (place_of (length xs) n) blank
by_number-at blank xs n below =
    get_or-map-range_with_len (λ (number : ℕ). slice_index_or xs (place_of (length xs) number) blank) 0 (length xs) n n blank below (omega arith)

-- a table of zeros
pub by_number-zeros : (n : ℕ) → by_number {X = ℕ} 0 (replicate n 0) ≡ replicate n 0
by_number-zeros n =
    let zeros : List ℕ = replicate n 0 in
    let long : length zeros ≡ n = length-replicate n 0 in
    same_number_lists (by_number 0 zeros) zeros (length-by_number 0 zeros)
    (λ k below.
    let inside : k < length zeros = let h = length-by_number 0 zeros in omega (arith, below, h) in
    by_number-at 0 zeros k inside
    ∙ get_or-replicate n (place_of (length zeros) k) 0 0 (let place = place-below (length zeros) k inside in omega (arith, place, long))
    ∙ sym (get_or-replicate n k 0 0 (omega (arith, inside, long))))

-- a table after a write
pub by_number-set : (xs : List ℕ) (cells n v : ℕ) → length xs ≡ 2 * cells → n < length xs →
    by_number 0 (slice_set xs (place_of (length xs) n) v) ≡ slice_set (by_number 0 xs) n v
by_number-set xs cells n v long below =
    let p = place_of (length xs) n in
    let ys : List ℕ = slice_set xs p v in
    let same_length : length ys ≡ length xs = length-set xs p v in
    let left = length-by_number 0 ys ∙ same_length in
    let right : length (slice_set (by_number 0 xs) n v) ≡ length xs = length-set (by_number 0 xs) n v ∙ length-by_number 0 xs in
    same_number_lists (by_number 0 ys) (slice_set (by_number 0 xs) n v) (left ∙ sym right)
    (λ m within.
    let inside : m < length xs = omega (arith, left, within) in
    let there : slice_index (by_number 0 ys) m ≡ slice_index ys (place_of (length xs) m) =
    by_number-at 0 ys m (omega (arith, inside, same_length)) ∙ ap (λ (w : ℕ). slice_index ys (place_of w m)) same_length in
    elim (cases_eq m n) [
      | inl same ↦
          there ∙ ap (λ (k : ℕ). slice_index ys (place_of (length xs) k)) same
          ∙ get_or-set_same xs p v 0 (place-below (length xs) n below)
          ∙ sym (ap (λ (k : ℕ). slice_index (slice_set (by_number 0 xs) n v) k) same
          ∙ get_or-set_same (by_number 0 xs) n v 0 (let h = length-by_number 0 xs in omega (arith, h, below)))
      | inr other ↦
          let apart : place_of (length xs) m ≡ p → ⊥ = λ one.
          other (place-apart cells m n (omega (arith, inside, long)) (omega (arith, below, long))
          (subst (λ (w : ℕ). place_of w m ≡ place_of w n) long one)) in
          there ∙ get_or-set_other xs p (place_of (length xs) m) v 0 apart
          ∙ sym (get_or-set_other (by_number 0 xs) n m v 0 other ∙ by_number-at 0 xs m inside)
    ])

-- what holds place by place holds number by number
pub each-number : (P : ℕ → ℕ → ℕ → ℕ → Type 0) (ws xs ys zs : List ℕ) →
    length xs ≡ length ws → length ys ≡ length ws → length zs ≡ length ws →
    ((n : ℕ) → n < length ws → P (slice_index ws n) (slice_index xs n) (slice_index ys n) (slice_index zs n)) →
    (n : ℕ) → n < length ws → P (slice_index (by_number 0 ws) n) (slice_index (by_number 0 xs) n) (slice_index (by_number 0 ys) n) (slice_index (by_number 0 zs) n)
each-number P ws xs ys zs xs_long ys_long zs_long each n below =
    let p = place_of (length ws) n in
    let at : (us : List ℕ) → length us ≡ length ws → slice_index us p ≡ slice_index (by_number 0 us) n = λ us same.
    sym (by_number-at 0 us n (omega (arith, same, below)) ∙ ap (λ (w : ℕ). slice_index us (place_of w n)) same) in
    let first : P (slice_index ws p) (slice_index xs p) (slice_index ys p) (slice_index zs p) = each p (place-below (length ws) n below) in
    let A : ℕ → Type 0 = λ k. P k (slice_index xs p) (slice_index ys p) (slice_index zs p) in
    let B : ℕ → Type 0 = λ k. P (slice_index (by_number 0 ws) n) k (slice_index ys p) (slice_index zs p) in
    let C : ℕ → Type 0 = λ k. P (slice_index (by_number 0 ws) n) (slice_index (by_number 0 xs) n) k (slice_index zs p) in
    let D : ℕ → Type 0 = λ k. P (slice_index (by_number 0 ws) n) (slice_index (by_number 0 xs) n) (slice_index (by_number 0 ys) n) k in
    subst D (at zs zs_long) (subst C (at ys ys_long) (subst B (at xs xs_long) (subst A (at ws refl) first)))

-- tallies over a range of numbers, us a sum or the greatest
record IsTally (join : ℕ → ℕ → ℕ) (tally : (ℕ → ℕ) → ℕ → ℕ → ℕ) : Type 0 where
  none : (f : ℕ → ℕ) (a : ℕ) → tally f a 0 ≡ 0
  next : (f : ℕ → ℕ) (a n : ℕ) → tally f a (n + 1) ≡ join (tally f a n) (f (a + n))
  blank : (a : ℕ) → join a 0 ≡ a
  in_turn : (a b c : ℕ) → join (join a b) c ≡ join a (join b c)
  exchanged : (a b c d : ℕ) → join (join (join a b) c) d ≡ join (join a c) (join b d)

module _ (join : ℕ → ℕ → ℕ) (tally : (ℕ → ℕ) → ℕ → ℕ → ℕ) (is : IsTally join tally) where
  -- a tally over one range after another
  tally-split : (f : ℕ → ℕ) (a m n b : ℕ) → a + m ≡ b → tally f a (m + n) ≡ join (tally f a m) (tally f b n)
  tally-split f a m zero b at =
      let whole : m + 0 ≡ m = omega arith in
      ap (tally f a) whole ∙ sym (ap (join (tally f a m)) (is.none f b) ∙ is.blank (tally f a m))
  tally-split f a m (suc n) b at =
      let more : m + suc n ≡ (m + n) + 1 = omega arith in
      let count : n + 1 ≡ suc n = omega arith in
      let place : a + (m + n) ≡ b + n = omega (arith, at) in
      ap (tally f a) more ∙ is.next f a (m + n) ∙ ap (λ (k : ℕ). join k (f (a + (m + n)))) (tally-split f a m n b at)
      ∙ ap (λ (k : ℕ). join (join (tally f a m) (tally f b n)) (f k)) place
      ∙ is.in_turn (tally f a m) (tally f b n) (f (b + n))
      ∙ ap (join (tally f a m)) (sym (is.next f b n) ∙ ap (tally f b) count)

  -- a tally over the numbers of the first cells
  tally-cells : (f : ℕ → ℕ) (cells n : ℕ) →
      tally (λ k. f (place_of (2 * cells) k)) 0 (2 * n) ≡ join (tally f 0 n) (tally f cells n)
  tally-cells f cells zero = is.none (λ k. f (place_of (2 * cells) k)) 0 ∙ sym (ap (join (tally f 0 0)) (is.none f cells) ∙ is.blank (tally f 0 0) ∙ is.none f 0)
  tally-cells f cells (suc n) =
      let g : ℕ → ℕ = λ k. f (place_of (2 * cells) k) in
      let two : 2 * suc n ≡ (2 * n + 1) + 1 = omega arith in
      let count : n + 1 ≡ suc n = omega arith in
      let east : g (0 + 2 * n) ≡ f (0 + n) = ap g (omega arith) ∙ ap f (place-east cells n ∙ omega arith) in
      let north : g (0 + (2 * n + 1)) ≡ f (cells + n) = ap g (omega arith) ∙ ap f (place-north cells n) in
      ap (tally g 0) two ∙ is.next g 0 (2 * n + 1) ∙ ap (λ (k : ℕ). join k (g (0 + (2 * n + 1)))) (is.next g 0 (2 * n))
      ∙ ap (λ (k : ℕ). join (join k (g (0 + 2 * n))) (g (0 + (2 * n + 1)))) (tally-cells f cells n)
      ∙ ap (λ (k : ℕ). join (join (join (tally f 0 n) (tally f cells n)) k) (g (0 + (2 * n + 1)))) east
      ∙ ap (λ (k : ℕ). join (join (join (tally f 0 n) (tally f cells n)) (f (0 + n))) k) north
      ∙ is.exchanged (tally f 0 n) (tally f cells n) (f (0 + n)) (f (cells + n))
      ∙ ap (λ (k : ℕ). join k (join (tally f cells n) (f (cells + n)))) (sym (is.next f 0 n) ∙ ap (tally f 0) count)
      ∙ ap (join (tally f 0 (suc n))) (sym (is.next f cells n) ∙ ap (tally f cells) count)

  -- a tally by number is that by place
  tally-planes : (f : ℕ → ℕ) (cells : ℕ) → tally (λ k. f (place_of (2 * cells) k)) 0 (2 * cells) ≡ tally f 0 (2 * cells)
  tally-planes f cells =
      let two : cells + cells ≡ 2 * cells = omega arith in
      tally-cells f cells cells ∙ sym (tally-split f 0 cells cells cells (omega arith)) ∙ ap (tally f 0) two

-- a sum and the greatest are such tallies
sum-mapped : {X : Type 0} (f : X → ℕ) (xs : List X) → sum_by f xs ≡ sum_by (λ (k : ℕ). k) (map f xs)
sum-mapped f [] = refl
sum-mapped f (x ∷ xs) =
    sum_by-cons f x xs ∙ ap (λ (n : ℕ). f x + n) (sum-mapped f xs) ∙ sym (sum_by-cons (λ (k : ℕ). k) (f x) (map f xs))

abbrev sum_over : (ℕ → ℕ) → ℕ → ℕ → ℕ
sum_over f a n = sum_by (λ (k : ℕ). k) (map f (range_with_len a n))

abbrev most_over : (ℕ → ℕ) → ℕ → ℕ → ℕ
most_over f a n = fold max 0 (map f (range_with_len a n))

sums : IsTally (λ a b. a + b) sum_over
sums = record {
  none = λ f a. refl;
  next = λ f a n. sum_by-map-range_with_len_more (λ (k : ℕ). k) f a n (a + n) refl;
  blank = λ a. omega arith;
  in_turn = λ a b c. omega arith;
  exchanged = λ a b c d. omega arith;
}

maxima : IsTally max most_over
maxima = record {
  none = λ f a. refl;
  next = λ f a n. ap (fold max 0) (map-range_with_len_more f a n (a + n) refl) ∙ fold_push max 0 (map f (range_with_len a n)) (f (a + n));
  blank = λ a. omega arith;
  in_turn = λ a b c. omega arith;
  exchanged = λ a b c d. omega arith;
}

-- sums and maxima of two tables side by side
pub sum-tables : {X : Type 0} (f h : X → ℕ) (xs : List X) →
    sum_by (λ (p : ℕ × ℕ). p.0 - p.1) (zip (map f xs) (map h xs)) ≡ sum_by (λ x. f x - h x) xs
sum-tables f h [] = refl
sum-tables f h (x ∷ xs) =
    sum_by-cons (λ (p : ℕ × ℕ). p.0 - p.1) (f x, h x) (zip (map f xs) (map h xs))
    ∙ ap (λ (n : ℕ). (f x - h x) + n) (sum-tables f h xs) ∙ sym (sum_by-cons (λ y. f y - h y) x xs)

pub most-tables : {X : Type 0} (f h : X → ℕ) (xs : List X) (a : ℕ) →
    fold (λ m (p : ℕ × ℕ). max m (p.0 - p.1)) a (zip (map f xs) (map h xs)) ≡ fold max a (map (λ x. f x - h x) xs)
most-tables f h [] a = refl
most-tables f h (x ∷ xs) a = most-tables f h xs (max a (f x - h x))

-- a list of numbers by its places
by_place : (xs : List ℕ) (n : ℕ) → length xs ≡ n → xs ≡ map (λ (k : ℕ). slice_index xs k) (range_with_len 0 n)
by_place xs n long =
    let f : ℕ → ℕ = λ k. slice_index xs k in
    same_number_lists xs (map f (range_with_len 0 n)) (long ∙ sym (length-map-range_with_len f 0 n))
    (λ k below. sym (get_or-map-range_with_len f 0 n k k 0 (omega (arith, below, long)) (omega arith)))

numbers : (xs : List ℕ) (n : ℕ) → length xs ≡ n → by_number 0 xs ≡ map (λ (k : ℕ). slice_index xs (place_of n k)) (range_with_len 0 n)
numbers xs n long = ap (λ (w : ℕ). map (λ (k : ℕ). slice_index xs (place_of w k)) (range_with_len 0 w)) long

-- a sum over two tables side by side is one over places
pub sum-ranged : (xs ys : List ℕ) (n : ℕ) → length xs ≡ n → length ys ≡ n →
    sum_by (λ (p : ℕ × ℕ). p.0 - p.1) (zip xs ys) ≡ sum_over (λ k. slice_index xs k - slice_index ys k) 0 n
sum-ranged xs ys n xs_long ys_long =
    let S : List ℕ → List ℕ → ℕ = λ us vs. sum_by (λ (p : ℕ × ℕ). p.0 - p.1) (zip us vs) in
    let range : List ℕ = range_with_len 0 n in
    ap (λ (us : List ℕ). S us ys) (by_place xs n xs_long)
    ∙ ap (S (map (λ (k : ℕ). slice_index xs k) range)) (by_place ys n ys_long)
    ∙ sum-tables (λ (k : ℕ). slice_index xs k) (λ (k : ℕ). slice_index ys k) range
    ∙ sum-mapped (λ (k : ℕ). slice_index xs k - slice_index ys k) range

-- and so is the greatest
pub most-ranged : (xs ys : List ℕ) (n : ℕ) → length xs ≡ n → length ys ≡ n →
    fold (λ m (p : ℕ × ℕ). max m (p.0 - p.1)) 0 (zip xs ys) ≡ most_over (λ k. slice_index xs k - slice_index ys k) 0 n
most-ranged xs ys n xs_long ys_long =
    let M : List ℕ → List ℕ → ℕ = λ us vs. fold (λ m (p : ℕ × ℕ). max m (p.0 - p.1)) 0 (zip us vs) in
    let range : List ℕ = range_with_len 0 n in
    ap (λ (us : List ℕ). M us ys) (by_place xs n xs_long)
    ∙ ap (M (map (λ (k : ℕ). slice_index xs k) range)) (by_place ys n ys_long)
    ∙ most-tables (λ (k : ℕ). slice_index xs k) (λ (k : ℕ). slice_index ys k) range 0

-- they are the same by number us by place
pub sum-planes : (xs ys : List ℕ) (cells : ℕ) → length xs ≡ 2 * cells → length ys ≡ 2 * cells →
    sum_by (λ (p : ℕ × ℕ). p.0 - p.1) (zip xs ys) ≡ sum_by (λ (p : ℕ × ℕ). p.0 - p.1) (zip (by_number 0 xs) (by_number 0 ys))
sum-planes xs ys cells xs_long ys_long =
    let S : List ℕ → List ℕ → ℕ = λ us vs. sum_by (λ (p : ℕ × ℕ). p.0 - p.1) (zip us vs) in
    let range : List ℕ = range_with_len 0 (2 * cells) in
    let f : ℕ → ℕ = λ k. slice_index xs k - slice_index ys k in
    let place : ℕ → ℕ = place_of (2 * cells) in
    sum-ranged xs ys (2 * cells) xs_long ys_long
    ∙ sym (tally-planes (λ a b. a + b) sum_over sums f cells)
    ∙ sym (sum-mapped (λ (k : ℕ). f (place k)) range)
    ∙ sym (sum-tables (λ (k : ℕ). slice_index xs (place k)) (λ (k : ℕ). slice_index ys (place k)) range)
    ∙ sym (ap (S (map (λ (k : ℕ). slice_index xs (place k)) range)) (numbers ys (2 * cells) ys_long))
    ∙ sym (ap (λ (us : List ℕ). S us (by_number 0 ys)) (numbers xs (2 * cells) xs_long))

pub most-planes : (xs ys : List ℕ) (cells : ℕ) → length xs ≡ 2 * cells → length ys ≡ 2 * cells →
    fold (λ m (p : ℕ × ℕ). max m (p.0 - p.1)) 0 (zip xs ys) ≡ fold (λ m (p : ℕ × ℕ). max m (p.0 - p.1)) 0 (zip (by_number 0 xs) (by_number 0 ys))
most-planes xs ys cells xs_long ys_long =
    let M : List ℕ → List ℕ → ℕ = λ us vs. fold (λ m (p : ℕ × ℕ). max m (p.0 - p.1)) 0 (zip us vs) in
    let range : List ℕ = range_with_len 0 (2 * cells) in
    let place : ℕ → ℕ = place_of (2 * cells) in
    most-ranged xs ys (2 * cells) xs_long ys_long
    ∙ sym (tally-planes max most_over maxima (λ (k : ℕ). slice_index xs k - slice_index ys k) cells)
    ∙ sym (most-tables (λ (k : ℕ). slice_index xs (place k)) (λ (k : ℕ). slice_index ys (place k)) range 0)
    ∙ sym (ap (M (map (λ (k : ℕ). slice_index xs (place k)) range)) (numbers ys (2 * cells) ys_long))
    ∙ sym (ap (λ (us : List ℕ). M us (by_number 0 ys)) (numbers xs (2 * cells) xs_long))

-- where a number stands in a table, and what is there
pub record StandsAt {X : Type 0} (blank : X) (xs : List X) (number place : ℕ) : Type 0 where
  pub inside : number < length xs
  pub below : place < length xs
  pub at : place ≡ place_of (length xs) number
  pub value : slice_index_or xs place blank ≡ slice_index_or (by_number blank xs) number blank

pub stands : {X : Type 0} (blank : X) (xs : List X) (wires number place : ℕ) → number < length xs →
    wires ≡ length xs → place ≡ place_of wires number → StandsAt blank xs number place
stands blank xs wires number place inside all is =
    let at : place ≡ place_of (length xs) number = is ∙ ap (λ (w : ℕ). place_of w number) all in
    record {
      inside = inside;
      below = subst (λ (p : ℕ). p < length xs) (sym at) (place-below (length xs) number inside);
      at = at;
      value = ap (λ (p : ℕ). slice_index_or xs p blank) at ∙ sym (by_number-at blank xs number inside);
    }

-- a table after a write where a number stands
pub written-at : (xs : List ℕ) (cells number place v : ℕ) → length xs ≡ 2 * cells → StandsAt 0 xs number place →
    by_number 0 (slice_set xs place v) ≡ slice_set (by_number 0 xs) number v
written-at xs cells number place v long is =
    ap (λ (p : ℕ). by_number 0 (slice_set xs p v)) is.at ∙ by_number-set xs cells number v long is.inside
