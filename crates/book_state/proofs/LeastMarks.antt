-- The first mark of least overflow.
use Rattle.std.proofs.Common.{◌≡◌, ◌⊎◌, ℕ, suc, zero, ◌+◌, ◌<◌, ◌≤◌, inl, inr, Bool, true, false, not, cond, nat_lt, nat_le, List, [], ◌∷◌, ◌++◌, length, Option, Some, None, slice_get, if◌then◌else◌, refl, sym, ap, subst, ◌∙◌, arith}
use Rattle.std.specs.List.{list_all, position_or_len}
use Rattle.std.specs.Option.{option_map}
use Rattle.std.proofs.lemmas.Bool.{cases_Bool, cases_lt}
use Rattle.std.proofs.lemmas.Bool.Decides.{nat_tests}
use Rattle.std.proofs.lemmas.List.{length_push}
use Rattle.std.proofs.lemmas.Option.{none-some, same_Some, slice_get_within}
use Rattle.book_state.proofs.HistoryLists.{slice_get-left, slice_get-right}
use Rattle.book_state.specs.LeastSearch.{lesser, IsMarkAt, IsFirstLeast, IsLeast}
use Rattle.book_state.specs.Marks.{overflow_in, overflow_of, is_at_most, is_least_in, is_least_mark, least_mark}
use Rattle.book_state.specs.declared.entry.Entry.{Entry}
use Rattle.book_state.specs.declared.least.MarkedAt.{MarkedAt}
use Rattle.book_state.specs.declared.entry.Reply.{Reply}
use Rattle.book_state.specs.declared.entry.Reply.TheVariants.{Claimed, Taken, Full, Released, NotBooked, Marked}

-- the first place that passes a test
first-place : (p : Entry → Bool) (h : List Entry) (i : ℕ) (e : Entry) → slice_get h i ≡ Some e → p e ≡ true →
    ((k : ℕ) (x : Entry) → k < i → slice_get h k ≡ Some x → p x ≡ false) → position_or_len p h ≡ i
first-place p [] i e there passes before = absurd (none-some e there)
first-place p (x ∷ xs) zero e there passes before =
    let here : p x ≡ true = ap p (same_Some x e there) ∙ passes in
    ap (λ (b : Bool). cond (not b) (1 + position_or_len p xs) 0) here
first-place p (x ∷ xs) (suc i) e there passes before =
    let here : p x ≡ false = before 0 x (omega arith) refl in
    let rest = first-place p xs i e there passes (λ k y below is. before (suc k) y (omega arith) is) in
    ap (λ (b : Bool). cond (not b) (1 + position_or_len p xs) 0) here ∙ omega (arith, rest)

no-place : (p : Entry → Bool) (h : List Entry) → ((k : ℕ) (x : Entry) → slice_get h k ≡ Some x → p x ≡ false) → position_or_len p h ≡ length h
no-place p [] none = refl
no-place p (x ∷ xs) none =
    let here : p x ≡ false = none 0 x refl in
    let rest = no-place p xs (λ k y is. none (suc k) y is) in
    ap (λ (b : Bool). cond (not b) (1 + position_or_len p xs) 0) here ∙ omega (arith, rest)

-- a test of all entries
all-pass : (q : Entry → Bool) (h : List Entry) → ((k : ℕ) (x : Entry) → slice_get h k ≡ Some x → q x ≡ true) → list_all q h ≡ true
all-pass q [] all = refl
all-pass q (x ∷ xs) all =
    let here : q x ≡ true = all 0 x refl in
    let rest = all-pass q xs (λ k y is. all (suc k) y is) in
    rw here rest

one-fails : (q : Entry → Bool) (h : List Entry) (k : ℕ) (x : Entry) → slice_get h k ≡ Some x → q x ≡ false → list_all q h ≡ false
one-fails q [] k x there fails = absurd (none-some x there)
one-fails q (y ∷ ys) zero x there fails =
    let here : q y ≡ false = ap q (same_Some y x there) ∙ fails in
    rw here refl
one-fails q (y ∷ ys) (suc k) x there fails =
    let rest = one-fails q ys k x there fails in
    elim (cases_Bool (q y)) [ inl here ↦ rw here rest | inr here ↦ rw here refl ]

at-most : (overflow : ℕ) (o : Option ℕ) → ((other : ℕ) → o ≡ Some other → overflow ≤ other) → is_at_most overflow o ≡ true
at-most overflow None most = refl
at-most overflow (Some other) most = let h = most other refl in grind (arith, nat_tests)

above : (overflow other : ℕ) → other < overflow → is_at_most overflow (Some other) ≡ false
above overflow other below = grind (arith, nat_tests)

least-passes : (h : List Entry) (mark : MarkedAt) → IsFirstLeast h mark → is_least_in h (Some mark.overflow) ≡ true
least-passes h mark is =
    all-pass (λ (e : Entry). is_at_most mark.overflow (overflow_of e)) h
    (λ k x there. at-most mark.overflow (overflow_of x) (λ other over. is.least k other (record { e = x; there = there; mark = over })))

earlier-fails : (h : List Entry) (mark : MarkedAt) (k : ℕ) (x : Entry) → (is : IsFirstLeast h mark) → k < is.place → slice_get h k ≡ Some x → is_least_mark h x ≡ false
earlier-fails h mark k x is below there = by (overflow_of x) refl
  where
    by : (o : Option ℕ) → overflow_of x ≡ o → is_least_in h (overflow_of x) ≡ false
    by None over = ap (is_least_in h) over
    by (Some overflow) over =
        let less = is.first k overflow below (record { e = x; there = there; mark = over }) in
        let fails : is_at_most overflow (overflow_of is.there.e) ≡ false = ap (λ (o : Option ℕ). is_at_most overflow o) is.there.mark ∙ above overflow mark.overflow less in
        ap (is_least_in h) over ∙ one-fails (λ (e : Entry). is_at_most overflow (overflow_of e)) h is.place is.there.e is.there.there fails

-- the search's end is the least mark
pub least-found : (h : List Entry) (mark : MarkedAt) → IsFirstLeast h mark → Some mark.length ≡ least_mark h
least-found h mark is =
    let passes : is_least_mark h is.there.e ≡ true = ap (is_least_in h) is.there.mark ∙ least-passes h mark is in
    let place = first-place (is_least_mark h) h is.place is.there.e is.there.there passes (λ k x below there. earlier-fails h mark k x is below there) in
    let within = slice_get_within h is.place is.there.e is.there.there in
    let test : nat_lt is.place (length h) ≡ true = grind (arith, nat_tests) in
    sym (ap (λ (n : ℕ). option_map (λ (k : ℕ). k + 1) (cond (nat_lt n (length h)) (Some n) None)) place
    ∙ ap (λ (b : Bool). option_map (λ (k : ℕ). k + 1) (cond b (Some is.place) None)) test
    ∙ ap (λ (n : ℕ). Some n) (sym is.length))

pub least-none : (h : List Entry) → ((p overflow : ℕ) → IsMarkAt h p overflow → ⊥) → None ≡ least_mark h
least-none h none =
    let fails : (k : ℕ) (x : Entry) → slice_get h k ≡ Some x → is_least_mark h x ≡ false = λ k x there. by k x there (overflow_of x) refl in
    let place = no-place (is_least_mark h) h fails in
    let test : nat_lt (length h) (length h) ≡ false = grind (arith, nat_tests) in
    sym (ap (λ (n : ℕ). option_map (λ (k : ℕ). k + 1) (cond (nat_lt n (length h)) (Some n) None)) place
    ∙ ap (λ (b : Bool). option_map (λ (k : ℕ). k + 1) (cond b (Some (length h)) None)) test)
  where
    by : (k : ℕ) (x : Entry) → slice_get h k ≡ Some x → (o : Option ℕ) → overflow_of x ≡ o → is_least_in h (overflow_of x) ≡ false
    by k x there None over = ap (is_least_in h) over
    by k x there (Some overflow) over = absurd (none k overflow (record { e = x; there = there; mark = over }))

-- a mark of a history with one more entry is an old one, or the last entry
mark-cases : (h : List Entry) (e : Entry) (p overflow : ℕ) → IsMarkAt (h ++ e ∷ []) p overflow → IsMarkAt h p overflow ⊎ ((p ≡ length h) × (overflow_of e ≡ Some overflow))
mark-cases h e p overflow is =
    elim (cases_lt p (length h)) [
      | inl before ↦ inl (record { e = is.e; there = sym (slice_get-left h (e ∷ []) p before) ∙ is.there; mark = is.mark })
      | inr after ↦
          let within = slice_get_within (h ++ e ∷ []) p is.e is.there in
          let long = length_push h e in
          let here : p ≡ length h = omega (arith, within, long) in
          let same : e ≡ is.e = same_Some e is.e (sym (slice_get-right h (e ∷ []) p 0 (omega arith)) ∙ is.there) in
          inr (here, ap overflow_of same ∙ is.mark)
    ]

mark-kept : (h : List Entry) (e : Entry) (p overflow : ℕ) → IsMarkAt h p overflow → IsMarkAt (h ++ e ∷ []) p overflow
mark-kept h e p overflow is =
    record { e = is.e; there = slice_get-left h (e ∷ []) p (slice_get_within h p is.e is.there) ∙ is.there; mark = is.mark }

mark-last : (h : List Entry) (e : Entry) (overflow : ℕ) → overflow_of e ≡ Some overflow → IsMarkAt (h ++ e ∷ []) (length h) overflow
mark-last h e overflow is = record { e = e; there = slice_get-right h (e ∷ []) (length h) 0 (omega arith); mark = is }

-- an entry that isn't a mark
pub least-idle : (h : List Entry) (e : Entry) (o : Option MarkedAt) → overflow_of e ≡ None → IsLeast h o → IsLeast (h ++ e ∷ []) o
least-idle h e None other is = λ p overflow mark. elim (mark-cases h e p overflow mark) [
  | inl old ↦ is p overflow old
  | inr last ↦ none-some overflow (sym other ∙ last.1)
]
least-idle h e (Some m) other is = record {
  place = is.place;
  length = is.length;
  there = mark-kept h e is.place m.overflow is.there;
  least = λ p overflow mark. elim (mark-cases h e p overflow mark) [
    | inl old ↦ is.least p overflow old
    | inr last ↦ absurd (none-some overflow (sym other ∙ last.1))
  ];
  first = λ p overflow below mark. elim (mark-cases h e p overflow mark) [
    | inl old ↦ is.first p overflow below old
    | inr last ↦ absurd (none-some overflow (sym other ∙ last.1))
  ];
}

-- a mark
pub least-mark : (h : List Entry) (e : Entry) (o : Option MarkedAt) (new : MarkedAt) → overflow_of e ≡ Some new.overflow → new.length ≡ length h + 1 → IsLeast h o → IsFirstLeast (h ++ e ∷ []) (lesser o new)
least-mark h e None new over long is = record {
  place = length h;
  length = long;
  there = mark-last h e new.overflow over;
  least = λ p overflow mark. elim (mark-cases h e p overflow mark) [
    | inl old ↦ absurd (is p overflow old)
    | inr last ↦ let same : new.overflow ≡ overflow = same_Some new.overflow overflow (sym over ∙ last.1) in omega (arith, same)
  ];
  first = λ p overflow below mark. elim (mark-cases h e p overflow mark) [
    | inl old ↦ absurd (is p overflow old)
    | inr last ↦ absurd (omega (arith, last.0, below))
  ];
}
least-mark h e (Some m) new over long is =
    elim (cases_Bool (nat_le m.overflow new.overflow)) [
      | inl kept ↦
          let less : m.overflow ≤ new.overflow = grind (arith, nat_tests) in
          let within = slice_get_within h is.place is.there.e is.there.there in
          let stays : IsFirstLeast (h ++ e ∷ []) m = record {
            place = is.place;
            length = is.length;
            there = mark-kept h e is.place m.overflow is.there;
            least = λ p overflow mark. elim (mark-cases h e p overflow mark) [
              | inl old ↦ is.least p overflow old
              | inr last ↦ let same : new.overflow ≡ overflow = same_Some new.overflow overflow (sym over ∙ last.1) in omega (arith, same, less)
            ];
            first = λ p overflow below mark. elim (mark-cases h e p overflow mark) [
              | inl old ↦ is.first p overflow below old
              | inr last ↦ absurd (omega (arith, last.0, below, within))
            ];
          } in
          subst (λ (b : Bool). IsFirstLeast (h ++ e ∷ []) (if b then m else new)) (sym kept) stays
      | inr gives ↦
          let less : new.overflow < m.overflow = grind (arith, nat_tests) in
          let comes : IsFirstLeast (h ++ e ∷ []) new = record {
            place = length h;
            length = long;
            there = mark-last h e new.overflow over;
            least = λ p overflow mark. elim (mark-cases h e p overflow mark) [
              | inl old ↦ let most = is.least p overflow old in omega (arith, most, less)
              | inr last ↦ let same : new.overflow ≡ overflow = same_Some new.overflow overflow (sym over ∙ last.1) in omega (arith, same)
            ];
            first = λ p overflow below mark. elim (mark-cases h e p overflow mark) [
              | inl old ↦ let most = is.least p overflow old in omega (arith, most, less)
              | inr last ↦ absurd (omega (arith, last.0, below))
            ];
          } in
          subst (λ (b : Bool). IsFirstLeast (h ++ e ∷ []) (if b then m else new)) (sym gives) comes
    ]

pub least-nothing : IsLeast [] None
least-nothing = λ p overflow mark. none-some mark.e mark.there

-- a reply that isn't a mark's
pub no-mark : (reply : Reply) → ((overflow : ℕ) → reply ≡ Marked overflow → ⊥) → overflow_in reply ≡ None
no-mark Claimed other = refl
no-mark Taken other = refl
no-mark (Full e n) other = refl
no-mark Released other = refl
no-mark NotBooked other = refl
no-mark (Marked n) other = absurd (other n refl)
