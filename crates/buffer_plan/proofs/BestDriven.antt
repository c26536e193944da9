-- Of some candidates there is one that none is driven better than.
use Rattle.std.proofs.Common.{◌≡◌, ℕ, ◌<◌, ℤ, Bool, true, false, not, nat_lt, inl, inr, List, [], ◌∷◌, Contains, Option, Some, refl, sym, subst, ◌∙◌, if◌then◌else◌, arith}
use Rattle.std.specs.List.{list_any}
use Rattle.std.proofs.lemmas.Bool.{cases_Bool, true≢false, false≢true, and_parts, and_from, ltb-true, lt-ltb, not-true, not_from_false}
use Rattle.elmore_delay.specs.declared.seen.Seen.{Seen}
use Rattle.ginneken_lists.proofs.TimeOrder.{no_later-itself, no_later-through, no_later-other}
use Rattle.ginneken_lists.specs.Candidates.{Candidate, no_later, driven_time, drives_better, best_driven}
use Rattle.buffer_plan.proofs.Members.{contains-first, contains-later, contains-cases, find-finds, find-some, any-no, no-any}

-- a greater time, or as great a time and a smaller load
record Drives (x : Option ℤ) (i : ℕ) (y : Option ℤ) (j : ℕ) : Type 0 where
  time : no_later y x ≡ true
  load : no_later x y ≡ true → i < j

drives-is : (r : ℕ) (s u : Seen) → drives_better r s u ≡ true → Drives (driven_time r s) s.load (driven_time r u) u.load
drives-is r s u is =
    let x = driven_time r s in
    let y = driven_time r u in
    let parts = and_parts (no_later y x) (if no_later x y then nat_lt s.load u.load else true) is in
    record {
      time = parts.0;
      load = λ tie. ltb-true s.load u.load (rw tie at parts.1);
    }

drives-from : (r : ℕ) (s u : Seen) → Drives (driven_time r s) s.load (driven_time r u) u.load → drives_better r s u ≡ true
drives-from r s u h =
    let x = driven_time r s in
    let y = driven_time r u in
    and_from (no_later y x) (if no_later x y then nat_lt s.load u.load else true) h.time (tie (no_later x y) refl)
  where
    tie : (b : Bool) → no_later (driven_time r s) (driven_time r u) ≡ b → (if b then nat_lt s.load u.load else true) ≡ true
    tie true is = lt-ltb s.load u.load (h.load is)
    tie false is = refl

drives-through : (x y z : Option ℤ) (i j k : ℕ) → Drives x i y j → Drives y j z k → Drives x i z k
drives-through x y z i j k first second = record {
  time = no_later-through z y x second.time first.time;
  load = λ as_late.
      let a = first.load (no_later-through x z y as_late second.time) in
      let b = second.load (no_later-through y x z first.time as_late) in
      omega arith;
}

not-better : (r : ℕ) (s : Seen) → drives_better r s s ≡ false
not-better r s = elim (cases_Bool (drives_better r s s)) [
  | inl is ↦
      let drives = drives-is r s s is in
      let less = drives.load (no_later-itself (driven_time r s)) in
      absurd (omega arith)
  | inr is ↦ is
]

-- one of some candidates that none of them is driven better than
pub record IsBestDriven (r : ℕ) (all : List Candidate) (o : Candidate) : Type 0 where
  pub among : Contains all o
  pub best : (other : Candidate) → Contains all other → drives_better r other.seen o.seen ≡ false

-- with one more candidate: the best is this one, or the best of the others
either-best : (r : ℕ) (x y : Candidate) (xs : List Candidate) → IsBestDriven r xs y → (o : Candidate) × IsBestDriven r (x ∷ xs) o
either-best r x y xs rest = elim (cases_Bool (drives_better r x.seen y.seen)) [
  | inl better ↦ (
    x,
    (record {
      among = contains-first x xs;
      best = λ other at. elim (contains-cases x other xs at) [
        | inl same ↦ subst (λ (o : Candidate). drives_better r o.seen x.seen ≡ false) same (not-better r x.seen)
        | inr later ↦ elim (cases_Bool (drives_better r other.seen x.seen)) [
          | inl more ↦
              let through = drives-through (driven_time r other.seen) (driven_time r x.seen) (driven_time r y.seen) other.seen.load x.seen.load y.seen.load
              (drives-is r other.seen x.seen more) (drives-is r x.seen y.seen better) in
              absurd (true≢false (sym (drives-from r other.seen y.seen through) ∙ rest.best other later))
          | inr not_more ↦ not_more
        ]
      ];
    }),
  )
  | inr not_better ↦ (
    y,
    (record {
      among = contains-later x y xs rest.among;
      best = λ other at. elim (contains-cases x other xs at) [
        | inl same ↦ subst (λ (o : Candidate). drives_better r o.seen y.seen ≡ false) same not_better
        | inr later ↦ rest.best other later
      ];
    }),
  )
]

some-best : (r : ℕ) (x : Candidate) (xs : List Candidate) → (o : Candidate) × IsBestDriven r (x ∷ xs) o
some-best r x [] = (
  x,
  (record {
    among = contains-first x [];
    best = λ other at. elim (contains-cases x other [] at) [
      | inl same ↦ subst (λ (o : Candidate). drives_better r o.seen x.seen ≡ false) same (not-better r x.seen)
      | inr later ↦ let none = later.1 in absurd (omega arith)
    ];
  }),
)
some-best r x (y ∷ ys) =
    let rest = some-best r y ys in
    either-best r x rest.0 (y ∷ ys) rest.1

-- the test by which the best one is found
abbrev pub is_best : ℕ → List Candidate → Candidate → Bool
is_best r all o = not (list_any (λ other. drives_better r other.seen o.seen) all)

best-passes : (r : ℕ) (all : List Candidate) (o : Candidate) → IsBestDriven r all o → is_best r all o ≡ true
best-passes r all o h = not_from_false (list_any (λ other. drives_better r other.seen o.seen) all)
    (no-any (λ (other : Candidate). drives_better r other.seen o.seen) all h.best)

pub best-is : (r : ℕ) (all : List Candidate) (o : Candidate) → best_driven r all ≡ Some o → IsBestDriven r all o
best-is r all o is =
    let found = find-finds (is_best r all) all o is in
    record {
      among = found.among;
      best = λ other at. any-no (λ (candidate : Candidate). drives_better r candidate.seen o.seen) other all
          (not-true (list_any (λ candidate. drives_better r candidate.seen o.seen) all) found.passes) at;
    }

pub best-some : (r : ℕ) (all : List Candidate) (x : Candidate) → Contains all x → (o : Candidate) × (best_driven r all ≡ Some o)
best-some r [] x at = let none = at.1 in absurd (omega arith)
best-some r (y ∷ ys) x at =
    let best = some-best r y ys in
    find-some (is_best r (y ∷ ys)) best.0 (y ∷ ys) best.1.among (best-passes r (y ∷ ys) best.0 best.1)

-- no candidate has a greater time at the driver than the best
pub best-greatest : (r : ℕ) (all : List Candidate) (o other : Candidate) → IsBestDriven r all o → Contains all other →
    no_later (driven_time r other.seen) (driven_time r o.seen) ≡ true
best-greatest r all o other h at =
    let x = driven_time r other.seen in
    let y = driven_time r o.seen in
    elim (cases_Bool (no_later x y)) [
      | inl is ↦ is
      | inr later ↦
          let drives : Drives x other.seen.load y o.seen.load = record {
            time = no_later-other x y later;
            load = λ tie. absurd (false≢true (sym later ∙ tie));
          } in
          absurd (true≢false (sym (drives-from r other.seen o.seen drives) ∙ h.best other at))
    ]
