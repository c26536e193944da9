-- Passes that get seats, and passes that give them up.
use Rattle.std.proofs.Common.{◌≡◌, ℕ, zero, suc, ◌<◌, List, [], ◌∷◌, ◌++◌, length, All, Some, slice_get, refl, sym, ap, subst, ◌∙◌, ⊎_elim, arith, length-append, append_assoc}
use Rattle.std.proofs.lemmas.List.{append-nil}
use Rattle.std.proofs.lemmas.Option.{slice_get_within}
use mathlib.Core.List.{IsPrefix}
use Rattle.atomic_table.specs.Seated.{TableId}
use Rattle.book_front.specs.Seats.{knows, IsPassOf, IsNew as IsNewSeat, AreIn as AreSeatsIn, AreAll as AreAllSeats}
use Rattle.book_front.specs.declared.seat.PassSeat.{PassSeat}
use Rattle.book_front.proofs.Holding.{get-push}
use Rattle.book_front.proofs.Prefixes.{prefix-then}
use Rattle.book_state.proofs.HistoryLists.{slice_get-right}
use Rattle.book_state.specs.Books.{IsLegal}
use Rattle.book_state.specs.Entries.{calls_of}
use Rattle.book_state.specs.declared.entry.Entry.{Entry}
use Rattle.grid_demand.specs.Tables.{CapacityView}
use Rattle.track_book.specs.Passes.{PassView, IsNew, AreBegun, AreAll, IsClosed}
use Rattle.track_book.specs.SeatOptions.{AreNewSeats}

-- the seats that don't remain have new passes, by number
pub record IsDealing (seats rest : List PassSeat) (passes : List PassView) : Type 0 where
  pub done : List PassSeat
  pub parts : done ++ rest ≡ seats
  pub begun : AreBegun (length done) passes

-- this is the seat of a pass, which has seen at least what the pass has
pub record IsSeatOf (word : TableId) (p : PassView) (s : PassSeat) : Type 0 where
  pub pass : IsPassOf word p.number s
  pub begins : IsPrefix p.seen (knows s).seen
  pub mine : (knows s).mine ≡ p.mine

-- the passes that don't remain gave these seats
pub record IsEnding (word : TableId) (passes rest : List PassView) (seats : List PassSeat) : Type 0 where
  pub done : List PassView
  pub parts : done ++ rest ≡ passes
  pub count : length seats ≡ length done
  pub each : (at : ℕ) (p : PassView) (s : PassSeat) → slice_get done at ≡ Some p → slice_get seats at ≡ Some s → IsSeatOf word p s

pub get-there : {A : Type 0} (xs : List A) (at : ℕ) → at < length xs → (x : A) × (slice_get xs at ≡ Some x)
get-there [] at less = absurd (omega (arith, less))
get-there (x ∷ xs) zero less = (x, refl)
get-there (x ∷ xs) (suc at) less = get-there xs at (omega (arith, less))

-- the seat that is next in turn
pub next-seat : (word : TableId) (seats rest : List PassSeat) (passes : List PassView) (seat : PassSeat) (n : ℕ) → AreNewSeats word seats → IsDealing seats (seat ∷ rest) passes → n ≡ length passes → IsNewSeat word n seat
next-seat word seats rest passes seat n new dealing is =
    let place : n ≡ length dealing.done = is ∙ dealing.begun.count in
    let here : slice_get seats (length dealing.done) ≡ Some seat =
    ap (λ (l : List PassSeat). slice_get l (length dealing.done)) (sym dealing.parts) ∙ slice_get-right dealing.done (seat ∷ rest) (length dealing.done) 0 (omega arith) in
    subst (λ (m : ℕ). IsNewSeat word m seat) (sym place) (new (length dealing.done) seat here)

pub dealing-first : (seats : List PassSeat) → IsDealing seats seats []
dealing-first seats = record { done = []; parts = refl; begun = record { count = refl; each = λ at p is. absurd (cc (is)) } }

dealing-push : (seats rest : List PassSeat) (passes : List PassView) (seat : PassSeat) (pass : PassView) (n : ℕ) → IsDealing seats (seat ∷ rest) passes → n ≡ length passes → IsNew n pass → IsDealing seats rest (passes ++ pass ∷ [])
dealing-push seats rest passes seat pass n dealing is new =
    let count = dealing.begun.count in
    let more = length-append passes (pass ∷ []) in
    let done = length-append dealing.done (seat ∷ []) in
    record {
      done = dealing.done ++ seat ∷ [];
      parts = append_assoc dealing.done (seat ∷ []) rest ∙ dealing.parts;
      begun = record {
        count = omega (arith, count, more, done);
        each = λ at p there.
            ⊎_elim
            (λ (before : slice_get passes at ≡ Some p). dealing.begun.each at p before)
            (λ (last : (at ≡ length passes) × (pass ≡ p)). subst (λ (x : ℕ × PassView). IsNew x.0 x.1) (λ i. ((is ∙ sym last.0) i, last.1 i)) new)
            (get-push passes pass p at there);
      };
    }

pub dealing-more : (seats rest : List PassSeat) (passes pushed : List PassView) (seat : PassSeat) (pass : PassView) (n : ℕ) → pushed ≡ passes ++ pass ∷ [] → IsDealing seats (seat ∷ rest) passes → n ≡ length passes → IsNew n pass → IsDealing seats rest pushed
dealing-more seats rest passes pushed seat pass n one-more dealing is new =
    subst (λ (l : List PassView). IsDealing seats rest l) (sym one-more) (dealing-push seats rest passes seat pass n dealing is new)

pub dealt-all : (seats : List PassSeat) (passes : List PassView) → IsDealing seats [] passes → AreBegun (length seats) passes
dealt-all seats passes dealing =
    let all : dealing.done ≡ seats = sym (append-nil dealing.done) ∙ dealing.parts in
    subst (λ (l : List PassSeat). AreBegun (length l) passes) all dealing.begun

pub ending-first : (word : TableId) (passes : List PassView) → IsEnding word passes passes []
ending-first word passes = record { done = []; parts = refl; count = refl; each = λ at p s is there. absurd (cc (is)) }

ending-push : (word : TableId) (passes rest : List PassView) (seats : List PassSeat) (p : PassView) (s : PassSeat) → IsEnding word passes (p ∷ rest) seats → IsSeatOf word p s → IsEnding word passes rest (seats ++ s ∷ [])
ending-push word passes rest seats p s ending is =
    let count = ending.count in
    let more = length-append seats (s ∷ []) in
    let done = length-append ending.done (p ∷ []) in
    record {
      done = ending.done ++ p ∷ [];
      parts = append_assoc ending.done (p ∷ []) rest ∙ ending.parts;
      count = omega (arith, count, more, done);
      each = λ at q r pass-there seat-there.
          ⊎_elim
          (λ (old-pass : slice_get ending.done at ≡ Some q).
          ⊎_elim
          (λ (old-seat : slice_get seats at ≡ Some r). ending.each at q r old-pass old-seat)
          (λ (last : (at ≡ length seats) × (s ≡ r)).
          let place = last.0 in
          let within = slice_get_within ending.done at q old-pass in
          absurd (omega (arith, place, within, count)))
          (get-push seats s r at seat-there))
          (λ (last-pass : (at ≡ length ending.done) × (p ≡ q)).
          ⊎_elim
          (λ (old-seat : slice_get seats at ≡ Some r).
          let place = last-pass.0 in
          let within = slice_get_within seats at r old-seat in
          absurd (omega (arith, place, within, count)))
          (λ (last : (at ≡ length seats) × (s ≡ r)). subst (λ (x : PassView × PassSeat). IsSeatOf word x.0 x.1) (λ i. (last-pass.1 i, last.1 i)) is)
          (get-push seats s r at seat-there))
          (get-push ending.done p q at pass-there);
    }

pub ending-more : (word : TableId) (passes rest : List PassView) (seats pushed : List PassSeat) (p : PassView) (s : PassSeat) → pushed ≡ seats ++ s ∷ [] → IsEnding word passes (p ∷ rest) seats → IsSeatOf word p s → IsEnding word passes rest pushed
ending-more word passes rest seats pushed p s one-more ending is =
    subst (λ (l : List PassSeat). IsEnding word passes rest l) (sym one-more) (ending-push word passes rest seats p s ending is)

-- all passes have given their seats
abbrev AllGave : TableId → List PassView → List PassSeat → Type 0
AllGave word passes seats = (at : ℕ) (p : PassView) (s : PassSeat) → slice_get passes at ≡ Some p → slice_get seats at ≡ Some s → IsSeatOf word p s

all-gave : (word : TableId) (passes : List PassView) (seats : List PassSeat) → IsEnding word passes [] seats → (length seats ≡ length passes) × AllGave word passes seats
all-gave word passes seats ending =
    let all : ending.done ≡ passes = sym (append-nil ending.done) ∙ ending.parts in
    subst (λ (l : List PassView). (length seats ≡ length l) × AllGave word l seats) all (ending.count, ending.each)

pub all-seats : (word : TableId) (n : ℕ) (passes : List PassView) (seats : List PassSeat) → AreAll n passes → IsEnding word passes [] seats → AreAllSeats word n seats
all-seats word n passes seats all ending =
    let gave = all-gave word passes seats ending in
    let count = gave.0 in
    record {
      count = count ∙ all.count;
      each = λ at s is.
          let within = slice_get_within seats at s is in
          let there = get-there passes at (omega (arith, within, count)) in
          let seat = (gave.1 at there.0 s there.1 is).pass in
          subst (λ (number : ℕ). IsPassOf word number s) (all.each at there.0 there.1) seat;
    }

-- what is true of all seats is true of their passes
pub all-closed : (word : TableId) (c : CapacityView) (n : ℕ) (passes : List PassView) (seats : List PassSeat) (log stored h : List Entry) → log ≡ stored → h ≡ stored → AreAll n passes → IsEnding word passes [] seats → IsLegal c stored → AreSeatsIn log seats → All (λ (e : Entry). e.number < length seats) log → IsClosed c passes h
all-closed word c n passes seats log stored h log-is h-is all ending legal seats-in numbers =
    let gave = all-gave word passes seats ending in
    let count = gave.0 in
    let same : log ≡ h = log-is ∙ sym h-is in
    record {
      legal = subst (λ (l : List Entry). IsLegal c l) (sym h-is) legal;
      passes = λ at p is.
          let within = slice_get_within passes at p is in
          let there = get-there seats at (omega (arith, within, count)) in
          let seat = gave.1 at p there.0 is there.1 in
          let seat-in = seats-in at there.0 there.1 in
          record {
            begins = subst (λ (l : List Entry). IsPrefix p.seen l) same (prefix-then p.seen (knows there.0).seen log seat.begins seat-in.begins);
            mine = sym seat.mine ∙ seat-in.mine ∙ ap (λ (x : ℕ × List Entry). calls_of x.0 x.1) (λ i. (sym (all.each at p is) i, same i));
          };
      numbers = subst (λ (x : ℕ × List Entry). All (λ (e : Entry). e.number < x.0) x.1) (λ i. (count i, same i)) numbers;
    }
