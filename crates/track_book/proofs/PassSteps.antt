-- What passes know when their seats have taken steps.
use Rattle.std.proofs.Common.{◌≡◌, ℕ, ◌-◌, ◌≤◌, List, [], ◌∷◌, ◌++◌, length, take, drop, Option, Some, slice_get, sym, ap, subst, ◌∙◌, arith, length-append}
use Rattle.std.proofs.lemmas.List.{take-append-drop, take-append-le, take_all, length-take}
use Rattle.std.proofs.Math.Seq.{drop-append_seam}
use mathlib.Core.List.{IsPrefix}
use Rattle.atomic_table.specs.Seated.{TableId}
use Rattle.book_front.specs.declared.seat.PassSeat.{PassSeat}
use Rattle.book_front.proofs.Prefixes.{prefix-then}
use Rattle.book_front.proofs.Holding.{get-last}
use Rattle.book_state.specs.Books.{IsLegal}
use Rattle.book_state.specs.Entries.{calls_of}
use Rattle.book_state.specs.declared.entry.Entry.{Entry}
use Rattle.grid_demand.specs.Tables.{CapacityView}
use Rattle.track_book.specs.Passes.{PassView, HasLearnt}
use Rattle.track_book.specs.SeatOptions.{view_in, HasPass, HasNext}
use Rattle.track_book.specs.Stores.{seen_of, pass_of, KeepsPass}

taken-short : {A : Type 0} (past xs : List A) → take (length past) xs ≡ past → length past ≤ length xs
taken-short past xs is =
    let count = ap length (sym is) ∙ length-take (length past) xs in
    omega (arith, count)

-- what a list begins with, its longer ones begin with too
pub take-prefix : {A : Type 0} (past xs ys : List A) → take (length past) xs ≡ past → IsPrefix xs ys → take (length past) ys ≡ past
take-prefix past xs ys is begins =
    let short : length past ≤ length xs = taken-short past xs is in
    ap (λ (l : List _). take (length past) l) (sym begins.1) ∙ take-append-le (length past) xs begins.0 short ∙ is

pub seen-begins : (known : ℕ) (seat : Option PassSeat) → IsPrefix (seen_of known seat) (view_in seat).seen
seen-begins known seat = (drop known (view_in seat).seen, take-append-drop known (view_in seat).seen)

-- what a pass has seen begins what its seat's history begins
pub pass-begins : (number known : ℕ) (seat : Option PassSeat) (past : List Entry) (p : PassView) (log h : List Entry) → pass_of number known seat past ≡ p → IsPrefix (view_in seat).seen log → log ≡ h → IsPrefix p.seen h
pass-begins number known seat past p log h view begins is =
    subst (λ (q : PassView). IsPrefix q.seen h) view
    (prefix-then (seen_of known seat) (view_in seat).seen h (seen-begins known seat) (subst (λ (l : List Entry). IsPrefix (view_in seat).seen l) is begins))

-- a pass whose seat has seen a legal history, all of which the pass then knows
pub has-learnt : (c : CapacityView) (number known more : ℕ) (seat next : Option PassSeat) (past held : List Entry) (p : PassView) (log h : List Entry) → pass_of number known seat past ≡ p → IsPrefix (view_in seat).seen log → (view_in next).seen ≡ log → (view_in next).mine ≡ (view_in seat).mine → log ≡ h → more ≡ length h → IsLegal c h → HasLearnt c p (pass_of number more next held)
has-learnt c number known more seat next past held p log h view begins seen mine is long legal =
    let all : seen_of more next ≡ h = ap (λ (l : List Entry). take more l) (seen ∙ is) ∙ take_all more h (omega (arith, long)) in
    record {
      begins = subst (λ (l : List Entry). IsPrefix p.seen l) (sym all) (pass-begins number known seat past p log h view begins is);
      mine = mine ∙ ap (λ (q : PassView). q.mine) view;
      number = ap (λ (q : PassView). q.number) view;
      legal = subst (λ (l : List Entry). IsLegal c l) (sym all) legal;
    }

-- the last entry of a history with one more entry
pub last-entry : (before after : List Entry) (number known : ℕ) (e : Entry) (next : HasNext before number after) → known ≡ length after → slice_get after (known - 1) ≡ Some e → e ≡ next.e
last-entry before after number known e next long there =
    let is = next.after_is in
    let count = ap (λ (h : List Entry). length h) is ∙ length-append before (next.e ∷ []) in
    let place : known - 1 ≡ length before = omega (arith, long, count) in
    let last : slice_get after (known - 1) ≡ Some next.e =
    ap (λ (x : List Entry × ℕ). slice_get x.0 x.1) (λ i. (is i, place i)) ∙ get-last before next.e in
    cc (sym there ∙ last)

-- the history is what was before it and its last entry
pub with-last : (before after : List Entry) (number : ℕ) (e : Entry) (next : HasNext before number after) → e ≡ next.e → before ++ e ∷ [] ≡ after
with-last before after number e next is = ap (λ (x : Entry). before ++ x ∷ []) is ∙ sym next.after_is

pub after-drop : (before after : List Entry) (number : ℕ) (e : Entry) (next : HasNext before number after) → e ≡ next.e → e ∷ [] ≡ drop (length before) after
after-drop before after number e next is =
    ap (λ (x : Entry). x ∷ []) is ∙ sym (ap (λ (h : List Entry). drop (length before) h) next.after_is ∙ drop-append_seam before (next.e ∷ []))

-- a pass whose seat has added the last entry keeps what passes keep
pub kept-wrote : (word : TableId) (c : CapacityView) (number known more : ℕ) (seat next : Option PassSeat) (past h : List Entry) → KeepsPass word c number known seat past → HasPass word next → (view_in next).number ≡ (view_in seat).number → IsPrefix (view_in seat).seen h → (view_in next).seen ≡ h → (view_in next).mine ≡ calls_of (view_in seat).number (view_in next).seen → more ≡ length h → IsLegal c h → KeepsPass word c number more next past
kept-wrote word c number known more seat next past h keeps pass number-is begins seen calls long legal =
    let all : seen_of more next ≡ h = ap (λ (l : List Entry). take more l) seen ∙ take_all more h (omega (arith, long)) in
    let count = ap (λ (l : List Entry). length l) seen in
    record {
      pass = pass;
      number_is = number-is ∙ keeps.number_is;
      known_is = omega (arith, long, count);
      legal = subst (λ (l : List Entry). IsLegal c l) (sym all) legal;
      calls = calls ∙ ap (λ (x : ℕ × List Entry). calls_of x.0 x.1) (λ i. (keeps.number_is i, (seen ∙ sym all) i));
      past_is = ap (λ (l : List Entry). take (length past) l) all
          ∙ take-prefix past (seen_of known seat) h keeps.past_is (prefix-then (seen_of known seat) (view_in seat).seen h (seen-begins known seat) begins);
    }
