-- The passes that a keeper makes, and those that it ends.
use Rattle.std.proofs.Common.{◌≡◌, ℕ, ◌+◌, List, [], ◌∷◌, ◌++◌, map, length, Some, slice_get, refl, sym, ap, subst, ◌∙◌, ⊎_elim, arith, length-append, append_assoc, Option, option_map}
use Rattle.std.proofs.lemmas.List.{append-nil, map-append}
use Rattle.std.proofs.lemmas.Option.{slice_get-map}
use mathlib.Core.List.{IsPrefix}
use Rattle.atomic_table.specs.Seated.{TableId}
use Rattle.book_state.specs.Entries.{calls_of}
use Rattle.book_state.specs.declared.entry.Entry.{Entry}
use Rattle.book_state.proofs.HistoryLists.{slice_get-right}
use Rattle.book_front.specs.Seats.{knows, IsKeeper, IsPass, IsNew, AreFresh, AreAll, AreIn}
use Rattle.book_front.specs.Steps.{IsTold}
use Rattle.book_front.specs.Views.{with_pass, new_pass, ended_of, with_ended}
use Rattle.book_front.specs.declared.seat.PassSeat.{PassSeat}
use Rattle.book_front.specs.declared.view.Ended.{Ended}
use Rattle.book_front.specs.declared.view.View.{View}
use Rattle.book_front.proofs.Holding.{get-push}

new-pass : (word : TableId) (at : ℕ) (s : PassSeat) (v : View) → v.seen ≡ [] → v.made ≡ at → s.seat.table_id ≡ word → knows s ≡ new_pass v → IsNew word at s
new-pass word at s v seen made is view = record {
  pass = record { word_is = is; numbered = ap (λ (w : View). w.numbered) view };
  number_is = ap (λ (w : View). w.number) view ∙ made;
  seen = ap (λ (w : View). w.seen) view ∙ seen;
  mine = ap (λ (w : View). w.mine) view;
}

pub fresh-more : (word : TableId) (passes : ℕ) (keeper next seat : PassSeat) (seats : List PassSeat) → AreFresh word passes keeper seats → next.seat.table_id ≡ word → knows next ≡ with_pass (knows keeper) → seat.seat.table_id ≡ word → knows seat ≡ new_pass (knows keeper) → AreFresh word (passes + 1) next (seats ++ seat ∷ [])
fresh-more word passes keeper next seat seats fresh next-word next-view seat-word seat-view =
    let count = fresh.count in
    let more = length-append seats (seat ∷ []) in
    record {
      keeper_is = record {
        word_is = next-word;
        keeps = ap (λ (v : View). v.keeps) next-view ∙ fresh.keeper_is.keeps;
        unnumbered = ap (λ (v : View). v.numbered) next-view ∙ fresh.keeper_is.unnumbered;
      };
      seen = ap (λ (v : View). v.seen) next-view ∙ fresh.seen;
      made = ap (λ (v : View). v.made) next-view ∙ ap (λ (n : ℕ). n + 1) fresh.made;
      count = omega (arith, count, more);
      each = λ at s is.
          ⊎_elim
          (λ (before : slice_get seats at ≡ Some s). fresh.each at s before)
          (λ (last : (at ≡ length seats) × (seat ≡ s)).
          subst (λ (x : ℕ × PassSeat). IsNew word x.0 x.1) (λ i. ((sym count ∙ sym last.0) i, last.1 i))
          (new-pass word passes seat (knows keeper) fresh.seen fresh.made seat-word seat-view))
          (get-push seats seat s at is);
    }

-- the keeper has ended those of the seats that don't remain
pub record IsEnding (word : TableId) (before now : PassSeat) (seats rest : List PassSeat) : Type 0 where
  pub done : List PassSeat
  pub parts : done ++ rest ≡ seats
  pub keeper_is : IsKeeper word now
  pub seen : (knows now).seen ≡ (knows before).seen
  pub made : (knows now).made ≡ (knows before).made
  pub ended : (knows now).ended ≡ (knows before).ended ++ map (λ (s : PassSeat). ended_of (knows s)) done

pub ending-first : (word : TableId) (keeper : PassSeat) (seats : List PassSeat) → IsKeeper word keeper → IsEnding word keeper keeper seats seats
ending-first word keeper seats is = record { done = []; parts = refl; keeper_is = is; seen = refl; made = refl; ended = sym (append-nil (knows keeper).ended) }

pub ending-more : (word : TableId) (before now next seat : PassSeat) (seats rest : List PassSeat) → IsEnding word before now seats (seat ∷ rest) → next.seat.table_id ≡ word → knows next ≡ with_ended (knows now) (knows seat) → IsEnding word before next seats rest
ending-more word before now next seat seats rest ending next-word view =
    let told : PassSeat → Ended = λ s. ended_of (knows s) in
    record {
      done = ending.done ++ seat ∷ [];
      parts = append_assoc ending.done (seat ∷ []) rest ∙ ending.parts;
      keeper_is = record {
        word_is = next-word;
        keeps = ap (λ (v : View). v.keeps) view ∙ ending.keeper_is.keeps;
        unnumbered = ap (λ (v : View). v.numbered) view ∙ ending.keeper_is.unnumbered;
      };
      seen = ap (λ (v : View). v.seen) view ∙ ending.seen;
      made = ap (λ (v : View). v.made) view ∙ ending.made;
      ended = ap (λ (v : View). v.ended) view
          ∙ ap (λ (l : List Ended). l ++ told seat ∷ []) ending.ended
          ∙ append_assoc (knows before).ended (map told ending.done) (told seat ∷ [])
          ∙ ap (λ (l : List Ended). (knows before).ended ++ l) (sym (map-append told ending.done (seat ∷ [])));
    }

-- the next seat is a pass's
pub next-pass : (word : TableId) (made : ℕ) (before now seat : PassSeat) (seats rest : List PassSeat) → AreAll word made seats → IsEnding word before now seats (seat ∷ rest) → IsPass word seat
next-pass word made before now seat seats rest all ending =
    let here : slice_get seats (length ending.done) ≡ Some seat =
    ap (λ (l : List PassSeat). slice_get l (length ending.done)) (sym ending.parts) ∙ slice_get-right ending.done (seat ∷ rest) (length ending.done) 0 (omega arith) in
    (all.each (length ending.done) seat here).pass

-- what the keeper is told of ended passes is true of all seats
pub all-in : (word : TableId) (made : ℕ) (before now : PassSeat) (seats : List PassSeat) → AreAll word made seats → IsEnding word before now seats [] → ((place : ℕ) (e : Ended) → slice_get (knows now).ended place ≡ Some e → IsTold (knows now).seen e) → AreIn (knows before).seen seats
all-in word made before now seats all ending gone at s is =
    let told : PassSeat → Ended = λ x. ended_of (knows x) in
    let old = (knows before).ended in
    let done : ending.done ≡ seats = sym (append-nil ending.done) ∙ ending.parts in
    let ended : (knows now).ended ≡ old ++ map told seats = ending.ended ∙ ap (λ (l : List PassSeat). old ++ map told l) done in
    let here : slice_get (knows now).ended (length old + at) ≡ Some (told s) =
    ap (λ (l : List Ended). slice_get l (length old + at)) ended
    ∙ slice_get-right old (map told seats) (length old + at) at refl
    ∙ slice_get-map told seats at
    ∙ ap (λ (o : Option PassSeat). option_map told o) is in
    let there = gone (length old + at) (told s) here in
    let number = (all.each at s is).number_is in
    record {
      begins = subst (λ (h : List Entry). IsPrefix (knows s).seen h) ending.seen there.begins;
      mine = there.mine ∙ ap (λ (n : ℕ). calls_of n (knows now).seen) number ∙ ap (λ (h : List Entry). calls_of at h) ending.seen;
    }
