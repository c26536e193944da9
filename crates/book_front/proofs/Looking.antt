-- Steps that only look at the word.
use Rattle.std.proofs.Common.{◌≡◌, ℕ, true, List, [], ◌∷◌, length, All, Some, slice_get, refl, sym, ap, subst, ◌∙◌, arith}
use Rattle.std.specs.Prelude.{◌<◌, slice_index, slice_set}
use mathlib.Core.List.{IsPrefix}
use mathlib.Core.Option.{some}
use lib.ListN.{get_elem?}
use Rattle.atomic_table.specs.Table.{State, Me, Allows, keeps}
use Rattle.atomic_table.proofs.Lists.{set_again}
use Rattle.book_state.specs.Entries.{calls_of}
use Rattle.book_state.specs.declared.entry.Entry.{Entry}
use Rattle.book_front.specs.Rule.{Kept}
use Rattle.book_front.specs.Steps.{Looks, Finishes, IsTold}
use Rattle.book_front.specs.declared.view.Ended.{Ended}
use Rattle.book_front.specs.declared.view.View.{View}
use Rattle.book_front.proofs.Prefixes.{prefix-length}

-- the word is read and written as it was
word-again : (words : List ℕ) (n : ℕ) → words ≡ n ∷ [] → slice_set words 0 (slice_index words 0) ≡ words
word-again words n is = subst (λ (ws : List ℕ). slice_set ws 0 (slice_index ws 0) ≡ ws) (sym is) refl

pub word-found : (words : List ℕ) (n : ℕ) → words ≡ n ∷ [] → slice_index words 0 ≡ n
word-found words n is = ap (λ (ws : List ℕ). slice_index ws 0) is

pub kept-again : (words : List ℕ) (views : List View) (at : ℕ) (v : View) → Kept words views → get_elem? views at ≡ some v → Kept (slice_set words 0 (slice_index words 0)) (slice_set views at v)
kept-again words views at v kept there =
    subst (λ (ws : List ℕ). Kept ws (slice_set views at v)) (sym (word-again words (length kept.now.log) kept.word))
    (subst (λ (vs : List View). Kept words vs) (sym (set_again views at v there)) kept)

abbrev pub rule : State (Unit {0}) View → Type 0
rule s = Kept s.words s.views

-- a pass that looks finds at least as many entries as it has seen
pub pass-looks : (slots at : ℕ) (me : Me (Unit {0}) View) → me.0.numbered ≡ true → Allows rule slots at me 0 (λ n. n) (λ n after. Looks me n after)
pass-looks slots at me numbered s kept count there small =
    let fits = kept.seats at me.0 there in
    let pass = fits.pass numbered in
    let found = word-found s.words (length kept.now.log) kept.word in
    let most = prefix-length me.0.seen kept.now.log pass.begins in (
      me.0,
      keeps,
      tt,
      kept-again s.words s.views at me.0 kept there,
      record { same = refl; most = omega (arith, found, most); old = fits.old; mine = pass.known },
    )

-- the keeper that looks finds the length of its list, and what ended passes knew is true of it
pub keeper-looks : (slots at : ℕ) (me : Me (Unit {0}) View) → me.0.keeps ≡ true → Allows rule slots at me 0 (λ n. n) (λ n after. Finishes me n after)
keeper-looks slots at me keeping s kept count there small =
    let role = (kept.seats at me.0 there).role keeping in
    let found = word-found s.words (length kept.now.log) kept.word in
    let told : (place : ℕ) (e : Ended) → slice_get me.0.ended place ≡ Some e → IsTold me.0.seen e = λ place e is.
    let gone = kept.gone place e (ap (λ (all : List Ended). slice_get all place) (sym role.ended) ∙ is) in
    record {
      begins = subst (λ (log : List Entry). IsPrefix e.seen log) (sym role.seen) gone.begins;
      mine = gone.whole ∙ ap (λ (log : List Entry). calls_of e.number log) (sym role.seen);
    } in
    let numbers = subst (λ (x : List Entry × ℕ). All (λ (e : Entry). e.number < x.1) x.0) (λ i. (sym role.seen i, sym role.made i)) kept.numbers in (
      me.0,
      keeps,
      tt,
      kept-again s.words s.views at me.0 kept there,
      record { same = refl; all = found ∙ ap length (sym role.seen); gone = told; numbers = numbers },
    )
