-- The rule of the counting word: what the seats' views have to do with the one history, and the word with its length.
use Rattle.std.specs.Prelude.{◌≡◌, ℕ, ◌<◌, true, List, [], ◌∷◌, length, All, Some, slice_get}
use mathlib.Core.List.{IsPrefix}
use mathlib.Core.Option.{some}
use lib.ListN.{get_elem?}
use Rattle.book_state.specs.Entries.{calls_of}
use Rattle.book_state.specs.declared.entry.Entry.{Entry}
use Rattle.book_front.specs.declared.view.Ended.{Ended}
use Rattle.book_front.specs.declared.view.View.{View}

-- who has a number: a seat's view, or what an ended pass knew, each by its place
pub data Holder : Type 0 where
  Seat : ℕ → Holder
  Gone : ℕ → Holder

-- the place of the keeper's view, the one history, how many numbers were given out, and who has each;
-- and what ended passes knew
pub record Standing : Type 0 where
  pub keeper : ℕ
  pub log : List Entry
  pub made : ℕ
  pub holder : ℕ → Holder
  pub ended : List Ended

-- a number is this holder's alone. What the holder has seen begins the history, and its own entries are those of that
-- number in what it has seen, and in the whole history
pub record IsHeldBy (s : Standing) (who : Holder) (number : ℕ) (seen mine : List Entry) : Type 0 where
  pub given : number < s.made
  pub alone : s.holder number ≡ who
  pub begins : IsPrefix seen s.log
  pub known : mine ≡ calls_of number seen
  pub whole : mine ≡ calls_of number s.log

-- the view at the keeper's place, which has seen the whole history
pub record IsKeeping (s : Standing) (place : ℕ) (v : View) : Type 0 where
  pub keeper : place ≡ s.keeper
  pub seen : v.seen ≡ s.log
  pub made : v.made ≡ s.made
  pub ended : v.ended ≡ s.ended

-- a seat's view fits: with the role it is the keeper's, with a number it is a pass's
pub record Fits (s : Standing) (place : ℕ) (v : View) : Type 0 where
  pub role : v.keeps ≡ true → IsKeeping s place v
  pub pass : v.numbered ≡ true → IsHeldBy s (Seat place) v.number v.seen v.mine
  pub old : IsPrefix v.old v.seen

abbrev pub FitsGone : Standing → ℕ → Ended → Type 0
FitsGone s place e = IsHeldBy s (Gone place) e.number e.seen e.mine

-- there is a holder of the number
pub record HasSeat (views : List View) (number place : ℕ) : Type 0 where
  pub v : View
  pub there : get_elem? views place ≡ some v
  pub numbered : v.numbered ≡ true
  pub has : v.number ≡ number

pub record HasGone (ended : List Ended) (number place : ℕ) : Type 0 where
  pub e : Ended
  pub there : slice_get ended place ≡ Some e
  pub has : e.number ≡ number

abbrev pub HasHolder : List View → List Ended → ℕ → Holder → Type 0
HasHolder views ended number (Seat place) = HasSeat views number place
HasHolder views ended number (Gone place) = HasGone ended number place

pub record HasKeeper (views : List View) (place : ℕ) : Type 0 where
  pub v : View
  pub there : get_elem? views place ≡ some v
  pub keeps : v.keeps ≡ true

-- the word is the length of the history; one view has the keeper's role; each number that was given out has one holder;
-- no entry has another number
pub record Kept (words : List ℕ) (views : List View) : Type 0 where
  pub now : Standing
  pub word : words ≡ length now.log ∷ []
  pub keeper : HasKeeper views now.keeper
  pub seats : (place : ℕ) (v : View) → get_elem? views place ≡ some v → Fits now place v
  pub gone : (place : ℕ) (e : Ended) → slice_get now.ended place ≡ Some e → FitsGone now place e
  pub holders : (number : ℕ) → number < now.made → HasHolder views now.ended number (now.holder number)
  pub numbers : All (λ (e : Entry). e.number < now.made) now.log
