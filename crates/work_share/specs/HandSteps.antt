-- What takes make of hands.
use Rattle.std.specs.Prelude.{◌≡◌, ℕ, ◌+◌, ◌<◌, ◌≤◌, ◌⊎◌, List, [], ◌∷◌, ◌++◌, length, slice_get, slice_set, slice_index, Some}
use Rattle.work_share.specs.Accounts.{HasTaken, WasEmpty}
use Rattle.work_share.specs.Views.{ShareView, Known, HandView, IsHandOf, times}
use Rattle.work_share.specs.declared.account.Account.{Account}

abbrev pub with_account : Known → Account → Known
with_account k a = record { deque = k.deque; account = a }

-- one more net was taken from the hand's own deque
abbrev pub with_own : HandView → Account → ℕ → HandView
with_own h a net = record {
  number = h.number;
  taken = h.taken ++ net ∷ [];
  own = with_account h.own a;
  others = h.others;
  left = h.left;
}

-- one more was taken from another deque, of which this many were then seen to have left
abbrev pub with_other : HandView → ℕ → Known → ℕ → ℕ → HandView
with_other h place k count net = record {
  number = h.number;
  taken = h.taken ++ net ∷ [];
  own = h.own;
  others = slice_set h.others place k;
  left = slice_set h.left place count;
}

abbrev pub with_left : HandView → List ℕ → HandView
with_left h left = record { number = h.number; taken = h.taken; own = h.own; others = h.others; left = left }

pub record TakesOwn (old : HandView) (net : ℕ) (new : HandView) : Type 0 where
  pub account : Account
  pub took : HasTaken old.own.account (net ∷ []) account
  pub new_is : new ≡ with_own old account net

pub record TakesFrom (place : ℕ) (old : HandView) (net : ℕ) (new : HandView) : Type 0 where
  pub k : Known
  pub there : slice_get old.others place ≡ Some k
  pub account : Account
  pub took : HasTaken k.account (net ∷ []) account
  pub count : ℕ
  pub new_is : new ≡ with_other old place (with_account k account) count net

-- nothing was found in another deque: it was empty, or more nets were seen to leave it than there were tries
pub record FindsNone (place tries : ℕ) (old new : HandView) : Type 0 where
  pub count : ℕ
  pub new_is : new ≡ with_left old (slice_set old.left place count)
  pub done : (k : Known) → slice_get old.others place ≡ Some k →
      WasEmpty k.account ⊎ (slice_index old.left place + tries < slice_index new.left place)

-- one more of its nets was taken by a hand of the share
pub record HasMore (s : ShareView) (old : HandView) (net : ℕ) (new : HandView) : Type 0 where
  pub among : 0 < times net s.nets
  pub of : IsHandOf s new
  pub number : new.number ≡ old.number
  pub taken : new.taken ≡ old.taken ++ net ∷ []

-- nothing was found in the deques from a place on to below another
pub record IsDoneFrom (from to : ℕ) (s : ShareView) (old new : HandView) : Type 0 where
  pub left : List ℕ
  pub new_is : new ≡ with_left old left
  pub same : (at : ℕ) → (at < from) ⊎ (to ≤ at) → slice_index left at ≡ slice_index old.left at
  pub done : (at : ℕ) (k : Known) → from ≤ at → at < to → slice_get old.others at ≡ Some k →
      WasEmpty k.account ⊎ (slice_index old.left at + length s.nets < slice_index left at)
