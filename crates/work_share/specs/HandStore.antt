-- What the fields of a hand keep.
use Rattle.std.specs.Prelude.{◌≡◌, ◌≢◌, ℕ, ◌+◌, ◌<◌, ◌≤◌, Bool, true, List, length, map, sum_by, count_by, slice_get, Option, Some, None, All}
use Rattle.std.specs.Global.{Global}
use Rattle.std.specs.Vec.{vec_capacity}
use Rattle.crossbeam_deque.specs.Handles.{Pass as PassOver, view, taken, worker_deque, worker_view, worker_flavor}
use Rattle.crossbeam_deque.specs.declared.handles.Worker.{Worker}
use Rattle.work_share.specs.declared.account.Balance.{Balance}
use Rattle.work_share.specs.Accounts.{stranger}
use Rattle.work_share.specs.Views.{Known, HandView, put_in}
use Rattle.work_share.specs.declared.account.Account.{Account}
use Rattle.work_share.specs.declared.hand.Hand.TheInside.{Inside}
use Rattle.work_share.specs.declared.hand.HandParts.{HandParts}

abbrev pub Pass : Type 0
Pass = PassOver ℕ Account Global

abbrev pub known_by : Pass → Known
known_by p = record { deque = (p.rows, p.heap); account = view p }

abbrev pub Owner : Type 0
Owner = Worker ℕ Global Account Balance

abbrev pub known_of : Owner → Known
known_of o = record { deque = worker_deque o; account = worker_view o }

abbrev pub seen_in : ℕ → Owner → List Pass → List ℕ → HandView
seen_in number own passes nets =
    record { number = number; taken = nets; own = known_of own; others = map known_by passes; left = map taken passes }

abbrev pub seen : Inside → HandView
seen h = seen_in h.number h.own h.passes.items h.taken.items

abbrev pub hand_of : ℕ → HandParts → HandView
hand_of number parts = seen_in number parts.own parts.passes.items parts.taken.items

-- the pass carries no net
abbrev pub IsBare : Pass → Type 0
IsBare p = (p.me.hand ≡ None) × (p.me.spare ≡ None)

-- of the nets that pass a test no more were taken than were put in
abbrev pub IsWithin : Known → Type 0
IsWithin k = (test : ℕ → Bool) → count_by test k.account.taken ≤ count_by test k.account.put

-- what is true of every hand: it has a part of each other deque, and all other parts of its own. It took what was taken
-- through its accounts; a lone hand took it in that order
pub record IsHand (h : HandView) : Type 0 where
  pub number : h.number < length h.others
  pub few : length h.others ≤ 16
  pub own : h.own.account.parts + length h.others ≡ 1025
  pub home : slice_get h.others h.number ≡ Some record { deque = h.own.deque; account = stranger }
  pub parts : (at : ℕ) (k : Known) → at ≢ h.number → slice_get h.others at ≡ Some k → k.account.parts ≡ 1
  pub alone : length h.others ≡ 1 → (h.own.account.alone ≡ true) × (h.own.account.taken ≡ h.taken)
  pub own_within : IsWithin h.own
  pub within : All IsWithin h.others
  pub counted : (test : ℕ → Bool) → count_by test h.taken
      ≡ count_by test h.own.account.taken + sum_by (λ (k : Known). count_by test k.account.taken) h.others

-- what is next in the hand's own deque, where all that it took is from there and in order
abbrev pub next_own : HandView → Option ℕ
next_own h = slice_get h.own.account.put (length h.taken)

-- how many nets were put in the deques
abbrev pub put_length : HandView → ℕ
put_length h = length h.own.account.put + sum_by (λ (k : Known). length (put_in k)) h.others

pub record KeepsHand (h : Inside) : Type 0 where
  pub hand : IsHand (seen h)
  pub fifo : worker_flavor h.own ≡ 0
  pub bare : All IsBare h.passes.items
  pub room : put_length (seen h) ≤ vec_capacity h.taken
