-- What was shared, hands, and what is left at the end.
use Rattle.std.specs.Prelude.{◌≡◌, ◌≢◌, ℕ, ◌+◌, ◌<◌, ◌⊎◌, ◌==◌, List, [], length, map, slice_set, sum_by, count_by, slice_get, slice_index, Some, All}
use Rattle.std.specs.Global.{Global}
use Rattle.atomic_blocks.specs.Lent.{RowsId}
use Rattle.work_share.specs.Accounts.{WasEmpty}
use Rattle.work_share.specs.Dealt.{dealt, deals}
use Rattle.work_share.specs.declared.account.Account.{Account}

-- which deque it is
abbrev pub DequeName : Type 0
DequeName = RowsId × Global

-- what was shared, to how many workers, and the deques by worker
pub record ShareView : Type 0 where
  pub nets : List ℕ
  pub workers : ℕ
  pub deques : List DequeName

-- a deque, and what is known of it
pub record Known : Type 0 where
  pub deque : DequeName
  pub account : Account

-- a hand: its number and what it took, in order; what it knows of its own deque, and of each deque by number, where of
-- its own it knows nothing; and how many nets it saw to have left each of these
pub record HandView : Type 0 where
  pub number : ℕ
  pub taken : List ℕ
  pub own : Known
  pub others : List Known
  pub left : List ℕ

abbrev pub times : ℕ → List ℕ → ℕ
times net nets = count_by (λ n. n == net) nets

abbrev pub deque_of : Known → DequeName
deque_of k = k.deque

abbrev pub put_in : Known → List ℕ
put_in k = k.account.put

-- the hand is the share's: it knows its deques, and what was put in each
pub record IsHandOf (s : ShareView) (h : HandView) : Type 0 where
  pub number : h.number < s.workers
  pub count : length h.others ≡ s.workers
  pub deques : map deque_of h.others ≡ s.deques
  pub own : put_in h.own ≡ dealt s.workers s.nets h.number
  pub others : map put_in h.others ≡ slice_set (deals s.workers s.nets) h.number []

-- a hand that has taken nothing
pub record IsNewHand (s : ShareView) (number : ℕ) (h : HandView) : Type 0 where
  pub number_is : h.number ≡ number
  pub taken_is : h.taken ≡ []
  pub of : IsHandOf s h

-- the share of nets by these deques
abbrev pub share_of : List ℕ → List DequeName → ShareView
share_of nets deques = record { nets = nets; workers = length deques; deques = deques }

-- the hands of a share, by number, none of which has taken a net
pub record AreNewHands (s : ShareView) (hands : List HandView) : Type 0 where
  pub count : length hands ≡ s.workers
  pub each : (at : ℕ) (h : HandView) → slice_get hands at ≡ Some h → IsNewHand s at h

-- all hands of a share, by number
pub record AreHandsOf (s : ShareView) (hands : List HandView) : Type 0 where
  pub count : length hands ≡ s.workers
  pub numbers : (at : ℕ) (h : HandView) → slice_get hands at ≡ Some h → h.number ≡ at
  pub each : (at : ℕ) (h : HandView) → slice_get hands at ≡ Some h → IsHandOf s h

-- the nets are shared to these hands, of which none has taken any
pub record IsDealt (nets : List ℕ) (workers : ℕ) (s : ShareView) (hands : List HandView) : Type 0 where
  pub nets_are : s.nets ≡ nets
  pub workers_are : s.workers ≡ workers
  pub hands_are : AreHandsOf s hands
  pub taken_are : All (λ (h : HandView). h.taken ≡ []) hands

-- a hand that found nothing to take: each deque was empty, or more nets were seen to leave it than were shared
pub record IsDone (s : ShareView) (old new : HandView) : Type 0 where
  pub own : WasEmpty old.own.account
  pub others : (at : ℕ) (k : Known) → at ≢ old.number → slice_get old.others at ≡ Some k →
      WasEmpty k.account ⊎ (slice_index old.left at + length s.nets < slice_index new.left at)

-- what each hand took, and what is left
pub record EndView : Type 0 where
  pub taken : List (List ℕ)
  pub rest : List ℕ

-- the end tells what each hand took, and each net was shared as often as it was taken or is left
pub record IsEnded (s : ShareView) (hands : List HandView) (end : EndView) : Type 0 where
  pub taken : end.taken ≡ map (λ (h : HandView). h.taken) hands
  pub each : (net : ℕ) → times net s.nets ≡ sum_by (λ (h : HandView). times net h.taken) hands + times net end.rest
