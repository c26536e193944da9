-- Owners that come to know what was taken from their deques.
use Rattle.std.specs.Prelude.{◌≡◌, ℕ, ◌+◌, ◌<◌, ◌==◌, Bool, if◌then◌else◌, List, length, map, sum_by, count_by, All, slice_get, Some}
use Rattle.std.specs.Global.{Vec}
use Rattle.crossbeam_deque.specs.Handles.{view, worker_view, worker_flavor, SameWorker}
use Rattle.work_share.specs.Accounts.{gathered}
use Rattle.work_share.specs.HandStore.{Owner, Pass, known_by, known_of, IsBare, IsHand}
use Rattle.work_share.specs.Views.{DequeName, HandView, deque_of}
use Rattle.work_share.specs.declared.ending.Parted.{Parted}

abbrev pub deque_by : Pass → DequeName
deque_by p = deque_of (known_by p)

abbrev pub IsFifo : Owner → Type 0
IsFifo o = worker_flavor o ≡ 0

abbrev pub HasPart : Owner → Type 0
HasPart o = 0 < (worker_view o).parts

-- of so many hands each other has one part of the deque, and the owner all others
abbrev pub HasOwnParts : ℕ → Owner → Type 0
HasOwnParts hands o = (worker_view o).parts + hands ≡ 1025

-- all parts of the deque are the owner's
abbrev pub IsWhole : Owner → Type 0
IsWhole o = (worker_view o).parts ≡ 1024

-- hands that were taken apart
pub record IsParted (hands : List HandView) (parts : Parted) : Type 0 where
  pub owners : map known_of parts.owners.items ≡ map (λ (h : HandView). h.own) hands
  pub rows : map (λ (row : Vec Pass). map known_by row.items) parts.rows.items ≡ map (λ (h : HandView). h.others) hands
  pub taken : map (λ (nets : Vec ℕ). nets.items) parts.taken.items ≡ map (λ (h : HandView). h.taken) hands
  pub fifo : All IsFifo parts.owners.items
  pub bare : All (λ (row : Vec Pass). All IsBare row.items) parts.rows.items
  pub hands_are : All IsHand hands

-- passes of these deques, in order
pub record AreOf (deques : List DequeName) (row : List Pass) : Type 0 where
  pub bare : All IsBare row
  pub deques_are : map deque_by row ≡ deques

-- an owner with what a pass of its deque knew
abbrev pub IsJoined : Owner → Pass → Owner → Type 0
IsJoined old p new = SameWorker old new × (worker_view new ≡ gathered (worker_view old) (view p))

-- each owner with what the pass of its deque knew
pub record AreJoined (old : List Owner) (row : List Pass) (new : List Owner) : Type 0 where
  pub count : length new ≡ length old
  pub each : (at : ℕ) (o : Owner) (p : Pass) (n : Owner) → slice_get old at ≡ Some o → slice_get row at ≡ Some p →
      slice_get new at ≡ Some n → IsJoined o p n

-- how many of the nets that were taken through an owner, a pass, or the passes of a row, pass a test
abbrev pub taken_by : (ℕ → Bool) → Owner → ℕ
taken_by test o = count_by test (worker_view o).taken

abbrev pub taken_at : (ℕ → Bool) → Pass → ℕ
taken_at test p = count_by test (view p).taken

abbrev pub taken_along : (ℕ → Bool) → Vec Pass → ℕ
taken_along test row = sum_by (taken_at test) row.items

-- how many of the nets that were put in a deque pass a test
abbrev pub put_count : (ℕ → Bool) → Owner → ℕ
put_count test o = count_by test (worker_view o).put

-- through the owners now was taken what was through the owners before and the passes of all rows
abbrev pub HaveGathered : List Owner → List (Vec Pass) → List Owner → Type 0
HaveGathered old rows new =
    (test : ℕ → Bool) → sum_by (taken_by test) new ≡ sum_by (taken_by test) old + sum_by (taken_along test) rows

-- what was put in a deque is what was taken from it and what its owner's nets gained
abbrev pub IsMoved : Owner → List ℕ → List ℕ → Type 0
IsMoved o old new = (test : ℕ → Bool) → put_count test o + count_by test old ≡ taken_by test o + count_by test new

-- what was put in the deques is what was taken from them and the rest
abbrev pub HaveRest : List Owner → List ℕ → Type 0
HaveRest owners rest =
    (test : ℕ → Bool) → sum_by (put_count test) owners ≡ sum_by (taken_by test) owners + count_by test rest

-- the passes of a hand: one part of each other deque
pub record IsRowOf (number : ℕ) (deques : List DequeName) (row : List Pass) : Type 0 where
  pub of : AreOf deques row
  pub parts : (at : ℕ) (p : Pass) → slice_get row at ≡ Some p → (view p).parts ≡ (if at == number then 0 else 1)

-- those of all hands
pub record AreRowsOf (deques : List DequeName) (rows : List (Vec Pass)) : Type 0 where
  pub count : length rows ≡ length deques
  pub each : (number : ℕ) (row : Vec Pass) → slice_get rows number ≡ Some row → IsRowOf number deques row.items
