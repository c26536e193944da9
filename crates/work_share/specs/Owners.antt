-- Owners of deques, and the passes that are cut off for hands.
use Rattle.std.specs.Prelude.{◌≡◌, ℕ, ◌+◌, ◌-◌, ◌==◌, Bool, true, false, if◌then◌else◌, nat_lt, List, [], length, All, slice_get, Some}
use Rattle.std.specs.Global.{Vec}
use Rattle.crossbeam_deque.specs.Handles.{worker_deque, worker_view, worker_flavor}
use Rattle.work_share.specs.Accounts.{account, founder, stranger}
use Rattle.work_share.specs.HandStore.{Owner, Pass, known_by, IsBare}
use Rattle.work_share.specs.Views.{DequeName, Known}

-- a deque, and what was put in
pub record Stock : Type 0 where
  pub deque : DequeName
  pub put : List ℕ

abbrev pub stock_of : Owner → Stock
stock_of o = record { deque = worker_deque o; put = (worker_view o).put }

abbrev pub put_by : Owner → List ℕ
put_by o = (worker_view o).put

-- nothing was put in, and nobody else knows the deque
abbrev pub IsFresh : Owner → Type 0
IsFresh o = (worker_flavor o ≡ 0) × (worker_view o ≡ founder)

-- so many parts were cut off, and nothing was taken
pub record IsCut (cuts : ℕ) (o : Owner) : Type 0 where
  pub fifo : worker_flavor o ≡ 0
  pub parts : (worker_view o).parts + cuts ≡ 1024
  pub taken : (worker_view o).taken ≡ []
  pub alone : cuts ≡ 0 → (worker_view o).alone ≡ true

abbrev pub AreCut : (ℕ → ℕ) → List Owner → Type 0
AreCut cuts owners = (at : ℕ) (o : Owner) → slice_get owners at ≡ Some o → IsCut (cuts at) o

abbrev pub no_cuts : ℕ → ℕ
no_cuts at = 0

-- the parts of the deque at a place that the first hands have: each has one, but not of its own
abbrev pub cuts_after : ℕ → ℕ → ℕ
cuts_after hands at = if nat_lt at hands then hands - 1 else hands

-- what a hand knows of a deque: nothing by the pass of its own
abbrev pub row_known : Bool → Stock → Known
row_known home s = record { deque = s.deque; account = if home then stranger else account 1 s.put [] false }

-- the passes of a hand, by deque
pub record IsRow (number : ℕ) (stocks : List Stock) (passes : List Pass) : Type 0 where
  pub count : length passes ≡ length stocks
  pub bare : All IsBare passes
  pub each : (at : ℕ) (p : Pass) (s : Stock) → slice_get passes at ≡ Some p → slice_get stocks at ≡ Some s →
      known_by p ≡ row_known (at == number) s

-- those of each hand
pub record AreRows (stocks : List Stock) (rows : List (Vec Pass)) : Type 0 where
  pub count : length rows ≡ length stocks
  pub each : (number : ℕ) (row : Vec Pass) → slice_get rows number ≡ Some row → IsRow number stocks row.items
