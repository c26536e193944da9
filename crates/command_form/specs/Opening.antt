-- How a text of an order is opened and read.
use Rattle.std.specs.Prelude.{◌≡◌, ℕ, ◌⊎◌, List, Option, Some, None, Result, Ok, Err, IsTrue, IsSomeAnd}
use Rattle.gr_base.specs.Designs.{DesignView}
use Rattle.gr_base.specs.declared.grid.Edge.{Edge}
use Rattle.gr_io.specs.Counts.{Rose}
use Rattle.route_reader.specs.Solutions.{SolutionView, edges_by}
use Rattle.solution_text.specs.Cover.{cover}
use Rattle.gr_io.specs.Devices.{Reading}
use Rattle.command_form.specs.declared.stop.Stop.{Stop}
use Rattle.command_form.specs.declared.stop.Stop.TheVariants.{ReadFailed, NoMemory}

-- a text that was opened: its bytes are those that are held, or a read failed, or the name is missing
abbrev pub IsReached : Reading → (held : Option (List ℕ)) → (left : List ℕ) → Result (Unit {0}) Stop → Type 0
IsReached shelf held left (Ok done) =
    (shelf.faults_after ≡ shelf.faults) × (shelf.misses_after ≡ shelf.misses) × (IsTrue shelf.tells → held ≡ Some left)
IsReached shelf held left (Err ReadFailed) =
    Rose shelf.faults shelf.faults_after ⊎ (Rose shelf.misses shelf.misses_after × (IsTrue shelf.tells → held ≡ None))
IsReached shelf held left (Err NoMemory) = Unit {0}
IsReached shelf held left (Err stop) = ⊥

-- the answer stands for a fault of a text, which its bytes say
pub record TellsFault {V F : Type 0} (shelf : Reading) (said : Option (Result V (F × ℕ)))
    (fault : F → ℕ → Stop) (stop : Stop) : Type 0 where
  pub kind : F
  pub token : ℕ
  pub is : stop ≡ fault kind token
  pub reads : shelf.faults_after ≡ shelf.faults
  pub says : IsTrue shelf.tells → said ≡ Some (Err (kind, token))

-- a text that was opened and read: it says this value, or it is at fault, or a read failed, or the name is missing
abbrev pub Opens : {V F : Type 0} → Reading → (held : Option (List ℕ)) → (said : Option (Result V (F × ℕ))) →
    (F → ℕ → Stop) → Result V Stop → Type 0
Opens shelf held said fault (Ok value) =
    (shelf.faults_after ≡ shelf.faults) × (shelf.misses_after ≡ shelf.misses) ×
    (IsTrue shelf.tells → said ≡ Some (Ok value))
Opens shelf held said fault (Err ReadFailed) =
    Rose shelf.faults shelf.faults_after ⊎ (Rose shelf.misses shelf.misses_after × (IsTrue shelf.tells → held ≡ None))
Opens shelf held said fault (Err NoMemory) = Unit {0}
Opens shelf held said fault (Err stop) = TellsFault shelf said fault stop

-- the solution's runs cover what the held bytes say
abbrev pub IsCovered : DesignView → Option (List ℕ) → SolutionView → Type 0
IsCovered d held s = IsSomeAnd held (λ bytes. (net : ℕ) → (e : Edge) → edges_by s net e ≡ cover d bytes net e)
