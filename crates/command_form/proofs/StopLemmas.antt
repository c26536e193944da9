-- Lines that were told.
use Rattle.std.proofs.Common.{◌≡◌, ℕ, inl, inr, List, Result, Ok, Err, IfOk, IsErr, IsErrAnd, sym, ap, subst}
use Rattle.gr_io.specs.Devices.{Device, GainsLine}
use Rattle.word_reader.specs.declared.program.Program.{Program}
use Rattle.command_form.specs.Stops.{told_line, TellsLine, IsToldOrNot, IsTold}
use Rattle.command_form.specs.declared.stop.Stop.{Stop}

-- a stop whose line was made and told, or that memory was wanting for it, is told, where it is one of those of which
-- that is all
pub told-line : {E : Type 0} (program : Program) (err : Device) (fault stop told : Stop) (made : Result (List ℕ) E) →
    (IsToldOrNot program err fault told → IsTold program err fault told) → stop ≡ fault →
    IfOk made (λ text. text ≡ told_line program fault) → TellsLine program err made fault told → IsTold program err stop told
told-line {E = E} program err fault stop told made all same line tells =
    subst (λ (s : Stop). IsTold program err s told) (sym same)
    (all (by made line tells))
  where
    by : (r : Result (List ℕ) E) → IfOk r (λ text. text ≡ told_line program fault) → TellsLine program err r fault told →
        IsToldOrNot program err fault told
    by (Ok text) is tells = inl (tells.0, subst (GainsLine err) is tells.1)
    by (Err refused) is tells = inr tells

-- a stop that is handed on
pub handed-on : {A : Type 0} (result : Result A Stop) (stop : Stop) → IsErr result × IsErrAnd result (λ made. made ≡ stop) → result ≡ Err stop
handed-on (Ok value) stop is = absurd is.1
handed-on (Err made) stop is = ap (λ (s : Stop). Err s) is.1
