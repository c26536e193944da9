-- Reading an item again and again.
use Rattle.std.proofs.Common.{◌≡◌, ℕ, suc, List, [], ◌∷◌, ◌++◌, Result, Ok, Err, IsErr, IsErrAnd, refl, sym, subst}
use Rattle.gr_text.specs.declared.source.ReadError.{ReadError}
use Rattle.gr_text.specs.declared.source.ReadError.TheVariants.{Fault, Failed, NoMemory}
use Rattle.gr_text.specs.Reads.{Reads}
use Rattle.gr_text.specs.Tokens.{Place}
use Rattle.gr_text.specs.Reading.{Read, Reader, several}

-- one more item is read
pub several-next : {F A : Type 0} (item : List A → Reader F A) (count rest : ℕ) (found : List A) (place after : Place) (a : A) →
    count ≡ suc rest → item found place ≡ Ok (a, after) → several item count found place ≡ several item rest (found ++ a ∷ []) after
unfolding several
several-next item count rest found place after a more is = rw more (rw is refl)

-- an item at fault is the fault of them all
pub several-fails : {F A : Type 0} (item : List A → Reader F A) (count rest : ℕ) (found : List A) (place : Place) (fault : F × ℕ) →
    count ≡ suc rest → item found place ≡ Err fault → several item count found place ≡ Err fault
unfolding several
several-fails item count rest found place fault more is = rw more (rw is refl)

-- no further item is due
pub several-done : {F A : Type 0} (item : List A → Reader F A) (count : ℕ) (found : List A) (place : Place) →
    count ≡ 0 → several item count found place ≡ Ok (found, place)
unfolding several
several-done item count found place none = rw none refl

Reads-err : {F A B V W : Type 0} (one : Read F A) (whole : Read F B) (view : V → A) (whole_view : W → B) (e : ReadError F) (place whole_place : Place) →
    ((fault : F × ℕ) → one ≡ Err fault → whole ≡ Err fault) → Reads one view (Err e) place → Reads whole whole_view (Err e) whole_place
Reads-err one whole view whole_view (Fault fault token) place whole_place fails reads = fails (fault, token) reads
Reads-err one whole view whole_view Failed place whole_place fails reads = tt
Reads-err one whole view whole_view NoMemory place whole_place fails reads = tt

-- a reader that passes on the error of one of its parts reads as its grammar does, where the part's fault is the whole's
pub Reads-fails : {F A B V W : Type 0} (one : Read F A) (whole : Read F B) (view : V → A) (whole_view : W → B) (result : Result W (ReadError F)) (e : ReadError F) (place whole_place : Place) →
    IsErr result × IsErrAnd result (λ made. made ≡ e) →
    ((fault : F × ℕ) → one ≡ Err fault → whole ≡ Err fault) → Reads one view (Err e) place → Reads whole whole_view result whole_place
Reads-fails one whole view whole_view (Ok value) e place whole_place is fails reads = let no = is.0 in cc
Reads-fails one whole view whole_view (Err made) e place whole_place is fails reads =
    subst (λ (r : ReadError _). Reads whole whole_view (Err r) whole_place) (sym is.1) (Reads-err one whole view whole_view e place whole_place fails reads)
