-- The number of a net that is found by its id.
use Rattle.std.proofs.Common.{◌≡◌, ℕ, ◌<◌, nat_eq, length, Option, Some, Result, Ok, Err, IfOk, sym, ◌∙◌, arith}
use Rattle.std.proofs.lemmas.List.{length-map}
use Rattle.std.proofs.lemmas.Iterator.Adapters.{position_from-zero}
use Rattle.std.proofs.lemmas.List.Quantifiers.{position-Some}
use Rattle.gr_base.specs.Designs.{DesignView, net_with_id}
use Rattle.gr_base.specs.declared.frame.Net.{Net}
use Rattle.gr_base.proofs.DesignLemmas.{ids_of, net_from-position}

net-below : (d : DesignView) (id net : ℕ) → net_with_id d id ≡ Some net → net < length d.nets
net-below d id net found =
    let number = position_from-zero (nat_eq id) (ids_of d.nets) ∙ net_from-position 0 id d.nets in
    let place = position-Some (nat_eq id) (ids_of d.nets) net 0 (number ∙ found) in
    let below = place.0 in
    let count = length-map d.nets (λ (n : Net). n.id) in
    omega arith

-- a net that was found is one of the design's
pub found-below : {E : Type 0} (d : DesignView) (id : ℕ) (found : Option ℕ) (result : Result ℕ E) → found ≡ net_with_id d id →
    IfOk result (λ net. found ≡ Some net) → IfOk result (λ net. net < length d.nets)
found-below d id found (Ok net) is given = net-below d id net (sym is ∙ given)
found-below d id found (Err e) is given = tt
