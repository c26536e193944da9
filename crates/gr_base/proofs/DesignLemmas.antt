-- Nets and their ids.
use Rattle.std.proofs.Common.{◌≡◌, ℕ, ◌+◌, ◌<◌, ◌≤◌, ◌⊎◌, inl, inr, true, false, ◌==◌, nat_eq, cond, List, [], ◌∷◌, ◌++◌, length, map, Option, Some, None, IsTrue, refl, sym, ap, subst, ◌∙◌, arith, length-append, zero, suc}
use Rattle.std.specs.List.{position_from, slice_get}
use Rattle.std.proofs.lemmas.Bool.{both_ways, cases_Bool}
use Rattle.std.proofs.lemmas.List.Elements.{All-push}
use Rattle.std.proofs.lemmas.List.Sums.{sum_by-append}
use Rattle.std.proofs.lemmas.Option.{slice_get_within}
use Rattle.gr_base.specs.Limits.{most_nets, most_pins}
use Rattle.gr_base.specs.Designs.{DesignView, IsNet, IsDesign, net_from, net_with_id, pins_of, is_routed, is_routed_net}
use Rattle.gr_base.specs.declared.frame.Net.{Net}

-- the ids of the nets, in order
abbrev pub ids_of : List Net → List ℕ
ids_of nets = map (λ net. net.id) nets

pub net_from-position : (number id : ℕ) (nets : List Net) → position_from (nat_eq id) number (ids_of nets) ≡ net_from number id nets
net_from-position number id [] = refl
net_from-position number id (net ∷ nets) = ap (λ o. cond (nat_eq id net.id) (Some number) o) (net_from-position (number + 1) id nets)

-- a net that is found stays found when others come behind
pub net_from-found : (number id place : ℕ) (nets more : List Net) → net_from number id nets ≡ Some place → net_from number id (nets ++ more) ≡ Some place
net_from-found number id place [] more found = cc
net_from-found number id place (net ∷ nets) more found =
    elim (cases_Bool (id == net.id)) [
      | inl same ↦ let here = rw same at found in rw same here
      | inr other ↦ let later = rw other at found in rw other (net_from-found (number + 1) id place nets more later)
    ]

-- where none has the id, the search goes on in what comes behind
pub net_from-none : (number id : ℕ) (nets more : List Net) → net_from number id nets ≡ None → net_from number id (nets ++ more) ≡ net_from (number + length nets) id more
net_from-none number id [] more none = ap (λ n. net_from n id more) (omega arith)
net_from-none number id (net ∷ nets) more none =
    elim (cases_Bool (id == net.id)) [
      | inl same ↦ let here = rw same at none in cc
      | inr other ↦
          let later = rw other at none in
          rw other (net_from-none (number + 1) id nets more later ∙ ap (λ n. net_from n id more) (omega arith))
    ]

-- the elements of a list with one more at its end
pub get-push : {X : Type 0} (xs : List X) (y z : X) (n : ℕ) → slice_get (xs ++ y ∷ []) n ≡ Some z → (slice_get xs n ≡ Some z) ⊎ ((n ≡ length xs) × (y ≡ z))
get-push [] y z zero is = inr (refl, cc)
get-push [] y z (suc n) is = inl is
get-push (x ∷ xs) y z zero is = inl is
get-push (x ∷ xs) y z (suc n) is =
    elim (get-push xs y z n is) [ inl h ↦ inl h | inr h ↦ inr (omega (arith, h.0), h.1) ]

-- a design with one more net
abbrev pub with_net : DesignView → Net → DesignView
with_net d net = record { frame = d.frame; nets = d.nets ++ net ∷ []; adjustments = d.adjustments }

pub ids-push : (nets : List Net) (net : Net) →
    ((number : ℕ) → (other : Net) → slice_get nets number ≡ Some other → net_from 0 other.id nets ≡ Some number) →
    net_from 0 net.id nets ≡ None →
    (number : ℕ) → (other : Net) → slice_get (nets ++ net ∷ []) number ≡ Some other → net_from 0 other.id (nets ++ net ∷ []) ≡ Some number
ids-push nets net ids fresh number other is =
    elim (get-push nets net other number is) [
      | inl before ↦ net_from-found 0 other.id number nets (net ∷ []) (ids number other before)
      | inr last ↦
          let P : Net → Type 0 = λ n. net_from 0 n.id (nets ++ net ∷ []) ≡ Some number in
          subst P last.1 (net_from-none 0 net.id nets (net ∷ []) fresh ∙ here ∙ ap Some (omega (arith, last.0)))
    ]
  where
    here : net_from (0 + length nets) net.id (net ∷ []) ≡ Some (0 + length nets)
    here = let same : (net.id == net.id) ≡ true = grind arith in rw same refl

pub IsDesign-push_net : (d : DesignView) (net : Net) → IsDesign d → IsNet d.frame.shape net → net_with_id d net.id ≡ None →
    length d.nets < most_nets → pins_of d.nets + length net.pins ≤ most_pins → IsDesign (with_net d net)
IsDesign-push_net d net design is_net fresh room pins = record {
  frame = design.frame;
  nets = All-push (IsNet d.frame.shape) d.nets net design.nets is_net;
  ids = ids-push d.nets net design.ids fresh;
  adjustments = design.adjustments;
  few_nets = let e = length-append d.nets (net ∷ []) in omega (arith, e);
  few_pins = let e = sum_by-append (λ (n : Net). length n.pins) d.nets (net ∷ []) in omega (arith, e);
  few_adjustments = design.few_adjustments;
}

-- an id that no net has is none of the nets' ids
pub ids-fresh : (ids : List ℕ) (id : ℕ) (nets : List Net) → ids ≡ ids_of nets → net_from 0 id nets ≡ None →
    position_from (nat_eq id) 0 ids ≡ None
ids-fresh ids id nets are none = ap (position_from (nat_eq id) 0) are ∙ net_from-position 0 id nets ∙ none

-- a routed net is one of the design's
pub record IsNetOf (d : DesignView) (number : ℕ) : Type 0 where
  pub net : Net
  pub there : slice_get d.nets number ≡ Some net

pub routed-net : (d : DesignView) (number : ℕ) → IsTrue (is_routed d number) → IsNetOf d number
routed-net d number routed = by_net (slice_get d.nets number) refl
  where
    by_net : (o : Option Net) → slice_get d.nets number ≡ o → IsNetOf d number
    by_net None is = absurd (both_ways false refl (sym (ap is_routed_net is) ∙ routed))
    by_net (Some net) is = record { net = net; there = is }

pub routed-below : (d : DesignView) (number : ℕ) → IsTrue (is_routed d number) → number < length d.nets
routed-below d number routed =
    let one = routed-net d number routed in
    slice_get_within d.nets number one.net one.there
