-- What the nets of seats cost together.
use Rattle.std.proofs.Common.{◌≡◌, ℕ, ◌+◌, ◌-◌, ◌<◌, ◌≤◌, Bool, true, false, zero, suc, List, [], ◌∷◌, ◌++◌, get_or, length, Result, Ok, Err, IfOk, refl, sym, subst, arith}
use Rattle.std.proofs.lemmas.List.Elements.{All-push}
use Rattle.std.specs.declared.alloc.AllocError.{AllocError}
use Rattle.gr_base.specs.Designs.{DesignView, is_routed}
use Rattle.gr_base.specs.EdgeSets.{Edges}
use Rattle.net_prices.specs.PriceTables.{allowed_by, prices_by}
use Rattle.net_prices.specs.declared.rates.Rates.{Rates}
use Rattle.price_bounds.specs.Costs.{IsCostBound, IsCostOf}
use Rattle.price_bounds.specs.Seats.{IsFor, AreFor, IsPriced, ArePriced}
use Rattle.price_bounds.specs.declared.seats.Seat.{Seat}
use Rattle.price_bounds.proofs.CostLemmas.{more-costs, same-costs, costs-then}
use Rattle.price_laws.specs.Prices.{Prices, JoinsWithin}

-- a net costs nothing or more
pub net-costs : (d : DesignView) (p : Prices) (allowed : Edges) (net cost : ℕ) (routed : Bool) → is_routed d net ≡ routed →
    IsCostOf d p allowed 0 net cost → IsCostOf d p allowed 0 (net + 1) cost
net-costs d p allowed net cost true routed is =
    more-costs d p allowed 0 net cost 0 cost routed is (λ (set : Edges) (joins : JoinsWithin d allowed net set). omega arith) (omega arith)
net-costs d p allowed net cost false routed is = same-costs d p allowed 0 net cost routed is

-- so do further nets
pub more-nets-cost : (d : DesignView) (p : Prices) (allowed : Edges) (net cost more : ℕ) → IsCostOf d p allowed 0 net cost →
    IsCostOf d p allowed 0 (net + more) cost
more-nets-cost d p allowed net cost zero is =
    let same : net ≡ net + zero = omega arith in
    subst (λ (n : ℕ). IsCostOf d p allowed 0 n cost) same is
more-nets-cost d p allowed net cost (suc more) is =
    let same : net + more + 1 ≡ net + suc more = omega arith in
    subst (λ (n : ℕ). IsCostOf d p allowed 0 n cost) same
    (net-costs d p allowed (net + more) cost (is_routed d (net + more)) refl (more-nets-cost d p allowed net cost more is))

pub costs-later : (d : DesignView) (p : Prices) (allowed : Edges) (net to cost : ℕ) → net ≤ to → IsCostOf d p allowed 0 net cost →
    IsCostOf d p allowed 0 to cost
costs-later d p allowed net to cost below is =
    let same : net + (to - net) ≡ to = omega (arith, below) in
    subst (λ (n : ℕ). IsCostOf d p allowed 0 n cost) same (more-nets-cost d p allowed net cost (to - net) is)

-- a further seat's nets are added
pub seat-added : (d : DesignView) (rates : Rates) (weights : List ℕ) (seats : List Seat) → ArePriced d rates weights seats →
    (at counted cost more sum : ℕ) (seat : Seat) → at < length seats → seat ≡ get_or seats at seat → seat.cost ≡ Ok more → sum ≤ cost + more →
    counted ≤ seat.first → IsCostOf d (prices_by rates weights) (allowed_by d rates.usable_only) 0 counted cost →
    (seat.last ≤ length d.nets) × IsCostOf d (prices_by rates weights) (allowed_by d rates.usable_only) 0 seat.last sum
seat-added d rates weights seats priced at counted cost more sum seat below is costs few apart before =
    let here : IsPriced d rates weights seat = subst (λ (s : Seat). IsPriced d rates weights s) (sym is) (priced at seat below) in (
      here.is_for.inside,
      costs-then d (prices_by rates weights) (allowed_by d rates.usable_only) 0 seat.first seat.last cost more sum
          (costs-later d (prices_by rates weights) (allowed_by d rates.usable_only) counted seat.first cost apart before)
          (subst (λ r. IfOk r (λ cost. IsCostOf d (prices_by rates weights) (allowed_by d rates.usable_only) seat.first seat.last cost)) costs here.cost) few,
    )

-- a seat more
pub seats-more : (d : DesignView) (seats new : List Seat) (seat : Seat) → new ≡ seats ++ seat ∷ [] → AreFor d seats → IsFor d seat → AreFor d new
seats-more d seats new seat is all one =
    subst (λ (xs : List Seat). AreFor d xs) (sym is) (All-push (λ (s : Seat). IsFor d s) seats seat all one)

-- what is a bound of all that was priced is one of what was
pub all-seats-cost : (d : DesignView) (rates : Rates) (weights : List ℕ) (seats : List Seat) → ArePriced d rates weights seats → (result : Result ℕ AllocError) →
    IfOk result (λ cost. (d : DesignView) (rates : Rates) (weights : List ℕ) → ArePriced d rates weights seats →
    IsCostBound d (prices_by rates weights) (allowed_by d rates.usable_only) (length d.nets) cost) →
    IfOk result (λ cost. IsCostBound d (prices_by rates weights) (allowed_by d rates.usable_only) (length d.nets) cost)
all-seats-cost d rates weights seats priced (Ok cost) is = is d rates weights priced
all-seats-cost d rates weights seats priced (Err error) is = tt
