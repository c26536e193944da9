-- Prices in tables that only fall stay at most the prices.
use Rattle.std.proofs.Common.{◌≡◌, ℕ, ◌+◌, ◌<◌, inl, inr, List, sym, subst, arith}
use Rattle.std.proofs.lemmas.Bool.{cases_lt}
use Rattle.gr_base.specs.Grid.{edge_at}
use Rattle.gr_base.specs.declared.grid.Edge.{Edge}
use Rattle.gr_base.specs.declared.grid.Way.{Way}
use Rattle.net_prices.specs.Arcs.{AreLower}
use Rattle.net_prices.specs.Pricings.{IsPricedBy}
use Rattle.net_prices.specs.declared.pricing.Pricing.{Pricing}
use Rattle.net_prices.proofs.FoldLemmas.{arcs-lower}

module _ (p : Pricing) where
  pub priced-lower : (old new : List ℕ) (e : Edge) → AreLower old new → IsPricedBy p old e → IsPricedBy p new e
  priced-lower old new e lower is d of edge up may =
      let low = arcs-lower p.fold.flat d.frame.shape p.fold.small old new lower e up in
      let was = is d of edge up may in
      let one = was.0 in
      let two = was.1 in
      (omega (arith, low, one), omega (arith, low, two))

  -- the edges from a further cell are priced
  pub priced-next : (old new : List ℕ) (low : ℕ) → AreLower old new → ((e : Edge) → e.low < low → IsPricedBy p old e) →
      ((way : Way) → IsPricedBy p new (edge_at low way)) → (e : Edge) → e.low < low + 1 → IsPricedBy p new e
  priced-next old new low lower before here e below =
      elim (cases_lt e.low low) [
        | inl less ↦ priced-lower old new e lower (before e less)
        | inr last ↦
            let same : e.low ≡ low = omega (arith, below, last) in
            subst (λ (n : ℕ). IsPricedBy p new (edge_at n e.way)) (sym same) (here e.way)
      ]
