-- Runs: tiles without pins whose one edge below is the next node's. The best layers there are passed on from layer to
-- layer.
use Rattle.std.specs.Prelude.{◌≡◌, ◌⊎◌, ℕ, zero, suc, ◌+◌, ◌<◌, ◌≤◌, Bool, ◌&&◌, ◌==◌, not, is_none, nat_lt, Option, None, IfSome, IsSomeAnd}
use Rattle.std.specs.Option.{option_map}
use Rattle.cost_rules.specs.Formulas.{via_price}
use Rattle.layer_assign.specs.declared.span.Best.{Best}
use Rattle.layer_assign.specs.declared.span.Span.{Span}
use Rattle.layer_assign.specs.Spans.{widened, climb}
use Rattle.layer_assign.specs.Tables.{better}

-- a tile is on a run where the next node is the first to join it, and it has no pins and isn't node 0's
abbrev pub is_run : ℕ → ℕ → Option Span → Bool → Bool
is_run parent node pins joined = (parent + 1 == node) && nat_lt 0 parent && is_none pins && not joined

-- a layer with what the limb costs on it
abbrev pub offer_on : (ℕ → Option ℕ) → ℕ → Option Best
offer_on limbs layer = option_map (λ limb. record { layer = layer; cost = limb }) (limbs layer)

-- the same with the climb from another layer
abbrev pub offer_from : (ℕ → Option ℕ) → ℕ → ℕ → Option Best
offer_from limbs from layer =
    option_map (λ limb. record { layer = layer; cost = limb + climb (widened (widened None from) layer) })
    (limbs layer)

-- an offer as the next layer sees it, with one climb more
abbrev pub a_climb_more : Option Best → Option Best
a_climb_more offer = option_map (λ b. record { layer = b.layer; cost = b.cost + via_price }) offer

-- the best of so many layers, as the last of them sees it
unfoldable pub best_up_to : (ℕ → Option ℕ) → ℕ → Option Best
best_up_to limbs zero = None
best_up_to limbs (suc layer) = better (a_climb_more (best_up_to limbs layer)) (offer_on limbs layer)

-- the best of so many layers from one on, as this sees it
unfoldable pub best_from : (ℕ → Option ℕ) → ℕ → ℕ → Option Best
best_from limbs layer zero = None
best_from limbs layer (suc count) =
    better (offer_on limbs layer) (a_climb_more (best_from limbs (layer + 1) count))

-- the cost stands, or it is left out since an offer costs no more
abbrev pub StandsUnless : Option Best → Option ℕ → Option ℕ → Type 0
StandsUnless seen cost left =
    (left ≡ cost) ⊎ ((left ≡ None) × IsSomeAnd seen (λ b. IfSome cost (λ c. b.cost ≤ c)))

-- costs on layers stand, but where the best of the lower layers costs no more with its climb
abbrev pub Thins : ℕ → (ℕ → Option ℕ) → (ℕ → Option ℕ) → Type 0
Thins layers costs left = (layer : ℕ) → layer < layers →
    StandsUnless (a_climb_more (best_up_to left layer)) (costs layer) (left layer)
