-- What the machine of a play was made for.
use Rattle.std.specs.Prelude.{◌≡◌, ℕ}
use Rattle.cost_rules.specs.declared.site.Formula.TheVariants.{First}
use Rattle.gr_base.specs.Designs.{DesignView}
use Rattle.run_histories.specs.RunHistories.{Setting}

-- it plays at this design, by the first formula, with so many workers
pub record IsPlayed (d : DesignView) (count : ℕ) (t : Setting) : Type 0 where
  pub design : t.design ≡ d
  pub formula : t.formula ≡ First
  pub workers : t.workers ≡ count
