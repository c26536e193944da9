use Rattle.std.proofs.Common.{rules, ◌≡◌, ℕ}
use Rattle.std.proofs.lemmas.Fn.{always_returns_same}
use Rattle.std.specs.declared.cmp.Reverse.{Reverse}
use Rattle.cut_bounds.proofs.ExcessLemmas.{excess-ranked}
use Rattle.cut_bounds.specs.Taken.{excess_of}
use Rattle.cut_bounds.specs.declared.wall.MeasuredWall.{MeasuredWall}
use Rattle.cut_bounds.proofs.ranked.rank.Goals as goal

pub returns : goal.returns
returns c =
    let key : MeasuredWall → Reverse ℕ = λ m. record { 0 = excess_of m } in
    excess-ranked c.args.walls.now.items c.sort_by_key.new.self.items
    (c.in_ok-sort_by_key.ensures.sorted key (always_returns_same _ (λ a r. r ≡ key a.0.now) _ (λ a r f q. search rules)))
    (c.in_ok-sort_by_key.ensures.stable key (always_returns_same _ (λ a r. r ≡ key a.0.now) _ (λ a r f q. search rules)))
