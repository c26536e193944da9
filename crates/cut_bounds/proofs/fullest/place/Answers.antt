use Rattle.std.proofs.Common.{ℕ, List, length, take, sym, ap, ◌∙◌, arith}
use Rattle.std.specs.List.{insert}
use Rattle.cut_bounds.proofs.FullestLemmas.{ranked-insert}
use Rattle.cut_bounds.specs.Fullest.{is_fuller, place_among}
use Rattle.cut_bounds.specs.declared.wall.MeasuredWall.{MeasuredWall}
use Rattle.cut_bounds.proofs.fullest.place.Goals as goal

pub insert-requires : goal.insert-requires
insert-requires c =
    let same = ap (λ (ws : List MeasuredWall). length ws) c.deref.ensures.value in
    omega (arith, same, c.place_of-at.ensures.within, c.args.fullest.now.ok.0)

pub returns : goal.returns
returns c =
    let walls = c.args.fullest.now.items in
    let at = c.place_of-at.ensures.place ∙ ap (place_among c.args.wall) c.deref.ensures.value in
    c.truncate.ensures.items
    ∙ ap (take 10) (c.in_ok-insert.ensures.items ∙ ap (λ (n : ℕ). insert walls n c.args.wall) at ∙ sym (ranked-insert is_fuller c.args.wall walls))
