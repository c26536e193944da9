use Rattle.std.proofs.Common.{◌==◌, ◌||◌, ℕ, false, List, get_or, refl, ap, ◌∙◌}
use Rattle.std.specs.List.{list_any}
use Rattle.cut_bounds.proofs.TakenLemmas.{within}
use Rattle.cut_bounds.proofs.ShareLemmas.{marks-more}
use Rattle.cut_bounds.proofs.taken.Taken.add.Goals as goal

pub mark_places-requires : goal.mark_places-requires
mark_places-requires c =
    within c.args.shape c.args.self.now.walls.items c.args.self.now.marks.items c.args.self.now.marks.items c.args.self.now.places.items c.deref.result.now c.args.wall
    c.requires.marks c.requires.wall refl c.requires.places c.deref.ensures.value

pub returns-clause-marks : goal.returns-clause-marks
returns-clause-marks c =
    marks-more c.args.shape c.args.self.now.walls.items c.push.new.self.items c.args.self.now.marks.items c.mark_places.new.marks.items c.args.wall
    c.requires.marks c.requires.wall c.in_ok-push.ensures.items c.mark_places.ensures.long
    (λ n. c.mark_places.ensures.each n
    ∙ ap (λ (ns : List ℕ). list_any (λ p. p == n) ns || get_or c.args.self.now.marks.items n false) (c.deref.ensures.value ∙ c.requires.places))
