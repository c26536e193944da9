use Rattle.std.proofs.Common.{◌∙◌}
use Rattle.cut_bounds.proofs.TakenLemmas.{is-blocked, passed, taken-more, within}
use Rattle.cut_bounds.proofs.taken.Taken.take_apart.Goals as goal

pub any_marked-requires : goal.any_marked-requires
any_marked-requires c =
    within c.args.shape c.args.self.now.walls.items c.args.self.now.marks.items c.deref.result.now c.gather_places.new.places.items c.deref-2.result.now c.args.wall
    c.requires.marks c.requires.wall c.deref.ensures.value c.in_ok-gather_places.ensures c.deref-2.ensures.value

pub returns-then-any_marked-clause-walls : goal.returns-then-any_marked-clause-walls
returns-then-any_marked-clause-walls c =
    passed c.args.shape c.args.self.now.walls.items c.args.wall
    (is-blocked c.args.shape c.args.self.now.walls.items c.args.self.now.marks.items c.deref.result.now c.gather_places.new.places.items c.deref-2.result.now c.args.wall c.any_marked.result
    c.requires.marks c.requires.wall c.deref.ensures.value c.in_ok-gather_places.ensures c.deref-2.ensures.value c.any_marked.ensures ∙ c.if-any_marked.true)

pub returns-clause-walls : goal.returns-clause-walls
returns-clause-walls c =
    taken-more c.args.shape c.args.self.now.walls.items c.add.new.self.walls.items c.args.wall
    (is-blocked c.args.shape c.args.self.now.walls.items c.args.self.now.marks.items c.deref.result.now c.gather_places.new.places.items c.deref-2.result.now c.args.wall c.any_marked.result
    c.requires.marks c.requires.wall c.deref.ensures.value c.in_ok-gather_places.ensures c.deref-2.ensures.value c.any_marked.ensures ∙ c.if-any_marked.false)
    c.in_ok-add.ensures.walls
