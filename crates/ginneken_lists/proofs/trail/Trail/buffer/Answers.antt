use Rattle.std.proofs.Common.{◌≡◌, List, length, ap, ◌∙◌, arith}
use Rattle.ginneken_lists.specs.Candidates.{Chosen}
use Rattle.ginneken_lists.specs.Trails.{trail_of}
use Rattle.ginneken_lists.proofs.TrailLemmas.{length-trail}
use Rattle.ginneken_lists.proofs.trail.Trail.buffer.Goals as goal

pub push_buffer-requires-clause-below : goal.push_buffer-requires-clause-below
push_buffer-requires-clause-below c =
    let same : trail_of c.reserve.new.self.items ≡ c.args.self.now = ap trail_of c.in_ok-reserve.ensures.items ∙ c.self.view_is in
    let size = ap (λ (t : List Chosen). length t) same in
    let long = length-trail c.reserve.new.self.items in
    omega (arith, c.requires.below, size, long)
