use Rattle.std.proofs.Common.{arith}
use Rattle.maze_route.proofs.PlaceLemmas.{put-push}
use Rattle.maze_route.proofs.places.push_place.Goals as goal

pub returns-clause-put : goal.returns-clause-put
returns-clause-put c = put-push c.args.slots.now.items c.push.new.self.items c.in-Ok.place c.args.slot c.requires (omega (arith, c.in-Ok.ensures, c.len.ensures, c.args.slots.now.ok.0)) c.in_ok-push.ensures.items
