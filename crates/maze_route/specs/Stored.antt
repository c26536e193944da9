-- How a queue as it is stored is seen.
use Rattle.std.specs.List.{filter_map}
use Rattle.maze_route.specs.Buckets.{pair_in, Keeps}
use Rattle.maze_route.specs.Queues.{QueueView}
use Rattle.maze_route.specs.declared.queue.BucketQueue.TheInside.{Inside}

abbrev pub seen : Inside → QueueView
seen queue = record { pairs = filter_map pair_in queue.slots.items; last = queue.last }

abbrev pub AreBuckets : Inside → Type 0
AreBuckets queue = Keeps queue.slots.items queue.heads queue.free queue.last
