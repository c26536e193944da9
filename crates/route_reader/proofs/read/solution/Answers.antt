use Rattle.route_reader.proofs.read.solution.Goals as goal

pub take_token-requires : goal.take_token-requires
take_token-requires g c = record { fits = c.loop.invariant.gathers.fits }
