use Rattle.std.proofs.Common.{◌≡◌, All, length}
use Rattle.work_share.specs.Owners.{IsFresh}
use Rattle.work_share.proofs.dealing.owners.Given as goal

abbrev pub invariant-loop : goal.invariant-loop
invariant-loop l = (length l.owners.items ≡ l.counter) × All IsFresh l.owners.items
