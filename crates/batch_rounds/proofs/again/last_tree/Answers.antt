use Rattle.std.proofs.Common.{◌≡◌, ◌-◌, length, slice_get, Some, sym, ap, ◌∙◌, refl, arith}
use Rattle.book_state.specs.declared.entry.Claim.{Claim}
use Rattle.batch_rounds.proofs.again.last_tree.Goals as goal

pub returns-in-Claim : goal.returns-in-Claim
returns-in-Claim c = record {
  last = c.entry.result.now;
  claim = c.in-Claim.claim;
  there = ap (slice_get c.args.history.now) (let is = c.in_ok-last.ensures in let long = c.len.ensures.len in omega (arith, is, long)) ∙ c.entry.ensures.entry;
  call = c.in-Claim.is;
  tree_is = refl;
}
