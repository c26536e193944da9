use Rattle.std.proofs.Common.{sym, arith}
use Rattle.cost_rules.proofs.RiseLemmas.{plenty}
use Rattle.cost_rules.proofs.formula.scarcity.Goals as goal

pub returns-then-free-gt23-clause-value : goal.returns-then-free-gt23-clause-value
returns-then-free-gt23-clause-value c = sym (plenty 23 c.args.marks c.args.free (let few = c.requires in omega (arith, few)) (omega (arith, c.if-free-gt23.true)))
