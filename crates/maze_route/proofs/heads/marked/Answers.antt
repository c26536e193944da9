use Rattle.std.proofs.Common.{◌∙◌, sym, ap, if◌then◌else◌, w64}
use Rattle.std.proofs.lemmas.Nat.Bits.{bit_at_set_same, bit_at_set_other, bit_at_clear_same, bit_at_clear_other}
use Rattle.maze_route.proofs.heads.marked.Goals as goal

pub returns-then-full-clause-own : goal.returns-then-full-clause-own
returns-then-full-clause-own c = bit_at_set_same w64 c.args.word c.args.bit c.requires ∙ sym (ap (λ b. if b then 1 else 0) c.if-full.true)

pub returns-then-full-clause-others : goal.returns-then-full-clause-others
returns-then-full-clause-others c = λ other low apart. bit_at_set_other w64 c.args.word c.args.bit c.requires other apart

pub returns-else-full-clause-own : goal.returns-else-full-clause-own
returns-else-full-clause-own c = bit_at_clear_same w64 c.args.word c.args.bit c.requires ∙ sym (ap (λ b. if b then 1 else 0) c.if-full.false)

pub returns-else-full-clause-others : goal.returns-else-full-clause-others
returns-else-full-clause-others c = λ other low apart. bit_at_clear_other w64 c.args.word c.args.bit c.requires other low apart
