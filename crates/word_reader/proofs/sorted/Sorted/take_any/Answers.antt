use Rattle.std.proofs.Common.{Option, sym, subst}
use Rattle.word_reader.specs.Kept.{TakesWord}
use Rattle.word_reader.specs.declared.sorted.Next.{Next}
use Rattle.word_reader.specs.declared.sorted.Next.TheVariants.{Any}
use Rattle.word_reader.proofs.SortingLemmas.{divides, stands, stands-too-many, awaits, holds, holds-twice, unknown}
use Rattle.word_reader.proofs.sorted.Sorted.take_any.Goals as goal

pub returns-in_err-add-in-Positional : goal.returns-in_err-add-in-Positional
returns-in_err-add-in-Positional c =
    subst (λ (r : Option Next). TakesWord c.args.self.now Any c.args.word.now r c.add.new.self) (sym c.from_residual.ensures)
    (stands-too-many c.args.self.now c.add.new.self c.args.word.now c.in-Positional.ensures c.in_err-add-in-Positional.ensures)

pub returns-in_err-set-in-Holds : goal.returns-in_err-set-in-Holds
returns-in_err-set-in-Holds c =
    subst (λ (r : Option Next). TakesWord c.args.self.now Any c.args.word.now r c.set.new.self) (sym c.from_residual-in_err-set-in-Holds.ensures)
    (holds-twice c.args.self.now c.set.new.self c.args.word.now c.in-Holds.option c.in-Holds.value.now c.in-Holds.ensures c.in_err-set-in-Holds.ensures)

pub returns-in-Divides : goal.returns-in-Divides
returns-in-Divides c = divides c.args.self.now c.args.self.now c.args.word.now c.in-Divides.ensures

pub returns-in_ok-add-in-Positional : goal.returns-in_ok-add-in-Positional
returns-in_ok-add-in-Positional c =
    stands c.args.self.now c.add.new.self c.args.word.now c.in-Positional.ensures c.in_ok-add-in-Positional.ensures

pub returns-in-Awaits : goal.returns-in-Awaits
returns-in-Awaits c = awaits c.args.self.now c.args.self.now c.args.word.now c.in-Awaits.option c.in-Awaits.ensures

pub returns-in_ok-set-in-Holds : goal.returns-in_ok-set-in-Holds
returns-in_ok-set-in-Holds c =
    holds c.args.self.now c.set.new.self c.args.word.now c.in-Holds.option c.in-Holds.value.now c.in-Holds.ensures c.in_ok-set-in-Holds.ensures

pub returns-in-Unknown : goal.returns-in-Unknown
returns-in-Unknown c = unknown c.args.self.now c.args.self.now c.args.word.now c.in-Unknown.ensures
