use Rattle.std.proofs.Common.{Option, Some, None, sym, subst}
use Rattle.word_reader.specs.Kept.{TakesWord}
use Rattle.word_reader.specs.declared.sorted.Next.{Next}
use Rattle.word_reader.specs.declared.sorted.Next.TheVariants.{Any, Positional as Name}
use Rattle.word_reader.proofs.SortingLemmas.{value, value-twice, name, name-too-many}
use Rattle.word_reader.proofs.sorted.Sorted.take.Goals as goal

pub returns-in_err-set-in-Value : goal.returns-in_err-set-in-Value
returns-in_err-set-in-Value c =
    subst (λ (r : Option Next). TakesWord c.args.self.now c.args.next c.args.word.now r c.set.new.self) (sym c.from_residual.ensures)
    (subst (λ (n : Next). TakesWord c.args.self.now n c.args.word.now None c.set.new.self) (sym c.in-Value.is)
    (value-twice c.args.self.now c.set.new.self c.args.word.now c.in-Value.option c.in_err-set-in-Value.ensures))

pub returns-in_err-add-in-Positional : goal.returns-in_err-add-in-Positional
returns-in_err-add-in-Positional c =
    subst (λ (r : Option Next). TakesWord c.args.self.now c.args.next c.args.word.now r c.add.new.self) (sym c.from_residual-in_err-add-in-Positional.ensures)
    (subst (λ (n : Next). TakesWord c.args.self.now n c.args.word.now None c.add.new.self) (sym c.in-Positional.is)
    (name-too-many c.args.self.now c.add.new.self c.args.word.now c.in_err-add-in-Positional.ensures))

pub returns-in_ok-set-in-Value : goal.returns-in_ok-set-in-Value
returns-in_ok-set-in-Value c =
    subst (λ (n : Next). TakesWord c.args.self.now n c.args.word.now (Some Any) c.set.new.self) (sym c.in-Value.is)
    (value c.args.self.now c.set.new.self c.args.word.now c.in-Value.option c.in_ok-set-in-Value.ensures)

pub returns-in_ok-add-in-Positional : goal.returns-in_ok-add-in-Positional
returns-in_ok-add-in-Positional c =
    subst (λ (n : Next). TakesWord c.args.self.now n c.args.word.now (Some Name) c.add.new.self) (sym c.in-Positional.is)
    (name c.args.self.now c.add.new.self c.args.word.now c.in_ok-add-in-Positional.ensures)
