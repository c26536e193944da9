-- Words that fit no command.
use Rattle.std.proofs.Common.{◌≡◌, ◌<◌, ◌≤◌, Bool, true, false, ◌&&◌, length, get_or, None, if◌then◌else◌, refl, ap, ◌∙◌, arith}
use Rattle.std.proofs.lemmas.Bool.Decides.{nat_tests}
use Rattle.std.proofs.lemmas.List.Folds.{list_all_at}
use Rattle.word_reader.specs.Forms.{command_row, every_option, has, place}
use Rattle.word_reader.specs.Kept.{most_positionals}
use Rattle.word_reader.specs.Orders.{suits, has_all, go_together, fills, fits, order_by}
use Rattle.word_reader.specs.Sorting.{Sorted}
use Rattle.word_reader.specs.declared.form.Command.{Command}
use Rattle.word_reader.specs.declared.form.Command.TheVariants.{Route}
use Rattle.word_reader.specs.declared.form.OptionKind.{OptionKind}
use Rattle.word_reader.specs.declared.form.OptionKind.TheVariants.{Workers}

-- what is computed for each row
most-words : (command : Command) → (command_row command).positionals ≤ most_positionals
most-words Route = omega arith
most-words other = omega arith

at-place : (option : OptionKind) → get_or every_option (place option) option ≡ option
at-place Workers = refl
at-place other = refl

in-place : (option : OptionKind) → place option < length every_option
in-place Workers = omega arith
in-place other = omega arith

-- words that don't fit give no order
unfit : (command : Command) (sorted : Sorted) → fits command sorted ≡ false → order_by command sorted ≡ None
unfit command sorted is = rw is refl

-- more positionals than any command has
pub too-many : (command : Command) (sorted : Sorted) → most_positionals < length sorted.positionals →
    order_by command sorted ≡ None
too-many command sorted more =
    let most = most-words command in
    let other : fills command sorted ≡ false = grind (arith, nat_tests) in
    unfit command sorted (ap (λ (b : Bool). b && has_all command sorted && go_together sorted) other)

-- an option that stands twice
pub twice : (command : Command) (sorted : Sorted) (option : OptionKind) → 1 < length (sorted.values option) →
    order_by command sorted ≡ None
twice command sorted option more = unfit command sorted (by (fills command sorted))
  where
    most : (b : Bool) → (if b then 1 else 0) ≤ 1
    most true = omega arith
    most false = omega arith

    beyond : suits command sorted option ≡ false
    beyond = let few = most (has command option) in grind (arith, nat_tests)

    none : has_all command sorted ≡ false
    none =
        list_all_at (suits command sorted) every_option (place option) option (in-place option)
        (ap (suits command sorted) (at-place option) ∙ beyond)

    by : (b : Bool) → (b && has_all command sorted && go_together sorted) ≡ false
    by true = ap (λ (b : Bool). b && go_together sorted) none
    by false = refl
