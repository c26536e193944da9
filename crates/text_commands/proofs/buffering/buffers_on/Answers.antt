use Rattle.std.proofs.Common.{◌≡◌, true, false, nat_lt, arith}
use Rattle.std.proofs.lemmas.Bool.Decides.{nat_tests}
use Rattle.text_commands.proofs.PlacingLemmas.{plain-text, polar-text}
use Rattle.text_commands.proofs.buffering.buffers_on.Goals as goal

pub returns-then-version-lt3 : goal.returns-then-version-lt3
returns-then-version-lt3 g c =
    let is : nat_lt c.args.library.now.version 3 ≡ true = grind (arith, nat_tests, c.if-version-lt3.true, c.version.ensures.version) in
    plain-text c.args.design.now c.args.library.now c.args.trees.now c.text_by.result is c.text_by.ensures

pub returns : goal.returns
returns g c =
    let is : nat_lt c.args.library.now.version 3 ≡ false = grind (arith, nat_tests, c.if-version-lt3.false, c.version.ensures.version) in
    polar-text c.args.design.now c.args.library.now c.args.trees.now c.text_by-2.result is c.text_by-2.ensures
