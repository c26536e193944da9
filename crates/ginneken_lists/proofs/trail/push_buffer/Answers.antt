use Rattle.std.proofs.Common.{◌≡◌, [], ◌∷◌, ◌++◌, List, length, sym, ap, subst, arith}
use Rattle.std.proofs.lemmas.List.{length_push}
use Rattle.ginneken_lists.specs.TrailStore.{AreChoices}
use Rattle.ginneken_lists.specs.declared.choice.Choice.{Choice}
use Rattle.ginneken_lists.specs.declared.choice.Choice.TheVariants.{Buffer}
use Rattle.ginneken_lists.proofs.TrailLemmas.{AreChoices-push, buffer-named, push-keeps}
use Rattle.ginneken_lists.proofs.trail.push_buffer.Goals as goal

pub returns-clause-buffer : goal.returns-clause-buffer
returns-clause-buffer c =
    let items = c.args.choices.now.items in
    let choice : Choice = Buffer c.args.node c.args.kind c.args.below in
    let more = length_push items choice in
    let size : length c.push_reserved.new.self.items ≡ length (items ++ choice ∷ []) = ap (λ (cs : List Choice). length cs) c.push_reserved.ensures.items in
    buffer-named items c.push_reserved.new.self.items c.args.node c.args.kind c.args.below c.len.result c.push_reserved.ensures.items
    (omega (arith, c.len.ensures, c.push_reserved.new.self.ok.0))

pub returns-clause-mark : goal.returns-clause-mark
returns-clause-mark c = omega (arith, c.len.ensures, c.push_reserved.new.self.ok.0)

pub returns-clause-choices : goal.returns-clause-choices
returns-clause-choices c =
    subst AreChoices (sym c.push_reserved.ensures.items)
    (AreChoices-push c.args.choices.now.items (Buffer c.args.node c.args.kind c.args.below) c.requires.choices tt (omega (arith, c.requires.below)))

pub returns-clause-kept : goal.returns-clause-kept
returns-clause-kept c =
    push-keeps c.args.choices.now.items c.push_reserved.new.self.items (Buffer c.args.node c.args.kind c.args.below) c.push_reserved.ensures.items
