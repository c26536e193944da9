use Rattle.std.proofs.Common.{◌≡◌, ◌∙◌, is_some, subst}
use Rattle.gr_io.specs.Texts.{MemoryTexts, held_in}
use Rattle.gr_io.proofs.HeldLemmas.{is_some-held}
use Rattle.gr_io.proofs.memory_shelf.MemoryShelf.holds.Goals as goal

pub returns : goal.returns
returns c =
    subst (λ (now : MemoryTexts). c.is_some.result ≡ is_some (held_in now.texts c.args.name.now)) c.self.view_is
    (c.is_some.ensures ∙ is_some-held _ c.self.inside.texts.items c.args.name.now c.number_of.result c.deref.ensures.value c.number_of.ensures)
