use Rattle.std.proofs.Common.{◌≡◌, ◌++◌, ◌∷◌, [], subst}
use Rattle.gr_io.specs.Texts.{MemoryTexts}
use Rattle.gr_io.proofs.PlaceLemmas.{seen, seen-push}
use Rattle.gr_io.proofs.memory_shelf.MemoryShelf.hold.Goals as goal

pub returns-clause-ok : goal.returns-clause-ok
returns-clause-ok c =
    let inside = c.self.inside in
    subst (λ (now : MemoryTexts). seen c.push.new.self.items inside.places inside.piece inside.misses inside.calls ≡ record now { texts = now.texts ++ record { name = c.args.name.now; bytes = c.args.bytes.now } ∷ [] })
    c.self.view_is
    (seen-push inside.texts.items c.push.new.self.items c.in_ok-text.text _ inside.places inside.piece inside.misses inside.calls c.self.invariant.1 c.in_ok-push.ensures.items c.in_ok-text.ensures)
