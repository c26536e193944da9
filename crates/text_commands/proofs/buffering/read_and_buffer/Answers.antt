use Rattle.std.proofs.Common.{sym, ap, ◌∙◌}
use Rattle.std.specs.Option.{option_map}
use Rattle.gr_io.specs.declared.shelf.Slot.TheVariants.{Library, Solution}
use Rattle.rc_library.specs.LibraryText.{library_of}
use Rattle.text_commands.proofs.buffering.read_and_buffer.Goals as goal

pub returns : goal.returns
returns g c =
    let d = c.in_ok-design.design in
    let shelf = c.args.shelf.now in
    c.buffer_opened.ensures (g.S.Shelf.held shelf) (g.S.Shelf.faults shelf) (g.S.Shelf.misses shelf) c.args.design.now c.args.library.now
    (c.in_ok-library.ensures.opens.0 ∙ c.in_ok-design.ensures.opens.0) (c.in_ok-library.ensures.opens.1 ∙ c.in_ok-design.ensures.opens.1)
    (c.in_ok-library.ensures.held Solution c.args.solution.now ∙ c.in_ok-design.ensures.held Solution c.args.solution.now) c.in_ok-design.ensures.opens.2
    (λ tells. ap (option_map (library_of d)) (sym (c.in_ok-design.ensures.held Library c.args.library.now)) ∙ c.in_ok-library.ensures.opens.2 tells)
