use Rattle.std.proofs.Common.{sym, ap, ◌∙◌}
use Rattle.std.specs.Option.{option_map}
use Rattle.gr_io.specs.declared.shelf.Slot.TheVariants.{Library, Solution}
use Rattle.rc_library.specs.LibraryText.{library_of}
use Rattle.router_top.proofs.routing.route.Goals as goal

pub returns : goal.returns
returns g c =
    let d = c.in-Ok.design in
    let shelf = c.args.shelf.now in
    c.route_from.ensures (g.S.Shelf.held shelf) (g.S.Shelf.faults shelf) (g.S.Shelf.misses shelf) c.args.design.now c.args.library.now
    (c.in-Ok-open_library.ensures.opens.0 ∙ c.in-Ok.ensures.opens.0) (c.in-Ok-open_library.ensures.opens.1 ∙ c.in-Ok.ensures.opens.1)
    (λ name. c.in-Ok-open_library.ensures.held Solution name ∙ c.in-Ok.ensures.held Solution name) c.in-Ok.ensures.opens.2
    (λ tells. ap (option_map (library_of d)) (sym (c.in-Ok.ensures.held Library c.args.library.now)) ∙ c.in-Ok-open_library.ensures.opens.2 tells)
