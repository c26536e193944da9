use Rattle.std.proofs.Common.{Some, refl, sym, subst}
use Rattle.gr_io.specs.Devices.{Reading, reading_of}
use Rattle.gr_io.specs.declared.shelf.Slot.TheVariants.{Solution}
use Rattle.kept_routes.specs.Kept.{AreKept}
use Rattle.command_form.proofs.StopLemmas.{handed-on}
use Rattle.text_commands.proofs.BufferingLemmas.{by-cover}
use Rattle.router_top.specs.Beginning.{OpensBeginning}
use Rattle.router_top.proofs.beginning.open_kept.Goals as goal

pub returns : goal.returns
returns g c =
    let d = c.args.design.now in
    let s = c.in_ok-solution.solution in
    let held = g.S.Shelf.held c.args.shelf.now Solution c.args.name.now in (
      c.in_ok-solution.ensures.opens.0,
      c.in_ok-solution.ensures.opens.1,
      record {
        told = refl;
        solution = s;
        said = c.in_ok-solution.ensures.opens.2;
        kept = c.in-Ok.ensures;
        covered = λ tells. by-cover (λ sets. AreKept d sets c.in-Ok.given) d s held (c.in_ok-solution.ensures.covered tells) c.in-Ok.ensures;
      },
    )

pub returns-in_err-solution : goal.returns-in_err-solution
returns-in_err-solution g c =
    let s = g.S.Shelf in
    let shelf : Reading = reading_of s.tells s.held s.faults s.misses c.args.shelf.now c.open_solution.new.shelf in
    subst (OpensBeginning shelf c.args.design.now (Some c.args.name.now)) (sym (handed-on c.from_residual.result _ c.from_residual.ensures))
    c.in_err-solution.ensures.opens
