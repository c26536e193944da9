use Rattle.std.proofs.Common.{None, refl}
use Rattle.command_form.proofs.LeavingLemmas.{written}
use Rattle.text_commands.specs.Making.{making}
use Rattle.text_commands.proofs.making.make_design.Goals as goal

pub returns : goal.returns
returns g c = λ shelf reads.
    written {K = g.row.K.Denot} (making c.args.made) shelf _ _ None _ _ c.write_design.result refl reads (refl, refl, refl, refl) c.write_design.ensures
