use Rattle.rc_library.proofs.GatheredLemmas.{finished-given}
use Rattle.rc_library.proofs.text.finish.Goals as goal

pub returns-clause-of : goal.returns-clause-of
returns-clause-of g c =
    finished-given c.args.design.now c.args.gathered c.in-Ok.library c.given.result c.requires.of c.in-Ok.ensures.library c.in-Ok.ensures.fits c.given.ensures.value
