use Rattle.std.proofs.Common.{sym}
use Rattle.rc_library.specs.GatheredStore.{seen}
use Rattle.rc_library.proofs.GatheredLemmas.{IsLibrary-finished}
use Rattle.rc_library.proofs.gathered.Gathered.finish.Goals as goal

pub invariant_of-result : goal.invariant_of-result
invariant_of-result c =
    IsLibrary-finished (seen c.self.inside) c.in-Some.wires.items c.in-Some-via.via c.in-Some-driver.driver c.in-Some-sink.sink c.self.invariant
    (rw (c.in-Some.is, c.deref.ensures.value) at (sym c.in_ok-wires.ensures)) c.in-Some-via.is c.in-Some-driver.is c.in-Some-sink.is

pub returns-clause-fits : goal.returns-clause-fits
returns-clause-fits c =
    IsLibrary-finished (seen c.self.inside) c.in-Some.wires.items c.in-Some-via.via c.in-Some-driver.driver c.in-Some-sink.sink c.self.invariant
    (rw (c.in-Some.is, c.deref.ensures.value) at (sym c.in_ok-wires.ensures)) c.in-Some-via.is c.in-Some-driver.is c.in-Some-sink.is
