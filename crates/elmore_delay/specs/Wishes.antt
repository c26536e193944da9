-- What the sinks at a node want, sink by sink.
use Rattle.std.specs.Prelude.{Bool, true, false}
use Rattle.elmore_delay.specs.declared.wants.Wants.{Wants}
use Rattle.elmore_delay.specs.declared.wants.Wants.TheVariants.{Any, Plain, Inverse, Both}

-- what sinks want with one more sink
abbrev pub with_sink : Wants → Bool → Wants
with_sink Any false = Plain
with_sink Any true = Inverse
with_sink Plain false = Plain
with_sink Inverse true = Inverse
with_sink _ _ = Both
