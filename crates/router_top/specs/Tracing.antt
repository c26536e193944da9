-- What is told of the rounds of a history, where it is asked for.
use Rattle.std.specs.Prelude.{ℕ, Bool, List, [], if◌then◌else◌}
use Rattle.book_state.specs.declared.entry.Entry.{Entry}
use Rattle.round_trace.specs.Traces.{trace_text}

abbrev pub rounds_told : (trace : Bool) → List Entry → List ℕ
rounds_told trace h = if trace then trace_text h else []
