-- The commands that orders are.
use Rattle.std.specs.Prelude.{Option, Some, None}
use Rattle.command_form.specs.Commands.{Asked, Unasked, Asks}
use Rattle.router_top.specs.Routing.{routing}
use Rattle.router_top.specs.Trying.{trying}
use Rattle.router_top.specs.declared.kept.Kept.{Kept}
use Rattle.text_commands.specs.Buffering.{buffering}
use Rattle.text_commands.specs.Judging.{judging}
use Rattle.text_commands.specs.Making.{making}
use Rattle.text_commands.specs.Tracking.{tracking}
use Rattle.word_reader.specs.Orders.{Order, Route, Evaluate, Buffer, Make, Trial, Panels, Bound}

-- the command that words ask for, if they give an order; none of groute's gives grbound's
abbrev pub asked_by : Option Order → Asked Kept
asked_by None = Unasked
asked_by (Some (Route design library from options)) = Asks (routing design library from options)
asked_by (Some (Evaluate design solution via_cost)) = Asks (judging design solution via_cost)
asked_by (Some (Buffer design library solution)) = Asks (buffering design library solution)
asked_by (Some (Make made)) = Asks (making made)
asked_by (Some (Trial made options)) = Asks (trying made options)
asked_by (Some (Panels design solution)) = Asks (tracking design solution)
asked_by (Some (Bound design via_cost steps workers)) = Unasked
