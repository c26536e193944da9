use Rattle.book_front.specs.Seats.{word_of, AreFresh}
use Rattle.book_front.proofs.seat.Front.new.Given as goal

-- so many passes were made
abbrev pub invariant-loop : goal.invariant-loop
invariant-loop l = AreFresh (word_of l.front) l.counter l.keeper l.seats.items
