-- The marks of a history, and the first of least overflow.
use Rattle.std.specs.Prelude.{ℕ, ◌+◌, Bool, true, false, nat_le, List, Option, Some, None, option_map}
use Rattle.std.specs.List.{list_all, position}
use Rattle.book_state.specs.declared.entry.Entry.{Entry}
use Rattle.book_state.specs.declared.entry.Reply.{Reply}
use Rattle.book_state.specs.declared.entry.Reply.TheVariants.{Marked}

-- the overflow that a mark was answered with
abbrev pub overflow_in : Reply → Option ℕ
overflow_in (Marked overflow) = Some overflow
overflow_in _ = None

abbrev pub overflow_of : Entry → Option ℕ
overflow_of e = overflow_in e.reply

-- the overflow is at most that of an entry, if it has one
abbrev pub is_at_most : ℕ → Option ℕ → Bool
is_at_most overflow None = true
is_at_most overflow (Some other) = nat_le overflow other

-- an entry with this overflow, if it has one, is a mark of least overflow
abbrev pub is_least_in : List Entry → Option ℕ → Bool
is_least_in h None = false
is_least_in h (Some overflow) = list_all (λ (e : Entry). is_at_most overflow (overflow_of e)) h

abbrev pub is_least_mark : List Entry → Entry → Bool
is_least_mark h e = is_least_in h (overflow_of e)

-- the length of the shortest first part of the history that ends with a mark of least overflow
abbrev pub least_mark : List Entry → Option ℕ
least_mark h = option_map (λ (place : ℕ). place + 1) (position (is_least_mark h) h)
