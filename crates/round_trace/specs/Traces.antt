-- What each round of a history did, and the text that tells it.
use Rattle.std.specs.Prelude.{ℕ, ◌-◌, Bool, true, false, List, [], ◌∷◌, ◌++◌, Option, None, count_by, if◌then◌else◌, codes}
use Rattle.std.specs.List.{flat_map, fold}
use Rattle.std.specs.Option.{option_map, option_to_list}
use Rattle.book_state.specs.Entries.{is_full_reply, is_mark}
use Rattle.book_state.specs.Marks.{overflow_of}
use Rattle.book_state.specs.declared.entry.Entry.{Entry}
use Rattle.book_state.specs.declared.entry.Reply.{Reply}
use Rattle.book_state.specs.declared.entry.Reply.TheVariants.{Claimed}
use Rattle.gr_text.specs.Lines.{number_line}
use Rattle.round_trace.specs.RoundLines.{round_line}
use Rattle.round_trace.specs.declared.done.RoundDone.{RoundDone}

-- the entry books a tree, and finds no room for one
abbrev pub is_claimed_reply : Reply → Bool
is_claimed_reply Claimed = true
is_claimed_reply _ = false

abbrev pub books : Entry → Bool
books e = is_claimed_reply e.reply

abbrev pub finds_full : Entry → Bool
finds_full e = is_full_reply e.reply

-- the entries behind the last mark of a history
unfoldable pub behind_mark : List Entry → List Entry
behind_mark h = fold (λ (segment : List Entry) (e : Entry). if is_mark e then [] else segment ++ e ∷ []) [] h

-- what the round did that a mark ends: by the entries between it and the mark before, how many claims were answered
-- Claimed, and how many Full
abbrev pub round_done : (before : List Entry) → (overflow : ℕ) → RoundDone
round_done before overflow = record {
  round = count_by is_mark before;
  overflow = overflow;
  nets = count_by books (behind_mark before);
  full = count_by finds_full (behind_mark before);
}

-- an entry ends a round where it is a mark
abbrev pub ended_by : (before : List Entry) → Entry → Option RoundDone
ended_by before e = if is_mark e then option_map (round_done before) (overflow_of e) else None

-- the rounds that end in the rest of a history, by the entries before it
abbrev pub rounds_from : (before rest : List Entry) → List RoundDone
rounds_from before [] = []
rounds_from before (e ∷ rest) = option_to_list (ended_by before e) ++ rounds_from (before ++ e ∷ []) rest

abbrev pub rounds_of : List Entry → List RoundDone
rounds_of h = rounds_from [] h

-- the number of the last round, and a line for each
abbrev pub trace_text : List Entry → List ℕ
trace_text h = number_line (codes "rounds") (count_by is_mark h - 1) ++ flat_map round_line (rounds_of h)
