-- What is counted of the rounds of a first part of a history.
use Rattle.std.specs.Prelude.{◌≡◌, ℕ, ◌+◌, ◌<◌, ◌≤◌, ◌^◌, List, length, count_by}
use Rattle.std.specs.List.{flat_map}
use Rattle.std.specs.Option.{option_map, option_to_list}
use Rattle.book_state.specs.Entries.{is_mark}
use Rattle.book_state.specs.Marks.{overflow_in}
use Rattle.book_state.specs.declared.entry.Reply.{Reply}
use Rattle.book_state.specs.declared.entry.Entry.{Entry}
use Rattle.round_trace.specs.RoundLines.{round_line}
use Rattle.round_trace.specs.Traces.{behind_mark, books, finds_full, rounds_of}
use Rattle.round_trace.specs.declared.counting.RoundsSoFar.{RoundsSoFar}

pub record IsCountOf (h : List Entry) (c : RoundsSoFar) : Type 0 where
  pub lines : c.lines ≡ flat_map round_line (rounds_of h)
  pub marks : c.marks ≡ count_by is_mark h
  pub nets : c.nets ≡ count_by books (behind_mark h)
  pub full : c.full ≡ count_by finds_full (behind_mark h)
  pub few : c.marks + c.nets + c.full ≤ length h

-- the line of a round that a mark with this reply ends
abbrev pub ended_lines : Reply → (round nets full : ℕ) → List ℕ
ended_lines reply round nets full =
    flat_map round_line (option_to_list (option_map
    (λ (overflow : ℕ). record { round = round; overflow = overflow; nets = nets; full = full }) (overflow_in reply)))

-- the numbers can grow
abbrev pub HasRoom : RoundsSoFar → Type 0
HasRoom c = c.marks + c.nets + c.full < 2 ^ 62
