-- Histories, cut at their marks.
use Rattle.std.specs.Prelude.{ℕ, ◌+◌, Bool, ◌||◌, List, [], ◌∷◌, ◌++◌, if◌then◌else◌, IsTrue}
use Rattle.std.specs.List.{fold}
use Rattle.book_state.specs.Entries.{AtEach, is_mark, is_given}
use Rattle.book_state.specs.declared.entry.Entry.{Entry}

-- a segment begins behind a mark, and the first one behind the claims of given trees
abbrev pub ends_segment : Entry → Bool
ends_segment e = is_mark e || is_given e

-- a history cut where its last segment begins: how many marks it has, what is before the segment, and the segment
pub record Cut : Type 0 where
  pub round : ℕ
  pub before : List Entry
  pub segment : List Entry

abbrev pub uncut : Cut
uncut = record { round = 0; before = []; segment = [] }

abbrev pub cut_after : Cut → Entry → Cut
cut_after cut e =
    if ends_segment e
    then record {
      round = cut.round + (if is_mark e then 1 else 0);
      before = cut.before ++ cut.segment ++ e ∷ [];
      segment = [];
    }
    else record { round = cut.round; before = cut.before; segment = cut.segment ++ e ∷ [] }

unfoldable pub cut : List Entry → Cut
cut h = fold cut_after uncut h

-- P holds at each mark, of the history before the mark, cut where its last segment begins
abbrev pub AtMarks : (Cut → Type 0) → List Entry → Type 0
AtMarks P h = AtEach (λ before e. IsTrue (is_mark e) → P (cut before)) h
