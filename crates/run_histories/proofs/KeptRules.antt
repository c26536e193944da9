-- Histories that keep the rules of rounds, as they begin and grow.
use Rattle.std.proofs.Common.{◌≡◌, ℕ, ◌+◌, suc, List, [], ◌∷◌, ◌++◌, arith}
use Rattle.std.proofs.lemmas.List.Sums.{fold_push}
use Rattle.std.proofs.lemmas.Option.{none-some}
use Rattle.grid_demand.specs.Tables.{capacity_of}
use Rattle.book_state.proofs.LegalHistories.{legal-nothing}
use Rattle.book_state.specs.Marks.{overflow_in}
use Rattle.book_state.specs.declared.entry.Entry.{Entry}
use Rattle.run_histories.proofs.GivenLemmas.{begins-nothing}
use Rattle.run_histories.specs.RunHistories.{Setting, Overflows, no_overflows, overflows_after, overflows_of, KeepsRules}

-- a history without entries keeps all rules where no trees are given
pub first-rules : (t : Setting) → t.given ≡ [] → KeepsRules t []
first-rules t nothing = record {
  legal = legal-nothing (capacity_of t.design);
  given = begins-nothing t nothing;
  numbers = λ p e there. absurd (none-some e there);
  plans = λ p e there. absurd (none-some e there);
  granted = λ p e there. absurd (none-some e there);
  whole = λ p e there. absurd (none-some e there);
  due = λ p e there. absurd (none-some e there);
  asked = λ p e there. absurd (none-some e there);
}

-- an entry's overflow is the last one, if it has one
pub overflows-push : (h : List Entry) (e : Entry) → overflows_of (h ++ e ∷ []) ≡ overflows_after (overflows_of h) (overflow_in e.reply)
overflows-push h e = fold_push (λ (o : Overflows) (x : Entry). overflows_after o (overflow_in x.reply)) no_overflows h e

-- workers are counted from 0, and their numbers from 1
pub one-more : (worker : ℕ) → worker + 1 ≡ suc worker
one-more worker = omega arith
