-- What seats know, and how it changes.
use Rattle.std.specs.Prelude.{ℕ, ◌+◌, true, false, List, [], ◌∷◌, ◌++◌}
use Rattle.book_state.specs.declared.entry.Call.TheVariants.{Mark}
use Rattle.book_state.specs.declared.entry.Entry.{Entry}
use Rattle.book_state.specs.declared.entry.Reply.TheVariants.{Marked}
use Rattle.book_front.specs.declared.view.Ended.{Ended}
use Rattle.book_front.specs.declared.view.View.{View}

-- the keeper's view: how many numbers it gave out, what ended passes knew, and the history
abbrev pub keeper_view : ℕ → List Ended → List Entry → View
keeper_view made ended seen =
    record { keeps = true; numbered = false; number = 0; seen = seen; mine = []; old = []; made = made; ended = ended }

-- a pass's view: its number, the history that it has seen, its own entries, and what it had seen before
abbrev pub pass_view : ℕ → List Entry → List Entry → List Entry → View
pass_view number seen mine old = record {
  keeps = false;
  numbered = true;
  number = number;
  seen = seen;
  mine = mine;
  old = old;
  made = 0;
  ended = [];
}

abbrev pub first_keeper : View
first_keeper = keeper_view 0 [] []

-- what is left of a view that was given to another seat
abbrev pub nobody : View
nobody = record { keeps = false; numbered = false; number = 0; seen = []; mine = []; old = []; made = 0; ended = [] }

-- the keeper that has given out one more number, and the pass with that number, which has seen what the keeper has
abbrev pub with_pass : View → View
with_pass v = record v { made = v.made + 1 }

abbrev pub new_pass : View → View
new_pass v = pass_view v.made v.seen [] []

-- a pass that takes the role from the keeper, and has then seen what the keeper has
abbrev pub with_role : View → View → View
with_role v keeper = record v {
  keeps = true;
  seen = keeper.seen;
  old = v.seen;
  made = keeper.made;
  ended = keeper.ended;
}

-- a pass that gives the role back, and the keeper that gets it
abbrev pub without_role : View → View
without_role v = record v { keeps = false; made = 0; ended = [] }

abbrev pub role_of : View → View
role_of v = keeper_view v.made v.ended v.seen

-- what a pass that ends has known, and the keeper that remembers it
abbrev pub ended_of : View → Ended
ended_of v = record { number = v.number; seen = v.seen; mine = v.mine }

abbrev pub with_ended : View → View → View
with_ended v pass = record v { ended = v.ended ++ ended_of pass ∷ [] }

-- a pass that adds an entry of its own
abbrev pub with_entry : View → Entry → View
with_entry v e = record v { seen = v.seen ++ e ∷ []; mine = v.mine ++ e ∷ [] }

-- an entry, where any will do
abbrev pub some_entry : Entry
some_entry = record { number = 0; call = Mark; reply = Marked 0 }
