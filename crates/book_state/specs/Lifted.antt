-- Loads as they are once a net is released, while it is booked.
use Rattle.std.specs.Prelude.{◌≡◌, ℕ, List, [], ◌∷◌, ◌++◌, length, is_some, IsTrue}
use Rattle.grid_demand.specs.Tables.{CapacityView}
use Rattle.book_state.specs.Books.{nets_of, booked, AreLoadsOf}
use Rattle.book_state.specs.Replicas.{ReplicaView, ArePlaces}
use Rattle.book_state.specs.declared.entry.Call.TheVariants.{Release}
use Rattle.book_state.specs.declared.entry.Entry.{Entry}
use Rattle.book_state.specs.declared.entry.Reply.TheVariants.{Released}

-- an entry frees a net
pub record IsFreeing (net : ℕ) (e : Entry) : Type 0 where
  pub call : e.call ≡ Release net
  pub reply : e.reply ≡ Released

-- a replica stands for a history but for its loads, which are those after the booked net is freed
pub record IsLifted (c : CapacityView) (h : List Entry) (net : ℕ) (r : ReplicaView) : Type 0 where
  pub front : r.front ≡ length h
  pub nets : length r.places ≡ nets_of c
  pub places : ArePlaces h r.places
  pub held : IsTrue (is_some (booked h net))
  pub loads : (e : Entry) → IsFreeing net e → AreLoadsOf c (h ++ e ∷ []) r.loads
