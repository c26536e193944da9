-- The calls of a legal history, made again.
use Rattle.std.proofs.Common.{◌≡◌, ℕ, List, length, Some, slice_get, sym, subst, ◌∙◌, arith}
use Rattle.std.proofs.lemmas.List.{length-take-le}
use Rattle.std.proofs.lemmas.Option.{slice_get_within}
use Rattle.book_state.specs.Books.{IsCall, IsLegal}
use Rattle.book_state.specs.Views.{BookView}
use Rattle.book_state.specs.declared.entry.Entry.{Entry}
use Rattle.grid_demand.specs.Tables.{CapacityView}

-- the call at a place is in range for a book with as many entries
pub call-again : (c : CapacityView) (b : BookView) (h : List Entry) (at : ℕ) (e : Entry) → IsLegal c h → slice_get h at ≡ Some e → b.capacity ≡ c → length b.history ≡ at → IsCall b.capacity (length b.history) e.call
call-again c b h at e legal there capacity long =
    let within = slice_get_within h at e there in
    let count = length-take-le at h (omega (arith, within)) in
    subst (λ (x : CapacityView × ℕ). IsCall x.0 x.1 e.call) (λ i. (sym capacity i, (count ∙ sym long) i)) (legal.right at e there).call
