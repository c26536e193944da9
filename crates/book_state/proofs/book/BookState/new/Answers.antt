use Rattle.std.proofs.Common.{rules, [], List, sym, subst}
use Rattle.std.specs.Arc.{arc_value}
use Rattle.grid_demand.specs.Tables.{CapacityView}
use Rattle.book_state.specs.Extents.{AreParts}
use Rattle.book_state.specs.Replicas.{StandsFor}
use Rattle.book_state.specs.declared.entry.Entry.{Entry}
use Rattle.book_state.proofs.book.BookState.new.Goals as goal

pub invariant_of-result : goal.invariant_of-result
invariant_of-result c =
    let capacity = arc_value c.in_ok-capacity.capacity in
    record {
      legal = search rules;
      stands =
          subst (λ (h : List Entry). StandsFor capacity h c.in_ok-replica.replica) (sym c.new-2.ensures)
          (subst (λ (v : CapacityView). StandsFor v [] c.in_ok-replica.replica) c.deref.ensures c.in_ok-replica.ensures);
      least = search rules;
      parts =
          subst (λ (h : List Entry). AreParts capacity h c.in_ok-parts.parts.items) (sym c.new-2.ensures)
          (subst (λ (v : CapacityView). AreParts v [] c.in_ok-parts.parts.items) c.deref-2.ensures c.in_ok-parts.ensures);
      over = tt;
    }
