use Rattle.std.proofs.Common.{◌≡◌, ℕ, List, Option, Some, None, sym, ap, subst, ◌∙◌}
use Rattle.maze_route.specs.Windows.{IsWindow}
use Rattle.maze_route.specs.declared.window.Window.{Window}
use Rattle.book_state.specs.Extents.{Bounds}
use Rattle.book_state.specs.Replicas.{tree_at_place, place_of}
use Rattle.book_state.proofs.ExtentSteps.{extent-booked, first-tile}
use Rattle.book_state.proofs.Replies.{booked-shape}
use Rattle.book_state.proofs.extents.extent_of.Goals as goal
use Rattle.book_state.proofs.extents.extent_of.Goals.{in-Some, in-None}

pub returns-clause-extent : goal.returns-clause-extent
returns-clause-extent c =
    let capacity = c.args.capacity.now in
    let h = c.args.history.now in
    let r = c.args.replica.now in
    let net = c.args.net in
    let window = c.match-tree_by_place.window in
    let at : place_of c.places-places.result.now net ≡ place_of r.places net = ap (λ (places : List (Option ℕ)). place_of places net) c.places-places.ensures in
    let there : tree_at_place h (place_of c.places-places.result.now net) ≡ tree_at_place h (place_of r.places net) = ap (tree_at_place h) at in
    elim c.match-tree_by_place.branch [
      | in-Some w ↦
          let t = w.in-Some.tree.now in
          let is : tree_at_place h (place_of r.places net) ≡ Some t = sym there ∙ sym w.in-Some.ensures in
          let shape = booked-shape capacity h r net t c.requires.legal c.requires.stands (sym (c.requires.stands.places net).tree_there ∙ is) in
          extent-booked capacity h r _ net (Some t) c.requires.stands (c.front.ensures ∙ at) is
          (subst (λ (u : Window). IsWindow capacity.shape u) (sym w.window-is) (subst (λ g. IsWindow g w.window_of-window.result) shape w.window_of-window.ensures.window))
          (subst (λ (u : Window). Bounds u t) (sym w.window-is) w.window_of-window.ensures.bounds)
      | in-None w ↦
          extent-booked capacity h r _ net None c.requires.stands (c.front.ensures ∙ at) (sym there ∙ sym w.in-None.ensures)
          (subst (λ (u : Window). IsWindow capacity.shape u) (sym w.window-is) (first-tile capacity.shape)) tt
    ]
