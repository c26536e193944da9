use Rattle.std.proofs.Common.{◌≡◌, ℕ, List, Option, Some, sym, ap, ◌∙◌, arith}
use Rattle.gr_base.specs.Grid.{cells_of}
use Rattle.gr_base.specs.Trees.{TreeView}
use Rattle.book_state.specs.Books.{booked, demand, is_crowded}
use Rattle.book_state.specs.Replicas.{tree_at_place, place_of}
use Rattle.book_state.proofs.Replies.{crowded-same, crowded-table, booked-shape}
use Rattle.book_state.proofs.replica.Replica.is_victim.Goals as goal

pub is_crowded-requires : goal.is_crowded-requires
is_crowded-requires c =
    let capacity = c.args.capacity.now in
    let h = c.args.history.now in
    let is : booked h c.args.net ≡ Some c.in-Some.tree.now =
    sym (c.requires.stands.places c.args.net).tree_there
    ∙ ap (λ (places : List (Option ℕ)). tree_at_place h (place_of places c.args.net)) (sym c.places.ensures) ∙ sym c.in-Some.ensures in
    let shape = booked-shape capacity h c.args.self.now c.args.net c.in-Some.tree.now c.requires.legal c.requires.stands is in
    let cells = ap cells_of (c.requires.stands.loads.shape ∙ sym shape) in
    let long = c.requires.over.long in
    omega (arith, long, cells)

pub returns-in-Some : goal.returns-in-Some
returns-in-Some c =
    let capacity = c.args.capacity.now in
    let h = c.args.history.now in
    let l = c.args.self.now.loads in
    let is : booked h c.args.net ≡ Some c.in-Some.tree.now =
    sym (c.requires.stands.places c.args.net).tree_there
    ∙ ap (λ (places : List (Option ℕ)). tree_at_place h (place_of places c.args.net)) (sym c.places.ensures) ∙ sym c.in-Some.ensures in
    let shape = booked-shape capacity h c.args.self.now c.args.net c.in-Some.tree.now c.requires.legal c.requires.stands is in
    c.is_crowded.ensures.crowded
    ∙ crowded-table capacity l c.args.over.now c.in-Some.tree.now c.requires.over c.requires.stands.loads.shape c.is_crowded.ensures.tree shape
    ∙ crowded-same capacity h l c.in-Some.tree.now c.requires.stands.loads c.is_crowded.ensures.tree shape
    ∙ ap (λ (o : Option TreeView). is_crowded capacity (demand capacity h) o) (sym is)
