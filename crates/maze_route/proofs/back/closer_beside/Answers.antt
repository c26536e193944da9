use Rattle.std.proofs.Common.{ℕ, ◌<◌, IfSome, sym, subst}
use Rattle.maze_route.proofs.back.closer_beside.Goals as goal

pub closer-requires : goal.closer-requires
closer-requires g c =
    let P : ℕ → Type 0 = λ size. IfSome c.neighbour_on.result (λ n. n.cell < size) in
    subst P (sym c.requires.size) c.neighbour_on.ensures.cell
