use Rattle.maze_route.proofs.search.settle.Goals as goal

pub returns : goal.returns
returns g c = (
  c.reach_beside.new.front,
  (
    c.in_ok-reach_beside.ensures.done,
    (
      c.reach_beside-2.new.front,
      (
        c.in_ok-reach_beside-2.ensures.done,
        (
          c.reach_beside-3.new.front,
          (
            c.in_ok-reach_beside-3.ensures.done,
            (
              c.reach_beside-4.new.front,
              (
                c.in_ok-reach_beside-4.ensures.done,
                (c.reach_beside-5.new.front, (c.in_ok-reach_beside-5.ensures.done, c.in_ok-reach_beside-6.ensures.done)),
              ),
            ),
          ),
        ),
      ),
    ),
  ),
)
