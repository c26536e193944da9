use Rattle.std.proofs.Common.{ℕ, List, Option, refl, subst, get_or, arith, rules}
use Rattle.maze_route.specs.Heads.{AreMarked}
use Rattle.maze_route.proofs.HeadLemmas.{word-first}
use Rattle.maze_route.proofs.heads.Heads.first_full.Goals as goal

pub returns-then-bits-ne0 : goal.returns-then-bits-ne0
returns-then-bits-ne0 c =
    let full = c.self.inside.full in
    let word = c.loop-word.word in
    let M : List (Option ℕ) → Type 0 = λ places. AreMarked places full in
    word-first c.args.self.now full word (get_or full word 0) (subst M c.self.view_is c.self.invariant) c.loop-word-test.true refl (omega (arith, c.if-bits-ne0.true)) (search rules) c.loop-word.invariant
