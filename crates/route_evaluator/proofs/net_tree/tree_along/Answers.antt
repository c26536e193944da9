use Rattle.std.proofs.Common.{◌≤◌, ℕ, List, length, subst, sym, ap, ◌∙◌, arith}
use Rattle.std.proofs.lemmas.Bool.{false≢true}
use Rattle.route_evaluator.proofs.CountLemmas.{times}
use Rattle.route_evaluator.proofs.NetTreeLemmas.{has-just, is-tree, as-many-edges, no-pin-left}
use Rattle.route_evaluator.proofs.net_tree.tree_along.Goals as goal
use Rattle.route_evaluator.proofs.net_tree.tree_along.Goals.{then-numbers-len-via-then-numbers-len, then-numbers-len-via-else-numbers-len+then-not-has_all}

pub returns-then-numbers-len-clause-not_tree : goal.returns-then-numbers-len-clause-not_tree
returns-then-numbers-len-clause-not_tree c = λ _ are.
    let numbers = ap (λ (xs : List ℕ). length xs) c.numbers.ensures.numbers in
    let many = as-many-edges c.args.shape c.args.edges.now.numbers c.args.pins.now c.tree_from.new.reached.cells.numbers c.in_ok-tree.tree c.requires.grid c.requires.driver
    c.in_ok-tree.ensures.tree are
    (subst (λ (xs : List ℕ). (n : ℕ) → times xs n ≤ 1) c.numbers.ensures.numbers c.numbers.ensures.once) in
    elim c.then-numbers-len.branch [
      | then-numbers-len-via-then-numbers-len w ↦ omega (arith, many, numbers, c.len.ensures.len, w.if-numbers-len.true)
      | then-numbers-len-via-else-numbers-len+then-not-has_all w ↦
          false≢true (sym w.if-not-has_all.true ∙ w.has_all.ensures
          ∙ no-pin-left c.args.shape c.args.edges.now.numbers c.args.pins.now c.tree_from.new.reached.cells.numbers c.in_ok-tree.tree c.requires.grid c.requires.driver
          c.in_ok-tree.ensures.tree are)
    ]

pub returns-clause-edges : goal.returns-clause-edges
returns-clause-edges c =
    let numbers = ap (λ (xs : List ℕ). length xs) c.numbers.ensures.numbers in
    has-just c.args.shape c.args.edges.now.numbers c.args.pins.now c.tree_from.new.reached.cells.numbers c.in_ok-tree.tree c.requires.grid c.requires.driver
    c.in_ok-tree.ensures.tree (omega (arith, numbers, c.len.ensures.len, c.if-numbers-len.false))

pub returns-clause-ok : goal.returns-clause-ok
returns-clause-ok c =
    let numbers = ap (λ (xs : List ℕ). length xs) c.numbers.ensures.numbers in
    is-tree c.args.shape c.args.edges.now.numbers c.args.pins.now c.tree_from.new.reached.cells.numbers c.in_ok-tree.tree c.requires.grid c.requires.driver
    c.in_ok-tree.ensures.tree (omega (arith, numbers, c.len.ensures.len, c.if-numbers-len.false)) (sym c.has_all.ensures ∙ c.if-not-has_all.false)
