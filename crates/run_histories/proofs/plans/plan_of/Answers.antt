use Rattle.net_plan.proofs.FlatLemmas.{if-both}
use Rattle.run_histories.proofs.PlanLemmas.{plan-pattern, plan-maze, routes-net, in-grid}
use Rattle.run_histories.proofs.plans.plan_of.Goals as goal

pub returns-in-Pattern-clause-plan : goal.returns-in-Pattern-clause-plan
returns-in-Pattern-clause-plan g c = λ h of.
    let d = c.args.design.now in
    if-both c.pattern_plan.result
    (λ tree plan routes. plan-pattern d c.args.rule.now.formula c.args.capacity.now h c.args.loads.now c.args.net c.args.kind tree c.requires.capacity of c.in-Pattern.is plan routes)
    c.pattern_plan.ensures.plan (routes-net d c.args.net c.pattern_plan.result c.pattern_plan.ensures.routes)

pub returns-in-Pattern-clause-shape : goal.returns-in-Pattern-clause-shape
returns-in-Pattern-clause-shape g c =
    in-grid c.args.design.now c.args.net c.args.loads.now c.pattern_plan.result c.requires.net c.requires.loads c.pattern_plan.ensures.routes

pub returns-in-Maze-clause-plan : goal.returns-in-Maze-clause-plan
returns-in-Maze-clause-plan g c = λ h of.
    let d = c.args.design.now in
    if-both c.maze_plan.result
    (λ tree plan routes. plan-maze d c.args.rule.now.formula c.args.capacity.now h c.args.loads.now c.args.net c.args.kind c.in-Maze.margin tree c.requires.capacity of c.in-Maze.is plan routes)
    c.maze_plan.ensures.plan (routes-net d c.args.net c.maze_plan.result c.maze_plan.ensures.routes)

pub returns-in-Maze-clause-shape : goal.returns-in-Maze-clause-shape
returns-in-Maze-clause-shape g c =
    in-grid c.args.design.now c.args.net c.args.loads.now c.maze_plan.result c.requires.net c.requires.loads c.maze_plan.ensures.routes
