use Rattle.std.proofs.Common.{◌≡◌, ℕ, List, ◌∷◌, ◌++◌, map, Option, Result, Ok, Err, refl, sym, ap, subst, ◌∙◌}
use Rattle.std.specs.Prelude.{OnOk}
use mathlib.Core.List.{IsPrefix}
use Rattle.gr_base.specs.declared.grid.Cell.{Cell}
use Rattle.gr_base.specs.declared.grid.Edge.{Edge}
use Rattle.gr_base.specs.declared.grid.Shape.{Shape}
use Rattle.gr_base.specs.Grid.{place_at}
use Rattle.pattern_route.specs.Steps.{onward}
use Rattle.pattern_route.specs.Walks.{by_column, by_row, walk_cost, first_least, flat_walk, flat_walks, IsFirstLeast, IsDirect}
use Rattle.pattern_route.specs.Lines.{walk_at}
use Rattle.pattern_route.proofs.ChoiceLemmas.{first_least-first}
use Rattle.pattern_route.proofs.DirectLemmas.{flat_walk-direct}
use Rattle.pattern_route.proofs.flat.pattern.Goals as goal

-- what holds of the flat walk between two cells holds of the list in which the least walk between their places was put
such : {A E : Type 0} (g : Shape) (price : Edge → Option ℕ) (a b : ℕ) (from to : Cell) (walk cells : List ℕ) (put : Result A E) (P : List ℕ → Type 0) →
    from ≡ place_at g a → to ≡ place_at g b → walk ≡ first_least (walk_cost g price) (flat_walks g from to) → P (flat_walk g price a b) →
    OnOk put (cells ≡ walk) → OnOk put (P cells)
such g price a b from to walk cells (Ok done) P from_is to_is least holds is =
    let cost : List ℕ → ℕ = walk_cost g price in
    let flat : cells ≡ flat_walk g price a b =
    is ∙ least ∙ ap (λ (c : Cell). first_least cost (flat_walks g c to)) from_is ∙ ap (λ (c : Cell). first_least cost (flat_walks g (place_at g a) c)) to_is in
    subst P (sym flat) holds
such g price a b from to walk cells (Err e) P from_is to_is least holds is = tt

pub returns-clause-walk : goal.returns-clause-walk
returns-clause-walk g c =
    let price = g.C.Costs.price c.args.costs.now in
    such c.args.shape price c.args.a c.args.b c.place_of.result c.place_of-2.result (walk_at c.args.shape c.best_crossing-crossing.result) c.put_walk.new.cells.items
    c.put_walk.result (λ cells. cells ≡ flat_walk c.args.shape price c.args.a c.args.b) c.place_of.ensures.place c.place_of-2.ensures.place
    c.best_crossing-crossing.ensures.first refl c.put_walk.ensures.all

pub returns-clause-part : goal.returns-clause-part
returns-clause-part g c =
    let shape = c.args.shape in
    let price = g.C.Costs.price c.args.costs.now in
    let cost : List ℕ → ℕ = walk_cost shape price in
    let begins : List ℕ → Type 0 = λ walk. IsPrefix c.put_walk.new.cells.items walk in
    let from : Cell → List ℕ = λ a. first_least cost (flat_walks shape a c.place_of-2.result) in
    let to : Cell → List ℕ = λ b. first_least cost (flat_walks shape (place_at shape c.args.a) b) in
    subst begins (c.best_crossing-crossing.ensures.first ∙ ap from c.place_of.ensures.place ∙ ap to c.place_of-2.ensures.place) c.put_walk.ensures.part

pub returns-clause-first : goal.returns-clause-first
returns-clause-first g c =
    let shape = c.args.shape in
    let price = g.C.Costs.price c.args.costs.now in
    let cost : List ℕ → ℕ = walk_cost shape price in
    let a = place_at shape c.args.a in
    let b = place_at shape c.args.b in
    let rest = map (by_column shape a b) (onward a.x b.x) ++ map (by_row shape a b) (a.y ∷ onward a.y b.y) in
    such shape price c.args.a c.args.b c.place_of.result c.place_of-2.result (walk_at shape c.best_crossing-crossing.result) c.put_walk.new.cells.items
    c.put_walk.result (λ cells. IsFirstLeast cost (flat_walks shape a b) cells) c.place_of.ensures.place c.place_of-2.ensures.place
    c.best_crossing-crossing.ensures.first (first_least-first cost (by_column shape a b a.x) rest) c.put_walk.ensures.all

pub returns-clause-direct : goal.returns-clause-direct
returns-clause-direct g c =
    let shape = c.args.shape in
    let price = g.C.Costs.price c.args.costs.now in
    such shape price c.args.a c.args.b c.place_of.result c.place_of-2.result (walk_at shape c.best_crossing-crossing.result) c.put_walk.new.cells.items
    c.put_walk.result (λ cells. IsDirect shape c.args.a c.args.b cells) c.place_of.ensures.place c.place_of-2.ensures.place
    c.best_crossing-crossing.ensures.first (flat_walk-direct shape price c.args.a c.args.b c.requires.flat.level c.requires.a c.requires.b) c.put_walk.ensures.all
