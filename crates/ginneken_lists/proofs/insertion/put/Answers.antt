use Rattle.std.proofs.Common.{◌≡◌, ◌+◌, true, List, [], ◌∷◌, ◌++◌, length, take, drop, sym, ap, ◌∙◌, arith}
use Rattle.std.proofs.lemmas.List.{length-append, length-take-le}
use Rattle.std.proofs.lemmas.Bool.{cond-true}
use Rattle.std.specs.Result.{is_ok}
use Rattle.std.specs.Vec.{vec_len}
use Rattle.ginneken_lists.specs.Offering.{without_served}
use Rattle.ginneken_lists.specs.declared.stored.Stored.{Stored}
use Rattle.ginneken_lists.proofs.StoredLemmas.{stored-rising}
use Rattle.ginneken_lists.proofs.Placing.{IsPlace, place-is, behind-place, placed, placed-list, placed-marks, placed-some}
use Rattle.ginneken_lists.proofs.insertion.put.Goals as goal

pub remove_served-requires-clause-at : goal.remove_served-requires-clause-at
remove_served-requires-clause-at g c =
    (place-is c.args.pair c.args.pairs.now.items c.args.at c.requires.place).within

pub remove_served-requires-clause-behind : goal.remove_served-requires-clause-behind
remove_served-requires-clause-behind g c =
    behind-place c.args.pair c.args.pairs.now.items c.args.at (stored-rising c.args.pairs.now.items c.requires.list.rising)
    (place-is c.args.pair c.args.pairs.now.items c.args.at c.requires.place)

pub insert-inserted-requires : goal.insert-inserted-requires
insert-inserted-requires g c =
    let old = c.args.pairs.now.items in
    let at = c.args.at in
    let is : IsPlace c.args.pair old at = place-is c.args.pair old at c.requires.place in
    let within = is.within in
    let front = length-take-le at old within in
    let long = length-append (take at old) (without_served c.args.pair (drop at old)) in
    let size : length c.remove_served.new.pairs.items ≡ length (take at old ++ without_served c.args.pair (drop at old)) =
    ap (λ (xs : List Stored). length xs) c.remove_served.ensures.pairs in
    omega (arith, c.remove_served.new.pairs.ok.0)

pub returns : goal.returns
returns g c =
    let old = c.args.pairs.now.items in
    let cleared = c.remove_served.new.pairs.items in
    let new = c.insert-inserted.new.self.items in
    let pair = c.args.pair in
    let at = c.args.at in
    let is : IsPlace pair old at = place-is pair old at c.requires.place in
    let ok : is_ok c.insert-inserted.result ≡ true = sym c.is_ok.ensures.value ∙ c.if-prove.false in
    let new_is : new ≡ take at cleared ++ pair ∷ drop at cleared =
    c.insert-inserted.ensures.items ∙ cond-true (is_ok c.insert-inserted.result) (take at cleared ++ pair ∷ drop at cleared) cleared ok in
    let len : vec_len c.insert-inserted.new.self ≡ vec_len c.remove_served.new.pairs + 1 =
    c.insert-inserted.ensures.len ∙ cond-true (is_ok c.insert-inserted.result) (vec_len c.remove_served.new.pairs + 1) (vec_len c.remove_served.new.pairs) ok in
    record {
      pairs = λ trail. placed pair old cleared new at trail is c.remove_served.ensures.pairs new_is;
      marks = λ most own marks. placed-marks pair old cleared new at most c.remove_served.ensures.pairs new_is own marks;
      list = placed-list pair old new c.requires.list (placed-some pair cleared new at new_is) (placed pair old cleared new at [] is c.remove_served.ensures.pairs new_is);
      len = omega (arith, c.remove_served.ensures.len);
      room = omega (arith, c.insert-inserted.ensures.capacity, c.remove_served.ensures.room);
      steps = c.remove_served.ensures.steps;
    }
