use Rattle.std.proofs.Common.{◌≡◌, List, [], ◌∷◌, ◌++◌, length, sym, ap, subst, arith}
use Rattle.std.proofs.lemmas.List.{length_push}
use Rattle.ginneken_lists.specs.TrailStore.{AreChoices}
use Rattle.ginneken_lists.specs.declared.choice.Choice.{Choice}
use Rattle.ginneken_lists.specs.declared.choice.Choice.TheVariants.{Both as Branches}
use Rattle.ginneken_lists.proofs.TrailLemmas.{length-trail, AreChoices-push, both-named, push-keeps}
use Rattle.ginneken_lists.proofs.trail.push_both.Goals as goal

pub returns : goal.returns
returns c =
    let items = c.args.choices.now.items in
    let new = c.push_reserved.new.self.items in
    let left = c.args.left in
    let right = c.args.right in
    let long = length-trail items in
    let longer = length-trail new in
    let more = length_push items (Branches left right) in
    let size : length new ≡ length (items ++ Branches left right ∷ []) = ap (λ (cs : List Choice). length cs) c.push_reserved.ensures.items in
    record {
      both = both-named items new left right c.len.result c.requires.choices c.push_reserved.ensures.items (omega (arith, c.len.ensures, c.push_reserved.new.self.ok.0))
          (omega (arith, c.if-left-eq0.false)) (omega (arith, c.if-right-eq0.false)) c.requires.left c.requires.right;
      mark = omega (arith, c.len.ensures, c.push_reserved.new.self.ok.0);
      choices = subst AreChoices (sym c.push_reserved.ensures.items)
          (AreChoices-push items (Branches left right) c.requires.choices tt (omega (arith, c.requires.left), omega (arith, c.requires.right)));
      kept = push-keeps items new (Branches left right) c.push_reserved.ensures.items;
      len = omega (arith, c.push_reserved.ensures.len);
      capacity = c.push_reserved.ensures.capacity;
    }
