use Rattle.std.proofs.Common.{◌+◌, ◌≤◌, true, [], List, All, refl, sym, ap, subst, ◌∙◌, arith}
use Rattle.std.specs.List.{flat_map}
use Rattle.std.proofs.lemmas.List.Elements.{All-push}
use Rattle.book_state.specs.Extents.{nets_in, IsPart}
use Rattle.book_state.specs.declared.extents.Part.{Part}
use Rattle.book_state.proofs.ExtentSteps.{nets-push}
use Rattle.book_state.proofs.extents.unseen_parts.Goals as goal

pub loop-first-preserved : goal.loop-first-preserved
loop-first-preserved c =
    let capacity = c.args.capacity.now in
    let p : Part = record { extents = c.in_ok-unseen.field-0; victims = c.new.result; first = c.loop-first.first; whole = true } in
    let long = c.in_ok-unseen.ensures.long in
    let within : c.loop-first.first + c.min-count.result ≤ c.args.nets = omega (arith, c.min-count.ensures, c.loop-first.invariant.within, c.loop-first-test.true) in
    record {
      within = within;
      each =
          subst (λ (ps : List Part). All (IsPart capacity []) ps) (sym c.in_ok-push.ensures.items)
          (All-push (IsPart capacity []) c.loop-first.parts.items p c.loop-first.invariant.each (record {
            within = omega (arith, long, within, c.requires.nets);
            few = omega (arith, c.requires.nets, c.requires.few);
            extents = c.in_ok-unseen.ensures.extents;
          }));
      nets = ap (flat_map nets_in) c.in_ok-push.ensures.items ∙ nets-push c.loop-first.parts.items p c.min-count.result (c.loop-first.first + c.min-count.result) c.loop-first.invariant.nets long refl;
    }
