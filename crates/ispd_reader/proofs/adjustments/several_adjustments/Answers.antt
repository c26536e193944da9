use Rattle.std.proofs.Common.{◌≡◌, ℕ, ◌+◌, ◌-◌, suc, List, [], ◌∷◌, ◌++◌, length, Ok, Err, sym, ap, subst, ◌∙◌, arith}
use Rattle.std.proofs.lemmas.List.{length_push}
use Rattle.gr_base.specs.declared.frame.Adjustment.{Adjustment}
use Rattle.gr_base.specs.Designs.{DesignView}
use Rattle.gr_base.specs.declared.grid.Shape.{Shape}
use Rattle.gr_base.specs.declared.frame.Frame.{Frame}
use Rattle.gr_text.specs.Tokens.{Place}
use Rattle.gr_text.specs.Reading.{Reader, several}
use Rattle.ispd_reader.specs.Adjustments.{adjustment}
use Rattle.ispd_reader.specs.declared.fault.DesignFault.{DesignFault}
use Rattle.gr_text.proofs.SeveralLemmas.{Reads-fails, several-next, several-fails, several-done}
use Rattle.ispd_reader.proofs.adjustments.several_adjustments.Goals as goal

pub returns-in_err-adjustment-clause-reads : goal.returns-in_err-adjustment-clause-reads
returns-in_err-adjustment-clause-reads g c tells =
    let item : List Adjustment → Reader DesignFault Adjustment = λ _. adjustment c.args.design.now.frame.shape in
    let place : Place = g.S.TokenSource.place c.loop.source in
    let shape : c.frame.result.now.shape ≡ c.args.design.now.frame.shape = ap (λ (f : Frame). f.shape) c.frame.ensures.frame in
    let more : c.args.count - c.loop.counter ≡ suc (c.args.count - (c.loop.counter + 1)) = omega arith in
    Reads-fails _ _ (λ (a : Adjustment). a) _ c.from_residual.result c.in_err-adjustment.field-0.0 _ _ c.from_residual.ensures
    (λ fault is. sym (c.loop.invariant.reads tells) ∙ several-fails item _ _ c.loop.design.adjustments _ fault more
    (subst (λ (s : Shape). adjustment s place ≡ Err fault) shape is))
    (c.in_err-adjustment.ensures.reads tells)

pub loop-preserved : goal.loop-preserved
loop-preserved g c =
    let item : List Adjustment → Reader DesignFault Adjustment = λ _. adjustment c.args.design.now.frame.shape in
    let place : Place = g.S.TokenSource.place c.loop.source in
    let after : Place = g.S.TokenSource.place c.adjustment.new.source in
    let shape : c.frame.result.now.shape ≡ c.args.design.now.frame.shape = ap (λ (f : Frame). f.shape) c.frame.ensures.frame in
    let more : c.args.count - c.loop.counter ≡ suc (c.args.count - (c.loop.counter + 1)) = omega arith in
    let pushed = c.in-Ok.ensures.ok in
    let adjustments : c.push_adjustment.new.self.adjustments ≡ c.loop.design.adjustments ++ c.in_ok-adjustment.adjustment ∷ [] = ap (λ (d : DesignView). d.adjustments) pushed in
    record {
      reads = λ tells.
          ap (λ (all : List Adjustment). several item (c.args.count - (c.loop.counter + 1)) all after) adjustments
          ∙ sym (several-next item _ _ c.loop.design.adjustments _ _ c.in_ok-adjustment.adjustment more
          (subst (λ (s : Shape). adjustment s place ≡ Ok (c.in_ok-adjustment.adjustment, after)) shape (c.in_ok-adjustment.ensures.reads tells)))
          ∙ c.loop.invariant.reads tells;
      faults = c.in_ok-adjustment.ensures.moves.counts ∙ c.loop.invariant.faults;
      origin = c.adjustment.ensures.moves.same ∙ c.loop.invariant.origin;
      onward = λ bytes read. c.in_ok-adjustment.ensures.moves.onward bytes (c.loop.invariant.onward bytes read);
      frame = ap (λ (d : DesignView). d.frame) pushed ∙ c.loop.invariant.frame;
      nets = ap (λ (d : DesignView). d.nets) pushed ∙ c.loop.invariant.nets;
      count = ap length adjustments ∙ length_push c.loop.design.adjustments c.in_ok-adjustment.adjustment ∙ ap (λ (n : ℕ). n + 1) c.loop.invariant.count;
    }

pub returns-clause-reads : goal.returns-clause-reads
returns-clause-reads g c tells =
    let none : c.args.count - c.loop.counter ≡ 0 = omega arith in
    sym (c.loop.invariant.reads tells) ∙ several-done (λ _. adjustment c.args.design.now.frame.shape) _ c.loop.design.adjustments _ none
