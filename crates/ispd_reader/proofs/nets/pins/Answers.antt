use Rattle.std.proofs.Common.{◌≡◌, ℕ, ◌+◌, ◌-◌, ◌<◌, suc, All, List, [], ◌∷◌, ◌++◌, length, sym, ap, subst, ◌∙◌, arith}
use Rattle.std.proofs.lemmas.List.{length_push}
use Rattle.std.proofs.lemmas.List.Elements.{All-push}
use Rattle.gr_base.specs.Grid.{cells_of}
use Rattle.gr_text.specs.Reading.{Reader, several}
use Rattle.ispd_reader.specs.Nets.{pin}
use Rattle.ispd_reader.specs.declared.fault.DesignFault.{DesignFault}
use Rattle.gr_text.proofs.SeveralLemmas.{Reads-fails, several-next, several-fails, several-done}
use Rattle.ispd_reader.proofs.nets.pins.Goals as goal

pub returns-in_err-pin-clause-reads : goal.returns-in_err-pin-clause-reads
returns-in_err-pin-clause-reads g c tells =
    let item : List ℕ → Reader DesignFault ℕ = λ _. pin c.args.design.now.frame in
    let more : c.args.count - c.loop.counter ≡ suc (c.args.count - (c.loop.counter + 1)) = omega arith in
    Reads-fails _ _ (λ (n : ℕ). n) _ c.from_residual.result c.in_err-pin.field-0.0 _ _ c.from_residual.ensures
    (λ fault is. sym (c.loop.invariant.reads tells) ∙ several-fails item _ _ c.loop.pins _ fault more is)
    (c.in_err-pin.ensures.reads tells)

pub loop-preserved : goal.loop-preserved
loop-preserved g c =
    let item : List ℕ → Reader DesignFault ℕ = λ _. pin c.args.design.now.frame in
    let more : c.args.count - c.loop.counter ≡ suc (c.args.count - (c.loop.counter + 1)) = omega arith in
    let pushed : c.push.new.self ≡ c.loop.pins ++ c.in_ok-pin.pin ∷ [] = c.in-Ok.ensures.ok in
    record {
      reads = λ tells.
          ap (λ (pins : List ℕ). several item (c.args.count - (c.loop.counter + 1)) pins (g.S.TokenSource.place c.pin.new.source)) pushed
          ∙ sym (several-next item _ _ c.loop.pins _ _ c.in_ok-pin.pin more (c.in_ok-pin.ensures.reads tells)) ∙ c.loop.invariant.reads tells;
      faults = c.in_ok-pin.ensures.moves.counts ∙ c.loop.invariant.faults;
      origin = c.pin.ensures.moves.same ∙ c.loop.invariant.origin;
      onward = λ bytes read. c.in_ok-pin.ensures.moves.onward bytes (c.loop.invariant.onward bytes read);
      count = ap length pushed ∙ (length_push c.loop.pins c.in_ok-pin.pin ∙ ap (λ (n : ℕ). n + 1) c.loop.invariant.count);
      cells = subst (All (λ (n : ℕ). n < cells_of c.args.design.now.frame.shape)) (sym pushed)
          (All-push (λ (n : ℕ). n < cells_of c.args.design.now.frame.shape) c.loop.pins c.in_ok-pin.pin c.loop.invariant.cells c.in_ok-pin.ensures.cell);
    }

pub returns-clause-reads : goal.returns-clause-reads
returns-clause-reads g c tells =
    let item : List ℕ → Reader DesignFault ℕ = λ _. pin c.args.design.now.frame in
    let none : c.args.count - c.loop.counter ≡ 0 = omega arith in
    sym (c.loop.invariant.reads tells) ∙ several-done item _ c.loop.pins _ none
