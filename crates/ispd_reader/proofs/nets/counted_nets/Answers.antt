use Rattle.std.proofs.Common.{◌≡◌, ℕ, ◌+◌, ◌-◌, suc, List, [], ◌∷◌, ◌++◌, length, Ok, Err, sym, ap, subst, ◌∙◌, arith}
use Rattle.std.proofs.lemmas.List.{length_push}
use Rattle.gr_base.specs.declared.frame.Frame.{Frame}
use Rattle.gr_base.specs.declared.frame.Net.{Net}
use Rattle.gr_base.specs.Designs.{DesignView, pins_of}
use Rattle.gr_text.specs.Reading.{Reader, several}
use Rattle.ispd_reader.specs.Nets.{net}
use Rattle.ispd_reader.specs.declared.fault.DesignFault.{DesignFault}
use Rattle.gr_text.proofs.SeveralLemmas.{Reads-fails, several-next, several-fails, several-done}
use Rattle.ispd_reader.proofs.NetLemmas.{pins_of-push}
use Rattle.ispd_reader.proofs.nets.counted_nets.Goals as goal

pub returns-in_err-net-clause-reads : goal.returns-in_err-net-clause-reads
returns-in_err-net-clause-reads g c tells =
    let item : List Net → Reader DesignFault Net = net c.args.design.now.frame in
    let more : c.args.count - c.loop.counter ≡ suc (c.args.count - (c.loop.counter + 1)) = omega arith in
    Reads-fails _ _ (λ (n : Net). n) _ c.from_residual.result c.in_err-net.field-0.0 _ _ c.from_residual.ensures
    (λ fault is. sym (c.loop.invariant.reads tells) ∙ several-fails item _ _ c.loop.design.nets _ fault more
    (subst (λ (f : Frame). net f c.loop.design.nets (g.S.TokenSource.place c.loop.source) ≡ Err fault) c.loop.invariant.frame is))
    (c.in_err-net.ensures.reads tells)

pub loop-preserved : goal.loop-preserved
loop-preserved g c =
    let item : List Net → Reader DesignFault Net = net c.args.design.now.frame in
    let more : c.args.count - c.loop.counter ≡ suc (c.args.count - (c.loop.counter + 1)) = omega arith in
    let pushed = c.in-Ok.ensures.ok in
    let nets : c.push_net.new.self.nets ≡ c.loop.design.nets ++ c.in_ok-net.net ∷ [] = ap (λ (d : DesignView). d.nets) pushed in
    let counted : length c.as_slice.result.now ≡ length c.in_ok-net.net.pins = ap length c.as_slice.ensures in
    record {
      reads = λ tells.
          ap (λ (all : List Net). several item (c.args.count - (c.loop.counter + 1)) all (g.S.TokenSource.place c.net.new.source)) nets
          ∙ sym (several-next item _ _ c.loop.design.nets _ _ c.in_ok-net.net more
          (subst (λ (f : Frame). net f c.loop.design.nets (g.S.TokenSource.place c.loop.source) ≡ Ok (c.in_ok-net.net, g.S.TokenSource.place c.net.new.source)) c.loop.invariant.frame (c.in_ok-net.ensures.reads tells)))
          ∙ c.loop.invariant.reads tells;
      faults = c.in_ok-net.ensures.moves.counts ∙ c.loop.invariant.faults;
      origin = c.net.ensures.moves.same ∙ c.loop.invariant.origin;
      onward = λ bytes read. c.in_ok-net.ensures.moves.onward bytes (c.loop.invariant.onward bytes read);
      frame = ap (λ (d : DesignView). d.frame) pushed ∙ c.loop.invariant.frame;
      adjustments = ap (λ (d : DesignView). d.adjustments) pushed ∙ c.loop.invariant.adjustments;
      count = ap length nets ∙ length_push c.loop.design.nets c.in_ok-net.net ∙ ap (λ (n : ℕ). n + 1) c.loop.invariant.count;
      pins = ap (λ (n : ℕ). c.loop.pins + n) counted ∙ ap (λ (n : ℕ). n + length c.in_ok-net.net.pins) c.loop.invariant.pins
          ∙ sym (pins_of-push c.loop.design.nets c.in_ok-net.net) ∙ ap pins_of (sym nets);
      most = let most = c.in_ok-net.ensures.pins in omega arith;
    }

pub returns-clause-reads : goal.returns-clause-reads
returns-clause-reads g c tells =
    let none : c.args.count - c.loop.counter ≡ 0 = omega arith in
    sym (c.loop.invariant.reads tells) ∙ several-done (net c.args.design.now.frame) _ c.loop.design.nets _ none
