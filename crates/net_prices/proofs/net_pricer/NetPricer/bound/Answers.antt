use Rattle.std.proofs.Common.{◌≡◌, ℕ, List, map, sym, ap, subst, ◌∙◌}
use Rattle.gr_base.specs.Designs.{pins_in}
use Rattle.gr_base.specs.declared.grid.Shape.{Shape}
use Rattle.net_prices.specs.Arcs.{AreLower}
use Rattle.net_prices.specs.Folds.{folded, IsFoldOf}
use Rattle.net_prices.specs.PriceTables.{ArePrices}
use Rattle.net_prices.specs.Pricers.{PricerView, priced_by}
use Rattle.net_prices.proofs.ArcLemmas.{lower-more}
use Rattle.net_prices.proofs.PaymentLemmas.{paid-net, pins-given, pins-stand, some-pins}
use Rattle.net_prices.proofs.net_pricer.NetPricer.bound.Goals as goal

pub fold_pins-requires : goal.fold_pins-requires
fold_pins-requires c =
    pins-given c.args.design.now c.frame-frame.ensures.design c.args.net c.net-value.result.now c.net-value.ensures.net c.self.inside.fold.shape
    (ap (λ (v : PricerView). v.shape) c.self.view_is ∙ sym c.requires.shape) c.as_slice.result.now c.as_slice.ensures

pub pay_net-requires-clause-pins : goal.pay_net-requires-clause-pins
pay_net-requires-clause-pins c =
    pins-stand c.args.design.now c.frame-frame.ensures.design c.args.net c.net-value.result.now c.net-value.ensures.net c.self.inside.fold.flat
    c.self.inside.fold.shape c.self.inside.fold.small (ap (λ (v : PricerView). v.shape) c.self.view_is ∙ sym c.requires.shape) c.self.inside.fold.fits
    c.as_slice.result.now c.deref-2.result.now c.as_slice.ensures (c.deref-2.ensures.value ∙ c.in_ok-fold_pins.ensures)

pub invariant_of-self-in_err-paid : goal.invariant_of-self-in_err-paid
invariant_of-self-in_err-paid c = record {
  long = c.self.invariant.long;
  lower = lower-more c.self.inside.table.items c.self.inside.left.items c.pay_net.new.left.items c.self.invariant.lower c.pay_net.ensures.lower;
  labels = c.pay_net.ensures.labels;
}

pub restore-requires : goal.restore-requires
restore-requires c =
    subst (λ (xs : List ℕ). AreLower xs c.pay_net.new.left.items) (sym c.deref-3.ensures.value)
    (lower-more c.self.inside.table.items c.self.inside.left.items c.pay_net.new.left.items c.self.invariant.lower c.pay_net.ensures.lower)

pub returns-clause-bound : goal.returns-clause-bound
returns-clause-bound c rates weights prices =
    let d = c.args.design.now in
    let fold = c.self.inside.fold in
    let all = c.as_slice.result.now in
    let pins = c.deref-2.result.now in
    let are = c.as_slice.ensures ∙ sym (ap pins_in c.net-value.ensures.net) in
    let same = ap (λ (v : PricerView). v.shape) c.self.view_is ∙ sym c.requires.shape in
    paid-net d c.frame-frame.ensures.design rates weights c.args.net c.in_ok-paid.paid (priced_by fold c.self.inside.table.items) all pins
    c.self.inside.left.items c.pay_net.new.left.items are
    (subst (λ (s : Shape). pins ≡ map (folded fold.flat s) all) same (c.deref-2.ensures.value ∙ c.in_ok-fold_pins.ensures))
    (some-pins d c.args.net all are c.requires.routed) (subst (λ (s : Shape). IsFoldOf fold.flat s fold.small) same c.self.inside.fold.fits)
    (subst (λ (v : PricerView). ArePrices d rates weights c.args.net v) (sym c.self.view_is) prices) c.self.invariant.lower c.in_ok-paid.ensures.raised
