use Rattle.std.proofs.Common.{◌≡◌, ◌+◌, ◌<◌, ◌≤◌, ◌++◌, ◌∷◌, [], List, ℕ, None, length, sym, ap, subst, ◌∙◌}
use Rattle.std.proofs.lemmas.List.{map-append}
use Rattle.gr_base.specs.Limits.{most_nets, most_pins}
use Rattle.gr_base.specs.Designs.{DesignView, IsDesign, IsNet, net_with_id, pins_of}
use Rattle.gr_base.specs.DesignStore.{seen}
use Rattle.gr_base.specs.declared.frame.Net.{Net}
use Rattle.gr_base.proofs.DesignLemmas.{IsDesign-push_net, ids_of, ids-fresh}
use Rattle.gr_base.proofs.design.Design.push_net.Goals as goal

pub push-requires-clause-fresh : goal.push-requires-clause-fresh
push-requires-clause-fresh c =
    let fresh : net_with_id (seen c.self.inside) c.args.net.id ≡ None =
    subst (λ (e : DesignView). net_with_id e c.args.net.id ≡ None) (sym c.self.view_is) c.requires.fresh in
    ids-fresh c.self.inside.ids c.args.net.id c.self.inside.nets.items c.self.invariant.ids fresh

pub invariant_of-self-2 : goal.invariant_of-self-2
invariant_of-self-2 c =
    let items : c.push_reserved.new.self.items ≡ c.self.inside.nets.items ++ c.args.net ∷ [] =
    c.push_reserved.ensures.items ∙ ap (λ (nets : List Net). nets ++ c.args.net ∷ []) c.reserve.ensures.items in
    let d : DesignView = seen c.self.inside in
    let net : IsNet d.frame.shape c.args.net = subst (λ (e : DesignView). IsNet e.frame.shape c.args.net) (sym c.self.view_is) c.requires.net in
    let fresh : net_with_id d c.args.net.id ≡ None = subst (λ (e : DesignView). net_with_id e c.args.net.id ≡ None) (sym c.self.view_is) c.requires.fresh in
    let room : length d.nets < most_nets = subst (λ (e : DesignView). length e.nets < most_nets) (sym c.self.view_is) c.requires.room in
    let pins : pins_of d.nets + length c.args.net.pins ≤ most_pins =
    subst (λ (e : DesignView). pins_of e.nets + length c.args.net.pins ≤ most_pins) (sym c.self.view_is) c.requires.pins in
    record {
      design =
          subst (λ (nets : List Net). IsDesign (record { frame = c.self.inside.frame; nets = nets; adjustments = c.self.inside.adjustments.items }))
          (sym items) (IsDesign-push_net d c.args.net c.self.invariant.design net fresh room pins);
      ids =
          c.in-Ok.ensures.ok
          ∙ ap (λ (ids : List ℕ). ids ++ c.args.net.id ∷ []) c.self.invariant.ids
          ∙ sym (map-append (λ (n : Net). n.id) c.self.inside.nets.items (c.args.net ∷ []))
          ∙ ap ids_of (sym items);
    }
