use Rattle.std.proofs.Common.{◌∙◌, ap, nat_eq}
use Rattle.std.specs.List.{position_from}
use Rattle.gr_base.proofs.DesignLemmas.{net_from-position}
use Rattle.gr_base.proofs.design.Design.net_of_id.Goals as goal

pub returns : goal.returns
returns c =
    rw (← c.self.view_is) (c.place_of.ensures ∙ ap (position_from (nat_eq c.args.id) 0) c.self.invariant.ids
    ∙ net_from-position 0 c.args.id c.self.inside.nets.items)
