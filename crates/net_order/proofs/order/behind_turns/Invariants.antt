use Rattle.std.proofs.Common.{◌≡◌, ◌∷◌, All, map, take}
use Rattle.net_order.specs.Orders.{net_in, IsKey}
use Rattle.net_order.proofs.order.behind_turns.Given as goal

-- the nets so far stand behind the numbers of their turns
abbrev pub invariant-loop-both : goal.invariant-loop-both
invariant-loop-both l = record {
  nets : map net_in l.keys.items ≡ map net_in (l.first ∷ take l.both-index l.others);
  keys : All (IsKey l.survey.design.now l.round) l.keys.items;
}
