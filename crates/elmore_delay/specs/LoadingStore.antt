-- What the fields of a loading keep.
use Rattle.elmore_delay.specs.Loadings.{LoadingView, sinks_of, IsLoading}
use Rattle.elmore_delay.specs.NodeLoads.{AreStored}
use Rattle.elmore_delay.specs.declared.loading.Loading.TheInside.{Inside}

-- what the fields say
abbrev pub seen : Inside → LoadingView
seen l = record { library = l.library.now; net = l.number; pins = l.net.now.pins; tree = l.tree.now }

-- the fields make a loading, whose nodes are stored with all sinks
pub record Keeps (l : Inside) : Type 0 where
  pub loading : IsLoading (seen l)
  pub nodes : AreStored (seen l) (sinks_of (seen l)) l.nodes.items
