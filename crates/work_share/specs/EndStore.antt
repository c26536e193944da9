-- What contracts see of a share's end.
use Rattle.std.specs.Prelude.{ℕ, List, map}
use Rattle.std.specs.Global.{Vec}
use Rattle.work_share.specs.Views.{EndView}
use Rattle.work_share.specs.declared.ending.ShareEnd.TheInside.{Inside}

abbrev pub end_of : List (Vec ℕ) → List ℕ → EndView
end_of taken rest = record { taken = map (λ (nets : Vec ℕ). nets.items) taken; rest = rest }

abbrev pub seen : Inside → EndView
seen e = end_of e.taken.items e.rest.items
