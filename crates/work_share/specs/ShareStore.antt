-- What the fields of a share keep.
use Rattle.std.specs.Prelude.{◌≡◌, ◌<◌, length, map, All}
use Rattle.crossbeam_deque.specs.Handles.{stealer_deque, stealer_flavor}
use Rattle.work_share.specs.Views.{ShareView}
use Rattle.work_share.specs.declared.shared.Share.TheInside.{Inside}

abbrev pub seen : Inside → ShareView
seen s = record {
  nets = s.nets.items;
  workers = length s.thieves.items;
  deques = map stealer_deque s.thieves.items;
}

pub record KeepsShare (s : Inside) : Type 0 where
  pub some : 0 < length s.thieves.items
  pub fifo : All (λ thief. stealer_flavor thief ≡ 0) s.thieves.items
