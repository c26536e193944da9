-- The walls of the greatest share of what is needed in what is held.
use Rattle.std.specs.Prelude.{ℕ, ◌*◌, ◌==◌, Bool, ◌&&◌, nat_lt, List, filter, take, if◌then◌else◌}
use Rattle.std.specs.List.{position_or_len}
use Rattle.cut_bounds.specs.Measured.{ranked}
use Rattle.cut_bounds.specs.declared.wall.MeasuredWall.{MeasuredWall}

-- some net needs the wall
abbrev pub is_needed : MeasuredWall → Bool
is_needed m = nat_lt 0 m.needs

-- the share of what is needed in what is held is greater; of walls that hold nothing, more is needed
abbrev pub is_fuller : MeasuredWall → MeasuredWall → Bool
is_fuller a b =
    if a.holds == 0 && b.holds == 0 then nat_lt b.needs a.needs else nat_lt (b.needs * a.holds) (a.needs * b.holds)

-- how many walls are told
abbrev pub most_told : ℕ
most_told = 10

-- the fullest of the walls that are needed; where two are as full, the earlier one is before
abbrev pub fullest_of : List MeasuredWall → List MeasuredWall
fullest_of walls = take most_told (ranked is_fuller (filter is_needed walls))

-- how many of some walls come before one that is placed among them
abbrev pub place_among : MeasuredWall → List MeasuredWall → ℕ
place_among m walls = position_or_len (is_fuller m) walls
