-- Names: the tokens of a text.
use Rattle.std.specs.Prelude.{ℕ, Bool, ◌&&◌, ◌||◌, ◌==◌, not, nat_lt, List, length}
use Rattle.std.specs.List.{list_all}

-- blank, tab, line feed and carriage return part the tokens of a text
abbrev pub is_blank : ℕ → Bool
is_blank byte = byte == 32 || byte == 9 || byte == 10 || byte == 13

-- the bytes are one token: not empty, and none of them is blank
abbrev pub is_token : List ℕ → Bool
is_token bytes = nat_lt 0 (length bytes) && list_all (λ byte. not (is_blank byte)) bytes
