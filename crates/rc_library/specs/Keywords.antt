-- The words of a library text.
use Rattle.std.specs.Prelude.{ℕ, nat_le, List, Option, Some, None, option_and_then, if◌then◌else◌, codes}
use Rattle.std.specs.Str.{bytes_eq}
use Rattle.rc_library.specs.declared.keyword.Keyword.{Keyword}
use Rattle.rc_library.specs.declared.keyword.Keyword.TheVariants.{Wire, Via, Driver, Sink, Kind, Block, Drive, Pin, Inverter, Flip, End}

-- the first version that has the word
abbrev pub since : Keyword → ℕ
since Inverter = 3
since Flip = 3
since Block = 2
since Drive = 2
since Pin = 2
since other = 1

-- what a word is in the last version
abbrev pub named : List ℕ → Option Keyword
named word =
    if bytes_eq word (codes "pin") then Some Pin
    else if bytes_eq word (codes "block") then Some Block
    else if bytes_eq word (codes "drive") then Some Drive
    else if bytes_eq word (codes "flip") then Some Flip
    else if bytes_eq word (codes "wire") then Some Wire
    else if bytes_eq word (codes "via") then Some Via
    else if bytes_eq word (codes "driver") then Some Driver
    else if bytes_eq word (codes "sink") then Some Sink
    else if bytes_eq word (codes "kind") then Some Kind
    else if bytes_eq word (codes "inverter") then Some Inverter
    else if bytes_eq word (codes "end") then Some End
    else None

-- the keyword, if a version has it
abbrev pub within : ℕ → Keyword → Option Keyword
within version keyword = if nat_le (since keyword) version then Some keyword else None

-- what a word is in a version
abbrev pub keyword_of : ℕ → List ℕ → Option Keyword
keyword_of version word = option_and_then (within version) (named word)
