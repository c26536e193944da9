-- What a library text says for a design. The grammar is a table: one line for each check, in the order of the text.
use Rattle.std.specs.Prelude.{ℕ, zero, suc, ◌+◌, List, Option, Some, None, Result, Err, if◌then◌else◌, codes}
use Rattle.std.specs.Str.{bytes_eq}
use Rattle.gr_base.specs.Limits.{most_bytes}
use Rattle.gr_base.specs.Designs.{DesignView}
use Rattle.gr_text.specs.Tokens.{place_in}
use Rattle.gr_text.specs.Reading.{Reader, ◌>>=◌, ◌>>◌, pure, given, token, word, end, value_of}
use Rattle.rc_library.specs.Faults.{ends}
use Rattle.rc_library.specs.Libraries.{LibraryView}
use Rattle.rc_library.specs.Gathered.{Gathered, nothing, finished}
use Rattle.rc_library.specs.Keywords.{keyword_of}
use Rattle.rc_library.specs.Items.{item}
use Rattle.rc_library.specs.declared.fault.LibraryFault.{LibraryFault}
use Rattle.rc_library.specs.declared.fault.LibraryFault.TheVariants as fault
use Rattle.rc_library.specs.declared.keyword.Keyword.{Keyword}
use Rattle.rc_library.specs.declared.keyword.Keyword.TheVariants as word

-- the word that an item begins with, or `end`
unfoldable pub keyword : ℕ → Reader LibraryFault Keyword
keyword version = do
  found ← token ends
  given (keyword_of version found) fault.Word

-- a reader that adds to what was gathered before it
abbrev pub Adds : Type 0
Adds = Gathered → Reader LibraryFault Gathered

-- one item and those that follow it, or none behind the word `end`
abbrev pub item_or_end : DesignView → Adds → Gathered → Keyword → Reader LibraryFault Gathered
item_or_end d others g word.End = pure g
item_or_end d others g other = item d other g >>= others

-- the items up to the word `end`, which are at most so many
unfoldable pub items : ℕ → DesignView → Gathered → Reader LibraryFault Gathered
items zero d g = λ place. Err (fault.TooLong, place.number + 1)
items (suc more) d g = do
  begins ← keyword g.version
  item_or_end d (items more d) g begins

-- `1`, `2` or `3`
abbrev pub version_of : List ℕ → Option ℕ
version_of found =
    if bytes_eq found (codes "1") then Some 1
    else if bytes_eq found (codes "2") then Some 2
    else if bytes_eq found (codes "3") then Some 3
    else None

unfoldable pub version : Reader LibraryFault ℕ
version = do
  word ends fault.Word (codes "library")
  found ← token ends
  given (version_of found) fault.Word

-- a whole library text; an item takes a byte or more, so that a text within its limit has no more items than this
unfoldable pub library : DesignView → Reader LibraryFault LibraryView
library d = do
  version ← version
  gathered ← items most_bytes d (nothing d version)
  library ← given (finished gathered) fault.Missing
  end ends fault.Trailing
  pure library

-- what the bytes of a text say for a design: a library, or the first fault and the number of its token
unfoldable pub library_of : DesignView → List ℕ → Result LibraryView (LibraryFault × ℕ)
library_of d bytes = value_of (library d (place_in most_bytes 0 bytes))
