-- The lines that a program tells on err.
use Rattle.std.specs.Prelude.{ℕ, List, ◌++◌, codes}
use Rattle.std.specs.Fmt.{decimal}
use Rattle.gr_io.specs.declared.shelf.Slot.{Slot}
use Rattle.gr_io.specs.declared.shelf.Slot.TheVariants.{Design, Library, Solution}
use Rattle.word_reader.specs.declared.program.Program.{Program}
use Rattle.word_reader.specs.declared.program.Program.TheVariants.{Groute, Grbound}

-- a program's name
abbrev pub name_of : Program → List ℕ
name_of Groute = codes "groute"
name_of Grbound = codes "grbound"

-- the name under which a text is told
abbrev pub text_name : Slot → List ℕ
text_name Design = codes "design"
text_name Library = codes "library"
text_name Solution = codes "solution"

-- the line of words that give no order
abbrev pub usage_line : Program → List ℕ
usage_line Groute = codes "groute: usage\n"
usage_line Grbound = codes "grbound: usage\n"

-- the line of a read that failed
abbrev pub read_line : Program → List ℕ
read_line Groute = codes "groute: a read failed\n"
read_line Grbound = codes "grbound: a read failed\n"

-- the line of want of memory
abbrev pub memory_line : Program → List ℕ
memory_line Groute = codes "groute: out of memory\n"
memory_line Grbound = codes "grbound: out of memory\n"

-- the line of a fault of a text
abbrev pub fault_line : Program → (text : Slot) → (number token : ℕ) → List ℕ
fault_line program text number token =
    name_of program ++ codes ": " ++ text_name text ++ codes " fault " ++ decimal number ++ codes " at token "
    ++ decimal token ++ codes "\n"

-- the line of a solution's net whose edges aren't a tree
abbrev pub net_line : Program → (id : ℕ) → List ℕ
net_line program id = name_of program ++ codes ": solution net " ++ decimal id ++ codes " is not a tree\n"
