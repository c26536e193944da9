-- The command `make`, which reads no texts: the text of a made design, and its numbers of nets and pins.
use Rattle.std.specs.Prelude.{◌≡◌, ℕ, true, false, List, ◌++◌, Some, None, Ok, codes}
use Rattle.gr_text.specs.Lines.{number_line}
use Rattle.command_form.specs.Commands.{Command}
use Rattle.command_form.specs.declared.stop.Outcome.TheVariants.{Whole}
use Rattle.design_maker.specs.Nets.{nets_of, count_of}
use Rattle.design_maker.specs.Texts.{text_of}
use Rattle.design_maker.specs.declared.made.Made.{Made}
use Rattle.design_maker.specs.declared.write.Count.{Count}

-- how many nets and pins a design has
abbrev pub counts_text : Count → List ℕ
counts_text count = number_line (codes "nets") count.nets ++ number_line (codes "pins") count.pins

-- the text of a made design, and its numbers of nets and pins
abbrev pub making : {K : Type 0} → Made → Command K
making made = record {
  reads = λ slot. false;
  files = λ shelf. Some (Ok tt);
  refuses = λ shelf stop. ⊥;
  says = λ shelf kept outcome text report.
      (outcome ≡ Whole) × (kept ≡ None) × (text ≡ text_of made) × (report ≡ counts_text (count_of (nets_of made)));
  reports = true;
  is_open = λ shelf. ⊥;
}
