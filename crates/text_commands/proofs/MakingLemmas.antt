-- The law of the command `make`.
use Rattle.std.proofs.Common.{refl}
use Rattle.command_form.specs.Commands.{IsLawful}
use Rattle.command_form.proofs.LeavingLemmas.{open-whole}
use Rattle.design_maker.specs.declared.made.Made.{Made}
use Rattle.text_commands.specs.Making.{making}

pub making-lawful : {K : Type 0} → (made : Made) → IsLawful {K = K} (making made)
making-lawful made = record {
  refuses = λ shelf stop refused. absurd refused;
  accepts = λ shelf kept outcome text report says tells. refl;
  opens = λ shelf kept text report says tells. absurd (open-whole says.0);
  closes = λ shelf kept text report says tells left. left;
  unkept = λ shelf kept text report says. says.1;
  refuses_read = λ shelf stop refused. absurd refused;
  opens_read = λ shelf kept text report says. absurd (open-whole says.0);
}
