use Rattle.std.proofs.Common.{ℕ, None, replicate, ap, ◌∙◌}
use Rattle.book_state.proofs.StandSteps.{stands-nothing}
use Rattle.book_state.proofs.replica.Replica.of.Goals as goal

pub returns : goal.returns
returns c =
    stands-nothing c.args.capacity.now c.in_ok-none.field-0 c.in_ok-new.field-0
    (c.in_ok-none.ensures ∙ ap (λ (n : ℕ). replicate n None) c.requires.nets) c.in_ok-new.ensures
