use Rattle.std.proofs.Common.{sym, subst, List}
use Rattle.rc_library.specs.Libraries.{AreKinds}
use Rattle.rc_library.specs.declared.parts.NamedKind.{NamedKind}
use Rattle.rc_library.proofs.KindLemmas.{AreKinds-none}
use Rattle.rc_library.proofs.kinds.Kinds.new.Goals as goal

pub invariant_of-result : goal.invariant_of-result
invariant_of-result c = subst (λ (kinds : List NamedKind). AreKinds kinds) (sym c.new.ensures.items) AreKinds-none
