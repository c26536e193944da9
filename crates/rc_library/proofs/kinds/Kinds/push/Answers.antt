use Rattle.std.proofs.Common.{◌≡◌, ◌<◌, length, false, sym, subst, List}
use Rattle.rc_library.specs.Limits.{most_kinds}
use Rattle.rc_library.specs.Libraries.{AreKinds}
use Rattle.rc_library.specs.Items.{has_kind}
use Rattle.rc_library.specs.declared.parts.NamedKind.{NamedKind}
use Rattle.rc_library.proofs.KindLemmas.{AreKinds-push}
use Rattle.rc_library.proofs.kinds.Kinds.push.Goals as goal

pub invariant_of-self-2 : goal.invariant_of-self-2
invariant_of-self-2 c =
    let kinds : List NamedKind = c.self.inside.named.items in
    let room : length kinds < most_kinds = subst (λ (ks : List NamedKind). length ks < most_kinds) (sym c.self.view_is) c.requires.room in
    let fresh : has_kind kinds c.args.kind.name ≡ false =
    subst (λ (ks : List NamedKind). has_kind ks c.args.kind.name ≡ false) (sym c.self.view_is) c.requires.fresh in
    subst (λ (ks : List NamedKind). AreKinds ks) (sym c.in_ok-push.ensures.items)
    (AreKinds-push kinds c.args.kind c.self.invariant room fresh c.requires.token c.requires.fits)

pub returns-clause-kinds : goal.returns-clause-kinds
returns-clause-kinds c = invariant_of-self-2 c
