-- The kinds of buffers, with one more.
use Rattle.std.proofs.Common.{◌≡◌, ℕ, ◌<◌, inl, inr, true, false, List, [], ◌∷◌, ◌++◌, length, map, arith}
use Rattle.std.specs.List.{IsDistinct, AllByRecursion}
use Rattle.std.specs.Str.{bytes_eq}
use Rattle.std.proofs.lemmas.Bool.{cases_Bool}
use Rattle.std.proofs.lemmas.List.{length_push}
use Rattle.std.proofs.lemmas.List.Elements.{All-nil, All-push}
use Rattle.gr_base.specs.Names.{is_token}
use Rattle.rc_library.specs.Limits.{most_kinds}
use Rattle.rc_library.specs.Libraries.{IsKind, AreKinds}
use Rattle.rc_library.specs.Items.{has_kind}
use Rattle.rc_library.specs.declared.parts.NamedKind.{NamedKind}

abbrev names : List NamedKind → List (List ℕ)
names kinds = map (λ (kind : NamedKind). kind.name) kinds

all-push : (P : List ℕ → Type 0) (kinds : List NamedKind) (new : NamedKind) → AllByRecursion P (names kinds) → P new.name →
    AllByRecursion P (names (kinds ++ new ∷ []))
all-push P [] new all last = (last, tt)
all-push P (kind ∷ kinds) new all last = (all.0, all-push P kinds new all.1 last)

distinct-push : (kinds : List NamedKind) (new : NamedKind) → IsDistinct bytes_eq (names kinds) → has_kind kinds new.name ≡ false →
    IsDistinct bytes_eq (names (kinds ++ new ∷ []))
unfolding IsDistinct
distinct-push [] new distinct fresh = (tt, tt)
distinct-push (kind ∷ kinds) new distinct fresh =
    elim (cases_Bool (bytes_eq kind.name new.name)) [
      | inl same ↦ let no = rw same at fresh in cc
      | inr other ↦
          let rest = rw other at fresh in
          (all-push (λ (name : List ℕ). bytes_eq kind.name name ≡ false) kinds new distinct.0 other, distinct-push kinds new distinct.1 rest)
    ]

-- no kind yet
pub AreKinds-none : AreKinds []
unfolding IsDistinct
AreKinds-none = record {
  few = omega arith;
  names = tt;
  tokens = All-nil (λ (kind : NamedKind). is_token kind.name ≡ true);
  each = All-nil (λ (kind : NamedKind). IsKind kind.kind);
}

-- a kind of a new name behind the others
pub AreKinds-push : (kinds : List NamedKind) (new : NamedKind) → AreKinds kinds → length kinds < most_kinds → has_kind kinds new.name ≡ false →
    is_token new.name ≡ true → IsKind new.kind → AreKinds (kinds ++ new ∷ [])
AreKinds-push kinds new are room fresh token fits = record {
  few = let count = length_push kinds new in omega arith;
  names = distinct-push kinds new are.names fresh;
  tokens = All-push (λ (kind : NamedKind). is_token kind.name ≡ true) kinds new are.tokens token;
  each = All-push (λ (kind : NamedKind). IsKind kind.kind) kinds new are.each fits;
}
