use Rattle.std.proofs.Common.{◌≡◌, ◌+◌, ◌<◌, ◌++◌, ◌∷◌, [], None, List, ℕ, false, length, nat_eq, if◌then◌else◌, suc, refl, sym, ap, ◌∙◌, arith, append_assoc, append-nil, length-append}
use Rattle.std.specs.List.{position_from, range_with_len, list_any}
use Rattle.gr_base.specs.Limits.{most_nets}
use Rattle.gr_base.proofs.IdLemmas.{absent-others, counted-one-more, length-ids}
use Rattle.gr_base.proofs.ids.Ids.push.Goals as goal

-- the ids are few enough for one more
room : (count : ℕ) (others old : List ℕ) → range_with_len 0 count ++ others ≡ old → length old < most_nets →
    count + length others < most_nets
room count others old is few = let l = ap length is in let e = length-ids 0 count others in omega (arith, l, e, few)

none : (others : List ℕ) → length others ≡ 0 → others ≡ []
none [] _ = refl
none (_ ∷ _) is = absurd (omega (arith, is))

-- one more is counted where there are no others
one-more : (count id : ℕ) (others old : List ℕ) → range_with_len 0 count ++ others ≡ old → length others ≡ 0 → id ≡ count →
    range_with_len 0 (count + 1) ++ others ≡ old ++ id ∷ []
one-more count id others old is empty counted =
    let first : range_with_len 0 count ≡ old = sym (append-nil (range_with_len 0 count))
    ∙ ap (λ ids. range_with_len 0 count ++ ids) (sym (none others empty)) ∙ is in
    let next : (count + 1) ≡ suc count = omega arith in
    let last : (0 + count) ≡ id = omega (arith, counted) in
    ap (λ ids. range_with_len 0 (count + 1) ++ ids) (none others empty)
    ∙ append-nil (range_with_len 0 (count + 1))
    ∙ ap (λ n. range_with_len 0 n) next
    ∙ counted-one-more 0 count
    ∙ ap (λ (n : ℕ). range_with_len 0 count ++ n ∷ []) last
    ∙ ap (λ (ids : List ℕ). ids ++ id ∷ []) first

-- one more stands behind the others where it wasn't there
behind : (count id : ℕ) (others new old : List ℕ) → range_with_len 0 count ++ others ≡ old →
    position_from (nat_eq id) 0 old ≡ None →
    new ≡ (if list_any (nat_eq id) others then others else others ++ id ∷ []) → new ≡ others ++ id ∷ []
behind count id others new old is none grown =
    let nowhere : position_from (nat_eq id) 0 (range_with_len 0 count ++ others) ≡ None = ap (position_from (nat_eq id) 0) is ∙ none in
    let absent : list_any (nat_eq id) others ≡ false = absent-others 0 count id others nowhere in
    rw absent at grown

pub invariant_of-self : goal.invariant_of-self
invariant_of-self c =
    let few = room c.self.inside.counted c.self.inside.others.keys c.args.self.now c.self.view_is c.requires.room in
    omega (arith, few)

pub invariant_of-self-in_ok-insert : goal.invariant_of-self-in_ok-insert
invariant_of-self-in_ok-insert c =
    let few = room c.self.inside.counted c.self.inside.others.keys c.args.self.now c.self.view_is c.requires.room in
    let keys = behind c.self.inside.counted c.args.id c.self.inside.others.keys c.insert.new.self.keys c.args.self.now c.self.view_is
    c.requires.fresh c.in_ok-insert.ensures.keys in
    let longer = ap length keys ∙ length-append c.self.inside.others.keys (c.args.id ∷ []) in
    omega (arith, few, longer)

pub returns-then-is_empty-clause-ok : goal.returns-then-is_empty-clause-ok
returns-then-is_empty-clause-ok c =
    one-more c.self.inside.counted c.args.id c.self.inside.others.keys c.args.self.now c.self.view_is
    (c.is_empty.ensures.0 c.if-is_empty.true) c.if-id-self.true

pub returns-in_ok-insert-clause-ok : goal.returns-in_ok-insert-clause-ok
returns-in_ok-insert-clause-ok c =
    let keys = behind c.self.inside.counted c.args.id c.self.inside.others.keys c.insert.new.self.keys c.args.self.now c.self.view_is
    c.requires.fresh c.in_ok-insert.ensures.keys in
    ap (λ ids. range_with_len 0 c.self.inside.counted ++ ids) keys
    ∙ sym (append_assoc (range_with_len 0 c.self.inside.counted) c.self.inside.others.keys (c.args.id ∷ []))
    ∙ ap (λ (ids : List ℕ). ids ++ c.args.id ∷ []) c.self.view_is
