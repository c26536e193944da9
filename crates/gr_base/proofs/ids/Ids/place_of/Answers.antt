use Rattle.std.proofs.Common.{◌≡◌, ℕ, List, ◌+◌, ◌≤◌, ◌++◌, Some, None, nat_eq, sym, ap, ◌∙◌, arith}
use Rattle.std.specs.List.{position_from, range_with_len}
use Rattle.std.proofs.lemmas.Iterator.Adapters.{position_from-zero}
use Rattle.gr_base.proofs.IdLemmas.{place-counted, place-others, place-later, place-nowhere}
use Rattle.gr_base.proofs.ids.Ids.place_of.Goals as goal

pub returns-then-id-self : goal.returns-then-id-self
returns-then-id-self c =
    rw (← c.self.view_is) (sym (place-counted 0 c.self.inside.counted c.args.id c.self.inside.others.keys (omega arith)
    (let below = c.if-id-self.true in omega (arith, below))))

-- where the others begin
behind : (count id : ℕ) (others : List ℕ) → count ≤ id →
    position_from (nat_eq id) 0 (range_with_len 0 count ++ others) ≡ position_from (nat_eq id) count others
behind count id others past = place-others 0 count id others (omega (arith, past)) ∙ ap (λ n. position_from (nat_eq id) n others) start
  where
    start : (0 + count) ≡ count
    start = omega arith

pub returns-in-Some : goal.returns-in-Some
returns-in-Some c =
    let at : position_from (nat_eq c.args.id) 0 c.self.inside.others.keys ≡ Some c.in-Some.place =
    sym (c.in-Some.ensures.index ∙ position_from-zero (nat_eq c.args.id) c.self.inside.others.keys) in
    let start : (c.self.inside.counted + 0) ≡ c.self.inside.counted = omega arith in
    rw (← c.self.view_is) (sym (behind c.self.inside.counted c.args.id c.self.inside.others.keys c.if-id-self.false
    ∙ sym (ap (λ n. position_from (nat_eq c.args.id) n c.self.inside.others.keys) start)
    ∙ place-later 0 c.self.inside.counted c.args.id c.in-Some.place c.self.inside.others.keys at))

pub returns-in-None : goal.returns-in-None
returns-in-None c =
    let none : position_from (nat_eq c.args.id) 0 c.self.inside.others.keys ≡ None =
    sym (c.in-None.ensures.index ∙ position_from-zero (nat_eq c.args.id) c.self.inside.others.keys) in
    rw (← c.self.view_is) (sym (behind c.self.inside.counted c.args.id c.self.inside.others.keys c.if-id-self.false
    ∙ place-nowhere 0 c.self.inside.counted c.args.id c.self.inside.others.keys none))
