-- The coordinator's meetings with the workers, one after another, and the answer to its mark.
use Rattle.std.proofs.Common.{◌≡◌, ◌⊎◌, ℕ, suc, zero, ◌+◌, ◌<◌, ◌≤◌, inl, inr, List, [], ◌∷◌, ◌++◌, length, map, set, get_or, Some, slice_get, refl, sym, ap, subst, ◌∙◌, arith}
use Rattle.std.proofs.lemmas.Bool.{cases_eq}
use Rattle.std.proofs.lemmas.Option.{same_Some, slice_get_within}
use mathlib.Core.List.{IsPrefix}
use Rattle.grid_demand.specs.Tables.{CapacityView}
use Rattle.book_front.proofs.Prefixes.{prefix-all, prefix-then}
use Rattle.book_state.specs.Books.{overflow_after, IsRight, IsLegal}
use Rattle.book_state.specs.Views.{entry_of}
use Rattle.book_state.specs.declared.entry.Call.TheVariants.{Mark}
use Rattle.book_state.specs.declared.entry.Entry.{Entry}
use Rattle.book_state.specs.declared.entry.Reply.{Reply}
use Rattle.book_state.specs.declared.entry.Reply.TheVariants.{Marked}
use Rattle.run_histories.proofs.CutSteps.{each-next}
use Rattle.track_book.specs.Passes.{PassView, IsAnswered}
use Rattle.ripup_workers.specs.Meetings.{Learns, HasMet, HaveMet, HaveMetBehind}

-- a mark is answered with an overflow
pub mark-answered : (c : CapacityView) (old new : PassView) (reply : Reply) → IsAnswered c old new Mark reply → (overflow : ℕ) × (reply ≡ Marked overflow)
mark-answered c old new reply answered =
    let legal : IsLegal c (answered.before ++ entry_of old.number Mark reply ∷ []) = subst (IsLegal c) answered.seen answered.legal in
    let right = each-next (IsRight c) answered.before [] (entry_of old.number Mark reply) legal.right in
    (overflow_after c answered.before, right.reply)

-- the coordinator has met the first workers, so many
pub record HaveMetSome (c : CapacityView) (count : ℕ) (first now : PassView) (old new : List PassView) : Type 0 where
  pub none : count ≡ 0 → now ≡ first
  pub learns : 0 < count → Learns c first now
  pub same_length : length new ≡ length old
  pub met : (at : ℕ) (p q : PassView) → at < count → slice_get old at ≡ Some p → slice_get new at ≡ Some q → HasMet c first now p q
  pub left : (at : ℕ) → count ≤ at → slice_get new at ≡ slice_get old at

pub met-none : (c : CapacityView) (first : PassView) (old : List PassView) → HaveMetSome c 0 first first old old
met-none c first old = record {
  none = λ is. refl;
  learns = λ some. absurd (omega (arith, some));
  same_length = refl;
  met = λ at p q below. absurd (omega (arith, below));
  left = λ at from. refl;
}

learns-then : (c : CapacityView) (a b d : PassView) → Learns c a b → Learns c b d → Learns c a d
learns-then c a b d first second = record {
  learnt = record {
    begins = prefix-then a.seen b.seen d.seen first.learnt.begins second.learnt.begins;
    mine = second.learnt.mine ∙ first.learnt.mine;
    number = second.learnt.number ∙ first.learnt.number;
    legal = second.learnt.legal;
  };
  knew = first.knew;
  knows = second.knows;
}

zero-or-more : (n : ℕ) → (n ≡ 0) ⊎ (0 < n)
zero-or-more n = grind arith

-- and one more
pub met-next : (c : CapacityView) (count : ℕ) (first now next : PassView) (old ws after : List PassView) (p q : PassView) → HaveMetSome c count first now old ws →
    slice_get ws count ≡ Some p → Learns c now next → Learns c p q → next.seen ≡ q.seen → length after ≡ length ws → slice_get after count ≡ Some q →
    ((at : ℕ) → (at ≡ count → ⊥) → slice_get after at ≡ slice_get ws at) → HaveMetSome c (count + 1) first next old after
met-next c count first now next old ws after p q some there own other same long put rest = record {
  none = λ is. absurd (omega (arith, is));
  learns = λ more. whole;
  same_length = long ∙ some.same_length;
  met = λ at x y below old_there new_there. elim (cases_eq at count) [
    | inl is ↦
        let new_q : q ≡ y = same_Some q y (sym put ∙ ap (λ (k : ℕ). slice_get after k) (sym is) ∙ new_there) in
        let old_p : p ≡ x = same_Some p x (sym there ∙ ap (λ (k : ℕ). slice_get ws k) (sym is) ∙ some.left at (omega (arith, is)) ∙ old_there) in
        subst (λ (k : PassView). HasMet c first next k y) old_p (subst (λ (k : PassView). HasMet c first next p k) new_q here)
    | inr apart ↦
        let before = some.met at x y (omega (arith, below, apart)) old_there (sym (rest at apart) ∙ new_there) in
        record { learns = before.learns; from = before.from; to = prefix-then y.seen now.seen next.seen before.to own.learnt.begins }
  ];
  left = λ at from. rest at (λ is. absurd (omega (arith, from, is))) ∙ some.left at (omega (arith, from));
}
  where
    whole : Learns c first next
    whole = elim (zero-or-more count) [
      | inl none ↦ subst (λ (k : PassView). Learns c k next) (some.none none) own
      | inr more ↦ learns-then c first now next (some.learns more) own
    ]

    here : HasMet c first next p q
    here = record {
      learns = other;
      from = subst (λ (l : List Entry). IsPrefix first.seen l) same whole.learnt.begins;
      to = subst (λ (l : List Entry). IsPrefix l next.seen) same (prefix-all next.seen);
    }

-- lists of parts, with one put in another place
pub put-there : {A B : Type 0} (part : A → B) (xs : List A) (at : ℕ) (y : A) → at < length xs → slice_get (map part (set xs at y)) at ≡ Some (part y)
put-there part [] at y within = absurd (omega (arith, within))
put-there part (x ∷ xs) zero y within = refl
put-there part (x ∷ xs) (suc at) y within = put-there part xs at y (omega (arith, within))

pub put-other : {A B : Type 0} (part : A → B) (xs : List A) (at other : ℕ) (y : A) → (other ≡ at → ⊥) → slice_get (map part (set xs at y)) other ≡ slice_get (map part xs) other
put-other part [] at other y apart = refl
put-other part (x ∷ xs) zero zero y apart = absurd (apart refl)
put-other part (x ∷ xs) zero (suc other) y apart = refl
put-other part (x ∷ xs) (suc at) zero y apart = refl
put-other part (x ∷ xs) (suc at) (suc other) y apart = put-other part xs at other y (λ is. apart (ap suc is))

pub put-length : {A B : Type 0} (part : A → B) (xs : List A) (at : ℕ) (y : A) → length (map part (set xs at y)) ≡ length (map part xs)
put-length part [] at y = refl
put-length part (x ∷ xs) zero y = refl
put-length part (x ∷ xs) (suc at) y = ap suc (put-length part xs at y)

pub part-there : {A B : Type 0} (part : A → B) (xs : List A) (at : ℕ) (x : A) → at < length xs → x ≡ get_or xs at x → slice_get (map part xs) at ≡ Some (part x)
part-there part [] at x within is = absurd (omega (arith, within))
part-there part (y ∷ ys) zero x within is = ap (λ k. Some (part k)) (sym is)
part-there part (y ∷ ys) (suc at) x within is = part-there part ys at x (omega (arith, within)) is

-- all of them
pub met-all : (c : CapacityView) (count : ℕ) (first now : PassView) (old new : List PassView) → HaveMetSome c count first now old new → 0 < count → length old ≤ count → HaveMet c first now old new
met-all c count first now old new some more long = record {
  learns = some.learns more;
  count = some.same_length;
  each = λ at p q old_there new_there. some.met at p q (let within = slice_get_within old at p old_there in omega (arith, within, long)) old_there new_there;
}

-- the first of them, and then all
pub met-first : {A : Type 0} (c : CapacityView) (part : A → PassView) (xs : List A) (x y : A) (coordinator met after : PassView) (new : List PassView) → 0 < length xs → x ≡ get_or xs 0 x →
    Learns c coordinator met → Learns c (part x) (part y) → met.seen ≡ (part y).seen → HaveMet c met after (map part (set xs 0 y)) new → HaveMetBehind c coordinator after (map part xs) new
met-first c part xs x y coordinator met after new some is own other same all = record {
  met = met;
  between = map part (set xs 0 y);
  learns = own;
  count = put-length part xs 0 y;
  first = λ p q p_there q_there.
      let p_is : part x ≡ p = same_Some (part x) p (sym (part-there part xs 0 x some is) ∙ p_there) in
      let q_is : part y ≡ q = same_Some (part y) q (sym (put-there part xs 0 y some) ∙ q_there) in
      (subst (λ (k : PassView). Learns c k q) p_is (subst (λ (k : PassView). Learns c (part x) k) q_is other), subst (λ (k : PassView). met.seen ≡ k.seen) q_is same);
  others = λ at behind. put-other part xs 0 at y (λ zero_is. absurd (omega (arith, zero_is, behind)));
  all = all;
}
