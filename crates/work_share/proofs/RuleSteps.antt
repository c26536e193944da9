-- Each step keeps the rule of a deque.
use Rattle.std.proofs.Common.{◌≡◌, ◌≢◌, ℕ, zero, suc, ◌+◌, ◌<◌, Bool, true, false, true≢false, List, [], ◌∷◌, ◌++◌, set, sum_by, count_by, sym, refl, ap, subst, ◌∙◌, ⊎_elim, append_assoc, arith}
use Rattle.std.proofs.lemmas.List.{append-nil}
use Rattle.std.proofs.lemmas.List.Sums.{sum_by-cons, sum_by_push}
use mathlib.Core.Option.{some, some-injective}
use lib.ListN.{get_elem?}
use Rattle.crossbeam_deque.specs.Tasks.{Pushes, Takes, Admits, Forks, Merges}
use Rattle.crossbeam_deque.proofs.Lists.{at_set, at_snoc}
use Rattle.work_share.specs.Accounts.{stranger, lessened, part_of, gathered, with_put, with_taken, taken_through, IsTrueOf, Balanced, HasPut, HasTaken, WasEmpty}
use Rattle.work_share.specs.declared.account.Account.{Account}
use Rattle.work_share.proofs.AccountSums.{count-append, sum-set, one-within, two-within}

-- beside an account with a part none has all
not-all : (items : List ℕ) (accounts : List Account) (at other : ℕ) (a b : Account) → Balanced items accounts → other ≢ at → get_elem? accounts at ≡ some a → get_elem? accounts other ≡ some b → 0 < a.parts → b.parts ≡ 1024 → ⊥
not-all items accounts at other a b rule apart here there part whole =
    let two = two-within (λ (x : Account). x.parts) accounts at other a b apart here there in
    let all = rule.all in
    omega (arith, two, all, part, whole)

-- the accounts after one changed: each is the new one or an old one in another place
pub changed : (P : Account → Type 0) (accounts : List Account) (at : ℕ) (new : Account) → P new → ((other : ℕ) (a : Account) → other ≢ at → get_elem? accounts other ≡ some a → P a) → (other : ℕ) (a : Account) → get_elem? (set accounts at new) other ≡ some a → P a
changed P accounts at new mine others other a there =
    ⊎_elim
    (λ (here : (other ≡ at) × (new ≡ a)). subst P here.1 mine)
    (λ (else : (other ≢ at) × (get_elem? accounts other ≡ some a)). others other a else.0 else.1)
    (at_set accounts at other new a there)

-- an account with all parts may put nets in
pub puts : (at : ℕ) (a : Account) (nets : List ℕ) → a.parts ≡ 1024 → Pushes Balanced at a nets (HasPut a nets)
puts at a nets whole items accounts rule here =
    let new = with_put a nets in
    let old = rule.each at a here in (
      new,
      record {
        all = (let change = sum-set (λ (x : Account). x.parts) accounts at a new here in let all = rule.all in omega (arith, change, all));
        each = changed (IsTrueOf (items ++ nets) (set accounts at new)) accounts at new
            record {
              balance = λ part test.
                  let change = sum-set (λ (x : Account). count_by test x.taken) accounts at a new here in
                  let before = old.balance (omega (arith, whole)) test in
                  let more = count-append test a.put nets in
                  let held = count-append test items nets in
                  omega (arith, change, before, more, held);
              idle = λ none. absurd (omega (arith, whole, none));
              parts = λ lone. whole;
              order = λ lone. ap (λ (l : List ℕ). l ++ nets) (old.order lone) ∙ append_assoc a.taken items nets;
            }
            (λ other b apart there.
            let no : 0 < b.parts → ⊥ = λ part. not-all items accounts other at b a rule (λ same. apart (sym same)) there here part whole in
            record {
              balance = λ part. absurd (no part);
              idle = (rule.each other b there).idle;
              parts = (rule.each other b there).parts;
              order = λ lone. (let all = (rule.each other b there).parts lone in absurd (no (omega (arith, all))));
            });
      },
      refl,
    )

-- an account with a part may take nets
pub takes : (at : ℕ) (a : Account) → 0 < a.parts → Takes Balanced at a 1 (HasTaken a)
takes at a part nets items accounts any few rule here =
    let new = with_taken a nets in
    let old = rule.each at a here in
    let balance : (test : ℕ → Bool) → count_by test a.put ≡ taken_through test (set accounts at new) + count_by test items =
    (λ test.
    let change = sum-set (λ (x : Account). count_by test x.taken) accounts at a new here in
    let before = old.balance part test in
    let more = count-append test a.taken nets in
    let held = count-append test nets items in
    omega (arith, change, before, more, held)) in
    let order : a.alone ≡ true → a.put ≡ (a.taken ++ nets) ++ items = (λ lone. old.order lone ∙ sym (append_assoc a.taken nets items)) in
    let there : get_elem? (set accounts at new) at ≡ some new = set-there accounts at a new here in (
      new,
      record {
        all = (let change = sum-set (λ (x : Account). x.parts) accounts at a new here in let all = rule.all in omega (arith, change, all));
        each = changed (IsTrueOf items (set accounts at new)) accounts at new
            record {
              balance = λ some-part test. balance test;
              idle = λ none. absurd (omega (arith, part, none));
              parts = λ lone. old.parts lone;
              order = order;
            }
            (λ other b apart beside.
            record {
              balance = λ some-part test.
                  let change = sum-set (λ (x : Account). count_by test x.taken) accounts at a new here in
                  let before = (rule.each other b beside).balance some-part test in
                  let more = count-append test a.taken nets in
                  let held = count-append test nets items in
                  omega (arith, change, before, more, held);
              idle = (rule.each other b beside).idle;
              parts = (rule.each other b beside).parts;
              order = λ lone. absurd (not-all (nets ++ items) accounts at other a b rule apart here beside part ((rule.each other b beside).parts lone));
            });
      },
      record {
        is = refl;
        among = λ test.
            let total = balance test in
            let own = one-within (λ (x : Account). count_by test x.taken) (set accounts at new) at new there in
            omega (arith, total, own);
        order = λ lone. (items, order lone);
      },
    )
  where
    set-there : (l : List Account) (i : ℕ) (x y : Account) → get_elem? l i ≡ some x → get_elem? (set l i y) i ≡ some y
    set-there [] i x y is = absurd (cc (is))
    set-there (z ∷ zs) zero x y is = refl
    set-there (z ∷ zs) (suc i) x y is = set-there zs i x y is

-- a stranger may come
pub admits : Admits Balanced stranger
admits items accounts rule =
    let same : (test : ℕ → Bool) → taken_through test (accounts ++ stranger ∷ []) ≡ taken_through test accounts + 0 =
    (λ test. sum_by_push (λ (x : Account). count_by test x.taken) accounts stranger) in
    record {
      all = (let more = sum_by_push (λ (x : Account). x.parts) accounts stranger in let all = rule.all in omega (arith, more, all));
      each = λ other b there.
          ⊎_elim
          (λ (old : get_elem? accounts other ≡ some b).
          record {
            balance = λ part test. (let before = (rule.each other b old).balance part test in let more = same test in omega (arith, before, more));
            idle = (rule.each other b old).idle;
            parts = (rule.each other b old).parts;
            order = (rule.each other b old).order;
          })
          (λ (new : stranger ≡ b).
          subst (IsTrueOf items (accounts ++ stranger ∷ [])) new
          record { balance = λ part. absurd (omega (arith, part)); idle = λ none. refl; parts = λ lone. absurd (true≢false (sym lone)); order = λ lone. absurd (true≢false (sym lone)) })
          (at_snoc accounts stranger b other there);
    }

-- a part may be cut off
pub cuts : (at : ℕ) (a : Account) → 1 < a.parts → Forks Balanced at a (lessened a) (part_of a)
cuts at a more items accounts rule here =
    let less = lessened a in
    let part = part_of a in
    let now = set accounts at less in
    let old = rule.each at a here in
    let same : (test : ℕ → Bool) → taken_through test (now ++ part ∷ []) ≡ taken_through test accounts =
    (λ test.
    let push = sum_by_push (λ (x : Account). count_by test x.taken) now part in
    let change = sum-set (λ (x : Account). count_by test x.taken) accounts at a less here in
    omega (arith, push, change)) in
    let balance : (test : ℕ → Bool) → count_by test a.put ≡ taken_through test (now ++ part ∷ []) + count_by test items =
    (λ test. (let before = old.balance (omega (arith, more)) test in let is = same test in omega (arith, before, is))) in
    let not-lone : false ≡ true → ⊥ = (λ lone. true≢false (sym lone)) in
    record {
      all = (
          let push = sum_by_push (λ (x : Account). x.parts) now part in
          let change = sum-set (λ (x : Account). x.parts) accounts at a less here in
          let all = rule.all in
          omega (arith, push, change, all, more)
          );
      each = λ other b there.
          ⊎_elim
          (λ (kept : get_elem? now other ≡ some b).
          changed (IsTrueOf items (now ++ part ∷ [])) accounts at less
          record { balance = λ some-part. balance; idle = λ none. absurd (omega (arith, more, none)); parts = λ lone. absurd (not-lone lone); order = λ lone. absurd (not-lone lone) }
          (λ third c apart beside.
          record {
            balance = λ some-part test. (let before = (rule.each third c beside).balance some-part test in let is = same test in omega (arith, before, is));
            idle = (rule.each third c beside).idle;
            parts = (rule.each third c beside).parts;
            order = (rule.each third c beside).order;
          })
          other b kept)
          (λ (new : part ≡ b).
          subst (IsTrueOf items (now ++ part ∷ [])) new
          record { balance = λ some-part. balance; idle = λ none. refl; parts = λ lone. absurd (not-lone lone); order = λ lone. absurd (not-lone lone) })
          (at_snoc now part b other there);
    }

-- two accounts may be put together
pub gathers : (at : ℕ) (a : Account) (other : ℕ) (b : Account) → 0 < a.parts → Merges Balanced at a other b (gathered a b) stranger
gathers at a other b part items accounts rule here apart there =
    let both = gathered a b in
    let now = set accounts at both in
    let end = set now other stranger in
    let was : get_elem? accounts other ≡ some b =
    ⊎_elim (λ (same : (other ≡ at) × (both ≡ b)). absurd (apart same.0)) (λ (else : (other ≢ at) × (get_elem? accounts other ≡ some b)). else.1) (at_set accounts at other both b there) in
    let same : (test : ℕ → Bool) → taken_through test end ≡ taken_through test accounts =
    (λ test.
    let first = sum-set (λ (x : Account). count_by test x.taken) accounts at a both here in
    let second = sum-set (λ (x : Account). count_by test x.taken) now other b stranger there in
    let joined = count-append test a.taken b.taken in
    omega (arith, first, second, joined)) in
    let not-lone : false ≡ true → ⊥ = (λ lone. true≢false (sym lone)) in
    record {
      all = (
          let first = sum-set (λ (x : Account). x.parts) accounts at a both here in
          let second = sum-set (λ (x : Account). x.parts) now other b stranger there in
          let all = rule.all in
          omega (arith, first, second, all)
          );
      each = changed (IsTrueOf items end) now other stranger
          record { balance = λ some-part. absurd (omega (arith, some-part)); idle = λ none. refl; parts = λ lone. absurd (not-lone lone); order = λ lone. absurd (not-lone lone) }
          (λ third c away beside.
          changed (IsTrueOf items end) accounts at both
          record {
            balance = λ some-part test. (let before = (rule.each at a here).balance part test in let is = same test in omega (arith, before, is));
            idle = λ none. absurd (omega (arith, part, none));
            parts = λ lone. absurd (not-lone lone);
            order = λ lone. absurd (not-lone lone);
          }
          (λ fourth d distant near.
          record {
            balance = λ some-part test. (let before = (rule.each fourth d near).balance some-part test in let is = same test in omega (arith, before, is));
            idle = (rule.each fourth d near).idle;
            parts = (rule.each fourth d near).parts;
            order = (rule.each fourth d near).order;
          })
          third c beside);
    }

-- with all parts, an empty deque's account knows that all nets were taken
pub emptied : (a : Account) → WasEmpty a → a.parts ≡ 1024 → (test : ℕ → Bool) → count_by test a.put ≡ count_by test a.taken
emptied a was whole test =
    let rule = was.balanced in
    let balance = (rule.each was.at a was.here).balance (omega (arith, whole)) test in
    let others : taken_through test was.accounts ≡ count_by test a.taken = only was.accounts was.at was.here rule.all (λ other b there. (rule.each other b there).idle) in
    omega (arith, balance, others)
  where
    idle-all : (accounts : List Account) → sum_by (λ (x : Account). x.parts) accounts ≡ 0 → ((other : ℕ) (b : Account) → get_elem? accounts other ≡ some b → b.parts ≡ 0 → b.taken ≡ []) → taken_through test accounts ≡ 0
    idle-all [] none idle = refl
    idle-all (x ∷ xs) none idle =
        let parts = sum_by-cons (λ (y : Account). y.parts) x xs in
        let taken = sum_by-cons (λ (y : Account). count_by test y.taken) x xs in
        let here = ap (λ (l : List ℕ). count_by test l) (idle 0 x refl (omega (arith, none, parts))) in
        let rest = idle-all xs (omega (arith, none, parts)) (λ other b there. idle (suc other) b there) in
        omega (arith, taken, here, rest)

    only : (accounts : List Account) (at : ℕ) → get_elem? accounts at ≡ some a → sum_by (λ (x : Account). x.parts) accounts ≡ 1024 → ((other : ℕ) (b : Account) → get_elem? accounts other ≡ some b → b.parts ≡ 0 → b.taken ≡ []) → taken_through test accounts ≡ count_by test a.taken
    only [] at here all idle = absurd (cc (here))
    only (x ∷ xs) zero here all idle =
        let is = some-injective x a here in
        let own = ap (λ (y : Account). y.parts) is in
        let took = ap (λ (y : Account). count_by test y.taken) is in
        let parts = sum_by-cons (λ (y : Account). y.parts) x xs in
        let taken = sum_by-cons (λ (y : Account). count_by test y.taken) x xs in
        let rest = idle-all xs (omega (arith, own, whole, all, parts)) (λ other b there. idle (suc other) b there) in
        omega (arith, taken, took, rest)
    only (x ∷ xs) (suc at) here all idle =
        let parts = sum_by-cons (λ (y : Account). y.parts) x xs in
        let taken = sum_by-cons (λ (y : Account). count_by test y.taken) x xs in
        let own = one-within (λ (y : Account). y.parts) xs at a here in
        let none = ap (λ (l : List ℕ). count_by test l) (idle 0 x refl (omega (arith, parts, own, whole, all))) in
        let rest = only xs at here (omega (arith, parts, own, whole, all)) (λ other b there. idle (suc other) b there) in
        omega (arith, taken, none, rest)

-- a lone account of an empty deque knows that all nets were taken in order
pub emptied-alone : (a : Account) → WasEmpty a → a.alone ≡ true → a.put ≡ a.taken
emptied-alone a was lone = (was.balanced.each was.at a was.here).order lone ∙ append-nil a.taken
