-- Nets behind the numbers of their turns.
use Rattle.std.proofs.Common.{◌≡◌, ℕ, zero, suc, ◌+◌, ◌*◌, ◌<◌, ◌≤◌, Bool, true, false, nat_lt, int_lt, ℤ, pos, ◌+ℤ◌, List, [], ◌∷◌, All, length, map, get_or, slice_index_or, IsSorted, refl, sym, ap, subst, ◌∙◌, arith}
use Rattle.std.specs.Ordering.{nat_cmp}
use Rattle.std.proofs.lemmas.List.{length-map}
use Rattle.std.proofs.lemmas.List.Sorted.{IsNonDecreasingBy-from_sort}
use Rattle.std.proofs.lemmas.Int.{ints}
use Rattle.std.proofs.lemmas.Bool.Decides.{nat_tests}
use Rattle.std.proofs.lemmas.Nat.{div-add-mod', div-mul-add, mod-mul-add, mod_below}
use Rattle.gr_base.specs.Designs.{DesignView}
use Rattle.net_order.specs.Freedoms.{freedom, in_round, turn_of, goes_before, GoInTurn}
use Rattle.net_order.specs.Orders.{net_in, IsKey}

-- a number before a net is a key where it is that of the net's turn
pub is-key : (d : DesignView) (round net number : ℕ) (free turn : ℤ) → net < 4294967296 → free ≡ freedom d net → turn ≡ in_round round free → pos number ≡ turn +ℤ pos 2147483648 →
    IsKey d round (number * 4294967296 + net)
is-key d round net number free turn below free_is turn_is number_is =
    let before = div-mul-add number 4294967296 net below in
    let behind = mod-mul-add number 4294967296 net below in
    ap pos before ∙ number_is ∙ ap (λ (z : ℤ). z +ℤ pos 2147483648) (turn_is ∙ ap (in_round round) free_is)
    ∙ ap (λ (n : ℕ). turn_of d round n +ℤ pos 2147483648) (sym behind)

-- of two keys the lower one's net isn't behind the other's
key-order : (d : DesignView) (round a b : ℕ) → IsKey d round a → IsKey d round b → a ≤ b → goes_before d round (net_in b) (net_in a) ≡ false
key-order d round a b of_a of_b less = tests (int_lt high low) (int_lt low high) (nat_lt (net_in b) (net_in a)) refl refl refl
  where
    low : ℤ
    low = turn_of d round (net_in a)

    high : ℤ
    high = turn_of d round (net_in b)

    tests : (s t u : Bool) → int_lt high low ≡ s → int_lt low high ≡ t → nat_lt (net_in b) (net_in a) ≡ u → goes_before d round (net_in b) (net_in a) ≡ false
    tests true t u p q r =
        let one = div-add-mod' a 4294967296 in
        let other = div-add-mod' b 4294967296 in
        let one_below = mod_below a 4294967296 (omega arith) in
        let other_below = mod_below b 4294967296 (omega arith) in
        absurd (omega (arith, ints, p, of_a, of_b, less, one, other, one_below, other_below))
    tests false true u p q r = rw (p, q) refl
    tests false false true p q r =
        let one = div-add-mod' a 4294967296 in
        let other = div-add-mod' b 4294967296 in
        let behind : net_in b < net_in a = grind (arith, nat_tests) in
        absurd (omega (arith, ints, p, q, of_a, of_b, less, one, other, behind))
    tests false false false p q r = rw (p, q, r) refl

key-at : (keys : List ℕ) (at d : ℕ) → at < length keys → slice_index_or (map net_in keys) at d ≡ net_in (get_or keys at 0)
key-at [] at d within = absurd (omega (arith, within))
key-at (x ∷ keys) zero d within = refl
key-at (x ∷ keys) (suc at) d within = key-at keys at d (omega (arith, within))

-- the nets behind keys in order stand in the order of their turns
pub in-turn : (d : DesignView) (round : ℕ) (keys : List ℕ) → IsSorted nat_cmp keys → All (IsKey d round) keys → GoInTurn d round (map net_in keys)
in-turn d round keys sorted of k e from within =
    let long = length-map keys net_in in
    let inside : k + 1 < length keys = omega (arith, within, long) in
    let less = IsNonDecreasingBy-from_sort (λ (x : ℕ). x) keys sorted k (k + 1) 0 (omega arith) inside in
    let this = key-at keys k e (omega (arith, inside)) in
    let next = key-at keys (k + 1) e inside in
    subst (λ (n : ℕ). goes_before d round n (slice_index_or (map net_in keys) k e) ≡ false) (sym next)
    (subst (λ (n : ℕ). goes_before d round (net_in (get_or keys (k + 1) 0)) n ≡ false) (sym this)
    (key-order d round (get_or keys k 0) (get_or keys (k + 1) 0) (of k 0 (omega (arith, inside))) (of (k + 1) 0 inside) less))
