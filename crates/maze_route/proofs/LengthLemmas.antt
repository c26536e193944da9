-- How long a chain is.
use Rattle.std.proofs.Common.{◌≡◌, ℕ, zero, suc, ◌≤◌, List, [], ◌∷◌, length, Option, is_some, slice_get, if◌then◌else◌, refl, ap, ◌∙◌, arith}
use Rattle.std.specs.Prelude.{option_and_then}
use Rattle.maze_route.specs.Buckets.{IsChain}
use Rattle.maze_route.specs.declared.slot.Slot.{Slot}
use Rattle.maze_route.proofs.ChainLemmas.{some-and, chain-short}

abbrev pub next_of : List Slot → Option ℕ → Option ℕ
next_of slots head = option_and_then (λ (s : Slot). s.next) (option_and_then (λ (p : ℕ). slice_get slots p) head)

-- how long the chain from a place is, at most so long
abbrev pub chain_length : List Slot → ℕ → Option ℕ → ℕ
chain_length slots zero head = 0
chain_length slots (suc fuel) head = if is_some head then suc (chain_length slots fuel (next_of slots head)) else 0

counts : (slots : List Slot) (head : Option ℕ) (ps : List ℕ) (fuel : ℕ) → IsChain slots head ps → length ps ≤ fuel → chain_length slots fuel head ≡ length ps
counts slots head [] zero chain le = refl
counts slots head [] (suc fuel) chain le = ap (λ (o : Option ℕ). if is_some o then suc (chain_length slots fuel (next_of slots o)) else 0) chain
counts slots head (p ∷ ps) zero chain le = absurd (omega arith)
counts slots head (p ∷ ps) (suc fuel) chain le =
    let a = some-and (slice_get slots p) (λ s. IsChain slots s.next ps) chain.1 in
    ap (λ (o : Option ℕ). if is_some o then suc (chain_length slots fuel (next_of slots o)) else 0) chain.0
    ∙ ap (λ (o : Option Slot). suc (chain_length slots fuel (option_and_then (λ (s : Slot). s.next) o))) a.1.0
    ∙ ap (λ (n : ℕ). suc n) (counts slots a.0.next ps fuel a.1.1 (omega arith))

-- the measure of a walk along a chain
abbrev pub to_go : List Slot → Option ℕ → ℕ
to_go slots head = chain_length slots (length slots) head

pub to-go : (slots : List Slot) (head : Option ℕ) (ps : List ℕ) → IsChain slots head ps → to_go slots head ≡ length ps
to-go slots head ps chain = counts slots head ps (length slots) chain (chain-short slots head ps chain)
