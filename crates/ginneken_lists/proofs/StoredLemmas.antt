-- Candidates of stored pairs.
use Rattle.std.proofs.Common.{◌≡◌, ℕ, suc, ◌^◌, ◌<◌, ◌≤◌, List, [], ◌∷◌, ◌++◌, length, get_or, All, refl, sym, ap, subst, ◌∙◌, arith}
use Rattle.std.proofs.lemmas.List.{map-append, get_or-map, length-map}
use Rattle.std.proofs.lemmas.List.Elements.{All-map}
use Rattle.elmore_delay.specs.declared.seen.Seen.{Seen}
use Rattle.ginneken_lists.specs.Candidates.{Chosen, Candidate}
use Rattle.ginneken_lists.specs.Thinning.{IsRising, AreRising}
use Rattle.ginneken_lists.specs.Trails.{chosen_of, Keeps}
use Rattle.ginneken_lists.specs.Pairs.{seen_of, candidate_of, candidates, IsInRange}
use Rattle.ginneken_lists.specs.StoredPairs.{pair_of, pairs_of, stored_candidate}
use Rattle.ginneken_lists.specs.declared.pair.Pair.{Pair}
use Rattle.ginneken_lists.specs.declared.stored.Stored.{Stored}
use Rattle.ginneken_lists.proofs.Serving.{rising-map, rising-unmap}

-- the candidates of stored pairs
abbrev pub all_of : List Chosen → List Stored → List Candidate
all_of trail items = candidates trail (pairs_of items)

-- what is seen with a stored pair
abbrev pub sight : Stored → Seen
sight stored = seen_of (pair_of stored)

pub all_of-append : (trail : List Chosen) (xs ys : List Stored) → all_of trail (xs ++ ys) ≡ all_of trail xs ++ all_of trail ys
all_of-append trail xs ys = ap (candidates trail) (map-append pair_of xs ys) ∙ map-append (candidate_of trail) (pairs_of xs) (pairs_of ys)

pub length-all_of : (trail : List Chosen) (xs : List Stored) → length (all_of trail xs) ≡ length xs
length-all_of trail xs = length-map (pairs_of xs) (candidate_of trail) ∙ length-map xs pair_of

pub all_of-at : (trail : List Chosen) (xs : List Stored) (k : ℕ) (d : Stored) (e : Candidate) → k < length xs → get_or (all_of trail xs) k e ≡ stored_candidate trail (get_or xs k d)
all_of-at trail xs k d e inside =
    get_or-map (candidate_of trail) (pairs_of xs) k (pair_of d) e (let long = length-map xs pair_of in omega arith)
    ∙ ap (candidate_of trail) (get_or-map pair_of xs k d (pair_of d) inside)

pub all_of-all : (P : Candidate → Type 0) (trail : List Chosen) (xs : List Stored) → All (λ s. P (stored_candidate trail s)) xs → All P (all_of trail xs)
all_of-all P trail xs each = All-map P (candidate_of trail) (pairs_of xs) (All-map (λ p. P (candidate_of trail p)) pair_of xs each)

-- stored pairs that rise, and their candidates
pub stored-rising : (xs : List Stored) → IsRising seen_of (pairs_of xs) → IsRising sight xs
stored-rising xs rising = rising-unmap pair_of seen_of xs rising

pub all_of-rising : (trail : List Chosen) (xs : List Stored) → IsRising seen_of (pairs_of xs) → AreRising (all_of trail xs)
all_of-rising trail xs rising = rising-map (candidate_of trail) (λ (o : Candidate). o.seen) (pairs_of xs) rising

pub rising-all_of : (trail : List Chosen) (xs : List Stored) → AreRising (all_of trail xs) → IsRising seen_of (pairs_of xs)
rising-all_of trail xs rising = rising-unmap (candidate_of trail) (λ (o : Candidate). o.seen) (pairs_of xs) rising

-- a pair that is seen so and has that mark
pub candidate-is : (trail : List Chosen) (stored : Stored) (s : Seen) (mark : ℕ) → sight stored ≡ s → stored.mark ≡ mark →
    stored_candidate trail stored ≡ record { seen = s; chosen = chosen_of trail mark }
candidate-is trail stored s mark seen named =
    ap (λ (t : Seen). record { seen = t; chosen = chosen_of trail stored.mark }) seen
    ∙ ap (λ (m : ℕ). record { seen = s; chosen = chosen_of trail m }) named

-- a trail that keeps what marks name keeps the candidates
pub all_of-keeps : (trail other : List Chosen) (xs : List Stored) → Keeps trail other → All (λ s. s.mark ≤ length trail) xs → all_of other xs ≡ all_of trail xs
all_of-keeps trail other [] keeps marks = refl
all_of-keeps trail other (x ∷ xs) keeps marks =
    ap (λ (c : Chosen). record { seen = sight x; chosen = c } ∷ all_of other xs) (keeps.same x.mark (marks 0 x (omega arith)))
    ∙ ap (λ (os : List Candidate). stored_candidate trail x ∷ os) (all_of-keeps trail other xs keeps (λ k d inside. marks (suc k) d (omega arith)))

-- each stored pair that is read is in range
pub in-range : (xs : List Stored) (k : ℕ) (x : Stored) → All IsInRange (pairs_of xs) → k < length xs → x ≡ get_or xs k x → IsInRange (pair_of x)
in-range xs k x range inside is =
    subst IsInRange (get_or-map pair_of xs k x (pair_of x) inside ∙ ap pair_of (sym is))
    (range k (pair_of x) (let long = length-map xs pair_of in omega arith))

-- marks of stored pairs, and of the pairs that they are
pub stored-marks : (most : ℕ) (xs : List Stored) → All (λ (p : Pair). p.mark ≤ most) (pairs_of xs) → All (λ (s : Stored). s.mark ≤ most) xs
stored-marks most xs marks k d inside =
    subst (λ (p : Pair). p.mark ≤ most) (get_or-map pair_of xs k d (pair_of d) inside) (marks k (pair_of d) (let long = length-map xs pair_of in omega arith))

pub pair-marks : (most : ℕ) (xs : List Stored) → All (λ (s : Stored). s.mark ≤ most) xs → All (λ (p : Pair). p.mark ≤ most) (pairs_of xs)
pair-marks most xs marks = All-map (λ (p : Pair). p.mark ≤ most) pair_of xs marks

-- ranges likewise
pub stored-range : (xs : List Stored) → All IsInRange (pairs_of xs) → All (λ s. IsInRange (pair_of s)) xs
stored-range xs range k d inside =
    subst IsInRange (get_or-map pair_of xs k d (pair_of d) inside) (range k (pair_of d) (let long = length-map xs pair_of in omega arith))

pub stored-loads : (xs : List Stored) → All IsInRange (pairs_of xs) → All (λ (s : Stored). s.load ≤ 2 ^ 60) xs
stored-loads xs range k d inside = (stored-range xs range k d inside).load
