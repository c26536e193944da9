-- The bucket of the least key is made one of this key alone.
use Rattle.std.proofs.Common.{◌≡◌, ℕ, zero, suc, ◌+◌, ◌-◌, ◌/◌, ◌%◌, ◌<◌, ◌≤◌, inl, inr, true, false, ◌==◌, nat_lt, List, [], ◌∷◌, Option, Some, None, IsSome, IsTrue, Contains, slice_get, slice_set, if◌then◌else◌, refl, sym, ap, subst, ◌∙◌, arith, length-set}
use Rattle.std.specs.List.{filter_map, cons_option}
use Rattle.std.proofs.lemmas.Nat.{div-add-mod', mod_below}
use Rattle.std.proofs.lemmas.Bool.{cases_lt, cases_eq, cases_Bool, both_ways}
use Rattle.std.proofs.lemmas.Bool.Decides.{nat_tests}
use Rattle.std.proofs.lemmas.Option.{none-some, same_Some}
use Rattle.gr_base.specs.Trees.{is_among}
use Rattle.maze_route.specs.Buckets.{pair_in, IsBucket, IsChain, head_at, IsOf, Keeps, IsFirstFull, IsLeastKey}
use Rattle.maze_route.specs.Renewed.{IsRenewed}
use Rattle.maze_route.specs.Spreading.{IsSpreading}
use Rattle.maze_route.specs.declared.slot.Slot.{Slot}
use Rattle.maze_route.proofs.BucketNumbers.{near-key, make-near, own-bucket, one-bucket, lower-less, in-block, closer-bucket, higher-same, same-block}
use Rattle.maze_route.proofs.ChainLemmas.{chain-same}
use Rattle.maze_route.proofs.KeepLemmas.{empty-chain}
use Rattle.maze_route.proofs.LabelLemmas.{contains-head, contains-more, contains-cases}
use Rattle.maze_route.proofs.PlaceLemmas.{pair-taken, pair-free}
use Rattle.maze_route.proofs.SpreadingLemmas.{among-head, head-set}
use Rattle.maze_route.proofs.ChainSteps.{chain-empty}

abbrev above : (ℕ → List ℕ) → ℕ → ℕ → List ℕ
above chains bucket b = if nat_lt bucket b then chains b else []

above-cases : (chains : ℕ → List ℕ) (bucket b : ℕ) (P : List ℕ → Type 0) → (bucket < b → P (chains b)) → (b ≤ bucket → P []) → P (above chains bucket b)
above-cases chains bucket b P more less =
    elim (cases_lt bucket b) [
      | inl higher ↦ let test : nat_lt bucket b ≡ true = grind (arith, nat_tests) in subst P (sym (ap (λ t. if t then chains b else []) test)) (more higher)
      | inr lower ↦ let test : nat_lt bucket b ≡ false = grind (arith, nat_tests) in subst P (sym (ap (λ t. if t then chains b else []) test)) (less lower)
    ]

-- the slot of least key, and its bucket
pub record IsLeast (slots : List Slot) (last bucket least : ℕ) (chain : List ℕ) : Type 0 where
  pub least_of : (place : ℕ) (slot : Slot) → IsTrue (is_among chain place) → slice_get slots place ≡ Some slot → least ≤ slot.key
  pub of_bucket : IsBucket last least bucket
  pub later : last ≤ least

least-bucket-of : (slots : List Slot) (heads : List (Option ℕ)) (free : Option ℕ) (last bucket first least : ℕ) → (keeps : Keeps slots heads free last) → bucket < 1078 → head_at heads bucket ≡ Some first →
    IsLeastKey slots first least → IsLeast slots last bucket least (keeps.chains bucket)
least-bucket-of slots heads free last bucket first least keeps few head key =
    let P : Option ℕ → Type 0 = λ o. IsChain slots o (keeps.chains bucket) in
    let same = chain-same slots (Some first) key.places (keeps.chains bucket) key.linked (subst P head (keeps.are_chains.linked bucket few)) in
    let L : List ℕ → Type 0 = λ xs. (place : ℕ) (slot : Slot) → IsTrue (is_among xs place) → slice_get slots place ≡ Some slot → least ≤ slot.key in
    let A : List ℕ → Type 0 = λ xs. IsTrue (is_among xs key.place) in
    let of = keeps.are_chains.only bucket key.place few (subst A same key.among) in
    let slot_is : of.slot ≡ key.slot = same_Some of.slot key.slot (sym of.at ∙ key.at) in
    let value : of.slot.key ≡ least = ap (λ (s : Slot). s.key) slot_is ∙ key.key in
    let B : ℕ → Type 0 = λ k. IsBucket last k bucket in
    let later = of.later in
    record { least_of = subst L same key.least_of; of_bucket = subst B value of.of_bucket; later = omega arith }

pub renew-start : (slots : List Slot) (heads : List (Option ℕ)) (free : Option ℕ) (last bucket first least : ℕ) → (keeps : Keeps slots heads free last) → IsFirstFull heads (Some bucket) → 1024 ≤ bucket →
    head_at heads bucket ≡ Some first → IsLeastKey slots first least →
    IsSpreading slots (slice_set heads bucket None) free (Some first) least bucket (filter_map pair_in slots)
renew-start slots heads free last bucket first least keeps full far head key =
    let few = full.0 in
    let is = least-bucket-of slots heads free last bucket first least keeps few head key in
    let chains = keeps.are_chains in
    let P : Option ℕ → Type 0 = λ o. IsChain slots o (keeps.chains bucket) in
    let head_after = λ (b : ℕ). head-set heads b bucket None (let h = keeps.size in omega arith) in
    let higher_of = λ (b place : ℕ) (higher : bucket < b) (of : IsOf slots last b place).
    let less = lower-less last least of.slot.key bucket b is.of_bucket of.of_bucket higher of.later in
    let moved : IsOf slots least b place = record { slot = of.slot; at = of.at; taken = of.taken; later = omega arith; of_bucket = higher-same last least of.slot.key bucket b is.of_bucket of.of_bucket higher } in
    moved in
    record {
      size = length-set heads bucket None ∙ keeps.size;
      left = keeps.chains bucket;
      chains = above keeps.chains bucket;
      left_linked = subst P head (chains.linked bucket few);
      left_only = λ place among.
          let of = chains.only bucket place few among in
          let low = is.least_of place of.slot among of.at in
          let found = closer-bucket last least of.slot.key bucket far is.of_bucket of.of_bucket is.later of.later in
          (found.0, (found.1.0, record { slot = of.slot; at = of.at; taken = of.taken; later = low; of_bucket = found.1.1 }));
      linked = λ b below.
          above-cases keeps.chains bucket b (λ xs. IsChain slots (head_at (slice_set heads bucket None) b) xs)
          (λ higher.
          let test : (b == bucket) ≡ false = grind (arith, nat_tests) in
          let H : Option ℕ → Type 0 = λ o. IsChain slots o (keeps.chains b) in
          subst H (sym (head_after b ∙ ap (λ t. if t then None else head_at heads b) test)) (chains.linked b below))
          (λ lower. elim (cases_eq b bucket) [
            | inl same ↦ let test : (b == bucket) ≡ true = grind (arith, nat_tests) in head_after b ∙ ap (λ t. if t then None else head_at heads b) test
            | inr other ↦ let test : (b == bucket) ≡ false = grind (arith, nat_tests) in head_after b ∙ ap (λ t. if t then None else head_at heads b) test ∙ full.1.1 b (omega arith)
          ]);
      only = λ b place below.
          above-cases keeps.chains bucket b (λ xs. IsTrue (is_among xs place) → IsOf slots least b place)
          (λ higher among. higher_of b place higher (chains.only b place below among))
          (λ lower among. absurd (both_ways true (sym among) refl));
      apart = λ b place below in_left.
          above-cases keeps.chains bucket b (λ xs. is_among xs place ≡ false)
          (λ higher. elim (cases_Bool (is_among (keeps.chains b) place)) [
            | inl among ↦
                let one = chains.only bucket place few in_left in
                let two = chains.only b place below among in
                let e : one.slot ≡ two.slot = same_Some one.slot two.slot (sym one.at ∙ two.at) in
                let B : Slot → Type 0 = λ s. IsBucket last s.key bucket in
                let same = one-bucket last two.slot.key bucket b (subst B e one.of_bucket) two.of_bucket in
                absurd (omega arith)
            | inr isnt ↦ isnt
          ])
          (λ lower. refl);
      all = λ place slot at taken.
          let found = chains.all place slot at taken in
          let b = found.0 in
          elim (cases_lt bucket b) [
            | inl higher ↦
                let test : nat_lt bucket b ≡ true = grind (arith, nat_tests) in
                let N : List ℕ → Type 0 = λ xs. IsTrue (is_among xs place) in
                inr (b, (found.1.0, (higher_of b place higher found.1.1.0, subst N (sym (ap (λ t. if t then keeps.chains b else []) test)) found.1.1.1)))
            | inr lower ↦ elim (cases_eq b bucket) [
              | inl same ↦ let N : ℕ → Type 0 = λ n. IsTrue (is_among (keeps.chains n) place) in inl (subst N same found.1.1.1)
              | inr other ↦ absurd (empty-chain slots (head_at heads b) (keeps.chains b) place (full.1.1 b (omega arith)) (chains.linked b found.1.0) found.1.1.1)
            ]
          ];
      free_places = keeps.free_places;
      are_free = keeps.are_free;
      same_pairs = refl;
    }

more-pairs : (o : Option (ℕ × ℕ)) (xs : List (ℕ × ℕ)) (pair : ℕ × ℕ) → Contains xs pair → Contains (cons_option o xs) pair
more-pairs None xs pair holds = holds
more-pairs (Some x) xs pair holds = contains-more x pair xs holds

pair-at : (slots : List Slot) (q : ℕ) (s : Slot) → slice_get slots q ≡ Some s → s.taken ≡ true → Contains (filter_map pair_in slots) (s.key, s.cell)
pair-at [] q s at taken = absurd (none-some s at)
pair-at (x ∷ xs) zero s at taken =
    let e = same_Some x s at in
    let P : List (ℕ × ℕ) → Type 0 = λ ys. Contains ys (s.key, s.cell) in
    subst P (sym (ap (λ (o : Option (ℕ × ℕ)). cons_option o (filter_map pair_in xs)) (ap (λ (t : Slot). pair_in t) e ∙ pair-taken s taken))) (contains-head (s.key, s.cell) (filter_map pair_in xs))
pair-at (x ∷ xs) (suc q) s at taken = more-pairs (pair_in x) (filter_map pair_in xs) (s.key, s.cell) (pair-at xs q s at taken)

pair-from : (slots : List Slot) (key cell : ℕ) → Contains (filter_map pair_in slots) (key, cell) → (q : ℕ) × ((s : Slot) × ((slice_get slots q ≡ Some s) × ((s.taken ≡ true) × (s.key ≡ key))))
pair-from [] key cell holds = absurd (let below = holds.1 in omega arith)
pair-from (x ∷ xs) key cell holds =
    let P : List (ℕ × ℕ) → Type 0 = λ ys. Contains ys (key, cell) in
    let later = λ (more : Contains (filter_map pair_in xs) (key, cell)).
    let rest = pair-from xs key cell more in
    let moved : (q : ℕ) × ((s : Slot) × ((slice_get (x ∷ xs) q ≡ Some s) × ((s.taken ≡ true) × (s.key ≡ key)))) = (suc rest.0, (rest.1.0, rest.1.1)) in moved in
    elim (cases_Bool x.taken) [
      | inl taken ↦ elim (contains-cases (x.key, x.cell) (key, cell) (filter_map pair_in xs) (subst P (ap (λ (o : Option (ℕ × ℕ)). cons_option o (filter_map pair_in xs)) (pair-taken x taken)) holds)) [
        | inl same ↦ (0, (x, (refl, (taken, ap (λ (p : ℕ × ℕ). p.0) same))))
        | inr more ↦ later more
      ]
      | inr free ↦ later (subst P (ap (λ (o : Option (ℕ × ℕ)). cons_option o (filter_map pair_in xs)) (pair-free x free)) holds)
    ]

some-head : (slots : List Slot) (head : Option ℕ) (ps : List ℕ) (q : ℕ) → IsChain slots head ps → IsTrue (is_among ps q) → IsSome head
some-head slots None ps q chain among = absurd (empty-chain slots None ps q refl chain among)
some-head slots (Some p) ps q chain among = refl

pub renew-end : (before slots : List Slot) (heads : List (Option ℕ)) (free : Option ℕ) (first least bucket : ℕ) → IsLeastKey before first least → (place : ℕ) (slot : Slot) → slice_get before place ≡ Some slot → slot.taken ≡ true → slot.key ≡ least →
    IsSpreading slots heads free None least bucket (filter_map pair_in before) → IsRenewed slots heads free least
renew-end before slots heads free first least bucket key place slot at taken is so_far =
    let none = chain-empty slots None so_far.left refl so_far.left_linked in
    let not_left = λ (q : ℕ) (among : IsTrue (is_among so_far.left q)).
    let N : List ℕ → Type 0 = λ xs. IsTrue (is_among xs q) in
    let bad : ⊥ = both_ways true (sym (subst N none among)) refl in bad in
    let all = λ (q : ℕ) (s : Slot) (here : slice_get slots q ≡ Some s) (is_taken : s.taken ≡ true).
    let found : (b : ℕ) × ((b < 1078) × ((IsOf slots least b q) × IsTrue (is_among (so_far.chains b) q))) = elim (so_far.all q s here is_taken) [
      | inl left ↦ absurd (not_left q left)
      | inr found ↦ found
    ] in found in
    let C : List (ℕ × ℕ) → Type 0 = λ ys. Contains ys (slot.key, slot.cell) in
    let holds = subst C (sym so_far.same_pairs) (pair-at before place slot at taken) in
    let now = pair-from slots slot.key slot.cell holds in
    let found = all now.0 now.1.0 now.1.1.0 now.1.1.1.0 in
    let of = found.1.1.0 in
    let e : of.slot ≡ now.1.0 = same_Some of.slot now.1.0 (sym of.at ∙ now.1.1.0) in
    let value : of.slot.key ≡ least = ap (λ (s : Slot). s.key) e ∙ now.1.1.1.1 ∙ is in
    let B : ℕ → Type 0 = λ k. IsBucket least k found.0 in
    let own = one-bucket least least found.0 (least % 1024) (subst B value of.of_bucket) (own-bucket least) in
    let S : ℕ → Type 0 = λ b. IsSome (head_at heads b) in
    record {
      keeps = record {
        size = so_far.size;
        chains = so_far.chains;
        are_chains = record { linked = so_far.linked; only = so_far.only; all = all };
        free_places = so_far.free_places;
        are_free = so_far.are_free;
      };
      some = subst S own (some-head slots (head_at heads found.0) (so_far.chains found.0) now.0 (so_far.linked found.0 found.1.0) found.1.1.1);
    }

-- the pair of least key waits
key-taken : (slots : List Slot) (heads : List (Option ℕ)) (free : Option ℕ) (last bucket first least : ℕ) → (keeps : Keeps slots heads free last) → bucket < 1078 → head_at heads bucket ≡ Some first →
    (key : IsLeastKey slots first least) → key.slot.taken ≡ true
key-taken slots heads free last bucket first least keeps few head key =
    let P : Option ℕ → Type 0 = λ o. IsChain slots o (keeps.chains bucket) in
    let same = chain-same slots (Some first) key.places (keeps.chains bucket) key.linked (subst P head (keeps.are_chains.linked bucket few)) in
    let A : List ℕ → Type 0 = λ xs. IsTrue (is_among xs key.place) in
    let of = keeps.are_chains.only bucket key.place few (subst A same key.among) in
    let slot_is : of.slot ≡ key.slot = same_Some of.slot key.slot (sym of.at ∙ key.at) in
    sym (ap (λ (s : Slot). s.taken) slot_is) ∙ of.taken

pub renew-whole : (before slots : List Slot) (old heads : List (Option ℕ)) (free : Option ℕ) (last bucket first least : ℕ) → (keeps : Keeps before old free last) → IsFirstFull old (Some bucket) → head_at old bucket ≡ Some first →
    IsLeastKey before first least → IsSpreading slots heads free None least bucket (filter_map pair_in before) → IsRenewed slots heads free least
renew-whole before slots old heads free last bucket first least keeps full head key so_far =
    renew-end before slots heads free first least bucket key key.place key.slot key.at (key-taken before old free last bucket first least keeps full.0 head key) key.key so_far

chain-first : (slots : List Slot) (first : ℕ) (ps : List ℕ) → IsChain slots (Some first) ps → IsTrue (is_among ps first)
chain-first slots first [] chain = absurd (none-some first (sym chain))
chain-first slots first (p ∷ ps) chain =
    let N : ℕ → Type 0 = λ n. IsTrue (is_among (p ∷ ps) n) in
    subst N (sym (same_Some first p chain.0)) (among-head p ps)

below-by : (slots : List Slot) (heads : List (Option ℕ)) (free : Option ℕ) (last b : ℕ) (head : Option ℕ) → Keeps slots heads free last → b < last % 1024 → head_at heads b ≡ head → head_at heads b ≡ None
below-by slots heads free last b None keeps less is = is
below-by slots heads free last b (Some first) keeps less is =
    let h = mod_below last 1024 (omega arith) in
    let few : b < 1078 = omega arith in
    let P : Option ℕ → Type 0 = λ o. IsChain slots o (keeps.chains b) in
    let of = keeps.are_chains.only b first few (chain-first slots first (keeps.chains b) (subst P is (keeps.are_chains.linked b few))) in
    let near = near-key last of.slot.key b of.of_bucket (omega arith) in
    let low = near.1 in
    let before = in-block of.slot.key last (sym near.0) (omega arith) in
    let later = of.later in
    absurd (omega arith)

-- no key waits below the last one
pub none-below : (slots : List Slot) (heads : List (Option ℕ)) (free : Option ℕ) (last b : ℕ) → Keeps slots heads free last → b < last % 1024 → head_at heads b ≡ None
none-below slots heads free last b keeps less = below-by slots heads free last b (head_at heads b) keeps less refl

-- a key of a full bucket past the first one is greater, one of the first is this key
pub first-least : (last next b bucket key : ℕ) → last / 1024 ≡ next / 1024 → next % 1024 ≡ bucket → bucket < 1024 → bucket ≤ b → IsBucket last key b → last ≤ key → next ≤ key
first-least last next b bucket key block rest low le of_bucket later =
    elim (cases_lt bucket b) [
      | inl less ↦
          let N : ℕ → Type 0 = λ n. IsBucket last next n in
          let h = lower-less last next key bucket b (subst N rest (make-near last next block)) of_bucket less later in
          omega arith
      | inr same ↦
          let near = near-key last key b of_bucket (omega arith) in
          let next1 = div-add-mod' next 1024 in
          let key1 = div-add-mod' key 1024 in
          let one = near.0 in
          let two = near.1 in
          omega (arith, next1, key1, one, two, block, rest)
    ]

-- the first full bucket is one of a single key, which is the last one now
pub renew-near : (slots : List Slot) (heads : List (Option ℕ)) (free : Option ℕ) (last bucket next : ℕ) → Keeps slots heads free last → IsFirstFull heads (Some bucket) → bucket < 1024 →
    last / 1024 ≡ next / 1024 → next % 1024 ≡ bucket → IsRenewed slots heads free next
renew-near slots heads free last bucket next keeps full low block rest =
    let chains = keeps.are_chains in
    let moved = λ (b place : ℕ) (below : b < 1078) (among : IsTrue (is_among (keeps.chains b) place)) (of : IsOf slots last b place).
    let le : bucket ≤ b = elim (cases_lt b bucket) [
      | inl less ↦ absurd (empty-chain slots (head_at heads b) (keeps.chains b) place (full.1.1 b less) (chains.linked b below) among)
      | inr le ↦ le
    ] in
    let now : IsOf slots next b place = record {
      slot = of.slot;
      at = of.at;
      taken = of.taken;
      later = first-least last next b bucket of.slot.key block rest low le of.of_bucket of.later;
      of_bucket = same-block last next of.slot.key b block of.of_bucket;
    } in now in
    let S : ℕ → Type 0 = λ n. IsSome (head_at heads n) in
    record {
      keeps = record {
        size = keeps.size;
        chains = keeps.chains;
        are_chains = record {
          linked = chains.linked;
          only = λ b place below among. moved b place below among (chains.only b place below among);
          all = λ place slot at taken.
              let found = chains.all place slot at taken in
              (found.0, (found.1.0, (moved found.0 place found.1.0 found.1.1.1 found.1.1.0, found.1.1.1)));
        };
        free_places = keeps.free_places;
        are_free = keeps.are_free;
      };
      some = subst S (sym rest) full.1.0;
    }

-- the key of a bucket of its own
pub near-number : (last bucket : ℕ) → bucket < 1024 → let next = last - last % 1024 + bucket in (last / 1024 ≡ next / 1024) × (next % 1024 ≡ bucket)
near-number last bucket low =
    let next : ℕ = last - last % 1024 + bucket in
    let last1 = div-add-mod' last 1024 in
    let last2 = mod_below last 1024 (omega arith) in
    let next1 = div-add-mod' next 1024 in
    let next2 = mod_below next 1024 (omega arith) in
    (omega (arith, last1, last2, next1, next2), omega (arith, last1, last2, next1, next2))
