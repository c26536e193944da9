-- What a queue keeps as pairs come and go.
use Rattle.std.proofs.Common.{◌≡◌, ◌≢◌, ℕ, zero, suc, ◌%◌, ◌<◌, ◌≤◌, inl, inr, true, false, ◌==◌, List, [], ◌∷◌, length, All, Option, Some, None, IsTrue, slice_get, slice_set, replicate, if◌then◌else◌, refl, sym, ap, subst, ◌∙◌, arith, length-set}
use Rattle.std.specs.List.{filter_map, cons_option}
use Rattle.std.proofs.lemmas.Nat.{mod_below}
use Rattle.std.proofs.lemmas.List.{length-replicate}
use Rattle.std.proofs.lemmas.Bool.{cases_eq, cases_Bool, both_ways}
use Rattle.std.proofs.lemmas.Bool.Decides.{nat_tests}
use Rattle.std.proofs.lemmas.Option.{none-some, same_Some, slice_get_within}
use Rattle.std.proofs.lemmas.List.Elements.{All-cons, All-nil}
use Rattle.gr_base.specs.Trees.{is_among}
use Rattle.maze_route.specs.Buckets.{pair_in, IsBucket, IsChain, head_at, IsOf, Keeps, IsFirstFull}
use Rattle.maze_route.specs.Places.{IsPut, HasFree}
use Rattle.maze_route.specs.Renewed.{IsTakenOut}
use Rattle.maze_route.specs.declared.slot.Slot.{Slot}
use Rattle.maze_route.proofs.BucketNumbers.{one-bucket, own-key}
use Rattle.maze_route.proofs.BucketLemmas.{chains-with}
use Rattle.maze_route.proofs.ChainLemmas.{some-and, make-some-and, chain-once}
use Rattle.maze_route.proofs.PlaceLemmas.{chain-other, pair-taken, pair-free, pairs-unset}
use Rattle.maze_route.proofs.LabelLemmas.{slice_get-set}
use Rattle.maze_route.proofs.SpreadingLemmas.{among-head, among-more, among-split, head-set, chain-long, taken-not-free, with-cases, with-more, with-new}

-- a place where a pair waits isn't the one that it is put into
put-apart : (slots after : List Slot) (place last b : ℕ) (slot : Slot) (chain : List ℕ) → IsPut slots after place slot → ((q : ℕ) → IsTrue (is_among chain q) → IsOf slots last b q) → is_among chain place ≡ false
put-apart slots after place last b slot chain put only =
    elim (cases_Bool (is_among chain place)) [
      | inl among ↦ let of = only place among in absurd (both_ways true (sym of.taken ∙ put.fresh of.slot of.at) refl)
      | inr isnt ↦ isnt
    ]

of-other : (slots after : List Slot) (place last b q : ℕ) (slot : Slot) → IsPut slots after place slot → q ≢ place → IsOf slots last b q → IsOf after last b q
of-other slots after place last b q slot put other of = record { slot = of.slot; at = put.others q other ∙ of.at; taken = of.taken; later = of.later; of_bucket = of.of_bucket }

apart-of : (chain : List ℕ) (q place : ℕ) → IsTrue (is_among chain q) → is_among chain place ≡ false → q ≢ place
apart-of chain q place among isnt = λ same. both_ways true (sym (ap (λ (n : ℕ). is_among chain n) (sym same) ∙ among) ∙ isnt) refl

pub push-keeps : (slots after : List Slot) (heads : List (Option ℕ)) (free free_after : Option ℕ) (last bucket place : ℕ) (slot : Slot) → Keeps slots heads free last →
    IsPut slots after place slot → HasFree after free_after → slot.taken ≡ true → last ≤ slot.key → IsBucket last slot.key bucket → bucket < 1078 → slot.next ≡ head_at heads bucket →
    Keeps after (slice_set heads bucket (Some place)) free_after last
push-keeps slots after heads free free_after last bucket place slot keeps put has taken later of_bucket few next =
    let chains = keeps.are_chains in
    let isnt = λ (b : ℕ) (below : b < 1078). put-apart slots after place last b slot (keeps.chains b) put (λ q among. chains.only b q below among) in
    record {
      size = length-set heads bucket (Some place) ∙ keeps.size;
      chains = chains-with keeps.chains bucket place;
      are_chains = record {
        linked = λ b below.
            let kept = chain-other slots after (head_at heads b) (keeps.chains b) place put.others (isnt b below) (chains.linked b below) in
            let head = head-set heads b bucket (Some place) (let h = keeps.size in omega arith) in
            let L : List ℕ → Type 0 = λ xs. IsChain after (head_at (slice_set heads bucket (Some place)) b) xs in
            elim (cases_eq b bucket) [
              | inl same ↦
                  let test : (b == bucket) ≡ true = grind (arith, nat_tests) in
                  let N : Option ℕ → Type 0 = λ h. IsChain after h (keeps.chains b) in
                  let link : slot.next ≡ head_at heads b = next ∙ ap (λ (n : ℕ). head_at heads n) (sym same) in
                  let whole : IsChain after (Some place) (place ∷ keeps.chains b) = (refl, make-some-and (slice_get after place) (λ s. IsChain after s.next (keeps.chains b)) slot put.at (subst N (sym link) kept)) in
                  let H : Option ℕ → Type 0 = λ h. IsChain after h (place ∷ keeps.chains b) in
                  subst L (sym (ap (λ t. if t then place ∷ keeps.chains b else keeps.chains b) test)) (subst H (sym (head ∙ ap (λ t. if t then Some place else head_at heads b) test)) whole)
              | inr other ↦
                  let test : (b == bucket) ≡ false = grind (arith, nat_tests) in
                  let H : Option ℕ → Type 0 = λ h. IsChain after h (keeps.chains b) in
                  subst L (sym (ap (λ t. if t then place ∷ keeps.chains b else keeps.chains b) test)) (subst H (sym (head ∙ ap (λ t. if t then Some place else head_at heads b) test)) kept)
            ];
        only = λ b q below among.
            elim (with-cases keeps.chains bucket place b q among) [
              | inl is ↦
                  let mine : IsOf after last bucket place = record { slot = slot; at = put.at; taken = taken; later = later; of_bucket = of_bucket } in
                  let Q : ℕ → Type 0 = λ n. IsOf after last n q in
                  let R : ℕ → Type 0 = λ n. IsOf after last bucket n in
                  subst Q (sym (is.0)) (subst R (is.1) mine)
              | inr more ↦ of-other slots after place last b q slot put (apart-of (keeps.chains b) q place more (isnt b below)) (chains.only b q below more)
            ];
        all = λ q s at is_taken.
            elim (cases_eq q place) [
              | inl same ↦
                  let mine : IsOf after last bucket place = record { slot = slot; at = put.at; taken = taken; later = later; of_bucket = of_bucket } in
                  let R : ℕ → Type 0 = λ n. (IsOf after last bucket n) × IsTrue (is_among (chains-with keeps.chains bucket place bucket) n) in
                  (bucket, (few, subst R (sym same) (mine, with-new keeps.chains bucket place)))
              | inr other ↦
                  let found = chains.all q s (sym (put.others q other) ∙ at) is_taken in
                  (found.0, (found.1.0, (of-other slots after place last found.0 q slot put other found.1.1.0, with-more keeps.chains bucket place found.0 q found.1.1.1)))
            ];
      };
      free_places = has.places;
      are_free = has.are_free;
    }

-- each key that waits is at least this
pub keys-least : (slots : List Slot) (key : ℕ) → ((q : ℕ) (s : Slot) → slice_get slots q ≡ Some s → s.taken ≡ true → key ≤ s.key) → All (λ (p : ℕ × ℕ). key ≤ p.0) (filter_map pair_in slots)
keys-least [] key all = All-nil (λ (p : ℕ × ℕ). key ≤ p.0)
keys-least (x ∷ xs) key all =
    let rest = keys-least xs key (λ q s at taken. all (suc q) s at taken) in
    let P : List (ℕ × ℕ) → Type 0 = λ ys. All (λ (p : ℕ × ℕ). key ≤ p.0) ys in
    elim (cases_Bool x.taken) [
      | inl taken ↦
          let low = all 0 x refl taken in
          subst P (sym (ap (λ (o : Option (ℕ × ℕ)). cons_option o (filter_map pair_in xs)) (pair-taken x taken))) (All-cons (λ (p : ℕ × ℕ). key ≤ p.0) (x.key, x.cell) (filter_map pair_in xs) low rest)
      | inr free ↦ subst P (sym (ap (λ (o : Option (ℕ × ℕ)). cons_option o (filter_map pair_in xs)) (pair-free x free))) rest
    ]

-- no pair waits where every bucket is empty
pub none-waits : (slots : List Slot) → ((q : ℕ) (s : Slot) → slice_get slots q ≡ Some s → s.taken ≡ true → ⊥) → filter_map pair_in slots ≡ []
none-waits [] none = refl
none-waits (x ∷ xs) none =
    elim (cases_Bool x.taken) [
      | inl taken ↦ absurd (none 0 x refl taken)
      | inr free ↦ ap (λ (o : Option (ℕ × ℕ)). cons_option o (filter_map pair_in xs)) (pair-free x free) ∙ none-waits xs (λ q s at taken. none (suc q) s at taken)
    ]

pub empty-chain : (slots : List Slot) (head : Option ℕ) (ps : List ℕ) (q : ℕ) → head ≡ None → IsChain slots head ps → IsTrue (is_among ps q) → ⊥
empty-chain slots head [] q none chain among = both_ways true (sym among) refl
empty-chain slots head (p ∷ ps) q none chain among = none-some p (sym none ∙ chain.0)

pub nothing-waits : (slots : List Slot) (heads : List (Option ℕ)) (free : Option ℕ) (last : ℕ) → Keeps slots heads free last → IsFirstFull heads None → filter_map pair_in slots ≡ []
nothing-waits slots heads free last keeps empty =
    none-waits slots (λ q s at taken.
    let found = keeps.are_chains.all q s at taken in
    empty-chain slots (head_at heads found.0) (keeps.chains found.0) q (empty found.0 found.1.0) (keeps.are_chains.linked found.0 found.1.0) found.1.1.1)

abbrev chains-without : (ℕ → List ℕ) → ℕ → List ℕ → ℕ → List ℕ
chains-without chains own rest b = if b == own then rest else chains b

without-cases : (chains : ℕ → List ℕ) (own : ℕ) (rest : List ℕ) (b : ℕ) (P : List ℕ → Type 0) → (b ≡ own → P rest) → (b ≢ own → P (chains b)) → P (chains-without chains own rest b)
without-cases chains own rest b P here there =
    elim (cases_eq b own) [
      | inl same ↦ let test : (b == own) ≡ true = grind (arith, nat_tests) in subst P (sym (ap (λ t. if t then rest else chains b) test)) (here same)
      | inr other ↦ let test : (b == own) ≡ false = grind (arith, nat_tests) in subst P (sym (ap (λ t. if t then rest else chains b) test)) (there other)
    ]

pub free-first : (slots : List Slot) (heads : List (Option ℕ)) (free : Option ℕ) (last own place : ℕ) (slot freed : Slot) → own ≡ last % 1024 → Keeps slots heads free last → head_at heads own ≡ Some place →
    slice_get slots place ≡ Some slot → freed.taken ≡ false → freed.next ≡ free → IsTakenOut slots (slice_set slots place freed) (slice_set heads own slot.next) (Some place) last slot
free-first slots heads free last own place slot freed is_own keeps head read freed_free freed_next =
    let chains = keeps.are_chains in
    let after = slice_set slots place freed in
    let inside = slice_get_within slots place slot read in
    let own_in : own < 1078 = let h = mod_below last 1024 (omega arith) in omega arith in
    let P0 : Option ℕ → Type 0 = λ o. IsChain slots o (keeps.chains own) in
    let long = chain-long slots place slot (keeps.chains own) read (subst P0 head (chains.linked own own_in)) in
    let rest = long.rest in
    let A : List ℕ → Type 0 = λ xs. (q : ℕ) → IsTrue (is_among xs q) → IsOf slots last own q in
    let only_own = subst A long.are (λ q among. chains.only own q own_in among) in
    let of = only_own place (among-head place rest) in
    let slot_is : of.slot ≡ slot = same_Some of.slot slot (sym of.at ∙ read) in
    let taken : slot.taken ≡ true = sym (ap (λ (s : Slot). s.taken) slot_is) ∙ of.taken in
    let B : Slot → Type 0 = λ s. IsBucket last s.key own in
    let N : ℕ → Type 0 = λ n. IsBucket last slot.key n in
    let key = own-key last slot.key (subst N is_own (subst B slot_is of.of_bucket)) in
    let once = chain-once slots place slot rest read long.linked in
    let others = λ (q : ℕ) (other : q ≢ place).
    let test : (q == place) ≡ false = grind (arith, nat_tests) in
    slice_get-set slots place q freed inside ∙ ap (λ b. if b then Some freed else slice_get slots q) test in
    let itself : (place == place) ≡ true = grind (arith, nat_tests) in
    let at : slice_get after place ≡ Some freed = slice_get-set slots place place freed inside ∙ ap (λ b. if b then Some freed else slice_get slots place) itself in
    let apart = λ (b : ℕ) (below : b < 1078) (other : b ≢ own).
    let isnt : is_among (keeps.chains b) place ≡ false = elim (cases_Bool (is_among (keeps.chains b) place)) [
      | inl among ↦
          let there = chains.only b place below among in
          let e : there.slot ≡ of.slot = same_Some there.slot of.slot (sym there.at ∙ of.at) in
          let C : Slot → Type 0 = λ s. IsBucket last s.key b in
          absurd (other (one-bucket last of.slot.key b own (subst C e there.of_bucket) of.of_bucket))
      | inr isnt ↦ isnt
    ] in isnt in
    let move = λ (b q : ℕ) (other : q ≢ place) (is : IsOf slots last b q).
    let moved : IsOf after last b q = record { slot = is.slot; at = others q other ∙ is.at; taken = is.taken; later = is.later; of_bucket = is.of_bucket } in moved in
    let head_after = λ (b : ℕ). head-set heads b own slot.next (let h = keeps.size in omega arith) in
    let keeps_after : Keeps after (slice_set heads own slot.next) (Some place) last = record {
      size = length-set heads own slot.next ∙ keeps.size;
      chains = chains-without keeps.chains own rest;
      are_chains = record {
        linked = λ b below.
            without-cases keeps.chains own rest b (λ xs. IsChain after (head_at (slice_set heads own slot.next) b) xs)
            (λ same.
            let test : (b == own) ≡ true = grind (arith, nat_tests) in
            let H : Option ℕ → Type 0 = λ o. IsChain after o rest in
            subst H (sym (head_after b ∙ ap (λ t. if t then slot.next else head_at heads b) test)) (chain-other slots after slot.next rest place others once long.linked))
            (λ other.
            let test : (b == own) ≡ false = grind (arith, nat_tests) in
            let H : Option ℕ → Type 0 = λ o. IsChain after o (keeps.chains b) in
            subst H (sym (head_after b ∙ ap (λ t. if t then slot.next else head_at heads b) test)) (chain-other slots after (head_at heads b) (keeps.chains b) place others (apart b below other) (chains.linked b below)));
        only = λ b q below.
            without-cases keeps.chains own rest b (λ xs. IsTrue (is_among xs q) → IsOf after last b q)
            (λ same among.
            let N : ℕ → Type 0 = λ n. IsOf after last n q in
            subst N (sym same) (move own q (apart-of rest q place among once) (only_own q (among-more place q rest among))))
            (λ other among. move b q (apart-of (keeps.chains b) q place among (apart b below other)) (chains.only b q below among));
        all = λ q s is is_taken.
            let away : q ≢ place = λ same.
            let e : freed ≡ s = same_Some freed s (sym at ∙ ap (λ (n : ℕ). slice_get after n) (sym same) ∙ is) in
            both_ways true (sym (ap (λ (t : Slot). t.taken) e ∙ is_taken) ∙ freed_free) refl in
            let found = chains.all q s (sym (others q away) ∙ is) is_taken in (
              found.0,
              (
                found.1.0,
                (
                  move found.0 q away found.1.1.0,
                  without-cases keeps.chains own rest found.0 (λ xs. IsTrue (is_among xs q))
                      (λ same.
                      let L : List ℕ → Type 0 = λ xs. IsTrue (is_among xs q) in
                      let in_own : IsTrue (is_among (keeps.chains own) q) = let N : ℕ → Type 0 = λ n. IsTrue (is_among (keeps.chains n) q) in subst N same found.1.1.1 in
                      elim (among-split place q rest (subst L long.are in_own)) [
                        | inl is_place ↦ absurd (away (sym is_place))
                        | inr more ↦ more
                      ])
                      (λ other. found.1.1.1),
                ),
              ),
            );
      };
      free_places = place ∷ keeps.free_places;
      are_free = record {
        linked =
            let F : Option ℕ → Type 0 = λ o. IsChain after o keeps.free_places in
            let not_free = taken-not-free slots free keeps.free_places place slot keeps.are_free read taken in
            (refl, make-some-and (slice_get after place) (λ s. IsChain after s.next keeps.free_places) freed at (subst F (sym freed_next) (chain-other slots after free keeps.free_places place others not_free keeps.are_free.linked)));
        only = λ q among.
            elim (among-split place q keeps.free_places among) [
              | inl same ↦ make-some-and (slice_get after q) (λ s. s.taken ≡ false) freed (ap (λ (n : ℕ). slice_get after n) (sym same) ∙ at) freed_free
              | inr more ↦
                  let not_free = taken-not-free slots free keeps.free_places place slot keeps.are_free read taken in
                  let found = some-and (slice_get slots q) (λ s. s.taken ≡ false) (keeps.are_free.only q more) in
                  make-some-and (slice_get after q) (λ s. s.taken ≡ false) found.0 (others q (apart-of keeps.free_places q place more not_free) ∙ found.1.0) found.1.1
            ];
      };
    } in
    record {
      keeps = keeps_after;
      pairs = pairs-unset slots place slot freed (slot.key, slot.cell) read (pair-taken slot taken) (pair-free freed freed_free);
      least = keys-least after last (λ q s is is_taken.
          let found = keeps_after.are_chains.all q s is is_taken in
          let e : found.1.1.0.slot ≡ s = same_Some found.1.1.0.slot s (sym found.1.1.0.at ∙ is) in
          let L : Slot → Type 0 = λ t. last ≤ t.key in
          subst L e found.1.1.0.later);
      key = sym key;
    }

pub no-head : (count b : ℕ) → head_at (replicate count None) b ≡ None
no-head zero b = refl
no-head (suc count) zero = refl
no-head (suc count) (suc b) = no-head count b

pub empty-keeps : (slots : List Slot) (heads : List (Option ℕ)) (last : ℕ) → slots ≡ [] → heads ≡ replicate 1078 None → Keeps slots heads None last
empty-keeps slots heads last none empty =
    let nothing = λ (q : ℕ) (s : Slot) (at : slice_get slots q ≡ Some s).
    let bad : ⊥ = none-some s (sym (ap (λ (xs : List Slot). slice_get xs q) none) ∙ at) in bad in
    record {
      size = ap (λ (hs : List (Option ℕ)). length hs) empty ∙ length-replicate {A = Option ℕ} 1078 None;
      chains = λ b. [];
      are_chains = record {
        linked = λ b below. ap (λ (hs : List (Option ℕ)). head_at hs b) empty ∙ no-head 1078 b;
        only = λ b q below among. absurd (both_ways true (sym among) refl);
        all = λ q s at taken. absurd (nothing q s at);
      };
      free_places = [];
      are_free = record { linked = refl; only = λ q among. absurd (both_ways true (sym among) refl) };
    }
