-- What the workers have attempted together.
use Rattle.std.proofs.Common.{◌≡◌, ℕ, suc, zero, ◌+◌, ◌<◌, inl, inr, Bool, true, false, cond, ◌==◌, List, [], ◌∷◌, ◌++◌, length, map, take, get_or, All, Some, Result, Ok, OnOk, slice_get, sum_by, refl, sym, ap, subst, ◌∙◌, arith, append_assoc}
use Rattle.std.proofs.lemmas.Bool.{cases_eq}
use Rattle.std.proofs.lemmas.Bool.Decides.{nat_tests}
use Rattle.std.proofs.lemmas.List.{length-map, take_more}
use Rattle.std.proofs.lemmas.List.Elements.{All-cons, All-get_or}
use Rattle.std.proofs.lemmas.List.Sums.{sum_by-cons, sum_by-append}
use Rattle.std.proofs.lemmas.List.Folds.{fold-map}
use Rattle.std.proofs.lemmas.Option.{none-some, same_Some, slice_get_within, slice_get-get_or, get_or_from_slice_get}
use Rattle.cost_rules.specs.declared.sight.Watch.TheVariants.{Never}
use Rattle.cost_rules.specs.declared.site.Formula.{Formula}
use Rattle.gr_base.specs.Designs.{DesignView}
use Rattle.grid_demand.specs.Tables.{CapacityView, capacity_of}
use Rattle.book_state.specs.Books.{IsLegal}
use Rattle.run_histories.specs.Attempts.{Rests}
use Rattle.run_histories.specs.RunHistories.{Setting, asked_for}
use Rattle.track_book.specs.Passes.{PassView}
use Rattle.work_share.specs.Views.{ShareView, HandView, IsHandOf, IsNewHand, AreHandsOf, IsDealt, times}
use Rattle.ripup_workers.specs.Crews.{IsWorked, HasAttemptedOver}
use Rattle.ripup_workers.specs.Rounding.{HaveAttempted}
use Rattle.ripup_workers.specs.Working.{HasAttempted}
use Rattle.track_book.proofs.Dealing.{get-there}
use Rattle.ripup_workers.proofs.TurningStages.{led-nothing, led-then}

-- parts of items that are taken off a list one by one
pub parts-next : {A B : Type 0} (part : A → B) (done : List B) (x : A) (rest before : List A) (new all : List B) → done ++ map part before ≡ all → before ≡ x ∷ rest → new ≡ done ++ part x ∷ [] →
    new ++ map part rest ≡ all
parts-next part done x rest before new all whole first more =
    ap (λ (l : List _). l ++ map part rest) more ∙ append_assoc done (part x ∷ []) (map part rest) ∙ ap (λ (l : List _). done ++ map part l) (sym first) ∙ whole

pub all-next : {A : Type 0} (P : A → Type 0) (x : A) (rest before : List A) → before ≡ x ∷ rest → P x → All P rest → All P before
all-next P x rest before first this all = subst (All P) (sym first) (All-cons P x rest this all)

-- each hand that is dealt is a new one
pub dealt-each : (nets : List ℕ) (workers : ℕ) (s : ShareView) (hands : List HandView) → IsDealt nets workers s hands →
    (at : ℕ) (h : HandView) → slice_get hands at ≡ Some h → IsNewHand s at h
dealt-each nets workers s hands dealt at h there = record {
  number_is = dealt.hands_are.numbers at h there;
  taken_is = subst (λ (hand : HandView). hand.taken ≡ []) (get_or_from_slice_get hands at h h there)
      (All-get_or (λ (hand : HandView). hand.taken ≡ []) hands at h (slice_get_within hands at h there) dealt.taken_are);
  of = dealt.hands_are.each at h there;
}

-- no attempt, and attempts after others
pub tried-none : (d : DesignView) (formula : Formula) (c : CapacityView) (round : ℕ) (p : PassView) → c ≡ capacity_of d → IsLegal c p.seen → HasAttemptedOver d formula round [] p p
tried-none d formula c round p is legal =
    λ t over. led-nothing t round Rests p (subst (λ (k : CapacityView). IsLegal k p.seen) (is ∙ ap capacity_of (sym over.design)) legal)

pub tried-then : (d : DesignView) (formula : Formula) (round : ℕ) (xs ys : List ℕ) (p q r : PassView) → HasAttemptedOver d formula round xs p q → HasAttemptedOver d formula round ys q r →
    HasAttemptedOver d formula round (xs ++ ys) p r
tried-then d formula round xs ys p q r first second = λ t over. led-then t round Rests Rests Rests xs ys p q r (first t over) (second t over)

-- one more of a list of nets
pub tried-next : (d : DesignView) (formula : Formula) (round : ℕ) (nets : List ℕ) (at net : ℕ) (p q r : PassView) → at < length nets → net ≡ get_or nets at 0 →
    HasAttemptedOver d formula round (take at nets) p q → HasAttemptedOver d formula round (net ∷ []) q r → HasAttemptedOver d formula round (take (at + 1) nets) p r
tried-next d formula round nets at net p q r within is first second =
    subst (λ (ns : List ℕ). HasAttemptedOver d formula round ns p r)
    (ap (λ (n : ℕ). take at nets ++ n ∷ []) is ∙ sym (take_more nets at 0 within))
    (tried-then d formula round (take at nets) (net ∷ []) p q r first second)

-- an item of a list of parts
part-at : {A B : Type 0} (part : A → B) (xs : List A) (at : ℕ) (y : B) → slice_get (map part xs) at ≡ Some y → (x : A) × (slice_get xs at ≡ Some x) × (part x ≡ y)
part-at part [] at y there = absurd (cc)
part-at part (x ∷ xs) zero y there = (x, refl, same_Some (part x) y there)
part-at part (x ∷ xs) (suc at) y there = part-at part xs at y there

part-of : {A B : Type 0} (part : A → B) (xs : List A) (at : ℕ) (x : A) → slice_get xs at ≡ Some x → slice_get (map part xs) at ≡ Some (part x)
part-of part [] at x there = absurd (cc)
part-of part (y ∷ ys) zero x there = ap (λ k. Some (part k)) (same_Some y x there)
part-of part (y ∷ ys) (suc at) x there = part-of part ys at x there

item-is : {A : Type 0} (xs : List A) (at : ℕ) (x y : A) → slice_get xs at ≡ Some x → get_or xs at y ≡ x
item-is xs at x y there = same_Some (get_or xs at y) x (sym (slice_get-get_or xs at y (slice_get_within xs at x there)) ∙ there)

-- the members of a round have worked
module _ {M E : Type 0} (hand : M → HandView) (pass : M → PassView) (done : M → Result (Unit {0}) E) (s : ShareView) (d : DesignView) (formula : Formula) (round : ℕ) (xs ys : List M)
    (count : length ys ≡ length xs)
    (worked : (at : ℕ) (x : M) → at < length xs →
    IsWorked s d formula round (hand (get_or xs at x)) (hand (get_or ys at x)) (pass (get_or xs at x)) (pass (get_or ys at x)) (done (get_or ys at x))) where
  worked-at : (at : ℕ) (x y : M) → slice_get xs at ≡ Some x → slice_get ys at ≡ Some y → IsWorked s d formula round (hand x) (hand y) (pass x) (pass y) (done y)
  worked-at at x y there after =
      subst (λ (k : M). IsWorked s d formula round (hand k) (hand y) (pass k) (pass y) (done y)) (item-is xs at x x there)
      (subst (λ (k : M). IsWorked s d formula round (hand (get_or xs at x)) (hand k) (pass (get_or xs at x)) (pass k) (done k)) (item-is ys at y x after)
      (worked at x (slice_get_within xs at x there)))

  -- what each hand took its pass has attempted
  pub hand-tried : ((at : ℕ) (h : HandView) → slice_get (map hand xs) at ≡ Some h → IsNewHand s at h) → All (λ (m : M). done m ≡ Ok tt) ys → (at : ℕ) (p q : PassView) (h : HandView) →
      slice_get (map pass xs) at ≡ Some p → slice_get (map pass ys) at ≡ Some q → slice_get (map hand ys) at ≡ Some h → HasAttemptedOver d formula round h.taken p q
  hand-tried new all at p q h p_there q_there h_there =
      let x = part-at pass xs at p p_there in
      let y = part-at pass ys at q q_there in
      let z = part-at hand ys at h h_there in
      let same : z.0 ≡ y.0 = same_Some z.0 y.0 (sym z.1 ∙ y.1) in
      let h_is : hand y.0 ≡ h = ap hand (sym same) ∙ z.2 in
      let w = worked-at at x.0 y.0 x.1 y.1 in
      let fine : done y.0 ≡ Ok tt = subst (λ (m : M). done m ≡ Ok tt) (item-is ys at y.0 y.0 y.1) (all at y.0 (slice_get_within ys at y.0 y.1)) in
      let fresh = new at (hand x.0) (part-of hand xs at x.0 x.1) in
      λ t over. (
      let by = w.worked fine t over in
      let taken : by.nets ≡ h.taken = sym (by.taken_is ∙ ap (λ (l : List ℕ). l ++ by.nets) fresh.taken_is) ∙ ap (λ (k : HandView). k.taken) h_is in
      subst (λ (ns : List ℕ). HasAttempted t round ns p q) taken
      (subst (λ (k : PassView × PassView). HasAttempted t round by.nets k.0 k.1) (λ i. (x.2 i, y.2 i)) by.attempted))

  pub hands-are : length (map hand xs) ≡ s.workers → ((at : ℕ) (h : HandView) → slice_get (map hand xs) at ≡ Some h → IsNewHand s at h) → AreHandsOf s (map hand ys)
  hands-are all new = record {
    count = length-map ys hand ∙ count ∙ sym (length-map xs hand) ∙ all;
    numbers = λ at h there. (
        let y = part-at hand ys at h there in
        let within = slice_get_within ys at y.0 y.1 in
        let x = get-there xs at (omega (arith, within, count)) in
        let w = worked-at at x.0 y.0 x.1 y.1 in
        ap (λ (k : HandView). k.number) (sym y.2) ∙ w.number ∙ (new at (hand x.0) (part-of hand xs at x.0 x.1)).number_is);
    each = λ at h there. (
        let y = part-at hand ys at h there in
        let within = slice_get_within ys at y.0 y.1 in
        let x = get-there xs at (omega (arith, within, count)) in
        subst (IsHandOf s) y.2 (worked-at at x.0 y.0 x.1 y.1).hand_of);
  }

map-map : {A B D : Type 0} (f : A → B) (g : B → D) (xs : List A) → map g (map f xs) ≡ map (λ x. g (f x)) xs
map-map f g [] = refl
map-map f g (x ∷ xs) = ap (λ (l : List _). g (f x) ∷ l) (map-map f g xs)

-- the same of workers and hands apart
pub crew-tried : {M W E : Type 0} (hand : M → HandView) (worker : M → W) (seen : W → PassView) (done : M → Result (Unit {0}) E) (s : ShareView) (d : DesignView) (formula : Formula) (round : ℕ)
    (xs ys : List M) (before after : List W) (dealt hands : List HandView) → length ys ≡ length xs →
    ((at : ℕ) (x : M) → at < length xs →
    IsWorked s d formula round (hand (get_or xs at x)) (hand (get_or ys at x)) (seen (worker (get_or xs at x))) (seen (worker (get_or ys at x))) (done (get_or ys at x))) →
    map worker xs ≡ before → after ≡ map worker ys → map hand xs ≡ dealt → hands ≡ map hand ys → ((at : ℕ) (h : HandView) → slice_get dealt at ≡ Some h → IsNewHand s at h) →
    All (λ (m : M). done m ≡ Ok tt) ys → (at : ℕ) (p q : PassView) (h : HandView) → slice_get (map seen before) at ≡ Some p → slice_get (map seen after) at ≡ Some q →
    slice_get hands at ≡ Some h → HasAttemptedOver d formula round h.taken p q
crew-tried hand worker seen done s d formula round xs ys before after dealt hands count worked before_is after_is dealt_is hands_are new all at p q h p_there q_there h_there =
    hand-tried hand (λ m. seen (worker m)) done s d formula round xs ys count worked
    (λ place x there. new place x (ap (λ (l : List HandView). slice_get l place) (sym dealt_is) ∙ there)) all at p q h
    (ap (λ (l : List PassView). slice_get l at) (sym (map-map worker seen xs) ∙ ap (λ (l : List _). map seen l) before_is) ∙ p_there)
    (ap (λ (l : List PassView). slice_get l at) (sym (map-map worker seen ys) ∙ ap (λ (l : List _). map seen l) (sym after_is)) ∙ q_there)
    (ap (λ (l : List HandView). slice_get l at) (sym hands_are) ∙ h_there)

-- how many there are
pub crew-count : {M W : Type 0} (worker : M → W) (seen : W → PassView) (xs ys : List M) (before after : List W) → length ys ≡ length xs → map worker xs ≡ before → after ≡ map worker ys →
    length (map seen after) ≡ length (map seen before)
crew-count worker seen xs ys before after count before_is after_is =
    let old = length-map before seen in
    let new = length-map after seen in
    let old_same = ap length before_is in
    let new_same = ap length after_is in
    let xs_count = length-map xs worker in
    let ys_count = length-map ys worker in
    omega (arith, count, old, new, old_same, new_same, xs_count, ys_count)

pub hands-count : {M W : Type 0} (worker : M → W) (hand : M → HandView) (seen : W → PassView) (xs ys : List M) (before : List W) (hands : List HandView) → length ys ≡ length xs →
    map worker xs ≡ before → hands ≡ map hand ys → length hands ≡ length (map seen before)
hands-count worker hand seen xs ys before hands count before_is hands_are =
    let old = length-map before seen in
    let old_same = ap length before_is in
    let new_same = ap length hands_are in
    let xs_count = length-map xs worker in
    let ys_count = length-map ys hand in
    omega (arith, count, old, old_same, new_same, xs_count, ys_count)

-- what the first worker has seen is legal
pub record HasFirst (old : List PassView) (hands : List HandView) : Type 0 where
  pub p : PassView
  pub h : HandView
  pub p_there : slice_get old 0 ≡ Some p
  pub h_there : slice_get hands 0 ≡ Some h

pub crew-some : {M W : Type 0} (worker : M → W) (hand : M → HandView) (seen : W → PassView) (xs ys : List M) (before after : List W) (hands : List HandView) → length ys ≡ length xs →
    map worker xs ≡ before → after ≡ map worker ys → hands ≡ map hand ys → 0 < length after → HasFirst (map seen before) hands
crew-some worker hand seen xs ys before after hands count before_is after_is hands_are some =
    let all = crew-count worker seen xs ys before after count before_is after_is in
    let old = length-map after seen in
    let taken = hands-count worker hand seen xs ys before hands count before_is hands_are in
    let p = get-there (map seen before) 0 (omega (arith, all, old, some)) in
    let h = get-there hands 0 (omega (arith, all, old, some, taken)) in
    record { p = p.0; h = h.0; p_there = p.1; h_there = h.1 }

pub tried-legal : (d : DesignView) (formula : Formula) (c : CapacityView) (round : ℕ) → c ≡ capacity_of d → (old : List PassView) (hands : List HandView) (q : PassView) → HasFirst old hands →
    ((p : PassView) (h : HandView) → slice_get old 0 ≡ Some p → slice_get hands 0 ≡ Some h → HasAttemptedOver d formula round h.taken p q) → IsLegal c q.seen
tried-legal d formula c round is old hands q first tried =
    subst (λ (k : CapacityView). IsLegal k q.seen) (sym is)
    (tried first.p first.h first.p_there first.h_there (asked_for d [] formula 0 0 Never 0) (record { design = refl; formula_is = refl })).legal

-- the hands of members that have just been given out
pub hands-of : {M : Type 0} (hand : M → HandView) (s : ShareView) (xs : List M) (hands : List HandView) → map hand xs ≡ hands → ((at : ℕ) (h : HandView) → slice_get hands at ≡ Some h → IsNewHand s at h) →
    All (λ (m : M). IsHandOf s (hand m)) xs
hands-of hand s xs hands is new = λ i d within.
    let there = part-of hand xs i (get_or xs i d) (slice_get-get_or xs i d within) in
    (new i (hand (get_or xs i d)) (ap (λ (l : List HandView). slice_get l i) (sym is) ∙ there)).of

-- what the hands took, and the first worker the rest
abbrev parts-of : List HandView → List ℕ → List (List ℕ)
parts-of [] rest = []
parts-of (h ∷ hs) rest = (h.taken ++ rest) ∷ map (λ (k : HandView). k.taken) hs

parts-count : (hands : List HandView) (rest : List ℕ) → length (parts-of hands rest) ≡ length hands
parts-count [] rest = refl
parts-count (h ∷ hs) rest = ap suc (length-map hs (λ (k : HandView). k.taken))

parts-sum : (net : ℕ) (hands : List HandView) (rest : List ℕ) → 0 < length hands →
    sum_by (λ (part : List ℕ). times net part) (parts-of hands rest) ≡ sum_by (λ (h : HandView). times net h.taken) hands + times net rest
parts-sum net [] rest some = absurd (omega (arith, some))
parts-sum net (h ∷ hs) rest some =
    let first = sum_by-append (λ (other : ℕ). cond {A = ℕ} (other == net) 1 0) h.taken rest in
    let others : sum_by (λ (part : List ℕ). times net part) (map (λ (k : HandView). k.taken) hs) ≡ sum_by (λ (k : HandView). times net k.taken) hs =
    fold-map (λ (n : ℕ) (part : List ℕ). n + times net part) (λ (k : HandView). k.taken) 0 hs in
    let left = sum_by-cons (λ (part : List ℕ). times net part) (h.taken ++ rest) (map (λ (k : HandView). k.taken) hs) in
    let right = sum_by-cons (λ (k : HandView). times net k.taken) h hs in
    omega (arith, first, others, left, right)

-- what the workers have attempted together
pub have-attempted : (t : Setting) (round : ℕ) (nets rest : List ℕ) (old mid new : List PassView) (hands : List HandView) (q s : PassView) → length mid ≡ length old → length hands ≡ length old →
    ((at : ℕ) (x y : PassView) (h : HandView) → slice_get old at ≡ Some x → slice_get mid at ≡ Some y → slice_get hands at ≡ Some h → HasAttempted t round h.taken x y) →
    slice_get mid 0 ≡ Some q → slice_get new 0 ≡ Some s → HasAttempted t round rest q s → length new ≡ length mid → ((at : ℕ) → (at ≡ 0 → ⊥) → slice_get new at ≡ slice_get mid at) →
    ((net : ℕ) → times net nets ≡ sum_by (λ (h : HandView). times net h.taken) hands + times net rest) → HaveAttempted t round nets old new
have-attempted t round nets rest old mid new hands q s mid_count hands_count each q_there s_there last new_count same whole = record {
  count = new_count ∙ mid_count;
  parts = parts-of hands rest;
  parts_count = parts-count hands rest ∙ hands_count;
  each = λ at x y part x_there y_there part_there. by hands each at x y part x_there y_there part_there;
  whole = λ net. whole net ∙ sym (parts-sum net hands rest (let within = slice_get_within mid 0 q q_there in omega (arith, within, mid_count, hands_count)));
}
  where
    by : (hands : List HandView) →
        ((at : ℕ) (x y : PassView) (h : HandView) → slice_get old at ≡ Some x → slice_get mid at ≡ Some y → slice_get hands at ≡ Some h → HasAttempted t round h.taken x y) →
        (at : ℕ) (x y : PassView) (part : List ℕ) → slice_get old at ≡ Some x → slice_get new at ≡ Some y → slice_get (parts-of hands rest) at ≡ Some part → HasAttempted t round part x y
    by [] each at x y part x_there y_there part_there = absurd (none-some part part_there)
    by (h ∷ hs) each zero x y part x_there y_there part_there =
        subst (λ (ns : List ℕ). HasAttempted t round ns x y) (same_Some (h.taken ++ rest) part part_there)
        (led-then t round Rests Rests Rests h.taken rest x q y (each 0 x q h x_there q_there refl)
        (subst (λ (k : PassView). HasAttempted t round rest q k) (same_Some s y (sym s_there ∙ y_there)) last))
    by (h ∷ hs) each (suc at) x y part x_there y_there part_there =
        let k = part-at (λ (k : HandView). k.taken) hs at part part_there in
        subst (λ (ns : List ℕ). HasAttempted t round ns x y) k.2
        (each (suc at) x y k.0 x_there (sym (same (suc at) (λ is. absurd (omega (arith, is)))) ∙ y_there) k.1)

-- they have attempted the same nets in another order too
pub attempted-as : (t : Setting) (round : ℕ) (nets order : List ℕ) (old new : List PassView) →
    ((net : ℕ) → times net nets ≡ times net order) → HaveAttempted t round order old new → HaveAttempted t round nets old new
attempted-as t round nets order old new same attempted = record {
  count = attempted.count;
  parts = attempted.parts;
  parts_count = attempted.parts_count;
  each = attempted.each;
  whole = λ net. same net ∙ attempted.whole net;
}

-- a net that stands in the rest stands among the nets
times-some : (net : ℕ) (xs : List ℕ) (at : ℕ) → slice_get xs at ≡ Some net → 0 < times net xs
times-some net [] at there = absurd (cc)
times-some net (x ∷ xs) zero there =
    let is : x ≡ net = same_Some x net there in
    let test : (x == net) ≡ true = grind (arith, nat_tests) in
    let one : cond {A = ℕ} (x == net) 1 0 ≡ 1 = ap (λ (b : Bool). cond {A = ℕ} b 1 0) test in
    let whole = sum_by-cons (λ (other : ℕ). cond {A = ℕ} (other == net) 1 0) x xs in
    omega (arith, one, whole)
times-some net (x ∷ xs) (suc at) there =
    let rest = times-some net xs at there in
    let whole = sum_by-cons (λ (other : ℕ). cond {A = ℕ} (other == net) 1 0) x xs in
    omega (arith, rest, whole)

times-place : (net : ℕ) (xs : List ℕ) → 0 < times net xs → (at : ℕ) × (slice_get xs at ≡ Some net)
times-place net [] some = absurd (omega (arith, some))
times-place net (x ∷ xs) some = elim (cases_eq x net) [
  | inl is ↦ (0, ap (λ (n : ℕ). Some n) is)
  | inr apart ↦
      let test : (x == net) ≡ false = grind (arith, nat_tests) in
      let none : cond {A = ℕ} (x == net) 1 0 ≡ 0 = ap (λ (b : Bool). cond {A = ℕ} b 1 0) test in
      let whole = sum_by-cons (λ (other : ℕ). cond {A = ℕ} (other == net) 1 0) x xs in
      let later = times-place net xs (omega (arith, some, none, whole)) in
      (suc later.0, later.1)
]

pub rest-all : (P : ℕ → Type 0) (nets rest : List ℕ) (more : ℕ → ℕ) → All P nets → ((net : ℕ) → times net nets ≡ more net + times net rest) → All P rest
rest-all P nets rest more all whole = λ i d within.
    let net : ℕ = get_or rest i d in
    let some = times-some net rest i (slice_get-get_or rest i d within) in
    let parts = whole net in
    let place = times-place net nets (omega (arith, some, parts)) in
    subst P (item-is nets place.0 net net place.1) (all place.0 net (slice_get_within nets place.0 net place.1))

-- what is ensured of an answer holds of the value
pub of-ok : {A E : Type 0} (r : Result A E) (x : A) (P : Type 0) → r ≡ Ok x → OnOk r P → P
of-ok {A = A} {E = E} r x P is ensured = subst (λ (k : Result A E). OnOk k P) is ensured
