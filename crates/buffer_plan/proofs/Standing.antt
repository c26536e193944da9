-- What stands at the nodes of a tree, one node after another, whatever that is.
use Rattle.std.proofs.Common.{◌≡◌, ◌≢◌, ℕ, ◌+◌, ◌-◌, ◌*◌, ◌<◌, ◌≤◌, inl, inr, List, [], ◌∷◌, ◌++◌, length, sum_by, Option, Some, None, slice_index_or, slice_set, sym, ap, subst, ◌∙◌, arith, le_refl, mul-le-mul}
use Rattle.std.proofs.lemmas.Bool.{cases_eq}
use Rattle.std.proofs.lemmas.List.{length-set, get_or-set_same, get_or-set_other, set-set, get_or_at, get_or_append_left, length_push}
use Rattle.std.proofs.lemmas.List.Sums.{sum_by-set}

-- what stands at a node, where it is known what None stands for
abbrev pub standing_at : {T : Type 0} → (Option T → T) → List (Option T) → ℕ → T
standing_at told stands node = told (slice_index_or stands node None)

-- the first n nodes are there, and what stands at each is as it should be
pub record AreStanding {T : Type 0} (told : Option T → T) (Is : ℕ → T → Type 0) (n : ℕ) (stands : List (Option T)) : Type 0 where
  pub long : length stands ≡ n
  pub each : (node : ℕ) → node < n → Is node (standing_at told stands node)

pub none-stands : {T : Type 0} (told : Option T → T) (Is : ℕ → T → Type 0) (stands : List (Option T)) → stands ≡ [] → AreStanding told Is 0 stands
none-stands {T} told Is stands empty = record {
  long = ap (λ (xs : List (Option T)). length xs) empty;
  each = λ node below. absurd (omega arith);
}

pub one-stands : {T : Type 0} (told : Option T → T) (Is : ℕ → T → Type 0) (n : ℕ) (before after : List (Option T)) (one : Option T) →
    AreStanding told Is n before → after ≡ before ++ one ∷ [] → Is n (told one) → AreStanding told Is (n + 1) after
one-stands {T} told Is n before after one stand pushed is =
    let long = stand.long in
    record {
      long = ap (λ (xs : List (Option T)). length xs) pushed ∙ length_push before one ∙ ap (λ (k : ℕ). k + 1) long;
      each = λ node inside. subst (λ (xs : List (Option T)). Is node (standing_at told xs node)) (sym pushed) (elim (cases_eq node n) [
        | inl same ↦
            subst (λ (u : ℕ). Is u (standing_at told (before ++ one ∷ []) u)) (sym same)
            (subst (λ (o : Option T). Is n (told o)) (sym (get_or_at before one [] None n long)) is)
        | inr apart ↦
            subst (λ (o : Option T). Is node (told o)) (sym (get_or_append_left before (one ∷ []) None node (omega arith))) (stand.each node (omega arith))
      ]);
    }

pub all-stand : {T : Type 0} {told : Option T → T} {Is : ℕ → T → Type 0} {n : ℕ} {stands : List (Option T)} (all : ℕ) →
    AreStanding told Is n stands → n ≡ all → AreStanding told Is all stands
all-stand {T} {told} {Is} {n} {stands} all stand same = subst (λ (m : ℕ). AreStanding told Is m stands) same stand

-- after a node was hung on its parent: nothing stands at the node, and at the parent what was joined
abbrev pub hung_on : {T : Type 0} → List (Option T) → (node parent : ℕ) → T → List (Option T)
hung_on stands node parent joined = slice_set (slice_set stands node None) parent (Some joined)

hung-parent : {T : Type 0} (stands : List (Option T)) (node parent : ℕ) (joined : T) → parent < length stands →
    slice_index_or (hung_on stands node parent joined) parent None ≡ Some joined
hung-parent stands node parent joined inside =
    let long = length-set stands node None in
    get_or-set_same (slice_set stands node None) parent (Some joined) None (omega arith)

hung-elsewhere : {T : Type 0} (stands : List (Option T)) (node parent v : ℕ) (joined : T) → v ≢ parent → v ≢ node →
    slice_index_or (hung_on stands node parent joined) v None ≡ slice_index_or stands v None
hung-elsewhere stands node parent v joined other apart =
    get_or-set_other (slice_set stands node None) parent v (Some joined) None other ∙ get_or-set_other stands node v None None apart

-- each earlier node is as it should be then, the parent by what was joined
pub hung-each : {T : Type 0} (told : Option T → T) (Old New : ℕ → T → Type 0) (stands : List (Option T)) (node parent : ℕ) (joined : T) →
    node < length stands → parent < node → ((v : ℕ) → v < node + 1 → Old v (standing_at told stands v)) → New parent (told (Some joined)) →
    ((v : ℕ) (one : T) → v ≢ parent → Old v one → New v one) →
    (v : ℕ) → v < node → New v (standing_at told (hung_on stands node parent joined) v)
hung-each {T} told Old New stands node parent joined inside earlier old new stays v below = elim (cases_eq v parent) [
  | inl same ↦
      subst (λ (u : ℕ). New u (standing_at told (hung_on stands node parent joined) u)) (sym same)
      (subst (λ (o : Option T). New parent (told o)) (sym (hung-parent stands node parent joined (omega arith))) new)
  | inr other ↦
      subst (λ (o : Option T). New v (told o)) (sym (hung-elsewhere stands node parent v joined other (λ e. omega arith)))
      (stays v (standing_at told stands v) other (old v (omega arith)))
]

pub hung-long : {T : Type 0} (stands : List (Option T)) (node parent : ℕ) (joined : T) → length (hung_on stands node parent joined) ≡ length stands
hung-long stands node parent joined = length-set (slice_set stands node None) parent (Some joined) ∙ length-set stands node None

-- a count over all nodes grows by k at most where the joined one counts so much more than what was joined
pub hung-few : {T : Type 0} (count : Option T → ℕ) (k n : ℕ) (stands : List (Option T)) (node parent : ℕ) (joined : T) → node < length stands → parent < node →
    count None ≡ 0 → count (Some joined) ≤ count (slice_index_or stands parent None) + count (slice_index_or stands node None) + k →
    sum_by count stands ≤ k * n → sum_by count (hung_on stands node parent joined) ≤ k * (n + 1)
hung-few count k n stands node parent joined inside earlier none short few =
    let long = length-set stands node None in
    let first = sum_by-set count stands node None None inside in
    let second = sum_by-set count (slice_set stands node None) parent (Some joined) None (omega arith) in
    let same = ap count (get_or-set_other stands node parent None None (λ e. omega arith)) in
    let out : k * (n + 1) ≡ k * n + k = omega arith in
    omega arith

-- what stood at the node and its parent was taken out, and what was joined put in
pub hung-put : {T : Type 0} (stands without neither : List (Option T)) (node parent : ℕ) (joined : T) →
    without ≡ slice_set stands node None → neither ≡ slice_set without parent None → hung_on stands node parent joined ≡ slice_set neither parent (Some joined)
hung-put {T} stands without neither node parent joined taken taken_too =
    sym (ap (λ (xs : List (Option T)). slice_set xs parent (Some joined))
    (taken_too ∙ ap (λ (xs : List (Option T)). slice_set xs parent None) taken)
    ∙ set-set (slice_set stands node None) parent None (Some joined))

-- what stands at a parent is there still when what stood at its child was taken out
pub own-stays : {T : Type 0} (told : Option T → T) (stands without : List (Option T)) (node parent : ℕ) (own : T) → without ≡ slice_set stands node None →
    own ≡ standing_at told without parent → parent < node → own ≡ standing_at told stands parent
own-stays {T} told stands without node parent own taken is earlier =
    is ∙ ap (λ (xs : List (Option T)). standing_at told xs parent) taken
    ∙ ap told (get_or-set_other stands node parent None None (λ e. omega arith))

-- the nodes from one on are hung, and no node took more than so many steps
pub record AreHungFrom (Is : ℕ → Type 0) (most nodes node old now : ℕ) : Type 0 where
  pub gathered : Is node
  pub some : 0 < node
  pub within : node ≤ nodes
  pub steps : now ≤ old + most * (nodes - node)

pub none-hung : {Is : ℕ → Type 0} (most nodes node old : ℕ) → node ≡ nodes → 0 < nodes → Is nodes → AreHungFrom Is most nodes node old old
none-hung {Is} most nodes node old same some is = record {
  gathered = subst Is (sym same) is;
  some = omega arith;
  within = omega arith;
  steps = omega arith;
}

pub next-unhung : {Is : ℕ → Type 0} {most nodes node old now : ℕ} → AreHungFrom Is most nodes node old now → 1 < node → Is (node - 1 + 1)
next-unhung {Is} {most} {nodes} {node} {old} {now} hung later =
    let same : node ≡ node - 1 + 1 = omega arith in
    subst Is same hung.gathered

one-in_steps : {Is : ℕ → Type 0} {most nodes node old before : ℕ} (now : ℕ) → AreHungFrom Is most nodes node old before → 1 < node → now ≤ before + most →
    now ≤ old + most * (nodes - (node - 1))
one-in_steps {Is} {most} {nodes} {node} {old} {before} now hung later one =
    let within = hung.within in
    let so_far = hung.steps in
    let d : ℕ = nodes - node in
    let more : nodes - (node - 1) ≡ d + 1 = omega arith in
    let out : most * (d + 1) ≡ most * d + most = omega arith in
    let whole : most * (nodes - (node - 1)) ≡ most * d + most = ap (λ (k : ℕ). most * k) more ∙ out in
    omega arith

pub one-hung : {Is : ℕ → Type 0} {most nodes node old before : ℕ} {Next : ℕ → Type 0} (now : ℕ) → AreHungFrom Is most nodes node old before → 1 < node →
    Next (node - 1) → now ≤ before + most → AreHungFrom Next most nodes (node - 1) old now
one-hung now hung later next one =
    let within = hung.within in
    record {
      gathered = next;
      some = omega arith;
      within = omega arith;
      steps = one-in_steps now hung later one;
    }

all-steps : (most nodes node old now : ℕ) → 0 < node → now ≤ old + most * (nodes - node) → now ≤ old + most * (nodes - 1)
all-steps most nodes node old now some so_far =
    let fewer : most * (nodes - node) ≤ most * (nodes - 1) = mul-le-mul (le_refl most) (omega arith) in
    omega arith

pub hung-in_steps : {Is : ℕ → Type 0} {most nodes node old now : ℕ} → AreHungFrom Is most nodes node old now → now ≤ old + most * (nodes - 1)
hung-in_steps {Is} {most} {nodes} {node} {old} {now} hung = all-steps most nodes node old now hung.some hung.steps

-- the steps where the last node wasn't hung whole
pub stopped-in_steps : {Is : ℕ → Type 0} {most nodes node old before : ℕ} (now : ℕ) → AreHungFrom Is most nodes node old before → 1 < node → now ≤ before + most →
    now ≤ old + most * (nodes - 1)
stopped-in_steps {Is} {most} {nodes} {node} {old} {before} now hung later one =
    all-steps most nodes (node - 1) old now (omega arith) (one-in_steps now hung later one)

pub all-hung : {Is : ℕ → Type 0} {most nodes node old now : ℕ} → AreHungFrom Is most nodes node old now → node ≤ 1 → Is 1
all-hung {Is} {most} {nodes} {node} {old} {now} hung first =
    let some = hung.some in
    let end : node ≡ 1 = omega arith in
    subst Is end hung.gathered
