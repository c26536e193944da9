-- Paths along the edges of a set.
use Rattle.std.proofs.Common.{◌≡◌, ℕ, ◌<◌, ◌⊎◌, inl, inr, true, false, ◌==◌, List, [], ◌∷◌, ◌++◌, refl, sym, ap, subst, ◌∙◌, arith}
use Rattle.std.proofs.lemmas.Bool.{cases_Bool, cases_eq, or_cases, or_left, or_right, eqb-true, eq-eqb, false≢true, false_from_ne_true}
use Rattle.std.proofs.lemmas.List.Folds.{list_any-append}
use Rattle.gr_base.specs.declared.grid.Edge.{Edge}
use Rattle.gr_base.specs.declared.grid.Shape.{Shape}
use Rattle.gr_base.specs.Grid.{high_of, Joins}
use Rattle.gr_base.specs.EdgeSets.{Edges}
use Rattle.gr_base.specs.Trees.{is_among}
use Rattle.gr_base.proofs.GridLemmas.{joins-swap}
use Rattle.solution_text.proofs.RunLemmas.{stride-positive}
use Rattle.route_evaluator.specs.NetTrees.{StepsTo, IsPath}

-- ---- steps

pub step-back : (g : Shape) (set : Edges) (a b : ℕ) → StepsTo g set a b → StepsTo g set b a
step-back g set a b step = record { edge = step.edge; among = step.among; joins = joins-swap g step.edge a b step.joins }

pub step-more : (g : Shape) (set more : Edges) → ((e : Edge) → set e ≡ true → more e ≡ true) → (a b : ℕ) → StepsTo g set a b → StepsTo g more a b
step-more g set more within a b step = record { edge = step.edge; among = within step.edge step.among; joins = step.joins }

pub high-above : (g : Shape) (e : Edge) → e.low < high_of g e
high-above g e = let p = stride-positive g e.way in omega arith

-- an edge's ends differ
pub joins-apart : (g : Shape) (e : Edge) (a b : ℕ) → Joins g e a b → a ≡ b → ⊥
joins-apart g e a b joins same =
    let h = high-above g e in
    elim joins.ends [ inl ends ↦ (let l = ends.0 in let r = ends.1 in omega arith) | inr ends ↦ (let l = ends.0 in let r = ends.1 in omega arith) ]

-- an edge has one other end
pub joins-other : (g : Shape) (e : Edge) (a b x : ℕ) → Joins g e a x → Joins g e b x → a ≡ b
joins-other g e a b x first second =
    let h = high-above g e in
    elim first.ends [
      | inl f ↦ elim second.ends [ inl s ↦ sym f.0 ∙ s.0 | inr s ↦ (let l = f.1 in let r = s.0 in absurd (omega arith)) ]
      | inr f ↦ elim second.ends [ inl s ↦ (let l = f.0 in let r = s.1 in absurd (omega arith)) | inr s ↦ sym f.1 ∙ s.1 ]
    ]

-- an edge that joins two cells joins no two others
pub joins-same : (g : Shape) (e : Edge) (a b x y : ℕ) → Joins g e a b → Joins g e x y → (a ≡ x → ⊥) → (b ≡ x → ⊥) → ⊥
joins-same g e a b x y first second not_a not_b =
    elim first.ends [
      | inl f ↦ elim second.ends [ inl s ↦ not_a (sym f.0 ∙ s.0) | inr s ↦ not_b (sym f.1 ∙ s.1) ]
      | inr f ↦ elim second.ends [ inl s ↦ not_b (sym f.0 ∙ s.0) | inr s ↦ not_a (sym f.1 ∙ s.1) ]
    ]

-- ---- cells of a list

pub among-first : (x : ℕ) (xs : List ℕ) → is_among (x ∷ xs) x ≡ true
among-first x xs = or_left (x == x) (is_among xs x) (eq-eqb x x refl)

pub among-front : (xs ys : List ℕ) (x : ℕ) → is_among (xs ++ ys) x ≡ false → is_among xs x ≡ false
among-front xs ys x none =
    false_from_ne_true (is_among xs x) (λ some. false≢true (sym none ∙ list_any-append (λ other. other == x) xs ys ∙ or_left (is_among xs x) (is_among ys x) some))

-- ---- paths

pub path-more : (g : Shape) (set more : Edges) → ((a b : ℕ) → StepsTo g set a b → StepsTo g more a b) → (a b : ℕ) (path : List ℕ) →
    IsPath g set a b path → IsPath g more a b path
path-more g set more within a b [] leads = leads
path-more g set more within a b (next ∷ after) leads =
    (within a next leads.0, leads.1, path-more g set more within next b after leads.2)

abbrev pub SomePath : Shape → Edges → ℕ → ℕ → Type 0
SomePath g set a b = (path : List ℕ) × IsPath g set a b path

-- the rest of a path from one of its cells
cut : (g : Shape) (set : Edges) (x a b : ℕ) (path : List ℕ) → IsPath g set a b path → is_among (a ∷ path) x ≡ true → SomePath g set x b
cut g set x a b [] leads is =
    elim (or_cases (a == x) false is) [
      | inl here ↦ ([], sym (eqb-true a x here) ∙ leads)
      | inr none ↦ absurd (false≢true none)
    ]
cut g set x a b (next ∷ after) leads is =
    elim (or_cases (a == x) (is_among (next ∷ after) x) is) [
      | inl here ↦
          let P : ℕ → Type 0 = λ c. IsPath g set c b (next ∷ after) in
          (next ∷ after, subst P (eqb-true a x here) leads)
      | inr later ↦ cut g set x next b after leads.2 later
    ]

-- a step before a path
pub path-before : (g : Shape) (set : Edges) (x a b : ℕ) → StepsTo g set x a → SomePath g set a b → SomePath g set x b
path-before g set x a b step some =
    elim (cases_Bool (is_among (a ∷ some.0) x)) [
      | inl passes ↦ cut g set x a b some.0 some.1 passes
      | inr fresh ↦ (a ∷ some.0, (step, fresh, some.1))
    ]

-- a path behind a path
pub path-join : (g : Shape) (set : Edges) (a b c : ℕ) (path : List ℕ) → IsPath g set a b path → SomePath g set b c → SomePath g set a c
path-join g set a b c [] leads some = let P : ℕ → Type 0 = λ x. SomePath g set x c in subst P (sym leads) some
path-join g set a b c (next ∷ after) leads some = path-before g set a next c leads.0 (path-join g set next b c after leads.2 some)

pub path-back : (g : Shape) (set : Edges) (a b : ℕ) (path : List ℕ) → IsPath g set a b path → SomePath g set b a
path-back g set a b [] leads = ([], sym leads)
path-back g set a b (next ∷ after) leads =
    let rest = path-back g set next b after leads.2 in
    path-join g set b next a rest.0 rest.1 (path-before g set next a a (step-back g set a next leads.0) ([], refl))

-- a path's last cell is one of its cells
last-among : (g : Shape) (set : Edges) (a b next : ℕ) (after : List ℕ) → IsPath g set a b (next ∷ after) → is_among (next ∷ after) b ≡ true
last-among g set a b next [] leads =
    let P : ℕ → Type 0 = λ c. is_among (next ∷ []) c ≡ true in subst P leads.2 (among-first next [])
last-among g set a b next (more ∷ after) leads = or_right (next == b) (is_among (more ∷ after) b) (last-among g set next b more after leads.2)

-- a path along a set without edges goes nowhere
pub path-none : (g : Shape) (set : Edges) → ((e : Edge) → set e ≡ false) → (a b : ℕ) (path : List ℕ) → IsPath g set a b path → path ≡ []
path-none g set none a b [] leads = refl
path-none g set none a b (next ∷ after) leads = absurd (false≢true (sym (none leads.0.edge) ∙ leads.0.among))

-- ---- a set with one more edge, to a cell that no other edge meets

pub record Sprouts (g : Shape) (set more : Edges) (leaf stem : ℕ) : Type 0 where
  pub apart : stem ≡ leaf → ⊥
  pub kept : (a b : ℕ) → (a ≡ leaf → ⊥) → (b ≡ leaf → ⊥) → StepsTo g more a b → StepsTo g set a b
  pub into : (a : ℕ) → StepsTo g more a leaf → a ≡ stem
  pub out : (b : ℕ) → StepsTo g more leaf b → b ≡ stem

-- no two paths lead from one cell to another
abbrev pub NoTwo : Shape → Edges → Type 0
NoTwo g set = (a b : ℕ) (path other : List ℕ) → IsPath g set a b path → IsPath g set a b other → path ≡ other

module _ (g : Shape) (set more : Edges) (leaf stem : ℕ) (s : Sprouts g set more leaf stem) where
  -- a path that doesn't meet the leaf
  record Old (a b : ℕ) (path : List ℕ) : Type 0 where
    apart : b ≡ leaf → ⊥
    leads : IsPath g set a b path

  -- a path to the leaf
  record New (a b : ℕ) (path : List ℕ) : Type 0 where
    end : b ≡ leaf
    front : List ℕ
    is : path ≡ front ++ leaf ∷ []
    leads : IsPath g set a stem front

  ends : (a b : ℕ) (after : List ℕ) → IsPath g more leaf b after → is_among after a ≡ false → a ≡ stem → (after ≡ []) × (leaf ≡ b)
  ends a b [] leads fresh at = (refl, leads)
  ends a b (next ∷ after) leads fresh at =
      let P : ℕ → Type 0 = λ c. is_among (next ∷ after) c ≡ true in
      absurd (false≢true (sym fresh ∙ subst P (s.out next leads.0 ∙ sym at) (among-first next after)))

  split : (a b : ℕ) (path : List ℕ) → (a ≡ leaf → ⊥) → IsPath g more a b path → Old a b path ⊎ New a b path
  split a b [] apart leads = inl (record { apart = λ e. apart (leads ∙ e); leads = leads })
  split a b (next ∷ after) apart leads =
      elim (cases_eq next leaf) [
        | inl here ↦
            let P : ℕ → Type 0 = λ c. StepsTo g more a c in
            let Q : ℕ → Type 0 = λ c. IsPath g more c b after in
            let at : a ≡ stem = s.into a (subst P here leads.0) in
            let fresh : is_among after a ≡ false = false_from_ne_true (is_among after a) (λ some. false≢true (sym leads.1 ∙ or_right (next == a) (is_among after a) some)) in
            let e = ends a b after (subst Q here leads.2) fresh at in
            inr (record {
              end = sym e.1;
              front = [];
              is = ap (λ (cells : List ℕ). next ∷ cells) e.0 ∙ ap (λ (c : ℕ). c ∷ []) here;
              leads = at;
            })
        | inr other ↦ elim (split next b after other leads.2) [
          | inl old ↦ inl (record { apart = old.apart; leads = (s.kept a next apart other leads.0, leads.1, old.leads) })
          | inr new ↦
              let P : List ℕ → Type 0 = λ cells. is_among (next ∷ cells) a ≡ false in
              inr (record {
                end = new.end;
                front = next ∷ new.front;
                is = ap (λ (cells : List ℕ). next ∷ cells) new.is;
                leads = (s.kept a next apart other leads.0, among-front (next ∷ new.front) (leaf ∷ []) a (subst P new.is leads.1), new.leads);
              })
        ]
      ]

  only-from : NoTwo g set → (a b : ℕ) (path other : List ℕ) → (a ≡ leaf → ⊥) → IsPath g more a b path → IsPath g more a b other → path ≡ other
  only-from only a b path other apart first second =
      elim (split a b path apart first) [
        | inl old ↦ elim (split a b other apart second) [
          | inl old' ↦ only a b path other old.leads old'.leads
          | inr new' ↦ absurd (old.apart new'.end)
        ]
        | inr new ↦ elim (split a b other apart second) [
          | inl old' ↦ absurd (old'.apart new.end)
          | inr new' ↦
              new.is ∙ ap (λ (cells : List ℕ). cells ++ leaf ∷ []) (only a stem new.front new'.front new.leads new'.leads) ∙ sym new'.is
        ]
      ]

  only-at : NoTwo g set → (b : ℕ) (path other : List ℕ) → IsPath g more leaf b path → IsPath g more leaf b other → path ≡ other
  only-at only b [] [] first second = refl
  only-at only b [] (next ∷ after) first second =
      let P : ℕ → Type 0 = λ c. is_among (next ∷ after) c ≡ true in
      absurd (false≢true (sym second.1 ∙ subst P (sym first) (last-among g more leaf b next after second)))
  only-at only b (next ∷ after) [] first second =
      let P : ℕ → Type 0 = λ c. is_among (next ∷ after) c ≡ true in
      absurd (false≢true (sym first.1 ∙ subst P (sym second) (last-among g more leaf b next after first)))
  only-at only b (next ∷ after) (next' ∷ after') first second =
      let P : List ℕ → ℕ → Type 0 = λ cells c. IsPath g more c b cells in
      let e = s.out next first.0 in
      let e' = s.out next' second.0 in
      ap (λ (c : ℕ). c ∷ after) (e ∙ sym e')
      ∙ ap (λ (cells : List ℕ). next' ∷ cells) (only-from only stem b after after' s.apart (subst (P after) e first.2) (subst (P after') e' second.2))

  pub no-two-more : NoTwo g set → NoTwo g more
  no-two-more only a b path other first second =
      elim (cases_eq a leaf) [
        | inl at ↦
            let P : List ℕ → ℕ → Type 0 = λ cells c. IsPath g more c b cells in
            only-at only b path other (subst (P path) at first) (subst (P other) at second)
        | inr apart ↦ only-from only a b path other apart first second
      ]
