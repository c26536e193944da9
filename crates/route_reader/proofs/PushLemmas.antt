-- One more run of the net whose record is in hand.
use Rattle.std.proofs.Common.{◌≡◌, ℕ, ◌+◌, ◌-◌, ◌<◌, ◌≤◌, inl, inr, true, false, ◌==◌, nat_eq, List, [], ◌∷◌, ◌++◌, length, take, drop, set, slice_index_or, All, Some, refl, sym, subst, ap, ◌∙◌, arith}
use Rattle.std.specs.List.{list_any}
use Rattle.std.proofs.lemmas.Bool.{cases_Bool, cases_eq, false≢true}
use Rattle.std.proofs.lemmas.Bool.Decides.{nat_tests}
use Rattle.std.proofs.lemmas.List.{length_push, length-set, length-drop, drop-append-le, take-append-le, take_all, get_or-set_same, get_or-set_other}
use Rattle.std.proofs.lemmas.List.Elements.{All-push}
use Rattle.gr_base.specs.Designs.{DesignView}
use Rattle.solution_text.specs.declared.run.Run.{Run}
use Rattle.solution_text.specs.Grammar.{Progress, Within}
use Rattle.route_reader.specs.declared.solution.Stretch.{Stretch}
use Rattle.route_reader.specs.declared.gathering.Position.TheVariants as at
use Rattle.route_reader.specs.declared.gathering.Gathering.{Gathering}
use Rattle.route_reader.specs.Solutions.{IsRun}
use Rattle.route_reader.specs.SolutionStore.{runs_between, IsStretch}
use Rattle.route_reader.specs.SolutionText.{runs_of_net}
use Rattle.route_reader.specs.Gathered.{mode_of, net_in, Flags, Stretches, Gathers}

-- the runs of a net, with one more behind them all
found-push : (found : List (ℕ × Run)) (net : ℕ) (run : Run) → runs_of_net (found ++ (net, run) ∷ []) net ≡ runs_of_net found net ++ run ∷ []
found-push [] net run = let same : nat_eq net net ≡ true = grind (arith, nat_tests) in rw same refl
found-push (f ∷ found) net run =
    elim (cases_Bool (f.0 == net)) [
      | inl here ↦ rw here (ap (λ (all : List Run). f.1 ∷ all) (found-push found net run))
      | inr away ↦ rw away (found-push found net run)
    ]

-- and those of another net are as before
pub found-other : (found : List (ℕ × Run)) (net other : ℕ) (run : Run) → (net ≡ other → ⊥) → runs_of_net (found ++ (net, run) ∷ []) other ≡ runs_of_net found other
found-other [] net other run not = let differ : nat_eq net other ≡ false = grind (arith, nat_tests) in rw differ refl
found-other (f ∷ found) net other run not =
    elim (cases_Bool (f.0 == other)) [
      | inl here ↦ rw here (ap (λ (all : List Run). f.1 ∷ all) (found-other found net other run not))
      | inr away ↦ rw away (found-other found net other run not)
    ]

-- a stretch that ends at the last run takes in one more
between-more : (runs : List Run) (run : Run) (stretch : Stretch) → stretch.start ≤ stretch.end → stretch.end ≡ length runs →
    runs_between (runs ++ run ∷ []) (record { start = stretch.start; end = length runs + 1 }) ≡ runs_between runs stretch ++ run ∷ []
between-more runs run stretch ordered last =
    let left = length-drop stretch.start runs in
    let rest : List Run = drop stretch.start runs in
    let long : length (rest ++ run ∷ []) ≡ length rest + 1 = length_push rest run in
    ap (take (length runs + 1 - stretch.start)) (drop-append-le stretch.start runs (run ∷ []) (omega arith))
    ∙ take_all (length runs + 1 - stretch.start) (rest ++ run ∷ []) (omega arith)
    ∙ ap (λ (all : List Run). all ++ run ∷ []) (sym (take_all (stretch.end - stretch.start) rest (omega arith)))

-- another stretch gives what it gave
between-same : (runs : List Run) (run : Run) (stretch : Stretch) → IsStretch (length runs) stretch → runs_between (runs ++ run ∷ []) stretch ≡ runs_between runs stretch
between-same runs run stretch inside =
    let left = length-drop stretch.start runs in
    let ordered = inside.ordered in
    let last = inside.inside in
    ap (take (stretch.end - stretch.start)) (drop-append-le stretch.start runs (run ∷ []) (omega arith))
    ∙ take-append-le (stretch.end - stretch.start) (drop stretch.start runs) (run ∷ []) (omega arith)

module _ (nets net : ℕ) (found : List (ℕ × Run)) (runs : List Run) (stretches : List Stretch) (old : Stretch) (run : Run)
    (count : length stretches ≡ nets) (below : net < nets) (is : old ≡ slice_index_or stretches net old) (last : old.end ≡ length runs) where
  abbrev more : Stretch
  more = record { start = old.start; end = length runs + 1 }

  stretches-push : All (IsStretch (length runs)) stretches → Stretches nets found runs stretches →
      Stretches nets (found ++ (net, run) ∷ []) (runs ++ run ∷ []) (set stretches net more)
  stretches-push inside reads other s within =
      elim (cases_eq net other) [
        | inl same ↦
            let P : ℕ → Type 0 = λ n. runs_between (runs ++ run ∷ []) (slice_index_or (set stretches net more) n s) ≡ runs_of_net (found ++ (net, run) ∷ []) n in
            let ordered = (subst (IsStretch (length runs)) (sym is) (inside net old (omega arith))).ordered in
            subst P same
            (ap (runs_between (runs ++ run ∷ [])) (get_or-set_same stretches net more s (omega arith))
            ∙ between-more runs run old ordered last
            ∙ ap (λ (all : List Run). all ++ run ∷ []) (ap (runs_between runs) is ∙ reads net old below)
            ∙ sym (found-push found net run))
        | inr differ ↦
            ap (runs_between (runs ++ run ∷ [])) (get_or-set_other stretches net other more s (λ e. differ (sym e)))
            ∙ between-same runs run (slice_index_or stretches other s) (inside other s (omega arith))
            ∙ reads other s within
            ∙ sym (found-other found net other run differ)
      ]

  inside-push : All (IsStretch (length runs)) stretches → All (IsStretch (length (runs ++ run ∷ []))) (set stretches net more)
  inside-push inside other s within =
      let one : length (runs ++ run ∷ []) ≡ length runs + 1 = length_push runs run in
      let old_count : length (set stretches net more) ≡ length stretches = length-set stretches net more in
      elim (cases_eq net other) [
        | inl same ↦
            let ordered = (subst (IsStretch (length runs)) (sym is) (inside net old (omega arith))).ordered in
            let here : slice_index_or (set stretches net more) other s ≡ more =
            subst (λ (n : ℕ). slice_index_or (set stretches net more) n s ≡ more) same (get_or-set_same stretches net more s (omega arith)) in
            subst (IsStretch (length (runs ++ run ∷ []))) (sym here) (record { ordered = omega arith; inside = omega arith })
        | inr differ ↦
            let was = inside other s (omega arith) in
            let ordered = was.ordered in
            let end = was.inside in
            subst (IsStretch (length (runs ++ run ∷ []))) (sym (get_or-set_other stretches net other more s (λ e. differ (sym e)))) (record { ordered = omega arith; inside = omega arith })
      ]

-- the net in hand has a record, so nets without one have no run still
fresh-push : (met : List ℕ) (found : List (ℕ × Run)) (net other : ℕ) (run : Run) →
    list_any (λ m. m == net) met ≡ true → ((n : ℕ) → list_any (λ m. m == n) met ≡ false → runs_of_net found n ≡ []) →
    list_any (λ m. m == other) met ≡ false → runs_of_net (found ++ (net, run) ∷ []) other ≡ []
fresh-push met found net other run has fresh unmet =
    elim (cases_eq net other) [
      | inl same ↦
          let P : ℕ → Type 0 = λ n. list_any (λ m. m == n) met ≡ true in
          absurd (false≢true (sym unmet ∙ subst P same has))
      | inr differ ↦ found-other found net other run differ ∙ fresh other unmet
    ]

-- one more run was gathered
pub gathers-push : (d : DesignView) (s : Progress) (g new : Gathering) (net : ℕ) (run : Run) (old : Stretch) (end : ℕ) → Gathers d s g →
    net_in s.mode ≡ Some net → IsRun d.frame.shape run → old ≡ slice_index_or g.stretches.items net old → end ≡ length g.runs.items + 1 →
    new.position ≡ at.Within net → new.met.items ≡ g.met.items → new.stretches.items ≡ set g.stretches.items net (record { start = old.start; end = end }) →
    new.runs.items ≡ g.runs.items ++ run ∷ [] →
    Gathers d (record { mode = Within net; met = s.met; found = s.found ++ (net, run) ∷ [] }) new
gathers-push d s g new net run old end gathers mode good is end_is position_is met_is stretches_are runs_are =
    let nets : ℕ = length d.nets in
    let runs : List Run = g.runs.items in
    let stretches : List Stretch = g.stretches.items in
    let below : net < nets = rw (sym gathers.mode, mode) at gathers.fits.net in
    let open_end : (stretch : Stretch) → (slice_index_or stretches net stretch).end ≡ length runs = rw mode at gathers.open_end in
    let has : list_any (λ other. other == net) s.met ≡ true = rw mode at gathers.current in
    let last : old.end ≡ length runs = ap (λ (stretch : Stretch). stretch.end) is ∙ open_end old in
    let set_is : new.stretches.items ≡ set stretches net (more nets net s.found runs stretches old run gathers.fits.stretches below is last) =
    stretches_are ∙ ap (λ (n : ℕ). set stretches net (record { start = old.start; end = n })) end_is in
    record {
      fits = record {
        met = ap length met_is ∙ gathers.fits.met;
        stretches = ap length stretches_are ∙ length-set stretches net (record { start = old.start; end = end }) ∙ gathers.fits.stretches;
        inside = rw (runs_are, set_is) (inside-push nets net s.found runs stretches old run gathers.fits.stretches below is last gathers.fits.inside);
        runs = subst (All (IsRun d.frame.shape)) (sym runs_are) (All-push (IsRun d.frame.shape) runs run gathers.fits.runs good);
        net = rw position_is below;
      };
      mode = ap (mode_of new.name.items) (sym position_is);
      met = subst (Flags nets s.met) (sym met_is) gathers.met;
      stretches = rw (runs_are, set_is) (stretches-push nets net s.found runs stretches old run gathers.fits.stretches below is last gathers.fits.inside gathers.stretches);
      fresh = λ other unmet. fresh-push s.met s.found net other run has gathers.fresh unmet;
      current = has;
      open_end = λ stretch.
          rw (runs_are, set_is) (ap (λ (x : Stretch). x.end) (get_or-set_same stretches net _ stretch (let count = gathers.fits.stretches in omega arith)) ∙ sym (length_push runs run));
    }
