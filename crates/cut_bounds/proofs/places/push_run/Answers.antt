use Rattle.std.proofs.Common.{◌≡◌, ℕ, ◌+◌, ◌*◌, ◌++◌, ◌∷◌, [], List, sym, ap, ◌∙◌, arith}
use Rattle.std.proofs.lemmas.List.{append_assoc}
use Rattle.std.proofs.lemmas.List.FromFn.{map-range_with_len_more}
use Rattle.cut_bounds.specs.Places.{run_of}
use Rattle.cut_bounds.proofs.places.push_run.Goals as goal

run-more : (old now new : List ℕ) (first step count place : ℕ) → place ≡ first + count * step → now ≡ old ++ run_of first step count → new ≡ now ++ place ∷ [] →
    new ≡ old ++ run_of first step (count + 1)
run-more old now new first step count place at was is =
    is ∙ ap (λ (xs : List ℕ). xs ++ place ∷ []) was ∙ append_assoc old (run_of first step count) (place ∷ [])
    ∙ ap (λ (n : ℕ). old ++ (run_of first step count ++ n ∷ [])) at
    ∙ ap (λ (xs : List ℕ). old ++ xs) (sym (map-range_with_len_more (λ k. first + k * step) 0 count count (omega arith)))

pub loop-preserved : goal.loop-preserved
loop-preserved c = record {
  place = let was = c.loop.invariant.place in let e : (c.loop.counter + 1) * c.args.step ≡ c.loop.counter * c.args.step + c.args.step = omega arith in omega (arith, was, e);
  places = run-more c.args.places.now.items c.loop.places.items c.push.new.self.items c.args.first c.args.step c.loop.counter c.loop.place
      c.loop.invariant.place c.loop.invariant.places c.in_ok-push.ensures.items;
}
