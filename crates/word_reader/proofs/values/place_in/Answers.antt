use Rattle.std.proofs.Common.{rules, tests, sym, ◌∙◌, List, ℕ}
use Rattle.std.proofs.lemmas.Iterator.{YieldsList-from_slice}
use Rattle.std.proofs.lemmas.Iterator.Search.{position_from_yields_List}
use Rattle.std.specs.Borrow.{Bor}
use Rattle.std.specs.Str.{bytes_eq}
use Rattle.word_reader.proofs.TableLemmas.{position-map}
use Rattle.word_reader.proofs.values.place_in.Goals as goal

pub returns : goal.returns
returns c =
    position_from_yields_List (λ (w : Bor (List ℕ)). bytes_eq c.args.word.now w.now) _ _ c.position.result c.position.ensures.ran
    (YieldsList-from_slice c.args.words.now cc) (λ x b q k. search (rules, tests)) ∙
    sym (position-map (λ (w : Bor (List ℕ)). w.now) (bytes_eq c.args.word.now) c.args.words.now)
