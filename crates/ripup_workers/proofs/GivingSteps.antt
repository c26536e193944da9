-- The first worker's claims of given trees, one after another.
use Rattle.std.proofs.Common.{◌≡◌, ℕ, ◌+◌, ◌≤◌, Bool, true, false, ◌==◌, List, [], ◌∷◌, ◌++◌, length, All, Option, Some, None, slice_get, if◌then◌else◌, IsTrue, refl, sym, ap, subst, ◌∙◌, arith}
use Rattle.std.proofs.lemmas.List.{append-nil, length_push}
use Rattle.std.proofs.lemmas.List.Elements.{filter_passes}
use Rattle.std.proofs.lemmas.Option.{none-some}
use Rattle.gr_base.proofs.DesignLemmas.{routed-net}
use Rattle.gr_base.specs.Designs.{DesignView, is_routed}
use Rattle.gr_base.specs.Trees.{TreeView, tree_at}
use Rattle.grid_demand.specs.Tables.{CapacityView, capacity_of}
use Rattle.book_state.proofs.LegalHistories.{legal-nothing}
use Rattle.book_state.specs.Books.{reply_to_claim, IsLegal, IsRight}
use Rattle.book_state.specs.Entries.{calls_of}
use Rattle.book_state.specs.Views.{entry_of}
use Rattle.book_state.specs.declared.entry.Call.TheVariants.{Claim as Claims}
use Rattle.book_state.specs.declared.entry.Claim.{Claim}
use Rattle.book_state.specs.declared.entry.Entry.{Entry}
use Rattle.book_state.specs.declared.entry.PlanKind.TheVariants.{Pattern, Given}
use Rattle.book_state.specs.declared.entry.Reply.{Reply}
use Rattle.book_state.specs.declared.entry.Reply.TheVariants.{Claimed}
use Rattle.run_histories.specs.GivenRoutes.{given_to, with_given, given_among, IsGivenRoute}
use Rattle.run_histories.specs.RunHistories.{Setting, IsPlanned}
use Rattle.run_histories.proofs.CutSteps.{each-next}
use Rattle.run_histories.proofs.GivenLemmas.{given_claim, given_entry, among-none, among-more, among-later}
use Rattle.run_histories.proofs.PlanLemmas.{given-plan}
use Rattle.run_histories.proofs.TurnLemmas.{unbounded-claimed}
use Rattle.track_book.specs.Passes.{PassView, IsPass, IsNew, IsAnswered}
use Rattle.ripup_workers.specs.Giving.{HasGiven}
use Rattle.ripup_workers.proofs.JoiningLists.{filter-all, all-prefix, all-second}
use Rattle.ripup_workers.proofs.TurningPasses.{answered-others}
use Rattle.ripup_workers.proofs.TurningStages.{answered-longer, own-said, claim-planned}

-- at the begin nothing is claimed
pub given-first : (t : Setting) (p : PassView) → IsNew 1 p → HasGiven t 0 p
given-first t p new = record {
  number = new.number_is;
  pass = record {
    legal = subst (IsLegal (capacity_of t.design)) (sym new.seen) (legal-nothing (capacity_of t.design));
    calls = new.mine ∙ ap (λ (l : List Entry). calls_of p.number l) (sym new.seen);
  };
  count = (let none = ap length (among-none t.design t.given) in omega (arith, none));
  planned = λ at e there. absurd (none-some e (sym (ap (λ (l : List Entry). slice_get l at) new.seen) ∙ there));
  alone = λ is. new.seen ∙ sym (among-none t.design t.given);
}

-- a net to which no tree is given is passed over
pub given-passed : (t : Setting) (n : ℕ) (p : PassView) → given_to t.design t.given n ≡ None → HasGiven t n p → HasGiven t (n + 1) p
given-passed t n p none given =
    let same : given_among t.design t.given (n + 1) ≡ given_among t.design t.given n =
    among-more t.design t.given n ∙ ap (λ (o : Option TreeView). with_given (given_among t.design t.given n) n o) none in
    record {
      number = given.number;
      pass = given.pass;
      count = subst (λ (h : List Entry). length h ≤ length p.seen) (sym same) given.count;
      planned = given.planned;
      alone = λ is. given.alone is ∙ sym same;
    }

-- a given tree is claimed
pattern-given : Given ≡ Pattern → ⊥
pattern-given is = cc

module _ (t : Setting) (n : ℕ) (tree : TreeView) (reply : Reply) (p q : PassView) (given : HasGiven t n p) (two : IsPass (capacity_of t.design) q) (is : given_to t.design t.given n ≡ Some tree)
    (route : IsGivenRoute t.design n tree) (answered : IsAnswered (capacity_of t.design) p q (Claims (given_claim (length p.seen) n tree)) reply) where
  abbrev c_here : CapacityView
  c_here = capacity_of t.design

  abbrev claim : Claim
  claim = given_claim (length p.seen) n tree

  abbrev among : List Entry
  among = given_among t.design t.given n

  more-is : given_among t.design t.given (n + 1) ≡ among ++ given_entry among n tree ∷ []
  more-is = among-more t.design t.given n ∙ ap (λ (o : Option TreeView). with_given among n o) is

  -- where all entries are the worker's own, no other stands before this one
  module _ (own : calls_of 1 q.seen ≡ q.seen) where
    abbrev is_first : Entry → Bool
    is_first e = e.number == 1

    all-own : All (λ (e : Entry). IsTrue (is_first e)) q.seen
    all-own = subst (All (λ (e : Entry). IsTrue (is_first e))) own (filter_passes is_first q.seen)

    before-own : All (λ (e : Entry). IsTrue (is_first e)) answered.before
    before-own = all-prefix (λ (e : Entry). IsTrue (is_first e)) answered.before q.seen (entry_of p.number (Claims claim) reply ∷ [], sym answered.seen) all-own

    seen-own : calls_of 1 p.seen ≡ p.seen
    seen-own = filter-all is_first p.seen (all-prefix (λ (e : Entry). IsTrue (is_first e)) p.seen answered.before answered.begins before-own)

    none-between : answered.begins.0 ≡ []
    none-between =
        sym (filter-all is_first answered.begins.0
        (all-second (λ (e : Entry). IsTrue (is_first e)) p.seen answered.begins.0 (subst (All (λ (e : Entry). IsTrue (is_first e))) (sym answered.begins.1) before-own)))
        ∙ ap (λ (k : ℕ). calls_of k answered.begins.0) (sym given.number) ∙ answered-others c_here p q (Claims claim) reply answered given.pass two

    seen-is : p.seen ≡ among
    seen-is = given.alone seen-own

    before-is : answered.before ≡ among
    before-is = sym answered.begins.1 ∙ ap (λ (l : List Entry). p.seen ++ l) none-between ∙ append-nil p.seen ∙ seen-is

    reply-is : reply ≡ Claimed
    reply-is =
        let right = each-next (IsRight c_here) answered.before [] (entry_of p.number (Claims claim) reply) (subst (IsLegal c_here) answered.seen two.legal).right in
        right.reply ∙ ap (λ (h : List Entry). reply_to_claim c_here h claim) before-is
        ∙ unbounded-claimed c_here among claim (among-later t.design t.given n n (omega arith)) refl

    all-given : q.seen ≡ given_among t.design t.given (n + 1)
    all-given =
        answered.seen ∙ ap (λ (h : List Entry). h ++ entry_of p.number (Claims claim) reply ∷ []) before-is
        ∙ ap (λ (number : ℕ). among ++ entry_of number (Claims claim) reply ∷ []) given.number
        ∙ ap (λ (r : Reply). among ++ entry_of 1 (Claims claim) r ∷ []) reply-is
        ∙ ap (λ (h : List Entry). among ++ entry_of 1 (Claims (given_claim (length h) n tree)) Claimed ∷ []) seen-is
        ∙ sym more-is

  pub given-claimed : HasGiven t (n + 1) q
  given-claimed = record {
    number = answered.number ∙ given.number;
    pass = two;
    count =
        let long = ap length more-is in
        let one_more = length_push among (given_entry among n tree) in
        let count = given.count in
        let grown = answered-longer c_here p q (Claims claim) reply answered in
        omega (arith, long, one_more, count, grown);
    planned = own-said t p q (Claims claim) reply answered given.pass two
        (λ other same_call.
        let other_is : claim ≡ other = cc in
        subst (λ (k : Claim). IsPlanned t answered.before p.number k) other_is
        (claim-planned t p q claim reply answered given.pass two refl (λ pattern. absurd (pattern-given pattern))
        (given-plan t.design t.formula p.seen n tree route.routes))) given.planned;
    alone = all-given;
  }

-- the same over the capacity of the design
pub given-answered : (t : Setting) (c : CapacityView) (n : ℕ) (tree : TreeView) (reply : Reply) (p q : PassView) → c ≡ capacity_of t.design → HasGiven t n p → IsPass c q →
    given_to t.design t.given n ≡ Some tree → IsGivenRoute t.design n tree → IsAnswered c p q (Claims (given_claim (length p.seen) n tree)) reply → HasGiven t (n + 1) q
given-answered t c n tree reply p q same given two is route answered =
    given-claimed t n tree reply p q given (subst (λ (k : CapacityView). IsPass k q) same two) is route
    (subst (λ (k : CapacityView). IsAnswered k p q (Claims (given_claim (length p.seen) n tree)) reply) same answered)

-- a net to which a tree is given is routed
pub given-is : (t : Setting) (n : ℕ) (tree : TreeView) → tree_at t.given n ≡ Some tree → IsTrue (is_routed t.design n) → given_to t.design t.given n ≡ Some tree
given-is t n tree there routed = ap (λ (b : Bool). if b then tree_at t.given n else None) routed ∙ there

pub none-given : (t : Setting) (n : ℕ) → tree_at t.given n ≡ None → given_to t.design t.given n ≡ None
none-given t n none = by (is_routed t.design n)
  where
    by : (b : Bool) → (if b then tree_at t.given n else None) ≡ None
    by true = none
    by false = refl

-- and the tree lies in the design's grid
pub given-shape : (d : DesignView) (n : ℕ) (tree : TreeView) → IsGivenRoute d n tree → tree.shape ≡ d.frame.shape
given-shape d n tree route = let one = routed-net d n route.routed in (route.routes one.net one.there).shape
