-- What is seen is gathered from the last node to the first.
use Rattle.std.proofs.Common.{◌≡◌, ℕ, suc, ◌+◌, ◌-◌, ◌^◌, ◌<◌, ◌≤◌, ℤ, inl, inr, List, length, get_or, map, None, slice_set, sym, ap, subst, ◌∙◌, arith}
use Rattle.std.proofs.lemmas.Bool.{cases_eq}
use Rattle.std.proofs.lemmas.List.{length-set, get_or-set_same, get_or-set_other}
use Rattle.std.proofs.lemmas.List.FromFn.{get_or-map-range_with_len, length-map-range_with_len}
use Rattle.std.specs.List.{range_with_len}
use Rattle.elmore_delay.specs.RcTrees.{RcTree, Buffers, IsRcTree, required_time}
use Rattle.elmore_delay.specs.FromLeaves.{sinks_seen, along, behind, joined, hanging, seen_of_last, seen_from, at_driver}
use Rattle.elmore_delay.specs.Ranges.{IsSmall, IsSeen}
use Rattle.elmore_delay.specs.declared.seen.Seen.{Seen}
use Rattle.elmore_delay.proofs.Loads.{seen-parent, seen-other}
use Rattle.elmore_delay.proofs.RangeLemmas.{seen-small, under, weaken}
use Rattle.elmore_delay.proofs.RequiredFromLeaves.{required-from_leaves}

-- below each node before a number stands what is seen there of the nodes from that number on
pub record AreSeen (t : RcTree) (b : Buffers) (from : ℕ) (seen : List Seen) : Type 0 where
  pub long : length seen ≡ t.nodes
  pub some : 0 < from
  pub within : from ≤ t.nodes
  pub each : (node : ℕ) (default : Seen) → node < from → get_or seen node default ≡ seen_from from t b node

pub seen-starts : (t : RcTree) (b : Buffers) (from : ℕ) (seen : List Seen) → IsRcTree t → from ≡ t.nodes → seen ≡ map (sinks_seen t) (range_with_len 0 t.nodes) →
    AreSeen t b from seen
seen-starts t b from seen tree all is =
    let rooted = tree.rooted in
    let none : t.nodes - from ≡ 0 = omega arith in
    record {
      long = ap length is ∙ length-map-range_with_len (sinks_seen t) 0 t.nodes;
      some = omega arith;
      within = omega arith;
      each = λ node default below. ap (λ (ss : List Seen). get_or ss node default) is
          ∙ get_or-map-range_with_len (sinks_seen t) 0 t.nodes node node default (omega arith) (omega arith)
          ∙ ap (λ (n : ℕ). seen_of_last n t b node) (sym none);
    }

-- the last node that isn't hung yet is hung on its parent
pub seen-more : (t : RcTree) (b : Buffers) (from node parent : ℕ) (seen : List Seen) (own upper old : Seen) → IsRcTree t → AreSeen t b from seen →
    0 < node → node + 1 ≡ from → t.parent node ≡ parent → own ≡ get_or seen node own → upper ≡ along (t.wire node) (behind (b node) own) →
    old ≡ get_or seen parent old → AreSeen t b node (slice_set seen parent (joined old upper))
seen-more t b from node parent seen own upper old tree are later next hangs own_is upper_is old_is =
    let within = are.within in
    let long = are.long in
    let earlier : t.parent node < node = tree.earlier node later (omega arith) in
    let n : ℕ = t.nodes - from in
    let at : node + suc n ≡ t.nodes = omega arith in
    let more : t.nodes - node ≡ suc n = omega arith in
    let below : own ≡ seen_of_last n t b node = own_is ∙ are.each node own (omega arith) in
    let before : old ≡ seen_of_last n t b parent = old_is ∙ are.each parent old (omega arith) in
    let up : upper ≡ hanging t b node (seen_of_last n t b node) = upper_is ∙ ap (hanging t b node) below in
    record {
      long = length-set seen parent (joined old upper) ∙ long;
      some = omega arith;
      within = omega arith;
      each = λ other default lt. elim (cases_eq other parent) [
        | inl same ↦
            ap (λ (u : ℕ). get_or (slice_set seen parent (joined old upper)) u default) same
            ∙ get_or-set_same seen parent (joined old upper) default (omega arith)
            ∙ ap (λ (s : Seen). joined s upper) before
            ∙ ap (λ (s : Seen). joined (seen_of_last n t b parent) s) up
            ∙ ap (λ (u : ℕ). joined (seen_of_last n t b u) (hanging t b node (seen_of_last n t b node))) (sym hangs)
            ∙ sym (seen-parent n node t b at)
            ∙ ap (λ (u : ℕ). seen_of_last (suc n) t b u) (hangs ∙ sym same)
            ∙ ap (λ (m : ℕ). seen_of_last m t b other) (sym more)
        | inr apart ↦
            get_or-set_other seen parent other (joined old upper) default apart
            ∙ are.each other default (omega arith)
            ∙ sym (seen-other n node other t b at (λ e. apart (e ∙ hangs)))
            ∙ ap (λ (m : ℕ). seen_of_last m t b other) (sym more)
      ];
    }

-- a load and a time that stand there are in range
pub seen-in_range : (t : RcTree) (b : Buffers) (from node : ℕ) (seen : List Seen) (s : Seen) → IsRcTree t → IsSmall t b → AreSeen t b from seen →
    node < from → s ≡ get_or seen node s → IsSeen (2 ^ 100) s
seen-in_range t b from node seen s tree small are below is =
    let within = are.within in
    let few = small.few_nodes in
    let n : ℕ = t.nodes - from in
    let here : s ≡ seen_of_last n t b node = is ∙ are.each node s below in
    let fits = seen-small n from node t b tree small (omega arith) below in
    let le : under n ≤ 2 ^ 100 = omega arith in
    subst (λ (x : Seen). IsSeen (2 ^ 100) x) (sym here)
    (record { load = fits.load; time = weaken (under n) (2 ^ 100) (seen_of_last n t b node).time le fits.time })

-- when all nodes are hung, the required time is there
pub seen-ends : (t : RcTree) (b : Buffers) (from driver : ℕ) (seen : List Seen) (s : Seen) (time : ℤ) → IsRcTree t → b 0 ≡ None → AreSeen t b from seen →
    from ≡ 1 → driver ≡ t.driver → s ≡ get_or seen 0 s → time ≡ at_driver driver s → time ≡ required_time t b
seen-ends t b from driver seen s time tree root are end driver_is s_is is =
    is ∙ ap (λ (r : ℕ). at_driver r s) driver_is
    ∙ ap (at_driver t.driver) (s_is ∙ are.each 0 s (omega arith) ∙ ap (λ (n : ℕ). seen_from n t b 0) end)
    ∙ sym (required-from_leaves t b tree root)
