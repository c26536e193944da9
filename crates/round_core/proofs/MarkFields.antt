-- What a mark does to the fields of the machine.
use Rattle.std.proofs.Common.{◌≡◌, ℕ, ◌+◌, ◌≤◌, Bool, true, false, ◌&&◌, nat_lt, List, [], ◌∷◌, ◌++◌, filter, length, Option, Some, refl, sym, ap, subst, ◌∙◌, arith}
use Rattle.std.specs.Global.{Global}
use Rattle.std.specs.declared.vec.Vec.{Vec}
use Rattle.std.proofs.lemmas.Bool.{and_parts}
use Rattle.std.proofs.lemmas.Bool.Decides.{nat_tests}
use Rattle.std.proofs.lemmas.List.{length-map}
use Rattle.std.proofs.lemmas.List.Sums.{length-filter, count_by-le-length}
use Rattle.std.proofs.lemmas.List.FromFn.{length-range_with_len}
use Rattle.std.specs.List.{range_with_len}
use Rattle.std.proofs.Math.Path.{fun_ext}
use Rattle.cost_rules.specs.Watching.{watch_says}
use Rattle.cost_rules.specs.declared.sight.Going.{Going}
use Rattle.gr_base.specs.Trees.{TreeView}
use Rattle.gr_base.specs.declared.grid.Edge.{Edge}
use Rattle.gr_base.specs.Limits.{most_nets}
use Rattle.gr_base.specs.declared.frame.Net.{Net}
use Rattle.grid_demand.specs.Tables.{CapacityView, capacity_of}
use Rattle.book_state.proofs.BookingLaws.{mark-demand}
use Rattle.book_state.proofs.ReplicaSteps.{booked-mark}
use Rattle.book_state.specs.Books.{nets_of, booked, demand, reply_to_mark, victims, is_victim, is_crowded}
use Rattle.book_state.specs.Marks.{overflow_in}
use Rattle.book_state.specs.Views.{BookView, entry_of, with_call}
use Rattle.book_state.specs.declared.entry.Call.TheVariants.{Mark as Marks}
use Rattle.book_state.specs.declared.entry.Entry.{Entry}
use Rattle.book_state.specs.declared.entry.Reply.{Reply}
use Rattle.run_histories.specs.RunHistories.{Overflows, overflows_after, overflows_of, says_at, says}
use Rattle.round_core.specs.WorldRules.{IsWorld}
use Rattle.round_core.specs.Worlds.{WorldView, marked, is_on, goes_on_by, goes_on, with_mark, entry_by, is_allowed, happens}
use Rattle.round_core.specs.WorldStore.{setting_of, seen, Keeps}
use Rattle.round_core.specs.declared.steps.Step.TheVariants.{Mark}
use Rattle.round_core.specs.declared.world.World.TheInside.{Inside}
use Rattle.round_core.proofs.WorldMarks.{mark-allowed, marked-world}
use Rattle.run_histories.proofs.KeptRules.{overflows-push}

-- there are no more victims than nets
few-victims : (w : Inside) → Keeps w → length (victims w.book.capacity w.book.history) ≤ most_nets
few-victims w keeps =
    let c : CapacityView = w.book.capacity in
    let kept = length-filter (is_victim c w.book.history) (range_with_len 0 (nets_of c)) in
    let fewer = count_by-le-length (is_victim c w.book.history) (range_with_len 0 (nets_of c)) in
    let range = length-range_with_len 0 (nets_of c) in
    let nets : nets_of c ≡ length w.design.now.nets = ap nets_of keeps.capacity ∙ length-map w.design.now.nets (λ (net : Net). net.width) in
    let most = keeps.nets in
    omega (arith, kept, fewer, range, nets, most)

-- a mark changes no booking and no demand, and so no victims
abbrev victims_by : CapacityView → (Edge → ℕ) → (ℕ → Option TreeView) → List ℕ
victims_by c demands held = filter (λ (net : ℕ). is_crowded c demands (held net)) (range_with_len 0 (nets_of c))

same-victims : (c : CapacityView) (h : List Entry) (e : Entry) → e.call ≡ Marks → victims c h ≡ victims c (h ++ e ∷ [])
same-victims c h e call =
    let held : booked (h ++ e ∷ []) ≡ booked h = fun_ext (λ net. booked-mark h e net call) in
    let demands : demand c (h ++ e ∷ []) ≡ demand c h = fun_ext (λ edge. mark-demand c h e edge (λ net. booked-mark h e net call)) in
    sym (ap (λ (d : Edge → ℕ). victims_by c d (booked (h ++ e ∷ []))) demands ∙ ap (λ (b : ℕ → Option TreeView). victims_by c (demand c h) b) held)

-- after a mark
abbrev pub marked_fields : Inside → BookView → ℕ → ℕ → Bool → Vec ℕ Global → Inside
marked_fields w book overflow round over left = record {
  alloc = w.alloc;
  design = w.design;
  formula = w.formula;
  rounds = w.rounds;
  watch = w.watch;
  goal = w.goal;
  book = book;
  overflow = Some overflow;
  round = round;
  over = over;
  left = left;
  phases = w.phases;
  since = w.since;
}

-- what a mark adds to the book, what was found before it, and what the watch says
pub record IsMarked (w : Inside) (book : BookView) (reply : Reply) (overflow : ℕ) (found : List ℕ) (going : Going) : Type 0 where
  pub book_is : book ≡ with_call w.book 0 Marks reply
  pub reply_is : reply ≡ reply_to_mark w.book.capacity w.book.history
  pub overflow_is : overflow_in reply ≡ Some overflow
  pub found_is : found ≡ victims w.book.capacity w.book.history
  pub going_is : going ≡ watch_says w.watch (record { overflow = overflow; before = w.overflow; goal = w.goal })

abbrev marked_view : Inside → Bool → ℕ → List ℕ → List Entry → WorldView
marked_view w over round left history = record {
  setting = setting_of w;
  history = history;
  round = round;
  over = over;
  left = left;
  phases = w.phases.items;
  since = w.since.items;
}

module _ (w : Inside) (book : BookView) (reply : Reply) (overflow : ℕ) (found : List ℕ) (going : Going) (keeps : Keeps w) (is : IsMarked w book reply overflow found going) where
  marked-history : book.history ≡ marked (seen w)
  marked-history =
      ap (λ (b : BookView). b.history) is.book_is
      ∙ ap (λ (r : Reply). w.book.history ++ entry_of 0 Marks r ∷ []) is.reply_is
      ∙ ap (λ (c : CapacityView). w.book.history ++ entry_of 0 Marks (reply_to_mark c w.book.history) ∷ []) keeps.capacity

  found-victims : found ≡ victims (capacity_of w.design.now) (marked (seen w))
  found-victims =
      is.found_is ∙ ap (λ (c : CapacityView). victims c w.book.history) keeps.capacity
      ∙ same-victims (capacity_of w.design.now) w.book.history (entry_by (seen w) 0 Marks) refl

  marked-overflows : overflows_of (marked (seen w)) ≡ overflows_after (overflows_of w.book.history) (Some overflow)
  marked-overflows =
      overflows-push w.book.history (entry_by (seen w) 0 Marks)
      ∙ ap (λ (o : Option ℕ). overflows_after (overflows_of w.book.history) o)
      (sym (ap (λ (r : Reply). overflow_in r) (is.reply_is ∙ ap (λ (c : CapacityView). reply_to_mark c w.book.history) keeps.capacity)) ∙ is.overflow_is)

  going-says : going ≡ says (setting_of w) (marked (seen w))
  going-says =
      is.going_is
      ∙ ap (λ (before : Option ℕ). says_at w.watch w.goal before (Some overflow)) keeps.overflow
      ∙ sym (ap (λ (o : Overflows). says_at w.watch w.goal o.before o.last) marked-overflows)

  marked-goes : goes_on_by w.round w.rounds found going ≡ goes_on (setting_of w) w.round (marked (seen w))
  marked-goes =
      ap (λ (nets : List ℕ). goes_on_by w.round w.rounds nets going) found-victims
      ∙ ap (λ (g : Going). goes_on_by w.round w.rounds (victims (capacity_of w.design.now) (marked (seen w))) g) going-says

  -- another round begins
  pub next-view : (left : Vec ℕ Global) → left.items ≡ found → is_allowed (seen w) Mark ≡ true → goes_on_by w.round w.rounds found going ≡ true →
      seen (marked_fields w book overflow (w.round + 1) w.over left) ≡ happens (seen w) Mark
  next-view left left_is allowed on =
      ap (λ (h : List Entry). marked_view w w.over (w.round + 1) left.items h) marked-history
      ∙ ap (λ (nets : List ℕ). marked_view w w.over (w.round + 1) nets (marked (seen w))) (left_is ∙ found-victims)
      ∙ ap (λ (over : Bool). marked_view w over (w.round + 1) (victims (capacity_of w.design.now) (marked (seen w))) (marked (seen w))) (mark-allowed (seen w) allowed).runs
      ∙ ap (λ (b : Bool). with_mark (seen w) b) (sym on ∙ marked-goes)

  -- or the rounds are over
  pub last-view : is_allowed (seen w) Mark ≡ true → goes_on_by w.round w.rounds found going ≡ false →
      seen (marked_fields w book overflow w.round true w.left) ≡ happens (seen w) Mark
  last-view allowed off =
      ap (λ (h : List Entry). marked_view w true w.round w.left.items h) marked-history
      ∙ ap (λ (b : Bool). with_mark (seen w) b) (sym off ∙ marked-goes)

  marked-capacity : book.capacity ≡ capacity_of w.design.now
  marked-capacity = ap (λ (b : BookView). b.capacity) is.book_is ∙ keeps.capacity

  marked-last : Some overflow ≡ (overflows_of book.history).last
  marked-last = sym (ap (λ (h : List Entry). (overflows_of h).last) marked-history ∙ ap (λ (o : Overflows). o.last) marked-overflows)

  pub next-keeps : (left : Vec ℕ Global) → left.items ≡ found → is_allowed (seen w) Mark ≡ true → goes_on_by w.round w.rounds found going ≡ true →
      Keeps (marked_fields w book overflow (w.round + 1) w.over left)
  next-keeps left left_is allowed on =
      let long : length left.items ≡ length (victims w.book.capacity w.book.history) = ap (λ (nets : List ℕ). length nets) (left_is ∙ is.found_is) in
      let few = few-victims w keeps in
      let below = (and_parts (nat_lt w.round w.rounds) (nat_lt 0 (length found) && is_on going) on).0 in
      record {
        world = subst IsWorld (sym (next-view left left_is allowed on)) (marked-world (seen w) keeps.world allowed);
        capacity = marked-capacity;
        overflow = marked-last;
        workers = keeps.workers;
        since = keeps.since;
        left = omega (arith, long, few);
        round = grind (arith, nat_tests);
        rounds = keeps.rounds;
        nets = keeps.nets;
      }

  pub last-keeps : is_allowed (seen w) Mark ≡ true → goes_on_by w.round w.rounds found going ≡ false → Keeps (marked_fields w book overflow w.round true w.left)
  last-keeps allowed off = record {
    world = subst IsWorld (sym (last-view allowed off)) (marked-world (seen w) keeps.world allowed);
    capacity = marked-capacity;
    overflow = marked-last;
    workers = keeps.workers;
    since = keeps.since;
    left = keeps.left;
    round = keeps.round;
    rounds = keeps.rounds;
    nets = keeps.nets;
  }
