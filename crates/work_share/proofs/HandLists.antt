-- The hands of a share, of which some have taken nets.
use Rattle.std.proofs.Common.{◌≡◌, ◌≢◌, ℕ, ◌<◌, List, length, length-set, set, get_or, Some, slice_get, sym, ap, subst, ◌∙◌, ⊎_elim, arith}
use Rattle.std.proofs.lemmas.Option.{slice_get_within, get_or_from_slice_get}
use Rattle.work_share.specs.Views.{ShareView, HandView, IsHandOf, AreNewHands, AreHandsOf}
use Rattle.work_share.proofs.Places.{get-read, get-set, get-there}

-- new hands are all hands of their share
pub new-are : (s : ShareView) (hands : List HandView) → AreNewHands s hands → AreHandsOf s hands
new-are s hands new =
    record { count = new.count; numbers = λ at h there. (new.each at h there).number_is; each = λ at h there. (new.each at h there).of }

-- the hand at a place
pub hand-of : (s : ShareView) (hands : List HandView) (at : ℕ) (h : HandView) → AreHandsOf s hands → at < length hands → h ≡ get_or hands at h → IsHandOf s h
hand-of s hands at h are less is = are.each at h (get-read hands at h less is)

-- one of them is replaced by one of the same number
pub set-are : (s : ShareView) (hands : List HandView) (at : ℕ) (old new : HandView) → AreHandsOf s hands → at < length hands → old ≡ get_or hands at old → new.number ≡ old.number → IsHandOf s new → AreHandsOf s (set hands at new)
set-are s hands at old new are less is number of =
    let there = get-read hands at old less is in
    record {
      count = length-set hands at new ∙ are.count;
      numbers = λ place h here.
          ⊎_elim
          (λ (this : (place ≡ at) × (new ≡ h)). sym (ap (λ (x : HandView). x.number) this.1) ∙ number ∙ are.numbers at old there ∙ sym this.0)
          (λ (other : (place ≢ at) × (slice_get hands place ≡ Some h)). are.numbers place h other.1)
          (get-set hands at place new h here);
      each = λ place h here.
          ⊎_elim
          (λ (this : (place ≡ at) × (new ≡ h)). subst (IsHandOf s) this.1 of)
          (λ (other : (place ≢ at) × (slice_get hands place ≡ Some h)). are.each place h other.1)
          (get-set hands at place new h here);
    }

-- each is replaced by one of the same number
pub all-are : (s : ShareView) (old new : List HandView) → AreHandsOf s old → length new ≡ length old → ((at : ℕ) (d : HandView) → at < length old → ((get_or new at d).number ≡ (get_or old at d).number) × IsHandOf s (get_or new at d)) → AreHandsOf s new
all-are s old new are count each =
    let step : (at : ℕ) (h : HandView) → slice_get new at ≡ Some h → (h.number ≡ at) × IsHandOf s h =
    (λ at h there.
    let within = slice_get_within new at h there in
    let was = get-there old at (omega (arith, within, count)) in
    let e = each at h (omega (arith, within, count)) in
    let h-is = get_or_from_slice_get new at h h there in
    let was-is = get_or_from_slice_get old at was.0 h was.1 in (
      sym (ap (λ (x : HandView). x.number) h-is) ∙ e.0 ∙ ap (λ (x : HandView). x.number) was-is ∙ are.numbers at was.0 was.1,
      subst (IsHandOf s) h-is e.1,
    )) in
    record { count = count ∙ are.count; numbers = λ at h there. (step at h there).0; each = λ at h there. (step at h there).1 }
