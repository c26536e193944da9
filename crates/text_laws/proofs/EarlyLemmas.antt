-- Readers whose faults depend on the tokens up to the fault alone.
use Rattle.std.proofs.Common.{◌≡◌, ℕ, zero, suc, ◌+◌, ◌-◌, ◌≤◌, Bool, true, false, List, [], ◌∷◌, ◌++◌, take, Option, Some, None, is_none, Ok, Err, refl, sym, ap, subst, ◌∙◌, arith, ℤ}
use Rattle.gr_text.specs.declared.source.Ends.{Ends}
use Rattle.gr_text.specs.Tokens.{Place, Ending, AtEnd, PastLimit}
use Rattle.gr_text.specs.Reading.{Read, Reader, and_then, ◌>>=◌, pure, check, given, next_of, token, next_or_end, token_or_end, word, number, natural, several, end}

-- two places with the same tokens up to one number
pub record Agree (n : ℕ) (p q : Place) : Type 0 where
  pub number : p.number ≡ q.number
  pub rest : take (n - p.number) p.rest ≡ take (n - p.number) q.rest
  pub ending : p.ending ≡ q.ending

-- a fault comes at a token that is read here or later, and depends on the tokens up to it
pub record IsEarly {F A : Type 0} (reader : Reader F A) : Type 0 where
  pub late : (n : ℕ) (p : Place) (f : F) → reader p ≡ Err (f, n) → p.number ≤ n
  pub early : (n : ℕ) (p q : Place) (f : F) → Agree n p q → reader p ≡ Err (f, n) → reader q ≡ Err (f, n)

-- a value depends on the tokens that are read for it
pub record IsCausal {F A : Type 0} (reader : Reader F A) : Type 0 where
  pub faults : IsEarly reader
  pub on : (p after : Place) (a : A) → reader p ≡ Ok (a, after) → p.number ≤ after.number
  pub goes : (n : ℕ) (p q after : Place) (a : A) → Agree n p q → reader p ≡ Ok (a, after) → after.number ≤ n →
      (there : Place) × (reader q ≡ Ok (a, there)) × Agree n after there

-- a reader that has no fault
pub record IsSure {F A : Type 0} (reader : Reader F A) : Type 0 where
  pub sure : (p : Place) (e : F × ℕ) → reader p ≡ Err e → ⊥

err-same : {F A : Type 0} (e g : F × ℕ) → ◌≡◌ {A = Read F A} (Err e) (Err g) → e ≡ g
err-same e g is = cc

pub ok-same : {F A : Type 0} (x y : A × Place) → ◌≡◌ {A = Read F A} (Ok x) (Ok y) → x ≡ y
ok-same x y is = cc

err-number : {F A : Type 0} (f g : F) (m n : ℕ) → ◌≡◌ {A = Read F A} (Err (f, m)) (Err (g, n)) → m ≡ n
err-number {F} f g m n is = ap (λ (e : F × ℕ). e.1) (err-same (f, m) (g, n) is)

ok-not-err : {F A : Type 0} {R : Type 0} (x : A × Place) (e : F × ℕ) → ◌≡◌ {A = Read F A} (Ok x) (Err e) → R
ok-not-err x e is = cc

pub err-not-ok : {F A : Type 0} {R : Type 0} (x : A × Place) (e : F × ℕ) → ◌≡◌ {A = Read F A} (Err e) (Ok x) → R
err-not-ok x e is = cc

-- a step and what follows it

late-bind : {F A B : Type 0} (first : Reader F A) (next : A → Reader F B) → IsCausal first → ((a : A) → IsEarly (next a)) →
    (n : ℕ) (p : Place) (f : F) (r : Read F A) → first p ≡ r → and_then r next ≡ Err (f, n) → p.number ≤ n
late-bind first next causal then n p f (Ok x) read is =
    let one = causal.on p x.1 x.0 read in
    let two = (then x.0).late n x.1 f is in
    omega arith
late-bind first next causal then n p f (Err e) read is = causal.faults.late n p f (read ∙ ap Err (err-same e (f, n) is))

early-bind : {F A B : Type 0} (first : Reader F A) (next : A → Reader F B) → IsCausal first → ((a : A) → IsEarly (next a)) →
    (n : ℕ) (p q : Place) (f : F) → Agree n p q → (r : Read F A) → first p ≡ r → and_then r next ≡ Err (f, n) → and_then (first q) next ≡ Err (f, n)
early-bind first next causal then n p q f agree (Ok x) read is =
    let there = causal.goes n p q x.1 x.0 agree read ((then x.0).late n x.1 f is) in
    rw there.1 ((then x.0).early n x.1 there.0 f there.2 is)
early-bind first next causal then n p q f agree (Err e) read is =
    let same = causal.faults.early n p q f agree (read ∙ ap Err (err-same e (f, n) is)) in
    rw same refl

pub IsEarly-bind : {F A B : Type 0} (first : Reader F A) (next : A → Reader F B) → IsCausal first → ((a : A) → IsEarly (next a)) → IsEarly (first >>= next)
IsEarly-bind first next causal then = record {
  late = λ n p f is. late-bind first next causal then n p f (first p) refl is;
  early = λ n p q f agree is. early-bind first next causal then n p q f agree (first p) refl is;
}

on-bind : {F A B : Type 0} (first : Reader F A) (next : A → Reader F B) → IsCausal first → ((a : A) → IsCausal (next a)) →
    (p after : Place) (b : B) (r : Read F A) → first p ≡ r → and_then r next ≡ Ok (b, after) → p.number ≤ after.number
on-bind first next causal then p after b (Ok x) read is =
    let one = causal.on p x.1 x.0 read in
    let two = (then x.0).on x.1 after b is in
    omega arith
on-bind first next causal then p after b (Err e) read is = err-not-ok (b, after) e is

goes-bind : {F A B : Type 0} (first : Reader F A) (next : A → Reader F B) → IsCausal first → ((a : A) → IsCausal (next a)) →
    (n : ℕ) (p q after : Place) (b : B) → Agree n p q → (r : Read F A) → first p ≡ r → and_then r next ≡ Ok (b, after) → after.number ≤ n →
    (there : Place) × (and_then (first q) next ≡ Ok (b, there)) × Agree n after there
goes-bind first next causal then n p q after b agree (Ok x) read is within =
    let two = (then x.0).on x.1 after b is in
    let mid = causal.goes n p q x.1 x.0 agree read (omega arith) in
    let there = (then x.0).goes n x.1 mid.0 after b mid.2 is within in
    (there.0, rw mid.1 there.1, there.2)
goes-bind first next causal then n p q after b agree (Err e) read is within = err-not-ok (b, after) e is

pub IsCausal-bind : {F A B : Type 0} (first : Reader F A) (next : A → Reader F B) → IsCausal first → ((a : A) → IsCausal (next a)) → IsCausal (first >>= next)
IsCausal-bind first next causal then = record {
  faults = IsEarly-bind first next causal (λ a. (then a).faults);
  on = λ p after b is. on-bind first next causal then p after b (first p) refl is;
  goes = λ n p q after b agree is within. goes-bind first next causal then n p q after b agree (first p) refl is within;
}

-- a last step without faults

late-sure : {F A B : Type 0} (first : Reader F A) (next : A → Reader F B) → IsEarly first → ((a : A) → IsSure (next a)) →
    (n : ℕ) (p : Place) (f : F) (r : Read F A) → first p ≡ r → and_then r next ≡ Err (f, n) → first p ≡ Err (f, n)
late-sure first next early sure n p f (Ok x) read is = absurd ((sure x.0).sure x.1 (f, n) is)
late-sure first next early sure n p f (Err e) read is = read ∙ ap Err (err-same e (f, n) is)

pub IsEarly-sure : {F A B : Type 0} (first : Reader F A) (next : A → Reader F B) → IsEarly first → ((a : A) → IsSure (next a)) → IsEarly (first >>= next)
IsEarly-sure first next early sure = record {
  late = λ n p f is. early.late n p f (late-sure first next early sure n p f (first p) refl is);
  early = λ n p q f agree is.
      let same = early.early n p q f agree (late-sure first next early sure n p f (first p) refl is) in
      rw same refl;
}

pub IsSure-pure : {F A : Type 0} (a : A) → IsSure (pure {F = F} a)
IsSure-pure a = record { sure = λ p e is. ok-not-err (a, p) e is }

-- values and checks of the token in hand

pub IsCausal-pure : {F A : Type 0} (a : A) → IsCausal (pure {F = F} a)
IsCausal-pure {F} {A} a = record {
  faults = record { late = λ n p f is. ok-not-err (a, p) (f, n) is; early = λ n p q f agree is. ok-not-err (a, p) (f, n) is };
  on = λ p after b is.
      let e : p ≡ after = ap (λ (x : A × Place). x.1) (ok-same (a, p) (b, after) is) in
      let P : Place → Type 0 = λ s. p.number ≤ s.number in
      subst P e (omega arith);
  goes = λ n p q after b agree is within.
      let same = ok-same (a, p) (b, after) is in
      let P : Place → Type 0 = λ s. Agree n s q in
      (q, ap (λ (x : A × Place). Ok (x.0, q)) same, subst P (ap (λ (x : A × Place). x.1) same) agree);
}

IsCausal-refuses : {F A : Type 0} (fault : F) → IsCausal {F = F} {A = A} (λ place. Err (fault, place.number))
IsCausal-refuses {F} {A} fault = record {
  faults = record {
    late = λ n p f is. let e = err-number fault f p.number n is in omega arith;
    early = λ n p q f agree is. subst (λ (m : ℕ). ◌≡◌ {A = Read F A} (Err (fault, m)) (Err (f, n))) agree.number is;
  };
  on = λ p after b is. err-not-ok (b, after) (fault, p.number) is;
  goes = λ n p q after b agree is within. err-not-ok (b, after) (fault, p.number) is;
}

-- a fault of the token behind the one in hand
pub IsCausal-fault : {F A : Type 0} (fault : F) → IsCausal {F = F} {A = A} (λ place. Err (fault, place.number + 1))
IsCausal-fault {F} {A} fault = record {
  faults = record {
    late = λ n p f is. let e = err-number fault f (p.number + 1) n is in omega arith;
    early = λ n p q f agree is. subst (λ (m : ℕ). ◌≡◌ {A = Read F A} (Err (fault, m + 1)) (Err (f, n))) agree.number is;
  };
  on = λ p after b is. err-not-ok (b, after) (fault, p.number + 1) is;
  goes = λ n p q after b agree is within. err-not-ok (b, after) (fault, p.number + 1) is;
}

pub IsCausal-check : {F : Type 0} (holds : Bool) (fault : F) → IsCausal (check holds fault)
unfolding check
IsCausal-check true fault = IsCausal-pure tt
IsCausal-check false fault = IsCausal-refuses fault

pub IsCausal-given : {F A : Type 0} (value : Option A) (fault : F) → IsCausal (given value fault)
IsCausal-given (Some a) fault = IsCausal-pure a
IsCausal-given None fault = IsCausal-refuses fault

-- the next token

pub head-same : (a b : List ℕ) (rest other : List (List ℕ)) → a ∷ rest ≡ b ∷ other → (a ≡ b) × (rest ≡ other)
head-same a b rest other is = (cc, cc)

next-late : {F : Type 0} (ends : Ends F) (number : ℕ) (rest : List (List ℕ)) (ending : Ending) (n : ℕ) (f : F) →
    next_of ends number rest ending ≡ Err (f, n) → n ≡ number + 1
next-late ends number [] AtEnd n f is = sym (err-number ends.ended f (number + 1) n is)
next-late ends number [] PastLimit n f is = sym (err-number ends.too_long f (number + 1) n is)
next-late ends number (t ∷ rest) ending n f is = ok-not-err (t, record { number = number + 1; rest = rest; ending = ending }) (f, n) is

next-on : {F : Type 0} (ends : Ends F) (number : ℕ) (rest : List (List ℕ)) (ending : Ending) (word : List ℕ) (after : Place) →
    next_of ends number rest ending ≡ Ok (word, after) → number ≤ after.number
next-on ends number [] AtEnd word after is = err-not-ok (word, after) (ends.ended, number + 1) is
next-on ends number [] PastLimit word after is = err-not-ok (word, after) (ends.too_long, number + 1) is
next-on ends number (t ∷ rest) ending word after is =
    let place : Place = record { number = number + 1; rest = rest; ending = ending } in
    let is_after : place ≡ after = ap (λ (x : List ℕ × Place). x.1) (ok-same (t, place) (word, after) is) in
    let m : number + 1 ≡ after.number = ap (λ (s : Place). s.number) is_after in
    omega arith

next-early : {F : Type 0} (ends : Ends F) (number : ℕ) (rest there : List (List ℕ)) (ending : Ending) (n : ℕ) (f : F) →
    take (n - number) rest ≡ take (n - number) there → next_of ends number rest ending ≡ Err (f, n) → next_of ends number there ending ≡ Err (f, n)
next-early ends number [] [] ending n f same is = is
next-early ends number [] (t ∷ there) ending n f same is =
    let e = next-late ends number [] ending n f is in
    let one : n - number ≡ suc zero = omega arith in
    let no : [] ≡ t ∷ [] = rw one at same in
    cc
next-early ends number (t ∷ rest) there ending n f same is = ok-not-err (t, record { number = number + 1; rest = rest; ending = ending }) (f, n) is

next-goes : {F : Type 0} (ends : Ends F) (number : ℕ) (rest there : List (List ℕ)) (ending : Ending) (word : List ℕ) (n : ℕ) (after : Place) →
    take (n - number) rest ≡ take (n - number) there → next_of ends number rest ending ≡ Ok (word, after) → after.number ≤ n →
    (place : Place) × (next_of ends number there ending ≡ Ok (word, place)) × Agree n after place
next-goes ends number [] there AtEnd word n after same is within = err-not-ok (word, after) (ends.ended, number + 1) is
next-goes ends number [] there PastLimit word n after same is within = err-not-ok (word, after) (ends.too_long, number + 1) is
next-goes ends number (t ∷ rest) [] ending word n after same is within =
    let place : Place = record { number = number + 1; rest = rest; ending = ending } in
    let is_after : place ≡ after = ap (λ (x : List ℕ × Place). x.1) (ok-same (t, place) (word, after) is) in
    let m : number + 1 ≡ after.number = ap (λ (s : Place). s.number) is_after in
    let more : n - number ≡ suc (n - (number + 1)) = omega arith in
    let no : t ∷ take (n - (number + 1)) rest ≡ [] = rw more at same in
    cc
next-goes ends number (t ∷ rest) (u ∷ there) ending word n after same is within =
    let place : Place = record { number = number + 1; rest = rest; ending = ending } in
    let other : Place = record { number = number + 1; rest = there; ending = ending } in
    let both = ok-same (t, place) (word, after) is in
    let is_after : place ≡ after = ap (λ (x : List ℕ × Place). x.1) both in
    let m : number + 1 ≡ after.number = ap (λ (s : Place). s.number) is_after in
    let more : n - number ≡ suc (n - (number + 1)) = omega arith in
    let parts = head-same t u (take (n - (number + 1)) rest) (take (n - (number + 1)) there) (rw more at same) in
    let agree : Agree n place other = record { number = refl; rest = parts.1; ending = refl } in
    let P : Place → Type 0 = λ s. Agree n s other in
    (other, ap (λ (w : List ℕ). Ok (w, other)) (sym parts.0 ∙ ap (λ (x : List ℕ × Place). x.0) both), subst P is_after agree)

pub IsCausal-token : {F : Type 0} (ends : Ends F) → IsCausal (token ends)
unfolding token
IsCausal-token {F} ends = record {
  faults = record {
    late = λ n p f is. let e = next-late ends p.number p.rest p.ending n f is in omega arith;
    early = λ n p q f agree is.
        subst (λ (s : Ending). next_of ends q.number q.rest s ≡ Err (f, n)) agree.ending
        (subst (λ (m : ℕ). next_of ends m q.rest p.ending ≡ Err (f, n)) agree.number
        (next-early ends p.number p.rest q.rest p.ending n f agree.rest is));
  };
  on = λ p after w is. next-on ends p.number p.rest p.ending w after is;
  goes = λ n p q after w agree is within.
      subst (λ (s : Ending). (place : Place) × (next_of ends q.number q.rest s ≡ Ok (w, place)) × Agree n after place) agree.ending
      (subst (λ (m : ℕ). (place : Place) × (next_of ends m q.rest p.ending ≡ Ok (w, place)) × Agree n after place) agree.number
      (next-goes ends p.number p.rest q.rest p.ending w n after agree.rest is within));
}

-- the next token, or the end of the text, and what follows

last-late : {F B : Type 0} (ends : Ends F) (next : Option (List ℕ) → Reader F B) → ((word : List ℕ) → IsEarly (next (Some word))) → IsSure (next None) →
    (p : Place) (rest : List (List ℕ)) (ending : Ending) (n : ℕ) (f : F) →
    and_then (next_or_end ends (record { number = p.number; rest = rest; ending = ending }) rest ending) next ≡ Err (f, n) → p.number + 1 ≤ n
last-late ends next then sure p [] AtEnd n f is = absurd (sure.sure (record { number = p.number; rest = []; ending = AtEnd }) (f, n) is)
last-late ends next then sure p [] PastLimit n f is = let e = err-number ends.too_long f (p.number + 1) n is in omega arith
last-late ends next then sure p (t ∷ rest) ending n f is = (then t).late n (record { number = p.number + 1; rest = rest; ending = ending }) f is

last-early : {F B : Type 0} (ends : Ends F) (next : Option (List ℕ) → Reader F B) → ((word : List ℕ) → IsEarly (next (Some word))) → IsSure (next None) →
    (p : Place) (rest there : List (List ℕ)) (ending : Ending) (n : ℕ) (f : F) → take (n - p.number) rest ≡ take (n - p.number) there →
    and_then (next_or_end ends (record { number = p.number; rest = rest; ending = ending }) rest ending) next ≡ Err (f, n) →
    and_then (next_or_end ends (record { number = p.number; rest = there; ending = ending }) there ending) next ≡ Err (f, n)
last-early ends next then sure p [] there AtEnd n f same is = absurd (sure.sure (record { number = p.number; rest = []; ending = AtEnd }) (f, n) is)
last-early ends next then sure p [] [] PastLimit n f same is = is
last-early ends next then sure p [] (t ∷ there) PastLimit n f same is =
    let e = err-number ends.too_long f (p.number + 1) n is in
    let one : n - p.number ≡ suc zero = omega arith in
    let no : [] ≡ t ∷ [] = rw one at same in
    cc
last-early ends next then sure p (t ∷ rest) [] ending n f same is =
    let late = (then t).late n (record { number = p.number + 1; rest = rest; ending = ending }) f is in
    let more : n - p.number ≡ suc (n - (p.number + 1)) = omega arith in
    let no : t ∷ take (n - (p.number + 1)) rest ≡ [] = rw more at same in
    cc
last-early ends next then sure p (t ∷ rest) (u ∷ there) ending n f same is =
    let here : Place = record { number = p.number + 1; rest = rest; ending = ending } in
    let other : Place = record { number = p.number + 1; rest = there; ending = ending } in
    let late = (then t).late n here f is in
    let more : n - p.number ≡ suc (n - (p.number + 1)) = omega arith in
    let parts = head-same t u (take (n - (p.number + 1)) rest) (take (n - (p.number + 1)) there) (rw more at same) in
    let agree : Agree n here other = record { number = refl; rest = parts.1; ending = refl } in
    subst (λ (w : List ℕ). next (Some w) other ≡ Err (f, n)) parts.0 ((then t).early n here other f agree is)

pub IsEarly-last : {F B : Type 0} (ends : Ends F) (next : Option (List ℕ) → Reader F B) → ((word : List ℕ) → IsEarly (next (Some word))) → IsSure (next None) →
    IsEarly (token_or_end ends >>= next)
unfolding token_or_end
IsEarly-last ends next then sure = record {
  late = λ n p f is. let late = last-late ends next then sure p p.rest p.ending n f is in omega arith;
  early = λ n p q f agree is.
      subst (λ (s : Ending). and_then (next_or_end ends (record { number = q.number; rest = q.rest; ending = s }) q.rest s) next ≡ Err (f, n)) agree.ending
      (subst (λ (m : ℕ). and_then (next_or_end ends (record { number = m; rest = q.rest; ending = p.ending }) q.rest p.ending) next ≡ Err (f, n)) agree.number
      (last-early ends next then sure p p.rest q.rest p.ending n f agree.rest is));
}

-- words, numbers, items again and again, and the end

pub IsCausal-word : {F : Type 0} (ends : Ends F) (fault : F) (text : List ℕ) → IsCausal (word ends fault text)
unfolding word
IsCausal-word ends fault text = IsCausal-bind (token ends) _ (IsCausal-token ends) (λ found. IsCausal-check _ fault)

pub IsCausal-number : {F : Type 0} (ends : Ends F) (fault : F) (low high : ℤ) → IsCausal (number ends fault low high)
unfolding number
IsCausal-number ends fault low high = IsCausal-bind (token ends) _ (IsCausal-token ends) (λ found. IsCausal-given _ fault)

pub IsCausal-natural : {F : Type 0} (ends : Ends F) (fault : F) (most : ℕ) → IsCausal (natural ends fault most)
unfolding natural
IsCausal-natural ends fault most = IsCausal-bind _ _ (IsCausal-number ends fault _ _) (λ n. IsCausal-pure _)

pub IsCausal-several : {F A : Type 0} (item : List A → Reader F A) → ((found : List A) → IsCausal (item found)) → (count : ℕ) (found : List A) → IsCausal (several item count found)
unfolding several
IsCausal-several item each zero found = IsCausal-pure found
IsCausal-several item each (suc count) found = IsCausal-bind (item found) _ (each found) (λ one. IsCausal-several item each count (found ++ one ∷ []))

pub IsEarly-end : {F : Type 0} (ends : Ends F) (trailing : F) → IsEarly (end ends trailing)
unfolding end check
IsEarly-end ends trailing =
    IsEarly-last ends (λ more. check (is_none more) trailing) (λ word. (IsCausal-check (is_none (Some word)) trailing).faults) (IsSure-pure tt)
