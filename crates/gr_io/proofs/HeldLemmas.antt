-- The bytes that a shelf over memory holds under a name.
use Rattle.std.proofs.Common.{◌≡◌, ℕ, ◌<◌, ◌≤◌, Bool, List, [], Option, Some, None, ⊎_elim, ap, arith, bytes_eq, cond, get_or, is_some, length, nat_lt, option_map, refl, sym, subst, ◌∙◌}
use Rattle.std.specs.List.{find, position, position_or_len, slice_get}
use Rattle.std.proofs.lemmas.Bool.{cases_lt, lt-ltb, le-ltb}
use Rattle.std.proofs.lemmas.List.Folds.{find_at}
use Rattle.std.proofs.lemmas.Option.{slice_get-get_or, slice_get_past}
use Rattle.gr_io.specs.Texts.{HeldText, bytes_at, held_in}

-- a number below a bound, or none
at_most_one : (n bound : ℕ) → Option ℕ
at_most_one n bound = cond (nat_lt n bound) (Some n) None

within_from_some : (n bound number : ℕ) → at_most_one n bound ≡ Some number → (n < bound) × (n ≡ number)
unfolding at_most_one
within_from_some n bound number e =
    ⊎_elim (λ (l : n < bound). (l, let s = rw (lt-ltb n bound l) at e in cc)) (λ (g : bound ≤ n). let s = rw (le-ltb n bound g) at e in cc) (cases_lt n bound)

past_from_none : (n bound : ℕ) → at_most_one n bound ≡ None → bound ≤ n
unfolding at_most_one
past_from_none n bound e =
    ⊎_elim (λ (l : n < bound). let s = rw (lt-ltb n bound l) at e in cc) (λ (g : bound ≤ n). g) (cases_lt n bound)

module _ (texts : List HeldText) (name : List ℕ) where
  -- a text of the name is found
  pub held-found : (number : ℕ) → position (λ (t : HeldText). bytes_eq t.name name) texts ≡ Some number → (number < length texts) × (held_in texts name ≡ Some (bytes_at texts number))
  unfolding at_most_one
  held-found number e =
      let p : HeldText → Bool = λ (t : HeldText). bytes_eq t.name name in
      let n = position_or_len p texts in
      let w = within_from_some n (length texts) number e in
      let within : number < length texts = omega (arith, w.0, w.1) in
      let found : find p texts ≡ Some (get_or texts number (record { name = []; bytes = [] })) =
      find_at p texts ∙ ap (λ k. slice_get texts k) w.1 ∙ slice_get-get_or texts number _ within in
      (within, ap (λ (o : Option HeldText). option_map (λ (t : HeldText). t.bytes) o) found)

  -- no text of the name is found
  pub held-missing : position (λ (t : HeldText). bytes_eq t.name name) texts ≡ None → held_in texts name ≡ None
  unfolding at_most_one
  held-missing e =
      let p : HeldText → Bool = λ (t : HeldText). bytes_eq t.name name in
      let n = position_or_len p texts in
      let past : length texts ≤ n = past_from_none n (length texts) e in
      ap (λ (o : Option HeldText). option_map (λ (t : HeldText). t.bytes) o) (find_at p texts ∙ slice_get_past texts n past)

-- the same of what a look in a copy of the texts gave
pub found_in : (items texts : List HeldText) (name : List ℕ) (result : Option ℕ) (number : ℕ) → items ≡ texts → result ≡ position (λ (t : HeldText). bytes_eq t.name name) items → result ≡ Some number → (number < length texts) × (held_in texts name ≡ Some (bytes_at texts number))
found_in items texts name result number e r s =
    subst (λ (xs : List HeldText). (number < length xs) × (held_in xs name ≡ Some (bytes_at xs number))) e (held-found items name number (sym r ∙ s))

pub missing_in : (items texts : List HeldText) (name : List ℕ) (result : Option ℕ) → items ≡ texts → result ≡ position (λ (t : HeldText). bytes_eq t.name name) items → result ≡ None → held_in texts name ≡ None
missing_in items texts name result e r n =
    subst (λ (xs : List HeldText). held_in xs name ≡ None) e (held-missing items name (sym r ∙ n))

-- whether a look found a text
pub is_some-held : (items texts : List HeldText) (name : List ℕ) (result : Option ℕ) → items ≡ texts → result ≡ position (λ (t : HeldText). bytes_eq t.name name) items → is_some result ≡ is_some (held_in texts name)
is_some-held items texts name None e r = ap (λ (o : Option (List ℕ)). is_some o) (sym (missing_in items texts name None e r refl))
is_some-held items texts name (Some number) e r = ap (λ (o : Option (List ℕ)). is_some o) (sym (found_in items texts name (Some number) number e r refl).1)
