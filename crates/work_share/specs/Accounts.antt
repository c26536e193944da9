-- Accounts of a deque, and the rule that they keep.
use Rattle.std.specs.Prelude.{◌≡◌, ℕ, ◌+◌, ◌-◌, ◌<◌, ◌≤◌, Bool, true, false, List, [], ◌++◌, sum_by, count_by}
use mathlib.Core.Option.{some}
use lib.ListN.{get_elem?}
use Rattle.work_share.specs.declared.account.Account.{Account}

abbrev pub account : ℕ → List ℕ → List ℕ → Bool → Account
account parts put taken alone = record { parts = parts; put = put; taken = taken; alone = alone }

-- the first account has all parts, and a stranger's has none
abbrev pub founder : Account
founder = account 1024 [] [] true

abbrev pub stranger : Account
stranger = account 0 [] [] false

-- an account after a part was cut off, and the account with that part
abbrev pub lessened : Account → Account
lessened a = account (a.parts - 1) a.put a.taken false

abbrev pub part_of : Account → Account
part_of a = account 1 a.put [] false

abbrev pub gathered : Account → Account → Account
gathered a b = account (a.parts + b.parts) a.put (a.taken ++ b.taken) false

abbrev pub with_put : Account → List ℕ → Account
with_put a nets = account a.parts (a.put ++ nets) a.taken a.alone

abbrev pub with_taken : Account → List ℕ → Account
with_taken a nets = account a.parts a.put (a.taken ++ nets) a.alone

-- how many of the nets that were taken through these accounts pass a test
abbrev pub taken_through : (ℕ → Bool) → List Account → ℕ
taken_through test accounts = sum_by (λ (a : Account). count_by test a.taken) accounts

-- what one of the accounts of a deque says truly. With a part, it knows what was put in: that is what was taken and what
-- the deque holds. Without one nothing was taken through it. Where it is alone it has all parts, and nets leave in order
pub record IsTrueOf (items : List ℕ) (accounts : List Account) (a : Account) : Type 0 where
  pub balance : 0 < a.parts → (test : ℕ → Bool) →
      count_by test a.put ≡ taken_through test accounts + count_by test items
  pub idle : a.parts ≡ 0 → a.taken ≡ []
  pub parts : a.alone ≡ true → a.parts ≡ 1024
  pub order : a.alone ≡ true → a.put ≡ a.taken ++ items

-- the rule of a deque: the parts are 1024, and each account is true of what the deque holds
pub record Balanced (items : List ℕ) (accounts : List Account) : Type 0 where
  pub all : sum_by (λ (a : Account). a.parts) accounts ≡ 1024
  pub each : (at : ℕ) (a : Account) → get_elem? accounts at ≡ some a → IsTrueOf items accounts a

-- the account after nets were put in
abbrev pub HasPut : Account → List ℕ → Account → Type 0
HasPut old nets new = new ≡ with_put old nets

-- the account after nets were taken. Of those that pass a test no more were taken than were put in; and where it is
-- alone they are those put in next
pub record HasTaken (old : Account) (nets : List ℕ) (new : Account) : Type 0 where
  pub is : new ≡ with_taken old nets
  pub among : (test : ℕ → Bool) → count_by test new.taken ≤ count_by test new.put
  pub order : old.alone ≡ true → (rest : List ℕ) × (new.put ≡ new.taken ++ rest)

-- at one moment, when this was one of the deque's accounts, the deque held nothing
pub record WasEmpty (a : Account) : Type 0 where
  pub accounts : List Account
  pub at : ℕ
  pub here : get_elem? accounts at ≡ some a
  pub balanced : Balanced [] accounts
