-- The numbers of the refusals (document 01, "Refusal numbers"): none is 0, and no two have one, so that an answer without a figure is known by its number.
use Rattle.std.specs.Prelude.{◌≡◌, refl, List, [], ◌∷◌, ℕ, ◌-◌, ◌≢◌, get_or, Result, Ok, Err}
use Rattle.std.proofs.Common.{arith, ap, sym, ◌∙◌}
use Rattle.rules.specs.Refusals.{number_of, answered, value_or, numbered}
use Rattle.rules.specs.declared.Refusal.{Refusal}
use Rattle.rules.specs.declared.Refusal.TheVariants.{NotSound, NoAccount, NoSecurity, BadQuantity, BadPrice, SameAccount, BadNumber, NoTrade, ListFull, TableFull, NotHeld, TooMuchHeld, TooMuchDelivered, LastDay, BadRate, TotalTooLarge, NoPrice, WrongLength}

pub number_some : (r : Refusal) → number_of r ≢ 0
number_some r e = grind arith

-- the refusal that has a number, which is one of the 18
abbrev refusal_at : ℕ → Refusal
refusal_at n = get_or (NotSound ∷ NoAccount ∷ NoSecurity ∷ BadQuantity ∷ BadPrice ∷ SameAccount ∷ BadNumber ∷ NoTrade ∷ ListFull ∷ TableFull ∷ NotHeld ∷ TooMuchHeld ∷ TooMuchDelivered ∷ LastDay ∷ BadRate ∷ TotalTooLarge ∷ NoPrice ∷ WrongLength ∷ []) (n - 1) WrongLength

at_number : (r : Refusal) → refusal_at (number_of r) ≡ r
at_number NotSound = refl
at_number NoAccount = refl
at_number NoSecurity = refl
at_number BadQuantity = refl
at_number BadPrice = refl
at_number SameAccount = refl
at_number BadNumber = refl
at_number NoTrade = refl
at_number ListFull = refl
at_number TableFull = refl
at_number NotHeld = refl
at_number TooMuchHeld = refl
at_number TooMuchDelivered = refl
at_number LastDay = refl
at_number BadRate = refl
at_number TotalTooLarge = refl
at_number NoPrice = refl
at_number WrongLength = refl

pub same_number : (r s : Refusal) → number_of r ≡ number_of s → r ≡ s
same_number r s e = sym (at_number r) ∙ ap refusal_at e ∙ at_number s

-- so two answers that have nothing but a number are the same where that is,
pub same_answer : (x y : Result Unit Refusal) → answered x ≡ answered y → x ≡ y
same_answer (Ok a) (Ok b) e = refl
same_answer (Ok a) (Err s) e = absurd (number_some s (sym e))
same_answer (Err r) (Ok b) e = absurd (number_some r e)
same_answer (Err r) (Err s) e = ap Err (same_number r s e)

-- those that have a value too where that is the same,
pub same_value : {A : Type 0} (y : A) (p q : Result A Refusal) → answered p ≡ answered q → value_or y p ≡ value_or y q → p ≡ q
same_value y (Ok a) (Ok b) e v = ap Ok v
same_value y (Ok a) (Err s) e v = absurd (number_some s (sym e))
same_value y (Err r) (Ok b) e v = absurd (number_some r e)
same_value y (Err r) (Err s) e v = ap Err (same_number r s e)

-- and any two that are the same by their number.
number_back : {A : Type 0} → Result A ℕ → Result A Refusal
number_back (Ok a) = Ok a
number_back (Err n) = Err (refusal_at n)

back_numbered : {A : Type 0} (p : Result A Refusal) → number_back (numbered p) ≡ p
unfolding number_back
back_numbered (Ok a) = refl
back_numbered (Err r) = ap Err (at_number r)

pub same_numbered : {A : Type 0} (p q : Result A Refusal) → numbered p ≡ numbered q → p ≡ q
same_numbered p q e = sym (back_numbered p) ∙ ap number_back e ∙ back_numbered q
