-- The refusal numbers (document 01, the section of that name): a definition gives this paper's number for each refusal, and an answer that may be one
-- is told with that number.
use Rattle.std.specs.Prelude.{ℕ, Result, Ok, Err}
use Rattle.rules.specs.declared.Refusal.{Refusal}
use Rattle.rules.specs.declared.Refusal.TheVariants.{NotSound, NoAccount, NoSecurity, BadQuantity, BadPrice, SameAccount, BadNumber, NoTrade, ListFull, TableFull, NotHeld, TooMuchHeld, TooMuchDelivered, LastDay, BadRate, TotalTooLarge, NoPrice, WrongLength}

abbrev pub number_of : Refusal → ℕ
number_of NotSound = 1
number_of NoAccount = 2
number_of NoSecurity = 3
number_of BadQuantity = 4
number_of BadPrice = 5
number_of SameAccount = 6
number_of BadNumber = 7
number_of NoTrade = 8
number_of ListFull = 9
number_of TableFull = 10
number_of NotHeld = 11
number_of TooMuchHeld = 12
number_of TooMuchDelivered = 13
number_of LastDay = 14
number_of BadRate = 15
number_of TotalTooLarge = 16
number_of NoPrice = 17
number_of WrongLength = 18

-- the number that an answer goes by: 0 where the call is accepted
abbrev pub answered : {A : Type 0} → Result A Refusal → ℕ
answered (Ok x) = 0
answered (Err r) = number_of r

-- what an answer gives, and something else where it is refused
abbrev pub value_or : {A : Type 0} → A → Result A Refusal → A
value_or y (Ok x) = x
value_or y (Err r) = y

-- the answer with its refusal as that number
abbrev pub numbered : {A : Type 0} → Result A Refusal → Result A ℕ
numbered (Ok x) = Ok x
numbered (Err r) = Err (number_of r)
