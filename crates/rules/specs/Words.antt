-- The few words of lists, tests and texts that the rules are written in.
use Rattle.std.specs.Prelude.{Bool, true, false, cond, ◌&&◌, ◌||◌, List, [], ◌∷◌, ◌++◌, ℕ, zero, suc, ◌+◌, ltb}
use Prim.Native.Char.{code}
use Prim.Native.String as String

-- every element passes the test
unfoldable pub all : {A : Type 0} → (A → Bool) → List A → Bool
all t [] = true
all t (x ∷ l) = t x && all t l

-- some element passes the test
unfoldable pub any : {A : Type 0} → (A → Bool) → List A → Bool
any t [] = false
any t (x ∷ l) = t x || any t l

-- the elements that pass the test, in their order
unfoldable pub keep : {A : Type 0} → (A → Bool) → List A → List A
keep t [] = []
keep t (x ∷ l) = let r = keep t l in cond (t x) (x ∷ r) r

-- f of each element, added up
unfoldable pub total : {A : Type 0} → (A → ℕ) → List A → ℕ
total f [] = 0
total f (x ∷ l) = f x + total f l

-- the lists that f makes of the elements, one after the other
unfoldable pub each : {A B : Type 0} → (A → List B) → List A → List B
each f [] = []
each f (x ∷ l) = f x ++ each f l

-- n numbers from i on
unfoldable pub from : ℕ → ℕ → List ℕ
from i zero = []
from i (suc n) = i ∷ from (suc i) n

-- a test with the refusal number that is given when it holds
abbrev pub Test : Type 0
Test = Bool × ℕ

-- the number of the first test that holds; 0 where none does
unfoldable pub first : List Test → ℕ
first [] = 0
first (t ∷ ts) = cond t.0 t.1 (first ts)

-- `above top n`: n is above top; `outside low high n`: n is outside low to high
abbrev pub above : ℕ → ℕ → Bool
above top n = ltb top n

abbrev pub outside : ℕ → ℕ → ℕ → Bool
outside low high n = ltb n low || ltb high n

-- the bytes of a text
unfoldable pub text : String.String → List ℕ
text String.[] = []
text (String.◌∷◌ c s) = code c ∷ text s
