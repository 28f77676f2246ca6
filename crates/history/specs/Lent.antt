-- Histories over lent bytes: the public calls, each on the bytes that the call before it left (docs/BOOK.md).
use Rattle.std.specs.Prelude.{cond, List, [], ◌∷◌, ℕ, eqb}
use Rattle.rules.specs.Calls.{Call, answer_bytes, after_bytes}
use Rattle.laws.specs.Fitting.{CallFits}

-- the bytes after the calls, made one after another
unfoldable pub made_bytes : List ℕ → List Call → List ℕ
made_bytes bs [] = bs
made_bytes bs (c ∷ cs) = made_bytes (after_bytes bs c) cs

-- the log of accepted calls, by what they answer over the bytes
unfoldable pub log_bytes : List ℕ → List Call → List Call
log_bytes bs [] = []
log_bytes bs (c ∷ cs) = let rest = log_bytes (after_bytes bs c) cs in cond (eqb (answer_bytes bs c) 0) (c ∷ rest) rest

-- the arguments of each call fit their types
unfoldable pub AllFit : List Call → Type 0
AllFit [] = Unit {0}
AllFit (c ∷ cs) = CallFits c × AllFit cs
