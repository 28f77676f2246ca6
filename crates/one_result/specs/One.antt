-- The word of the statements. A promise is what a function's contract says, read as a plain claim: rattle makes it from the source (`Reads.Post` of the function) and
-- holds the function's own proof to it, so that a contract that is changed changes these statements.
use Rattle.std.specs.Prelude.{List, ℕ}
use contract.Lifetimes.{Lfts}
use denote.Triple.Clauses.{AtExit}
use borrow.Fn.Kinds.{ParamKind, ResultKind, Dens, Out, res_t, ended_of}

-- Whatever the arguments, two outcomes that meet the promise, each a result and what was lent as it is at exit, are the same.
abbrev pub One : (n : ℕ) (ps : List (ParamKind n)) (r : ResultKind n) → Out n ps r
    → ((κs : Lfts n) → (res_t r κs).Denot → AtExit (ended_of n ps r) κs → (res_t r κs).Denot → AtExit (ended_of n ps r) κs → Type 0) → Type 0
One n ps r promise Same =
    (κs : Lfts n) (a : Dens κs ps) (x : (res_t r κs).Denot) (s : AtExit (ended_of n ps r) κs) (y : (res_t r κs).Denot) (t : AtExit (ended_of n ps r) κs)
    → promise κs a x s → promise κs a y t → Same κs x s y t
