-- The records of a call file as calls of their own, made one after another on the bytes of a book: what they answer, and the bytes that they leave (document 01,
-- "Refusal numbers": "File: 18, a wrong book length included, then records in order; each record is a call of its own, and those before a 19 stand").
use Rattle.std.specs.Prelude.{List, [], ◌∷◌, ℕ, zero, suc, nat_abs}
use Rattle.rules.specs.Records.{record_answer, record_bytes, number_of_record, figure_of_record}
use Rattle.rules.specs.CallFile.{Answer}
use Rattle.rules.specs.declared.RecordAnswer.{RecordAnswer}
use Rattle.rules.specs.declared.RecordAnswer.TheVariants.{Answered, Unreadable, Ended, FileRefused}

-- what they answer, and the bytes of the book that they leave
pub record Called : Type 0 where
  pub answers : List Answer
  pub book : List ℕ

-- an answer, and what comes behind it
abbrev pub called : Answer → Called → Called
called a rest = record { answers = a ∷ rest.answers; book = rest.book }

-- no answer more
abbrev pub no_more : List ℕ → Called
no_more book = record { answers = []; book = book }

-- the paper's number and figure of an answer
unfoldable pub answer_of : RecordAnswer → Answer
answer_of a = record { number = number_of_record a; figure = nat_abs (figure_of_record a) }

-- behind an answered record the call at the place that its answer tells; behind a 19 or an 18 none; and behind the last record nothing is answered
unfoldable pub going_on : RecordAnswer → List ℕ → (ℕ → Called) → Called
going_on (Answered number moved next) book onward = called (answer_of (Answered number moved next)) (onward next)
going_on (Unreadable place) book onward = called (answer_of (Unreadable place)) (no_more book)
going_on Ended book onward = no_more book
going_on (FileRefused number) book onward = called (answer_of (FileRefused number)) (no_more book)

-- from a place on, each on the bytes that the one before left; n calls at most
unfoldable pub record_calls : ℕ → List ℕ → List ℕ → ℕ → Called
record_calls zero book file place = no_more book
record_calls (suc n) book file place =
    let left = record_bytes book file place in
    going_on (record_answer book file place) left (λ next. record_calls n left file next)
