-- What a record is answered: the paper's number of an answer, its figure, and the refusal that it is, if it is one.
use Rattle.std.specs.Prelude.{Option, Some, None, ℕ}
use Rattle.rules.specs.Refusals.{number_of}
use Rattle.rules.specs.declared.Refusal.{Refusal}
use Rattle.playing_records.specs.declared.applying.Answer.{Answer}
use Rattle.playing_records.specs.declared.applying.Answer.TheVariants.{Accepted, Refused, Unreadable}

abbrev pub number_in : Answer → ℕ
number_in (Accepted moved) = 0
number_in (Refused r) = number_of r
number_in (Unreadable place) = 19

abbrev pub figure_in : Answer → ℕ
figure_in (Accepted moved) = moved.0
figure_in (Refused r) = 0
figure_in (Unreadable place) = place

abbrev pub refusal_in : Answer → Option Refusal
refusal_in (Accepted moved) = None
refusal_in (Refused r) = Some r
refusal_in (Unreadable place) = None
