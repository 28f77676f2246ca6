-- A record of the call file (document 01, "Call file and sheet"): what stands at a place of a file, and the record as a call of its own.
use Rattle.std.specs.Prelude.{Bool, true, false, cond, not, ◌&&◌, ◌||◌, List, [], ◌∷◌, ℕ, ◌+◌, eqb, leb, ltb, length, get_or, take, drop, ℤ, pos}
use Rattle.fields.specs.Field.{field}
use Rattle.units.specs.Units.{shares_of, shares}
use Rattle.rules.specs.Words.{all, above}
use Rattle.rules.specs.Bounds.{most_file}
use Rattle.rules.specs.Book.{empty_book}
use Rattle.rules.specs.Layout.{book_length, bytes_of}
use Rattle.rules.specs.Sound.{is_code}
use Rattle.rules.specs.Calls.{Call, enter, amend, exclude, roll, deposit, withdraw, run, answer_bytes, figure_bytes, after_bytes}
use Rattle.rules.specs.declared.Trade.{Trade}
use Rattle.rules.specs.declared.RecordAnswer.{RecordAnswer}
use Rattle.rules.specs.declared.RecordAnswer.TheVariants.{Answered, Unreadable, Ended, FileRefused}

-- ── what stands at a place ──

-- a create with its codes, another call, or nothing readable
pub data Record : Type 0 where
  create : (codes : List ℕ) → Record
  call : Call → Record
  unreadable : Record

-- Each with a 2-byte big-endian length of what follows it, a kind byte and fields, all big-endian.
unfoldable pub length_of : List ℕ → ℕ
length_of bs = field 2 0 bs

-- a trade's fields behind the kind byte: number 2 bytes, buyer, seller, security 1 each, quantity 4, price 4
unfoldable pub trade_in : List ℕ → Trade
trade_in body =
    record {
      number = field 2 1 body;
      buyer = field 1 3 body;
      seller = field 1 4 body;
      security = field 1 5 body;
      quantity = field 4 6 body;
      price = record { 0 = field 4 10 body };
    }

-- a kind of record: its byte, the length of what follows the length, and what such a body says
pub record Form : Type 0 where
  pub kind : ℕ
  pub long : ℕ
  pub says : Record

abbrev form : ℕ → ℕ → Record → Form
form kind long says = record { kind = kind; long = long; says = says }

-- 0 create (32 currency codes); 1 enter and 2 amend (a trade); 3 exclude (number); 4 roll; 5 deposit and 6 withdraw (account, security,
-- quantity 8); 7 run (security).
unfoldable pub forms_of : List ℕ → List Form
forms_of body =
    form 0 33 (create (drop 1 body)) ∷
    form 1 14 (call (enter (trade_in body))) ∷
    form 2 14 (call (amend (trade_in body))) ∷
    form 3 3 (call (exclude (field 2 1 body))) ∷
    form 4 1 (call roll) ∷
    form 5 11 (call (deposit (field 1 1 body) (field 1 2 body) (field 8 3 body))) ∷
    form 6 11 (call (withdraw (field 1 1 body) (field 1 2 body) (field 8 3 body))) ∷
    form 7 2 (call (run (field 1 1 body))) ∷
    []

-- Another kind or length is unreadable,
unfoldable pub read_as : ℕ → ℕ → List Form → Record
read_as kind long [] = unreadable
read_as kind long (f ∷ fs) = let other = read_as kind long fs in cond (eqb kind f.kind && eqb long f.long) f.says other

-- and so is a cut record: its length bytes or its body run past the end.
unfoldable pub is_cut : List ℕ → Bool
is_cut bs = ltb (length (take 2 bs)) 2 || ltb (length (take (length_of bs) (drop 2 bs))) (length_of bs)

unfoldable pub front_of : List ℕ → Record
front_of bs =
    let whole = read_as (field 1 2 bs) (length_of bs) (forms_of (take (length_of bs) (drop 2 bs))) in
    cond (is_cut bs) unreadable whole

-- Create stands first, at place 1 behind the version, with good currency codes, and only there. Another place is unreadable.
unfoldable pub in_place : ℕ → Record → Record
in_place place (create codes) = cond (eqb place 1 && all is_code codes) (create codes) unreadable
in_place place (call c) = cond (eqb place 1) unreadable (call c)
in_place place unreadable = unreadable

-- A place is where the caller says that a record begins: 1, and then the next place of each answer. (No record can begin at 0: there the
-- version byte makes its length 256 or more.)
unfoldable pub record_at : List ℕ → ℕ → Record
record_at file place = in_place place (front_of (drop place file))

-- One version byte, 1. An empty file or another version is unreadable at place 0.
unfoldable pub other_version : List ℕ → Bool
other_version file = not (eqb (get_or file 0 0) 1)

-- ── one record, as a call of its own: a book, a file and a place. The version is looked at in every call ──

-- File: 18, a wrong book length included.
unfoldable pub too_long : List ℕ → Bool
too_long file = above most_file (length file)

unfoldable pub file_refused : List ℕ → List ℕ → Bool
file_refused book file = too_long file || not (eqb (length book) book_length)

-- no record begins at or behind the file's end; but a version with no record after it is 19 at place 1
unfoldable pub past_end : List ℕ → ℕ → Bool
past_end file place = above 1 place && leb (length file) place

-- the record's own answer, the shares that it moved, and the place of the next record, also where its call is refused
unfoldable pub answer_to : List ℕ → ℕ → ℕ → Record → RecordAnswer
answer_to book place next (create codes) = Answered 0 (shares (pos 0)) next
answer_to book place next (call c) = Answered (answer_bytes book c) (shares (pos (figure_bytes book c))) next
answer_to book place next unreadable = Unreadable place

unfoldable pub record_answer : List ℕ → List ℕ → ℕ → RecordAnswer
record_answer book file place =
    let found = answer_to book place (place + 2 + length_of (drop place file)) (record_at file place) in
    let there = cond (past_end file place) Ended found in
    let ours = cond (other_version file) (Unreadable 0) there in
    cond (file_refused book file) (FileRefused 18) ours

-- A create begins a new history, another call does what it does; a 19, an 18 and the end alter nothing.
unfoldable pub bytes_after : List ℕ → Record → List ℕ
bytes_after book (create codes) = bytes_of (empty_book codes)
bytes_after book (call c) = after_bytes book c
bytes_after book unreadable = book

unfoldable pub applies : RecordAnswer → Bool
applies (Answered number moved next) = true
applies (Unreadable place) = false
applies Ended = false
applies (FileRefused number) = false

unfoldable pub record_bytes : List ℕ → List ℕ → ℕ → List ℕ
record_bytes book file place =
    let after = bytes_after book (record_at file place) in
    cond (applies (record_answer book file place)) after book

-- the paper's number of the answer, and its figure: the shares moved, the byte place of a 19, else zero
unfoldable pub number_of_record : RecordAnswer → ℕ
number_of_record (Answered number moved next) = number
number_of_record (Unreadable place) = 19
number_of_record Ended = 0
number_of_record (FileRefused number) = number

unfoldable pub figure_of_record : RecordAnswer → ℤ
figure_of_record (Answered number moved next) = shares_of moved
figure_of_record (Unreadable place) = pos place
figure_of_record Ended = pos 0
figure_of_record (FileRefused number) = pos 0

-- the place of the record behind an answered one; 0, where no record begins, if nothing is to follow (the end, a 19, an 18)
unfoldable pub next_of_record : RecordAnswer → ℕ
next_of_record (Answered number moved next) = next
next_of_record (Unreadable place) = 0
next_of_record Ended = 0
next_of_record (FileRefused number) = 0

-- ── the same by what stands at the place ──

-- 18; then 19 for another version; the end; and what is there: a create is accepted, another call has its own number, and what can't be read has 19.
unfoldable pub number_at : List ℕ → Record → ℕ
number_at book (create codes) = 0
number_at book (call c) = answer_bytes book c
number_at book unreadable = 19

unfoldable pub record_number : List ℕ → List ℕ → ℕ → ℕ
record_number book file place =
    cond (file_refused book file) 18 (cond (other_version file) 19 (cond (past_end file place) 0 (number_at book (record_at file place))))

-- the figure of its call, or the place of a 19 (0 for the version)
unfoldable pub figure_at : List ℕ → ℕ → Record → ℕ
figure_at book place (create codes) = 0
figure_at book place (call c) = figure_bytes book c
figure_at book place unreadable = place

unfoldable pub record_figure : List ℕ → List ℕ → ℕ → ℕ
record_figure book file place =
    cond (file_refused book file) 0 (cond (other_version file) 0 (cond (past_end file place) 0 (figure_at book place (record_at file place))))

-- "each with a 2-byte big-endian length of what follows it": the next record stands behind it
unfoldable pub next_at : List ℕ → ℕ → Record → ℕ
next_at file place (create codes) = place + 2 + length_of (drop place file)
next_at file place (call c) = place + 2 + length_of (drop place file)
next_at file place unreadable = 0

unfoldable pub record_next : List ℕ → List ℕ → ℕ → ℕ
record_next book file place =
    cond (file_refused book file) 0 (cond (other_version file) 0 (cond (past_end file place) 0 (next_at file place (record_at file place))))
