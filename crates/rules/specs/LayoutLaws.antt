-- The layout is a bijection: every list of 42,278 bytes is the form of one book, and a book whose values fit is read back.
use Rattle.std.specs.Prelude.{◌≡◌, List, [], ℕ, length}
use Rattle.std.proofs.Common.{sym, ap, ◌∙◌, append-nil, arith, take_all}
use Rattle.fields.specs.Field.{Bytes}
use Rattle.rules.specs.Layout.{book, book_length, book_of, bytes_of}
use Rattle.rules.specs.declared.Book.{Book}

pub bytes_book : (bs : List ℕ) → Bytes bs → length bs ≡ book_length → bytes_of (book_of bs) ≡ bs
unfolding book_of bytes_of
bytes_book bs h e = book.forth bs h (omega arith) ∙ take_all book_length bs (omega arith)

pub book_bytes : (k : Book) → book.Ok k → book_of (bytes_of k) ≡ k
unfolding book_of bytes_of
book_bytes k h = ap book.read (sym (append-nil (book.write k))) ∙ book.back k [] h

-- what is read fits, and what fits is written in so many bytes
pub book_fits : (bs : List ℕ) → Bytes bs → length bs ≡ book_length → book.Ok (book_of bs)
unfolding book_of
book_fits bs h e = book.fine bs h (omega arith)

pub bytes_long : (k : Book) → book.Ok k → length (bytes_of k) ≡ book_length
unfolding bytes_of
bytes_long k h = book.long k h
