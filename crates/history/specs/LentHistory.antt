-- Calls over lent bytes, one after another, are the history of the definitions: the bytes are those of its book, and the answers and figures are its own.
use Rattle.std.specs.Prelude.{◌≡◌, refl, cond, List, [], ◌∷◌, ℕ, length}
use Rattle.std.proofs.Common.{sym, ap, ◌∙◌}
use borrow.Author.Tests.{eq-eqb}
use Rattle.rules.specs.Layout.{book, book_length, bytes_of}
use Rattle.rules.specs.LayoutLaws.{book_bytes, bytes_long}
use Rattle.rules.specs.Sound.{not_sound}
use Rattle.rules.specs.Calls.{Call, roll, figure, answer, answer_bytes, after_bytes, figure_bytes}
use Rattle.rules.specs.CallFile.{left}
use Rattle.rules.specs.declared.Book.{Book}
use Rattle.laws.specs.Cases.{by_test}
use Rattle.history.specs.Histories.{accepted, made, log_of, SameRoll}
use Rattle.history.specs.Lent.{made_bytes, log_bytes, AllFit}
use Rattle.history.specs.Steps.{Good, left_yes, left_good}
use Rattle.history.specs.SoundFits.{left_fits}

-- ── one call on the bytes of a book ──

module _ (k : Book) (ok : book.Ok k) (c : Call) where
  pub answer_bytes_lem : answer_bytes (bytes_of k) c ≡ answer k c
  unfolding answer_bytes not_sound answer
  answer_bytes_lem = rw (book_bytes k ok, eq-eqb (length (bytes_of k)) book_length (bytes_long k ok))

  pub figure_bytes_lem : figure_bytes (bytes_of k) c ≡ cond (accepted k c) (figure k c) 0
  unfolding figure_bytes
  figure_bytes_lem = rw (answer_bytes_lem, book_bytes k ok)

  after_bytes_lem : after_bytes (bytes_of k) c ≡ bytes_of (left k c)
  unfolding after_bytes left
  after_bytes_lem = rw (answer_bytes_lem, book_bytes k ok) (by_test (accepted k c) (λ y. rw y) (λ n. rw n))

-- ── one after another ──

pub made_bytes_lem : (k : Book) (cs : List Call) → Good k → book.Ok k → AllFit cs → made_bytes (bytes_of k) cs ≡ bytes_of (made k cs)
unfolding made_bytes made AllFit
made_bytes_lem k [] g ok f = refl
made_bytes_lem k (c ∷ cs) g ok f =
    ap (λ (bs : List ℕ). made_bytes bs cs) (after_bytes_lem k ok c) ∙ made_bytes_lem (left k c) cs (left_good k g c) (left_fits k g ok c f.0) f.1

pub made_fits : (k : Book) (cs : List Call) → Good k → book.Ok k → AllFit cs → book.Ok (made k cs)
unfolding made AllFit
made_fits k [] g ok f = ok
made_fits k (c ∷ cs) g ok f = made_fits (left k c) cs (left_good k g c) (left_fits k g ok c f.0) f.1

-- their log, too
pub log_bytes_lem : (k : Book) (cs : List Call) → Good k → book.Ok k → AllFit cs → log_bytes (bytes_of k) cs ≡ log_of k cs
unfolding log_bytes log_of AllFit
log_bytes_lem k [] g ok f = refl
log_bytes_lem k (c ∷ cs) g ok f =
    rw (answer_bytes_lem k ok c, after_bytes_lem k ok c)
    (ap (λ (rest : List Call). cond (accepted k c) (c ∷ rest) rest) (log_bytes_lem (left k c) cs (left_good k g c) (left_fits k g ok c f.0) f.1))

-- ── a roll on two books that it leaves the same ──

pub roll_bytes : (k j : Book) → book.Ok k → book.Ok j → SameRoll k j → answer_bytes (bytes_of k) roll ≡ 0
    → (answer_bytes (bytes_of j) roll ≡ 0) × (after_bytes (bytes_of k) roll ≡ after_bytes (bytes_of j) roll)
roll_bytes k j ok fine same e =
    let y : answer k roll ≡ 0 = sym (answer_bytes_lem k ok roll) ∙ e in
    let z : answer j roll ≡ 0 = sym same.0 ∙ y in
    let after-k = after_bytes_lem k ok roll ∙ ap bytes_of (left_yes k roll (eq-eqb (answer k roll) 0 y)) in
    let after-j = after_bytes_lem j fine roll ∙ ap bytes_of (left_yes j roll (eq-eqb (answer j roll) 0 z)) in
    (answer_bytes_lem j fine roll ∙ z, after-k ∙ ap bytes_of same.1 ∙ sym after-j)
