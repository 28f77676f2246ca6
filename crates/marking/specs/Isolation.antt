-- "The answer for an account is the same for any two sound books with the same currency table that agree on this account's records, given
-- equal tables and rates."
use Rattle.std.specs.Prelude.{◌≡◌, false, List, ℕ}
use Rattle.std.proofs.Common.{sym, ◌∙◌}
use Rattle.rules.specs.Book.{currency_of}
use Rattle.rules.specs.Layout.{book_of}
use Rattle.rules.specs.Sound.{not_sound}
use Rattle.rules.specs.Marks.{Terms, marked_of, sum_of, favourable_total, unfavourable_total, due_and_sums, passes_limit, marks}
use Rattle.rules.specs.declared.Book.{Book}
use Rattle.marking.specs.SoundMarks.{book_tests, number_sound, marks_sound, marks_sound_lem}

-- ── of two books ──

module _ (k m : Book) (a : ℕ) (t : Terms) (codes : k.currency ≡ m.currency) (records : marked_of k a ≡ marked_of m a) where
  pub isolated : marks_sound k a t ≡ marks_sound m a t
  unfolding marks_sound number_sound book_tests passes_limit due_and_sums favourable_total unfavourable_total sum_of currency_of
  isolated = rw (records, codes)

-- ── of the bytes that are lent ──

-- Two sound books in bytes, the same currency table in both, and the same records of the account: the answers are equal. No other byte counts:
-- not the day, no other account's records, no holding, no charge, no trade.
pub isolation : (bs cs : List ℕ) (a : ℕ) (t : Terms) → not_sound bs ≡ false → not_sound cs ≡ false
    → (book_of bs).currency ≡ (book_of cs).currency → marked_of (book_of bs) a ≡ marked_of (book_of cs) a → marks bs a t ≡ marks cs a t
isolation bs cs a t s r codes records =
    marks_sound_lem bs a t s ∙ isolated (book_of bs) (book_of cs) a t codes records ∙ sym (marks_sound_lem cs a t r)
