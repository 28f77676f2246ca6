-- Bytes that are a sound book: their length and their tables; and a call on them, by the ways that its code takes: a refusal, acceptance.
use Rattle.std.specs.Prelude.{◌≡◌, true, false, List, ℕ, eqb, length}
use Rattle.std.proofs.Math.Path.{sym}
use Rattle.std.proofs.Common.{◌∙◌, eq-eqb, ne_eqb, eqb-true}
use Rattle.std.proofs.lemmas.Bool.{not-false}
use Rattle.fields.specs.Codec.{number, read_long}
use Rattle.rules.specs.Words.{first}
use Rattle.rules.specs.Layout.{amount, position, trade, book_length, book_of, bytes_of}
use Rattle.rules.specs.Sound.{sound, not_sound}
use Rattle.rules.specs.Calls.{Call, tests, answer_sound, after, answer_bytes, after_bytes}
use Rattle.laws.specs.Cases.{both_hold, cond_yes, cond_no}
use Rattle.laws.specs.Shaped.{Shaped}

-- the tables of a book that was read have their lengths, whatever the bytes
pub shaped : (bs : List ℕ) → Shaped (book_of bs)
unfolding book_of
shaped bs =
    record {
      currency = read_long (number 1) 32 _;
      positions = read_long position 1_024 _;
      holdings = read_long (number 8) 2_048 _;
      charges = read_long amount 256 _;
      trades = read_long trade 256 _;
    }

module _ (bs : List ℕ) (fine : not_sound bs ≡ false) where
  parts : (eqb (length bs) book_length ≡ true) × (sound (book_of bs) ≡ true)
  unfolding not_sound
  parts = both_hold (eqb (length bs) book_length) (sound (book_of bs)) (not-false _ fine)

  pub long : length bs ≡ book_length
  long = eqb-true (length bs) book_length parts.0

  pub is_sound : sound (book_of bs) ≡ true
  is_sound = parts.1

  module _ (c : Call) where
    answer_is : answer_bytes bs c ≡ answer_sound (book_of bs) c
    unfolding answer_bytes answer_sound first
    answer_is = cond_no 1 (first (tests (book_of bs) c)) fine

    pub refused : (n : ℕ) → n ≡ answer_sound (book_of bs) c → (n ≡ 0 → ⊥) → (n ≡ answer_bytes bs c) × (bs ≡ after_bytes bs c)
    unfolding after_bytes
    refused n e z =
        let f = e ∙ sym answer_is in
        (f, sym (cond_no (bytes_of (after (book_of bs) c)) bs (ne_eqb (answer_bytes bs c) 0 (λ g. z (f ∙ g)))))

    pub accepted : (new : List ℕ) → 0 ≡ answer_sound (book_of bs) c → new ≡ bytes_of (after (book_of bs) c) → (0 ≡ answer_bytes bs c) × (new ≡ after_bytes bs c)
    unfolding after_bytes
    accepted new e f =
        let g = e ∙ sym answer_is in
        (g, f ∙ sym (cond_yes (bytes_of (after (book_of bs) c)) bs (eq-eqb (answer_bytes bs c) 0 (sym g))))
