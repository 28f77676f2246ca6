-- What a sound book answers where a wide number is lent: 2 for an account above 63, 3 for a security above 31; of a trade number above 65,535, 8 where it
-- is to be excluded, and 7 at entry, where no earlier test of the trade holds. No contract cites these; they say what the contracts come to.
use Rattle.std.specs.Prelude.{◌≡◌, refl, true, false, not, List, [], ◌∷◌, ℕ, ◌<◌, eqb, length}
use Rattle.std.proofs.Common.{◌∙◌, lt-ltb}
use Rattle.std.proofs.lemmas.Bool.{not-true, not-false}
use Rattle.laws.specs.Cases.{both_hold}
use Rattle.laws.specs.Listed.{listable, fit_each}
use Rattle.laws.specs.SoundParts.{sound_parts}
use Rattle.rules.specs.Words.{all, any, first}
use Rattle.rules.specs.Book.{list_of}
use Rattle.rules.specs.Layout.{book_length, book_of}
use Rattle.rules.specs.Sound.{sound, not_sound}
use Rattle.rules.specs.Trades.{stands, no_account, no_security, bad_accounts, bad_security, bad_quantity, bad_price, same_account}
use Rattle.rules.specs.Calls.{enter, deposit, run, exclude, tests, field_tests, holding_tests, answer_bytes}
use Rattle.rules.specs.declared.Trade.{Trade}
use Rattle.rules.specs.declared.Book.{Book}
use Rattle.wickdamson.specs.Fields.{byte_of, number_of, trade_of}
use Rattle.wickdamson.proofs.WideNumbers.{wide_number, same_account_lem, same_security}

no_account_lem : (n : ℕ) → 63 < n → no_account (byte_of n) ≡ true
unfolding no_account
no_account_lem n h = same_account_lem n ∙ lt-ltb 63 n h

no_security_lem : (n : ℕ) → 31 < n → no_security (byte_of n) ≡ true
unfolding no_security
no_security_lem n h = same_security n ∙ lt-ltb 31 n h

-- no trade of a sound list has the number 0
none_0 : (k : Book) (ts : List Trade) → all (listable k) ts ≡ true → stands 0 ts ≡ false
unfolding all any stands
none_0 k [] e = refl
none_0 k (t ∷ ts) e =
    let h = both_hold (listable k t) (all (listable k) ts) e in
    rw (not-true (eqb t.number 0) (both_hold (not (eqb t.number 0)) _ h.0).0) (none_0 k ts h.1)

is_sound : (bs : List ℕ) → not_sound bs ≡ false → sound (book_of bs) ≡ true
unfolding not_sound
is_sound bs ok = (both_hold (eqb (length bs) book_length) _ (not-false _ ok)).1

module _ (bs : List ℕ) (ok : not_sound bs ≡ false) where
  pub wide_account_refused : (a s q : ℕ) → 63 < a → answer_bytes bs (deposit (byte_of a) s q) ≡ 2
  unfolding answer_bytes first tests holding_tests
  wide_account_refused a s q h = rw (ok, no_account_lem a h)

  pub wide_security_refused : (s : ℕ) → 31 < s → answer_bytes bs (run (byte_of s)) ≡ 3
  unfolding answer_bytes first tests bad_security
  wide_security_refused s h = rw (ok, no_security_lem s h)

  pub wide_number_refused : (n : ℕ) → 65_535 < n → answer_bytes bs (exclude (number_of n)) ≡ 8
  unfolding answer_bytes first tests
  wide_number_refused n h =
      let k = book_of bs in
      rw (ok, ← wide_number n h, none_0 k (list_of k) (fit_each k (sound_parts k (is_sound bs ok)).trades))

  pub wide_entry_refused : (n b s c q p : ℕ) → 65_535 < n
      → let t = trade_of n b s c q p in
      bad_accounts t ≡ false → bad_security (book_of bs) t.security ≡ false → bad_quantity t ≡ false → bad_price t ≡ false → same_account t ≡ false
      → answer_bytes bs (enter t) ≡ 7
  unfolding answer_bytes first tests field_tests
  wide_entry_refused n b s c q p h e2 e3 e4 e5 e6 = rw (ok, e2, e3, e4, e5, e6, ← wide_number n h)
