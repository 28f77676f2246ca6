-- Creation leaves a sound book: the empty book with any table of currency codes.
use Rattle.std.specs.Prelude.{◌≡◌, true, not, ◌&&◌, List, [], ◌∷◌, ℕ, zero, suc, ◌*◌, length, replicate, pos}
use Rattle.std.proofs.Math.Path.{refl}
use Rattle.std.proofs.Math.Bool.{or-true}
use Rattle.std.proofs.Math.Dec.{eqb, leb}
use Rattle.std.proofs.Math.ListN.{length-replicate}
use Rattle.units.specs.Units.{mils}
use Rattle.rules.specs.Words.{all, keep, total, from}
use Rattle.rules.specs.Bounds.{accounts, securities, currencies, every_security, every_currency, no_currency, most_records, most_trades, most_held}
use Rattle.rules.specs.Book.{is_zero, no_position, no_trade, open_of, list_of, empty_book}
use Rattle.rules.specs.Sound.{is_code, day_fits, codes_fit, ascends, is_blank, records_fit, one_sign, balanced, due_balanced, by_account, added, totals, totals_held, holdings_fit, holds_listed, unlisted_empty, records_of, open_money, money_fits_of, money_fits_from, money_fits, distinct, zero_fields, trades_fit, sound}
use Rattle.laws.specs.Cases.{and_hold}
use Rattle.laws.specs.Tables.{all_same}
use Rattle.laws.specs.SoundParts.{parts_sound}
use Rattle.laws.specs.Shaped.{Shaped}

-- no holdings, account by account, and their totals
nothing_held : by_account {A = ℕ} securities accounts (replicate (accounts * securities) 0) ≡ replicate accounts (replicate securities 0)
unfolding by_account
nothing_held = refl

pub nothing_total : totals_held (replicate (accounts * securities) 0) ≡ replicate securities 0
unfolding totals_held totals by_account added
nothing_total = refl

none_listed : (cs : List ℕ) (n : ℕ) → holds_listed cs (replicate n 0) ≡ true
unfolding holds_listed
none_listed [] n = refl
none_listed (c ∷ cs) zero = refl
none_listed (c ∷ cs) (suc n) = and_hold (or-true (not (eqb c no_currency))) (none_listed cs n)

module _ (codes : List ℕ) where
  no_records : records_fit (empty_book codes) ≡ true
  unfolding records_fit empty_book open_of ascends is_blank is_zero
  no_records = all_same is_blank most_records no_position refl

  no_sums : due_balanced (empty_book codes) ≡ true
  unfolding due_balanced balanced empty_book open_of keep all every_security from is_zero
  no_sums = refl

  no_holdings : holdings_fit (empty_book codes) ≡ true
  unfolding holdings_fit empty_book
  no_holdings =
      and_hold (all_same (λ h. leb h most_held) (accounts * securities) 0 refl) (rw nothing_total (all_same (λ t. leb t most_held) securities 0 refl))

  no_unlisted : unlisted_empty (empty_book codes) ≡ true
  unfolding unlisted_empty empty_book open_of all
  no_unlisted = rw nothing_held (all_same (holds_listed codes) accounts (replicate securities 0) (none_listed codes securities))

  no_money : money_fits (empty_book codes) ≡ true
  unfolding money_fits money_fits_from money_fits_of open_money records_of by_account empty_book open_of keep all total every_currency from
  no_money = refl

  no_trades : trades_fit (empty_book codes) ≡ true
  unfolding trades_fit empty_book list_of distinct all zero_fields
  no_trades = all_same (λ t. eqb t.number 0 && zero_fields t) most_trades no_trade refl

  pub empty_sound : all is_code codes ≡ true → sound (empty_book codes) ≡ true
  unfolding empty_book day_fits codes_fit open_of all keep one_sign
  empty_sound e =
      parts_sound (empty_book codes)
      record {
        day = refl;
        codes = e;
        records = no_records;
        sizes = refl;
        due_days = refl;
        due_nonzero_lem = refl;
        signs = refl;
        balances = no_sums;
        holdings = no_holdings;
        listed = no_unlisted;
        money = no_money;
        trades = no_trades;
      }

  pub empty_shaped : length codes ≡ securities → Shaped (empty_book codes)
  unfolding empty_book
  empty_shaped e =
      record {
        currency = e;
        positions = length-replicate most_records no_position;
        holdings = length-replicate {A = ℕ} (accounts * securities) 0;
        charges = length-replicate (accounts * currencies) (mils (pos 0));
        trades = length-replicate most_trades no_trade;
      }
