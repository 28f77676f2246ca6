-- An accepted day roll leaves a sound book, and one whose tables have their lengths.
use Rattle.std.specs.Prelude.{◌≡◌, true, false, ◌&&◌, ◌+◌, ◌-◌, replicate}
use Rattle.std.proofs.Math.Path.{refl}
use Rattle.std.proofs.Common.{◌∙◌}
use Rattle.std.proofs.Math.Bool.{not}
use native.Mathlib.Omega.{arith}
use Rattle.std.proofs.Math.Dec.{eqb}
use Rattle.std.proofs.Math.ListN.{length, length-append, length-replicate}
use borrow.Author.Tests.{leb-true, le-leb, eqb-false}
use Rattle.rules.specs.Words.{all, keep}
use Rattle.rules.specs.Bounds.{accounts, securities, last_day, most_records, most_trades}
use Rattle.rules.specs.Book.{security_of, no_position, no_trade, open_of, list_of, with_open, with_list, with_charges, with_day, currency_of, unlisted}
use Rattle.rules.specs.Sound.{day_fits, codes_fit, due_fits, is_due, due_nonzero, one_sign, due_balanced, by_account, holdings_fit, holds_listed, unlisted_empty, distinct, zero_fields, trades_fit, sound}
use Rattle.rules.specs.Roll.{uncharged, netted, emptied, next_day, offset, rolled}
use Rattle.rules.specs.Calls.{roll, after, answer_sound}
use Rattle.rules.specs.declared.Book.{Book}
use Rattle.laws.specs.Cases.{both_hold, and_hold}
use Rattle.laws.specs.Tables.{all_same}
use Rattle.laws.specs.SoundParts.{SoundBook, sound_parts, parts_sound}
use Rattle.laws.specs.Shaped.{Shaped}
use Rattle.laws.specs.OffsetKept.{Ready, met_of, left_of, charges_long, done, left_few, kept_records, kept_due_days, kept_nonzero, kept_listed, kept_sizes, kept_signs, kept_balances}
use Rattle.laws.specs.StakeKept.{kept_money}
use Rattle.laws.specs.Rolling.{rolling, rolling_day, rolling_codes, rolling_ready, may_roll}

-- ── what offsetting does not touch ──

module _ (b : Book) where
  offset_day : (offset b).day ≡ b.day
  unfolding offset with_charges with_open
  offset_day = refl

  same_codes : codes_fit b ≡ true → codes_fit (offset b) ≡ true
  unfolding offset with_charges with_open codes_fit
  same_codes e = e

  same_holdings : holdings_fit b ≡ true → holdings_fit (offset b) ≡ true
  unfolding offset with_charges with_open holdings_fit
  same_holdings e = e

  same_listed : Ready b → all (holds_listed b.currency) (by_account securities accounts b.holdings) ≡ true → unlisted_empty (offset b) ≡ true
  unfolding offset with_charges with_open unlisted_empty unlisted currency_of
  same_listed r e = and_hold (kept_listed b r) e

  -- clauses by the day, which stays
  day_due : Ready b → all (due_fits (offset b).day) (open_of (offset b)) ≡ true
  unfolding offset with_charges with_open
  day_due r = kept_due_days b r

  day_nonzero : Ready b → all (due_nonzero (offset b).day) (open_of (offset b)) ≡ true
  unfolding offset with_charges with_open
  day_nonzero r = kept_nonzero b r

  day_signs : Ready b → one_sign (keep (is_due (offset b).day) (open_of (offset b))) ≡ true
  unfolding offset with_charges with_open
  day_signs r = kept_signs b r

  day_balances : Ready b → due_balanced (offset b) ≡ true
  unfolding offset with_charges with_open due_balanced
  day_balances r = kept_balances b r

-- ── what the roll does to the day, the holdings and the list ──

module _ (k : Book) where
  rolling_holdings : holdings_fit k ≡ true → holdings_fit (rolling k) ≡ true
  unfolding rolling next_day emptied netted uncharged with_day with_list with_open with_charges holdings_fit
  rolling_holdings e = e

  rolling_empty : unlisted_empty k ≡ true → all (holds_listed (rolling k).currency) (by_account securities accounts (rolling k).holdings) ≡ true
  unfolding rolling next_day emptied netted uncharged with_day with_list with_open with_charges unlisted_empty
  rolling_empty e = (both_hold (all (λ p. not (unlisted k (security_of p))) (open_of k)) _ e).1

  -- the list is empty
  rolled_trades : trades_fit (offset (rolling k)) ≡ true
  unfolding rolling next_day emptied netted uncharged offset with_day with_list with_open with_charges trades_fit list_of distinct all zero_fields
  rolled_trades = all_same (λ t. eqb t.number 0 && zero_fields t) most_trades no_trade refl

  -- and the day is one of the days
  rolled_day : day_fits k ≡ true → eqb k.day last_day ≡ false → day_fits (offset (rolling k)) ≡ true
  unfolding day_fits
  rolled_day e n =
      rw (offset_day (rolling k), rolling_day k)
      (le-leb (k.day + 1) last_day (omega (arith, leb-true k.day last_day e, eqb-false k.day last_day n)))

-- ── the roll ──

module _ (k : Book) (ok : sound k ≡ true) (s : Shaped k) (e : answer_sound k roll ≡ 0) where
  abbrev b : Book
  b = rolling k

  ready : Ready b
  ready = rolling_ready k (sound_parts k ok) s (may_roll k e).0

  clauses : SoundBook (offset b)
  clauses =
      let c = sound_parts k ok in
      record {
        day = rolled_day k c.day (may_roll k e).1;
        codes = same_codes b (rolling_codes k c);
        records = kept_records b ready;
        sizes = kept_sizes b ready;
        due_days = day_due b ready;
        due_nonzero_lem = day_nonzero b ready;
        signs = day_signs b ready;
        balances = day_balances b ready;
        holdings = same_holdings b (rolling_holdings k c.holdings);
        listed = same_listed b ready (rolling_empty k c.listed);
        money = kept_money b ready;
        trades = rolled_trades k;
      }

  pub rolled_sound : sound (rolled k) ≡ true
  unfolding rolled rolling
  rolled_sound = parts_sound (offset b) clauses

  pub rolled_shaped : Shaped (rolled k)
  unfolding rolled rolling offset next_day emptied netted uncharged with_day with_list with_open with_charges met_of left_of
  rolled_shaped =
      record {
        currency = s.currency;
        positions =
            omega (
              arith,
              left_few b ready,
              length-append (left_of b) (replicate (most_records - length (left_of b)) no_position),
              length-replicate (most_records - length (left_of b)) no_position,
            );
        holdings = s.holdings;
        charges = (done b ready).long ∙ charges_long b ready;
        trades = length-replicate most_trades no_trade;
      }

  -- as a call
  pub roll_kept : sound (after k roll) ≡ true
  unfolding after
  roll_kept = rolled_sound

  pub roll_shaped : Shaped (after k roll)
  unfolding after
  roll_shaped = rolled_shaped
