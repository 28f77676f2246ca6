-- A run leaves a sound book sound, and its tables as long as they were; so does an accepted call of a run.
use Rattle.std.specs.Prelude.{◌≡◌, refl, true, false, ◌||◌, ℕ, ◌-◌, ◌<◌, ltb}
use Rattle.std.proofs.Common.{sym, ◌∙◌, subst, arith, ltb-false}
use mathlib.Core.List.{List}
use Rattle.std.proofs.Math.ListN.{length, replicate, length-append, length-replicate}
use Rattle.rules.specs.Bounds.{securities, last_security, most_records}
use Rattle.rules.specs.Book.{list_of, currency_of, unlisted, no_position, with_open, with_holdings, with_charges}
use Rattle.rules.specs.Sound.{day_fits, codes_fit, valid_trade, trades_fit, sound}
use Rattle.rules.specs.Trades.{no_security, bad_security}
use Rattle.rules.specs.Run.{settled}
use Rattle.rules.specs.Calls.{run, tests, after, answer_sound}
use Rattle.rules.specs.declared.Position.{Position}
use Rattle.rules.specs.declared.Book.{Book}
use Rattle.laws.specs.Cases.{neither}
use Rattle.laws.specs.Accepted.{passed}
use Rattle.laws.specs.SoundParts.{SoundBook, sound_parts, parts_sound}
use Rattle.laws.specs.Shaped.{Shaped}
use Rattle.laws.specs.Walk.{Walking, walked}
use Rattle.laws.specs.RunLeaves.{closed, settled_is, end_steady}
use Rattle.laws.specs.RunShares.{run_balances}
use Rattle.laws.specs.RunHoldings.{run_holdings, run_listed}
use Rattle.laws.specs.RunMoney.{run_money}
use Rattle.laws.specs.RunRecords.{left, left_few, run_records, run_sizes, run_due_days, run_due_nonzero}
use Rattle.laws.specs.RunSigns.{run_signs}

-- what reads only day, currencies and the list is as before
run_day : (b : Book) (s : ℕ) → day_fits (settled b s) ≡ day_fits b
unfolding settled with_open with_holdings with_charges day_fits
run_day b s = refl

run_codes : (b : Book) (s : ℕ) → codes_fit (settled b s) ≡ codes_fit b
unfolding settled with_open with_holdings with_charges codes_fit
run_codes b s = refl

run_trades : (b : Book) (s : ℕ) → trades_fit (settled b s) ≡ trades_fit b
unfolding settled with_open with_holdings with_charges trades_fit list_of valid_trade bad_security unlisted currency_of
run_trades b s = refl

module _ (b : Book) (s : ℕ) (hs : s < 32) (ok : sound b ≡ true) (shape : Shaped b) where
  abbrev x₁ : Walking
  x₁ = walked b s

  -- the lengths of the tables
  closed_shaped : Shaped (closed b x₁)
  unfolding with_open with_holdings with_charges
  closed_shaped =
      let ps : List Position = left b s in
      let blanks : List Position = replicate (most_records - length ps) no_position in
      let few = left_few b s hs ok shape in
      let c = end_steady b s hs ok shape in
      record {
        currency = shape.currency;
        positions = omega (arith, length-append ps blanks, length-replicate (most_records - length ps) no_position);
        holdings = c.wide ∙ shape.holdings;
        charges = c.charges ∙ shape.charges;
        trades = shape.trades;
      }

  pub run_shaped : Shaped (settled b s)
  run_shaped = subst Shaped (sym (settled_is b s hs ok shape)) closed_shaped

  module _ (listed : unlisted b s ≡ false) where
    run_parts : SoundBook (settled b s)
    unfolding settled with_open with_holdings with_charges
    run_parts =
        let c = sound_parts b ok in
        record {
          day = run_day b s ∙ c.day;
          codes = run_codes b s ∙ c.codes;
          records = run_records b s hs ok shape;
          sizes = run_sizes b s hs ok shape;
          due_days = run_due_days b s hs ok shape;
          due_nonzero_lem = run_due_nonzero b s hs ok shape;
          signs = run_signs b s hs ok shape;
          balances = run_balances b s hs ok shape;
          holdings = run_holdings b s hs ok shape;
          listed = run_listed b s hs ok shape listed;
          money = run_money b s hs ok shape listed;
          trades = run_trades b s ∙ c.trades;
        }

    pub run_sound : sound (settled b s) ≡ true
    run_sound = parts_sound (settled b s) run_parts

-- ── the call ──

-- an accepted run is of a listed security
pub may_run : (k : Book) (s : ℕ) → answer_sound k (run s) ≡ 0 → (s < securities) × (unlisted k s ≡ false)
unfolding answer_sound tests bad_security no_security
may_run k s e =
    let p = passed (ltb last_security s || unlisted k s) 2 _ e in
    let u = neither (ltb last_security s) (unlisted k s) p.0 in
    (omega (arith, ltb-false last_security s u.0), u.1)

pub call_run_sound : (k : Book) (s : ℕ) → sound k ≡ true → Shaped k → answer_sound k (run s) ≡ 0 → sound (after k (run s)) ≡ true
unfolding after
call_run_sound k s ok shape e = let m = may_run k s e in run_sound k s m.0 ok shape m.1

pub call_run_shaped : (k : Book) (s : ℕ) → sound k ≡ true → Shaped k → answer_sound k (run s) ≡ 0 → Shaped (after k (run s))
unfolding after
call_run_shaped k s ok shape e = run_shaped k s (may_run k s e).0 ok shape
