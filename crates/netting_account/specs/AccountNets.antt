-- An account's nets, a row for each security, in one walk over the list: a trade in which the account has a part is added to the row of its
-- security.
use Rattle.std.specs.Prelude.{◌≡◌, true, false, List, ℕ, ◌+◌, ◌<◌, ◌≤◌, eqb, length, get_or, take, drop, set}
use Rattle.std.proofs.Common.{sym, ap, ◌∙◌, arith, length-take, take-append-drop, get_or-set_same, get_or-set_other, eqb-true, ltb-true}
use Rattle.std.proofs.lemmas.Bool.{eqb-false}
use Rattle.units.specs.Units.{most_mils}
use Rattle.rules.specs.Words.{all}
use Rattle.rules.specs.Bounds.{securities, most_trades}
use Rattle.rules.specs.Book.{no_position, no_trade}
use Rattle.rules.specs.Nets.{net_of}
use Rattle.rules.specs.declared.Position.{Position}
use Rattle.rules.specs.declared.Trade.{Trade}
use Rattle.laws.specs.Cases.{by_test}
use Rattle.laws.specs.All.{all_left}
use Rattle.laws.specs.Walks.{all_at}
use Rattle.laws.specs.NetLaws.{has_part, in_limits, shares_size, money_size}
use Rattle.laws.specs.Listed.{in_securities}
use Rattle.netting_account.specs.OneTrade.{with_trade, Within, net_in, net_out, net_others}

-- the rows before security j; all 32
abbrev pub NetsBefore : ℕ → List Trade → ℕ → List Position → ℕ → Type 0
NetsBefore due ts a rows j = (s : ℕ) → s < j → get_or rows s no_position ≡ net_of due ts a s

abbrev pub Nets : ℕ → List Trade → ℕ → List Position → Type 0
Nets due ts a rows = NetsBefore due ts a rows securities

-- ── over the trades of a list: no trade yet, one more, all ──

module _ (due : ℕ) (ts : List Trade) (a : ℕ) where
  -- the nets of the first i of them
  abbrev pub NetsTo : List Position → ℕ → Type 0
  NetsTo rows i = Nets due (take i ts) a rows

  module _ (i : ℕ) (h : i < length ts) where
    abbrev here : Trade
    here = get_or ts i no_trade

    pub limits_here : all in_limits ts ≡ true → in_limits here ≡ true
    limits_here fit = all_at in_limits ts i no_trade fit h

    pub security_here : all in_securities ts ≡ true → here.security < 32
    security_here fit = ltb-true here.security securities (all_at in_securities ts i no_trade fit h)

    module _ (rows : List Position) (m : NetsTo rows i) where
      -- a trade in which the account has no part
      pub nets_same : has_part a here ≡ false → NetsTo rows (i + 1)
      nets_same e s k = m s k ∙ sym (net_others due ts a s i h e)

      module _ (k : here.security < 32) where
        abbrev row : Position
        row = get_or rows here.security no_position

        pub row_within : length ts ≤ most_trades → all in_limits ts ≡ true → Within most_mils row
        row_within few fit =
            let us = take i ts in
            let fewer : length us ≤ most_trades = omega (arith, length-take i ts) in
            let each-fit : all in_limits us ≡ true = all_left in_limits us (drop i ts) (ap (all in_limits) (take-append-drop i ts) ∙ fit) in
            rw (m here.security k) (omega (arith, shares_size due us fewer each-fit a here.security), money_size due us fewer each-fit a here.security)

        -- and one in which it has
        pub nets_more : (p : Position) → length rows ≡ 32 → p ≡ with_trade a row here → NetsTo (set rows here.security p) (i + 1)
        nets_more p long e s b =
            by_test (eqb here.security s)
            (λ f. let same : here.security ≡ s = eqb-true here.security s f in
            ap (λ (j : ℕ). get_or (set rows here.security p) j no_position) (sym same)
            ∙ get_or-set_same rows here.security p no_position (omega arith)
            ∙ e
            ∙ ap (λ (q : Position). with_trade a q here) (ap (λ (j : ℕ). get_or rows j no_position) same ∙ m s b)
            ∙ sym (net_in due ts a s i h f))
            (λ f. get_or-set_other rows here.security s p no_position (λ q. eqb-false here.security s f (sym q))
            ∙ m s b
            ∙ sym (net_out due ts a s i h f))
