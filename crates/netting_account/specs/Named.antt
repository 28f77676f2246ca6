-- The accounts that a list names, by a flag each. Where the flag is down no trade names the account, and an account that no trade names has
-- no net in any security.
use Rattle.std.specs.Prelude.{◌≡◌, Bool, true, false, not, List, ℕ, ◌+◌, ◌<◌, eqb, ltb, length, get_or, take, set}
use Rattle.std.proofs.Common.{sym, ap, ◌∙◌, arith, length-set, get_or-set_same, get_or-set_other, eqb-true, ltb-true}
use Rattle.std.proofs.lemmas.Bool.{eqb-false}
use Rattle.rules.specs.Words.{all}
use Rattle.rules.specs.Bounds.{accounts}
use Rattle.rules.specs.Book.{no_trade}
use Rattle.rules.specs.Sound.{is_position}
use Rattle.rules.specs.Nets.{net_of, trades_of}
use Rattle.rules.specs.declared.Trade.{Trade}
use Rattle.laws.specs.Cases.{by_test, true_false, both_hold}
use Rattle.laws.specs.Walks.{all_at, all_none, all_more}
use Rattle.laws.specs.Keeping.{keep_nothing}
use Rattle.laws.specs.NetLaws.{has_part, in_accounts, net_of_own}
use Rattle.laws.specs.QuietRoll.{no_position_lem}

-- account a has no part in any trade
abbrev pub Apart : ℕ → List Trade → Type 0
Apart a ts = all (λ t. not (has_part a t)) ts ≡ true

-- so it is with each account whose flag is down
abbrev pub Named : List Bool → List Trade → Type 0
Named flags ts = (a : ℕ) → a < 64 → get_or flags a false ≡ false → Apart a ts

-- ── such an account has no net ──

pub apart_none : (due : ℕ) (ts : List Trade) (a s : ℕ) → Apart a ts → is_position (net_of due ts a s) ≡ false
unfolding trades_of
apart_none due ts a s e =
    ap is_position (sym (net_of_own due ts a s) ∙ ap (λ (us : List Trade). net_of due us a s) (keep_nothing (has_part a) ts e)) ∙ no_position_lem due a s

-- ── the flags over the trades of a list: no trade yet, one more, all ──

-- a flag that was raised is not down
raised : (flags : List Bool) (i a : ℕ) → i < length flags → get_or (set flags i true) a false ≡ false → (eqb i a ≡ false) × (get_or flags a false ≡ false)
raised flags i a h e =
    by_test (eqb i a)
    (λ f. true_false (ap (λ (j : ℕ). get_or (set flags i true) j false) (sym (eqb-true i a f)) ∙ get_or-set_same flags i true false h) e)
    (λ f. (f, sym (get_or-set_other flags i a true false (λ q. eqb-false i a f (sym q))) ∙ e))

no_part : (a : ℕ) (t : Trade) → eqb t.buyer a ≡ false → eqb t.seller a ≡ false → not (has_part a t) ≡ true
no_part a t e f = rw (e, f)

module _ (ts : List Trade) where
  -- the first i of them
  abbrev pub NamedTo : List Bool → ℕ → Type 0
  NamedTo flags i = Named flags (take i ts)

  pub named_none : (flags : List Bool) → NamedTo flags 0
  named_none flags a h e = all_none (λ t. not (has_part a t)) ts

  module _ (i : ℕ) (h : i < length ts) where
    abbrev here : Trade
    here = get_or ts i no_trade

    pub accounts_here : all in_accounts ts ≡ true → (here.buyer < 64) × (here.seller < 64)
    accounts_here fit =
        let b = both_hold (ltb here.buyer accounts) (ltb here.seller accounts) (all_at in_accounts ts i no_trade fit h) in
        (ltb-true here.buyer accounts b.0, ltb-true here.seller accounts b.1)

    pub named_more : (flags : List Bool) → length flags ≡ 64 → here.buyer < 64 → here.seller < 64 → NamedTo flags i
        → NamedTo (set (set flags here.buyer true) here.seller true) (i + 1)
    named_more flags long hb hs m a ha e =
        let x = raised (set flags here.buyer true) here.seller a (omega (arith, length-set flags here.buyer true)) e in
        let y = raised flags here.buyer a (omega arith) x.1 in
        all_more (λ t. not (has_part a t)) ts i no_trade h (m a ha y.1) (no_part a here y.0 x.0)
