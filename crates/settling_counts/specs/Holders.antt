-- What the accounts still hold of one security, in a table with an entry for each account, while it is counted what can be given: the table
-- agrees with all holdings, of which the count speaks (Counting), at this security.
use Rattle.std.specs.Prelude.{◌≡◌, refl, Bool, true, List, [], ◌∷◌, ℕ, ◌+◌, ◌*◌, ◌-◌, min, ◌<◌, ◌≤◌, eqb, length, get_or, set}
use Rattle.std.proofs.Math.Path.{sym}
use Rattle.std.proofs.Common.{ap, ◌∙◌, subst, arith, length-set, get_or-set_same, eq-eqb, eqb-true}
use Rattle.std.proofs.Math.Decide.{ℕ_discrete}
use Rattle.std.proofs.Math.Seq.{get_or-set_other}
use Rattle.units.specs.Units.{most_shares}
use Rattle.rules.specs.Words.{all, total}
use Rattle.rules.specs.Bounds.{most_records, accounts, securities}
use Rattle.rules.specs.Book.{quantity_of, account_of, no_position, holding_at}
use Rattle.rules.specs.Sound.{sound}
use Rattle.rules.specs.Run.{short_of, due_in, givers_of, givers, deliverable}
use Rattle.rules.specs.declared.Position.{Position}
use Rattle.rules.specs.declared.Book.{Book}
use Rattle.laws.specs.Deliveries.{held}
use Rattle.laws.specs.Numbers.{account_below}
use Rattle.laws.specs.Walk.{owes}
use Rattle.laws.specs.Walks.{all_at}
use Rattle.settling_counts.specs.Counting.{Giving, giving_start, giving_none, giving_more, giving_fits, giving_end}

-- ── the table: the first n accounts have what they hold ──

pub record Holders (n : ℕ) (hs : List ℕ) (s : ℕ) (held : List ℕ) : Type 0 where
  pub long : length held ≡ accounts
  pub each : (a : ℕ) → a < n → get_or held a 0 ≡ get_or hs (holding_at a s) 0

-- one entry is altered, here and there
module _ (hs : List ℕ) (s : ℕ) (held : List ℕ) (n v : ℕ) (long : length hs ≡ accounts * securities) (hs-below : s < securities) (h : n < accounts) (t : Holders accounts hs s held) where
  set_each : (a : ℕ) → a < accounts → Dec (a ≡ n) → get_or (set held n v) a 0 ≡ get_or (set hs (holding_at n s) v) (holding_at a s) 0
  unfolding holding_at
  set_each a k (yes f) = rw f (get_or-set_same held n v 0 (omega (arith, t.long)) ∙ sym (get_or-set_same hs (holding_at n s) v 0 (omega arith)))
  set_each a k (no f) = get_or-set_other held n a v 0 f ∙ t.each a k ∙ sym (get_or-set_other hs (holding_at n s) (holding_at a s) v 0 (λ g. f (omega arith)))

  holders_set : Holders accounts (set hs (holding_at n s) v) s (set held n v)
  holders_set = record { long = simp length-set t.long; each = λ a k. set_each a k (ℕ_discrete a n) }

-- ── nothing is held: nothing can be given, whoever owes ──

abbrev pub is_none : ℕ → Bool
is_none h = eqb h 0

none_given : (s : ℕ) (ps : List Position) (hs : List ℕ) → ((a : ℕ) → a < accounts → get_or hs (holding_at a s) 0 ≡ 0) → held (givers_of s ps hs) ≡ 0
unfolding givers_of total
none_given s [] hs z = refl
none_given s (p ∷ ps) hs z =
    let k : ℕ = min (short_of (quantity_of p)) (get_or hs (holding_at (account_of p) s) 0) in
    let none : k ≡ 0 = omega (arith, z (account_of p) (account_below p)) in
    rw (eq-eqb k 0 none) (none_given s ps hs z)

pub none_deliverable : (b : Book) (s : ℕ) (table : List ℕ) → Holders accounts b.holdings s table → all is_none table ≡ true → deliverable b s ≡ 0
unfolding deliverable givers
none_deliverable b s table t none =
    none_given s (due_in b s) b.holdings (λ a h. sym (t.each a h) ∙ eqb-true (get_or table a 0) 0 (all_at is_none table a 0 none (omega (arith, t.long))))

-- ── the count: the sum and what the records from i on give, from what is still held, make the whole ──

pub record Given (b : Book) (s : ℕ) (held : List ℕ) (sum i : ℕ) : Type 0 where
  pub hs : List ℕ
  pub long : length hs ≡ accounts * securities
  pub holders : Holders accounts hs s held
  pub giving : Giving b s hs sum i

module _ (b : Book) (s : ℕ) (ok : sound b ≡ true) (below : s < securities) (long : length b.positions ≡ most_records) where
  pub given_start : (held : List ℕ) → length b.holdings ≡ accounts * securities → Holders accounts b.holdings s held → Given b s held 0 0
  given_start held l t = record { hs = b.holdings; long = l; holders = t; giving = giving_start b s ok long }

  module _ (held : List ℕ) (sum i : ℕ) (hi : i < b.records) (c : Given b s held sum i) where
    -- a record that owes nothing is passed over
    pub given_none : owes b.day s (get_or b.positions i no_position) ≡ 0 → Given b s held sum (i + 1)
    given_none z = record { hs = c.hs; long = c.long; holders = c.holders; giving = giving_none b s ok long c.hs sum i hi c.giving z }

    -- of one that owes something, its account has less
    module _ (a k : ℕ) (ha : a < accounts) (ea : a ≡ account_of (get_or b.positions i no_position)) (ek : k ≡ min (owes b.day s (get_or b.positions i no_position)) (get_or held a 0)) where
      place : holding_at a s ≡ holding_at (account_of (get_or b.positions i no_position)) s
      place = ap (λ (n : ℕ). holding_at n s) ea

      size : k ≡ min (owes b.day s (get_or b.positions i no_position)) (get_or c.hs (holding_at a s) 0)
      size = ek ∙ ap (λ (h : ℕ). min (owes b.day s (get_or b.positions i no_position)) h) (c.holders.each a ha)

      pub given_more : Given b s (set held a (get_or held a 0 - k)) (sum + k) (i + 1)
      given_more =
          let v : ℕ = get_or held a 0 - k in
          let e : get_or c.hs (holding_at a s) 0 - k ≡ v = ap (λ (h : ℕ). h - k) (sym (c.holders.each a ha)) in
          record {
            hs = set c.hs (holding_at a s) v;
            long = simp length-set c.long;
            holders = holders_set c.hs s held a v c.long below ha c.holders;
            giving = subst (λ (w : ℕ). Giving b s (set c.hs (holding_at a s) w) (sum + k) (i + 1)) e
                (giving_more b s ok long c.hs sum i (holding_at a s) k hi c.giving place size);
          }

      pub given_fits : sum + k ≤ most_records * most_shares
      given_fits = giving_fits b s ok long c.hs sum i (holding_at a s) k hi c.giving place size

  pub given_end : (held : List ℕ) (sum i : ℕ) → b.records ≤ i → Given b s held sum i → (sum ≡ deliverable b s) × (sum ≤ most_records * most_shares)
  given_end held sum i h c = giving_end b s ok long c.hs sum i h c.giving
