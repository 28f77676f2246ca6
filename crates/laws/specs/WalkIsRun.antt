-- The walk over rows is the settlement run of document 01: it leaves the records, holdings and charges that the rule's meetings leave, and moves as many shares.
use Rattle.std.specs.Prelude.{◌≡◌, refl, ◌≢◌, Bool, true, false, cond, ◌&&◌, List, [], ◌∷◌, ℕ, zero, suc, ◌≤◌, ◌<◌, eqb, length}
use Rattle.std.proofs.Common.{sym, ◌∙◌, le_of_suc-le-suc, eqb-true, eq-eqb}
use Rattle.std.proofs.Math.Path.{ap, ap₂}
use native.Mathlib.Omega.{arith}
use Rattle.std.proofs.Math.Decide.{dec_lt}
use Rattle.std.proofs.Math.ListN.{length-take, get_or-eq_default}
use Rattle.std.proofs.lemmas.List.{length-map}
use Rattle.integers.specs.Signs.{is_negative}
use Rattle.rules.specs.Words.{all, keep}
use Rattle.rules.specs.Book.{quantity_of, account_of, security_of, open_of}
use Rattle.rules.specs.Sound.{ascends, is_due, same_pair, agree, one_sign}
use Rattle.rules.specs.Run.{Side, short_of, long_of, due_in, givers, receivers, meetings_of, meetings, taken, shares_moved}
use Rattle.rules.specs.declared.Position.{Position}
use Rattle.rules.specs.declared.Book.{Book}
use Rattle.laws.specs.Cases.{by_test, true_false, both_hold, and_hold}
use Rattle.laws.specs.Keeping.{keep_yes, keep_no}
use Rattle.laws.specs.Rows.{row}
use Rattle.laws.specs.Taking.{short_sign, long_sign}
use Rattle.laws.specs.Walk.{Walking, is_due_in, owes, wants, walked}
use Rattle.laws.specs.Merging.{running, walked_all, all_taken, all_shares}
use Rattle.laws.specs.Spare.{no_side, at, some}
use Rattle.laws.specs.ByNumber.{ascends_distinct}
use Rattle.laws.specs.SidesOf.{owing, wanting, owed, asked, at_row, receivers_are, givers_are}
use Rattle.laws.specs.RowMeeting.{gives, asks, Sane}
use Rattle.laws.specs.Searching.{search_is}

-- ── no account both owes and wants ──

first_of : (t : Position → Bool) (p : Position) (l : List Position) → all t (p ∷ l) ≡ true → (t p ≡ true) × (all t l ≡ true)
unfolding all
first_of t p l a = both_hold (t p) (all t l) a

pub kept_at : (t u : Position → Bool) (ps : List Position) (i : ℕ) → all t (keep u ps) ≡ true → i < length ps → u (row ps i) ≡ true → t (row ps i) ≡ true
kept_at t u [] i a h e = absurd (omega arith)
kept_at t u (p ∷ ps) zero a h e = (first_of t p (keep u ps) (sym (ap (all t) (keep_yes u p ps e)) ∙ a)).0
kept_at t u (p ∷ ps) (suc i) a h e =
    kept_at t u ps i
    (by_test (u p) (λ f. (first_of t p (keep u ps) (sym (ap (all t) (keep_yes u p ps f)) ∙ a)).1) (λ f. sym (ap (all t) (keep_no u p ps f)) ∙ a))
    (le_of_suc-le-suc h) e

cond_some : (c : Bool) (m : ℕ) → 0 < cond c m 0 → (c ≡ true) × (0 < m)
cond_some true m h = (refl, h)
cond_some false m h = absurd (omega arith)

pub owes_says : (d s : ℕ) (p : Position) → 0 < owes d s p → (security_of p ≡ s) × (is_due d p ≡ true) × (is_negative (quantity_of p) ≡ true)
unfolding owes is_due_in
owes_says d s p h =
    let c = cond_some (eqb (security_of p) s && is_due d p) (short_of (quantity_of p)) h in
    let e = both_hold (eqb (security_of p) s) (is_due d p) c.0 in
    (eqb-true (security_of p) s e.0, e.1, short_sign (quantity_of p) c.1)

pub wants_says : (d s : ℕ) (p : Position) → 0 < wants d s p → (security_of p ≡ s) × (is_due d p ≡ true) × (is_negative (quantity_of p) ≡ false)
unfolding wants is_due_in
wants_says d s p h =
    let c = cond_some (eqb (security_of p) s && is_due d p) (long_of (quantity_of p)) h in
    let e = both_hold (eqb (security_of p) s) (is_due d p) c.0 in
    (eqb-true (security_of p) s e.0, e.1, long_sign (quantity_of p) c.1)

opposed : (p q : Position) → agree p q ≡ true → security_of p ≡ security_of q → is_negative (quantity_of p) ≡ true → is_negative (quantity_of q) ≡ false
    → account_of p ≢ account_of q
unfolding agree same_pair
opposed p q a e f g h =
    let c : eqb (account_of p) (account_of q) && eqb (security_of p) (security_of q) ≡ true = and_hold (eq-eqb (account_of p) (account_of q) h) (eq-eqb (security_of p) (security_of q) e) in
    true_false a (rw (c, f, g))

reached : (l : List Side) (i : ℕ) → 0 < (at l i).shares → i < length l
reached l i h = go (dec_lt i (length l))
  where
    go : Dec (i < length l) → i < length l
    go (yes q) = q
    go (no q) = absurd (omega (arith, ap (λ (x : Side). x.shares) (get_or-eq_default l no_side {n = i} (omega arith))))

pub apart_of : (d s : ℕ) (ps : List Position) → one_sign (keep (is_due d) ps) ≡ true → (i j : ℕ)
    → 0 < (at (owed d s ps) i).shares → 0 < (at (asked d s ps) j).shares → (at (owed d s ps) i).account ≢ (at (asked d s ps) j).account
unfolding one_sign
apart_of d s ps o i j hi hj e =
    let li : i < length ps = omega (arith, reached (owed d s ps) i hi, length-map ps (owing d s)) in
    let lj : j < length ps = omega (arith, reached (asked d s ps) j hj, length-map ps (wanting d s)) in
    let ei = at_row (owing d s) ps i li in
    let ej = at_row (wanting d s) ps j lj in
    let p : Position = row ps i in
    let q : Position = row ps j in
    let u = owes_says d s p (omega (arith, ap (λ (x : Side). x.shares) ei)) in
    let v = wants_says d s q (omega (arith, ap (λ (x : Side). x.shares) ej)) in
    let all-p = kept_at (λ p. all (agree p) (keep (is_due d) ps)) (is_due d) ps i o li u.1 in
    let a : agree p q ≡ true = kept_at (agree p) (is_due d) ps j all-p lj v.1 in
    opposed p q a (u.0 ∙ sym v.0) u.2 v.2 (sym (ap (λ (x : Side). x.account) ei) ∙ e ∙ ap (λ (x : Side). x.account) ej)

-- ── the bridge ──

-- before the run
abbrev pub unwalked : Book → Walking
unwalked b = record { records = open_of b; holdings = b.holdings; charges = b.charges; shares = 0 }

-- what the rule's meetings leave, and the shares that they move
abbrev pub ruled : Book → ℕ → Walking
ruled b s =
    let x = taken b s (record { records = open_of b; holdings = b.holdings; charges = b.charges }) (meetings b s) in
    record { records = x.records; holdings = x.holdings; charges = x.charges; shares = shares_moved b s }

module _ (b : Book) (s : ℕ) (hs : s < 32) (wide : length b.holdings ≡ 2048) (room : b.records ≤ length b.positions)
    (order : ascends (open_of b) ≡ true) (signs : one_sign (keep (is_due b.day) (open_of b)) ≡ true) where
  open_length : length (open_of b) ≡ b.records
  unfolding open_of
  open_length = omega (arith, length-take b.records b.positions)

  sane_start : Sane b.day s b.records (unwalked b)
  sane_start = record { long = open_length; wide = wide; distinct = ascends_distinct (open_of b) order; apart = apart_of b.day s (open_of b) signs }

  pub receivers_by_row : receivers b s ≡ keep some (asked b.day s (open_of b))
  unfolding receivers due_in
  receivers_by_row = receivers_are b.day s (open_of b)

  pub givers_by_row : givers b s ≡ keep some (gives b.day s (unwalked b))
  unfolding givers due_in
  givers_by_row = givers_are b.day s hs (open_of b) b.holdings wide

  meetings_are : meetings b s ≡ meetings_of (keep some (asks b.day s (unwalked b))) (keep some (gives b.day s (unwalked b)))
  unfolding meetings
  meetings_are = ap₂ meetings_of receivers_by_row givers_by_row

  walked_all_lem : walked b s ≡ walked_all b s (unwalked b) (meetings b s)
  unfolding walked
  walked_all_lem = search_is b s hs (unwalked b) sane_start ∙ ap (walked_all b s (unwalked b)) (sym meetings_are)

  pub walk_is_run : walked b s ≡ ruled b s
  unfolding shares_moved
  walk_is_run =
      let e : running (walked_all b s (unwalked b) (meetings b s)) ≡ taken b s (running (unwalked b)) (meetings b s) = all_taken b s (unwalked b) (meetings b s) in
      let f : (walked_all b s (unwalked b) (meetings b s)).shares ≡ shares_moved b s = all_shares b s (unwalked b) (meetings b s) ∙ omega arith in
      walked_all_lem ∙ λ i. record { records = (e i).records; holdings = (e i).holdings; charges = (e i).charges; shares = f i }
