-- What every meeting of a run keeps, the run keeps: one induction over the walk, from which the laws of the settlement run follow.
use Rattle.std.specs.Prelude.{◌≡◌, refl, ◌≢◌, Bool, true, false, cond, not, map, ltb, length, get_or, nat_abs}
use Rattle.std.proofs.Common.{sym, ◌∙◌, arith, ltb-true}
use Rattle.std.proofs.Math.Path.{ap}
use Prim.Native.Nat.{ℕ, zero, suc, ◌+◌, ◌<◌, ◌≤◌}
use Rattle.std.proofs.Math.ListN.{length-set, length-take}
use Rattle.std.proofs.lemmas.List.{length-map}
use Rattle.integers.specs.Signs.{is_negative}
use Rattle.rules.specs.Book.{quantity_of, account_of, security_of, open_of, holding_at}
use Rattle.rules.specs.Sound.{is_due}
use Rattle.rules.specs.Run.{short_of, long_of, moved}
use Rattle.rules.specs.declared.Position.{Position}
use Rattle.rules.specs.declared.Book.{Book}
use Rattle.laws.specs.Cases.{by_test}
use Rattle.laws.specs.Rows.{row}
use Rattle.laws.specs.Taking.{short_size, long_size}
use Rattle.laws.specs.Meetings.{both_numbers, both_charged_long}
use Rattle.laws.specs.Walk.{Walking, is_due_in, owes, wants, left_to_give, size_of, met_at, meet, serve, search, walked}
use Rattle.laws.specs.SidesOf.{owes_or_wants}
use Rattle.laws.specs.WalkIsRun.{owes_says, wants_says, unwalked}

-- ── what is known of a meeting ──

-- a record that loses k shares: it is of the security, due, and has as many
pub record Loses (b : Book) (s : ℕ) (p : Position) (k : ℕ) : Type 0 where
  pub some : 0 < k
  pub security : security_of p ≡ s
  pub due : is_due b.day p ≡ true
  pub within : k ≤ nat_abs (quantity_of p)

-- rows g and r meet, for k shares
pub record Meets (b : Book) (s : ℕ) (x : Walking) (g r k : ℕ) : Type 0 where
  pub giver_row : g < length x.records
  pub taker_row : r < length x.records
  pub apart : r ≢ g
  pub owed : k ≤ owes b.day s (row x.records g)
  pub backed : k ≤ get_or x.holdings (holding_at (account_of (row x.records g)) s) 0
  pub wanted : k ≤ wants b.day s (row x.records r)
  pub giver : Loses b s (row x.records g) k
  pub taker : Loses b s (row x.records r) k
  pub gives : is_negative (quantity_of (row x.records g)) ≡ true
  pub receives : is_negative (quantity_of (row x.records r)) ≡ false

pub unlike : (b : Book) (s : ℕ) (x : Walking) (g r k : ℕ) → Meets b s x g r k
    → is_negative (quantity_of (row x.records r)) ≡ not (is_negative (quantity_of (row x.records g)))
unlike b s x g r k m = m.receives ∙ sym (ap not m.gives)

-- a walk has the records of the book by number, and its tables are as long
pub record Steady (b : Book) (x : Walking) : Type 0 where
  pub numbers : map (λ p. p.number) x.records ≡ map (λ p. p.number) (open_of b)
  pub wide : length x.holdings ≡ length b.holdings
  pub charges : length x.charges ≡ length b.charges

pub steady_long : (b : Book) (x : Walking) → Steady b x → length x.records ≡ length (open_of b)
steady_long b x c =
    sym (length-map x.records (λ p. p.number)) ∙ ap length c.numbers ∙ length-map (open_of b) (λ p. p.number)

-- ── a meeting of all that two rows can ──

chosen_le : (t : Bool) (m n : ℕ) → m ≤ n → cond t m 0 ≤ n
chosen_le true m n h = h
chosen_le false m n h = omega arith

pub owes_size : (d s : ℕ) (p : Position) → owes d s p ≤ nat_abs (quantity_of p)
unfolding owes
owes_size d s p = chosen_le (is_due_in d s p) (short_of (quantity_of p)) (nat_abs (quantity_of p)) (short_size (quantity_of p))

pub wants_size : (d s : ℕ) (p : Position) → wants d s p ≤ nat_abs (quantity_of p)
unfolding wants
wants_size d s p = chosen_le (is_due_in d s p) (long_of (quantity_of p)) (nat_abs (quantity_of p)) (long_size (quantity_of p))

module _ (b : Book) (s : ℕ) where
  abbrev d : ℕ
  d = b.day

  pub meets : (x : Walking) (g r : ℕ) → g < length x.records → r < length x.records → 0 < size_of d s x g r → Meets b s x g r (size_of d s x g r)
  unfolding size_of left_to_give
  meets x g r hg hr h =
      let p : Position = row x.records g in
      let q : Position = row x.records r in
      let u = owes_says d s p (omega arith) in
      let v = wants_says d s q (omega arith) in
      record {
        giver_row = hg;
        taker_row = hr;
        apart = λ e. omega (arith, owes_or_wants d s p, ap (λ (i : ℕ). wants d s (row x.records i)) e);
        owed = omega arith;
        backed = omega arith;
        wanted = omega arith;
        giver = record { some = h; security = u.0; due = u.1; within = omega (arith, owes_size d s p) };
        taker = record { some = h; security = v.0; due = v.1; within = omega (arith, wants_size d s q) };
        gives = u.2;
        receives = v.2;
      }

  pub steady_met : (x : Walking) (g r k : ℕ) → Meets b s x g r k → Steady b x → Steady b (met_at b s x g r k)
  unfolding met_at moved
  steady_met x g r k m c =
      record {
        numbers = both_numbers x.records g r k m.apart ∙ c.numbers;
        wide = simp length-set c.wide;
        charges = both_charged_long b x.charges (row x.records g) (row x.records r) k ∙ c.charges;
      }

  -- ── the induction ──

  module _ (room : b.records ≤ length b.positions) (P : Walking → Type 0)
      (kept : (x : Walking) (g r k : ℕ) → Steady b x → Meets b s x g r k → P x → P (met_at b s x g r k)) where
    abbrev n : ℕ
    n = b.records

    abbrev Held : Walking → Type 0
    Held x = Steady b x × P x

    open_long : length (open_of b) ≡ n
    unfolding open_of
    open_long = omega (arith, length-take b.records b.positions)

    met_keeps : (g r : ℕ) (x : Walking) → g < n → r < n → 0 < size_of d s x g r → Held x → Held (met_at b s x g r (size_of d s x g r))
    met_keeps g r x hg hr h c =
        let long = steady_long b x c.0 in
        let m = meets x g r (omega (arith, open_long)) (omega (arith, open_long)) h in
        (steady_met x g r (size_of d s x g r) m c.0, kept x g r (size_of d s x g r) c.0 m c.1)

    meet_keeps : (g r : ℕ) (x : Walking) → g < n → r < n → Held x → Held (meet b s g r x)
    unfolding meet
    meet_keeps g r x hg hr c =
        by_test (ltb 0 (wants d s (row x.records r)))
        (λ e. by_test (ltb 0 (size_of d s x g r))
        (λ f. rw (e, f) (met_keeps g r x hg hr (ltb-true 0 (size_of d s x g r) f) c))
        (λ f. rw (e, f) c))
        (λ e. rw e c)

    serve_keeps : (g f r : ℕ) (x : Walking) → g < n → r + f ≡ n → Held x → Held (serve b s g f r x)
    unfolding serve
    serve_keeps g zero r x hg e c = c
    serve_keeps g (suc f) r x hg e c = serve_keeps g f (suc r) (meet b s g r x) hg (omega arith) (meet_keeps g r x hg (omega arith) c)

    search_keeps : (f g : ℕ) (x : Walking) → g + f ≡ n → Held x → Held (search b s f g x)
    unfolding search
    search_keeps zero g x e c = c
    search_keeps (suc f) g x e c =
        search_keeps f (suc g) _ (omega arith)
        (by_test (ltb 0 (owes d s (row x.records g))) (λ t. rw t (serve_keeps g n 0 x (omega arith) (omega arith) c)) (λ t. rw t c))

    steady_start : Steady b (unwalked b)
    steady_start = record { numbers = refl; wide = refl; charges = refl }

    walk_both : P (unwalked b) → Held (walked b s)
    unfolding walked
    walk_both p = search_keeps n 0 (unwalked b) (omega arith) (steady_start, p)

    pub walk_keeps : P (unwalked b) → P (walked b s)
    walk_keeps p = (walk_both p).1

  -- what every walk has
  pub walk_steady : b.records ≤ length b.positions → Steady b (walked b s)
  walk_steady room = (walk_both room (λ x. Unit {0}) (λ x g r k c m p. tt) tt).0
