-- Who need not be met again: rows that want nothing, and a giver that has nothing left to give. A meeting gives nobody more to owe or to want, and
-- behind it one of the two is done.
use Rattle.std.specs.Prelude.{◌≡◌, ◌≢◌, ◌⊎◌, true, length, get_or}
use Rattle.std.proofs.Math.Path.{refl, ap, ap₂}
use Rattle.std.proofs.Common.{sym, ◌∙◌, inl, inr, ⊎_elim}
use mathlib.Core.List.{List}
use Prim.Native.Nat.{ℕ, zero, suc, ◌+◌, ◌-◌, min, ◌≤◌, ◌<◌}
use native.Mathlib.Omega.{arith}
use Rattle.std.proofs.Math.Decide.{ℕ_discrete}
use Rattle.std.proofs.Math.ListN.{set, length-set}
use Rattle.std.proofs.Math.Seq.{get_or-set_same, get_or-set_other}
use Rattle.rules.specs.Words.{keep}
use Rattle.rules.specs.Book.{account_of, no_position, holding_at}
use Rattle.rules.specs.Sound.{is_due, one_sign}
use Rattle.rules.specs.Parts.{without}
use Rattle.rules.specs.Run.{Side, moved}
use Rattle.rules.specs.declared.Position.{Position}
use Rattle.rules.specs.declared.Book.{Book}
use Rattle.laws.specs.Taking.{without_account}
use Rattle.laws.specs.Rows.{row, without_both}
use Rattle.laws.specs.Walk.{Walking, owes, wants, left_to_give, size_of, met_at, meet, serve}
use Rattle.laws.specs.SidesOf.{owing, wanting, at_row, holding_below, holding_apart}
use Rattle.laws.specs.WalkIsRun.{apart_of}
use Rattle.laws.specs.Searching.{meet_none}
use Rattle.laws.specs.RunKeeps.{Meets}
use Rattle.laws.specs.RunShares.{owes_less, wants_less}

-- the rows before r want nothing
abbrev pub Full : ℕ → ℕ → List Position → ℕ → Type 0
Full d s ps r = (j : ℕ) → j < r → wants d s (row ps j) ≡ 0

pub full_more : (d s : ℕ) (ps : List Position) (r : ℕ) → Full d s ps r → wants d s (row ps r) ≡ 0 → Full d s ps (r + 1)
full_more d s ps r f z j h = go (ℕ_discrete j r)
  where
    go : Dec (j ≡ r) → wants d s (row ps j) ≡ 0
    go (yes e) = ap (λ (i : ℕ). wants d s (row ps i)) e ∙ z
    go (no e) = f j (omega arith)

-- no account both owes and wants
abbrev pub Apart : ℕ → ℕ → List Position → Type 0
Apart d s ps =
    (i j : ℕ) → i < length ps → j < length ps → 0 < owes d s (row ps i) → 0 < wants d s (row ps j) → account_of (row ps i) ≢ account_of (row ps j)

-- ── two rows with k shares less ──

module _ (ps : List Position) (g r k : ℕ) (hg : g < length ps) (hr : r < length ps) (other : r ≢ g) where
  giver_rest : row (without_both ps g r k) g ≡ without (row ps g) k
  unfolding without_both
  giver_rest =
      get_or-set_other (set ps g (without (row ps g) k)) r g (without (row ps r) k) no_position (λ e. other (sym e))
      ∙ get_or-set_same ps g (without (row ps g) k) no_position hg

  taker_rest : row (without_both ps g r k) r ≡ without (row ps r) k
  unfolding without_both
  taker_rest = get_or-set_same (set ps g (without (row ps g) k)) r (without (row ps r) k) no_position (omega (arith, length-set ps g (without (row ps g) k)))

  others_stay : (j : ℕ) → j ≢ g → j ≢ r → row (without_both ps g r k) j ≡ row ps j
  unfolding without_both
  others_stay j n m =
      get_or-set_other (set ps g (without (row ps g) k)) r j (without (row ps r) k) no_position m
      ∙ get_or-set_other ps g j (without (row ps g) k) no_position n

  -- every row is what it was, or has k shares less
  either_row : (j : ℕ) → (row (without_both ps g r k) j ≡ row ps j) ⊎ (row (without_both ps g r k) j ≡ without (row ps j) k)
  either_row j = go (ℕ_discrete j g) (ℕ_discrete j r)
    where
      go : Dec (j ≡ g) → Dec (j ≡ r) → (row (without_both ps g r k) j ≡ row ps j) ⊎ (row (without_both ps g r k) j ≡ without (row ps j) k)
      go (yes e) m = inr (rw e giver_rest)
      go (no n) (yes e) = inr (rw e taker_rest)
      go (no n) (no m) = inl (others_stay j n m)

  -- so nobody owes more or wants more, and accounts are as they were
  owes_falls : (d s j : ℕ) → owes d s (row (without_both ps g r k) j) ≤ owes d s (row ps j)
  owes_falls d s j =
      ⊎_elim (λ e. omega (arith, ap (owes d s) e)) (λ e. omega (arith, ap (owes d s) e, owes_less d s (row ps j) k)) (either_row j)

  wants_falls : (d s j : ℕ) → wants d s (row (without_both ps g r k) j) ≤ wants d s (row ps j)
  wants_falls d s j =
      ⊎_elim (λ e. omega (arith, ap (wants d s) e)) (λ e. omega (arith, ap (wants d s) e, wants_less d s (row ps j) k)) (either_row j)

  account_stays : (j : ℕ) → account_of (row (without_both ps g r k) j) ≡ account_of (row ps j)
  account_stays j = ⊎_elim (λ e. ap account_of e) (λ e. ap account_of e ∙ without_account (row ps j) k) (either_row j)

  long_stays : length (without_both ps g r k) ≡ length ps
  unfolding without_both
  long_stays = simp length-set

  pub full_still : (d s q : ℕ) → Full d s ps q → Full d s (without_both ps g r k) q
  full_still d s q f j h = omega (arith, wants_falls d s j, f j h)

  pub apart_still : (d s : ℕ) → Apart d s ps → Apart d s (without_both ps g r k)
  apart_still d s a i j hi hj o w e =
      a i j (omega (arith, long_stays)) (omega (arith, long_stays)) (omega (arith, owes_falls d s i)) (omega (arith, wants_falls d s j))
      (sym (account_stays i) ∙ e ∙ account_stays j)

-- a book whose due records have one sign for each account and security
pub apart_start : (d s : ℕ) (ps : List Position) → one_sign (keep (is_due d) ps) ≡ true → Apart d s ps
apart_start d s ps o i j hi hj ho hw e =
    let ei = at_row (owing d s) ps i hi in
    let ej = at_row (wanting d s) ps j hj in
    apart_of d s ps o i j (omega (arith, ap (λ (x : Side). x.shares) ei)) (omega (arith, ap (λ (x : Side). x.shares) ej))
    (ap (λ (x : Side). x.account) ei ∙ e ∙ sym (ap (λ (x : Side). x.account) ej))

-- ── behind a meeting of all that two rows can ──

less_both : (m n k : ℕ) → min (m - k) (n - k) ≡ min m n - k
less_both m n k = omega arith

-- k off each of three, of which it is the least
none_of_three : (o h w k : ℕ) → k ≡ min (min o h) w → min (min (o - k) (h - k)) (w - k) ≡ 0
none_of_three o h w k e =
    let f : min (min o h - k) (w - k) ≡ min (min o h) w - k = less_both (min o h) w k in
    ap (λ (n : ℕ). min n (w - k)) (less_both o h k) ∙ f ∙ omega arith

module _ (b : Book) (s : ℕ) (hs : s < 32) (x : Walking) (g r k : ℕ) (m : Meets b s x g r k) (wide : length x.holdings ≡ 2048)
    (apart : Apart b.day s x.records) (size : k ≡ size_of b.day s x g r) where
  abbrev d : ℕ
  d = b.day

  abbrev giver : Position
  giver = row x.records g

  abbrev taker : Position
  taker = row x.records r

  abbrev from : ℕ
  from = holding_at (account_of giver) s

  abbrev to : ℕ
  to = holding_at (account_of taker) s

  -- the giver's account holds k less
  held_rest : get_or (moved x.holdings from to k) from 0 ≡ get_or x.holdings from 0 - k
  unfolding moved
  held_rest =
      let l : List ℕ = set x.holdings from (get_or x.holdings from 0 - k) in
      let o : 0 < owes d s giver = omega (arith, m.owed, m.giver.some) in
      let w : 0 < wants d s taker = omega (arith, m.wanted, m.giver.some) in
      get_or-set_other l to from (get_or l to 0 + k) 0 (holding_apart (account_of giver) (account_of taker) s (apart g r m.giver_row m.taker_row o w))
      ∙ get_or-set_same x.holdings from (get_or x.holdings from 0 - k) 0 (omega (arith, holding_below giver s hs))

  -- one of the two is done
  pub none_more : size_of d s (met_at b s x g r k) g r ≡ 0
  unfolding size_of left_to_give met_at
  none_more =
      let p = giver_rest x.records g r k m.giver_row m.taker_row m.apart in
      let q = taker_rest x.records g r k m.giver_row m.taker_row m.apart in
      rw (p, q, without_account giver k, held_rest, owes_less d s giver k, wants_less d s taker k)
      (none_of_three (owes d s giver) (get_or x.holdings from 0) (wants d s taker) k size)

-- ── who need not be met ──

module _ (b : Book) (s : ℕ) (hs : s < 32) where
  abbrev day : ℕ
  day = b.day

  -- a giver that has nothing left to give meets nobody
  pub serve_none : (g f r : ℕ) (x : Walking) → left_to_give day s x g ≡ 0 → serve b s g f r x ≡ x
  unfolding serve size_of
  serve_none g zero r x z = refl
  serve_none g (suc f) r x z = ap (serve b s g f (suc r)) (meet_none b s hs g r x (omega arith)) ∙ serve_none g f (suc r) x z

  -- a row that wants nothing meets nobody
  pub meet_full : (g r : ℕ) (x : Walking) → wants day s (row x.records r) ≡ 0 → meet b s g r x ≡ x
  unfolding size_of
  meet_full g r x z = meet_none b s hs g r x (omega arith)

  -- the i rows from r on want nothing
  serve_past : (g i f r : ℕ) (x : Walking) → ((j : ℕ) → j < r + i → wants day s (row x.records j) ≡ 0) → (m : ℕ) → m ≡ i + f → serve b s g m r x ≡ serve b s g f (r + i) x
  unfolding serve
  serve_past g zero f r x z m e =
      let e₁ : m ≡ f = omega arith in
      let e₂ : r ≡ r + 0 = omega arith in
      ap₂ (λ (n q : ℕ). serve b s g n q x) e₁ e₂
  serve_past g (suc i) f r x z m e =
      let e' : m ≡ suc (i + f) = omega arith in
      ap (λ (n : ℕ). serve b s g n r x) e'
      ∙ ap (serve b s g (i + f) (suc r)) (meet_full g r x (z r (omega arith)))
      ∙ serve_past g i f (suc r) x (λ j h. z j (omega arith)) (i + f) refl
      ∙ ap (λ (q : ℕ). serve b s g f q x) (omega arith)

  pub serve_full : (g r : ℕ) (x : Walking) → r ≤ b.records → Full day s x.records r → serve b s g b.records 0 x ≡ serve b s g (b.records - r) r x
  serve_full g r x h f =
      serve_past g r (b.records - r) 0 x (λ j l. f j (omega arith)) b.records (omega arith)
      ∙ ap (λ (q : ℕ). serve b s g (b.records - r) q x) (omega arith)
