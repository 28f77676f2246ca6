-- Counting what can be given and what is wanted, record by record: the count so far and what the other records add make the whole.
use Rattle.std.specs.Prelude.{◌≡◌, refl, Bool, true, false, ◌&&◌, eqb, leb, length, set, drop, nat_abs}
use Rattle.std.proofs.Common.{sym, ◌∙◌, subst, get_or-take}
use Rattle.std.proofs.Math.Path.{ap}
use mathlib.Core.List.{List, [], ◌∷◌}
use Prim.Native.Nat.{ℕ, ◌+◌, ◌*◌, ◌-◌, min, ◌<◌, ◌≤◌}
use native.Mathlib.Omega.{arith}
use Rattle.std.proofs.Math.Numerals.{add-one}
use Rattle.std.proofs.Math.ListN.{get_or}
use Rattle.std.proofs.Math.Seq.{drop-cons, drop-length, length-take-le}
use Rattle.std.proofs.lemmas.List.{set-get_or}
use borrow.Author.Tests.{eqb-true, leb-true}
use Rattle.units.specs.Units.{most_shares, most_mils}
use Rattle.rules.specs.Words.{keep, total}
use Rattle.rules.specs.Bounds.{most_records}
use Rattle.rules.specs.Book.{quantity_of, money_of, account_of, security_of, open_of, no_position, holding_at}
use Rattle.rules.specs.Sound.{is_due, is_position, sizes_fit, sound}
use Rattle.rules.specs.Run.{short_of, due_in, givers_of, givers, deliverable, wanted}
use Rattle.rules.specs.declared.Position.{Position}
use Rattle.rules.specs.declared.Book.{Book}
use Rattle.laws.specs.Cases.{by_test, both_hold}
use Rattle.laws.specs.Keeping.{keep_none, keep_yes, keep_no}
use Rattle.laws.specs.Walks.{all_at}
use Rattle.laws.specs.Walk.{is_due_in, owes, wants}
use Rattle.laws.specs.Deliveries.{held}
use Rattle.laws.specs.SoundParts.{sound_parts}
use Rattle.laws.specs.SoundRun.{sound_runnable}
use Rattle.laws.specs.RunKeeps.{owes_size, wants_size}
use Rattle.laws.specs.RunShares.{wanted_is}

-- ── one giver more ──

-- a holding lowered by nothing
same_held : (hs : List ℕ) (i k : ℕ) → k ≡ 0 → set hs i (get_or hs i 0 - k) ≡ hs
same_held hs i k e = ap (λ (v : ℕ). set hs i v) (omega arith) ∙ set-get_or hs i 0

module _ (d s : ℕ) where
  abbrev due : Position → Bool
  due p = eqb (security_of p) s && is_due d p

  -- what the givers among some records give
  abbrev pub giving : List Position → List ℕ → ℕ
  giving ps hs = held (givers_of s (keep due ps) hs)

  owes_due : (p : Position) → due p ≡ true → owes d s p ≡ short_of (quantity_of p)
  unfolding owes is_due_in
  owes_due p e = rw e

  owes_none : (p : Position) → due p ≡ false → owes d s p ≡ 0
  unfolding owes is_due_in
  owes_none p e = rw e

  giver_due : (p : Position) (ps : List Position) (hs : List ℕ) (k : ℕ) → k ≡ min (short_of (quantity_of p)) (get_or hs (holding_at (account_of p) s) 0)
      → held (givers_of s (p ∷ ps) hs) ≡ k + held (givers_of s ps (set hs (holding_at (account_of p) s) (get_or hs (holding_at (account_of p) s) 0 - k)))
  unfolding givers_of total
  giver_due p ps hs k e =
      let at : ℕ = holding_at (account_of p) s in
      by_test (eqb k 0)
      (λ z. let none = eqb-true k 0 z in rw (← e, z) (omega (arith, ap (λ (l : List ℕ). held (givers_of s ps l)) (same_held hs at k none))))
      (λ z. rw (← e, z))

  pub giving_one : (p : Position) (ps : List Position) (hs : List ℕ) (at k : ℕ) → at ≡ holding_at (account_of p) s → k ≡ min (owes d s p) (get_or hs at 0)
      → giving (p ∷ ps) hs ≡ k + giving ps (set hs at (get_or hs at 0 - k))
  giving_one p ps hs at k ea ek =
      by_test (due p)
      (λ e. ap (λ (l : List Position). held (givers_of s l hs)) (keep_yes due p ps e)
      ∙ rw ea (giver_due p (keep due ps) hs k (rw (ea, owes_due p e) at ek)))
      (λ e. let none : k ≡ 0 = omega (arith, owes_none p e) in
      ap (λ (l : List Position). held (givers_of s l hs)) (keep_no due p ps e) ∙ omega (arith, ap (giving ps) (same_held hs at k none)))

-- ── what the loops keep ──

pub record Giving (b : Book) (s : ℕ) (hs : List ℕ) (sum i : ℕ) : Type 0 where
  pub row : i ≤ b.records
  pub small : sum ≤ i * most_shares
  pub rest : sum + giving b.day s (drop i (open_of b)) hs ≡ deliverable b s

pub record Wanting (b : Book) (s sum i : ℕ) : Type 0 where
  pub row : i ≤ b.records
  pub small : sum ≤ i * most_shares
  pub rest : sum + total (wants b.day s) (drop i (open_of b)) ≡ wanted b s

-- ── the records of a sound book ──

module _ (b : Book) (s : ℕ) (ok : sound b ≡ true) (long : length b.positions ≡ 1024) where
  pub open_long : length (open_of b) ≡ b.records
  unfolding open_of
  open_long = length-take-le b.records b.positions (omega (arith, (sound_runnable b ok).few))

  pub open_next : (i : ℕ) → i < b.records → drop i (open_of b) ≡ get_or b.positions i no_position ∷ drop (i + 1) (open_of b)
  unfolding open_of
  open_next i h =
      drop-cons (open_of b) i no_position (omega (arith, open_long))
      ∙ rw (get_or-take b.records b.positions i no_position h, add-one i)

  open_end : (i : ℕ) → i ≡ b.records → drop i (open_of b) ≡ []
  open_end i e = ap (λ (j : ℕ). drop j (open_of b)) (e ∙ sym open_long) ∙ drop-length (open_of b)

  shares_small : (i : ℕ) → i < b.records → nat_abs (quantity_of (get_or b.positions i no_position)) ≤ most_shares
  unfolding sizes_fit open_of
  shares_small i h =
      let p : Position = get_or (open_of b) i no_position in
      let fit = all_at sizes_fit (open_of b) i no_position (sound_parts b ok).sizes (omega (arith, open_long)) in
      rw (get_or-take b.records b.positions i no_position h)
      at (leb-true (nat_abs (quantity_of p)) most_shares (both_hold (leb (nat_abs (quantity_of p)) most_shares) (leb (nat_abs (money_of p)) most_mils && is_position p) fit).0)

  -- ── what can be given ──

  pub giving_start : Giving b s b.holdings 0 0
  unfolding deliverable givers due_in
  giving_start = record { row = omega arith; small = omega arith; rest = omega arith }

  module _ (hs : List ℕ) (sum i at k : ℕ) (hi : i < b.records) (c : Giving b s hs sum i) (ea : at ≡ holding_at (account_of (get_or b.positions i no_position)) s)
      (ek : k ≡ min (owes b.day s (get_or b.positions i no_position)) (get_or hs at 0)) where
    giver_small : k ≤ most_shares
    giver_small = omega (arith, shares_small i hi, owes_size b.day s (get_or b.positions i no_position))

    pub giving_more : Giving b s (set hs at (get_or hs at 0 - k)) (sum + k) (i + 1)
    giving_more =
        record {
          row = omega arith;
          small = omega (arith, c.small, giver_small);
          rest = omega (
            arith,
            c.rest,
            ap (λ (ps : List Position). giving b.day s ps hs) (open_next i hi),
            giving_one b.day s (get_or b.positions i no_position) (drop (i + 1) (open_of b)) hs at k ea ek,
          );
        }

    pub giving_fits : sum + k ≤ most_records * most_shares
    giving_fits = omega (arith, giving_more.small, giving_more.row, (sound_runnable b ok).few)

  -- a record that owes nothing gives nothing, and leaves the holdings as they are
  module _ (hs : List ℕ) (sum i : ℕ) (hi : i < b.records) (c : Giving b s hs sum i) (none : owes b.day s (get_or b.positions i no_position) ≡ 0) where
    pub giving_none : Giving b s hs sum (i + 1)
    giving_none =
        let at : ℕ = holding_at (account_of (get_or b.positions i no_position)) s in
        subst (λ (l : List ℕ). Giving b s l sum (i + 1)) (same_held hs at 0 refl)
        (subst (λ (m : ℕ). Giving b s (set hs at (get_or hs at 0 - 0)) m (i + 1)) (omega arith) (giving_more hs sum i at 0 hi c refl (omega arith)))

  pub giving_end : (hs : List ℕ) (sum i : ℕ) → b.records ≤ i → Giving b s hs sum i → (sum ≡ deliverable b s) × (sum ≤ most_records * most_shares)
  unfolding givers_of total
  giving_end hs sum i h c = (
    omega (
      arith,
      c.rest,
      ap (λ (ps : List Position). giving b.day s ps hs) (open_end i (omega (arith, c.row))),
      ap (λ (ps : List Position). held (givers_of s ps hs)) (keep_none (due b.day s)),
    ),
    omega (arith, c.small, c.row, (sound_runnable b ok).few),
  )

  -- ── what is wanted ──

  pub wanting_start : Wanting b s 0 0
  wanting_start = record { row = omega arith; small = omega arith; rest = omega (arith, wanted_is b s) }

  module _ (sum i k : ℕ) (hi : i < b.records) (c : Wanting b s sum i) (ek : k ≡ wants b.day s (get_or b.positions i no_position)) where
    pub wanting_more : Wanting b s (sum + k) (i + 1)
    unfolding total
    wanting_more =
        record {
          row = omega arith;
          small = omega (arith, c.small, shares_small i hi, wants_size b.day s (get_or b.positions i no_position));
          rest = omega (arith, c.rest, ap (total (wants b.day s)) (open_next i hi));
        }

    pub wanting_fits : sum + k ≤ most_records * most_shares
    wanting_fits = omega (arith, wanting_more.small, wanting_more.row, (sound_runnable b ok).few)

  pub wanting_end : (sum i : ℕ) → b.records ≤ i → Wanting b s sum i → sum ≡ wanted b s
  unfolding total
  wanting_end sum i h c = omega (arith, c.rest, ap (total (wants b.day s)) (open_end i (omega (arith, c.row))))
