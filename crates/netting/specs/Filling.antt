-- The position table as today's nets are put behind the open positions, by account, then security. Behind the records it is zero, so the first
-- free row is the one behind them.
use Rattle.std.specs.Prelude.{◌≡◌, true, false, ℕ, zero, suc, ◌+◌, ◌-◌, ◌*◌, ◌<◌, ◌≤◌, set}
use Rattle.std.proofs.Math.Path.{refl, sym, ap, ap₂}
use Rattle.std.proofs.Common.{subst, ◌∙◌, arith, take-append-drop}
use mathlib.Core.List.{List, [], ◌∷◌, ◌++◌, append-nil, append_assoc}
use Rattle.std.proofs.Math.ListN.{length, take, drop, replicate, length-append, length-drop}
use Rattle.std.proofs.Math.Seq.{length-take-le, append_snoc}
use Rattle.std.proofs.lemmas.List.{set_at}
use Rattle.rules.specs.Bounds.{most_records}
use Rattle.rules.specs.Book.{no_position, open_of, list_of, with_open, with_list, with_charges, with_day}
use Rattle.rules.specs.Sound.{sound, is_position}
use Rattle.rules.specs.Nets.{net_of}
use Rattle.rules.specs.Roll.{uncharged, netted, emptied, next_day, open_plus_nets}
use Rattle.rules.specs.declared.Position.{Position}
use Rattle.rules.specs.declared.Trade.{Trade}
use Rattle.rules.specs.declared.Book.{Book}
use Rattle.laws.specs.SoundParts.{sound_parts}
use Rattle.laws.specs.Rolling.{rolling, new_nets}
use Rattle.laws.specs.Blanks.{behind_records, records_few}
use Rattle.netting_account.specs.Named.{Apart, apart_none}
use Rattle.netting.specs.Pairs.{pair_net, nets_to, nets_to_none, nets_to_more, nets_to_same, nets_to_fewer, pair_of, nets_pairs}

-- the nets fit, and this is the table with the open positions and them, and how many records that makes
abbrev pub WithNets : Book → ℕ → List Position → Type 0
WithNets k count rows = (open_plus_nets k ≤ most_records) × (count ≡ open_plus_nets k) × (rows ≡ (rolling k).positions)

-- the table has no room for them: refusal 10
abbrev pub PastRoom : Book → ℕ → Type 0
PastRoom k number = (most_records < open_plus_nets k) × (number ≡ 10)

-- ── the table after the first i pairs ──

-- records, and behind them the nets of the first i pairs
pub record Filled (due : ℕ) (ts : List Trade) (front : List Position) (i count : ℕ) (rows : List Position) : Type 0 where
  pub pairs : i ≤ 2_048
  pub few : count ≤ most_records
  pub counted : count ≡ length front + length (nets_to due ts i)
  pub filled : rows ≡ (front ++ nets_to due ts i) ++ replicate (most_records - count) no_position

module _ (due : ℕ) (ts : List Trade) (front : List Position) where
  -- no pair yet
  filled_start : (n : ℕ) → length front ≡ n → n ≤ most_records → Filled due ts front 0 n (front ++ replicate (most_records - n) no_position)
  filled_start n e h =
      record {
        pairs = omega arith;
        few = h;
        counted = rw (nets_to_none due ts) (omega arith);
        filled = rw (nets_to_none due ts, append-nil front);
      }

  -- the same pair by another name
  pub filled_at : (i j count : ℕ) (rows : List Position) → i ≡ j → Filled due ts front i count rows → Filled due ts front j count rows
  filled_at i j count rows e f = subst (λ (n : ℕ). Filled due ts front n count rows) e f

  module _ (a s count : ℕ) (rows : List Position) (ha : a < 64) (hs : s < 32) (f : Filled due ts front (a * 32 + s) count rows) (p : Position)
      (at : p ≡ net_of due ts a s) where
    abbrev i : ℕ
    i = a * 32 + s

    here : p ≡ pair_net due ts i
    here = at ∙ pair_of due ts a s hs

    abbrev next : ℕ
    next = a * 32 + (s + 1)

    -- a pair with no net
    pub filled_same : is_position p ≡ false → Filled due ts front next count rows
    filled_same e =
        let n = nets_to_same due ts i p here e in
        let w : next ≡ i + 1 = omega arith in
        record { pairs = omega arith; few = f.few; counted = rw (w, n) f.counted; filled = rw (w, n) f.filled }

    more : is_position p ≡ true → nets_to due ts next ≡ nets_to due ts i ++ (p ∷ [])
    more e = let w : next ≡ i + 1 = omega arith in rw w (nets_to_more due ts i p here e)

    more_counted : is_position p ≡ true → count + 1 ≡ length front + length (nets_to due ts next)
    more_counted e = omega (arith, f.counted, ap length (more e), length-append (nets_to due ts i) (p ∷ []))

    -- a net for which there is no room
    pub filled_full : is_position p ≡ true → count ≡ most_records → most_records < length front + length (nets_to due ts 2_048)
    filled_full e w = omega (arith, more_counted e, nets_to_fewer due ts next (omega arith))

    -- a net in the first free row
    pub filled_more : is_position p ≡ true → count < most_records → Filled due ts front next (count + 1) (set rows count p)
    filled_more e w =
        record { pairs = omega arith; few = omega arith; counted = more_counted e; filled = table }
      where
        table : set rows count p ≡ (front ++ nets_to due ts next) ++ replicate (most_records - (count + 1)) no_position
        table =
            let had = front ++ nets_to due ts i in
            let rest = replicate (most_records - (count + 1)) no_position in
            let n : most_records - count ≡ suc (most_records - (count + 1)) = omega arith in
            ap (λ (l : List Position). set l count p) (f.filled ∙ ap (λ (m : ℕ). had ++ replicate m no_position) n)
            ∙ set_at had no_position rest p count (length-append front (nets_to due ts i) ∙ sym f.counted)
            ∙ sym (append_snoc had p rest)
            ∙ ap (λ (l : List Position). l ++ rest)
            (append_assoc front (nets_to due ts i) (p ∷ []) ∙ ap (λ (l : List Position). front ++ l) (sym (more e)))

  -- ── an account that the list does not name ──

  filled_some : (a s count : ℕ) (rows : List Position) → a < 64 → s ≤ 32 → Apart a ts → Filled due ts front (a * 32) count rows
      → Filled due ts front (a * 32 + s) count rows
  filled_some a zero count rows ha hs e f = filled_at (a * 32) (a * 32 + 0) count rows (omega arith) f
  filled_some a (suc s) count rows ha hs e f =
      filled_at (a * 32 + (s + 1)) (a * 32 + suc s) count rows (omega arith)
      (filled_same a s count rows ha (omega arith) (filled_some a s count rows ha (omega arith) e f) _ refl (apart_none due ts a s e))

  pub filled_account : (a count : ℕ) (rows : List Position) → a < 64 → Apart a ts → Filled due ts front (a * 32) count rows
      → Filled due ts front ((a + 1) * 32) count rows
  filled_account a count rows h e f =
      filled_at (a * 32 + 32) ((a + 1) * 32) count rows (omega arith) (filled_some a 32 count rows h (omega arith) e f)

-- ── the table of a sound book, before the first pair and after the last ──

module _ (k : Book) (ok : sound k ≡ true) (long : length k.positions ≡ most_records) where
  pub open_long : length (open_of k) ≡ k.records
  unfolding open_of
  open_long = length-take-le k.records k.positions (omega (arith, records_few k (sound_parts k ok).records))

  pub blank_behind : k.positions ≡ open_of k ++ replicate (most_records - k.records) no_position
  unfolding open_of
  blank_behind =
      let rest : List Position = drop k.records k.positions in
      let n = length-drop k.records k.positions ∙ ap (λ (m : ℕ). m - k.records) long in
      sym (take-append-drop k.records k.positions)
      ∙ ap (λ (l : List Position). take k.records k.positions ++ l)
      (behind_records k (sound_parts k ok).records ∙ ap (λ (m : ℕ). replicate m no_position) n)

  pub filled_none : Filled (k.day + 2) (list_of k) (open_of k) 0 k.records k.positions
  filled_none =
      subst (Filled (k.day + 2) (list_of k) (open_of k) 0 k.records) (sym blank_behind)
      (filled_start (k.day + 2) (list_of k) (open_of k) k.records open_long (records_few k (sound_parts k ok).records))

  pub rolling_rows : (rolling k).positions ≡ (open_of k ++ new_nets k) ++ replicate (most_records - length (open_of k ++ new_nets k)) no_position
  unfolding rolling next_day emptied netted uncharged with_day with_list with_open with_charges open_of list_of
  rolling_rows = refl

  pub rolling_records : (rolling k).records ≡ open_plus_nets k
  unfolding rolling next_day emptied netted uncharged with_day with_list with_open with_charges open_of list_of open_plus_nets
  rolling_records = length-append (open_of k) (new_nets k) ∙ ap (λ (n : ℕ). n + length (new_nets k)) open_long

  -- ── what the walk gives ──

  abbrev due : ℕ
  due = k.day + 2

  all_found : nets_to due (list_of k) 2_048 ≡ new_nets k
  all_found = sym (nets_pairs due (list_of k))

  all_counted : length (open_of k) + length (nets_to due (list_of k) 2_048) ≡ open_plus_nets k
  unfolding open_plus_nets
  all_counted = ap₂ (λ (n : ℕ) (l : List Position). n + length l) open_long all_found

  -- every pair has been looked at
  pub filled_all : (i count : ℕ) (rows : List Position) → i ≡ 2_048 → Filled due (list_of k) (open_of k) i count rows → WithNets k count rows
  filled_all i count rows end f =
      let found : nets_to due (list_of k) i ≡ new_nets k = ap (nets_to due (list_of k)) end ∙ all_found in
      let sum : count ≡ open_plus_nets k = f.counted ∙ ap (λ (j : ℕ). length (open_of k) + length (nets_to due (list_of k) j)) end ∙ all_counted in
      let room : count ≡ length (open_of k ++ new_nets k) = f.counted ∙ ap (λ (l : List Position). length (open_of k) + length l) found ∙ sym (length-append (open_of k) (new_nets k)) in (
        omega (arith, sum, f.few),
        sum,
        f.filled
            ∙ ap₂ (λ (l : List Position) (n : ℕ). (open_of k ++ l) ++ replicate (most_records - n) no_position) found room
            ∙ sym rolling_rows,
      )

  -- there are more than the table has rows
  pub filled_past : (number : ℕ) → number ≡ 10 → most_records < length (open_of k) + length (nets_to due (list_of k) 2_048) → PastRoom k number
  filled_past number e h = (omega (arith, h, all_counted), e)
