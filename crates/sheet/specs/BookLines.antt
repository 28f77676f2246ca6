-- The lines of the book as loops over its tables meet them: the open positions one by one, the charges at their 256 places.
use Rattle.std.specs.Prelude.{◌≡◌, cond, pos, nat_abs, length, get_or, drop}
use Rattle.std.proofs.Math.Path.{refl, ap, ap₂}
use Rattle.std.proofs.Common.{sym, ◌∙◌, zero-add, suc-add, add-one, drop-cons, eq-eqb, ne_eqb}
use mathlib.Core.List.{List, [], ◌∷◌, ◌++◌, map, append_assoc}
use Prim.Native.Nat.{ℕ, zero, suc, ◌+◌, ◌*◌, ◌-◌, ◌/◌, ◌%◌, ◌≤◌, ◌<◌}
use native.Mathlib.Omega.{arith}
use Rattle.std.proofs.Math.Seq.{drop-length}
use Rattle.units.specs.Units.{mils, mils_of}
use Rattle.units.specs.declared.Mils.{Mils}
use Rattle.rules.specs.Words.{each, from}
use Rattle.rules.specs.Bounds.{every_account, every_currency}
use Rattle.rules.specs.Book.{is_zero, account_of, security_of, charge_at, charge_of, no_position}
use Rattle.rules.specs.Sheet.{open_line, charge_line, charge_lines}
use Rattle.rules.specs.declared.Position.{Position}
use Rattle.rules.specs.declared.Book.{Book}
use Rattle.rules.specs.declared.Line.{Line}
use Rattle.rules.specs.declared.Line.TheVariants.{Open, Charge}
use Rattle.laws.specs.Cases.{cond_yes, cond_no}

-- ── positions: what is left from record i on ──

pub open_is : (p : Position) (account security : ℕ) → account ≡ account_of p → security ≡ security_of p
    → Open p.number account security p.quantity p.money ≡ open_line p
unfolding open_line
open_is p account security a s = ap₂ (λ (x y : ℕ). Open p.number x y p.quantity p.money) a s

abbrev pub open_left : List Position → ℕ → List Line
open_left ps i = map open_line (drop i ps)

pub open_more : (ps : List Position) (i : ℕ) (l : Line) → i < length ps → l ≡ open_line (get_or ps i no_position)
    → open_left ps i ≡ (l ∷ []) ++ open_left ps (i + 1)
open_more ps i l h e =
    ap (map open_line) (drop-cons ps i no_position h)
    ∙ ap (λ (m : ℕ). open_line (get_or ps i no_position) ∷ open_left ps m) (sym (add-one i))
    ∙ ap (λ (x : Line). x ∷ open_left ps (i + 1)) (sym e)

pub open_done : (ps : List Position) (i : ℕ) → i ≡ length ps → open_left ps i ≡ []
open_done ps i e = ap (λ (m : ℕ). open_left ps m) e ∙ ap (map open_line) (drop-length ps)

-- ── charges: what is left from a place on ──

-- the line of one charge, if it is not zero
unfoldable pub charge_entry : ℕ → ℕ → Mils → List Line
charge_entry account currency m = cond (is_zero (mils_of m)) [] (Charge account currency m ∷ [])

pub charge_none : (account currency : ℕ) (m : Mils) → nat_abs (mils_of m) ≡ 0 → charge_entry account currency m ≡ []
unfolding charge_entry is_zero
charge_none account currency m e = cond_yes _ _ (eq-eqb (nat_abs (mils_of m)) 0 e)

pub charge_some : (account currency : ℕ) (m : Mils) → (nat_abs (mils_of m) ≡ 0 → ⊥) → charge_entry account currency m ≡ Charge account currency m ∷ []
unfolding charge_entry is_zero
charge_some account currency m e = cond_no _ _ (ne_eqb (nat_abs (mils_of m)) 0 e)

-- the line of the charge at a place
abbrev pub entry_at : List Mils → ℕ → List Line
entry_at cs i = charge_entry (i / 4) (i % 4) (get_or cs i (mils (pos 0)))

unfoldable pub entry_lines : List Mils → List Line
entry_lines cs = each (entry_at cs) (from 0 256)

abbrev pub charges_left : List Mils → ℕ → List Line
charges_left cs i = each (entry_at cs) (from i (256 - i))

pub charges_first : (cs : List Mils) → entry_lines cs ≡ charges_left cs 0
unfolding entry_lines
charges_first cs = refl

each_from : (f : ℕ → List Line) (i n : ℕ) → each f (from i (suc n)) ≡ f i ++ each f (from (suc i) n)
unfolding each from
each_from f i n = refl

pub charges_more : (cs : List Mils) (i : ℕ) → i < 256 → charges_left cs i ≡ entry_at cs i ++ charges_left cs (i + 1)
charges_more cs i h =
    let e : 256 - i ≡ suc (256 - (i + 1)) = omega arith in
    ap (λ (n : ℕ). each (entry_at cs) (from i n)) e
    ∙ each_from (entry_at cs) i (256 - (i + 1))
    ∙ ap (λ (m : ℕ). entry_at cs i ++ each (entry_at cs) (from m (256 - (i + 1)))) (sym (add-one i))

pub charges_done : (cs : List Mils) (i : ℕ) → 256 ≤ i → charges_left cs i ≡ []
unfolding each from
charges_done cs i h = let e : 256 - i ≡ 0 = omega arith in ap (λ (n : ℕ). each (entry_at cs) (from i n)) e

-- ── the places in their order are the accounts, and for each account its currencies ──

each_split : (g : ℕ → List Line) (i m n : ℕ) → each g (from i m) ++ each g (from (m + i) n) ≡ each g (from i (m + n))
unfolding each from
each_split g i zero n = rw (zero-add i, zero-add n)
each_split g i (suc m) n =
    let e : suc m + i ≡ m + suc i = omega arith in
    append_assoc (g i) (each g (from (suc i) m)) (each g (from (suc m + i) n))
    ∙ ap (λ (k : ℕ). g i ++ (each g (from (suc i) m) ++ each g (from k n))) e
    ∙ ap (λ (l : List Line). g i ++ l) (each_split g (suc i) m n)
    ∙ ap (λ (k : ℕ). each g (from i k)) (sym (suc-add m n))

module _ (f : ℕ → ℕ → List Line) (g : ℕ → List Line) (same : (a c : ℕ) → c < 4 → f a c ≡ g (c + a * 4)) where
  currencies_are : (a m j : ℕ) → m + j ≤ 4 → each (f a) (from j m) ≡ each g (from (j + a * 4) m)
  unfolding each from
  currencies_are a zero j h = refl
  currencies_are a (suc m) j h =
      ap₂ (λ (x y : List Line). x ++ y) (same a j (omega arith)) (currencies_are a m (suc j) (omega arith))
      ∙ ap (λ (k : ℕ). g (j + a * 4) ++ each g (from k m)) (suc-add j (a * 4))

  places_are : (n i : ℕ) → each (λ a. each (f a) (from 0 4)) (from i n) ≡ each g (from (i * 4) (n * 4))
  unfolding each from
  places_are zero i = refl
  places_are (suc n) i =
      let front : 0 + i * 4 ≡ i * 4 = omega arith in
      let behind : suc i * 4 ≡ 4 + i * 4 = omega arith in
      let all : 4 + n * 4 ≡ suc n * 4 = omega arith in
      ap₂ (λ (x y : List Line). x ++ y) (currencies_are i 4 0 (omega arith)) (places_are n (suc i))
      ∙ ap₂ (λ (j k : ℕ). each g (from j 4) ++ each g (from k (n * 4))) front behind
      ∙ each_split g (i * 4) 4 (n * 4)
      ∙ ap (λ (m : ℕ). each g (from (i * 4) m)) all

same_entry : (k : Book) (a c : ℕ) → c < 4 → charge_line k a c ≡ entry_at k.charges (c + a * 4)
unfolding charge_line charge_entry charge_of charge_at
same_entry k a c h =
    let account : (c + a * 4) / 4 ≡ a = omega arith in
    let currency : (c + a * 4) % 4 ≡ c = omega arith in
    let place : a * 4 + c ≡ c + a * 4 = omega arith in
    rw (account, currency, place)

pub charges_are : (k : Book) → charge_lines k ≡ entry_lines k.charges
unfolding charge_lines entry_lines every_account every_currency
charges_are k = places_are (charge_line k) (entry_at k.charges) (same_entry k) 64 0
