-- The fields of a record of a call file, where they stand in the file.
use Rattle.std.specs.Prelude.{◌≡◌, refl, List, [], ◌∷◌, ℕ, zero, suc, ◌+◌, ◌≤◌, take, drop}
use Rattle.std.proofs.Common.{sym, ap, ◌∙◌, lit≤, drop-drop}
use Rattle.fields.specs.Field.{field}
use Rattle.fields.specs.FieldLaws.{field_from, field_in}
use Rattle.rules.specs.Records.{trade_in}
use Rattle.rules.specs.declared.Trade.{Trade}

-- ── the body ──

-- the body of a record at a place: what follows its length; and the codes of a create there
abbrev pub body_at : ℕ → ℕ → List ℕ → List ℕ
body_at long place file = take long (drop 2 (drop place file))

abbrev pub codes_at : ℕ → List ℕ → List ℕ
codes_at place file = take 32 (drop (place + 3) file)

-- ── the fields of a body ──

drop_one : (n : ℕ) (l : List ℕ) → drop 1 (take (suc n) l) ≡ take n (drop 1 l)
drop_one zero [] = refl
drop_one (suc n) [] = refl
drop_one n (x ∷ l) = refl

module _ (place : ℕ) (file : List ℕ) where
  pub field_body : (w at long : ℕ) → at + w ≤ long → field w at (body_at long place file) ≡ field w (place + (2 + at)) file
  field_body w at long h = field_in w at long 2 (drop place file) h ∙ field_from w (2 + at) place file

  pub trade_is : (n b s x q p : ℕ) → n ≡ field 2 (place + 3) file → b ≡ field 1 (place + 5) file → s ≡ field 1 (place + 6) file
      → x ≡ field 1 (place + 7) file → q ≡ field 4 (place + 8) file → p ≡ field 4 (place + 12) file
      → ◌≡◌ {A = Trade} (record { number = n; buyer = b; seller = s; security = x; quantity = q; price = record { 0 = p } }) (trade_in (body_at 14 place file))
  unfolding trade_in
  trade_is n b s x q p en eb es ex eq ep =
      rw (
        en,
        eb,
        es,
        ex,
        eq,
        ep,
        field_body 2 1 14 (lit≤ tt),
        field_body 1 3 14 (lit≤ tt),
        field_body 1 4 14 (lit≤ tt),
        field_body 1 5 14 (lit≤ tt),
        field_body 4 6 14 (lit≤ tt),
        field_body 4 10 14 (lit≤ tt),
      )

  pub codes_in_lem : codes_at place file ≡ drop 1 (body_at 33 place file)
  codes_in_lem = ap (take 32) (sym (drop-drop 1 2 (drop place file) ∙ drop-drop 3 place file)) ∙ sym (drop_one 32 (drop 2 (drop place file)))
