-- The totals of the converted sums: what rates and haircuts have passed, sums up to the limit, and one currency more.
use Rattle.std.specs.Prelude.{◌≡◌, refl, List, [], ◌∷◌, ℕ, zero, suc, ◌+◌, ◌<◌, ◌≤◌, leb, length, get_or, take, ℤ, Option, Some, None}
use Rattle.std.proofs.Math.Path.{sym, ap}
use Rattle.std.proofs.Common.{ap₂, ◌∙◌, add-one, arith, take-suc, take_all, leb-true, leb-false}
use Rattle.exact.specs.MulDiv.{limit}
use Rattle.exact.specs.Rounding.{capped, capped_whole, capped_past}
use Rattle.units_rounded.specs.Conversion.{favourable_of, unfavourable_of}
use Rattle.units_rounded.specs.ConversionLaws.{Terms}
use Rattle.units.specs.declared.Mils.{Mils}
use Rattle.marking_sums.specs.declared.conversion.Side.{Side}
use Rattle.marking_sums.specs.declared.conversion.Side.TheVariants.{Favourable, Unfavourable}
use Rattle.rules.specs.Words.{total, from}
use Rattle.rules.specs.Bounds.{every_currency}
use Rattle.laws.specs.Cases.{by_test}
use Rattle.laws.specs.Adding.{total_append}
use Rattle.laws.specs.Charging.{amount_at}

-- ── rates and haircuts that have passed ──

pub record Rates (rates haircuts : List ℕ) : Type 0 where
  pub rates_long : length rates ≡ 4
  pub haircuts_long : length haircuts ≡ 4
  pub each : (c : ℕ) → c < 4 → Terms (get_or rates c 0) (get_or haircuts c 0)

-- ── the totals ──

abbrev pub favourable_in : List Mils → List ℕ → List ℕ → ℕ → ℕ
favourable_in sums rates haircuts c = favourable_of (amount_at sums c) (get_or rates c 0) (get_or haircuts c 0)

abbrev pub unfavourable_in : List Mils → List ℕ → List ℕ → ℕ → ℕ
unfavourable_in sums rates haircuts c = unfavourable_of (amount_at sums c) (get_or rates c 0) (get_or haircuts c 0)

unfoldable pub favourable_sum : List Mils → List ℕ → List ℕ → ℕ
favourable_sum sums rates haircuts = total (favourable_in sums rates haircuts) every_currency

unfoldable pub unfavourable_sum : List Mils → List ℕ → List ℕ → ℕ
unfavourable_sum sums rates haircuts = total (unfavourable_in sums rates haircuts) every_currency

-- ── either side ──

abbrev pub converted_of : Side → ℤ → ℕ → ℕ → ℕ
converted_of Favourable = favourable_of
converted_of Unfavourable = unfavourable_of

abbrev pub converted_sum : Side → List Mils → List ℕ → List ℕ → ℕ
converted_sum Favourable = favourable_sum
converted_sum Unfavourable = unfavourable_sum

abbrev pub converted_in : Side → List Mils → List ℕ → List ℕ → ℕ → ℕ
converted_in side sums rates haircuts c = converted_of side (amount_at sums c) (get_or rates c 0) (get_or haircuts c 0)

pub converted_sum_is : (side : Side) (sums : List Mils) (rates haircuts : List ℕ)
    → total (converted_in side sums rates haircuts) every_currency ≡ converted_sum side sums rates haircuts
unfolding favourable_sum unfavourable_sum
converted_sum_is Favourable sums rates haircuts = refl
converted_sum_is Unfavourable sums rates haircuts = refl

-- ── two numbers up to the limit ──

abbrev pub together : Option ℕ → Option ℕ → Option ℕ
together (Some x) (Some y) = capped (x + y)
together (Some x) None = None
together None (Some y) = None
together None None = None

past_right : (r : Option ℕ) → together r None ≡ None
past_right (Some x) = refl
past_right None = refl

past_left : (r : Option ℕ) → together None r ≡ None
past_left (Some x) = refl
past_left None = refl

pub together_capped : (x y : ℕ) → together (capped x) (capped y) ≡ capped (x + y)
together_capped x y =
    by_test (leb x limit)
    (λ a. by_test (leb y limit)
    (λ b. ap₂ together (capped_whole x (leb-true x limit a)) (capped_whole y (leb-true y limit b)))
    (λ b. let h = leb-false y limit b in ap (together (capped x)) (capped_past y h) ∙ past_right (capped x) ∙ sym (capped_past (x + y) (omega arith))))
    (λ a. let h = leb-false x limit a in ap (λ (r : Option ℕ). together r (capped y)) (capped_past x h) ∙ past_left (capped y) ∙ sym (capped_past (x + y) (omega arith)))

-- ── one currency more ──

currencies_length : length every_currency ≡ 4
unfolding every_currency from
currencies_length = refl

currency_at : (c : ℕ) → c < 4 → get_or every_currency c 0 ≡ c
unfolding every_currency from
currency_at zero h = refl
currency_at (suc zero) h = refl
currency_at (suc (suc zero)) h = refl
currency_at (suc (suc (suc zero))) h = refl
currency_at (suc (suc (suc (suc c)))) h = absurd (omega arith)

module _ (f : ℕ → ℕ) where
  pub total_none : Some 0 ≡ capped (total f (take 0 every_currency))
  unfolding total
  total_none = sym (capped_whole 0 (omega arith))

  total_take : (c : ℕ) → c < 4 → total f (take (c + 1) every_currency) ≡ total f (take c every_currency) + f c
  unfolding total
  total_take c h =
      ap (λ (i : ℕ). total f (take i every_currency)) (add-one c)
      ∙ ap (total f) (take-suc every_currency c 0 (omega (arith, currencies_length)))
      ∙ total_append f (take c every_currency) (get_or every_currency c 0 ∷ [])
      ∙ omega (arith, ap f (currency_at c h))

  pub total_more : (c : ℕ) (r s t : Option ℕ) → c < 4 → r ≡ capped (total f (take c every_currency)) → s ≡ capped (f c) → t ≡ together r s
      → t ≡ capped (total f (take (c + 1) every_currency))
  total_more c r s t h e g u =
      u ∙ ap₂ together e g ∙ together_capped (total f (take c every_currency)) (f c) ∙ sym (ap capped (total_take c h))

  pub total_done : (c : ℕ) (r : Option ℕ) → 4 ≤ c → r ≡ capped (total f (take c every_currency)) → r ≡ capped (total f every_currency)
  total_done c r h e = e ∙ ap (λ (l : List ℕ). capped (total f l)) (take_all c every_currency (omega (arith, currencies_length)))
