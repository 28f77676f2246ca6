-- The answer of marks by the four sums, and that it is the rules' once the tests before 16 are passed.
use Rattle.std.specs.Prelude.{◌≡◌, refl, true, false, cond, ◌||◌, List, [], ◌∷◌, ℕ, ◌-◌, ◌≤◌, length, get_or, pos, Some, None, Result, Ok, Err}
use Rattle.std.proofs.Common.{sym, ap, ◌∙◌, arith, ne_eqb, ltb-true, ltb-false}
use Rattle.std.proofs.Math.Bool.{or-true}
use Rattle.std.proofs.lemmas.Option.{none-some}
use Rattle.exact.specs.MulDiv.{limit}
use Rattle.exact.specs.Rounding.{capped, capped_whole, capped_past}
use Rattle.units.specs.Units.{mils_of, mils}
use Rattle.units.specs.declared.Mils.{Mils}
use Rattle.rules.specs.Words.{any, total, from, above, first}
use Rattle.rules.specs.Bounds.{every_currency, most_converted}
use Rattle.rules.specs.Marks.{Terms, rate_of, haircut_of, marked_of, lacks_price, sum_of, favourable_total, unfavourable_total, due_and_sums, passes_limit}
use Rattle.rules.specs.declared.Book.{Book}
use Rattle.rules.specs.declared.Marks.{Marks}
use Rattle.laws.specs.Cases.{by_test}
use Rattle.laws.specs.Charging.{amount_at}
use Rattle.marking.specs.SoundMarks.{terms_tests, book_tests, number_sound, marks_sound}
use Rattle.marking_sums.specs.Converting.{favourable_sum, unfavourable_sum}
use Rattle.marking.specs.Passing.{fault_first, fine_first}

-- ── a total up to the limit ──

pub past_is : (n : ℕ) → None ≡ capped n → above most_converted n ≡ true
past_is n e =
    by_test (above most_converted n) (λ y. y) (λ z. absurd (none-some n (e ∙ capped_whole n (ltb-false limit n z))))

pub total_is : (n x : ℕ) → Some x ≡ capped n → (x ≡ n) × (above most_converted n ≡ false)
total_is n x e =
    by_test (above most_converted n)
    (λ y. absurd (none-some x (sym (e ∙ capped_past n (ltb-true limit n y)))))
    (λ z. let f : Some x ≡ Some n = e ∙ capped_whole n (ltb-false limit n z) in (cc, z))

-- ── the answer by the sums ──

abbrev pub amount : List Mils → ℕ → Mils
amount sums c = get_or sums c (mils (pos 0))

abbrev pub amounts : List Mils → List Mils
amounts sums = amount sums 0 ∷ amount sums 1 ∷ amount sums 2 ∷ amount sums 3 ∷ []

unfoldable pub due_with : List Mils → ℕ → ℕ → Marks
due_with sums up down = record { due = mils (pos (down - up)); sums = amounts sums }

pub due_is : (sums : List Mils) (up down n : ℕ) (due : Mils) → mils_of due ≡ pos n → n ≡ down - up
    → record { due = due; sums = amounts sums } ≡ due_with sums up down
unfolding due_with
due_is sums up down n due e f = ap (λ (m : Mils). record { due = m; sums = amounts sums }) (ap mils (e ∙ ap pos f))

unfoldable pub answer_of : List Mils → List ℕ → List ℕ → Result Marks ℕ
answer_of sums rates haircuts =
    let up = favourable_sum sums rates haircuts in
    let down = unfavourable_sum sums rates haircuts in
    cond (above most_converted up || above most_converted down) (Err 16) (Ok (due_with sums up down))

-- as the code has it, with the totals up and down
module _ (sums : List Mils) (rates haircuts : List ℕ) where
  pub answer_past_up : None ≡ capped (favourable_sum sums rates haircuts) → Err 16 ≡ answer_of sums rates haircuts
  unfolding answer_of
  answer_past_up e = rw (past_is (favourable_sum sums rates haircuts) e)

  pub answer_past_down : None ≡ capped (unfavourable_sum sums rates haircuts) → Err 16 ≡ answer_of sums rates haircuts
  unfolding answer_of
  answer_past_down e = rw (past_is (unfavourable_sum sums rates haircuts) e, or-true)

  pub down_within : (down : ℕ) → Some down ≡ capped (unfavourable_sum sums rates haircuts) → down ≤ limit
  down_within down e =
      let d = total_is (unfavourable_sum sums rates haircuts) down e in
      rw d.0 (ltb-false limit (unfavourable_sum sums rates haircuts) d.1)

  pub answer_due : (up down : ℕ) → Some up ≡ capped (favourable_sum sums rates haircuts) → Some down ≡ capped (unfavourable_sum sums rates haircuts)
      → Ok (due_with sums up down) ≡ answer_of sums rates haircuts
  unfolding answer_of
  answer_due up down e f =
      let u = total_is (favourable_sum sums rates haircuts) up e in
      let d = total_is (unfavourable_sum sums rates haircuts) down f in
      rw (u.0, d.0, u.1, d.1)

-- the four sums
pub four_sums : (sums : List Mils) → length sums ≡ 4
    → sums ≡ amounts sums
four_sums [] h = absurd (omega arith)
four_sums (a ∷ []) h = absurd (omega arith)
four_sums (a ∷ b ∷ []) h = absurd (omega arith)
four_sums (a ∷ b ∷ c ∷ []) h = absurd (omega arith)
four_sums (a ∷ b ∷ c ∷ d ∷ []) h = refl
four_sums (a ∷ b ∷ c ∷ d ∷ e ∷ l) h = absurd (omega arith)

-- ── that it is the rules' ──

module _ (k : Book) (a : ℕ) (t : Terms) where
  pub refused_terms : (n : ℕ) → n ≡ first (terms_tests a t []) → (n ≡ 0 → ⊥) → Err n ≡ marks_sound k a t
  unfolding marks_sound number_sound
  refused_terms n e h = rw (fault_first a t (book_tests k a t) n e h, ne_eqb n 0 h)

  module _ (fine : first (terms_tests a t []) ≡ 0) where
    number_rest : number_sound k a t ≡ first (book_tests k a t)
    unfolding number_sound
    number_rest = fine_first a t (book_tests k a t) fine

    pub refused_unpriced : any (lacks_price t) (marked_of k a) ≡ true → Err 17 ≡ marks_sound k a t
    unfolding marks_sound book_tests first
    refused_unpriced e = rw (number_rest, e)

    module _ (priced : any (lacks_price t) (marked_of k a) ≡ false) (sums : List Mils) (are : (c : ℕ) → amount_at sums c ≡ sum_of k t (marked_of k a) c) where
      favourable_is : favourable_sum sums t.rates t.haircuts ≡ favourable_total k t (marked_of k a)
      unfolding favourable_sum favourable_total total every_currency from rate_of haircut_of
      favourable_is = rw (are 0, are 1, are 2, are 3)

      unfavourable_is : unfavourable_sum sums t.rates t.haircuts ≡ unfavourable_total k t (marked_of k a)
      unfolding unfavourable_sum unfavourable_total total every_currency from rate_of haircut_of
      unfavourable_is = rw (are 0, are 1, are 2, are 3)

      answer_is : answer_of sums t.rates t.haircuts ≡ cond (passes_limit k t (marked_of k a)) (Err 16) (Ok (due_and_sums k t (marked_of k a)))
      unfolding answer_of passes_limit due_and_sums due_with
      answer_is = rw (favourable_is, unfavourable_is, ap mils (are 0), ap mils (are 1), ap mils (are 2), ap mils (are 3))

      pub answer_right : answer_of sums t.rates t.haircuts ≡ marks_sound k a t
      unfolding marks_sound book_tests first
      answer_right =
          answer_is
          ∙ by_test (passes_limit k t (marked_of k a)) (λ y. rw (number_rest, priced, y)) (λ n. rw (number_rest, priced, n))
