-- `lines_text::wording::words_of` meets its contract, a kind of line at a time. Assumes nothing.
use mathlib.Core.Path.{◌≡◌, sym, ap, ◌∙◌}
use mathlib.Core.List.{[], ◌∷◌}
use Prim.Native.Nat.{ℕ}
use Rattle.lines_text.specs.declared.Figure.{Figure}
use Rattle.lines_text.specs.LineWords.{worded, words_of}
use Rattle.lines_text.proofs.wording.words_of.Goals as goal

same : (h n : ℕ) {a b c d e a' b' c' d' e' : Figure} → a ≡ a' → b ≡ b' → c ≡ c' → d ≡ d' → e ≡ e'
    → worded h n (a ∷ b ∷ c ∷ d ∷ e ∷ []) ≡ worded h n (a' ∷ b' ∷ c' ∷ d' ∷ e' ∷ [])
same h n p q r s t = λ i. worded h n (p i ∷ q i ∷ r i ∷ s i ∷ t i ∷ [])

pub returns-in-Refusal : goal.returns-in-Refusal
unfolding words_of
returns-in-Refusal c =
    let z = c.plain-z.ensures in
    c.made.ensures
    ∙ same 82 2 c.plain.ensures c.plain-in-Refusal.ensures z z z
    ∙ sym (ap words_of c.in-Refusal.is)

pub returns-in-Place : goal.returns-in-Place
unfolding words_of
returns-in-Place c =
    let z = c.plain-z.ensures in
    c.made-in-Place.ensures ∙ same 88 1 c.plain-in-Place.ensures z z z z ∙ sym (ap words_of c.in-Place.is)

pub returns-in-Day : goal.returns-in-Day
unfolding words_of
returns-in-Day c =
    let z = c.plain-z.ensures in
    c.made-in-Day.ensures ∙ same 68 1 c.plain-in-Day.ensures z z z z ∙ sym (ap words_of c.in-Day.is)

pub returns-in-Open : goal.returns-in-Open
unfolding words_of
returns-in-Open c =
    c.made-in-Open.ensures
    ∙ same 80 5 c.plain-in-Open.ensures c.plain-in-Open-2.ensures c.plain-in-Open-3.ensures
    c.of_shares.ensures c.of_money.ensures
    ∙ sym (ap words_of c.in-Open.is)

pub returns-in-Charge : goal.returns-in-Charge
unfolding words_of
returns-in-Charge c =
    let z = c.plain-z.ensures in
    c.made-in-Charge.ensures
    ∙ same 67 3 c.plain-in-Charge.ensures c.plain-in-Charge-2.ensures c.of_money-in-Charge.ensures z z
    ∙ sym (ap words_of c.in-Charge.is)

pub returns-in-End : goal.returns-in-End
unfolding words_of
returns-in-End c =
    let z = c.plain-z.ensures in
    c.made-in-End.ensures ∙ same 69 1 c.plain-in-End.ensures z z z z ∙ sym (ap words_of c.in-End.is)
