-- The sheet of a refused file, in the steps of the code.
use Rattle.std.specs.Prelude.{◌≡◌, refl, true, List, [], ◌∷◌, ◌++◌, ℕ, ◌≤◌, length, drop}
use Rattle.std.proofs.Common.{sym, ap, subst, arith}
use Rattle.rules.specs.Sheet.{ended, refused_sheet}
use Rattle.rules.specs.declared.Line.{Line}
use Rattle.rules.specs.declared.Tally.{Tally}
use Rattle.rules.specs.declared.Line.TheVariants.{Refusal, End}
use Rattle.sheet_laws.specs.Bounded.{refused_length}
use Rattle.sheet.specs.Written.{Ready, Wrote, start, texts_of, put_if, bytes_of_lem, ready_left, ready_right, wrote_more}
use Rattle.sheet.specs.Whole.{front_is}

abbrev first : List Line
first = Refusal 0 18 ∷ []

abbrev last : List Line
last = End 1 ∷ []

both_are : refused_sheet ≡ first ++ last
unfolding refused_sheet ended
both_are = refl

module _ (n : ℕ) (h : length (texts_of refused_sheet) ≤ n) where
  ready : Ready true n start (first ++ last)
  ready =
      let e = ap (λ (ls : List Line). length (texts_of ls)) both_are in
      record { fits = λ _. omega (arith, h, e); short = omega (arith, refused_length, e); few = omega arith }

  pub ready_first : Ready true n start first
  ready_first = ready_left true n start first last ready

  pub ready_last : (bs cs : List ℕ) (s : Tally) → length cs ≡ n → Wrote true bs start first cs s → Ready true (length cs) s last
  ready_last bs cs s e w = subst (λ (m : ℕ). Ready true m s last) (sym e) (ready_right true n bs cs start s first last ready w)

-- both are written, one behind the other
pub put_both : (bs cs ds : List ℕ) (s t : Tally) → length (texts_of refused_sheet) ≤ length bs → Wrote true bs start first cs s → Wrote true cs s last ds t
    → (t.bytes ≡ length (texts_of refused_sheet)) × (ds ≡ texts_of refused_sheet ++ drop (length (texts_of refused_sheet)) bs)
unfolding put_if
put_both bs cs ds s t h v w =
    let whole = wrote_more true bs cs ds start s t first last v w in
    let e = ap texts_of both_are in (
      omega (arith, bytes_of_lem t start (first ++ last) whole.reach, ap length e),
      front_is bs ds (texts_of refused_sheet) h (rw e whole.bytes),
    )
