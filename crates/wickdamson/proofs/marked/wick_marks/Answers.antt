-- `wickdamson::marked::wick_marks` meets its contract: the due and the sums, or refused. Assumes nothing.
use Rattle.std.proofs.Common.{rules, ◌≡◌, ◌<◌, ◌^◌, sym, ap, ◌∙◌, [], ◌∷◌, List, ℤ, map, length}
use lib.Signed.{mag}
use mir.Syntax.{w64}
use mir.Val.{to_z, of_z}
use mir.Facts.{to_z-of_z}
use Rattle.units.specs.Units.{mils_of}
use Rattle.wickdamson.specs.Figures.{due_told, marks_refused_told, four_sums}
use Rattle.wickdamson.proofs.marked.wick_marks.Goals as goal

-- a figure that fits is stored as itself
stored : (z : ℤ) → mag z < 2 ^ 63 → to_z w64 (of_z w64 z) ≡ z
stored z fits = to_z-of_z {w = w64} {z = z} (record { sfits = fits })

listed : (a b c d e f g h : ℤ) → a ≡ e → b ≡ f → c ≡ g → d ≡ h → a ∷ b ∷ c ∷ d ∷ [] ≡ e ∷ f ∷ g ∷ h ∷ []
listed a b c d e f g h p q r s = λ i. p i ∷ q i ∷ r i ∷ s i ∷ []

pub returns-in-Ok : goal.returns-in-Ok
returns-in-Ok c =
    let e = rw c.byte_of-a.ensures at c.in-Ok.ensures in
    let four : length c.in-Ok.marks.sums ≡ 4 = search rules in
    due_told _ c.in-Ok.marks e.0 _ _ _ _ _
    (stored c.figure_of.result c.figure_of.type_inv ∙ c.figure_of.ensures)
    (listed _ _ _ _ _ _ _ _
    (stored c.figure_of-in-Ok.result c.figure_of-in-Ok.type_inv ∙ c.figure_of-in-Ok.ensures)
    (stored c.figure_of-in-Ok-2.result c.figure_of-in-Ok-2.type_inv ∙ c.figure_of-in-Ok-2.ensures)
    (stored c.figure_of-in-Ok-3.result c.figure_of-in-Ok-3.type_inv ∙ c.figure_of-in-Ok-3.ensures)
    (stored c.figure_of-in-Ok-4.result c.figure_of-in-Ok-4.type_inv ∙ c.figure_of-in-Ok-4.ensures)
    ∙ four_sums _ _ four)

pub returns-in-Err : goal.returns-in-Err
returns-in-Err c =
    let e = rw c.byte_of-a.ensures at c.in-Err.ensures in
    let t = marks_refused_told _ _ e.0 in
    (c.into.ensures ∙ t.0, t.1)
