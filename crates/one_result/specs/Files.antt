-- The calls on a call file: one record, the whole file, the whole sheet.
use Rattle.std.specs.Prelude.{◌≡◌}
use Rattle.std.proofs.Common.{sym, ◌∙◌}
use Rattle.laws.specs.RefusalNumbers.{same_value}
use Rattle.one_result.specs.One.{One}
use Rattle.callfile.proofs.play_record.Kinds as record-kinds
use Rattle.callfile.proofs.play_record.Reads as record-promise
use Rattle.playing.proofs.play.Kinds as play-kinds
use Rattle.playing.proofs.play.Reads as play-promise
use Rattle.sheets.proofs.sheet.Kinds as sheet-kinds
use Rattle.sheets.proofs.sheet.Reads as sheet-promise

-- the answer, and every byte of the book
pub record_one : One 2 record-kinds.ps record-kinds.r record-promise.Post (λ κs x s y t. (x ≡ y) × (s.0.now ≡ t.0.now))
record_one κs a x s y t p q = (p.0 ∙ sym q.0, p.1 ∙ sym q.1)

-- the answer (its number, and the size), every byte of the answers and of the book
pub play_one : One 3 play-kinds.ps play-kinds.r play-promise.Post (λ κs x s y t. (x ≡ y) × (s.1.1.0.now ≡ t.1.1.0.now) × (s.0.now ≡ t.0.now))
play_one κs a x s y t p q = (
  same_value 0 x y (p.0 ∙ sym q.0) (p.1 ∙ sym q.1),
  p.2 ∙ sym q.2,
  p.3 ∙ sym q.3,
)

-- the answer (its number, and the size), every byte of the buffer and of the book
pub sheet_one : One 3 sheet-kinds.ps sheet-kinds.r sheet-promise.Post (λ κs x s y t. (x ≡ y) × (s.1.1.0.now ≡ t.1.1.0.now) × (s.0.now ≡ t.0.now))
sheet_one κs a x s y t p q = (
  same_value 0 x y (p.0 ∙ sym q.0) (p.1 ∙ sym q.1),
  p.2 ∙ sym q.2,
  p.3 ∙ sym q.3,
)
