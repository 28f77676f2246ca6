-- The calls of `house`: creation, the seven that alter the book, the price question and marks. (A book, table or file that is lent to be read keeps its bytes: no
-- promise need say so.)
use Rattle.std.specs.Prelude.{◌≡◌}
use Rattle.std.proofs.Common.{sym, ◌∙◌}
use Rattle.laws.specs.RefusalNumbers.{same_answer, same_numbered}
use Rattle.one_result.specs.One.{One}
use Rattle.house.proofs.create.Kinds as create-kinds
use Rattle.house.proofs.create.Reads as create-promise
use Rattle.house.proofs.enter.Kinds as enter-kinds
use Rattle.house.proofs.enter.Reads as enter-promise
use Rattle.house.proofs.amend.Kinds as amend-kinds
use Rattle.house.proofs.amend.Reads as amend-promise
use Rattle.house.proofs.exclude.Kinds as exclude-kinds
use Rattle.house.proofs.exclude.Reads as exclude-promise
use Rattle.house.proofs.roll.Kinds as roll-kinds
use Rattle.house.proofs.roll.Reads as roll-promise
use Rattle.house.proofs.deposit.Kinds as deposit-kinds
use Rattle.house.proofs.deposit.Reads as deposit-promise
use Rattle.house.proofs.withdraw.Kinds as withdraw-kinds
use Rattle.house.proofs.withdraw.Reads as withdraw-promise
use Rattle.house.proofs.run.Kinds as run-kinds
use Rattle.house.proofs.run.Reads as run-promise
use Rattle.house.proofs.price.Kinds as price-kinds
use Rattle.house.proofs.price.Reads as price-promise
use Rattle.house.proofs.marks.Kinds as marks-kinds
use Rattle.house.proofs.marks.Reads as marks-promise

-- the answer, and every byte of the book
pub create_one : One 2 create-kinds.ps create-kinds.r create-promise.Post (λ κs x s y t. (x ≡ y) × (s.0.now ≡ t.0.now))
create_one κs a x s y t p q = (same_answer x y (p.0 ∙ sym q.0), p.1 ∙ sym q.1)

pub enter_one : One 1 enter-kinds.ps enter-kinds.r enter-promise.Post (λ κs x s y t. (x ≡ y) × (s.0.now ≡ t.0.now))
enter_one κs a x s y t p q = (same_answer x y (p.0 ∙ sym q.0), p.1 ∙ sym q.1)

pub amend_one : One 1 amend-kinds.ps amend-kinds.r amend-promise.Post (λ κs x s y t. (x ≡ y) × (s.0.now ≡ t.0.now))
amend_one κs a x s y t p q = (same_answer x y (p.0 ∙ sym q.0), p.1 ∙ sym q.1)

pub exclude_one : One 1 exclude-kinds.ps exclude-kinds.r exclude-promise.Post (λ κs x s y t. (x ≡ y) × (s.0.now ≡ t.0.now))
exclude_one κs a x s y t p q = (same_answer x y (p.0 ∙ sym q.0), p.1 ∙ sym q.1)

pub roll_one : One 1 roll-kinds.ps roll-kinds.r roll-promise.Post (λ κs x s y t. (x ≡ y) × (s.0.now ≡ t.0.now))
roll_one κs a x s y t p q = (same_answer x y (p.0 ∙ sym q.0), p.1 ∙ sym q.1)

pub deposit_one : One 1 deposit-kinds.ps deposit-kinds.r deposit-promise.Post (λ κs x s y t. (x ≡ y) × (s.0.now ≡ t.0.now))
deposit_one κs a x s y t p q = (same_answer x y (p.0 ∙ sym q.0), p.1 ∙ sym q.1)

pub withdraw_one : One 1 withdraw-kinds.ps withdraw-kinds.r withdraw-promise.Post (λ κs x s y t. (x ≡ y) × (s.0.now ≡ t.0.now))
withdraw_one κs a x s y t p q = (same_answer x y (p.0 ∙ sym q.0), p.1 ∙ sym q.1)

pub run_one : One 1 run-kinds.ps run-kinds.r run-promise.Post (λ κs x s y t. (x ≡ y) × (s.0.now ≡ t.0.now))
run_one κs a x s y t p q = (same_numbered x y (p.0 ∙ sym q.0), p.1 ∙ sym q.1)

-- the part, the refusal, and where the part stands
pub price_one : One 2 price-kinds.ps price-kinds.r price-promise.Post (λ κs x s y t. (x.now ≡ y.now) × (s.1.1.1.0.now ≡ t.1.1.1.0.now) × (x.ref_ptr ≡ y.ref_ptr))
price_one κs a x s y t p q = (p.0 ∙ sym q.0, p.1 ∙ sym q.1, p.2 ∙ sym q.2)

-- the answer
pub marks_one : One 5 marks-kinds.ps marks-kinds.r marks-promise.Post (λ κs x s y t. x ≡ y)
marks_one κs a x s y t p q = same_numbered x y (p.0 ∙ sym q.0)
