-- The calls that write a line. Where the written part is handed back, its bytes and its place are one result, and so are tally and refusal; the buffer behind the
-- part is no longer there to be named (docs/PROMISES.md, exception 1), and `put_counted` is the same writing with every byte of it promised.
use Rattle.std.specs.Prelude.{◌≡◌, refl, length}
use Rattle.std.proofs.Common.{sym, ◌∙◌}
use contract.Lifetimes.{Lfts}
use contract.Monad.{fact}
use denote.Triple.Clauses.{AtExit}
use borrow.Fn.World.{World, ArgsD, ResD}
use Rattle.rules.specs.Sheet.{line_answer, line_part, line_spot, line_tally}
use Rattle.laws.specs.RefusalNumbers.{same_value}
use Rattle.one_result.specs.One.{One}
use Rattle.lines.proofs.put_counted.Kinds as put-kinds
use Rattle.lines.proofs.put_counted.Reads as put-promise
use Rattle.lines.proofs.line_part.Kinds as part-kinds
use Rattle.lines.proofs.line_part.Reads as part-promise
use Rattle.lines.specs.contracts.write_line as write

-- refusal and tally, and every byte of the buffer
pub put_one : One 1 put-kinds.ps put-kinds.r put-promise.Post (λ κs x s y t. (x ≡ y) × (s.0.now ≡ t.0.now))
put_one κs a x s y t p q = (same_value a.1.1.0 x y (p.0 ∙ sym q.0) (p.1 ∙ sym q.1), p.2 ∙ sym q.2)

-- the part and where it stands, and the refusal
pub part_one : One 2 part-kinds.ps part-kinds.r part-promise.Post (λ κs x s y t. (x.now ≡ y.now) × (x.ref_ptr ≡ y.ref_ptr) × (s.1.1.1.0.now ≡ t.1.1.1.0.now))
part_one κs a x s y t p q = (p.0 ∙ sym q.0, p.1 ∙ sym q.1, p.2 ∙ sym q.2)

-- `write_line` is lent a struct, and rattle makes no plain reading of such a contract. So its claim is written here, and `write_says` shows that the contract is this
-- claim and nothing else.
abbrev pub Written : (κs : Lfts 3) → ArgsD write.signature κs → ResD write.signature κs → AtExit write.ended κs → Type 0
Written κs a x s =
    (x.now ≡ line_part a.0.now a.1.0 a.1.1.0.now)
    × (x.ref_ptr ≡ line_spot a.0.ref_ptr)
    × (s.1.1.0.now ≡ line_tally (length a.0.now) a.1.0 a.1.1.0.now)
    × (s.1.1.1.0.now ≡ line_answer (length a.0.now) a.1.0 a.1.1.0.now)

pub write_says : (w : World) (κs : Lfts 3) (a : ArgsD write.signature κs) (x : ResD write.signature κs) (s : AtExit write.ended κs)
    → (write.clauses w.𝓛 w.𝓜.mem w.𝓡.run κs a).ensures tt x s ≡ fact w.𝓤 (Written κs a x s)
write_says w κs a x s = refl

-- the part and where it stands, the tally and the refusal
pub write_one : (κs : Lfts 3) (a : ArgsD write.signature κs) (x : ResD write.signature κs) (s : AtExit write.ended κs)
    (y : ResD write.signature κs) (t : AtExit write.ended κs) → Written κs a x s → Written κs a y t
    → (x.now ≡ y.now) × (x.ref_ptr ≡ y.ref_ptr) × (s.1.1.0.now ≡ t.1.1.0.now) × (s.1.1.1.0.now ≡ t.1.1.1.0.now)
write_one κs a x s y t p q = (p.0 ∙ sym q.0, p.1 ∙ sym q.1, p.2 ∙ sym q.2, p.3 ∙ sym q.3)
