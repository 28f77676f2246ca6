-- `exact::mul_div` meets its contract. Assumes nothing.
use Rattle.std.proofs.Common.{◌≡◌, ℕ, ◌/◌, Some, None, ap, refl, ◌∙◌, arith}
use Rattle.exact.specs.MulDiv.{mul_div, Digits, Divisor, zero_is, digits_of, is_big, big_is, big_more}
use Rattle.exact.proofs.mul_div.Goals as goal

-- v is w without its last digit: what one step leaves is what the next asks
step : (a d v w q r : ℕ) → Divisor d → v ≡ w / 65536 → Some (q, r) ≡ mul_div a v d → Digits a d w q r
step a d v w q r h e k = digits_of a d w q r h (k ∙ ap (λ (n : ℕ). mul_div a n d) e)

-- and where one step is past the limit, so is the next
past : (a d v w : ℕ) → Divisor d → v ≡ w / 65536 → None ≡ mul_div a v d → None ≡ mul_div a w d
past a d v w h e k = is_big a w d (big_more a w d h.some (big_is a (w / 65536) d (k ∙ ap (λ (n : ℕ). mul_div a n d) e)))

-- the digits of b, but for the last one or the last two
third : (b : ℕ) → b / 4294967296 ≡ b / 65536 / 65536
third b = omega arith

second : (b : ℕ) → b / 281474976710656 ≡ b / 4294967296 / 65536
second b = omega arith

pub one_digit-requires : goal.one_digit-requires
one_digit-requires c =
    let a = c.args in
    let e : a.b / 281474976710656 / 65536 ≡ 0 = omega arith in
    digits_of a.a a.d _ 0 0 c.requires (rw e (zero_is a.a a.d c.requires.some))

pub one_digit-requires-2 : goal.one_digit-requires-2
one_digit-requires-2 c = step _ _ _ _ _ _ c.requires (second c.args.b) c.in_ok-q.ensures

pub one_digit-requires-3 : goal.one_digit-requires-3
one_digit-requires-3 c = step _ _ _ _ _ _ c.requires (third c.args.b) c.in_ok-q-2.ensures

pub one_digit-requires-4 : goal.one_digit-requires-4
one_digit-requires-4 c = step _ _ _ _ _ _ c.requires refl c.in_ok-q-3.ensures

pub returns-in_err-q : goal.returns-in_err-q
returns-in_err-q c =
    let h = c.requires in
    c.from_residual.ensures ∙ past _ _ _ _ h refl (past _ _ _ _ h (third c.args.b) (past _ _ _ _ h (second c.args.b) c.in_err-q.ensures))

pub returns-in_err-q-2 : goal.returns-in_err-q-2
returns-in_err-q-2 c =
    let h = c.requires in
    c.from_residual-in_err-q-2.ensures ∙ past _ _ _ _ h refl (past _ _ _ _ h (third c.args.b) c.in_err-q-2.ensures)

pub returns-in_err-q-3 : goal.returns-in_err-q-3
returns-in_err-q-3 c = c.from_residual-in_err-q-3.ensures ∙ past _ _ _ _ c.requires refl c.in_err-q-3.ensures
