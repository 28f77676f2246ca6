-- `book::zeros::put_zeros` meets its contract: what `fill` leaves between two places is the zeros stored there. Assumes nothing.
use Rattle.std.proofs.Common.{◌≡◌, ℕ, ◌-◌, replicate, length, ap, ◌∙◌, append_assoc, arith, length-drop, drop-drop}
use Rattle.std.proofs.lemmas.List.{length-take-le, length-replicate}
use Rattle.fields.specs.FieldLaws.{stored_eq}
use Rattle.book.proofs.zeros.put_zeros.Goals as goal

pub returns : goal.returns
returns c =
    let n = c.args.to - c.args.from in
    let l = c.args.b.now in
    let long = length-take-le n _ (omega (arith, length-drop c.args.from l)) in
    let zeros : c.fill.new.self ≡ replicate n 0 = c.fill.ensures.after (λ y e. e) ∙ ap (λ (k : ℕ). replicate k 0) long in
    let sized : length (replicate {A = ℕ} n 0) ≡ n = length-replicate n 0 in
    rw (stored_eq l c.args.from (replicate n 0) (omega arith), append_assoc, zeros, sized, drop-drop n c.args.from l)
