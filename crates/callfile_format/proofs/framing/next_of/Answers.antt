-- `callfile_format::framing::next_of` meets its contract. Assumes nothing.
use Rattle.std.proofs.Common.{ℕ, ◌+◌, sym, ap, ◌∙◌, arith}
use Rattle.fields.specs.Codec.{field_at}
use Rattle.rules.specs.Records.{length_of}
use Rattle.callfile_format.proofs.framing.next_of.Goals as goal

pub returns : goal.returns
unfolding length_of
returns c =
    let a = c.args in
    (omega arith, ap (λ (n : ℕ). a.place + 2 + n) (c.get-long.ensures.0 ∙ sym (field_at 2 a.place a.file.now)))
