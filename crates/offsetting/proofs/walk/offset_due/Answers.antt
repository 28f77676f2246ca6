-- `offsetting::walk::offset_due` meets its contract. Assumes nothing.
use Rattle.std.proofs.Common.{ap, ◌∙◌, ℕ, ◌+◌, length}
use Rattle.rules.specs.Words.{keep}
use Rattle.rules.specs.Book.{open_of}
use Rattle.rules.specs.Layout.{book_of, bytes_of}
use Rattle.laws.specs.DueDays.{is_older}
use Rattle.offsetting.specs.Borders.{due_by}
use Rattle.offsetting.specs.Result.{pack_asks, offset_is}
use Rattle.offsetting.proofs.walk.offset_due.Goals as goal

pub offset_rows-requires : goal.offset_rows-requires
offset_rows-requires c =
    let b = book_of c.args.b.now in
    record {
      ready = c.requires.0;
      few = c.requires.1.few;
      older_are = c.due_before-older.ensures ∙ ap (λ (n : ℕ). length (keep (is_older n) (open_of b))) c.day_at-today.ensures;
      due_are = c.due_before-due.ensures ∙ ap (λ (n : ℕ). length (keep (is_older (n + 1)) (open_of b))) c.day_at-today.ensures ∙ due_by b.day (open_of b);
    }

pub pack-requires : goal.pack-requires
pack-requires c = pack_asks _ _ c.requires.1 c.offset_rows.ensures.beside

pub returns : goal.returns
returns c =
    let is = offset_is _ _ c.offset_rows.ensures in
    (c.pack.ensures.0 ∙ ap bytes_of is, c.pack.ensures.1 ∙ is)
