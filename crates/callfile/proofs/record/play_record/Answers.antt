-- `callfile::record::play_record` meets its contract: the file's refusals, another version, the end, and what stands there. Assumes nothing.
use Rattle.std.proofs.Common.{sym, ◌∙◌}
use Rattle.callfile.specs.Answering.{file_long, book_wrong, not_refused, version_other, file_ends, told}
use Rattle.callfile.proofs.record.play_record.Goals as goal

pub returns-then-file-gt65535 : goal.returns-then-file-gt65535
returns-then-file-gt65535 c = told _ _ _ _ _ (file_long _ _ _ c.if-file-gt65535.true)

pub returns-then-book-ne-BOOK_BYTES : goal.returns-then-book-ne-BOOK_BYTES
returns-then-book-ne-BOOK_BYTES c = told _ _ _ _ _ (book_wrong _ _ _ c.if-file-gt65535.false c.if-book-ne-BOOK_BYTES.true)

pub returns-then-other_version : goal.returns-then-other_version
returns-then-other_version c =
    let a = c.args in
    told _ _ _ _ _ (version_other a.book.now a.file.now a.place (not_refused _ _ a.place c.if-file-gt65535.false c.if-book-ne-BOOK_BYTES.false) (sym c.other_version.ensures ∙ c.if-other_version.true))

pub returns-then-past_end : goal.returns-then-past_end
returns-then-past_end c =
    let a = c.args in
    told _ _ _ _ _ (file_ends a.book.now a.file.now a.place (not_refused _ _ a.place c.if-file-gt65535.false c.if-book-ne-BOOK_BYTES.false) (sym c.other_version.ensures ∙ c.if-other_version.false)
    (sym c.past_end.ensures ∙ c.if-past_end.true))

pub applied-requires : goal.applied-requires
applied-requires c = (
  record {
    short = c.if-file-gt65535.false;
    long = c.if-book-ne-BOOK_BYTES.false;
    ours = sym c.other_version.ensures ∙ c.if-other_version.false;
    there = sym c.past_end.ensures ∙ c.if-past_end.false;
  },
  c.record_at-found.ensures,
)

pub returns : goal.returns
returns c = told _ _ _ _ _ c.applied.ensures
