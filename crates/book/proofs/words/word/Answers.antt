-- `book::words::word` meets its contract. Assumes nothing.
use Rattle.book.specs.Reading.{word_read}
use Rattle.book.proofs.words.word.Goals as goal

pub returns : goal.returns
returns c = word_read _ _ _ _ c.get-high.ensures.0 c.get-low.ensures.0
