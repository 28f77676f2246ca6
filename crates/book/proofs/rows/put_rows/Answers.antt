-- `book::rows::put_rows` meets its contract. The invariant: the first i rows are stored. Assumes nothing.
use Rattle.fields.specs.Codec.{write_none, write_more}
use Rattle.book.proofs.rows.put_rows.Goals as goal

pub loop-i-init : goal.loop-i-init
loop-i-init g c = write_none g.T.Row.codec _ _

pub loop-i-preserved : goal.loop-i-preserved
loop-i-preserved g c = write_more g.T.Row.codec g.met.T.Row.sized c.loop-i.i c.args.at c.args.rows.now c.index-rows-i.result _ _ _ c.loop-i-test.true c.loop-i.invariant (cc (g.met.T.Row.width_is))
