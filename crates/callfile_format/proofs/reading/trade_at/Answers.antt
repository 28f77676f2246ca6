-- `callfile_format::reading::trade_at` meets its contract: field by field. Assumes nothing.
use Rattle.callfile_format.specs.Bodies.{trade_is}
use Rattle.callfile_format.proofs.reading.trade_at.Goals as goal

pub returns : goal.returns
returns c =
    trade_is _ _ _ _ _ _ _ _
    c.get.ensures.0
    c.get-2.ensures.0
    c.get-3.ensures.0
    c.get-4.ensures.0
    c.get-5.ensures.0
    c.get-6.ensures.0
