-- Entry, amendment and exclusion on a sound book: what their steps may count on.
use Rattle.std.specs.Prelude.{◌≡◌, true, ◌≤◌, ◌<◌, leb}
use Rattle.std.proofs.Common.{leb-true}
use Rattle.rules.specs.Bounds.{most_trades}
use Rattle.rules.specs.Sound.{sound, trades_fit}
use Rattle.rules.specs.Calls.{enter, answer_sound}
use Rattle.rules.specs.declared.Book.{Book}
use Rattle.rules.specs.declared.Trade.{Trade}
use Rattle.laws.specs.Cases.{both_hold}
use Rattle.laws.specs.Accepted.{may_enter}
use Rattle.laws.specs.SoundParts.{sound_parts}

pub list_fits : (k : Book) → sound k ≡ true → trades_fit k ≡ true
list_fits k e = (sound_parts k e).trades

pub few_entries : (k : Book) → sound k ≡ true → k.entries ≤ most_trades
unfolding trades_fit
few_entries k e = leb-true k.entries most_trades (both_hold (leb k.entries most_trades) _ (list_fits k e)).0

pub enter_asks : (k : Book) (t : Trade) → sound k ≡ true → answer_sound k (enter t) ≡ 0 → (k.entries < most_trades) × (trades_fit k ≡ true)
enter_asks k t e a = ((may_enter k t a).room, list_fits k e)
