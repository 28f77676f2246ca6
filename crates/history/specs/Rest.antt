-- A book is its rest and its list: the book with an empty list, and today's list.
use Rattle.std.specs.Prelude.{◌≡◌, refl, true, List, [], map, ◌-◌, ◌≤◌, length, replicate}
use Rattle.std.proofs.Math.Path.{sym}
use Rattle.std.proofs.Common.{take_at}
use Rattle.rules.specs.Words.{all}
use Rattle.rules.specs.Bounds.{most_trades}
use Rattle.rules.specs.Book.{no_trade, list_of, with_list}
use Rattle.rules.specs.Sound.{distinct, trades_fit}
use Rattle.rules.specs.declared.Trade.{Trade}
use Rattle.rules.specs.declared.Book.{Book}
use Rattle.laws.specs.Blanks.{entries_few, listed_long, trades_whole}
use Rattle.laws.specs.Listed.{listable, fit_each}
use Rattle.laws.specs.KeptLists.{was_apart}
use Rattle.laws.specs.SoundParts.{sound_parts}
use Rattle.history.specs.Steps.{Good}

-- the book without its list
unfoldable pub bare : Book → Book
bare k = with_list k []

-- the list that was put in
pub listed : (k : Book) (ts : List Trade) → list_of (with_list k ts) ≡ ts
unfolding list_of with_list
listed k ts = take_at ts (replicate (most_trades - length ts) no_trade) (length ts) refl

pub bare_with : (k : Book) (ts : List Trade) → bare (with_list k ts) ≡ bare k
unfolding bare with_list
bare_with k ts = refl

pub with_bare : (k : Book) (ts : List Trade) → with_list (bare k) ts ≡ with_list k ts
unfolding bare with_list
with_bare k ts = refl

-- ── of a good book ──

module _ (k : Book) (g : Good k) where
  abbrev fit : trades_fit k ≡ true
  fit = (sound_parts k g.sound).trades

  pub few : k.entries ≤ most_trades
  few = entries_few k fit

  pub apart : distinct (map (λ t. t.number) (list_of k)) ≡ true
  apart = was_apart k fit

  pub all_listable : all (listable k) (list_of k) ≡ true
  all_listable = fit_each k fit

  pub list_long : length (list_of k) ≡ k.entries
  list_long = listed_long k fit g.shaped

  pub whole : k ≡ with_list k (list_of k)
  unfolding with_list
  whole =
      let n = list_long in
      let e = trades_whole k fit g.shaped in
      λ i.
      record {
        day = k.day;
        currency = k.currency;
        records = k.records;
        positions = k.positions;
        holdings = k.holdings;
        charges = k.charges;
        entries = sym n i;
        trades = e i;
      }
