-- What is asked of each record by itself, in one test: a walk that makes the three tests of a record makes each of the three walks. And what is asked of the room.
use Rattle.std.specs.Prelude.{◌≡◌, Bool, true, false, ◌&&◌, ℕ, ◌≤◌, leb, drop}
use Rattle.std.proofs.Common.{ap, ◌∙◌, leb-true}
use Rattle.std.proofs.lemmas.Bool.{not-true}
use Rattle.rules.specs.Words.{all}
use Rattle.rules.specs.Bounds.{most_records}
use Rattle.rules.specs.Book.{quantity_of, is_zero, open_of}
use Rattle.rules.specs.Sound.{is_blank, sizes_fit, due_fits, is_due, due_nonzero}
use Rattle.rules.specs.declared.Position.{Position}
use Rattle.rules.specs.declared.Book.{Book}
use Rattle.laws.specs.Cases.{both_hold}
use Rattle.sound_positions.specs.Table.{all_two}

unfoldable pub record_fits : ℕ → Position → Bool
record_fits day p = sizes_fit p && (due_fits day p && due_nonzero day p)

abbrev pub each_fits : Book → Bool
each_fits k = all sizes_fit (open_of k) && (all (due_fits k.day) (open_of k) && all (due_nonzero k.day) (open_of k))

pub each_fits_lem : (k : Book) → all (record_fits k.day) (open_of k) ≡ each_fits k
unfolding record_fits
each_fits_lem k =
    all_two sizes_fit (λ p. due_fits k.day p && due_nonzero k.day p) (open_of k)
    ∙ ap (λ (b : Bool). all sizes_fit (open_of k) && b) (all_two (due_fits k.day) (due_nonzero k.day) (open_of k))

-- what is asked of the room: at most 1,024 records, and zeros behind them
abbrev pub room_fits : Book → Bool
room_fits k = leb k.records most_records && all is_blank (drop k.records k.positions)

pub room_within : (k : Book) → room_fits k ≡ true → k.records ≤ most_records
room_within k e = leb-true k.records most_records (both_hold (leb k.records most_records) _ e).0

-- a due record has shares
pub due_nonzero_lem : (day : ℕ) (p : Position) → due_nonzero day p ≡ true → is_due day p ≡ true → is_zero (quantity_of p) ≡ false
unfolding due_nonzero
due_nonzero_lem day p e due = not-true (is_zero (quantity_of p)) (rw due at e)
