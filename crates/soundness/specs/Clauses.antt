-- The sentences of "A sound book" in groups, as the code tests them: the position table's, and the records'.
use Rattle.std.specs.Prelude.{Bool, not, ◌&&◌}
use Rattle.rules.specs.Words.{all, keep}
use Rattle.rules.specs.Book.{open_of, security_of, unlisted}
use Rattle.rules.specs.Sound.{ascends, is_due, one_sign, due_balanced}
use Rattle.rules.specs.declared.Book.{Book}
use Rattle.sound_positions.specs.Each.{each_fits, room_fits}

-- room and order; what is asked of each record by itself; signs and balances
abbrev pub positions_fit : Book → Bool
positions_fit k =
    room_fits k
    && ((ascends (open_of k) && each_fits k)
    && (one_sign (keep (is_due k.day) (open_of k)) && due_balanced k))

-- no record of an unlisted security
abbrev pub records_listed : Book → Bool
records_listed k = all (λ p. not (unlisted k (security_of p))) (open_of k)
