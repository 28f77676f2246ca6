-- Lines written into a lent buffer, with a tally: what fits, what does not, and what stays.
use Rattle.std.specs.Prelude.{◌≡◌, refl, [], ◌∷◌, ◌++◌, ℕ, replicate, pos, neg_ℤ}
use Rattle.units.specs.Units.{mils}
use Rattle.rules.specs.Words.{text}
use Rattle.rules.specs.Sheet.{text_of, line_answer, line_part, line_bytes, line_tally}
use Rattle.rules.specs.Opened.{everything}
use Rattle.rules.specs.declared.Tally.{Tally}
use Rattle.rules.specs.declared.Line.TheVariants.{Day, Charge}

abbrev tally : ℕ → ℕ → Tally
tally lines bytes = record { lines = lines; bytes = bytes }

-- bytes beyond the written part stay
written : line_bytes (replicate 8 7) (Day 2) (tally 0 0) ≡ text "DAY 2\n" ++ (7 ∷ 7 ∷ [])
unfolding everything
written = refl

-- six bytes are enough, five are not
fits : line_answer 6 (Day 2) (tally 0 0) ≡ 0
unfolding everything
fits = refl

does_not_fit : line_answer 5 (Day 2) (tally 0 0) ≡ 18
unfolding everything
does_not_fit = refl

-- the tally may come to 1,000,000 lines and bytes, and no further
last_line : line_tally 6 (Day 2) (tally 999_999 999_994) ≡ tally 1_000_000 1_000_000
unfolding everything
last_line = refl

no_more_lines : line_answer 6 (Day 2) (tally 1_000_000 0) ≡ 18
unfolding everything
no_more_lines = refl

no_more_bytes : line_answer 6 (Day 2) (tally 0 999_995) ≡ 18
unfolding everything
no_more_bytes = refl

-- a refused line leaves buffer and tally, and hands back an empty part
buffer_stays : line_bytes (replicate 8 7) (Day 2) (tally 1_000_000 0) ≡ replicate 8 7
unfolding everything
buffer_stays = refl

part_empty : line_part (replicate 8 7) (Day 2) (tally 1_000_000 0) ≡ []
unfolding everything
part_empty = refl

tally_stays : line_tally 8 (Day 2) (tally 4_294_967_295 0) ≡ tally 4_294_967_295 0
unfolding everything
tally_stays = refl

-- the least number of 64 bits has its digits too
least_number : text_of (Charge 63 3 (mils (neg_ℤ (pos 9_223_372_036_854_775_808)))) ≡ text "C 63 3 -9223372036854775808\n"
unfolding everything
least_number = refl
