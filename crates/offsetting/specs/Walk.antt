-- Offsetting as the code walks it: each newly due row, by ascending number, meets all older rows, by ascending number.
use Rattle.std.specs.Prelude.{◌≡◌, cond, List, ◌++◌, ℕ, zero, suc, ◌+◌, ◌≤◌, length, take}
use Rattle.units.specs.declared.Mils.{Mils}
use Rattle.rules.specs.Bounds.{most_records}
use Rattle.rules.specs.Book.{quantity_of, money_of, is_zero}
use Rattle.rules.specs.Parts.{charged_to, charged_both}
use Rattle.rules.specs.Roll.{faces, smaller}
use Rattle.rules.specs.declared.Position.{Position}
use Rattle.rules.specs.declared.Book.{Book}
use Rattle.laws.specs.Rows.{row, without_both}
use Rattle.laws.specs.OffsetKept.{Ready, older_of, newly_of, later_of, met_of}

-- the rows in use, and the charges
pub record Walking : Type 0 where
  pub rows : List Position
  pub charges : List Mils

abbrev pub walking : List Position → List Mils → Walking
walking ps cs = record { rows = ps; charges = cs }

-- those of a book of which n rows are in use
abbrev pub in_use : ℕ → Book → Walking
in_use n k = walking (take n k.positions) k.charges

-- ── the walk ──

-- row i, newly due, meets row j, an older one
unfoldable pub meet : Book → ℕ → ℕ → Walking → Walking
meet b i j x =
    let p = row x.rows i in
    let o = row x.rows j in
    let k = smaller p o in
    cond (faces p o) (walking (without_both x.rows j i k) (charged_both b x.charges o p k)) x

-- it meets the n rows from j on
unfoldable pub pass : Book → ℕ → ℕ → ℕ → Walking → Walking
pass b i zero j x = x
pass b i (suc n) j x = pass b i n (suc j) (meet b i j x)

-- a newly due row of 0 shares charges all its money
unfoldable pub whole : Book → ℕ → Walking → Walking
whole b i x =
    let p = row x.rows i in
    cond (is_zero (quantity_of p)) (walking x.rows (charged_to b x.charges p (money_of p))) x

-- each of the n rows from i on does, and meets the first m rows
unfoldable pub walk : Book → ℕ → ℕ → ℕ → Walking → Walking
walk b m zero i x = x
walk b m (suc n) i x = walk b m n (suc i) (pass b i m 0 (whole b i x))

-- ── what it asks, and what comes of it ──

pub record WalkAsks (b : Book) (older due : ℕ) : Type 0 where
  pub ready : Ready b
  pub few : b.records ≤ most_records
  pub older_are : older ≡ length (older_of b)
  pub due_are : due ≡ length (older_of b) + length (newly_of b)

-- the rows and charges of the rule, before the records at 0 shares go
unfoldable pub all_met : Book → Walking
all_met b = walking ((met_of b).older ++ ((met_of b).newly ++ later_of b)) (met_of b).charges
