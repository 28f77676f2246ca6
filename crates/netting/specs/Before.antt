-- The book before offsetting, as it is written where it stands: the nets go into the rows behind the open positions, where the book's table
-- has zeros; every other row stays.
use Rattle.std.specs.Prelude.{◌≡◌, true, ℕ, zero, suc, ◌+◌, ◌-◌, ◌<◌, ◌≤◌, get_or, set, replicate}
use Rattle.std.proofs.Math.Path.{sym, ap}
use Rattle.std.proofs.Common.{ap₂, ◌∙◌, le_refl, add-one, arith, take-suc, drop-cons, length-take-le}
use mathlib.Core.List.{List, ◌++◌}
use Rattle.std.proofs.Math.ListN.{length, take, drop, length-append, take-append-drop}
use Rattle.std.proofs.lemmas.List.{set_at}
use Rattle.std.proofs.Math.Seq.{append_snoc, take-append-le, drop-append_seam, drop-append-add, take-take}
use Rattle.rules.specs.Bounds.{most_records}
use Rattle.rules.specs.Book.{no_position, open_of, with_open, with_list, with_charges, with_day}
use Rattle.rules.specs.Layout.{book_of}
use Rattle.rules.specs.Sound.{sound}
use Rattle.rules.specs.Roll.{uncharged, netted, emptied, next_day, open_plus_nets}
use Rattle.rules.specs.declared.Position.{Position}
use Rattle.rules.specs.declared.Book.{Book}
use Rattle.laws.specs.Rolling.{rolling, new_nets}
use Rattle.book.specs.Replacing.{with_rows}
use Rattle.netting.specs.Filling.{open_long, blank_behind, rolling_rows, rolling_records}

-- rows that have in front the first m of another table, and from row n on what stands there
pub record Extends (m : ℕ) (ps : List Position) (n : ℕ) (rows : List Position) : Type 0 where
  pub more : m ≤ n
  pub few : n ≤ most_records
  pub front : take m rows ≡ take m ps
  pub back : drop n rows ≡ drop n ps

-- ── row by row ──

-- the rows before i are those of one table, the others those of another
unfoldable pub joined : List Position → List Position → ℕ → List Position
joined rows ps i = take i rows ++ drop i ps

joined_more : (rows ps : List Position) (i : ℕ) → i < length rows → i < length ps → set (joined rows ps i) i (get_or rows i no_position) ≡ joined rows ps (i + 1)
unfolding joined
joined_more rows ps i h k =
    let p = get_or rows i no_position in
    ap (λ (l : List Position). set (take i rows ++ l) i p) (drop-cons ps i no_position k)
    ∙ set_at (take i rows) (get_or ps i no_position) (drop (suc i) ps) p i (length-take-le i rows (omega arith))
    ∙ sym (append_snoc (take i rows) p (drop (suc i) ps))
    ∙ ap₂ (λ (l m : List Position). l ++ m) (sym (take-suc rows i no_position h) ∙ ap (λ (j : ℕ). take j rows) (sym (add-one i))) (ap (λ (j : ℕ). drop j ps) (sym (add-one i)))

module _ (m : ℕ) (ps : List Position) (n : ℕ) (rows : List Position) (x : Extends m ps n rows) where
  joined_none : joined rows ps m ≡ ps
  unfolding joined
  joined_none = ap (λ (l : List Position). l ++ drop m ps) x.front ∙ take-append-drop m ps

  joined_all : joined rows ps n ≡ rows
  unfolding joined
  joined_all = ap (λ (l : List Position). take n rows ++ l) (sym x.back) ∙ take-append-drop n rows

-- ── the book while they are put in ──

abbrev pub Putting : Book → List Position → List ℕ → ℕ → Type 0
Putting k rows b i = book_of b ≡ with_rows k k.records (joined rows k.positions i)

module _ (k : Book) (n : ℕ) (rows : List Position) (x : Extends k.records k.positions n rows) where
  pub putting_none : (b : List ℕ) → book_of b ≡ k → Putting k rows b k.records
  unfolding with_rows
  putting_none b e = e ∙ ap (with_rows k k.records) (sym (joined_none k.records k.positions n rows x))

  pub putting_more : length rows ≡ most_records → length k.positions ≡ most_records → (b new : List ℕ) (i : ℕ) → i < most_records → Putting k rows b i
      → book_of new ≡ with_rows (book_of b) (book_of b).records (set (book_of b).positions i (get_or rows i no_position)) → Putting k rows new (i + 1)
  unfolding with_rows
  putting_more wide size b new i h p e =
      e
      ∙ ap (λ (c : Book). with_rows c c.records (set c.positions i (get_or rows i no_position))) p
      ∙ ap (with_rows k k.records) (joined_more rows k.positions i (omega arith) (omega arith))

  pub putting_all : (b new : List ℕ) (i : ℕ) → i ≡ n → Putting k rows b i → book_of new ≡ with_rows (book_of b) n (book_of b).positions → book_of new ≡ with_rows k n rows
  unfolding with_rows
  putting_all b new i end p e =
      e ∙ ap (λ (c : Book). with_rows c n c.positions) p
      ∙ ap (with_rows k n) (ap (joined rows k.positions) end ∙ joined_all k.records k.positions n rows x)

-- ── the roll's ──

drop_zeros : (m n : ℕ) → drop m (replicate n no_position) ≡ replicate (n - m) no_position
drop_zeros zero n = let e : n - 0 ≡ n = omega arith in rw e
drop_zeros (suc m) zero = let e : 0 - suc m ≡ 0 = omega arith in rw e
drop_zeros (suc m) (suc n) = let e : suc n - suc m ≡ n - m = omega arith in rw e (drop_zeros m n)

module _ (k : Book) (ok : sound k ≡ true) (long : length k.positions ≡ most_records) (n : ℕ) (rows : List Position) (few : open_plus_nets k ≤ most_records)
    (count : n ≡ open_plus_nets k) (e : rows ≡ (rolling k).positions) where
  abbrev both : List Position
  both = open_of k ++ new_nets k

  in_front_lem : length (open_of k) ≡ k.records
  in_front_lem = open_long k ok long

  counted : length both ≡ n
  unfolding open_plus_nets
  counted = length-append (open_of k) (new_nets k) ∙ ap (λ (m : ℕ). m + length (new_nets k)) in_front_lem ∙ sym count

  table : rows ≡ both ++ replicate (most_records - n) no_position
  table = e ∙ rolling_rows k ok long ∙ ap (λ (m : ℕ). both ++ replicate (most_records - m) no_position) counted

  open_first : take k.records rows ≡ take k.records k.positions
  unfolding open_of
  open_first =
      ap (take k.records) table
      ∙ take-append-le k.records both (replicate (most_records - n) no_position) (omega (arith, in_front_lem, length-append (open_of k) (new_nets k)))
      ∙ take-append-le k.records (open_of k) (new_nets k) (omega (arith, in_front_lem))
      ∙ take-take k.records k.records k.positions (le_refl k.records)

  zeros_last : drop n rows ≡ drop n k.positions
  zeros_last =
      let zeros = replicate (most_records - k.records) no_position in
      let past : n ≡ length (open_of k) + (n - k.records) = omega (arith, in_front_lem, counted, length-append (open_of k) (new_nets k)) in
      let same : most_records - n ≡ (most_records - k.records) - (n - k.records) = omega (arith, in_front_lem, counted, length-append (open_of k) (new_nets k)) in
      ap₂ (λ (m : ℕ) (l : List Position). drop m l) (sym counted) table
      ∙ drop-append_seam both (replicate (most_records - n) no_position)
      ∙ ap (λ (m : ℕ). replicate m no_position) same
      ∙ sym (drop_zeros (n - k.records) (most_records - k.records))
      ∙ sym (drop-append-add (open_of k) zeros (n - k.records))
      ∙ ap₂ (λ (m : ℕ) (l : List Position). drop m l) (sym past) (sym (blank_behind k ok long))

  extends : Extends k.records k.positions n rows
  extends =
      record {
        more = omega (arith, in_front_lem, counted, length-append (open_of k) (new_nets k));
        few = omega arith;
        front = open_first;
        back = zeros_last;
      }

  -- the charges are zero by then
  pub roll_extends : (c : Book) → c ≡ uncharged k → Extends c.records c.positions n rows
  unfolding uncharged with_charges
  roll_extends c f =
      let r : c.records ≡ k.records = ap (λ (b : Book). b.records) f in
      let p : c.positions ≡ k.positions = ap (λ (b : Book). b.positions) f in
      rw (r, p) extends

  pub before_is : with_day (emptied (with_rows (uncharged k) n rows)) (k.day + 1) ≡ rolling k
  unfolding rolling next_day emptied netted uncharged with_day with_list with_open with_charges with_rows
  before_is = λ i. record {
    day = k.day + 1;
    currency = k.currency;
    records = (count ∙ sym (rolling_records k ok long)) i;
    positions = e i;
    holdings = k.holdings;
    charges = (uncharged k).charges;
    entries = 0;
    trades = (emptied k).trades;
  }
