-- "Records at 0 shares go", where they stand: those that remain move up, one row after another, and the rows behind them are set to zero.
use Rattle.std.specs.Prelude.{◌≡◌, Bool, true, false, ℕ, suc, ◌+◌, ◌-◌, ◌<◌, ◌≤◌, take, drop, set, replicate}
use Rattle.std.proofs.Common.{sym, ◌∙◌, arith, add-one, length-append, take-append-drop, take-suc, drop-cons, drop-drop, get_or-drop, get_or-append-add, length-take-le}
use Rattle.std.proofs.Math.Path.{ap}
use mathlib.Core.List.{List, [], ◌∷◌, ◌++◌, append_assoc, append-nil}
use Rattle.std.proofs.Math.ListN.{length, get_or}
use Rattle.std.proofs.lemmas.List.{length-replicate, replicate-append-replicate, set-get_or}
use Rattle.std.proofs.Math.Seq.{set-append_seam, append_snoc, take-append_seam, drop-append-add}
use Rattle.rules.specs.Words.{keep}
use Rattle.rules.specs.Bounds.{most_records}
use Rattle.rules.specs.Book.{no_position, open_of, with_open}
use Rattle.rules.specs.Layout.{book_length, book_of}
use Rattle.rules.specs.Roll.{remains}
use Rattle.rules.specs.declared.Position.{Position}
use Rattle.rules.specs.declared.Book.{Book}
use Rattle.laws.specs.Keeping.{keep_none, keep_yes, keep_no, keep_append}
use Rattle.book.specs.Replacing.{with_rows}

-- the records in use that remain on the book's day
abbrev pub remaining_in : Book → List Position
remaining_in k = keep (remains k.day) (open_of k)

-- some rows in front, and the others as they were
abbrev pub ahead : List Position → List Position → List Position
ahead ks l = ks ++ drop (length ks) l

unfoldable pub moved_up : Book → Book
moved_up k = with_rows k k.records (ahead (remaining_in k) k.positions)

unfoldable pub cleared : List Position → ℕ → ℕ → List Position
cleared l from to = take from l ++ (replicate (to - from) no_position ++ drop to l)

-- the rows behind the records are zero
pub record PackAsks (k : Book) : Type 0 where
  pub few : k.records ≤ most_records
  pub blank : drop k.records k.positions ≡ replicate (most_records - k.records) no_position

-- ── one more row ──

module _ (t : Position → Bool) (l : List Position) (i : ℕ) (h : i < length l) where
  next_row : keep t (take (i + 1) l) ≡ keep t (take i l) ++ keep t (get_or l i no_position ∷ [])
  next_row = rw (add-one i, take-suc l i no_position h) (keep_append t (take i l) (get_or l i no_position ∷ []))

  pub next_kept : t (get_or l i no_position) ≡ true → keep t (take (i + 1) l) ≡ keep t (take i l) ++ (get_or l i no_position ∷ [])
  next_kept e =
      let one = keep_yes t (get_or l i no_position) [] e ∙ ap (λ (r : List Position). get_or l i no_position ∷ r) (keep_none t) in
      next_row ∙ ap (λ (r : List Position). keep t (take i l) ++ r) one

  pub next_gone : t (get_or l i no_position) ≡ false → keep t (take (i + 1) l) ≡ keep t (take i l)
  next_gone e =
      let one = keep_no t (get_or l i no_position) [] e ∙ keep_none t in
      next_row ∙ ap (λ (r : List Position). keep t (take i l) ++ r) one ∙ append-nil (keep t (take i l))

-- ── moving up ──

-- of the first i rows those that remain have moved up
pub record Moving (k : Book) (bs : List ℕ) (kept i : ℕ) : Type 0 where
  pub long : length bs ≡ book_length
  pub row : i ≤ k.records
  pub few : kept ≤ i
  pub many : kept ≡ length (keep (remains k.day) (take i k.positions))
  pub table : book_of bs ≡ with_rows k k.records (ahead (keep (remains k.day) (take i k.positions)) k.positions)

-- a row that has not been passed is as it was
ahead_at : (ks l : List Position) (i : ℕ) → length ks ≤ i → get_or (ahead ks l) i no_position ≡ get_or l i no_position
ahead_at ks l i h =
    let e : i ≡ length ks + (i - length ks) = omega arith in
    ap (λ (j : ℕ). get_or (ahead ks l) j no_position) e
    ∙ get_or-append-add ks (drop (length ks) l) (i - length ks) no_position
    ∙ get_or-drop (length ks) l (i - length ks) no_position
    ∙ ap (λ (j : ℕ). get_or l j no_position) (sym e)

-- one row more moves up
ahead_more : (ks l : List Position) (p : Position) → length ks < length l → set (ahead ks l) (length ks) p ≡ ahead (ks ++ (p ∷ [])) l
ahead_more ks l p h =
    let n : length (ks ++ (p ∷ [])) ≡ suc (length ks) = omega (arith, length-append ks (p ∷ [])) in
    ap (λ (t : List Position). set (ks ++ t) (length ks) p) (drop-cons l (length ks) no_position h)
    ∙ set-append_seam ks (get_or l (length ks) no_position) (drop (suc (length ks)) l) p
    ∙ sym (append_snoc ks p (drop (suc (length ks)) l))
    ∙ ap (λ (m : ℕ). (ks ++ (p ∷ [])) ++ drop m l) (sym n)

module _ (k : Book) (long : length k.positions ≡ most_records) (small : k.records ≤ most_records) where
  abbrev l : List Position
  l = k.positions

  abbrev t : Position → Bool
  t = remains k.day

  pub moving_start : (bs : List ℕ) → length bs ≡ book_length → book_of bs ≡ k → Moving k bs 0 0
  unfolding with_rows
  moving_start bs n e =
      record {
        long = n;
        row = omega arith;
        few = omega arith;
        many = ap length (sym (keep_none t));
        table = e ∙ ap (λ (ks : List Position). with_rows k k.records (ahead ks l)) (sym (keep_none t));
      }

  module _ (bs : List ℕ) (kept i : ℕ) (h : i < k.records) (c : Moving k bs kept i) where
    abbrev ks : List Position
    ks = keep t (take i l)

    -- row i, as the code reads it
    pub moving_row : (p : Position) → p ≡ get_or (book_of bs).positions i no_position → p ≡ get_or l i no_position
    unfolding with_rows
    moving_row p e =
        e ∙ ap (λ (b : Book). get_or b.positions i no_position) c.table ∙ ahead_at ks l i (omega (arith, c.many, c.few))

    pub moving_gone : t (get_or l i no_position) ≡ false → Moving k bs kept (i + 1)
    moving_gone e =
        let next = sym (next_gone t l i (omega arith) e) in
        record {
          long = c.long;
          row = omega arith;
          few = omega (arith, c.few);
          many = c.many ∙ ap length next;
          table = c.table ∙ ap (λ (js : List Position). with_rows k k.records (ahead js l)) next;
        }

    module _ (e : t (get_or l i no_position) ≡ true) where
      next : ks ++ (get_or l i no_position ∷ []) ≡ keep t (take (i + 1) l)
      next = sym (next_kept t l i (omega arith) e)

      more : kept + 1 ≡ length (keep t (take (i + 1) l))
      more = omega (arith, c.many, length-append ks (get_or l i no_position ∷ []), ap length next)

      table_more : with_rows k k.records (set (ahead ks l) kept (get_or l i no_position)) ≡ with_rows k k.records (ahead (keep t (take (i + 1) l)) l)
      table_more =
          ap (λ (m : ℕ). with_rows k k.records (set (ahead ks l) m (get_or l i no_position))) c.many
          ∙ ap (with_rows k k.records) (ahead_more ks l (get_or l i no_position) (omega (arith, c.many, c.few)) ∙ ap (λ (js : List Position). ahead js l) next)

      -- it stays where it is
      pub moving_same : kept ≡ i → Moving k bs (kept + 1) (i + 1)
      moving_same f =
          let same : set (ahead ks l) kept (get_or l i no_position) ≡ ahead ks l =
          ap (set (ahead ks l) kept) (ap (λ (j : ℕ). get_or l j no_position) (sym f) ∙ sym (ahead_at ks l kept (omega (arith, c.many)))) ∙ set-get_or (ahead ks l) kept no_position in
          record {
            long = c.long;
            row = omega arith;
            few = omega (arith, c.few);
            many = more;
            table = c.table ∙ ap (with_rows k k.records) (sym same) ∙ table_more;
          }

      -- or it is stored further up
      pub moving_up : (new : List ℕ) (p : Position) → length new ≡ length bs → p ≡ get_or l i no_position
          → book_of new ≡ with_rows (book_of bs) (book_of bs).records (set (book_of bs).positions kept p) → Moving k new (kept + 1) (i + 1)
      unfolding with_rows
      moving_up new p n f g =
          record {
            long = n ∙ c.long;
            row = omega arith;
            few = omega (arith, c.few);
            many = more;
            table =
                g ∙ ap (λ (q : Position). with_rows (book_of bs) (book_of bs).records (set (book_of bs).positions kept q)) f
                ∙ ap (λ (b : Book). with_rows b b.records (set b.positions kept (get_or l i no_position))) c.table ∙ table_more;
          }

  pub moving_end : (bs : List ℕ) (kept i : ℕ) → k.records ≤ i → Moving k bs kept i → (book_of bs ≡ moved_up k) × (kept ≡ length (remaining_in k)) × (kept ≤ k.records)
  unfolding moved_up open_of
  moving_end bs kept i h c =
      let e : i ≡ k.records = omega (arith, c.row) in (
        c.table ∙ ap (λ (n : ℕ). with_rows k k.records (ahead (keep t (take n l)) l)) e,
        c.many ∙ ap (λ (n : ℕ). length (keep t (take n l))) e,
        omega (arith, c.few, c.row),
      )

-- ── setting to zero ──

pub record Clearing (k : Book) (from : ℕ) (bs : List ℕ) (i : ℕ) : Type 0 where
  pub long : length bs ≡ book_length
  pub row : from ≤ i
  pub table : book_of bs ≡ with_rows k k.records (cleared k.positions from i)

cleared_none : (l : List Position) (from : ℕ) → cleared l from from ≡ l
unfolding cleared
cleared_none l from =
    let z : from - from ≡ 0 = omega arith in
    ap (λ (n : ℕ). take from l ++ (replicate n no_position ++ drop from l)) z ∙ take-append-drop from l

-- one zero row more
cleared_more : (l : List Position) (from i : ℕ) → from ≤ i → i < length l → set (cleared l from i) i no_position ≡ cleared l from (i + 1)
unfolding cleared
cleared_more l from i h w =
    let zs : List Position = replicate (i - from) no_position in
    let fs : List Position = take from l ++ zs in
    let n : length fs ≡ i = omega (arith, length-append (take from l) zs, length-take-le from l (omega arith), length-replicate (i - from) no_position) in
    let rest : List Position = drop (suc i) l in
    let one : (i - from) + 1 ≡ (i + 1) - from = omega arith in
    let e : replicate (i - from) no_position ++ (no_position ∷ []) ≡ replicate ((i + 1) - from) no_position =
    replicate-append-replicate (i - from) 1 no_position ∙ ap (λ (m : ℕ). replicate m no_position) one in
    ap (λ (t : List Position). set t i no_position) (sym (append_assoc (take from l) zs (drop i l)) ∙ ap (λ (t : List Position). fs ++ t) (drop-cons l i no_position w))
    ∙ ap (λ (m : ℕ). set (fs ++ (get_or l i no_position ∷ rest)) m no_position) (sym n)
    ∙ set-append_seam fs (get_or l i no_position) rest no_position
    ∙ append_assoc (take from l) zs (no_position ∷ rest)
    ∙ ap (λ (t : List Position). take from l ++ t) (sym (append_snoc zs no_position rest) ∙ ap (λ (t : List Position). t ++ rest) e)
    ∙ ap (λ (m : ℕ). take from l ++ (replicate ((i + 1) - from) no_position ++ drop m l)) (sym (add-one i))

module _ (k : Book) (from : ℕ) (long : length k.positions ≡ most_records) where
  pub clearing_start : (bs : List ℕ) → length bs ≡ book_length → book_of bs ≡ k → Clearing k from bs from
  unfolding with_rows
  clearing_start bs n e =
      record { long = n; row = omega arith; table = e ∙ ap (with_rows k k.records) (sym (cleared_none k.positions from)) }

  pub clearing_more : (bs new : List ℕ) (i : ℕ) → i < most_records → Clearing k from bs i → length new ≡ length bs
      → book_of new ≡ with_rows (book_of bs) (book_of bs).records (set (book_of bs).positions i no_position) → Clearing k from new (i + 1)
  unfolding with_rows
  clearing_more bs new i h c n e =
      record {
        long = n ∙ c.long;
        row = omega (arith, c.row);
        table =
            e ∙ ap (λ (b : Book). with_rows b b.records (set b.positions i no_position)) c.table
            ∙ ap (with_rows k k.records) (cleared_more k.positions from i c.row (omega arith));
      }

-- ── the whole ──

-- behind the rows that remain all is zero
filled_is : (ks l : List Position) (n : ℕ) → length ks ≤ n → n ≤ most_records → drop n l ≡ replicate (most_records - n) no_position
    → cleared (ahead ks l) (length ks) n ≡ ks ++ replicate (most_records - length ks) no_position
unfolding cleared
filled_is ks l n h w blank =
    let e : n ≡ length ks + (n - length ks) = omega arith in
    let behind : drop n (ahead ks l) ≡ replicate (most_records - n) no_position =
    ap (λ (m : ℕ). drop m (ahead ks l)) e ∙ drop-append-add ks (drop (length ks) l) (n - length ks)
    ∙ drop-drop (n - length ks) (length ks) l ∙ ap (λ (m : ℕ). drop m l) (sym e) ∙ blank in
    let all : (n - length ks) + (most_records - n) ≡ most_records - length ks = omega arith in
    ap (λ (t : List Position). t ++ (replicate (n - length ks) no_position ++ drop n (ahead ks l))) (take-append_seam ks (drop (length ks) l))
    ∙ ap (λ (t : List Position). ks ++ (replicate (n - length ks) no_position ++ t)) behind
    ∙ ap (λ (t : List Position). ks ++ t) (replicate-append-replicate (n - length ks) (most_records - n) no_position ∙ ap (λ (m : ℕ). replicate m no_position) all)

pub packed_is : (k k₁ k₂ k₃ : Book) (kept n : ℕ) → PackAsks k → n ≡ k.records → k₁ ≡ moved_up k → kept ≡ length (remaining_in k) → kept ≤ k.records
    → k₂ ≡ with_rows k₁ k₁.records (cleared k₁.positions kept n) → k₃ ≡ with_rows k₂ kept k₂.positions → k₃ ≡ with_open k (remaining_in k)
unfolding with_rows with_open moved_up
packed_is k k₁ k₂ k₃ kept n asks en e₁ ek few e₂ e₃ =
    let ks : List Position = remaining_in k in
    let table : cleared (ahead ks k.positions) kept n ≡ ks ++ replicate (most_records - length ks) no_position =
    ap (λ (m : ℕ). cleared (ahead ks k.positions) m n) ek
    ∙ ap (cleared (ahead ks k.positions) (length ks)) en
    ∙ filled_is ks k.positions k.records (omega arith) asks.few asks.blank in
    e₃ ∙ ap (λ (b : Book). with_rows b kept b.positions) (e₂ ∙ ap (λ (b : Book). with_rows b b.records (cleared b.positions kept n)) e₁)
    ∙ ap (λ (m : ℕ). with_rows k m (cleared (ahead ks k.positions) kept n)) ek
    ∙ ap (with_rows k (length ks)) table
