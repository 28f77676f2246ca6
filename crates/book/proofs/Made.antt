-- A table made row by row, each read at its place, is what the layout reads.
use Rattle.std.proofs.Common.{◌≡◌, ℕ, zero, suc, ◌+◌, ◌*◌, List, length, take, drop, set, sym, ap, ◌∙◌, subst, arith}
use Rattle.std.proofs.lemmas.List.{set-get_or}
use Rattle.std.specs.Array.{IsFromFnResult, IsFromFnResultFrom}
use denote.Param.Members.{Mut, Called}
use Rattle.fields.specs.Codec.{Codec, read_rows, read_none, read_more, read_done}

module _ {A F : Type 0} (x : Codec A) (g : Mut F (ℕ × Unit {0}) A) (f : F) (at : ℕ) (bs : List ℕ)
    (reads : (i : ℕ) (y : A) (q : F) → Called g f (i, tt) y q → (y ≡ x.read (drop (at + i * x.width) bs)) × (q ≡ f)) where
  rest_made : (rows : List A) (i n m : ℕ) → i + n ≡ m → length rows ≡ m → take i rows ≡ read_rows x i (drop at bs) → IsFromFnResultFrom g f rows i n
      → rows ≡ read_rows x m (drop at bs)
  rest_made rows i zero m e long so_far made = read_done x m i (drop at bs) rows long (omega arith) so_far
  rest_made rows i (suc n) m e long so_far made =
      let r = reads i made.1 made.0 made.3 in
      let one : take (i + 1) (set rows i made.1) ≡ read_rows x (i + 1) (drop at bs) = read_more x i at bs rows made.1 (omega arith) so_far r.0 in
      let same : set rows i made.1 ≡ rows = ap (set rows i) (sym made.2.0) ∙ set-get_or rows i made.1 in
      rest_made rows (i + 1) n m (omega arith) long (ap (take (i + 1)) (sym same) ∙ one) (subst (λ (p : F). IsFromFnResultFrom g p rows (i + 1) n) r.1 made.4)

  pub rows_made : (rows : List A) (n : ℕ) → IsFromFnResult g f rows n → rows ≡ read_rows x n (drop at bs)
  rows_made rows n made = rest_made rows 0 n n (omega arith) made.long (read_none x (drop at bs)) made.each
