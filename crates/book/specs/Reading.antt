-- What the readers of the book return: fields read at their places make the row, and the parts read at theirs the book.
-- The layout reads from the front, what is left after each field; the code reads by place. These laws are the step between.
use Rattle.std.specs.Prelude.{◌≡◌, refl, List, ℕ, zero, suc, ◌+◌, ◌*◌, ◌^◌, ℤ, drop}
use Rattle.std.proofs.Common.{sym, ap, ap₂, ◌∙◌, pow-suc, mul_assoc, add-zero, add-suc, arith, drop-drop}
use Rattle.integers.specs.Bits.{value_of}
use Rattle.fields.specs.Field.{field}
use Rattle.fields.specs.Codec.{number, read_rows, field_at}
use Rattle.units.specs.Units.{shares_of, mils_of, shares, mils}
use Rattle.units.specs.declared.Mils.{Mils}
use Rattle.rules.specs.Layout.{amount, position, trade, book_of}
use Rattle.rules.specs.declared.Position.{Position}
use Rattle.rules.specs.declared.Trade.{Trade}
use Rattle.rules.specs.declared.Book.{Book}
use Rattle.book.specs.Places.{day_place, codes_place, records_place, positions_place, holdings_place, charges_place, entries_place, trades_place}

-- what is left of the bytes `l` after n bytes more
further : (n at to : ℕ) (l m : List ℕ) → at + n ≡ to → m ≡ drop at l → drop n m ≡ drop to l
further n at to l m e h = ap (drop n) h ∙ drop-drop n at l ∙ ap (λ (k : ℕ). drop k l) e

-- a field at a place, as the layout reads it
pub front : (w at : ℕ) (l m : List ℕ) (x : ℕ) → m ≡ drop at l → x ≡ field w at l → x ≡ field w 0 m
front w at l m x h e = e ∙ sym (field_at w at l) ∙ ap (field w 0) (sym h)

-- a field is its high bytes and its low ones
halves : (v w at : ℕ) (l : List ℕ) → field (v + w) at l ≡ field v at l * 256 ^ w + field w (at + v) l
unfolding field
halves v zero at l = rw (add-zero v) (omega arith)
halves v (suc w) at l =
    let i : at + v + w ≡ at + (v + w) = omega arith in
    let m : field v at l * 256 ^ suc w ≡ field v at l * 256 ^ w * 256 = ap (λ (n : ℕ). field v at l * n) (pow-suc 256 w) ∙ sym (mul_assoc (field v at l) (256 ^ w) 256) in
    rw (add-suc v w, halves v w at l, ← i) (omega (arith, m))

pub word_read : (at : ℕ) (l : List ℕ) (h n : ℕ) → h ≡ field 4 at l → n ≡ field 4 (at + 4) l → h * 4_294_967_296 + n ≡ field 8 at l
word_read at l h n e f = ap₂ (λ (x y : ℕ). x * 4_294_967_296 + y) e f ∙ sym (halves 4 4 at l)

-- ── rows ──

-- rows with equal fields are equal
position_same : {n n' : ℕ} {q q' m m' : ℤ} → n ≡ n' → q ≡ q' → m ≡ m'
    → ◌≡◌ {A = Position} (record { number = n; quantity = shares q; money = mils m }) (record { number = n'; quantity = shares q'; money = mils m' })
position_same n q m = cc

trade_same : {n n' b b' s s' c c' q q' p p' : ℕ} → n ≡ n' → b ≡ b' → s ≡ s' → c ≡ c' → q ≡ q' → p ≡ p'
    → ◌≡◌ {A = Trade} (record { number = n; buyer = b; seller = s; security = c; quantity = q; price = record { 0 = p } })
    (record { number = n'; buyer = b'; seller = s'; security = c'; quantity = q'; price = record { 0 = p' } })
trade_same n b s c q p = cc

pub number_read : (w at : ℕ) (l : List ℕ) (x : ℕ) → x ≡ field w at l → x ≡ (number w).read (drop at l)
number_read w at l x e = front w at l (drop at l) x refl e

pub amount_read : (at : ℕ) (l : List ℕ) (x : ℕ) (m : Mils) → x ≡ field 8 at l → mils_of m ≡ value_of x → m ≡ amount.read (drop at l)
amount_read at l x m e f = ap mils (f ∙ ap value_of (number_read 8 at l x e))

pub position_read : (at : ℕ) (l : List ℕ) (p : Position) (x y : ℕ)
    → p.number ≡ field 4 at l
    → x ≡ field 8 (at + 4) l → shares_of p.quantity ≡ value_of x
    → y ≡ field 8 (at + 12) l → mils_of p.money ≡ value_of y
    → p ≡ position.read (drop at l)
position_read at l p x y n x-is q y-is m =
    let after-4 = further 4 at (at + 4) l (drop at l) refl refl in
    let after-12 = further 8 (at + 4) (at + 12) l (drop 4 (drop at l)) (omega arith) after-4 in
    let n' = number_read 4 at l p.number n in
    let q' = q ∙ ap value_of (front 8 (at + 4) l (drop 4 (drop at l)) x after-4 x-is) in
    let m' = m ∙ ap value_of (front 8 (at + 12) l (drop 8 (drop 4 (drop at l))) y after-12 y-is) in
    position_same n' q' m'

pub trade_read : (at : ℕ) (l : List ℕ) (t : Trade)
    → t.number ≡ field 2 at l
    → t.buyer ≡ field 1 (at + 2) l
    → t.seller ≡ field 1 (at + 3) l
    → t.security ≡ field 1 (at + 4) l
    → t.quantity ≡ field 4 (at + 5) l
    → t.price.0 ≡ field 4 (at + 9) l
    → t ≡ trade.read (drop at l)
trade_read at l t n b s c q p =
    let r₀ = drop at l in
    let r₂ = drop 2 r₀ in
    let r₃ = drop 1 r₂ in
    let r₄ = drop 1 r₃ in
    let r₅ = drop 1 r₄ in
    let r₉ = drop 4 r₅ in
    let after-2 = further 2 at (at + 2) l r₀ refl refl in
    let after-3 = further 1 (at + 2) (at + 3) l r₂ (omega arith) after-2 in
    let after-4 = further 1 (at + 3) (at + 4) l r₃ (omega arith) after-3 in
    let after-5 = further 1 (at + 4) (at + 5) l r₄ (omega arith) after-4 in
    let after-9 = further 4 (at + 5) (at + 9) l r₅ (omega arith) after-5 in
    let n' = number_read 2 at l t.number n in
    let b' = front 1 (at + 2) l r₂ t.buyer after-2 b in
    let s' = front 1 (at + 3) l r₃ t.seller after-3 s in
    let c' = front 1 (at + 4) l r₄ t.security after-4 c in
    let q' = front 4 (at + 5) l r₅ t.quantity after-5 q in
    let p' = front 4 (at + 9) l r₉ t.price.0 after-9 p in
    trade_same n' b' s' c' q' p'

-- ── the book ──

-- what is left of a book's bytes after each of its parts
pub after_codes : (l : List ℕ) → drop 32 (drop 2 l) ≡ drop records_place l
after_codes l = further 32 codes_place records_place l (drop 2 l) refl refl

pub after_records : (l : List ℕ) → drop 2 (drop 32 (drop 2 l)) ≡ drop positions_place l
after_records l = further 2 records_place positions_place l (drop 32 (drop 2 l)) refl (after_codes l)

pub after_positions : (l : List ℕ) → drop 20_480 (drop 2 (drop 32 (drop 2 l))) ≡ drop holdings_place l
after_positions l = further 20_480 positions_place holdings_place l (drop 2 (drop 32 (drop 2 l))) refl (after_records l)

pub after_holdings : (l : List ℕ) → drop 16_384 (drop 20_480 (drop 2 (drop 32 (drop 2 l)))) ≡ drop charges_place l
after_holdings l = further 16_384 holdings_place charges_place l (drop 20_480 (drop 2 (drop 32 (drop 2 l)))) refl (after_positions l)

pub after_charges : (l : List ℕ) → drop 2_048 (drop 16_384 (drop 20_480 (drop 2 (drop 32 (drop 2 l))))) ≡ drop entries_place l
after_charges l = further 2_048 charges_place entries_place l (drop 16_384 (drop 20_480 (drop 2 (drop 32 (drop 2 l))))) refl (after_holdings l)

pub after_entries : (l : List ℕ) → drop 2 (drop 2_048 (drop 16_384 (drop 20_480 (drop 2 (drop 32 (drop 2 l)))))) ≡ drop trades_place l
after_entries l = further 2 entries_place trades_place l (drop 2_048 (drop 16_384 (drop 20_480 (drop 2 (drop 32 (drop 2 l)))))) refl (after_charges l)

book_same : {d d' n n' e e' : ℕ} {c c' h h' : List ℕ} {p p' : List Position} {m m' : List Mils} {t t' : List Trade}
    → d ≡ d' → c ≡ c' → n ≡ n' → p ≡ p' → h ≡ h' → m ≡ m' → e ≡ e' → t ≡ t'
    → ◌≡◌ {A = Book} (record { day = d; currency = c; records = n; positions = p; holdings = h; charges = m; entries = e; trades = t })
    (record { day = d'; currency = c'; records = n'; positions = p'; holdings = h'; charges = m'; entries = e'; trades = t' })
book_same d c n p h m e t = cc

pub book_read : (l : List ℕ) (k : Book)
    → k.day ≡ field 2 day_place l
    → k.currency ≡ read_rows (number 1) 32 (drop codes_place l)
    → k.records ≡ field 2 records_place l
    → k.positions ≡ read_rows position 1_024 (drop positions_place l)
    → k.holdings ≡ read_rows (number 8) 2_048 (drop holdings_place l)
    → k.charges ≡ read_rows amount 256 (drop charges_place l)
    → k.entries ≡ field 2 entries_place l
    → k.trades ≡ read_rows trade 256 (drop trades_place l)
    → k ≡ book_of l
unfolding book_of
book_read l k d c r p h m e t =
    let r' = front 2 records_place l _ k.records (after_codes l) r in
    let p' = p ∙ ap (read_rows position 1_024) (sym (after_records l)) in
    let h' = h ∙ ap (read_rows (number 8) 2_048) (sym (after_positions l)) in
    let m' = m ∙ ap (read_rows amount 256) (sym (after_holdings l)) in
    let e' = front 2 entries_place l _ k.entries (after_charges l) e in
    let t' = t ∙ ap (read_rows trade 256) (sym (after_entries l)) in
    book_same d c r' p' h' m' e' t'
