-- Lines written one behind the other, or only measured: how far the sheet has come, what stands in the buffer, and the walk over a list of lines.
use Rattle.std.specs.Prelude.{◌≡◌, refl, Bool, true, false, cond, ℕ, ◌+◌, ◌-◌, ◌≤◌, length, take, drop}
use Rattle.std.proofs.Common.{sym, ap, subst, ◌∙◌, add-zero, arith, length-append, length-drop, take-append-drop, take_all, length-take-le}
use mathlib.Core.List.{List, [], ◌∷◌, ◌++◌, append_assoc, append-nil}
use Rattle.std.proofs.Math.Seq.{drop-length}
use Rattle.fields.specs.Field.{stored}
use Rattle.fields.specs.FieldLaws.{after, stored_none, stored_behind}
use Rattle.rules.specs.Words.{each}
use Rattle.rules.specs.Bounds.{most_tally}
use Rattle.rules.specs.Sheet.{text_of, line_answer, line_bytes, line_tally}
use Rattle.rules.specs.declared.Line.{Line}
use Rattle.rules.specs.declared.Tally.{Tally}
use Rattle.laws.specs.Cases.{true_false}
use Rattle.sheet_laws.specs.Widths.{each_append, each_one, length_both}
use Rattle.sheet_laws.specs.Bounded.{most_lines}
use Rattle.lines.specs.Counting.{moved, passes_by, answer_yes, tally_yes, bytes_yes}

-- ── definitions ──

-- nothing written yet
abbrev pub start : Tally
start = record { lines = 0; bytes = 0 }

-- the text of lines
abbrev pub texts_of : List Line → List ℕ
texts_of ls = each text_of ls

-- how far the sheet has come with these lines
unfoldable pub reached : Tally → List Line → Tally
reached r ls = record { lines = r.lines + length ls; bytes = r.bytes + length (texts_of ls) }

-- written, or only measured
unfoldable pub put_if : Bool → List ℕ → ℕ → List ℕ → List ℕ
put_if w bs at xs = cond w (stored bs at xs) bs

-- What a writer asks: lines that are written fit into the n bytes of the buffer; written or only counted, they keep the tally within its bounds.
pub record Ready (w : Bool) (n : ℕ) (r : Tally) (ls : List Line) : Type 0 where
  pub fits : w ≡ true → r.bytes + length (texts_of ls) ≤ n
  pub short : r.bytes + length (texts_of ls) ≤ most_tally
  pub few : r.lines + length ls ≤ most_lines

-- What it promises: the buffer was bs at r, and is cs at s with these lines.
pub record Wrote (w : Bool) (bs : List ℕ) (r : Tally) (ls : List Line) (cs : List ℕ) (s : Tally) : Type 0 where
  pub reach : s ≡ reached r ls
  pub bytes : cs ≡ put_if w bs r.bytes (texts_of ls)

-- ── how far the sheet has come ──

pub bytes_of_lem : (s r : Tally) (ls : List Line) → s ≡ reached r ls → s.bytes ≡ r.bytes + length (texts_of ls)
unfolding reached
bytes_of_lem s r ls e = ap (λ (x : Tally). x.bytes) e

pub lines_of : (s r : Tally) (ls : List Line) → s ≡ reached r ls → s.lines ≡ r.lines + length ls
unfolding reached
lines_of s r ls e = ap (λ (x : Tally). x.lines) e

pub reach_of : (s r : Tally) (ls : List Line) → s.bytes ≡ r.bytes + length (texts_of ls) → s.lines ≡ r.lines + length ls → s ≡ reached r ls
unfolding reached
reach_of s r ls p n = λ i. record { lines = n i; bytes = p i }

-- ── what stands in the buffer ──

put_none : (w : Bool) (bs : List ℕ) (at : ℕ) → bs ≡ put_if w bs at []
unfolding put_if
put_none true bs at = stored_none bs at
put_none false bs at = refl

put_more : (w : Bool) (bs cs ds : List ℕ) (at k : ℕ) (xs ys : List ℕ) → cs ≡ put_if w bs at xs → ds ≡ put_if w cs k ys → k ≡ at + length xs
    → ds ≡ put_if w bs at (xs ++ ys)
unfolding put_if
put_more true bs cs ds at k xs ys e f g = after bs cs ds at k xs ys e f g
put_more false bs cs ds at k xs ys e f g = f ∙ e

-- ── writers one after the other ──

module _ (w : Bool) where
  -- no line
  pub wrote_none : (n : ℕ) (bs : List ℕ) (r : Tally) (ls : List Line) → Ready w n r ls → Wrote w bs r [] bs r
  unfolding each
  wrote_none n bs r ls h =
      record {
        reach = reach_of r r [] (sym (add-zero r.bytes)) (sym (add-zero r.lines));
        bytes = put_none w bs r.bytes;
      }

  pub wrote_more : (bs cs ds : List ℕ) (r s t : Tally) (xs ys : List Line) → Wrote w bs r xs cs s → Wrote w cs s ys ds t → Wrote w bs r (xs ++ ys) ds t
  wrote_more bs cs ds r s t xs ys h k =
      let p = bytes_of_lem s r xs h.reach in
      let n = lines_of s r xs h.reach in
      record {
        reach =
            reach_of t r (xs ++ ys) (omega (arith, bytes_of_lem t s ys k.reach, length_both text_of xs ys))
            (omega (arith, lines_of t s ys k.reach, length-append xs ys));
        bytes =
            put_more w bs cs ds r.bytes s.bytes (texts_of xs) (texts_of ys) h.bytes k.bytes p
            ∙ ap (put_if w bs r.bytes) (sym (each_append text_of xs ys));
      }

  pub ready_left : (n : ℕ) (r : Tally) (xs ys : List Line) → Ready w n r (xs ++ ys) → Ready w n r xs
  ready_left n r xs ys h =
      record {
        fits = λ e. let f = h.fits e in omega (arith, length_both text_of xs ys);
        short = omega (arith, h.short, length_both text_of xs ys);
        few = omega (arith, h.few, length-append xs ys);
      }

  pub ready_right : (n : ℕ) (bs cs : List ℕ) (r s : Tally) (xs ys : List Line) → Ready w n r (xs ++ ys) → Wrote w bs r xs cs s → Ready w n s ys
  ready_right n bs cs r s xs ys h k =
      record {
        fits = λ e. let f = h.fits e in omega (arith, length_both text_of xs ys, bytes_of_lem s r xs k.reach);
        short = omega (arith, h.short, length_both text_of xs ys, bytes_of_lem s r xs k.reach);
        few = omega (arith, h.few, length-append xs ys, lines_of s r xs k.reach);
      }

  -- the same lines in other words
  pub wrote_as : (bs cs : List ℕ) (r s : Tally) (ls ms : List Line) → ls ≡ ms → Wrote w bs r ls cs s → Wrote w bs r ms cs s
  wrote_as bs cs r s ls ms e h = subst (λ (m : List Line). Wrote w bs r m cs s) e h

  -- ── a loop over lines: some are done, and `left` is left of all ──

  pub record Going (bs : List ℕ) (r : Tally) (ls : List Line) (cs : List ℕ) (s : Tally) (left : List Line) : Type 0 where
    pub done : List Line
    pub whole : ls ≡ done ++ left
    pub wrote : Wrote w bs r done cs s

  pub going_start : (n : ℕ) (bs : List ℕ) (r : Tally) (ls left : List Line) → Ready w n r ls → ls ≡ left → Going bs r ls bs r left
  going_start n bs r ls left h e = record { done = []; whole = e; wrote = wrote_none n bs r ls h }

  -- the next lines may be written, and when they are the others are left
  pub going_ready : (m n : ℕ) (bs cs : List ℕ) (r s : Tally) (ls left xs ys : List Line) → m ≡ n → Ready w n r ls → Going bs r ls cs s left
      → left ≡ xs ++ ys → Ready w m s xs
  going_ready m n bs cs r s ls left xs ys long h g e =
      subst (λ (k : ℕ). Ready w k s xs) (sym long)
      (ready_left n s xs ys
      (subst (Ready w n s) e (ready_right n bs cs r s g.done left (subst (Ready w n r) g.whole h) g.wrote)))

  pub going_next : (bs cs ds : List ℕ) (r s t : Tally) (ls left xs ys : List Line) → Going bs r ls cs s left → left ≡ xs ++ ys → Wrote w cs s xs ds t
      → Going bs r ls ds t ys
  going_next bs cs ds r s t ls left xs ys g e k =
      record {
        done = g.done ++ xs;
        whole = g.whole ∙ ap (λ (m : List Line). g.done ++ m) e ∙ sym (append_assoc g.done xs ys);
        wrote = wrote_more bs cs ds r s t g.done xs g.wrote k;
      }

  pub going_done : (bs cs : List ℕ) (r s : Tally) (ls left : List Line) → Going bs r ls cs s left → left ≡ [] → Wrote w bs r ls cs s
  going_done bs cs r s ls left g e =
      wrote_as bs cs r s g.done ls (sym (g.whole ∙ ap (λ (m : List Line). g.done ++ m) e ∙ append-nil g.done)) g.wrote

-- ── three writers, one after the other ──

module _ (w : Bool) (n : ℕ) (bs : List ℕ) (r : Tally) (ls xs ys zs : List Line) (h : Ready w n r ls) (is : ls ≡ xs ++ (ys ++ zs)) where
  whole : Going w bs r ls bs r (xs ++ (ys ++ zs))
  whole = going_start w n bs r ls (xs ++ (ys ++ zs)) h is

  pub ready_first : (m : ℕ) → m ≡ n → Ready w m r xs
  ready_first m e = going_ready w m n bs bs r r ls (xs ++ (ys ++ zs)) xs (ys ++ zs) e h whole refl

  module _ (cs : List ℕ) (s : Tally) (one : Wrote w bs r xs cs s) where
    rest : Going w bs r ls cs s (ys ++ zs)
    rest = going_next w bs bs cs r r s ls (xs ++ (ys ++ zs)) xs (ys ++ zs) whole refl one

    pub ready_second : (m : ℕ) → m ≡ n → Ready w m s ys
    ready_second m e = going_ready w m n bs cs r s ls (ys ++ zs) ys zs e h rest refl

    module _ (ds : List ℕ) (t : Tally) (two : Wrote w cs s ys ds t) where
      last : Going w bs r ls ds t zs
      last = going_next w bs cs ds r s t ls (ys ++ zs) ys zs rest refl two

      pub ready_third : (m : ℕ) → m ≡ n → Ready w m t zs
      ready_third m e = going_ready w m n bs ds r t ls zs zs [] e h last (sym (append-nil zs))

      pub wrote_three : (es : List ℕ) (u : Tally) → Wrote w ds t zs es u → Wrote w bs r ls es u
      wrote_three es u three =
          going_done w bs es r u ls [] (going_next w bs ds es r t u ls zs zs [] last (sym (append-nil zs)) three) refl

pub put_yes : (w : Bool) (bs cs : List ℕ) (at : ℕ) (xs : List ℕ) → w ≡ true → cs ≡ stored bs at xs → cs ≡ put_if w bs at xs
unfolding put_if
put_yes true bs cs at xs e f = f
put_yes false bs cs at xs e f = true_false e refl

pub put_no : (w : Bool) (bs : List ℕ) (at : ℕ) (xs : List ℕ) → w ≡ false → bs ≡ put_if w bs at xs
unfolding put_if
put_no true bs at xs e = true_false refl e
put_no false bs at xs e = refl

-- ── one line ──

module _ (w : Bool) (n : ℕ) (bs : List ℕ) (r : Tally) (l : Line) (h : Ready w n r (l ∷ [])) where
  -- the tally passes neither bound with it
  pub one_passes : (room : ℕ) → length (text_of l) ≤ room → line_answer room l r ≡ 0
  one_passes room k =
      let e = ap length (each_one text_of l) in
      answer_yes room l r (passes_by room (length (text_of l)) r k (omega (arith, h.few)) (omega (arith, h.short)))

  wrote_line : (cs : List ℕ) (s : Tally) → s ≡ moved (length (text_of l)) r → cs ≡ put_if w bs r.bytes (text_of l) → Wrote w bs r (l ∷ []) cs s
  wrote_line cs s e f =
      let one = each_one text_of l in
      record {
        reach = reach_of s r (l ∷ []) (ap (λ (x : Tally). x.bytes) e ∙ ap (λ (xs : List ℕ). r.bytes + length xs) (sym one)) (ap (λ (x : Tally). x.lines) e);
        bytes = f ∙ ap (put_if w bs r.bytes) (sym one);
      }

  -- only counted
  pub counted_one : (room : ℕ) (s : Tally) → w ≡ false → most_tally ≤ room → s ≡ line_tally room l r → Wrote w bs r (l ∷ []) bs s
  counted_one room s off k e =
      let fits : length (text_of l) ≤ room = omega (arith, h.short, ap length (each_one text_of l), k) in
      wrote_line bs s (e ∙ tally_yes room l r (one_passes room fits)) (put_no w bs r.bytes (text_of l) off)

  -- written behind what the tally has counted: into the part of the buffer from there on, which then stands in its place again
  module _ (on : w ≡ true) (long : n ≡ length bs) where
    fits : r.bytes + length (text_of l) ≤ length bs
    fits = omega (arith, h.fits on, ap length (each_one text_of l), long)

    abbrev behind : List ℕ
    behind = take (length bs - r.bytes) (drop r.bytes bs)

    all_behind : behind ≡ drop r.bytes bs
    all_behind = take_all (length bs - r.bytes) (drop r.bytes bs) (omega (arith, length-drop r.bytes bs))

    no_more : drop (length bs - r.bytes) (drop r.bytes bs) ≡ []
    no_more = ap (λ (k : ℕ). drop k (drop r.bytes bs)) (sym (length-drop r.bytes bs)) ∙ drop-length (drop r.bytes bs)

    passed : line_answer (length behind) l r ≡ 0
    passed = one_passes (length behind) (omega (arith, fits, ap length all_behind, length-drop r.bytes bs))

    put_back : (part : List ℕ) → part ≡ line_bytes behind l r
        → take r.bytes bs ++ (part ++ drop (length bs - r.bytes) (drop r.bytes bs)) ≡ stored bs r.bytes (text_of l)
    put_back part e =
        let front = take r.bytes bs in
        let rest = drop r.bytes bs in
        let put = stored rest 0 (text_of l) in
        let is : part ≡ put = e ∙ sym (bytes_yes behind l r passed) ∙ ap (λ (b : List ℕ). stored b 0 (text_of l)) all_behind in
        ap (λ (m : List ℕ). front ++ (part ++ m)) no_more
        ∙ ap (λ (m : List ℕ). front ++ m) (append-nil part ∙ is)
        ∙ sym (stored_behind front rest (text_of l) 0 r.bytes (omega (arith, fits, length-take-le r.bytes bs (omega (arith, fits)))))
        ∙ ap (λ (b : List ℕ). stored b r.bytes (text_of l)) (take-append-drop r.bytes bs)

    pub written_one : (part : List ℕ) (s : Tally) → s ≡ line_tally (length behind) l r → part ≡ line_bytes behind l r
        → Wrote w bs r (l ∷ []) (take r.bytes bs ++ (part ++ drop (length bs - r.bytes) (drop r.bytes bs))) s
    written_one part s e f =
        wrote_line _ s (e ∙ tally_yes (length behind) l r passed) (put_yes w bs _ r.bytes (text_of l) on (put_back part f))
