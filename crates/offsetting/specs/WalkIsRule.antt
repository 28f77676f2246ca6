-- The walk over rows is the rule's: of older, newly due and later records, one behind the other, it leaves what `offset_all` makes of them.
use Rattle.std.specs.Prelude.{◌≡◌, refl, true, false, ℕ, suc, ◌+◌, ◌<◌, length, get_or}
use Rattle.std.proofs.Common.{sym, ◌∙◌, zero-add, suc-add, arith, length-append, length-set, get_or-append-add, get_or-set_same, set-set}
use Rattle.std.proofs.Math.Path.{ap}
use mathlib.Core.List.{List, [], ◌∷◌, ◌++◌}
use Rattle.std.proofs.Math.ListN.{set}
use Rattle.std.proofs.Math.Seq.{append_snoc, get_or-append_seam, set-append_seam}
use Rattle.std.proofs.lemmas.List.{set-get_or}
use Rattle.units.specs.declared.Mils.{Mils}
use Rattle.rules.specs.Book.{quantity_of, money_of, is_zero, no_position, open_of}
use Rattle.rules.specs.Parts.{without, charged_to, charged_both}
use Rattle.rules.specs.Roll.{faces, smaller, Offsetting, in_front, against, offset_one, offset_all}
use Rattle.rules.specs.declared.Position.{Position}
use Rattle.rules.specs.declared.Book.{Book}
use Rattle.laws.specs.Cases.{by_test}
use Rattle.laws.specs.Rows.{row, without_both}
use Rattle.laws.specs.Facing.{none_faces}
use Rattle.laws.specs.Against.{against_met, against_passed}
use Rattle.laws.specs.DueDays.{parts_whole}
use Rattle.laws.specs.OffsetKept.{Ready, older_of, newly_of, later_of, met_of}
use Rattle.offsetting.specs.Walk.{Walking, walking, meet, pass, whole, walk, all_met}

-- ── rows of a list in parts ──

set_append_add : {A : Type 0} (xs ys : List A) (n : ℕ) (a : A) → set (xs ++ ys) (length xs + n) a ≡ xs ++ set ys n a
set_append_add [] ys n a = ap (λ (k : ℕ). set ys k a) (zero-add n)
set_append_add {A} (x ∷ xs) ys n a =
    ap (λ (k : ℕ). set (x ∷ (xs ++ ys)) k a) (suc-add (length xs) n) ∙ ap (λ (l : List A). x ∷ l) (set_append_add xs ys n a)

-- ── one newly due row against the older ones ──

-- the rows before, an older one, the older ones behind it, and the rest, with the newly due one at place t of it
module _ (b : Book) (pre os ms : List Position) (t : ℕ) (p o : Position) (cs : List Mils) (e : get_or ms t no_position ≡ p) where
  abbrev rows : List Position
  rows = pre ++ (o ∷ (os ++ ms))

  abbrev i : ℕ
  i = length pre + (suc (length os) + t)

  row_older : row rows (length pre) ≡ o
  row_older = get_or-append_seam pre o (os ++ ms) no_position

  row_newly : row rows i ≡ p
  row_newly =
      get_or-append-add pre (o ∷ (os ++ ms)) (suc (length os) + t) no_position ∙ get_or-append-add (o ∷ os) ms t no_position ∙ e

  set_both : (q r : Position) → set (set rows (length pre) q) i r ≡ (pre ++ (q ∷ [])) ++ (os ++ set ms t r)
  set_both q r =
      ap (λ (l : List Position). set l i r) (set-append_seam pre o (os ++ ms) q)
      ∙ set_append_add pre (q ∷ (os ++ ms)) (suc (length os) + t) r
      ∙ ap (λ (l : List Position). pre ++ l) (set_append_add (q ∷ os) ms t r)
      ∙ sym (append_snoc pre q (os ++ set ms t r))

  meet_met : faces p o ≡ true
      → meet b i (length pre) (walking rows cs)
      ≡ walking ((pre ++ (without o (smaller p o) ∷ [])) ++ (os ++ set ms t (without p (smaller p o)))) (charged_both b cs o p (smaller p o))
  unfolding meet without_both
  meet_met f =
      rw (row_older, row_newly, f)
      (ap (λ (l : List Position). walking l (charged_both b cs o p (smaller p o))) (set_both (without o (smaller p o)) (without p (smaller p o))))

  meet_passed : faces p o ≡ false → meet b i (length pre) (walking rows cs) ≡ walking ((pre ++ (o ∷ [])) ++ (os ++ ms)) cs
  unfolding meet
  meet_passed f = rw (row_older, row_newly, f) (ap (λ (l : List Position). walking l cs) (sym (append_snoc pre o (os ++ ms))))

  -- with what comes of the older ones behind it
  abbrev k : ℕ
  k = smaller p o

  abbrev behind : Position → List Position → Offsetting → Walking
  behind q rest x = walking ((pre ++ (q ∷ [])) ++ (x.older ++ set rest t x.newly)) x.charges

  seam : (q : Position) (x : Offsetting) → behind q ms x ≡ walking (pre ++ ((in_front q x).older ++ set ms t (in_front q x).newly)) (in_front q x).charges
  unfolding in_front
  seam q x = ap (λ (l : List Position). walking l x.charges) (append_snoc pre q (x.older ++ set ms t x.newly))

  abbrev Passes : ℕ → Walking → Walking → Type 0
  Passes j x y = pass b i (length os) j x ≡ y

  step_met : faces p o ≡ true
      → Passes (length (pre ++ (without o k ∷ []))) (walking ((pre ++ (without o k ∷ [])) ++ (os ++ set ms t (without p k))) (charged_both b cs o p k))
      (behind (without o k) (set ms t (without p k)) (against b (without p k) os (charged_both b cs o p k)))
      → Passes (suc (length pre)) (meet b i (length pre) (walking rows cs))
      (walking (pre ++ ((against b p (o ∷ os) cs).older ++ set ms t (against b p (o ∷ os) cs).newly)) (against b p (o ∷ os) cs).charges)
  step_met f ih =
      let x = against b (without p k) os (charged_both b cs o p k) in
      let more : suc (length pre) ≡ length (pre ++ (without o k ∷ [])) = omega (arith, length-append pre (without o k ∷ [])) in
      rw (meet_met f, against_met b p o os cs f, more)
      (ih
      ∙ ap (λ (l : List Position). walking ((pre ++ (without o k ∷ [])) ++ (x.older ++ l)) x.charges) (set-set ms t (without p k) x.newly)
      ∙ seam (without o k) x)

  step_passed : faces p o ≡ false
      → Passes (length (pre ++ (o ∷ []))) (walking ((pre ++ (o ∷ [])) ++ (os ++ ms)) cs) (behind o ms (against b p os cs))
      → Passes (suc (length pre)) (meet b i (length pre) (walking rows cs))
      (walking (pre ++ ((against b p (o ∷ os) cs).older ++ set ms t (against b p (o ∷ os) cs).newly)) (against b p (o ∷ os) cs).charges)
  step_passed f ih =
      let more : suc (length pre) ≡ length (pre ++ (o ∷ [])) = omega (arith, length-append pre (o ∷ [])) in
      rw (meet_passed f, against_passed b p o os cs f, more) (ih ∙ seam o (against b p os cs))

-- against all of them, from row j on
pass_is : (b : Book) (os pre ms : List Position) (t i j : ℕ) (p : Position) (cs : List Mils) → t < length ms → get_or ms t no_position ≡ p
    → j ≡ length pre → i ≡ length pre + (length os + t)
    → pass b i (length os) j (walking (pre ++ (os ++ ms)) cs)
    ≡ walking (pre ++ ((against b p os cs).older ++ set ms t (against b p os cs).newly)) (against b p os cs).charges
unfolding pass against
pass_is b [] pre ms t i j p cs h e ej ei =
    ap (λ (l : List Position). walking (pre ++ l) cs) (sym (set-get_or ms t no_position) ∙ ap (set ms t) e)
pass_is b (o ∷ os) pre ms t i j p cs h e ej ei =
    let k = smaller p o in
    let next : List Position → ℕ = λ l. length l + (length os + t) in
    let at : (q : Position) → length pre + (suc (length os) + t) ≡ next (pre ++ (q ∷ [])) = λ q. omega (arith, length-append pre (q ∷ [])) in
    rw (ei, ej)
    (by_test (faces p o)
    (λ f. step_met b pre os ms t p o cs e f
    (pass_is b os (pre ++ (without o k ∷ [])) (set ms t (without p k)) t (length pre + (suc (length os) + t)) (length (pre ++ (without o k ∷ [])))
    (without p k) (charged_both b cs o p k) (omega (arith, length-set ms t (without p k))) (get_or-set_same ms t (without p k) no_position h) refl (at (without o k))))
    (λ f. step_passed b pre os ms t p o cs e f
    (pass_is b os (pre ++ (o ∷ [])) ms t (length pre + (suc (length os) + t)) (length (pre ++ (o ∷ []))) p cs h e refl (at o))))

-- ── one newly due row ──

-- a record with no shares meets no one
against_idle : (b : Book) (p : Position) (os : List Position) (cs : List Mils) → is_zero (quantity_of p) ≡ true
    → against b p os cs ≡ record { older = os; newly = p; charges = cs }
unfolding against in_front
against_idle b p [] cs z = refl
against_idle b p (o ∷ os) cs z = rw (none_faces p o z) (ap (in_front o) (against_idle b p os cs z))

-- as many older ones as before
against_length : (b : Book) (p : Position) (os : List Position) (cs : List Mils) → length (against b p os cs).older ≡ length os
unfolding against in_front
against_length b p [] cs = refl
against_length b p (o ∷ os) cs =
    by_test (faces p o)
    (λ f. rw f (ap suc (against_length b (without p (smaller p o)) os (charged_both b cs o p (smaller p o)))))
    (λ f. rw f (ap suc (against_length b p os cs)))

module _ (b : Book) (p : Position) (os : List Position) (cs : List Mils) where
  one_length : length (offset_one b p os cs).older ≡ length os
  unfolding offset_one
  one_length = by_test (is_zero (quantity_of p)) (λ z. rw z) (λ z. rw z (against_length b p os cs))

  module _ (past rest : List Position) (i : ℕ) (ei : i ≡ length os + length past) where
    abbrev ms : List Position
    ms = past ++ (p ∷ rest)

    row_is : row (os ++ ms) i ≡ p
    row_is = rw ei (get_or-append-add os ms (length past) no_position ∙ get_or-append_seam past p rest no_position)

    passed : (ds : List Mils) → pass b i (length os) 0 (walking (os ++ ms) ds)
        ≡ walking ((against b p os ds).older ++ (past ++ ((against b p os ds).newly ∷ rest))) (against b p os ds).charges
    passed ds =
        let x = against b p os ds in
        pass_is b os [] ms (length past) i 0 p ds (omega (arith, length-append past (p ∷ rest))) (get_or-append_seam past p rest no_position) refl (omega arith)
        ∙ ap (λ (l : List Position). walking (x.older ++ l) x.charges) (set-append_seam past p rest x.newly)

    turn_is : pass b i (length os) 0 (whole b i (walking (os ++ ms) cs))
        ≡ walking ((offset_one b p os cs).older ++ (past ++ ((offset_one b p os cs).newly ∷ rest))) (offset_one b p os cs).charges
    unfolding whole offset_one
    turn_is =
        by_test (is_zero (quantity_of p))
        (λ z. rw (row_is, z) (rw (against_idle b p os (charged_to b cs p (money_of p)) z) at (passed (charged_to b cs p (money_of p)))))
        (λ z. rw (row_is, z) (passed cs))

-- ── all of them ──

walk_is : (b : Book) (ps past os ls : List Position) (cs : List Mils) (i m : ℕ) → m ≡ length os → i ≡ length os + length past
    → walk b m (length ps) i (walking (os ++ (past ++ (ps ++ ls))) cs)
    ≡ walking ((offset_all b ps os cs).older ++ (past ++ ((offset_all b ps os cs).newly ++ ls))) (offset_all b ps os cs).charges
unfolding walk offset_all
walk_is b [] past os ls cs i m em ei = refl
walk_is b (p ∷ ps) past os ls cs i m em ei =
    let x = offset_one b p os cs in
    let r = offset_all b ps x.older x.charges in
    let long = one_length b p os cs in
    ap (λ (n : ℕ). walk b m (length ps) (suc i) (pass b i n 0 (whole b i (walking (os ++ (past ++ (p ∷ (ps ++ ls)))) cs)))) em
    ∙ ap (walk b m (length ps) (suc i))
    (turn_is b p os cs past (ps ++ ls) i ei
    ∙ ap (λ (l : List Position). walking (x.older ++ l) x.charges) (sym (append_snoc past x.newly (ps ++ ls))))
    ∙ walk_is b ps (past ++ (x.newly ∷ [])) x.older ls x.charges (suc i) m (em ∙ sym long) (omega (arith, length-append past (x.newly ∷ [])))
    ∙ ap (λ (l : List Position). walking (r.older ++ l) r.charges) (append_snoc past x.newly (r.newly ++ ls))

-- of a book that is ready for it
pub walked_is : (b : Book) → Ready b
    → walk b (length (older_of b)) (length (newly_of b)) (length (older_of b)) (walking (open_of b) b.charges) ≡ all_met b
unfolding all_met met_of
walked_is b r =
    let m = length (older_of b) in
    ap (λ (l : List Position). walk b m (length (newly_of b)) m (walking l b.charges)) (sym (parts_whole b.day (open_of b) r.order))
    ∙ walk_is b (newly_of b) [] (older_of b) (later_of b) b.charges m m refl (omega arith)
