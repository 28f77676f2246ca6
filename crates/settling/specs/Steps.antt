-- The walk step by step, as the code takes it: what is left to do from here gives what the whole walk gives. A walk moves no fewer shares as it
-- goes on, and stays as it is while it moves none: so it may be left when all that can be given is given.
use Rattle.std.specs.Prelude.{◌≡◌, Bool, true, false, cond, ltb}
use Rattle.std.proofs.Math.Path.{refl, ap}
use Rattle.std.proofs.Common.{sym, ◌∙◌, lt-ltb, le-ltb}
use Prim.Native.Nat.{ℕ, zero, suc, ◌+◌, ◌-◌, ◌≤◌, ◌<◌}
use native.Mathlib.Omega.{arith}
use Rattle.std.proofs.Math.Numerals.{add-one}
use Rattle.std.proofs.Math.Decide.{dec_lt}
use Rattle.rules.specs.declared.Book.{Book}
use Rattle.laws.specs.Rows.{row}
use Rattle.laws.specs.Walk.{Walking, owes, wants, left_to_give, size_of, met_at, meet, serve, search}
use Rattle.laws.specs.Searching.{meet_none, none_left, meet_some}
use Rattle.settling.specs.Passing.{Full, serve_none, serve_full, meet_full}

-- what is left to do: row g has met the rows before r, or the rows before g have met all
abbrev pub inner_rest : Book → ℕ → ℕ → ℕ → Walking → Walking
inner_rest b s g r x = search b s (b.records - (g + 1)) (g + 1) (serve b s g (b.records - r) r x)

abbrev pub outer_rest : Book → ℕ → ℕ → Walking → Walking
outer_rest b s g x = search b s (b.records - g) g x

module _ (b : Book) (s : ℕ) (hs : s < 32) where
  abbrev d : ℕ
  d = b.day

  abbrev n : ℕ
  n = b.records

  -- ── shares only rise, and while they do not, nothing happens ──

  meet_grows : (g r : ℕ) (x : Walking) → x.shares ≤ (meet b s g r x).shares
  unfolding met_at
  meet_grows g r x = go (dec_lt 0 (size_of d s x g r))
    where
      go : Dec (0 < size_of d s x g r) → x.shares ≤ (meet b s g r x).shares
      go (yes h) = omega (arith, ap (λ (y : Walking). y.shares) (meet_some b s hs g r x h))
      go (no h) = omega (arith, ap (λ (y : Walking). y.shares) (meet_none b s hs g r x (omega arith)))

  meet_same : (g r : ℕ) (x : Walking) → (meet b s g r x).shares ≤ x.shares → meet b s g r x ≡ x
  unfolding met_at
  meet_same g r x l = go (dec_lt 0 (size_of d s x g r))
    where
      go : Dec (0 < size_of d s x g r) → meet b s g r x ≡ x
      go (yes h) = absurd (omega (arith, ap (λ (y : Walking). y.shares) (meet_some b s hs g r x h)))
      go (no h) = meet_none b s hs g r x (omega arith)

  serve_grows : (g f r : ℕ) (x : Walking) → x.shares ≤ (serve b s g f r x).shares
  unfolding serve
  serve_grows g zero r x = omega arith
  serve_grows g (suc f) r x = omega (arith, meet_grows g r x, serve_grows g f (suc r) (meet b s g r x))

  serve_same : (g f r : ℕ) (x : Walking) → (serve b s g f r x).shares ≤ x.shares → serve b s g f r x ≡ x
  unfolding serve
  serve_same g zero r x l = refl
  serve_same g (suc f) r x l =
      let y : Walking = meet b s g r x in
      let up = serve_grows g f (suc r) y in
      serve_same g f (suc r) y (omega (arith, meet_grows g r x)) ∙ meet_same g r x (omega arith)

  -- row g, if it owes, meets all rows
  abbrev turned : ℕ → Walking → Walking
  turned g x = cond (ltb 0 (owes d s (row x.records g))) (serve b s g n 0 x) x

  chosen_grows : (t : Bool) (x y : Walking) → x.shares ≤ y.shares → x.shares ≤ (cond t y x).shares
  chosen_grows true x y l = l
  chosen_grows false x y l = omega arith

  chosen_same : (t : Bool) (x y : Walking) → (y.shares ≤ x.shares → y ≡ x) → (cond t y x).shares ≤ x.shares → cond t y x ≡ x
  chosen_same true x y e l = e l
  chosen_same false x y e l = refl

  turned_grows : (g : ℕ) (x : Walking) → x.shares ≤ (turned g x).shares
  turned_grows g x = chosen_grows (ltb 0 (owes d s (row x.records g))) x (serve b s g n 0 x) (serve_grows g n 0 x)

  turned_same : (g : ℕ) (x : Walking) → (turned g x).shares ≤ x.shares → turned g x ≡ x
  turned_same g x l = chosen_same (ltb 0 (owes d s (row x.records g))) x (serve b s g n 0 x) (serve_same g n 0 x) l

  search_grows : (f g : ℕ) (x : Walking) → x.shares ≤ (search b s f g x).shares
  unfolding search
  search_grows zero g x = omega arith
  search_grows (suc f) g x = omega (arith, turned_grows g x, search_grows f (suc g) (turned g x))

  pub search_same : (f g : ℕ) (x : Walking) → (search b s f g x).shares ≤ x.shares → search b s f g x ≡ x
  unfolding search
  search_same zero g x l = refl
  search_same (suc f) g x l =
      let up = search_grows f (suc g) (turned g x) in
      search_same f (suc g) (turned g x) (omega (arith, turned_grows g x)) ∙ turned_same g x (omega arith)

  -- ── one step of each loop ──

  outer_step : (g : ℕ) (x : Walking) → g < n → outer_rest b s g x ≡ search b s (n - (g + 1)) (g + 1) (turned g x)
  unfolding search
  outer_step g x h =
      let e : n - g ≡ suc (n - (g + 1)) = omega arith in
      rw (e, add-one g)

  -- row g meets the rows from r on, for those before want nothing; or it owes nothing
  pub rest_enter : (g r : ℕ) (x : Walking) → g < n → r ≤ n → Full d s x.records r → outer_rest b s g x ≡ inner_rest b s g r x
  rest_enter g r x h l f = outer_step g x h ∙ ap (search b s (n - (g + 1)) (g + 1)) (go (dec_lt 0 (owes d s (row x.records g))))
    where
      go : Dec (0 < owes d s (row x.records g)) → turned g x ≡ serve b s g (n - r) r x
      go (yes o) = rw (lt-ltb 0 (owes d s (row x.records g)) o) (serve_full b s hs g r x l f)
      go (no o) = rw (le-ltb 0 (owes d s (row x.records g)) (omega arith)) (sym (serve_none b s hs g (n - r) r x (none_left b s hs g x (omega arith))))

  pub rest_meet : (g r : ℕ) (x : Walking) → r < n → inner_rest b s g r x ≡ inner_rest b s g (r + 1) (meet b s g r x)
  unfolding serve
  rest_meet g r x h =
      let e : n - r ≡ suc (n - (r + 1)) = omega arith in
      rw (e, add-one r)

  -- who wants nothing is passed over
  pub rest_full : (g r : ℕ) (x : Walking) → r < n → wants d s (row x.records r) ≡ 0 → inner_rest b s g r x ≡ inner_rest b s g (r + 1) x
  rest_full g r x h z = rest_meet g r x h ∙ ap (inner_rest b s g (r + 1)) (meet_full b s hs g r x z)

  -- who has nothing left to give is left
  pub rest_spent : (g r : ℕ) (x : Walking) → left_to_give d s x g ≡ 0 → inner_rest b s g r x ≡ outer_rest b s (g + 1) x
  rest_spent g r x z = ap (search b s (n - (g + 1)) (g + 1)) (serve_none b s hs g (n - r) r x z)

  -- a meeting is done, and the two have no more to do with each other
  pub rest_met : (g r : ℕ) (x y : Walking) → r < n → meet b s g r x ≡ y → size_of d s y g r ≡ 0 → inner_rest b s g r y ≡ inner_rest b s g r x
  rest_met g r x y h e z =
      rest_meet g r y h ∙ ap (inner_rest b s g (r + 1)) (meet_none b s hs g r y z ∙ sym e) ∙ sym (rest_meet g r x h)

  pub rest_leave : (g r : ℕ) (x : Walking) → n ≤ r → inner_rest b s g r x ≡ outer_rest b s (g + 1) x
  unfolding serve
  rest_leave g r x h = let e : n - r ≡ 0 = omega arith in rw e

  pub rest_none : (g : ℕ) (x : Walking) → n ≤ g → outer_rest b s g x ≡ x
  unfolding search
  rest_none g x h = let e : n - g ≡ 0 = omega arith in rw e

  -- ── what is left to do moves no fewer shares, and with none to move does nothing ──

  pub rest_grows : (g r : ℕ) (x : Walking) → x.shares ≤ (inner_rest b s g r x).shares
  rest_grows g r x =
      omega (arith, serve_grows g (n - r) r x, search_grows (n - (g + 1)) (g + 1) (serve b s g (n - r) r x))

  pub rest_same : (g r : ℕ) (x : Walking) → (inner_rest b s g r x).shares ≤ x.shares → inner_rest b s g r x ≡ x
  rest_same g r x l =
      let y : Walking = serve b s g (n - r) r x in
      let up = search_grows (n - (g + 1)) (g + 1) y in
      search_same (n - (g + 1)) (g + 1) y (omega (arith, serve_grows g (n - r) r x)) ∙ serve_same g (n - r) r x (omega arith)
