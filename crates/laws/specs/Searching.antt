-- The walk over rows, step by step: at each step the rule has the same end, and at the last step no meeting is left.
use Rattle.std.specs.Prelude.{◌≡◌, ◌⊎◌, Bool, true, false, cond, ltb, set}
use Rattle.std.proofs.Math.Path.{refl, ap, subst}
use Rattle.std.proofs.Common.{sym, ◌∙◌}
use Rattle.std.proofs.Math.Logic.{inl, inr, ⊎_elim}
use mathlib.Core.List.{List}
use Prim.Native.Nat.{ℕ, zero, suc, ◌+◌, ◌-◌, min, ◌≤◌, ◌<◌}
use native.Mathlib.Omega.{arith}
use Rattle.std.proofs.Math.Decide.{ℕ_discrete, dec_lt}
use Rattle.std.proofs.Math.ListN.{length-map}
use borrow.Author.Tests.{lt-ltb, le-ltb}
use Rattle.rules.specs.Words.{keep}
use Rattle.rules.specs.Run.{Side, meetings_of}
use Rattle.rules.specs.declared.Book.{Book}
use Rattle.laws.specs.Rows.{row}
use Rattle.laws.specs.Walk.{Walking, owes, wants, left_to_give, size_of, met_at, meet, serve, search}
use Rattle.laws.specs.Merging.{less, walked_all, none_give, none_receive}
use Rattle.laws.specs.Spare.{at, some, Spent, none_kept, spent_all, less_there, less_spent}
use Rattle.laws.specs.Giving.{given_length}
use Rattle.laws.specs.SidesOf.{owed, wanting, holds, at_row}
use Rattle.laws.specs.RowMeeting.{gives, asks, done, Sane, gives_g, size_is, asked_after, gives_after, done_after, sane_after}

either : (t : Bool) (x : Walking) → cond t x x ≡ x
either true x = refl
either false x = refl

one_more : (l : List Side) (r : ℕ) → Spent l r → (at l r).shares ≡ 0 → Spent l (suc r)
one_more l r z e j h = go (ℕ_discrete j r)
  where
    go : Dec (j ≡ r) → (at l j).shares ≡ 0
    go (yes q) = subst (λ (i : ℕ). (at l i).shares ≡ 0) (sym q) e
    go (no q) = z j (omega arith)

-- a meeting of all that the two can: the giver has given all, or the receiver is full
meeting_turn : (l m : List Side) (g r k : ℕ) → 0 < k → k ≡ min (at l g).shares (at m r).shares → Spent m r → Dec ((at l g).shares ≡ k)
    → ((at (set l g (less (at l g) k)) g).shares ≡ 0) ⊎ Spent (set m r (less (at m r) k)) (suc r)
meeting_turn l m g r k hk ek z (yes e) =
    let q : (at (set l g (less (at l g) k)) g).shares ≡ (at l g).shares - k = ap (λ (o : Side). o.shares) (less_there l g k (omega arith)) in
    inl (omega arith)
meeting_turn l m g r k hk ek z (no e) =
    let q : (at (set m r (less (at m r) k)) r).shares ≡ (at m r).shares - k = ap (λ (o : Side). o.shares) (less_there m r k (omega arith)) in
    inr (one_more (set m r (less (at m r) k)) r (less_spent m r k r z) (omega arith))

module _ (b : Book) (s : ℕ) (hs : s < 32) where
  abbrev d : ℕ
  d = b.day

  abbrev n : ℕ
  n = b.records

  -- ── one step of the inner walk ──

  pub meet_none : (g r : ℕ) (x : Walking) → size_of d s x g r ≡ 0 → meet b s g r x ≡ x
  unfolding meet
  meet_none g r x e = rw (le-ltb 0 (size_of d s x g r) (omega arith)) (either (ltb 0 (wants d s (row x.records r))) x)

  pub none_left : (g : ℕ) (x : Walking) → owes d s (row x.records g) ≡ 0 → left_to_give d s x g ≡ 0
  unfolding left_to_give
  none_left g x e = omega arith

  size_wanted : (g r : ℕ) (x : Walking) → size_of d s x g r ≤ wants d s (row x.records r)
  unfolding size_of
  size_wanted g r x = omega arith

  pub meet_some : (g r : ℕ) (x : Walking) → 0 < size_of d s x g r → meet b s g r x ≡ met_at b s x g r (size_of d s x g r)
  unfolding meet
  meet_some g r x h = rw (lt-ltb 0 (size_of d s x g r) h, lt-ltb 0 (wants d s (row x.records r)) (omega (arith, size_wanted g r x)))

  -- from x to y the rule's end is the same, all before g have still given, and g has given or all before r are full
  pub record Reached (g r : ℕ) (x y : Walking) : Type 0 where
    pub same : done b s x ≡ done b s y
    pub sane : Sane d s n y
    pub spent : Spent (gives d s y) g
    pub turn : ((at (gives d s y) g).shares ≡ 0) ⊎ Spent (asks d s y) r

  idle_step : (g r : ℕ) (x : Walking) → min (at (gives d s x) g).shares (at (asks d s x) r).shares ≡ 0
      → ((at (gives d s x) g).shares ≡ 0) ⊎ Spent (asks d s x) r → ((at (gives d s x) g).shares ≡ 0) ⊎ Spent (asks d s x) (suc r)
  idle_step g r x e t = ⊎_elim (λ z. inl z) (λ z. go z (ℕ_discrete (at (gives d s x) g).shares 0)) t
    where
      go : Spent (asks d s x) r → Dec ((at (gives d s x) g).shares ≡ 0) → ((at (gives d s x) g).shares ≡ 0) ⊎ Spent (asks d s x) (suc r)
      go z (yes q) = inl q
      go z (no q) = inr (one_more (asks d s x) r z (omega arith))

  busy_step : (g r : ℕ) (x : Walking) → g < n → r < n → Sane d s n x → Spent (gives d s x) g → Spent (asks d s x) r → 0 < size_of d s x g r
      → Reached g (suc r) x (met_at b s x g r (size_of d s x g r))
  unfolding met_at
  busy_step g r x hg hr ok zg zr hk =
      let k : ℕ = size_of d s x g r in
      let ek : k ≡ min (at (gives d s x) g).shares (at (asks d s x) r).shares = size_is b s n x g r hg hr ok zg in
      let eg = gives_after b s n x g r hg hr ok zg k hs zr hk ek in
      let er = asked_after b s n x g r hg hr ok zg k hs zr hk ek in
      record {
        same = done_after b s n x g r hg hr ok zg k hs zr hk ek;
        sane = sane_after b s n x g r hg hr ok zg k hs zr hk ek;
        spent = subst (λ (l : List Side). Spent l g) (sym eg) (less_spent (gives d s x) g k g zg);
        turn = ⊎_elim
            (λ z. inl (ap (λ (l : List Side). (at l g).shares) eg ∙ z))
            (λ z. inr (subst (λ (l : List Side). Spent l (suc r)) (sym er) z))
            (meeting_turn (gives d s x) (asks d s x) g r k hk ek zr (ℕ_discrete (at (gives d s x) g).shares k));
      }

  meet_step : (g r : ℕ) (x : Walking) → g < n → r < n → Reached g r x x → Reached g (suc r) x (meet b s g r x)
  meet_step g r x hg hr w = go (dec_lt 0 (size_of d s x g r))
    where
      go : Dec (0 < size_of d s x g r) → Reached g (suc r) x (meet b s g r x)
      go (no h) =
          let e = size_is b s n x g r hg hr w.sane w.spent in
          subst (λ (y : Walking). Reached g (suc r) x y) (sym (meet_none g r x (omega arith)))
          (record { same = refl; sane = w.sane; spent = w.spent; turn = idle_step g r x (omega arith) w.turn })
      go (yes h) =
          let e = size_is b s n x g r hg hr w.sane w.spent in
          subst (λ (y : Walking). Reached g (suc r) x y) (sym (meet_some g r x h))
          (busy_step g r x hg hr w.sane w.spent (⊎_elim (λ z. absurd (omega arith)) (λ z. z) w.turn) h)

  -- ── the inner walk ──

  here : (g r : ℕ) (x y : Walking) → Reached g r x y → Reached g r y y
  here g r x y w = record { same = refl; sane = w.sane; spent = w.spent; turn = w.turn }

  onward : (g r t : ℕ) (x y z : Walking) → Reached g r x y → Reached g t y z → Reached g t x z
  onward g r t x y z u v = record { same = u.same ∙ v.same; sane = v.sane; spent = v.spent; turn = v.turn }

  serve_step : (g f r : ℕ) (x : Walking) → g < n → r + f ≡ n → Reached g r x x → Reached g n x (serve b s g f r x)
  unfolding serve
  serve_step g zero r x hg e w = subst (λ (m : ℕ). Reached g m x x) (omega arith) w
  serve_step g (suc f) r x hg e w =
      let y : Walking = meet b s g r x in
      let u = meet_step g r x hg (omega arith) w in
      onward g (suc r) n x y (serve b s g f (suc r) y) u (serve_step g f (suc r) y hg (omega arith) (here g (suc r) x y u))

  -- nobody wants: nothing happens
  serve_idle : (g f r : ℕ) (x : Walking) → r + f ≡ n → Sane d s n x → Spent (asks d s x) n → serve b s g f r x ≡ x
  unfolding serve
  serve_idle g zero r x e ok z = refl
  serve_idle g (suc f) r x e ok z = ap (serve b s g f (suc r)) (meet_none g r x (none (omega arith))) ∙ serve_idle g f (suc r) x (omega arith) ok z
    where
      none : r < n → size_of d s x g r ≡ 0
      none h = omega (arith, size_wanted g r x, z r h, ap (λ (o : Side). o.shares) (at_row (wanting d s) x.records r (omega (arith, ok.long))))

  -- ── the outer walk ──

  -- the first g have given, or all are full
  abbrev Turned : ℕ → Walking → Type 0
  Turned g x = Spent (gives d s x) g ⊎ Spent (asks d s x) n

  pub record Searched (g : ℕ) (x y : Walking) : Type 0 where
    pub same : done b s x ≡ done b s y
    pub sane : Sane d s n y
    pub turn : Turned g y

  abbrev turned : ℕ → Walking → Walking
  turned g x = cond (ltb 0 (owes d s (row x.records g))) (serve b s g n 0 x) x

  giver_step : (g : ℕ) (x : Walking) → g < n → Sane d s n x → Turned g x → Searched (suc g) x (turned g x)
  giver_step g x hg ok t = ⊎_elim (λ z. busy z (ℕ_discrete (owes d s (row x.records g)) 0)) (λ z. idle z) t
    where
      idle : Spent (asks d s x) n → Searched (suc g) x (turned g x)
      idle z =
          let e : turned g x ≡ x = rw (serve_idle g n 0 x (omega arith) ok z) (either (ltb 0 (owes d s (row x.records g))) x) in
          subst (λ (y : Walking). Searched (suc g) x y) (sym e) (record { same = refl; sane = ok; turn = inr z })

      busy : Spent (gives d s x) g → Dec (owes d s (row x.records g) ≡ 0) → Searched (suc g) x (turned g x)
      busy z (yes e) =
          rw (le-ltb 0 (owes d s (row x.records g)) (omega arith))
          (record { same = refl; sane = ok; turn = inl (one_more (gives d s x) g z (ap (λ (o : Side). o.shares) (gives_g b s n x g g hg hg ok z) ∙ none_left g x e)) })
      busy z (no e) =
          let w = serve_step g n 0 x hg (omega arith) (record { same = refl; sane = ok; spent = z; turn = inr (λ j h. absurd (omega arith)) }) in
          rw (lt-ltb 0 (owes d s (row x.records g)) (omega arith))
          (record { same = w.same; sane = w.sane; turn = ⊎_elim (λ q. inl (one_more (gives d s (serve b s g n 0 x)) g w.spent q)) (λ q. inr q) w.turn })

  search_step : (f g : ℕ) (x : Walking) → g + f ≡ n → Sane d s n x → Turned g x → Searched n x (search b s f g x)
  unfolding search
  search_step zero g x e ok t = record { same = refl; sane = ok; turn = subst (λ (m : ℕ). Turned m x) (omega arith) t }
  search_step (suc f) g x e ok t =
      let u = giver_step g x (omega arith) ok t in
      let v = search_step f (suc g) (turned g x) (omega arith) u.sane u.turn in
      record { same = u.same ∙ v.same; sane = v.sane; turn = v.turn }

  -- at its end no meeting is left
  done_end : (x : Walking) → Sane d s n x → Turned n x → done b s x ≡ x
  unfolding walked_all
  done_end x ok t =
      ⊎_elim
      (λ z. ap (λ (l : List Side). walked_all b s x (meetings_of (keep some (asks d s x)) l))
      (none_kept (gives d s x) (spent_all (gives d s x) n (omega (arith, given_length (owed d s x.records) (holds s x.holdings), simp length-map at (given_length (owed d s x.records) (holds s x.holdings)), ok.long)) z))
      ∙ ap (walked_all b s x) (none_give (keep some (asks d s x))))
      (λ z. ap (λ (l : List Side). walked_all b s x (meetings_of l (keep some (gives d s x))))
      (none_kept (asks d s x) (spent_all (asks d s x) n (omega (arith, length-map x.records (wanting d s), ok.long)) z))
      ∙ ap (walked_all b s x) (none_receive (keep some (gives d s x))))
      t

  -- the walk from a book in which nothing is done yet ends where the rule ends
  pub search_is : (x : Walking) → Sane d s n x → search b s n 0 x ≡ done b s x
  search_is x ok =
      let w = search_step n 0 x (omega arith) ok (inl (λ j h. absurd (omega arith))) in
      sym (w.same ∙ done_end (search b s n 0 x) w.sane w.turn)
