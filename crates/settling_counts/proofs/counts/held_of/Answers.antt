-- `settling_counts::counts::held_of` meets its contract. Assumes nothing.
use Rattle.std.proofs.Common.{◌≡◌, ℕ, zero, suc, ◌+◌, ◌*◌, ◌<◌, List, get_or, arith, rules, tests, subst, ◌∙◌}
use Rattle.std.specs.Array.{IsFromFnResultFrom}
use Rattle.std.specs.Fn.{Called, Mut}
use Rattle.rules.specs.Book.{holding_at}
use Rattle.rules.specs.Layout.{book_of}
use Rattle.settling_counts.proofs.counts.held_of.Goals as goal

-- a closure that changes nothing and answers v at each place gives the table of v
module _ {F : Type 0} {g : Mut F (ℕ × Unit {0}) ℕ} {f : F} (v : ℕ → ℕ) (pure : (i y : ℕ) (q : F) → Called g f (i, tt) y q → (q ≡ f) × (y ≡ v i)) (ys : List ℕ) where
  made_each : (i n : ℕ) → IsFromFnResultFrom g f ys i n → (k j : ℕ) → k < n → i + k ≡ j → get_or ys j 0 ≡ v j
  made_each i zero r k j h e = absurd (omega arith)
  made_each i (suc n) r zero j h e =
      let here : i ≡ j = omega arith in
      subst (λ (m : ℕ). get_or ys m 0 ≡ v m) here (r.2.1 0 ∙ (pure i r.1 r.0 r.3).1)
  made_each i (suc n) r (suc k) j h e =
      made_each (i + 1) n (subst (λ (q : F). IsFromFnResultFrom g q ys (i + 1) n) (pure i r.1 r.0 r.3).0 r.4) k j (omega arith) (omega arith)

pub returns : goal.returns
unfolding holding_at
returns c =
    let made = c.from_fn.ensures.items in
    record {
      long = made.long;
      each = λ a h. made_each (λ a. get_or (book_of c.args.b.now).holdings (a * 32 + c.args.security) 0) (λ i y q k. search (rules, tests)) c.from_fn.result 0 64 made.each a a h (omega arith);
    }
