-- `netting_account::account::no_nets` meets its contract. Assumes nothing.
use Rattle.std.proofs.Common.{◌≡◌, ℕ, zero, suc, ◌+◌, ◌<◌, List, [], get_or, subst, ◌∙◌, arith, rules}
use Rattle.std.specs.Array.{IsFromFnResultFrom}
use Rattle.std.specs.Fn.{Called, Mut}
use Rattle.rules.specs.Book.{no_position}
use Rattle.rules.specs.Nets.{net_of}
use Rattle.rules.specs.declared.Position.{Position}
use Rattle.netting_account.specs.OneTrade.{net_none}
use Rattle.netting_account.proofs.account.no_nets.Goals as goal

-- a closure that changes nothing and answers v at each place gives the table of v
module _ {F : Type 0} {g : Mut F (ℕ × Unit {0}) Position} {f : F} (v : ℕ → Position) (pure : (i : ℕ) (y : Position) (q : F) → Called g f (i, tt) y q → (q ≡ f) × (y ≡ v i))
    (rows : List Position) where
  made_each : (i n : ℕ) → IsFromFnResultFrom g f rows i n → (k j : ℕ) → k < n → i + k ≡ j → get_or rows j no_position ≡ v j
  made_each i zero r k j h e = absurd (omega arith)
  made_each i (suc n) r zero j h e =
      let here : i ≡ j = omega arith in
      subst (λ (m : ℕ). get_or rows m no_position ≡ v m) here (r.2.1 no_position ∙ (pure i r.1 r.0 r.3).1)
  made_each i (suc n) r (suc k) j h e =
      made_each (i + 1) n (subst (λ (q : F). IsFromFnResultFrom g q rows (i + 1) n) (pure i r.1 r.0 r.3).0 r.4) k j (omega arith) (omega arith)

pub returns : goal.returns
returns c = λ s h.
    let a = c.args in
    made_each (net_of a.due [] a.account) (λ i y q k. search (rules, net_none)) c.from_fn.result 0 32 c.from_fn.ensures.items.each s s h (omega arith)
