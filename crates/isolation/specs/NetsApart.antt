-- Today's nets, account by account: those of an account depend on the trades that it bought or sold in alone.
use Rattle.std.specs.Prelude.{◌≡◌, refl, Bool, true, false, not, List, [], ◌∷◌, ◌++◌, map, ℕ, ◌<◌, eqb}
use Rattle.std.proofs.Math.Path.{sym, ap}
use Rattle.std.proofs.Common.{ap₂, ◌∙◌, eqb-true, ltb-true}
use Rattle.std.proofs.Math.Dec.{ltb}
use Rattle.rules.specs.Words.{all, keep, each}
use Rattle.rules.specs.Bounds.{accounts, securities, every_account, every_security}
use Rattle.rules.specs.Book.{account_of}
use Rattle.rules.specs.Sound.{is_position, records_of}
use Rattle.rules.specs.Nets.{net_of, trades_of, nets}
use Rattle.rules.specs.declared.Position.{Position}
use Rattle.rules.specs.declared.Trade.{Trade}
use Rattle.laws.specs.Cases.{by_test, both_hold}
use Rattle.laws.specs.All.{map_all_in, accounts_below, securities_below}
use Rattle.laws.specs.Keeping.{keep_none, keep_all, keep_nothing, each_keep}
use Rattle.laws.specs.Numbers.{number_account}
use Rattle.laws.specs.NetList.{net_number}
use Rattle.laws.specs.QuietRoll.{no_nets}
use Rattle.history.specs.Histories.{survivors}
use Rattle.history.specs.Survivors.{nets_survivors}
use Rattle.isolation.specs.Touching.{trades_standing}

-- lists made of the elements that pass a test, by two functions that make the same of those
each_same : {A B : Type 0} (t : A → Bool) (f g : A → List B) (l : List A) → all t l ≡ true → ((x : A) → t x ≡ true → f x ≡ g x) → each f l ≡ each g l
unfolding each all
each_same t f g [] a h = refl
each_same t f g (x ∷ l) a h = let b = both_hold (t x) (all t l) a in ap₂ (λ u v. u ++ v) (h x b.0) (each_same t f g l b.1 h)

-- an account's nets that are positions
abbrev nets_of : ℕ → List Trade → ℕ → List Position
nets_of due ts x = keep is_position (map (net_of due (trades_of x ts) x) every_security)

module _ (a : ℕ) where
  abbrev is_of : Position → Bool
  is_of p = eqb (account_of p) a

  -- none of the nets of another account is the account's
  others_none : (due : ℕ) (ts : List Trade) (x : ℕ) → x < accounts → eqb x a ≡ false → keep is_of (nets_of due ts x) ≡ []
  others_none due ts x h e =
      let one = net_of due (trades_of x ts) x in
      keep_nothing is_of (nets_of due ts x)
      (keep_all is_position (λ p. not (is_of p)) (map one every_security)
      (map_all_in (λ s. ltb s securities) (λ p. not (is_of p)) one every_security securities_below
      (λ s l. ap not (ap (λ (n : ℕ). eqb n a) (number_account (one s) due x s h (ltb-true s securities l) (net_number due (trades_of x ts) x s)) ∙ e))))

  same_nets : (due : ℕ) (ts us : List Trade) → trades_of a ts ≡ trades_of a us → (x : ℕ) → ltb x accounts ≡ true
      → keep is_of (nets_of due ts x) ≡ keep is_of (nets_of due us x)
  same_nets due ts us e x h =
      let l = ltb-true x accounts h in
      by_test (eqb x a)
      (λ y. rw (eqb-true x a y, e))
      (λ n. others_none due ts x l n ∙ sym (others_none due us x l n))

  nets_own : (due : ℕ) (ts us : List Trade) → trades_of a ts ≡ trades_of a us → records_of a (nets due ts) ≡ records_of a (nets due us)
  unfolding nets records_of
  nets_own due ts us e =
      each_keep is_of (nets_of due ts) every_account
      ∙ each_same (λ x. ltb x accounts) (λ x. keep is_of (nets_of due ts x)) (λ x. keep is_of (nets_of due us x)) every_account accounts_below (same_nets due ts us e)
      ∙ sym (each_keep is_of (nets_of due us) every_account)

  -- excluded trades count for no one
  pub standing_nets : (due : ℕ) (ts us : List Trade) → trades_standing a ts ≡ trades_standing a us → records_of a (nets due ts) ≡ records_of a (nets due us)
  unfolding trades_standing
  standing_nets due ts us e =
      ap (records_of a) (sym (nets_survivors due ts)) ∙ nets_own due (survivors ts) (survivors us) e ∙ ap (records_of a) (nets_survivors due us)

-- ── no trades, no nets ──

none_standing : (a : ℕ) → trades_standing a [] ≡ []
unfolding trades_standing survivors trades_of keep
none_standing a = refl

-- an account without standing trades gets no net
pub no_own_nets : (a due : ℕ) (ts : List Trade) → trades_standing a ts ≡ [] → records_of a (nets due ts) ≡ []
unfolding records_of
no_own_nets a due ts e =
    standing_nets a due ts [] (e ∙ sym (none_standing a))
    ∙ ap (keep (is_of a)) (no_nets due)
    ∙ keep_none (is_of a)
