-- Today's list, account by account: a call that concerns no trade of an account leaves its standing trades as they are.
use Rattle.std.specs.Prelude.{◌≡◌, Bool, true, ◌&&◌, ℕ}
use Rattle.std.proofs.Math.Path.{refl, sym, ap}
use Rattle.std.proofs.Common.{◌∙◌}
use Rattle.std.proofs.Math.Bool.{false, not, and-false}
use mathlib.Core.List.{List, [], ◌∷◌, ◌++◌, append-nil}
use Rattle.std.proofs.Math.Dec.{eqb}
use Rattle.rules.specs.Words.{all, any, keep}
use Rattle.rules.specs.Book.{list_of, with_open, with_holdings, with_charges}
use Rattle.rules.specs.Trades.{is_excluded, entered, replaced, amended, excluded_trade, excluded}
use Rattle.rules.specs.Nets.{trades_of}
use Rattle.rules.specs.Run.{settled}
use Rattle.rules.specs.Calls.{Call, enter, amend, exclude, roll, deposit, withdraw, run, after}
use Rattle.rules.specs.CallFile.{left}
use Rattle.rules.specs.declared.Trade.{Trade}
use Rattle.rules.specs.declared.Book.{Book}
use Rattle.laws.specs.Cases.{by_test, and_hold, neither}
use Rattle.laws.specs.Keeping.{keep_none, keep_yes, keep_no, keep_append, keep_nothing, keep_both}
use Rattle.history.specs.Histories.{accepted, survivors}
use Rattle.history.specs.Steps.{left_yes, left_no}
use Rattle.history.specs.Rest.{listed}
use Rattle.history.specs.Forms.{rolled_list}
use Rattle.isolation.specs.Touching.{is_party, stands_for, trades_standing, has_traded, has_trade, concerns}

-- where none passes, each fails
pub none_pass : {A : Type 0} (t : A → Bool) (l : List A) → any t l ≡ false → all (λ x. not (t x)) l ≡ true
unfolding any all
none_pass t [] e = refl
none_pass t (x ∷ l) e = let n = neither (t x) (any t l) e in and_hold (ap not n.0) (none_pass t l n.1)

-- an account that has not traded has no standing trade
pub no_trades : (k : Book) (a : ℕ) → has_traded k a ≡ false → trades_standing a (list_of k) ≡ []
unfolding trades_standing trades_of has_traded
no_trades k a e = keep_nothing (is_party a) (survivors (list_of k)) (none_pass (is_party a) (survivors (list_of k)) e)

-- ── the list with a trade more, or one replaced ──

module _ (a : ℕ) where
  standing_is : (ts : List Trade) → trades_standing a ts ≡ keep (stands_for a) ts
  unfolding trades_standing trades_of survivors
  standing_is ts = keep_both (is_party a) (λ t. not (is_excluded t)) ts

  not_party : (t : Trade) → is_party a t ≡ false → stands_for a t ≡ false
  not_party t e = rw e (and-false (not (is_excluded t)))

  entered_apart : (ts : List Trade) (t : Trade) → stands_for a t ≡ false → keep (stands_for a) (entered ts t) ≡ keep (stands_for a) ts
  unfolding entered
  entered_apart ts t e =
      keep_append (stands_for a) ts (t ∷ [])
      ∙ ap (λ (l : List Trade). keep (stands_for a) ts ++ l) (keep_no (stands_for a) t [] e ∙ keep_none (stands_for a))
      ∙ append-nil (keep (stands_for a) ts)

  replaced_apart : (ts : List Trade) (n : ℕ) (t : Trade) → stands_for a t ≡ false → any (λ u. eqb u.number n && stands_for a u) ts ≡ false
      → keep (stands_for a) (replaced ts n t) ≡ keep (stands_for a) ts
  unfolding replaced any
  replaced_apart [] n t e h = refl
  replaced_apart (u ∷ ts) n t e h =
      let w = neither (eqb u.number n && stands_for a u) (any (λ u. eqb u.number n && stands_for a u) ts) h in
      let ih = replaced_apart ts n t e w.1 in
      by_test (eqb u.number n)
      (λ y. let f : stands_for a u ≡ false = rw y at w.0 in
      rw y (keep_no (stands_for a) t (replaced ts n t) e ∙ ih ∙ sym (keep_no (stands_for a) u ts f)))
      (λ y. rw y
      (by_test (stands_for a u)
      (λ f. keep_yes (stands_for a) u (replaced ts n t) f ∙ ap (λ (l : List Trade). u ∷ l) ih ∙ sym (keep_yes (stands_for a) u ts f))
      (λ f. keep_no (stands_for a) u (replaced ts n t) f ∙ ih ∙ sym (keep_no (stands_for a) u ts f))))

-- an excluded trade is no one's
excluded_none : (n a : ℕ) → stands_for a (excluded_trade n) ≡ false
unfolding is_excluded
excluded_none n a = refl

-- ── the calls ──

deposited_list : (k : Book) (hs : List ℕ) → list_of (with_holdings k hs) ≡ list_of k
unfolding list_of with_holdings
deposited_list k hs = refl

settled_list : (k : Book) (s : ℕ) → list_of (settled k s) ≡ list_of k
unfolding list_of settled with_open with_holdings with_charges
settled_list k s = refl

module _ (k : Book) (a : ℕ) where
  -- by the list that is left
  by_list : (m : Book) (ts : List Trade) → list_of m ≡ ts → keep (stands_for a) ts ≡ keep (stands_for a) (list_of k)
      → trades_standing a (list_of m) ≡ trades_standing a (list_of k)
  by_list m ts e h = ap (trades_standing a) e ∙ standing_is a ts ∙ h ∙ sym (standing_is a (list_of k))

  none_left : has_traded k a ≡ false → keep (stands_for a) [] ≡ keep (stands_for a) (list_of k)
  none_left e = keep_none (stands_for a) ∙ sym (sym (standing_is a (list_of k)) ∙ no_trades k a e)

  after_trades : (c : Call) → concerns k c a ≡ false → trades_standing a (list_of (after k c)) ≡ trades_standing a (list_of k)
  unfolding after concerns amended excluded has_trade
  after_trades (enter t) e = by_list (after k (enter t)) _ (listed k _) (entered_apart a (list_of k) t (not_party a t e))
  after_trades (amend t) e =
      let w = neither (is_party a t) (has_trade k t.number a) e in
      by_list (after k (amend t)) _ (listed k _) (replaced_apart a (list_of k) t.number t (not_party a t w.0) w.1)
  after_trades (exclude n) e =
      by_list (after k (exclude n)) _ (listed k _) (replaced_apart a (list_of k) n (excluded_trade n) (excluded_none n a) e)
  after_trades roll e = by_list (after k roll) [] (rolled_list k) (none_left e)
  after_trades (deposit b s q) e = ap (trades_standing a) (deposited_list k _)
  after_trades (withdraw b s q) e = ap (trades_standing a) (deposited_list k _)
  after_trades (run s) e = ap (trades_standing a) (settled_list k s)

  pub left_trades : (c : Call) → concerns k c a ≡ false → trades_standing a (list_of (left k c)) ≡ trades_standing a (list_of k)
  left_trades c e =
      by_test (accepted k c)
      (λ y. ap (λ (m : Book). trades_standing a (list_of m)) (left_yes k c y) ∙ after_trades c e)
      (λ n. ap (λ (m : Book). trades_standing a (list_of m)) (left_no k c n))
