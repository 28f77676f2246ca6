-- What an accepted call has passed: the tests of its refusals, all failed, by name.
use Rattle.std.specs.Prelude.{◌≡◌, refl, Bool, true, false, not, ◌||◌, List, [], ◌∷◌, ℕ, suc, ◌+◌, ◌<◌, ◌≤◌, eqb, leb, ltb, length}
use Rattle.std.proofs.Common.{arith, ltb-false, leb-false, eqb-true}
use Rattle.std.proofs.lemmas.Bool.{not-false}
use Rattle.rules.specs.Words.{all, Test, first, above}
use Rattle.rules.specs.Bounds.{accounts, securities, last_account, last_security, most_trades, most_held, most_deposited}
use Rattle.rules.specs.Book.{unlisted, list_of, held_by}
use Rattle.rules.specs.Layout.{book_length, book_of}
use Rattle.rules.specs.Sound.{total_held, valid_trade, is_code, not_sound, sound}
use Rattle.rules.specs.Trades.{used, stands, no_account, no_security, bad_accounts, bad_security, bad_quantity, bad_price, same_account}
use Rattle.rules.specs.Calls.{Call, enter, amend, deposit, withdraw, bad_deposit, field_tests, holding_tests, tests, answer_sound, answer_bytes, create_tests, create_answer}
use Rattle.rules.specs.declared.Trade.{Trade}
use Rattle.rules.specs.declared.Book.{Book}
use Rattle.laws.specs.Cases.{both_hold, neither}

-- the first test fails, and so do the others
pub passed : (b : Bool) (n : ℕ) (ts : List Test) → first ((b, suc n) ∷ ts) ≡ 0 → (b ≡ false) × (first ts ≡ 0)
unfolding first
passed true n ts e = absurd (omega arith)
passed false n ts e = (refl, e)

-- ── trades ──

fields_passed : (k : Book) (t : Trade) (rest : List Test) → first (field_tests k t rest) ≡ 0 → (valid_trade k t ≡ true) × (first rest ≡ 0)
unfolding field_tests valid_trade
fields_passed k t rest e =
    let a = passed (bad_accounts t) 1 _ e in
    let s = passed (bad_security k t.security) 2 _ a.1 in
    let q = passed (bad_quantity t) 3 _ s.1 in
    let p = passed (bad_price t) 4 _ q.1 in
    let d = passed (same_account t) 5 _ p.1 in
    (rw (a.0, s.0, q.0, p.0, d.0), d.1)

pub record MayEnter (k : Book) (t : Trade) : Type 0 where
  pub valid : valid_trade k t ≡ true
  pub nonzero : eqb t.number 0 ≡ false
  pub unused : used t.number (list_of k) ≡ false
  pub room : k.entries < most_trades

pub may_enter : (k : Book) (t : Trade) → answer_sound k (enter t) ≡ 0 → MayEnter k t
unfolding answer_sound tests
may_enter k t e =
    let f = fields_passed k t _ e in
    let n = passed (eqb t.number 0 || used t.number (list_of k)) 6 _ f.1 in
    let u = neither (eqb t.number 0) (used t.number (list_of k)) n.0 in
    let r = passed (leb most_trades k.entries) 8 [] n.1 in
    record { valid = f.0; nonzero = u.0; unused = u.1; room = leb-false most_trades k.entries r.0 }

pub record MayAmend (k : Book) (t : Trade) : Type 0 where
  pub valid : valid_trade k t ≡ true
  pub standing : stands t.number (list_of k) ≡ true

pub may_amend : (k : Book) (t : Trade) → answer_sound k (amend t) ≡ 0 → MayAmend k t
unfolding answer_sound tests
may_amend k t e =
    let f = fields_passed k t _ e in
    record { valid = f.0; standing = not-false (stands t.number (list_of k)) (passed (not (stands t.number (list_of k))) 7 [] f.1).0 }

-- ── holdings ──

pub record MayHold (k : Book) (a s q : ℕ) : Type 0 where
  pub account : a < accounts
  pub security : s < securities
  pub listed : unlisted k s ≡ false
  pub most : q ≤ most_deposited

holding_passed : (k : Book) (a s q : ℕ) (rest : List Test) → first (holding_tests k a s q rest) ≡ 0 → MayHold k a s q × (first rest ≡ 0)
unfolding holding_tests no_account bad_security no_security bad_deposit
holding_passed k a s q rest e =
    let x = passed (ltb last_account a) 1 _ e in
    let y = passed (ltb last_security s || unlisted k s) 2 _ x.1 in
    let z = passed (ltb q 1 || ltb most_deposited q) 3 _ y.1 in
    let u = neither (ltb last_security s) (unlisted k s) y.0 in
    let v = neither (ltb q 1) (ltb most_deposited q) z.0 in (
      record {
        account = omega (arith, ltb-false last_account a x.0);
        security = omega (arith, ltb-false last_security s u.0);
        listed = u.1;
        most = ltb-false most_deposited q v.1;
      },
      z.1,
    )

pub may_deposit : (k : Book) (a s q : ℕ) → answer_sound k (deposit a s q) ≡ 0 → MayHold k a s q × (total_held k.holdings s + q ≤ most_held)
unfolding answer_sound tests
may_deposit k a s q e =
    let h = holding_passed k a s q _ e in
    (h.0, ltb-false most_held (total_held k.holdings s + q) (passed (above most_held (total_held k.holdings s + q)) 11 [] h.1).0)

pub may_withdraw : (k : Book) (a s q : ℕ) → answer_sound k (withdraw a s q) ≡ 0 → MayHold k a s q × (q ≤ held_by k a s)
unfolding answer_sound tests
may_withdraw k a s q e =
    let h = holding_passed k a s q _ e in
    (h.0, ltb-false (held_by k a s) q (passed (above (held_by k a s) q) 10 [] h.1).0)

-- ── over bytes, and creation ──

pub bytes_accepted : (bs : List ℕ) (c : Call) → answer_bytes bs c ≡ 0 → (length bs ≡ book_length) × ((sound (book_of bs) ≡ true) × (answer_sound (book_of bs) c ≡ 0))
unfolding answer_bytes not_sound answer_sound
bytes_accepted bs c e =
    let p = passed (not_sound bs) 0 _ e in
    let b = both_hold (eqb (length bs) book_length) (sound (book_of bs)) (not-false _ p.0) in
    (eqb-true (length bs) book_length b.0, (b.1, p.1))

pub may_create : (bs codes : List ℕ) → create_answer bs codes ≡ 0 → (length codes ≡ securities) × (all is_code codes ≡ true)
unfolding create_answer create_tests
may_create bs codes e =
    let p = passed (not (eqb (length bs) book_length) || not (eqb (length codes) securities)) 17 _ e in
    let u = neither (not (eqb (length bs) book_length)) (not (eqb (length codes) securities)) p.0 in
    let c = passed (not (all is_code codes)) 2 [] p.1 in
    (eqb-true (length codes) securities (not-false _ u.1), not-false (all is_code codes) c.0)
