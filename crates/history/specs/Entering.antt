-- Trades that can stand behind a list are accepted, entered one after another; the rest of the book stays.
use Rattle.std.specs.Prelude.{◌≡◌, refl, true, false, not, ◌||◌, List, [], ◌∷◌, ◌++◌, map, ℕ, ◌+◌, ◌<◌, ◌≤◌, eqb, length}
use Rattle.std.proofs.Common.{sym, ap, ◌∙◌, append-nil, append_assoc, arith, length-append, eq-eqb}
use Rattle.std.proofs.lemmas.Bool.{not-true, lt-leb}
use Rattle.rules.specs.Words.{all, any, Test, first}
use Rattle.rules.specs.Bounds.{most_trades}
use Rattle.rules.specs.Book.{list_of, with_list, currency_of, unlisted}
use Rattle.rules.specs.Trades.{is_excluded, used, entered, bad_accounts, bad_security, bad_quantity, bad_price, same_account}
use Rattle.rules.specs.Sound.{distinct, valid_trade, zero_fields}
use Rattle.rules.specs.Calls.{Call, enter, field_tests, tests, after, answer_sound}
use Rattle.rules.specs.declared.Trade.{Trade}
use Rattle.rules.specs.declared.Book.{Book}
use Rattle.laws.specs.Cases.{by_test, true_false, both_hold, neither}
use Rattle.laws.specs.Listed.{listable}
use Rattle.history.specs.Histories.{accepted, made, log_of}
use Rattle.history.specs.Steps.{Good, answer_sound_lem, after_good}
use Rattle.history.specs.Rest.{bare, listed, bare_with, list_long}
use Rattle.history.specs.Survivors.{live, numbers_of}
use Rattle.history.specs.Logs.{made_yes, log_yes}

-- ── one entry ──

-- a valid trade has none of the five faults,
pub record Faultless (k : Book) (t : Trade) : Type 0 where
  pub accounts : bad_accounts t ≡ false
  pub security : bad_security k t.security ≡ false
  pub quantity : bad_quantity t ≡ false
  pub price : bad_price t ≡ false
  pub apart : same_account t ≡ false

pub faultless : (k : Book) (t : Trade) → valid_trade k t ≡ true → Faultless k t
unfolding valid_trade
faultless k t e =
    let w = not-true (bad_accounts t || (bad_security k t.security || (bad_quantity t || (bad_price t || same_account t)))) e in
    let a = neither (bad_accounts t) (bad_security k t.security || (bad_quantity t || (bad_price t || same_account t))) w in
    let s = neither (bad_security k t.security) (bad_quantity t || (bad_price t || same_account t)) a.1 in
    let q = neither (bad_quantity t) (bad_price t || same_account t) s.1 in
    let p = neither (bad_price t) (same_account t) q.1 in
    record { accounts = a.0; security = s.0; quantity = q.0; price = p.0; apart = p.1 }

-- so it passes the checks of its fields
fields_pass : (k : Book) (t : Trade) (rest : List Test) → valid_trade k t ≡ true → first (field_tests k t rest) ≡ first rest
unfolding field_tests first
fields_pass k t rest e = let f = faultless k t e in rw (f.accounts, f.security, f.quantity, f.price, f.apart)

enters : (k : Book) (t : Trade) → valid_trade k t ≡ true → eqb t.number 0 ≡ false → used t.number (list_of k) ≡ false → k.entries < most_trades
    → answer_sound k (enter t) ≡ 0
unfolding answer_sound tests first
enters k t v n u r = fields_pass k t _ v ∙ rw (n, u, lt-leb most_trades k.entries r)

-- a listed trade that is not excluded is valid; validity reads the rest
live_valid : (k : Book) (t : Trade) → live t ≡ true → listable (bare k) t ≡ true → (eqb t.number 0 ≡ false) × (valid_trade k t ≡ true)
unfolding is_excluded zero_fields valid_trade bad_security unlisted currency_of bare with_list
live_valid k t l e =
    let p = both_hold (not (eqb t.number 0)) (valid_trade k t || zero_fields t) e in (
      not-true (eqb t.number 0) p.0,
      by_test (valid_trade k t) (λ v. v)
          (λ v. let z = rw v at p.1 in
          let b = both_hold (eqb t.buyer 0) _ z in
          let s = both_hold (eqb t.seller 0) _ b.1 in
          let u = both_hold (eqb t.security 0) _ s.1 in
          let q = both_hold (eqb t.quantity 0) (eqb t.price.0 0) u.1 in
          true_false q.0 (not-true (eqb t.quantity 0) l)),
    )

-- ── distinct numbers ──

apart_from : (n : ℕ) (ts : List Trade) (u : Trade) (us : List Trade) → all (λ m. not (eqb n m)) (numbers_of (ts ++ (u ∷ us))) ≡ true → eqb n u.number ≡ false
unfolding all
apart_from n [] u us a = not-true (eqb n u.number) (both_hold (not (eqb n u.number)) _ a).0
apart_from n (t ∷ ts) u us a = apart_from n ts u us (both_hold (not (eqb n t.number)) _ a).1

unused : (ts : List Trade) (u : Trade) (us : List Trade) → distinct (numbers_of (ts ++ (u ∷ us))) ≡ true → used u.number ts ≡ false
unfolding distinct used any
unused [] u us d = refl
unused (t ∷ ts) u us d =
    let p = both_hold (all (λ m. not (eqb t.number m)) (numbers_of (ts ++ (u ∷ us)))) (distinct (numbers_of (ts ++ (u ∷ us)))) d in
    rw (apart_from t.number ts u us p.0) (unused ts u us p.1)

-- ── one after another ──

pub record Enterable (j : Book) (us : List Trade) : Type 0 where
  pub lives : all live us ≡ true
  pub sound : all (listable (bare j)) us ≡ true
  pub apart : distinct (numbers_of (list_of j ++ us)) ≡ true
  pub room : length (list_of j) + length us ≤ most_trades

pub record Entered (j : Book) (us : List Trade) : Type 0 where
  pub rest : bare (made j (map enter us)) ≡ bare j
  pub list : list_of (made j (map enter us)) ≡ list_of j ++ us
  pub log : log_of j (map enter us) ≡ map enter us

entered_none : (j : Book) → Entered j []
unfolding made log_of
entered_none j = record { rest = refl; list = sym (append-nil (list_of j)); log = refl }

module _ (j : Book) (g : Good j) (u : Trade) (us : List Trade) (f : Enterable j (u ∷ us)) where
  abbrev next : Book
  next = after j (enter u)

  pub next_rest : bare next ≡ bare j
  unfolding after
  next_rest = bare_with j _

  next_list : list_of next ≡ list_of j ++ (u ∷ [])
  unfolding after entered
  next_list = listed j _

  pub next_behind : list_of next ++ us ≡ list_of j ++ (u ∷ us)
  next_behind = ap (λ (l : List Trade). l ++ us) next_list ∙ append_assoc (list_of j) (u ∷ []) us

  first_lives : (live u ≡ true) × (all live us ≡ true)
  unfolding all
  first_lives = both_hold (live u) (all live us) f.lives

  first_sound : (listable (bare j) u ≡ true) × (all (listable (bare j)) us ≡ true)
  unfolding all
  first_sound = both_hold (listable (bare j) u) (all (listable (bare j)) us) f.sound

  entry : answer_sound j (enter u) ≡ 0
  entry =
      let v = live_valid j u first_lives.0 first_sound.0 in
      enters j u v.1 v.0 (unused (list_of j) u us f.apart) (omega (arith, f.room, list_long j g))

  pub entry_taken : accepted j (enter u) ≡ true
  entry_taken = eq-eqb _ 0 (answer_sound_lem j (enter u) g.sound ∙ entry)

  pub next_good : Good next
  next_good = after_good j g (enter u) entry

  pub next_enterable : Enterable next us
  next_enterable =
      record {
        lives = first_lives.1;
        sound = rw next_rest first_sound.1;
        apart = rw next_behind f.apart;
        room = omega (arith, f.room, ap length next_list, length-append (list_of j) (u ∷ []));
      }

  entered_more : Entered next us → Entered j (u ∷ us)
  entered_more h =
      let cs = map enter us in
      record {
        rest = ap bare (made_yes j (enter u) cs entry_taken) ∙ h.rest ∙ next_rest;
        list = ap list_of (made_yes j (enter u) cs entry_taken) ∙ h.list ∙ next_behind;
        log = log_yes j (enter u) cs entry_taken ∙ ap (λ (l : List Call). enter u ∷ l) h.log;
      }

pub all_entered : (us : List Trade) (j : Book) → Good j → Enterable j us → Entered j us
all_entered [] j g f = entered_none j
all_entered (u ∷ us) j g f = entered_more j g u us f (all_entered us (after j (enter u)) (next_good j g u us f) (next_enterable j g u us f))
