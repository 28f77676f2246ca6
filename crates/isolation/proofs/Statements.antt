-- Isolation, extended: no call on behalf of one account changes what marks answer for another account that has no part in it. Who has a part in
-- which call is `touches` (Touching): no one in the entry, amendment or exclusion of a trade, a deposit or a withdrawal; in a run those who give
-- or receive; in a roll those who have traded or for whom something falls due, and each of them by its own trades and records alone.
use Rattle.std.specs.Prelude.{◌≡◌, refl, Bool, false, not, List, [], ◌∷◌, ℕ}
use Rattle.std.proofs.Common.{sym, ap, ◌∙◌}
use Rattle.fields.specs.Field.{Bytes}
use Rattle.rules.specs.Words.{keep}
use Rattle.rules.specs.Book.{list_of}
use Rattle.rules.specs.Layout.{book_of}
use Rattle.rules.specs.Sound.{not_sound}
use Rattle.rules.specs.Trades.{is_excluded}
use Rattle.rules.specs.Nets.{trades_of}
use Rattle.rules.specs.Marks.{Terms, marked_of, marks}
use Rattle.rules.specs.Calls.{Call, enter, amend, exclude, roll, deposit, withdraw, run, after, answer_bytes, after_bytes}
use Rattle.rules.specs.CallFile.{left}
use Rattle.rules.specs.declared.Trade.{Trade}
use Rattle.rules.specs.declared.Book.{Book}
use Rattle.laws.specs.Cases.{by_test, neither}
use Rattle.laws.specs.Keeping.{keep_swap}
use Rattle.laws.specs.Fitting.{CallFits}
use Rattle.history.specs.Histories.{made, rolls, survivors}
use Rattle.history.specs.Lent.{made_bytes, AllFit}
use Rattle.history.specs.Steps.{left_currency, made_currency}
use Rattle.marking.specs.Isolation.{isolation}
use Rattle.isolation.specs.Touching.{is_party, trades_standing, has_traded, has_falling_due, touches, touched, concerns, concerned}
use Rattle.isolation.specs.Untouched.{Plain, untouched_records}
use Rattle.isolation.specs.TradesApart.{left_trades}
use Rattle.isolation.specs.SameDay.{made_day}
use Rattle.isolation.specs.RunApart.{run_records}
use Rattle.isolation.specs.RollApart.{rolled_records}
use Rattle.isolation.specs.QuietRoll.{quiet_records}
use Rattle.isolation.specs.Stored.{unsound_kept, made_book, made_clean, made_fine, stored_book, stored_fine, accepted_fine, stored_after}

-- ── records, over any book ──

-- A call leaves the records of every account that it does not touch, accepted or refused.
pub untouched : (k : Book) (c : Call) (a : ℕ) → touches k c a ≡ false → marked_of (left k c) a ≡ marked_of k a
unfolding touches Plain
untouched k (enter t) a e = untouched_records k (enter t) a tt
untouched k (amend t) a e = untouched_records k (amend t) a tt
untouched k (exclude n) a e = untouched_records k (exclude n) a tt
untouched k roll a e = let n = neither (has_traded k a) (has_falling_due k a) e in quiet_records k a n.0 n.1
untouched k (deposit b s q) a e = untouched_records k (deposit b s q) a tt
untouched k (withdraw b s q) a e = untouched_records k (withdraw b s q) a tt
untouched k (run s) a e = run_records k s a e

-- So does a history of calls of which none touches it.
pub untouched_history : (k : Book) (cs : List Call) (a : ℕ) → touched k cs a ≡ false → marked_of (made k cs) a ≡ marked_of k a
unfolding touched made
untouched_history k [] a e = refl
untouched_history k (c ∷ cs) a e =
    let n = neither (touches k c a) (touched (left k c) cs a) e in
    untouched_history (left k c) cs a n.1 ∙ untouched k c a n.0

-- A roll touches an account only through its own records and its own standing trades.
pub own_roll : (k m : Book) (a : ℕ) → k.day ≡ m.day → marked_of k a ≡ marked_of m a → trades_standing a (list_of k) ≡ trades_standing a (list_of m)
    → marked_of (after k roll) a ≡ marked_of (after m roll) a
own_roll = rolled_records

-- (Lists that agree on an account's trades, excluded ones with them, agree on those that stand.)
pub same_standing : (a : ℕ) (ts us : List Trade) → trades_of a ts ≡ trades_of a us → trades_standing a ts ≡ trades_standing a us
unfolding trades_standing trades_of survivors
same_standing a ts us e =
    let stands : Trade → Bool = λ t. not (is_excluded t) in
    keep_swap (is_party a) stands ts ∙ ap (keep stands) e ∙ sym (keep_swap (is_party a) stands us)

-- A call leaves the standing trades of every account that it does not concern; so does a history of such calls.
pub unconcerned : (k : Book) (c : Call) (a : ℕ) → concerns k c a ≡ false → trades_standing a (list_of (left k c)) ≡ trades_standing a (list_of k)
unconcerned k c a e = left_trades k a c e

pub unconcerned_history : (k : Book) (cs : List Call) (a : ℕ) → concerned k cs a ≡ false → trades_standing a (list_of (made k cs)) ≡ trades_standing a (list_of k)
unfolding concerned made
unconcerned_history k [] a e = refl
unconcerned_history k (c ∷ cs) a e =
    let n = neither (concerns k c a) (concerned (left k c) cs a) e in
    unconcerned_history (left k c) cs a n.1 ∙ unconcerned k c a n.0

-- So what the others do on a day does not reach it by the roll either.
pub others_day : (k : Book) (cs : List Call) (a : ℕ) → rolls k cs ≡ false → touched k cs a ≡ false → concerned k cs a ≡ false
    → marked_of (after (made k cs) roll) a ≡ marked_of (after k roll) a
others_day k cs a r e f = own_roll (made k cs) k a (made_day k cs r) (untouched_history k cs a e) (unconcerned_history k cs a f)

-- No call alters the currency table.
pub same_currency : (k : Book) (cs : List Call) → (made k cs).currency ≡ k.currency
same_currency = made_currency

-- ── marks, over lent bytes: sound or not, the call accepted or refused ──

-- Calls of which none touches an account do not change what marks answer for it.
pub untouched_history_marks : (bs : List ℕ) (cs : List Call) (a : ℕ) (t : Terms) → Bytes bs → AllFit cs → touched (book_of bs) cs a ≡ false
    → marks (made_bytes bs cs) a t ≡ marks bs a t
untouched_history_marks bs cs a t bytes fit e =
    by_test (not_sound bs)
    (λ u. ap (λ (l : List ℕ). marks l a t) (unsound_kept bs cs u))
    (λ f. let read = made_book bs bytes f cs fit in
    isolation (made_bytes bs cs) bs a t (made_fine bs bytes f cs fit) f
    (ap (λ (k : Book). k.currency) read ∙ same_currency (book_of bs) cs)
    (ap (λ (k : Book). marked_of k a) read ∙ untouched_history (book_of bs) cs a e))

-- Of one call: no call changes what marks answer for an account that it does not touch.
pub untouched_marks : (bs : List ℕ) (c : Call) (a : ℕ) (t : Terms) → Bytes bs → CallFits c → touches (book_of bs) c a ≡ false
    → marks (after_bytes bs c) a t ≡ marks bs a t
unfolding made_bytes AllFit touched
untouched_marks bs c a t bytes fit e = untouched_history_marks bs (c ∷ []) a t bytes (fit, tt) (rw e)

-- Two books of one day and one currency table that agree on an account's records and standing trades: after an accepted roll of each, marks
-- answer the same for it.
pub own_roll_marks : (bs cs : List ℕ) (a : ℕ) (t : Terms) → Bytes bs → Bytes cs → answer_bytes bs roll ≡ 0 → answer_bytes cs roll ≡ 0
    → (book_of bs).day ≡ (book_of cs).day → (book_of bs).currency ≡ (book_of cs).currency → marked_of (book_of bs) a ≡ marked_of (book_of cs) a
    → trades_standing a (list_of (book_of bs)) ≡ trades_standing a (list_of (book_of cs)) → marks (after_bytes bs roll) a t ≡ marks (after_bytes cs roll) a t
unfolding CallFits
own_roll_marks bs cs a t x y e f day codes records trades =
    let u = accepted_fine bs roll e in
    let v = accepted_fine cs roll f in
    isolation (after_bytes bs roll) (after_bytes cs roll) a t (stored_fine bs x u roll tt) (stored_fine cs y v roll tt)
    (ap (λ (k : Book). k.currency) (stored_book bs x u roll tt) ∙ left_currency (book_of bs) roll ∙ codes
    ∙ sym (ap (λ (k : Book). k.currency) (stored_book cs y v roll tt) ∙ left_currency (book_of cs) roll))
    (ap (λ (k : Book). marked_of k a) (stored_after bs x roll tt e)
    ∙ rolled_records (book_of bs) (book_of cs) a day records trades
    ∙ sym (ap (λ (k : Book). marked_of k a) (stored_after cs y roll tt f)))

-- A day of calls that neither touch an account nor concern its trades, and then a roll: marks answer for it as if the others had done nothing.
pub others_day_marks : (bs : List ℕ) (cs : List Call) (a : ℕ) (t : Terms) → Bytes bs → AllFit cs → rolls (book_of bs) cs ≡ false
    → touched (book_of bs) cs a ≡ false → concerned (book_of bs) cs a ≡ false → answer_bytes bs roll ≡ 0 → answer_bytes (made_bytes bs cs) roll ≡ 0
    → marks (after_bytes (made_bytes bs cs) roll) a t ≡ marks (after_bytes bs roll) a t
others_day_marks bs cs a t bytes fit r e f x y =
    let k = book_of bs in
    let u = accepted_fine bs roll x in
    let read = made_book bs bytes u cs fit in
    own_roll_marks (made_bytes bs cs) bs a t (made_clean bs bytes u cs fit) bytes y x
    (ap (λ (m : Book). m.day) read ∙ made_day k cs r)
    (ap (λ (m : Book). m.currency) read ∙ same_currency k cs)
    (ap (λ (m : Book). marked_of m a) read ∙ untouched_history k cs a e)
    (ap (λ (m : Book). trades_standing a (list_of m)) read ∙ unconcerned_history k cs a f)
