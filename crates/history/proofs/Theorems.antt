-- The theorems of the whole, for every history of calls from an empty book: the statements to quote. Their words are in Histories; their proofs in the other files.
use Rattle.std.specs.Prelude.{◌≡◌, true, false, cond, ℕ, ◌+◌, ◌<◌, ◌≤◌, length, pos, ◌+ℤ◌, Some, None}
use Rattle.std.proofs.Math.Path.{refl, ap}
use Rattle.std.proofs.Common.{sym, subst, ◌∙◌, zero-add}
use mathlib.Core.List.Perm
use mathlib.Core.List.{List, [], ◌∷◌, ◌++◌, Perm}
use Rattle.fields.specs.Field.{Bytes}
use Rattle.rules.specs.Words.{all}
use Rattle.rules.specs.Bounds.{securities, currencies}
use Rattle.rules.specs.Book.{account_of, list_of, with_list, empty_book}
use Rattle.rules.specs.Sound.{is_code, sound, total_held, distinct}
use Rattle.rules.specs.Run.{Meeting, meetings}
use Rattle.rules.specs.Layout.{book, book_length, book_of, bytes_of}
use Rattle.rules.specs.LayoutLaws.{bytes_book, book_bytes, book_fits, bytes_long}
use Rattle.rules.specs.Calls.{Call, roll, figure, answer, answer_bytes, after_bytes, figure_bytes, create_answer, create_bytes}
use Rattle.rules.specs.declared.Position.{Position}
use Rattle.rules.specs.declared.Trade.{Trade}
use Rattle.rules.specs.declared.Book.{Book}
use Rattle.rules.specs.CallFile.{contents_of, file_of}
use Rattle.laws.specs.Shaped.{Shaped, fits_shaped}
use Rattle.laws.specs.Accepted.{may_create}
use Rattle.laws.specs.Fitting.{stored_empty, created_fits}
use Rattle.laws.specs.Backed.{meeting_backed}
use Rattle.laws.specs.OwnSides.{giver_account}
use Rattle.history.specs.Histories.{accepted, made, log_of, rolls, others, last_forms, tidy, Interleaved, last_form, find, survivors, past, today, morning, EndsRolled, SameRoll}
use Rattle.history.specs.Amounts.{open_shares, money_open, ever_charged, deposited, withdrawn, held_then}
use Rattle.history.specs.Steps.{Good, made_good, empty_good}
use Rattle.history.specs.Refusals.{never_1, never_13}
use Rattle.history.specs.Survivors.{numbers_of}
use Rattle.history.proofs.Days.{us_once, tidy_book, tidy_log, tidy_others, tidy_forms, tidy_roll, any_roll}
use Rattle.history.proofs.Interleaving.{interleaved_log, interleaved_roll}
use Rattle.history.specs.Forms.{forms_empty}
use Rattle.history.proofs.Surviving.{survivors_log}
use Rattle.history.specs.AnyForms.{same_order}
use Rattle.history.specs.ManyDays.{past_today, past_none, past_ends, today_rolls, day_made, morning_list}
use Rattle.history.specs.ZeroShares.{shares_zero}
use Rattle.history.proofs.ZeroMoney.{money_kept, nothing_yet}
use Rattle.history.specs.Held.{held_kept, nothing_held}
use Rattle.history.specs.Lent.{made_bytes, log_bytes, AllFit}
use Rattle.history.specs.Publics.{Public, leaves, left_by, begins, deed, done, creates_any, calls_of, PublicFits, AllPublicFit}
use Rattle.history.specs.AllBytes.{bytes_of_lem}
use Rattle.history.specs.LentHistory.{answer_bytes_lem, figure_bytes_lem, made_bytes_lem, made_fits, log_bytes_lem, roll_bytes}
use Rattle.history.proofs.TidyFits.{fit_both, fit_days, fit_tidied, fit_any_way}
use Rattle.history.specs.FileHistory.{file_well, file_made}
use Rattle.history.proofs.PublicHistory.{one_deed, calls_left, calls_fit, begun}
use Rattle.history.specs.Logs.{made_append, rolled_made}

-- ── one day, from any sound book with an empty list: calls among which no roll is accepted (refused rolls may stand among them) ──

module _ (k : Book) (is_sound : sound k ≡ true) (shaped : Shaped k) (no_trades : list_of k ≡ []) where
  good : Good k
  good = record { sound = is_sound; shaped = shaped }

  module _ (cs : List Call) (day : rolls k cs ≡ false) where
    -- The roll behind the day has the answer of the roll behind the tidy day, and leaves the same book: the accepted deposits, withdrawals and runs in
    -- their order, and then the trades that survived, each entered once, in its last accepted form. Both are read off the log of accepted calls.
    pub day_history : SameRoll (made k cs) (made k (tidy k cs))
    day_history = tidy_roll k good no_trades cs day

    -- Every call of the tidy day is accepted.
    pub tidy_accepted : log_of k (tidy k cs) ≡ tidy k cs
    tidy_accepted = tidy_log k good no_trades cs day

    -- It ends at the day's book with only the survivors in its list.
    pub tidy_ends : made k (tidy k cs) ≡ with_list (made k cs) (last_forms (log_of k cs))
    tidy_ends = tidy_book k good no_trades cs day

    -- It has the same accepted deposits, withdrawals and runs in the same order, and the same survivors.
    pub tidy_same : (others k (tidy k cs) ≡ others k cs) × (last_forms (log_of k (tidy k cs)) ≡ last_forms (log_of k cs))
    tidy_same = (tidy_others k good no_trades cs day, tidy_forms k good no_trades cs day)

    -- The book's own list has the same survivors, in the same order, and excluded trades beside them.
    pub list_survivors : survivors (list_of (made k cs)) ≡ last_forms (log_of k cs)
    list_survivors = survivors_log k cs good no_trades

    -- A number survives exactly in the form of its last accepted entry or amendment, with no accepted exclusion behind it.
    pub last_forms_lem : (n : ℕ) → find n (last_forms (log_of k cs)) ≡ last_form n None (log_of k cs)
    last_forms_lem n = ap (find n) (sym list_survivors) ∙ forms_empty n k cs good no_trades

    -- Each survivor's number stands once.
    pub once : distinct (numbers_of (last_forms (log_of k cs))) ≡ true
    once = us_once k good no_trades cs day

    -- Any list that holds the last accepted form of each number, once, is the survivors in some order (a permutation of a list is mathlib's `Perm`).
    pub once_each : (us : List Trade) → distinct (numbers_of us) ≡ true → ((n : ℕ) → find n us ≡ last_form n None (log_of k cs)) → Perm us (last_forms (log_of k cs))
    once_each us d f = same_order us (last_forms (log_of k cs)) d once (λ n. f n ∙ sym (last_forms_lem n))

    -- Any other day with the same accepted deposits, withdrawals and runs in the same order and the same survivors, entered in any order and however they
    -- lie between the other calls;
    pub history_any_order : (ds : List Call) → rolls k ds ≡ false → others k ds ≡ others k cs → Perm (last_forms (log_of k ds)) (last_forms (log_of k cs))
        → SameRoll (made k ds) (made k cs)
    history_any_order ds d e p = any_roll k good no_trades ds cs d day e p

    -- so also with the survivors in the same order among themselves.
    pub history_any : (ds : List Call) → rolls k ds ≡ false → others k ds ≡ others k cs → last_forms (log_of k ds) ≡ last_forms (log_of k cs)
        → SameRoll (made k ds) (made k cs)
    history_any ds d e f = history_any_order ds d e (subst (Perm (last_forms (log_of k ds))) f (Perm.refl (last_forms (log_of k ds))))

    -- Such a day there is for every order of the survivors and every way to lay their entries between the other calls: each call is accepted, and the roll
    -- behind it is the same.
    pub history_interleaved : (us : List Trade) → Perm us (last_forms (log_of k cs)) → (ds : List Call) → Interleaved (others k cs) us ds
        → (log_of k ds ≡ ds) × SameRoll (made k cs) (made k ds)
    history_interleaved us p ds i = (interleaved_log k good no_trades cs day us p ds i, interleaved_roll k good no_trades cs day us p ds i)

-- ── any number of days, from an empty book ──

module _ (codes : List ℕ) (long : length codes ≡ securities) (known : all is_code codes ≡ true) where
  abbrev pub begin : Book
  begin = empty_book codes

  begin_good : Good begin
  begin_good = empty_good codes long known

  begin_list : list_of begin ≡ []
  unfolding list_of empty_book
  begin_list = refl

  module _ (cs : List Call) where
    every_good : Good (made begin cs)
    every_good = made_good begin cs begin_good

    -- Every book that a history reaches is sound, and its tables have their lengths;
    pub every_book_sound : sound (made begin cs) ≡ true
    every_book_sound = every_good.sound

    pub every_book_shaped : Shaped (made begin cs)
    every_book_shaped = every_good.shaped

    -- so no call is refused by 1 or 13.
    pub refusal_1_never : (c : Call) → answer (made begin cs) c ≡ 1 → ⊥
    refusal_1_never c = never_1 (made begin cs) c every_good

    pub refusal_13_never : (c : Call) → answer (made begin cs) c ≡ 13 → ⊥
    refusal_13_never c = never_13 (made begin cs) c every_good

    -- ── history (demand 3) ──

    -- The calls are those up to the last accepted roll, and a day behind it.
    pub days_split : (past begin cs ++ today begin cs ≡ cs) × (rolls (morning begin cs) (today begin cs) ≡ false)
    days_split = (past_today begin cs, today_rolls begin cs)

    pub day_started : rolls begin cs ≡ true → EndsRolled begin (past begin cs)
    day_started = past_ends begin cs

    pub first_day : rolls begin cs ≡ false → morning begin cs ≡ begin
    unfolding morning made
    first_day e = ap (made begin) (past_none begin cs e)

    morning_good : Good (morning begin cs)
    unfolding morning
    morning_good = made_good begin (past begin cs) begin_good

    -- After each accepted roll the book is the one whose day started the same and was tidy: the same accepted deposits, withdrawals and runs in the same
    -- order, only the trades that survived, each once, in its last accepted form, and then that one roll. (A refused roll is refused alike.)
    pub history : SameRoll (made begin cs) (made (morning begin cs) (tidy (morning begin cs) (today begin cs)))
    history =
        let m = morning begin cs in
        rw (sym (day_made begin cs))
        (day_history m morning_good.sound morning_good.shaped (morning_list begin cs begin_list) (today begin cs) (today_rolls begin cs))

    -- In one line: the calls and an accepted roll leave the book that the tidy day and that roll leave, from the same morning.
    pub history_rolled : answer (made begin cs) roll ≡ 0
        → made begin (cs ++ (roll ∷ [])) ≡ made (morning begin cs) (tidy (morning begin cs) (today begin cs) ++ (roll ∷ []))
    history_rolled e =
        let m = morning begin cs in
        let d = tidy m (today begin cs) in
        rolled_made begin cs e ∙ history.1 ∙ sym (rolled_made m d (sym history.0 ∙ e))

    -- Every call of the tidy day is accepted, and its deposits, withdrawals and runs and its survivors are those of the day.
    pub history_tidy : let m = morning begin cs in let d = today begin cs in
        (log_of m (tidy m d) ≡ tidy m d) × (others m (tidy m d) ≡ others m d) × (last_forms (log_of m (tidy m d)) ≡ last_forms (log_of m d))
    history_tidy =
        let m = morning begin cs in
        let d = today begin cs in
        let e = morning_list begin cs begin_list in
        let h = today_rolls begin cs in
        (tidy_log m morning_good e d h, tidy_others m morning_good e d h, tidy_forms m morning_good e d h)

    -- The survivors may be entered in any order, and between the day's deposits, withdrawals and runs in any way.
    pub history_any_way : let m = morning begin cs in let d = today begin cs in
        (us : List Trade) → Perm us (last_forms (log_of m d)) → (ds : List Call) → Interleaved (others m d) us ds
        → (log_of m ds ≡ ds) × SameRoll (made begin cs) (made m ds)
    history_any_way =
        let m = morning begin cs in
        rw (sym (day_made begin cs))
        (history_interleaved m morning_good.sound morning_good.shaped (morning_list begin cs begin_list) (today begin cs) (today_rolls begin cs))

    -- So demand 3 needs no word for the survivors: any list that holds the last accepted form of each number of the day, once, may be entered so.
    pub history_by_forms : let m = morning begin cs in let d = today begin cs in
        (us : List Trade) → distinct (numbers_of us) ≡ true → ((n : ℕ) → find n us ≡ last_form n None (log_of m d)) → (ds : List Call) → Interleaved (others m d) us ds
        → (log_of m ds ≡ ds) × SameRoll (made begin cs) (made m ds)
    history_by_forms us e f =
        history_any_way us
        (once_each (morning begin cs) morning_good.sound morning_good.shaped (morning_list begin cs begin_list) (today begin cs) (today_rolls begin cs) us e f)

    -- Each survivor is in its last accepted form of the day, its number stands once, and the book's own list has the same survivors.
    pub history_forms : let log = log_of (morning begin cs) (today begin cs) in (n : ℕ) → find n (last_forms log) ≡ last_form n None log
    history_forms =
        last_forms_lem (morning begin cs) morning_good.sound morning_good.shaped (morning_list begin cs begin_list) (today begin cs) (today_rolls begin cs)

    pub history_once : distinct (numbers_of (last_forms (log_of (morning begin cs) (today begin cs)))) ≡ true
    history_once = us_once (morning begin cs) morning_good (morning_list begin cs begin_list) (today begin cs) (today_rolls begin cs)

    pub history_list : survivors (list_of (made begin cs)) ≡ last_forms (log_of (morning begin cs) (today begin cs))
    history_list = rw (sym (day_made begin cs)) (survivors_log (morning begin cs) (today begin cs) morning_good (morning_list begin cs begin_list))

    -- ── zero totals (demand 3) ──

    -- Each security's open quantities total zero over all accounts;
    pub shares_total_zero : (s : ℕ) → s < securities → open_shares (made begin cs) s ≡ pos 0
    shares_total_zero s h = shares_zero (made begin cs) every_good s h

    -- in each currency the money ever charged plus the money still open totals zero.
    pub money_total_zero : (c : ℕ) → c < currencies → ever_charged begin cs c +ℤ money_open (made begin cs) c ≡ pos 0
    money_total_zero c h = money_kept begin cs c begin_good h ∙ nothing_yet codes c h

    -- ── holdings (demand 3) ──

    -- Nobody delivers shares not held at that moment: in a run, each meeting m behind the meetings ms takes at most what the giver's account then holds;
    pub deliveries_held : (s : ℕ) (ms : List Meeting) (m : Meeting) (rest : List Meeting) → meetings (made begin cs) s ≡ ms ++ (m ∷ rest)
        → (0 < m.shares) × (m.shares ≤ held_then (made begin cs) s ms m.giver.account)
    unfolding held_then
    deliveries_held s ms m rest e = meeting_backed (made begin cs) s ms m rest e

    -- and the giver's account is that of the record of the giver's number.
    pub deliverer_account : (s : ℕ) (ms : List Meeting) (m : Meeting) (rest : List Meeting) → meetings (made begin cs) s ≡ ms ++ (m ∷ rest)
        → (p : Position) → p.number ≡ m.giver.number → account_of p ≡ m.giver.account
    deliverer_account = giver_account (made begin cs)

    -- What all accounts hold of a security is what was deposited less what was withdrawn.
    pub held_is_deposited : (s : ℕ) → s < securities → total_held (made begin cs).holdings s + withdrawn begin cs s ≡ deposited begin cs s
    held_is_deposited s h = held_kept begin cs s begin_good h ∙ rw (nothing_held codes s h) (zero-add (deposited begin cs s))

-- ── over lent bytes: an accepted creation, and then calls whose arguments fit their types ──

module _ (bs codes : List ℕ) (created : create_answer bs codes ≡ 0) (cs : List Call) (fit : AllFit cs) where
  codes_long : length codes ≡ securities
  codes_long = (may_create bs codes created).0

  codes_known : all is_code codes ≡ true
  codes_known = (may_create bs codes created).1

  -- the book of the definitions, and the bytes
  abbrev pub reached : Book
  reached = made (empty_book codes) cs

  abbrev pub lent : List ℕ
  lent = made_bytes (create_bytes bs codes) cs

  from_created : (ds : List Call) → AllFit ds → made_bytes (create_bytes bs codes) ds ≡ bytes_of (made (empty_book codes) ds)
  from_created ds f =
      ap (λ (l : List ℕ). made_bytes l ds) (stored_empty bs codes created)
      ∙ made_bytes_lem (empty_book codes) ds (empty_good codes codes_long codes_known) (created_fits bs codes created) f

  -- The bytes that the public calls leave, one after another, are the bytes of the history's book;
  pub bytes_are_history : lent ≡ bytes_of reached
  bytes_are_history = from_created cs fit

  -- its values fit, so that the next call reads this book, and what was said above of the book holds of the bytes;
  pub every_book_fits : book.Ok reached
  every_book_fits = made_fits (empty_book codes) cs (empty_good codes codes_long codes_known) (created_fits bs codes created) fit

  pub bytes_are_read : book_of lent ≡ reached
  bytes_are_read = ap book_of bytes_are_history ∙ book_bytes reached every_book_fits

  -- they are 42,278 bytes;
  pub bytes_are_bytes : Bytes lent × (length lent ≡ book_length)
  bytes_are_bytes = rw bytes_are_history (bytes_of_lem reached, bytes_long reached every_book_fits)

  -- and the next call gives the answer and the figure of the definitions.
  pub bytes_answer : (c : Call) → answer_bytes lent c ≡ answer reached c
  bytes_answer c = ap (λ (l : List ℕ). answer_bytes l c) bytes_are_history ∙ answer_bytes_lem reached every_book_fits c

  pub bytes_figure : (c : Call) → figure_bytes lent c ≡ cond (accepted reached c) (figure reached c) 0
  bytes_figure c = ap (λ (l : List ℕ). figure_bytes l c) bytes_are_history ∙ figure_bytes_lem reached every_book_fits c

  -- The log by the answers over the bytes is the history's log: the survivors of a day can be read off the answers.
  pub bytes_log : log_bytes (create_bytes bs codes) cs ≡ log_of (empty_book codes) cs
  bytes_log =
      ap (λ (l : List ℕ). log_bytes l cs) (stored_empty bs codes created)
      ∙ log_bytes_lem (empty_book codes) cs (empty_good codes codes_long codes_known) (created_fits bs codes created) fit

  -- an accepted roll is accepted behind the calls ds too, and leaves the same bytes
  abbrev pub RolledBy : List Call → Type 0
  RolledBy ds = answer_bytes lent roll ≡ 0
      → (answer_bytes (made_bytes (create_bytes bs codes) ds) roll ≡ 0) × (after_bytes lent roll ≡ after_bytes (made_bytes (create_bytes bs codes) ds) roll)

  same_bytes : (ds : List Call) → AllFit ds → SameRoll reached (made (empty_book codes) ds) → RolledBy ds
  same_bytes ds f same =
      rw (bytes_are_history, from_created ds f)
      (roll_bytes reached (made (empty_book codes) ds) every_book_fits
      (made_fits (empty_book codes) ds (empty_good codes codes_long codes_known) (created_fits bs codes created) f) same)

  -- History over bytes: after each accepted roll the bytes are those of the same past, the tidy day and that one roll;
  abbrev pub tidied : List Call
  tidied = past (empty_book codes) cs ++ tidy (morning (empty_book codes) cs) (today (empty_book codes) cs)

  tidied_fit : AllFit tidied
  tidied_fit = fit_tidied (empty_book codes) cs fit

  same_book : SameRoll reached (made (empty_book codes) tidied)
  unfolding morning
  same_book =
      let k = empty_book codes in
      rw (made_append k (past k cs) (tidy (made k (past k cs)) (today k cs))) (history codes codes_long codes_known cs)

  pub bytes_history : RolledBy tidied
  bytes_history = same_bytes tidied tidied_fit same_book

  -- and of the same past and a day that enters the survivors in any order, between the day's deposits, withdrawals and runs in any way.
  pub bytes_history_any_way : let k = empty_book codes in let m = morning k cs in let d = today k cs in
      (us : List Trade) → Perm us (last_forms (log_of m d)) → (ds : List Call) → Interleaved (others m d) us ds → RolledBy (past k cs ++ ds)
  unfolding morning
  bytes_history_any_way us p ds i =
      let k = empty_book codes in
      let f = fit_days k cs fit in
      same_bytes (past k cs ++ ds) (fit_both (past k cs) ds f.0 (fit_any_way (made k (past k cs)) (today k cs) f.1 us p ds i))
      (rw (made_append k (past k cs) ds) (history_any_way codes codes_long codes_known cs us p ds i).1)

-- Any bytes that are a sound book: the calls over them are the history of the definitions from it.
pub any_bytes : (bs : List ℕ) (cs : List Call) → Bytes bs → length bs ≡ book_length → sound (book_of bs) ≡ true → AllFit cs
    → made_bytes bs cs ≡ bytes_of (made (book_of bs) cs)
any_bytes bs cs h long ok fit =
    let fits = book_fits bs h long in
    ap (λ (l : List ℕ). made_bytes l cs) (sym (bytes_book bs h long))
    ∙ made_bytes_lem (book_of bs) cs (record { sound = ok; shaped = fits_shaped (book_of bs) fits }) fits fit

-- ── call files: the book that a file of bytes leaves is one that a history from an empty book reaches, so that all of the above holds of it ──

module _ (file codes : List ℕ) (bytes : Bytes file) (created : (contents_of file).codes ≡ Some codes) where
  pub file_codes : (length codes ≡ securities) × (all is_code codes ≡ true)
  file_codes = (file_well file bytes).codes codes created

  pub file_calls : AllFit (contents_of file).calls
  file_calls = (file_well file bytes).calls

  pub file_history : (file_of file).book ≡ Some (made (empty_book codes) (contents_of file).calls)
  file_history = file_made file codes created

-- ── every public call: the words are in Publics ──

-- Whatever the bytes, a public call leaves what its deed leaves: what the calls of the seven that it makes leave, one or none; or the new history that it begins.
pub public_deed : (bs : List ℕ) (p : Public) → leaves bs p ≡ done bs (deed bs p)
public_deed = one_deed

-- Any public calls, in any order, no creation accepted among them, leave what the calls of the seven in them leave.
pub public_history : (bs : List ℕ) (ps : List Public) → creates_any bs ps ≡ false → left_by bs ps ≡ made_bytes bs (calls_of bs ps)
public_history = calls_left

-- So from an accepted creation they leave the bytes of the history of those calls, which fit their types, and all of the above holds of them.
pub public_bytes : (bs codes : List ℕ) → create_answer bs codes ≡ 0 → let new = create_bytes bs codes in
    (ps : List Public) → AllPublicFit ps → creates_any new ps ≡ false → (left_by new ps ≡ bytes_of (made (empty_book codes) (calls_of new ps))) × AllFit (calls_of new ps)
public_bytes bs codes e ps f quiet =
    let new = create_bytes bs codes in
    let fit = calls_fit new ps f in
    (calls_left new ps quiet ∙ bytes_are_history bs codes e (calls_of new ps) fit, fit)

-- Demand 3 of them, in one line: after each accepted roll the bytes are those of the same past, the tidy day and that one roll.
pub public_rolled : (bs codes : List ℕ) → create_answer bs codes ≡ 0 → let new = create_bytes bs codes in
    (ps : List Public) → AllPublicFit ps → creates_any new ps ≡ false
    → let k = empty_book codes in let cs = calls_of new ps in let ds = past k cs ++ tidy (morning k cs) (today k cs) in
    answer_bytes (left_by new ps) roll ≡ 0 → (answer_bytes (made_bytes new ds) roll ≡ 0) × (after_bytes (left_by new ps) roll ≡ after_bytes (made_bytes new ds) roll)
public_rolled bs codes e ps f quiet =
    let new = create_bytes bs codes in
    rw (calls_left new ps quiet) (bytes_history bs codes e (calls_of new ps) (calls_fit new ps f))

-- And an accepted creation, by whichever call, begins a history from an empty book: that of its codes and of the calls behind it in the same file.
pub public_begins : (bs : List ℕ) (p : Public) (codes : List ℕ) (cs : List Call) → PublicFits p → deed bs p ≡ begins codes cs
    → (leaves bs p ≡ bytes_of (made (empty_book codes) cs)) × (((length codes ≡ securities) × (all is_code codes ≡ true)) × AllFit cs)
public_begins = begun
