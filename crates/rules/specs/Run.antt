-- The settlement run, for one security (document 01, "Settlement run"): who gives and who receives, how they meet, what the meetings do.
use Rattle.std.specs.Prelude.{cond, ◌&&◌, List, [], ◌∷◌, ◌++◌, map, ℕ, suc, ◌+◌, ◌-◌, min, eqb, ltb, get_or, set, ℤ, pos, negsuc}
use Rattle.units.specs.declared.Mils.{Mils}
use Rattle.rules.specs.Words.{keep, total}
use Rattle.rules.specs.Book.{quantity_of, account_of, security_of, open_of, holding_at, with_open, with_holdings, with_charges}
use Rattle.rules.specs.Sound.{is_due}
use Rattle.rules.specs.Roll.{remains}
use Rattle.rules.specs.Parts.{part_money, without, charged_to}
use Rattle.rules.specs.declared.Position.{Position}
use Rattle.rules.specs.declared.Book.{Book}

-- ── givers and receivers ──

-- shares to deliver are a negative quantity, shares to receive a positive one
unfoldable pub short_of : ℤ → ℕ
short_of (pos n) = 0
short_of (negsuc n) = suc n

unfoldable pub long_of : ℤ → ℕ
long_of (pos n) = n
long_of (negsuc n) = 0

-- the records of security s that are due by the book's day, by ascending number
unfoldable pub due_in : Book → ℕ → List Position
due_in b s = keep (λ p. eqb (security_of p) s && is_due b.day p) (open_of b)

-- one side of the run: a record's number, its account, and the shares that it has left to give or still wants
pub record Side : Type 0 where
  pub number : ℕ
  pub account : ℕ
  pub shares : ℕ

abbrev pub side : Position → ℕ → Side
side p k = record { number = p.number; account = account_of p; shares = k }

-- Due deliverers, by ascending number, give the smaller of their shares and what the account still holds.
unfoldable pub givers_of : ℕ → List Position → List ℕ → List Side
givers_of s [] held = []
givers_of s (p ∷ ps) held =
    let at = holding_at (account_of p) s in
    let k = min (short_of (quantity_of p)) (get_or held at 0) in
    let passed = givers_of s ps held in
    let given = side p k ∷ givers_of s ps (set held at (get_or held at 0 - k)) in
    cond (eqb k 0) passed given

unfoldable pub givers : Book → ℕ → List Side
givers b s = givers_of s (due_in b s) b.holdings

unfoldable pub receivers : Book → ℕ → List Side
receivers b s = keep (λ r. ltb 0 r.shares) (map (λ p. side p (long_of (quantity_of p))) (due_in b s))

-- deliverable shares, and the receivers' total
unfoldable pub deliverable : Book → ℕ → ℕ
deliverable b s = total (λ g. g.shares) (givers b s)

unfoldable pub wanted : Book → ℕ → ℕ
wanted b s = total (λ r. r.shares) (receivers b s)

-- ── meetings ──

-- A part is one meeting of a giver and a receiver,
pub record Meeting : Type 0 where
  pub giver : Side
  pub receiver : Side
  pub shares : ℕ

-- the meetings of one receiver, and what the givers have left to give
pub record Filled : Type 0 where
  pub meetings : List Meeting
  pub left : List Side

-- a giver with k shares less to give, before the others; with none left it is gone
unfoldable pub leaving : Side → ℕ → List Side → List Side
leaving g k gs =
    let less : Side = record { number = g.number; account = g.account; shares = g.shares - k } in
    cond (eqb g.shares k) gs (less ∷ gs)

-- of the smaller of what the one has left to give and the other (r, who wants w more) still wants. Nothing left to give: the search stops.
unfoldable pub filled : Side → ℕ → List Side → Filled
filled r w [] = record { meetings = []; left = [] }
filled r w (g ∷ gs) =
    let k = min g.shares w in
    let rest = filled r (w - k) gs in
    let met : Filled = record { meetings = record { giver = g; receiver = r; shares = k } ∷ rest.meetings; left = leaving g k rest.left } in
    let full : Filled = record { meetings = []; left = g ∷ gs } in
    cond (eqb w 0) full met

-- Receivers, by ascending number, are filled with that total, one after another.
unfoldable pub meetings_of : List Side → List Side → List Meeting
meetings_of [] gs = []
meetings_of (r ∷ rs) gs = let f = filled r r.shares gs in f.meetings ++ meetings_of rs f.left

unfoldable pub meetings : Book → ℕ → List Meeting
meetings b s = meetings_of (receivers b s) (givers b s)

-- The answer is the shares moved, 0 included.
unfoldable pub shares_moved : Book → ℕ → ℕ
shares_moved b s = total (λ m. m.shares) (meetings b s)

-- ── what the meetings do ──

-- k shares are taken from the record of number n,
unfoldable pub taken_from : ℕ → ℕ → List Position → List Position
taken_from n k ps = map (λ p. cond (eqb p.number n) (without p k) p) ps

-- their money is charged,
unfoldable pub charged_for : Book → ℕ → ℕ → List Position → List Mils → List Mils
charged_for b n k [] cs = cs
charged_for b n k (p ∷ ps) cs =
    let other = charged_for b n k ps cs in
    cond (eqb p.number n) (charged_to b cs p (part_money p k)) other

-- and holdings move.
unfoldable pub moved : List ℕ → ℕ → ℕ → ℕ → List ℕ
moved hs giver receiver k =
    let less = set hs giver (get_or hs giver 0 - k) in
    set less receiver (get_or less receiver 0 + k)

-- records, holdings and charges while the parts are taken
pub record Running : Type 0 where
  pub records : List Position
  pub holdings : List ℕ
  pub charges : List Mils

-- one meeting: the part is taken from both records, each part's money is charged
unfoldable pub met : Book → ℕ → Running → Meeting → Running
met b s x m =
    let g = m.giver in
    let r = m.receiver in
    let k = m.shares in
    record {
      records = taken_from r.number k (taken_from g.number k x.records);
      holdings = moved x.holdings (holding_at g.account s) (holding_at r.account s) k;
      charges = charged_for b r.number k x.records (charged_for b g.number k x.records x.charges);
    }

unfoldable pub taken : Book → ℕ → Running → List Meeting → Running
taken b s x [] = x
taken b s x (m ∷ ms) = taken b s (met b s x m) ms

-- Records at 0 shares go.
unfoldable pub settled : Book → ℕ → Book
settled b s =
    let x = taken b s (record { records = open_of b; holdings = b.holdings; charges = b.charges }) (meetings b s) in
    with_open (with_holdings (with_charges b x.charges) x.holdings) (keep (remains b.day) x.records)
