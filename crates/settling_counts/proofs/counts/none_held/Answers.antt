-- `settling_counts::counts::none_held` meets its contract. Assumes nothing.
use Rattle.std.proofs.Common.{◌≡◌, ℕ, Bool, List, [], ◌∷◌, rules, tests, refl, ap, ◌∙◌, ◌&&◌}
use Rattle.std.specs.List.{list_all}
use Rattle.std.proofs.lemmas.Iterator.{YieldsList-from_slice}
use Rattle.std.proofs.lemmas.Iterator.Search.{all_from_yields_List}
use Rattle.rules.specs.Words.{all}
use Rattle.settling_counts.specs.Holders.{is_none}
use Rattle.settling_counts.proofs.counts.none_held.Goals as goal

-- the library's word for the rules' `all`
all_is : (t : ℕ → Bool) (l : List ℕ) → list_all t l ≡ all t l
unfolding all
all_is t [] = refl
all_is t (x ∷ l) = ap (λ (b : Bool). t x && b) (all_is t l)

pub returns : goal.returns
returns c =
    all_from_yields_List is_none _ _ _ c.all.ensures.ran (YieldsList-from_slice c.args.held.now cc) (λ x b q k. search (rules, tests)) ∙ all_is is_none c.args.held.now
