-- `callfile_format::reading::codes_fit_at` meets its contract: `all` over the 32 bytes. Assumes nothing.
use Rattle.std.proofs.Common.{◌≡◌, ℕ, ◌+◌, ◌-◌, List, ◌&&◌, take, drop, refl, ap, ◌∙◌, arith, rules, tests}
use Rattle.std.specs.List.{list_all}
use Rattle.std.proofs.lemmas.Iterator.{YieldsList-from_slice}
use Rattle.std.proofs.lemmas.Iterator.Search.{all_from_yields_List}
use Rattle.std.proofs.lemmas.List.Recursion.{same_from_clauses}
use Rattle.rules.specs.Words.{all}
use Rattle.rules.specs.Sound.{is_code}
use Rattle.callfile_format.proofs.reading.codes_fit_at.Goals as goal

all_is : (l : List ℕ) → list_all is_code l ≡ all is_code l
unfolding all
all_is l = same_from_clauses (list_all is_code) (all is_code) (λ x b. is_code x && b) refl (λ _ _. refl) (λ _ _. refl) l

pub returns : goal.returns
returns c =
    let at = c.args.at in
    let l = drop at c.args.file.now in
    let n : at + 32 - at ≡ 32 = omega arith in
    all_from_yields_List is_code _ _ _ c.all.ensures.ran (YieldsList-from_slice _ cc) (λ x b q k. search (rules, tests))
    ∙ all_is _ ∙ ap (λ (n : ℕ). all is_code (take n l)) n
