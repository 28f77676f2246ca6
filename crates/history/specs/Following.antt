-- The accepted deposits, withdrawals and runs of a day, made from any book with the same rest: each is accepted again, they leave the same rest, and the list
-- as it was.
use Rattle.std.specs.Prelude.{◌≡◌, refl, true, false, List, [], ◌∷◌, ℕ, eqb}
use Rattle.std.proofs.Common.{sym, ap, ◌∙◌, subst}
use Rattle.rules.specs.Book.{list_of}
use Rattle.rules.specs.Calls.{Call, after, answer, answer_sound}
use Rattle.rules.specs.declared.Book.{Book}
use Rattle.laws.specs.Cases.{by_test}
use Rattle.laws.specs.Keeping.{keep_none}
use Rattle.history.specs.Histories.{accepted, made, log_of, is_other, rolls, others}
use Rattle.history.specs.Steps.{Good, answer_sound_lem, took, after_good}
use Rattle.history.specs.Rest.{bare}
use Rattle.history.specs.Alike.{list_call, other_answer, other_rest, other_list}
use Rattle.history.specs.Logs.{made_yes, log_yes, rolls_yes, others_yes, others_pass, made_no, rolls_no, others_no}

-- ── one call on two books with the same rest ──

module _ (k j : Book) (g : Good k) (h : Good j) (e : bare k ≡ bare j) (c : Call) (o : is_other c ≡ true) where
  pub alike_answer : answer k c ≡ answer j c
  alike_answer =
      answer_sound_lem k c g.sound ∙ sym (other_answer k c o) ∙ ap (λ (b : Book). answer_sound b c) e ∙ other_answer j c o
      ∙ sym (answer_sound_lem j c h.sound)

  pub alike_rest : bare (after k c) ≡ bare (after j c)
  alike_rest = sym (other_rest k c o) ∙ ap (λ (b : Book). bare (after b c)) e ∙ other_rest j c o

-- ── the calls os, made from j, follow the day cs made from k ──

record Follows (k j : Book) (cs os : List Call) : Type 0 where
  rest : bare (made j os) ≡ bare (made k cs)
  list : list_of (made j os) ≡ list_of j
  log : log_of j os ≡ os

follows_none : (k j : Book) → bare k ≡ bare j → Follows k j [] (others k [])
unfolding made log_of others
follows_none k j e = subst (Follows k j []) (sym (keep_none is_other)) record { rest = sym e; list = refl; log = refl }

-- the first call of the day is refused, or one on the list, or another
module _ (k j : Book) (c : Call) (cs os : List Call) where
  follows_no : accepted k c ≡ false → Follows k j cs os → Follows k j (c ∷ cs) os
  follows_no n f = record { rest = f.rest ∙ sym (ap bare (made_no k c cs n)); list = f.list; log = f.log }

  follows_list : accepted k c ≡ true → Follows (after k c) j cs os → Follows k j (c ∷ cs) os
  follows_list y f = record { rest = f.rest ∙ sym (ap bare (made_yes k c cs y)); list = f.list; log = f.log }

  follows_other : accepted k c ≡ true → accepted j c ≡ true → is_other c ≡ true → Follows (after k c) (after j c) cs os → Follows k j (c ∷ cs) (c ∷ os)
  follows_other y z o f =
      record {
        rest = ap bare (made_yes j c os z) ∙ f.rest ∙ sym (ap bare (made_yes k c cs y));
        list = ap list_of (made_yes j c os z) ∙ f.list ∙ other_list j c o;
        log = log_yes j c os z ∙ ap (λ (l : List Call). c ∷ l) f.log;
      }

follow : (cs : List Call) (k j : Book) → Good k → Good j → bare k ≡ bare j → rolls k cs ≡ false → Follows k j cs (others k cs)
follow [] k j g h e d = follows_none k j e
follow (c ∷ cs) k j g h e d =
    by_test (accepted k c)
    (λ y. let r = rolls_yes k c cs y d in
    let g' = after_good k g c (took k c g y) in
    by_test (is_other c)
    (λ o. let z : accepted j c ≡ true = ap (λ (n : ℕ). eqb n 0) (sym (alike_answer k j g h e c o)) ∙ y in
    subst (Follows k j (c ∷ cs)) (sym (others_yes k c cs y o))
    (follows_other k j c cs (others (after k c) cs) y z o
    (follow cs (after k c) (after j c) g' (after_good j h c (took j c h z)) (alike_rest k j g h e c o) r.1)))
    (λ o. subst (Follows k j (c ∷ cs)) (sym (others_pass k c cs y o))
    (follows_list k j c cs (others (after k c) cs) y (follow cs (after k c) j g' h (list_call k c r.0 o ∙ e) r.1))))
    (λ n. subst (Follows k j (c ∷ cs)) (sym (others_no k c cs n))
    (follows_no k j c cs (others k cs) n (follow cs k j g h e (sym (rolls_no k c cs n) ∙ d))))

-- ── a day's own ──

module _ (k : Book) (g : Good k) (cs : List Call) (day : rolls k cs ≡ false) where
  abbrev same : Follows k k cs (others k cs)
  same = follow cs k k g g refl day

  pub others_rest : bare (made k (others k cs)) ≡ bare (made k cs)
  others_rest = same.rest

  pub others_list : list_of (made k (others k cs)) ≡ list_of k
  others_list = same.list

  pub others_log : log_of k (others k cs) ≡ others k cs
  others_log = same.log
