-- `marking::answer::marks_of` meets its contract: each return by the tests that were made so far. Assumes nothing.
use Rattle.std.proofs.Common.{◌≡◌, length, sym, ap, ◌∙◌, arith, rules}
use Rattle.std.proofs.lemmas.Grind.{common_steps}
use Rattle.rules.specs.Refusals.{number_of}
use Rattle.rules.specs.Layout.{book_of}
use Rattle.rules.specs.Marks.{terms, marked_of}
use Rattle.laws.specs.SoundParts.{sound_parts}
use Rattle.laws.specs.Blanks.{records_few}
use Rattle.laws.specs.RefusalNumbers.{number_some}
use Rattle.marking_sums.specs.Summing.{sum_priced, lacks_priced}
use Rattle.marking.specs.SoundMarks.{marks_sound}
use Rattle.marking.specs.Passing.{all_passed, same_fine}
use Rattle.marking.specs.Answering.{refused_terms, refused_unpriced, answer_right}
use Rattle.marking.proofs.answer.marks_of.Goals as goal

pub returns-in_err-terms : goal.returns-in_err-terms
returns-in_err-terms c =
    let a = c.args in
    let t = terms a.intraday.now a.closing.now a.rates.now a.haircuts.now in
    let r = c.in_err-terms.field-0.0 in
    let refused = refused_terms (book_of a.book.now) a.account t (number_of r) c.in_err-terms.ensures.number (number_some r) in
    grind (arith, common_steps)

pub has_unpriced-requires : goal.has_unpriced-requires
has_unpriced-requires c = records_few _ (sound_parts _ c.requires).records

pub returns-then-has_unpriced : goal.returns-then-has_unpriced
returns-then-has_unpriced c =
    let k = book_of c.args.book.now in
    let a = c.args.account in
    let lent = c.in_ok-terms.terms in
    let t = terms lent.tables.intraday.now lent.tables.closing.now lent.rates.now lent.haircuts.now in
    let same = c.in_ok-terms.ensures.lent in
    refused_unpriced k a t (same_fine a t _ same c.in_ok-terms.ensures.number) (sym (c.has_unpriced.ensures ∙ lacks_priced t (marked_of k a)) ∙ c.if-has_unpriced.true)
    ∙ ap (marks_sound k a) same

pub sums_of-sums-requires : goal.sums_of-sums-requires
sums_of-sums-requires c = (c.requires, (all_passed _ _ (same_fine _ _ _ c.in_ok-terms.ensures.lent c.in_ok-terms.ensures.number)).fair)

pub answer_of-requires : goal.answer_of-requires
answer_of-requires c = (all_passed _ _ (same_fine _ _ _ c.in_ok-terms.ensures.lent c.in_ok-terms.ensures.number)).rates

pub returns : goal.returns
returns c =
    let k = book_of c.args.book.now in
    let a = c.args.account in
    let lent = c.in_ok-terms.terms in
    let t = terms lent.tables.intraday.now lent.tables.closing.now lent.rates.now lent.haircuts.now in
    let same = c.in_ok-terms.ensures.lent in
    let sums = c.sums_of-sums.result.sums in
    c.answer_of.ensures
    ∙ answer_right k a t (same_fine a t _ same c.in_ok-terms.ensures.number) (sym (c.has_unpriced.ensures ∙ lacks_priced t (marked_of k a)) ∙ c.if-has_unpriced.false)
    sums (λ x. c.sums_of-sums.ensures x ∙ sum_priced k t (marked_of k a) x)
    ∙ ap (marks_sound k a) same
