-- `wickdamson::files::wick_record` meets its contract: answered, unreadable, at the end, or refused. Assumes nothing.
use mathlib.Core.Path.{sym, ◌∙◌}
use Rattle.wickdamson.specs.Figures.{answered_told, unreadable_told, ended_told, file_refused_told}
use Rattle.wickdamson.proofs.files.wick_record.Goals as goal

pub returns-in-Answered : goal.returns-in-Answered
returns-in-Answered c =
    let e = c.play_record-answer.ensures in
    let t = answered_told _ _ _ _ _ _ (sym c.in-Answered.is ∙ e.0) _ c.size.ensures in
    (t.0, t.1, t.2, e.1)

pub returns-in-Unreadable : goal.returns-in-Unreadable
returns-in-Unreadable c =
    let e = c.play_record-answer.ensures in
    let t = unreadable_told _ _ _ _ (sym c.in-Unreadable.is ∙ e.0) in
    (t.0, t.1, t.2, e.1)

pub returns-in-Ended : goal.returns-in-Ended
returns-in-Ended c =
    let e = c.play_record-answer.ensures in
    let t = ended_told _ _ _ (sym c.in-Ended.is ∙ e.0) in
    (t.0, t.1, t.2, e.1)

pub returns-in-FileRefused : goal.returns-in-FileRefused
returns-in-FileRefused c =
    let e = c.play_record-answer.ensures in
    let t = file_refused_told _ _ _ _ (sym c.in-FileRefused.is ∙ e.0) in
    (t.0, t.1, t.2, e.1)
