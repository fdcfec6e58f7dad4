use Rattle.std.proofs.Common.{◌≡◌, Ok, Err}
use Rattle.question.specs.Rows.{held}
use Rattle.session.specs.Calls.{stands_at}
use Rattle.session.proofs.Answering.{refused_out, refused_first, no_word, fire_unready, fire_without_result, fired}
use Rattle.session.proofs.session.Session.fire.Goals as goal

pub returns-in_err-row : goal.returns-in_err-row
returns-in_err-row g c = refused_out stands_at _ _ c.from_residual.ensures.1 (refused_first 2 _ (no_word _ (λ row. held row ≡ c.args.word.now) _ c.in_err-row.ensures))

pub returns-in_err-rule : goal.returns-in_err-rule
returns-in_err-rule g c =
    refused_out stands_at _ _ c.from_residual-in_err-rule.ensures.1
    (fire_unready g.O.Order g.P.Pool c.args.self.now c.args.number c.args.word.now c.in_ok-row.row c.in_ok-row.ensures c.in_err-rule.field-0.0 c.in_err-rule.ensures)

pub returns-in_err-made : goal.returns-in_err-made
returns-in_err-made g c =
    refused_out stands_at _ _ c.from_residual-in_err-made.ensures.1
    (fire_without_result g.O.Order g.P.Pool c.args.self.now c.args.number c.args.word.now c.in_ok-row.row c.in_ok-row.ensures c.in_ok-rule.rule c.in_ok-rule.ensures c.in_err-made.field-0.0 c.in_err-made.ensures)

pub returns-in_err-note : goal.returns-in_err-note
returns-in_err-note g c =
    let noted = c.in_err-note.ensures in
    refused_out stands_at _ _ c.from_residual-in_err-note.ensures.1
    (fired g.O.Order g.P.Pool c.args.self.now c.args.number c.args.word.now c.in_ok-row.row c.in_ok-row.ensures c.in_ok-rule.rule c.in_ok-rule.ensures c.in_ok-made.made c.in_ok-made.ensures (Err c.in_err-note.field-0.0) c.note.new.self noted.kept noted.notes)

pub returns : goal.returns
returns g c =
    let noted = c.in_ok-note.ensures in
    fired g.O.Order g.P.Pool c.args.self.now c.args.number c.args.word.now c.in_ok-row.row c.in_ok-row.ensures c.in_ok-rule.rule c.in_ok-rule.ensures c.in_ok-made.made c.in_ok-made.ensures (Ok c.in_ok-note.field-0) c.note.new.self noted.kept noted.notes
