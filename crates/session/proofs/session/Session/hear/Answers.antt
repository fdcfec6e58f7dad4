use Rattle.std.proofs.Common.{◌≡◌}
use Rattle.session.specs.Sessions.{news}
use Rattle.session.proofs.Answering.{refused_out, refused_first, no_word, hears}
use Rattle.question.specs.Rows.{held}
use Rattle.session.proofs.session.Session.hear.Goals as goal

pub returns-in_err-try_from : goal.returns-in_err-try_from
returns-in_err-try_from g c = refused_out news _ _ c.from_residual.ensures.1 (refused_first 2 _ (no_word _ (λ row. held row ≡ c.args.word.now) _ c.in_err-try_from.ensures))

pub returns : goal.returns
returns g c =
    let ((_, short), symbols, same) = c.in_ok-try_from.ensures in
    record { kept = c.note.ensures.kept; serves = hears _ _ _ _ _ _ c.note.result _ (short, (symbols, tt)) same c.note.ensures.notes }
