use Rattle.std.proofs.Common.{⊎_elim, arith}
use Rattle.std.proofs.lemmas.Bool.Decides.{not_from_Decides}
use Rattle.std.proofs.lemmas.List.{length-map}
use Rattle.question.specs.Rows.{held}
use Rattle.session.specs.Tables.{items}
use Rattle.session.specs.Sessions.{Notes.is_known, Notes.no_place}
use Rattle.session.proofs.Answering.{noted_new}
use Rattle.session.proofs.Tables.{map_added}
use Rattle.session.proofs.session.Session.note.Goals as goal

pub returns-then-knows-clause-notes : goal.returns-then-knows-clause-notes
returns-then-knows-clause-notes g c = rw (← c.word.ensures.value) (is_known (c.knows.ensures.0 c.if-knows.true))

pub returns-then-is_full-clause-notes : goal.returns-then-is_full-clause-notes
returns-then-is_full-clause-notes g c =
    let words = items c.args.self.now.heard in
    let full = c.is_full.ensures.0 c.if-is_full.true in
    rw (← c.word.ensures.value) (no_place (⊎_elim (not_from_Decides _ c.knows.ensures c.if-knows.false) (λ room. omega (arith, full, length-map words held))))

pub returns-clause-notes : goal.returns-clause-notes
returns-clause-notes g c =
    let words = items c.args.self.now.heard in
    let room = not_from_Decides _ c.is_full.ensures c.if-is_full.false in
    noted_new _ _ _ _ _ c.word.ensures.value (not_from_Decides _ c.knows.ensures c.if-knows.false) (omega (arith, room, length-map words held)) (map_added held _ _ _ c.add.ensures.after)
