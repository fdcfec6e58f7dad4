use Rattle.session.proofs.Histories.{two_stages, no_stage}
use Rattle.session.proofs.law.worked_histories.Goals as goal

pub returns : goal.returns
returns c = record { two_stages = two_stages; no_stage = no_stage }
