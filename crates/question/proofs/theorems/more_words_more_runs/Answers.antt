use Rattle.question.proofs.Runs.{words_stay, more_words, same_words}
use Rattle.question.proofs.theorems.more_words_more_runs.Goals as goal

pub returns : goal.returns
returns g c = record { stay = words_stay _; more = more_words _ _; same = same_words _ _ }
