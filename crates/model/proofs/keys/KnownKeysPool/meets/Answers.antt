use Rattle.std.proofs.Common.{◌+◌, ◌*◌, get_or, arith}
use Rattle.std.proofs.lemmas.Bool.Decides.{Decides-like}
use Rattle.model.specs.Sieves.{next, mark}
use Rattle.model.proofs.KeyWords.{keys_lead, mark_below}
use Rattle.model.proofs.keys.KnownKeysPool.meets.Goals as goal

pub returns : goal.returns
returns c =
    let self = c.args.self.now in
    let s = c.args.sieve in
    let first = mark s.first in
    let listed = c.lead_to_wanted-wanted.ensures (next s.table.now first self.end) (mark_below (get_or s.table.now (16 * first + self.end) 0)) in
    let leads = keys_lead self.set.0 s.table.now s.wanted.now self.end first (omega arith) in
    Decides-like _ (λ t. leads.0 (listed.0 t)) (λ h. listed.1 (leads.1 h)) c.catches.ensures
