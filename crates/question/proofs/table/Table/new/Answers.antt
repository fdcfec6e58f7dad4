use Rattle.std.proofs.Common.{ℕ, ap, get_or, length, arith}
use Rattle.std.proofs.lemmas.List.{get_or-replicate, length-replicate}
use Rattle.question.proofs.table.Table.new.Goals as goal

pub invariant_of-result : goal.invariant_of-result
invariant_of-result c = record {
  long = omega (arith, ap length c.clear.ensures, length-replicate {A = ℕ} 32768 0);
  below = λ k h. omega (arith, ap (λ l. get_or l k 0) c.clear.ensures, get_or-replicate {A = ℕ} 32768 k 0 0 h);
}
