-- What a plan of the code stands for.
use Rattle.std.specs.Prelude.{ℕ, List, length}
use Rattle.std.specs.List.{flat_map}
use Rattle.question.specs.Runs.{Rule}
use Rattle.question.specs.Rises.{stage, staying}
use Rattle.question.specs.Rules.{rules_of}
use Rattle.question.specs.Supply.{supplied_by}
use Rattle.question.specs.Horns.{Bit, Horn, by_staying, served, horns_for}
use Rattle.question.specs.Coding.{suppliers_of}
use Rattle.question.specs.declared.plan.Plan.{Plan}

module _ (plan : Plan) where
  abbrev pub rules_in : List Rule
  rules_in = rules_of plan.rules.now

  -- Which supplier each rule of the climb has.
  abbrev pub supplier_in : ℕ → ℕ
  supplier_in = supplied_by (suppliers_of plan.suppliers.now)

  -- The bits that what rule j makes has to serve.
  abbrev pub served_in : ℕ → List Bit
  served_in = served supplier_in (length plan.climb.now)

  -- The clauses of the staying rules at the stage before rule i, for words that rule j is to use.
  abbrev pub staying_horns : ℕ → ℕ → List Horn
  staying_horns i j = flat_map (by_staying i j) (staying rules_in (stage rules_in plan.climb.now i))

  -- All clauses of the pair of rules i and j.
  abbrev pub pair_horns : ℕ → ℕ → List Horn
  pair_horns = horns_for rules_in plan.climb.now supplier_in
