-- Two histories, worked out.
use Rattle.std.specs.Prelude.{◌≡◌, ℕ, ◌≤◌, [], ◌∷◌, length}
use Rattle.session.specs.declared.fault.Fault.TheVariants.{NoSuchStage, SymbolTooHigh, NoSuchRule, OtherStage}
use Rattle.session.specs.Limits.{cells_used, list_used}
use Rattle.question.specs.Notation.{hex, turn}
use Rattle.question.specs.Runs.{Rule}
use Rattle.session.specs.Calls.{Lent, Call, admit, hear, fire, ask, Answer, refused, numbered, known, new, stands_at, out_of_reach, in_reach}
use Rattle.session.specs.Ledger.{Ledger, fresh}
use Rattle.session.specs.Law.{Entry, Follows}

-- Stages in the order of their numbers.
abbrev pub ladder : ℕ → ℕ → Type 0
ladder b a = a ≤ b

-- A call, its answer, and the ledger after it.
abbrev pub entry : Call → Answer → Ledger → Entry
entry call answer after = record { call = call; answer = answer; after = after }

-- The rule from stage 0 to the stage q that makes 2 of 1.
abbrev pub to_stage : ℕ → Rule
to_stage q = turn 0 "1" q "2"

-- After the rule is admitted.
abbrev pub ruled : Ledger
ruled = record { stage = 0; rules = to_stage 1 ∷ []; heard = [] }

-- After it is fired on 1F.
abbrev pub fired : Ledger
fired = record { stage = 1; rules = to_stage 1 ∷ []; heard = hex "2F" ∷ [] }

-- Two stages, and the given word 1F.
abbrev pub TwoStages : Type 0
TwoStages = (lent : Lent) → cells_used ≤ length lent.cells → list_used ≤ length lent.list →
    Follows 2 ladder (λ w. w ≡ hex "1F") fresh (
    entry (admit (to_stage 1)) (numbered 0) ruled
    ∷ entry (admit (to_stage 2)) (refused NoSuchStage) ruled
    ∷ entry (ask 1 lent) (in_reach (0 ∷ [])) ruled
    ∷ entry (fire 0 (hex "1F")) (stands_at 1) fired
    ∷ entry (hear (hex "2F")) known fired
    ∷ entry (ask 0 lent) out_of_reach fired
    ∷ entry (fire 0 (hex "1F")) (refused OtherStage) fired
    ∷ entry (fire 1 (16 ∷ [])) (refused SymbolTooHigh) fired
    ∷ []
    )

-- No stage and no given word: the session stands at 0, which is no stage.
abbrev pub NoStage : Type 0
NoStage = (lent : Lent) →
    Follows 0 ladder (λ w. ⊥) fresh (
    entry (admit (to_stage 0)) (refused NoSuchStage) fresh
    ∷ entry (ask 0 lent) (refused NoSuchStage) fresh
    ∷ entry (fire 0 []) (refused NoSuchRule) fresh
    ∷ entry (hear []) new (record { stage = 0; rules = []; heard = [] ∷ [] })
    ∷ []
    )
