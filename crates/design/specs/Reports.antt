-- The report on a file.
use Rattle.std.specs.Prelude.{◌≡◌, ℕ, ◌*◌, ◌^◌, List}
use Rattle.model.specs.Orders.{capped}
use Rattle.design.specs.declared.fault.Fault.{Fault}
use Rattle.design.specs.Faults.{number}
use Rattle.design.specs.Heads.{Parts, Headed, NoHead}
use Rattle.design.specs.Lines.{stages_line, stop_line}

-- The number of stages of a ladder with flags.
abbrev pub stages_of : ℕ → ℕ → ℕ
stages_of ladder flags = capped (capped ladder * capped (2 ^ flags))

-- The report on a file: the line of its head, or of the reason why it has none.
pub data Reported (file out : List ℕ) : Type 0 where
  no_head : (f : Fault) (place : ℕ) → NoHead file f place → out ≡ stop_line (number f) place → Reported file out
  headed : (p : Parts) → Headed file p → out ≡ stages_line (stages_of p.ladder p.flags) → Reported file out

-- A file has one report.
abbrev pub OneReport : List ℕ → Type 0
OneReport file = (out out' : List ℕ) → Reported file out → Reported file out' → out ≡ out'
