-- A file has one head, or one reason to have none.
use Rattle.std.specs.Prelude.{◌≡◌, ℕ, List, Ok, Err, Result}
use Rattle.design.specs.declared.fault.Fault.{Fault}
use Rattle.design.specs.declared.fault.Refusal.{Refusal}
use Rattle.design.specs.declared.head.Head.{Head}
use Rattle.design.specs.Heads.{Parts, Headed, NoHead, Holds}

-- A file that is built from parts reads back as exactly these parts, and no fault stands against it;
-- a file that is refused is built from no parts, and no other fault or place stands against it.
abbrev pub OneAnswer : List ℕ → Result Head Refusal → Type 0
OneAnswer file (Ok h) = ((p : Parts) → Headed file p → Holds h p) × ((f : Fault) (place : ℕ) → NoHead file f place → ⊥)
OneAnswer file (Err e) = ((p : Parts) → Headed file p → ⊥) × ((f : Fault) (place : ℕ) → NoHead file f place → (f ≡ e.fault) × (place ≡ e.place))
