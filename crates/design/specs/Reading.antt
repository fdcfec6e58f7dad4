-- What the reader answers.
use Rattle.std.specs.Prelude.{◌≡◌, ℕ, ◌+◌, List, [], length, drop, Some, None, Ok, Err, Option, Result}
use Rattle.design.specs.declared.fault.Fault.TheVariants.{Cut}
use Rattle.design.specs.declared.fault.Refusal.{Refusal}
use Rattle.design.specs.declared.records.Reader.{Reader}
use Rattle.design.specs.declared.records.Record.{Record}
use Rattle.design.specs.Records.{Begins, CutShort, Starts}

-- The bytes that are not read yet.
abbrev pub unread : Reader → List ℕ
unread r = drop r.place r.file.now

-- x is the first record of what was not read, and the reader moved past it.
pub record Taken (before : Reader) (x : Record) (after : Reader) : Type 0 where
  pub here : x.place ≡ before.place
  pub begins : Begins (unread before) x.tag x.value.now (unread after)
  pub on : after.place ≡ before.place + (3 + length x.value.now)

-- The record is cut, and the reader stays.
pub record Refused (before : Reader) (e : Refusal) (after : Reader) : Type 0 where
  pub short : CutShort (unread before)
  pub why : e ≡ record { fault = Cut; place = before.place }
  pub stays : after ≡ before

-- What is answered for the next record.
abbrev pub Next : Reader → Result (Option Record) Refusal → Reader → Type 0
Next before (Ok None) after = (unread before ≡ []) × (after ≡ before)
Next before (Ok (Some x)) after = Taken before x after
Next before (Err e) after = Refused before e after

-- The same where the first byte is the tag, and else nothing.
abbrev pub NextIf : ℕ → Reader → Result (Option Record) Refusal → Reader → Type 0
NextIf tag before (Ok None) after = (Starts tag (unread before) → ⊥) × (after ≡ before)
NextIf tag before (Ok (Some x)) after = (x.tag ≡ tag) × Taken before x after
NextIf tag before (Err e) after = Starts tag (unread before) × Refused before e after
