-- The head of a file.
use Rattle.std.specs.Prelude.{◌≡◌, ℕ, ◌+◌, ◌/◌, ◌%◌, ◌<◌, ◌≤◌, ◌⊎◌, List, [], ◌∷◌, ◌++◌, length, Some, None, Ok, Err, Option, Result, ◌≢◌}
use Rattle.std.specs.Borrow.{Bor}
use Rattle.std.specs.Option.{unwrap_or, option_map}
use Rattle.model.specs.declared.keys.KnownKeys.{KnownKeys}
use Rattle.model.specs.declared.orders.Flags.{Flags}
use Rattle.model.specs.declared.orders.Ladder.{Ladder}
use Rattle.model.specs.declared.orders.Pair.{Pair}
use Rattle.design.specs.declared.fault.Fault.{Fault}
use Rattle.design.specs.declared.fault.Fault.TheVariants.{Cut, UnknownTag, WrongLength, Misplaced, FileTooLong}
use Rattle.design.specs.declared.fault.Refusal.{Refusal}
use Rattle.design.specs.declared.head.Head.{Head}
use Rattle.design.specs.declared.records.Reader.{Reader}
use Rattle.design.specs.Records.{written, Begins, CutShort, Starts}
use Rattle.design.specs.Reading.{unread}

-- Known keys as a file has them: the set, whose bit s is symbol s, and the end symbol.
abbrev pub Keys : Type 0
Keys = ℕ × ℕ

-- The records of a head.
abbrev pub stages_bytes : ℕ → ℕ → List ℕ
stages_bytes ladder flags = written 1 (ladder ∷ flags ∷ [])

abbrev pub book_bytes : Option (List ℕ) → List ℕ
book_bytes None = []
book_bytes (Some b) = written 2 b

abbrev pub keys_bytes : Option Keys → List ℕ
keys_bytes None = []
keys_bytes (Some k) = written 3 (k.0 / 256 ∷ k.0 % 256 ∷ k.1 ∷ [])

-- The parts of a file: what its head says, and the bytes after it.
pub record Parts : Type 0 where
  pub ladder : ℕ
  pub flags : ℕ
  pub book : Option (List ℕ)
  pub keys : Option Keys
  pub rest : List ℕ

-- A file is a head and the rest, which does not begin with a head record that is still due.
pub record Headed (file : List ℕ) (p : Parts) : Type 0 where
  pub small : length file ≤ 16384
  pub shape : file ≡ stages_bytes p.ladder p.flags ++ (book_bytes p.book ++ (keys_bytes p.keys ++ p.rest))
  pub no_book : p.book ≡ None → Starts 2 (keys_bytes p.keys ++ p.rest) → ⊥
  pub no_keys : p.keys ≡ None → Starts 3 p.rest → ⊥

-- Why bytes do not begin with a record of stages.
pub data NoStages (bytes : List ℕ) : Fault → Type 0 where
  none_left : bytes ≡ [] → NoStages bytes Cut
  cut_stages : CutShort bytes → NoStages bytes Cut
  no_tag : {t : ℕ} {v rest : List ℕ} → Begins bytes t v rest → (t < 1) ⊎ (7 < t) → NoStages bytes UnknownTag
  other_tag : {t : ℕ} {v rest : List ℕ} → Begins bytes t v rest → 1 < t → t ≤ 7 → NoStages bytes Misplaced
  not_two : {v rest : List ℕ} → Begins bytes 1 v rest → (length v ≢ 2) → NoStages bytes WrongLength

-- Why bytes that begin with the tag of known keys do not begin with such a record.
pub data NoKeys (bytes : List ℕ) : Fault → Type 0 where
  cut_keys : CutShort bytes → NoKeys bytes Cut
  not_three : {v rest : List ℕ} → Begins bytes 3 v rest → (length v ≢ 3) → NoKeys bytes WrongLength

-- Why a file has no head, and at which place: the first of the reasons, as they come in the file.
pub data NoHead (file : List ℕ) (f : Fault) (place : ℕ) : Type 0 where
  too_large : 16384 < length file → f ≡ FileTooLong → place ≡ 0 → NoHead file f place
  at_stages : length file ≤ 16384 → NoStages file f → place ≡ 0 → NoHead file f place
  at_book : length file ≤ 16384 → (ladder flags : ℕ) (rest : List ℕ) → file ≡ stages_bytes ladder flags ++ rest
      → Starts 2 rest → CutShort rest → f ≡ Cut → place ≡ 5 → NoHead file f place
  at_keys : length file ≤ 16384 → (ladder flags : ℕ) (b : Option (List ℕ)) (rest : List ℕ) → file ≡ stages_bytes ladder flags ++ (book_bytes b ++ rest)
      → Starts 3 rest → NoKeys rest f → place ≡ 5 + length (book_bytes b) → NoHead file f place

-- Known keys as the parts have them.
abbrev pub keys_of : KnownKeys → Keys
keys_of k = (k.set.0, k.end)

-- The head h holds the parts p: the order, the book (empty where there is none), the known keys where there are any, and the rest at its place.
pub record Holds (h : Head) (p : Parts) : Type 0 where
  pub ladder : h.order.0.0 ≡ p.ladder
  pub flags : h.order.1.0 ≡ p.flags
  pub book : h.pool.0.0.now ≡ unwrap_or p.book []
  pub keys : option_map keys_of h.pool.1 ≡ p.keys
  pub rest : unread h.rest ≡ p.rest
  pub place : h.rest.place ≡ 5 + (length (book_bytes p.book) + length (keys_bytes p.keys))

-- What is answered for a file.
abbrev pub HeadRead : List ℕ → Result Head Refusal → Type 0
HeadRead file (Ok h) = (p : Parts) × Headed file p × Holds h p
HeadRead file (Err e) = NoHead file e.fault e.place

-- Its parts one by one. First the tag that a file may begin with, and the stages.
abbrev pub FirstJudged : ℕ → ℕ → Result (Unit {0}) Refusal → Type 0
FirstJudged tag place (Ok _) = tag ≡ 1
FirstJudged tag place (Err e) = (((1 < tag) × (tag ≤ 7) × (e.fault ≡ Misplaced)) ⊎ (((tag < 1) ⊎ (7 < tag)) × (e.fault ≡ UnknownTag))) × (e.place ≡ place)

abbrev pub StagesRead : Reader → Result (Pair Ladder Flags) Refusal → Reader → Type 0
StagesRead before (Ok s) after = (unread before ≡ stages_bytes s.0.0 s.1.0 ++ unread after) × (after.place ≡ before.place + 5)
StagesRead before (Err e) after = NoStages (unread before) e.fault × (before.place ≡ 0 → e.place ≡ 0)

-- A part that may be there, written by a record with the tag.
pub record Part {A : Type 0} (bytes : Option A → List ℕ) (tag : ℕ) (before : Reader) (part : Option A) (after : Reader) : Type 0 where
  pub shape : unread before ≡ bytes part ++ unread after
  pub absent : part ≡ None → Starts tag (unread before) → ⊥
  pub place : after.place ≡ before.place + length (bytes part)

abbrev pub BookRead : Reader → Result (Bor (List ℕ)) Refusal → Reader → Type 0
BookRead before (Ok b) after = (part : Option (List ℕ)) × (b.now ≡ unwrap_or part []) × Part book_bytes 2 before part after
BookRead before (Err e) after = Starts 2 (unread before) × CutShort (unread before) × (e.fault ≡ Cut) × (e.place ≡ before.place)

abbrev pub KeysRead : Reader → Result (Option KnownKeys) Refusal → Reader → Type 0
KeysRead before (Ok k) after = Part keys_bytes 3 before (option_map keys_of k) after
KeysRead before (Err e) after = Starts 3 (unread before) × NoKeys (unread before) e.fault × (e.place ≡ before.place)
