-- The tag of each kind of record.
use Rattle.std.specs.Prelude.{◌≡◌, ℕ, ◌<◌, ◌⊎◌, Result, MatchResult}
use Rattle.design.specs.declared.tags.Tag.{Tag}
use Rattle.design.specs.declared.tags.Tag.TheVariants.{Stages, Book, Keys, Rule, Fire, Ask, Hear}
use Rattle.design.specs.declared.tags.UnknownTag.{UnknownTag}

abbrev pub byte_of : Tag → ℕ
byte_of Stages = 1
byte_of Book = 2
byte_of Keys = 3
byte_of Rule = 4
byte_of Fire = 5
byte_of Ask = 6
byte_of Hear = 7

-- The kind with this tag, or the byte where no kind has it.
abbrev pub Decodes : ℕ → Result Tag UnknownTag → Type 0
Decodes byte r = MatchResult r (λ tag. byte_of tag ≡ byte) (λ e. (e.0 ≡ byte) × ((byte < 1) ⊎ (7 < byte)))
