-- A line taken off the front of its buffer.
use Rattle.std.proofs.Common.{◌≡◌, ℕ, List, take, drop, ap, ◌∙◌, sym}
use Rattle.std.proofs.lemmas.List.{take_at}
use Rattle.design.specs.Lines.{Put}

pub put_front : {line before after : List ℕ} {n : ℕ} → Put line before n after → take n after ≡ line
put_front {line} {before} {n = n} p = ap (take n) p.bytes ∙ take_at line (drop n before) n (sym p.long)
