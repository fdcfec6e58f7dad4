-- How many items a table has, and what stands for them.
use Rattle.std.proofs.Common.{◌≡◌, ℕ, List, [], ◌∷◌, ◌++◌, map, length, ap, ◌∙◌, arith}
use Rattle.std.proofs.lemmas.List.{length-map, length-take-le, map-append}
use Rattle.std.specs.declared.default.Default.{Ghosts}
use Rattle.session.specs.declared.table.Table.{Table}
use Rattle.session.specs.Tables.{items}

pub length_items : {T Y : Type 0} {N : ℕ} {Blank : Ghosts T} (t : Table T N Blank) (f : T → Y) → length (map f (items t)) ≡ t.count
length_items t f = length-map (items t) f ∙ length-take-le t.count t.rows.places (omega (arith, t.few, t.wide))

-- One item more.
pub map_added : {T Y : Type 0} (f : T → Y) (old new : List T) (item : T) → new ≡ old ++ item ∷ [] → map f new ≡ map f old ++ f item ∷ []
map_added f old new item is = ap (map f) is ∙ map-append f old (item ∷ [])
