-- What a table has.
use Rattle.std.specs.Prelude.{ℕ, List, take}
use Rattle.std.specs.declared.default.Default.{Ghosts}
use Rattle.session.specs.declared.table.Table.{Table}

-- The items of a table, in the order in which they came. (`Blank` is what T says of its default.)
abbrev pub items : {T : Type 0} {N : ℕ} {Blank : Ghosts T} → Table T N Blank → List T
items table = take table.count table.rows.places
