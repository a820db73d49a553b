-- The row that an ask means.
use Rattle.std.specs.Prelude.{List, Option}
use Rattle.std.specs.List.{find}
use Rattle.vk_spec.specs.Versions.{Ask, ask_of, same_ask}
use Rattle.vk_registry.specs.Tables.{Row}

-- the row of a registry's table that an ask means
abbrev pub row_meant : List Row → Ask → Option Row
row_meant rows ask = find (λ r. same_ask (ask_of r.version) ask) rows
