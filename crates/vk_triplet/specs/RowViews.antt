-- What contracts see of a row of the table of marks.
use Rattle.std.specs.Prelude.{ℕ, List, map}
use denote.Ref.{Bor}
use Rattle.vk_triplet.specs.Marks as the
use Rattle.vk_triplet.specs.declared.tables.Row.{Row}

-- texts that are borrowed, by their bytes
abbrev pub texts_of : List (Bor (List ℕ)) → List (List ℕ)
texts_of texts = map (λ t. t.now) texts

-- a row, by its bytes
abbrev pub row_view : Row → the.Row
row_view r = record { variable = r.0.now; value = r.1.now; marks = texts_of r.2.now }
