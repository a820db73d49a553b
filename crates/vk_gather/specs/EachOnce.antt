-- A list of paths in which neighbours with one text are one.
use Rattle.std.specs.Prelude.{[], ◌∷◌, Bool, false, List, if◌then◌else◌}
use Rattle.std.specs.Ordering.{is_eq}
use Rattle.vk_spec.specs.Paths.{Path}
use Rattle.vk_walk.specs.Walks.{text_order}

-- the first of these has the text of the path
abbrev pub is_first : Path → List Path → Bool
is_first p [] = false
is_first p (q ∷ qs) = is_eq (text_order p q)

-- a path before others, unless the first of them has its text
abbrev pub put_first : Path → List Path → List Path
put_first p qs = if is_first p qs then qs else p ∷ qs

-- of neighbours with one text the last stays
abbrev pub each_once : List Path → List Path
each_once [] = []
each_once (p ∷ ps) = put_first p (each_once ps)
