-- How the paths of files that were found differ from those that are listed.
use Rattle.std.specs.Prelude.{not, Bool, List, Option, Some, None, if◌then◌else◌}
use Rattle.std.specs.List.{list_any}
use Rattle.std.specs.Cmp.Lexicographic.{pointwise}
use Rattle.std.specs.Str.{bytes_eq}
use Rattle.vk_spec.specs.Paths.{Path}
use Rattle.vk_entry.specs.declared.differences.Difference.{Difference}
use Rattle.vk_entry.specs.declared.differences.Difference.TheVariants.{Extra, Missing}

-- the path is one of these
abbrev pub is_among : List Path → Path → Bool
is_among paths path = list_any (λ other. pointwise bytes_eq other path) paths

-- one of the paths isn't among the others
abbrev pub has_outside : List Path → List Path → Bool
has_outside paths others = list_any (λ path. not (is_among others path)) paths

-- a found path that isn't listed, or else a listed one that wasn't found
abbrev pub difference_of : List Path → List Path → Option Difference
difference_of found listed =
    if has_outside found listed then Some Extra
    else if has_outside listed found then Some Missing
    else None
