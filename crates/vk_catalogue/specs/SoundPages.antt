-- Tests of what every page keeps.
use Rattle.std.specs.Prelude.{◌++◌, Bool, true, false, List, [], ◌∷◌, map, Result, Ok, Err, IfOk, IfErr, if◌then◌else◌}
use Rattle.std.specs.List.{list_any}
use Rattle.vk_spec.specs.Versions.{Ask, ask_of, same_ask}
use Rattle.vk_spec.specs.Pages.{Wrong, no_registry, no_baseline, bad_file, disagrees, Row, Page}
use Rattle.vk_spec.specs.Catalogues.{CanBeOfGiven, HasOwnAlone}
use Rattle.vk_spec.specs.Conditions.{Condition}
use Rattle.vk_catalogue.specs.declared.pages.PageRow.{PageRow}

-- none of these asks stands twice, or is one of those before
abbrev pub distinct_after : List Ask → List Ask → Bool
distinct_after seen [] = true
distinct_after seen (ask ∷ asks) = if list_any (same_ask ask) seen then false else distinct_after (seen ++ ask ∷ []) asks

abbrev pub asks_in : List PageRow → List Ask
asks_in rows = map (λ r. ask_of r.version) rows

-- what is given, or what is wrong with it, is right
pub record FitsGiven (page : Page Condition) : Type 0 where
  pub own : IfOk page.given (HasOwnAlone page.rows)
  pub wrong : IfErr page.given CanBeOfGiven

abbrev pub can_be_of_row : Wrong → Bool
can_be_of_row no_registry = false
can_be_of_row no_baseline = false
can_be_of_row (bad_file path place word) = true
can_be_of_row (disagrees path field row manifest) = true

abbrev pub is_manifest_right : {A : Type 0} → Result A Wrong → Bool
is_manifest_right (Ok m) = true
is_manifest_right (Err e) = can_be_of_row e

abbrev pub is_row_right : Row Condition → Bool
is_row_right r = is_manifest_right r.manifest
