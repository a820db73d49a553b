-- The baselines that were read, by the registry's folder and the baseline's name.
use Rattle.std.specs.Prelude.{◌≡◌, ◌&&◌, Bool, List, Option, Result, Ok, bytes_eq}
use Rattle.std.specs.Map.{lookup}
use Rattle.vk_spec.specs.Files.{Files}
use Rattle.vk_spec.specs.Pages.{Wrong}
use Rattle.vk_registry.specs.Baselines.{Entry}
use Rattle.vk_files.specs.Notes.{AreRight}
use Rattle.vk_files.specs.Readings.{Bad}
use Rattle.vk_files.specs.Views.{same_path}
use Rattle.vk_pages.specs.Homes.{baseline_file}
use Rattle.vk_pages.specs.HomeViews.{served_view}
use Rattle.vk_pages.specs.declared.served.Served.{Served}

-- whether registries are in one folder, and one baseline counts of both
abbrev pub same_served : Served → Served → Bool
same_served one other = same_path one.folder other.folder && bytes_eq one.baseline other.baseline

-- registries, each with what its baseline means, or what is wrong with its file
abbrev pub BaselineNotes : Type 0
BaselineNotes = List (Served × Result (List Entry) Bad)

abbrev pub baseline_noted : Served → BaselineNotes → Option (Result (List Entry) Bad)
baseline_noted served notes = lookup (same_served served) notes

-- what is noted of a registry is what its file says
abbrev pub IsBaselineOf : Files → Served → Result (List Entry) Bad → Type 0
IsBaselineOf files served read = read ≡ baseline_file (served_view served) files

abbrev pub AreBaselines : BaselineNotes → Files → Type 0
AreBaselines notes files = AreRight (IsBaselineOf files) notes

-- what taking a note answers
abbrev pub nothing_said : Files → Result (Unit {0}) Wrong
nothing_said files = Ok tt
