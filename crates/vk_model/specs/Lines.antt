-- The lines that are printed of early files and of ports. What is wrong with a port is printed as a fault is, without the reason that it cites.
use Rattle.std.specs.Prelude.{◌++◌, ◌∷◌, ℕ, List, map, flat_map, codes}
use Rattle.std.specs.List.{join_with_byte}
use Rattle.vk_spec.specs.Paths.{Path}
use Rattle.vk_spec.specs.Versions.{Ask}
use Rattle.vk_spec.specs.Earlies as the_early
use Rattle.vk_spec.specs.Earlies.{Early, two_configurations, no_triplet, overlap, blocked}
use Rattle.vk_spec.specs.Pages.{Field, Wrong}
use Rattle.vk_base.specs.Printed.{path_text}
use Rattle.vk_base.specs.Tokens.{token_of}
use Rattle.vk_json.specs.Places.{file_line}
use Rattle.vk_resolution.specs.Faults.{lacks_version, differs, wrong_of}
use Rattle.vk_resolution.specs.Lines.{trouble_text}

abbrev pub early_line : Early → List ℕ
early_line (the_early.bad_file path place word) = file_line path place word
early_line two_configurations = codes "two-configurations"
early_line (no_triplet triplet) = codes "no-triplet " ++ token_of triplet
early_line (overlap first second) =
    codes "overlap " ++ path_text first ++ codes " " ++ path_text second
early_line (blocked path) = codes "blocked " ++ path_text path

abbrev pub wrong_line : List ℕ → Wrong → List ℕ
wrong_line p wrong = trouble_text (wrong_of p wrong)

abbrev pub no_version_line : List ℕ → Ask → List ℕ
no_version_line p ask = trouble_text (lacks_version p ask)

abbrev pub disagrees_line : Path → Field → List ℕ → List ℕ → List ℕ
disagrees_line path field table manifest = trouble_text (differs path field table manifest)

-- features with commas between
abbrev pub features_text : List (List ℕ) → List ℕ
features_text features = join_with_byte 44 (map token_of features)

-- features, each behind a comma
abbrev pub more_features_text : List (List ℕ) → List ℕ
more_features_text features = flat_map (λ f. 44 ∷ token_of f) features
