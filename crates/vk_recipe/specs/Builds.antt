-- The package that a recorded build makes of an item, the files of its port's folder and the
-- packages of its direct dependencies, or the first fault.
use Rattle.std.specs.Prelude.{◌&&◌, ◌||◌, ◌+◌, ◌++◌, ℕ, Bool, true, false, not, List, [], ◌∷◌}
use Rattle.std.specs.Prelude.{map, flat_map, option_and_then, Option, Some, None}
use Rattle.std.specs.Prelude.{Result, Ok, Err, codes, if◌then◌else◌}
use Rattle.std.specs.List.{filter, find, list_any}
use Rattle.std.specs.Option.{is_some}
use Rattle.std.specs.Str.{bytes_eq}
use Rattle.std.specs.Cmp.Lexicographic.{slice_cmp}
use Rattle.std.specs.Ordering.{nat_cmp}
use Rattle.std.specs.declared.cmp.Ordering.{Ordering}
use Rattle.vk_spec.specs.Conditions.{holds}
use Rattle.vk_spec.specs.Paths.{Path}
use Rattle.vk_spec.specs.Reading.{◌>>=◌, read_after}
use Rattle.vk_spec.specs.Settings.{Instance}
use Rattle.vk_spec.specs.Versions.{Version, ask_of}
use Rattle.vk_base.specs.Paths.{text_of_path}
use Rattle.vk_base.specs.Printed.{version_text}
use Rattle.vk_json.specs.Files.{file_of}
use Rattle.vk_json.specs.declared.faults.FileFault.{FileFault}
use Rattle.vk_resolution.specs.Keys.{Key, in_order}
use Rattle.vk_resolution.specs.Lines.{ended, who_text}
use Rattle.vk_resolution.specs.Settings.{inst}
use Rattle.vk_model.specs.Lines.{features_text}
use Rattle.vk_entry.specs.Packages.{File, bytes_at}
use Rattle.vk_recipe.specs.Recipes.{Action, Step, copy, write, take, info}
use Rattle.vk_recipe.specs.RecipeReading.{recipe_of}
use Rattle.vk_recipe.specs.declared.faults.RecipeFault.{RecipeFault}
use Rattle.vk_recipe.specs.declared.faults.RecipeFault.TheVariants as fault

-- a direct dependency, and its package
pub record Child : Type 0 where
  pub instance : Instance
  pub files : List File

-- what is built from
pub record Job : Type 0 where
  -- the instance, its version and its planned features, `core` first
  pub instance : Instance
  pub version : Version
  pub features : List (List ℕ)
  -- the marks of its triplet, `native` among them where that is the host triplet
  pub marks : List (List ℕ)
  -- the files of the port's folder
  pub folder : List File
  -- the direct dependencies
  pub children : List Child

-- ---- which steps apply

-- a feature that is asked for, if any, is planned
abbrev pub is_planned : Option (List ℕ) → List (List ℕ) → Bool
is_planned None features = true
is_planned (Some feature) features = list_any (bytes_eq feature) features

-- a step's platform holds, and its feature is planned
abbrev pub applies : Job → Step → Bool
applies job step = holds step.platform job.marks && is_planned step.feature job.features

-- ---- what a step's file is made of

-- the dependency on a port for the item's own triplet
abbrev pub is_own : Instance → List ℕ → Child → Bool
is_own item port child = bytes_eq child.instance.port port
    && bytes_eq child.instance.triplet item.triplet

-- the dependency on a port for another triplet, which is the host's
abbrev pub is_other : Instance → List ℕ → Child → Bool
is_other item port child = bytes_eq child.instance.port port
    && not (bytes_eq child.instance.triplet item.triplet)

abbrev pub own_child : Job → List ℕ → Option Child
own_child job port = find (is_own job.instance port) job.children

abbrev pub other_child : Job → List ℕ → Option Child
other_child job port = find (is_other job.instance port) job.children

abbrev pub is_native : Job → Bool
is_native job = list_any (bytes_eq (codes "native")) job.marks

-- where the item's own triplet is the host's, its own dependency serves
abbrev pub or_own : Job → List ℕ → Option Child → Option Child
or_own job port (Some child) = Some child
or_own job port None = if is_native job then own_child job port else None

-- the dependency that a step takes from: on a port, for the host or for the item's own triplet
abbrev pub child_of : Job → List ℕ → Bool → Option Child
child_of job port true = or_own job port (other_child job port)
child_of job port false = own_child job port

abbrev pub file_in : Path → Child → Option (List ℕ)
file_in path child = bytes_at path child.files

-- the line of an item: its port, triplet, version and features
abbrev pub info_text : Instance → Version → List (List ℕ) → List ℕ
info_text instance version features = ended (who_text (inst instance) ++ codes " "
    ++ version_text (ask_of version) ++ codes " " ++ features_text features)

-- the bytes of the new file, if there are any to make it of
abbrev pub source_of : Job → Action → Option (List ℕ)
source_of job (copy path) = bytes_at path job.folder
source_of job (write text) = Some text
source_of job (take path port host) = option_and_then (file_in path) (child_of job port host)
source_of job info = Some (info_text job.instance job.version job.features)

-- ---- what is wrong with a step

-- the one path begins the other, part by part
abbrev pub begins : Path → Path → Bool
begins [] other = true
begins (part ∷ path) [] = false
begins (part ∷ path) (first ∷ other) = bytes_eq part first && begins path other

-- two files can't stand at these paths
abbrev pub overlap : Path → Path → Bool
overlap one other = begins one other || begins other one

-- where the steps that apply put their files
abbrev pub paths_of : Job → List Step → List Path
paths_of job steps = map (λ (s : Step). s.to) (filter (applies job) steps)

-- a step that applies, the n-th counted from 0, after those whose files have these paths
abbrev pub done_after : Job → List Path → ℕ → Step → Result Step RecipeFault
done_after job paths n step =
    if not (is_some (source_of job step.action)) then Err (fault.NoSource (n + 1)) else
    if list_any (overlap step.to) paths then Err (fault.DoublePath (n + 1)) else
    Ok step

-- a step after those before it; one that doesn't apply does nothing
abbrev pub judged : Job → List Step → ℕ → Step → Result Step RecipeFault
judged job earlier n step =
    if applies job step then done_after job (paths_of job earlier) n step else Ok step

-- ---- what is made

abbrev pub made_of : Path → Option (List ℕ) → List File
made_of path None = []
made_of path (Some bytes) = record { path = path; bytes = bytes } ∷ []

-- the action of a step that applies, and the path of its file
abbrev pub running : Job → Step → Option (Action × Path)
running job step = if applies job step then Some (step.action, step.to) else None

-- the new file of a step, if it applies
abbrev pub file_of_step : Job → Step → List File
file_of_step job step = if applies job step then made_of step.to (source_of job step.action) else []

-- files are ordered by the texts of their paths
abbrev pub text_order : File → File → Ordering
text_order one other = slice_cmp nat_cmp (text_of_path one.path) (text_of_path other.path)

abbrev pub path_key : File → Key
path_key file = text_of_path file.path ∷ []

-- the new files of all steps, in that order
abbrev pub package_of : Job → List Step → List File
package_of job steps = in_order path_key (flat_map (file_of_step job) steps)

-- ---- the whole

-- `recorded-build.json`
abbrev pub recipe_path : Path
recipe_path = (46 ∷ []) ∷ codes "recorded-build.json" ∷ []

-- what is wrong with the file is wrong with the build
abbrev pub bad_of : FileFault → RecipeFault
bad_of wrong = fault.Bad wrong.place wrong.why

abbrev pub told_bad : {A : Type 0} → Result A FileFault → Result A RecipeFault
told_bad (Ok x) = Ok x
told_bad (Err wrong) = Err (bad_of wrong)

-- the steps of the recorded build in a folder, a file of at most 16,777,216 bytes
abbrev pub recipe_from : Option (List ℕ) → Result (List Step) RecipeFault
recipe_from None = Err fault.NoRecipe
recipe_from (Some bytes) = told_bad (file_of 16777216 recipe_of (Some bytes))

abbrev pub recipe_in : List File → Result (List Step) RecipeFault
recipe_in folder = recipe_from (bytes_at recipe_path folder)

-- the package that is built, or the first fault
unfoldable pub build_of : Job → Result (List File) RecipeFault
build_of job = do
  steps ← recipe_in job.folder
  done ← read_after (judged job) [] 0 steps
  Ok (package_of job done)
