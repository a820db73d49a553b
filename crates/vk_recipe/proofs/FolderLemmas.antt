-- What is known of the recorded build that a folder has.
use Rattle.std.proofs.Common.{◌≡◌, ◌≤◌, ℕ, Bool, true, false, nat_lt, List, [], length, ap}
use Rattle.std.specs.Prelude.{Option, Some, None, Result, Ok, Err, flat_map, if◌then◌else◌}
use Rattle.std.specs.List.{Contains}
use Rattle.std.proofs.lemmas.List.Elements.{All-contains}
use Rattle.vk_spec.specs.Lists.{NoRepeats}
use Rattle.vk_spec.specs.Reading.{read_after}
use Rattle.vk_json.specs.declared.faults.FileFault.{FileFault}
use Rattle.vk_json.specs.declared.faults.Why.TheVariants as why
use Rattle.vk_json.specs.Places.{here}
use Rattle.vk_entry.specs.Packages.{File, bytes_at, texts_of}
use Rattle.vk_recipe.specs.Recipes.{Step}
use Rattle.vk_recipe.specs.PackagePaths.{IsDestination}
use Rattle.vk_recipe.specs.RecipeReading.{recipe_of}
use Rattle.vk_recipe.specs.Builds.{Job, told_bad, recipe_from, recipe_in, recipe_path, judged, file_of_step}
use Rattle.vk_recipe.proofs.TellingLemmas.{goes_right, few_steps}
use Rattle.vk_recipe.proofs.DistinctLemmas.{texts_differ}

told_ok : (read : Result (List Step) FileFault) (steps : List Step) → told_bad read ≡ Ok steps → read ≡ Ok steps
told_ok (Ok x) steps e = let same : x ≡ steps = (cc) in ap Ok same
told_ok (Err wrong) steps e = (cc)

small_ok : (bytes : List ℕ) (steps : List Step) (large : Bool) → told_bad (if large then Err (here why.Large) else recipe_of bytes) ≡ Ok steps → recipe_of bytes ≡ Ok steps
small_ok bytes steps true e = (cc)
small_ok bytes steps false e = told_ok (recipe_of bytes) steps e

from_bytes : (file : Option (List ℕ)) (steps : List Step) → recipe_from file ≡ Ok steps → (bytes : List ℕ) × (recipe_of bytes ≡ Ok steps)
from_bytes None steps e = (cc)
from_bytes (Some bytes) steps e = (bytes, small_ok bytes steps (nat_lt 16777216 (length bytes)) e)

pub few_in : (folder : List File) (steps : List Step) → recipe_in folder ≡ Ok steps → length steps ≤ 50000
few_in folder steps e = let read = from_bytes (bytes_at recipe_path folder) steps e in few_steps read.0 steps read.1

pub right_in : (folder : List File) (steps : List Step) → recipe_in folder ≡ Ok steps → (s : Step) → Contains steps s → IsDestination s.to
right_in folder steps e s at =
    let read = from_bytes (bytes_at recipe_path folder) steps e in
    All-contains (λ (s : Step). IsDestination s.to) steps s (goes_right read.0 steps read.1) at

pub texts_in : (job : Job) (steps done : List Step) → recipe_in job.folder ≡ Ok steps → read_after (judged job) [] 0 steps ≡ Ok done → NoRepeats (texts_of (flat_map (file_of_step job) steps))
texts_in job steps done e read = texts_differ job steps done (right_in job.folder steps e) read
