-- The manifest of the version that is chosen for a port, and what is made of it.
use Rattle.std.specs.Prelude.{◌≡◌, ℕ, List, [], Option, Some, None, option_map, option_and_then, Result, Ok, Err, bytes_eq}
use Rattle.std.specs.Map.{lookup}
use Rattle.std.specs.declared.rc.Rc.{Rc}
use Rattle.vk_spec.specs.Conditions.{Condition}
use Rattle.vk_spec.specs.Catalogues.{CanAskManifest}
use Rattle.vk_spec.specs.Manifests as spec
use Rattle.vk_spec.specs.Pages.{Wrong, manifest_in}
use Rattle.vk_spec.specs.Settings.{Setting}
use Rattle.vk_spec.specs.Versions.{Version, ask_of}
use Rattle.vk_resolution.specs.Asking.{Fact, asked_of}
use Rattle.vk_resolution.specs.Faults.{Fault, judged}
use Rattle.vk_resolution.specs.Givens.{Pages}
use Rattle.vk_resolution.specs.Settings.{Who}
use Rattle.vk_model.specs.Views.{manifest_view}
use Rattle.vk_model.specs.declared.manifests.Manifest.{Manifest}
use Rattle.vk_choices.specs.declared.chosen.Choice.{Choice}

abbrev pub found_view : {Z : Type 0} → Option (Rc Manifest Z) → Option (spec.Manifest Condition)
found_view found = option_map (λ m. manifest_view m.value) found

-- a manifest with which nothing is wrong
abbrev pub readable : Option (Result (spec.Manifest Condition) Wrong) → Option (spec.Manifest Condition)
readable None = None
readable (Some (Err wrong)) = None
readable (Some (Ok m)) = Some m

-- the manifest of a port at its choice, where these are the choices of ports
abbrev pub chosen_manifest : Pages → List (List ℕ × Choice) → List ℕ → Option (spec.Manifest Condition)
chosen_manifest pages choices p = option_and_then (λ c. readable (manifest_in (pages p) (ask_of c.version))) (lookup (bytes_eq p) choices)

-- what a feature of a manifest asks for, if that is there
abbrev pub asked_by_found : Setting → Who → List ℕ → Option (spec.Manifest Condition) → List Fact
asked_by_found s who f None = []
asked_by_found s who f (Some m) = asked_of s who f m

-- and the lines that it is judged by
abbrev pub judged_by_found : Setting → Who → List ℕ → Option Version → Option (spec.Manifest Condition) → ℕ → List Fault
judged_by_found s who f v None n = []
judged_by_found s who f v (Some m) n = judged s who f v m n

-- the manifest of a port's choice can be asked for
abbrev pub CanAskChosen : Pages → List (List ℕ × Choice) → List ℕ → Type 0
CanAskChosen pages choices p = (choice : Choice) → lookup (bytes_eq p) choices ≡ Some choice → CanAskManifest (ask_of choice.version) (pages p)
