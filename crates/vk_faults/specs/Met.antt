-- What asking a catalogue about a fact meets. It is what is wrong with the files that the fact needs, but that the manifest of a visit is asked for only where its port has a given version.
use Rattle.std.specs.Prelude.{ℕ, List, [], ◌∷◌, flat_map, map, Option, Some, None, Result, Ok, Err}
use Rattle.std.specs.List.{list_any}
use Rattle.std.specs.Option.{option_to_list}
use Rattle.vk_spec.specs.Versions.{Version, Ask}
use Rattle.vk_spec.specs.Conditions.{Condition}
use Rattle.vk_spec.specs.Pages.{Wrong, Given, overlay, override, baseline, Page, version_in, manifest_in}
use Rattle.vk_resolution.specs.Keys.{in_order}
use Rattle.vk_resolution.specs.Settings.{root, inst}
use Rattle.vk_resolution.specs.Givens.{Pages}
use Rattle.vk_resolution.specs.Asking.{Fact, need, floor, visit}
use Rattle.vk_resolution.specs.Reasons.{first_line}
use Rattle.vk_resolution.specs.Faults.{Trouble, lacks_version, trouble_key, same_trouble, given_troubles, manifest_troubles, Fault, troubled}

-- a version that isn't there
abbrev pub lacking : List ℕ → Ask → Option Version → List Trouble
lacking p a None = lacks_version p a ∷ []
lacking p a (Some v) = []

-- of a floor: that its version isn't there, where the given version is no overlay's
abbrev pub floor_met : List ℕ → Ask → Page Condition → Result Given Wrong → List Trouble
floor_met p a page (Ok (overlay v)) = []
floor_met p a page (Ok (override b)) = lacking p a (version_in page a)
floor_met p a page (Ok (baseline b)) = lacking p a (version_in page a)
floor_met p a page (Err wrong) = []

-- of a visit: what is wrong with its manifest
abbrev pub visit_met : List ℕ → Ask → Page Condition → Result Given Wrong → List Trouble
visit_met p a page (Ok given) = manifest_troubles p (manifest_in page a)
visit_met p a page (Err wrong) = []

abbrev pub met_on : Pages → Fact → List Trouble
met_on pages (need (root triplet) f) = []
met_on pages (need (inst i) f) = given_troubles i.port (pages i.port).given
met_on pages (floor p a) = floor_met p a (pages p) (pages p).given
met_on pages (visit i f a) = visit_met i.port a (pages i.port) (pages i.port).given

-- each trouble that facts meet, with the first line that meets it
abbrev pub told_by : (Fact → List Trouble) → List Fact → Trouble → List Fault
told_by met facts t = map (troubled t) (option_to_list (first_line (λ x. list_any (same_trouble t) (met x)) facts))

abbrev pub faults_by : (Fact → List Trouble) → List Fact → List Fault
faults_by met facts = flat_map (told_by met facts) (in_order trouble_key (flat_map met facts))
