-- The faults that stand, in four phases, each with the line that it cites.
use Rattle.vk_spec.specs.Conditions.{holds, Condition}
use Rattle.std.specs.Prelude.{ℕ, Bool, List, [], ◌∷◌, map, filter, flat_map, Option, Some, None, option_map, option_and_then, option_to_list, Result, Ok, Err, bytes_eq, if◌then◌else◌}
use Rattle.std.specs.List.{list_any}
use Rattle.vk_spec.specs.Paths.{Path}
use Rattle.vk_spec.specs.Versions.{Version, Ask, ask_of}
use Rattle.vk_spec.specs.Manifests.{Manifest, Feature, core, default}
use Rattle.vk_spec.specs.Pages.{Field, name, class, text, port, Wrong, no_registry, no_baseline, bad_file, disagrees, Given, overlay, override, baseline, Row, row_in}
use Rattle.vk_spec.specs.Settings.{Setting, Instance}
use Rattle.vk_resolution.specs.Keys.{Key, same_key, in_order}
use Rattle.vk_resolution.specs.Settings.{Marks, Who, root, inst, marks_of, triplet_of, feature_of}
use Rattle.vk_resolution.specs.Givens.{manifest_at, is_pinned}
use Rattle.vk_resolution.specs.Asking.{Fact, need, floor, visit, is_among}
use Rattle.vk_resolution.specs.Consequences.{Inputs}
use Rattle.vk_resolution.specs.Choices.{floors_of, chosen_of, tops_of}
use Rattle.vk_resolution.specs.Reasons.{first_line, line_of}

-- what may be wrong with the files of a needed port, or with a floor
pub data Trouble : Type 0 where
  lacks_registry : List ℕ → Trouble
  lacks_baseline : List ℕ → Trouble
  unreadable : Path → List ℕ → List ℕ → Trouble
  lacks_version : List ℕ → Ask → Trouble
  differs : Path → Field → List ℕ → List ℕ → Trouble

-- a fault line; a number is that of the reason that it cites
pub data Fault : Type 0 where
  troubled : Trouble → ℕ → Fault
  conflicts : List ℕ → Version → ℕ → Version → ℕ → Fault
  lacks_feature : Who → List ℕ → Option Version → ℕ → Fault
  isnt_supported : Who → List ℕ → Option Version → ℕ → Fault
  has_cycle : List Instance → Fault

-- the fields in their order
abbrev pub field_number : Field → ℕ
field_number name = 0
field_number class = 1
field_number text = 2
field_number port = 3

-- what a trouble is known by
abbrev pub trouble_key : Trouble → Key
trouble_key (lacks_registry p) = (0 ∷ []) ∷ p ∷ []
trouble_key (lacks_baseline p) = (1 ∷ []) ∷ p ∷ []
trouble_key (unreadable path place word) = (2 ∷ []) ∷ place ∷ word ∷ path
trouble_key (lacks_version p a) = (3 ∷ []) ∷ p ∷ a.text ∷ (a.port ∷ []) ∷ []
trouble_key (differs path field row manifest) = (4 ∷ []) ∷ (field_number field ∷ []) ∷ row ∷ manifest ∷ path

-- troubles are the same where their keys are
abbrev pub same_trouble : Trouble → Trouble → Bool
same_trouble t u = same_key (trouble_key t) (trouble_key u)

-- what a page says is wrong
abbrev pub wrong_of : List ℕ → Wrong → Trouble
wrong_of p no_registry = lacks_registry p
wrong_of p no_baseline = lacks_baseline p
wrong_of p (bad_file path place word) = unreadable path place word
wrong_of p (disagrees path field row manifest) = differs path field row manifest

-- what is wrong with a port's given version
abbrev pub given_troubles : List ℕ → Result Given Wrong → List Trouble
given_troubles p (Ok given) = []
given_troubles p (Err wrong) = wrong_of p wrong ∷ []

-- what is wrong with a manifest
abbrev pub manifest_troubles : List ℕ → Option (Result (Manifest Condition) Wrong) → List Trouble
manifest_troubles p None = []
manifest_troubles p (Some (Ok m)) = []
manifest_troubles p (Some (Err wrong)) = wrong_of p wrong ∷ []

-- a floor that the table lacks, where the given version was found and is no overlay's
abbrev pub floor_troubles : List ℕ → Ask → Option (Row Condition) → Result Given Wrong → List Trouble
floor_troubles p a (Some row) given = []
floor_troubles p a None (Ok (overlay v)) = []
floor_troubles p a None (Ok (override b)) = lacks_version p a ∷ []
floor_troubles p a None (Ok (baseline b)) = lacks_version p a ∷ []
floor_troubles p a None (Err wrong) = []

-- first phase: a need meets the fault of its port's given version, a visit that of its manifest, and a floor that it isn't in the table
abbrev pub troubles_of : Inputs → Fact → List Trouble
troubles_of inputs (need (root triplet) f) = []
troubles_of inputs (need (inst i) f) = given_troubles i.port (inputs.pages i.port).given
troubles_of inputs (floor p a) = floor_troubles p a (row_in (inputs.pages p).rows a) (inputs.pages p).given
troubles_of inputs (visit i f a) = manifest_troubles i.port (manifest_at inputs.pages i.port a)

-- a trouble is told once, with the first line that meets it
abbrev pub told_of : Inputs → List Fact → Trouble → List Fault
told_of inputs facts t = map (troubled t) (option_to_list (first_line (λ x. list_any (same_trouble t) (troubles_of inputs x)) facts))

-- the lines of the first phase
abbrev pub first_faults_of : Inputs → List Fact → List Fault
first_faults_of inputs facts = flat_map (told_of inputs facts) (in_order trouble_key (flat_map (troubles_of inputs) facts))

-- second phase: the first two of the floors that no other is above, with the lines of the two floors
abbrev pub conflict_of : List Fact → List ℕ → List Version → List Fault
conflict_of facts p [] = []
conflict_of facts p (v ∷ []) = []
conflict_of facts p (v ∷ w ∷ more) =
    option_to_list (option_and_then (λ n. option_map (conflicts p v n w) (line_of facts (floor p (ask_of w)))) (line_of facts (floor p (ask_of v))))

-- the conflict line of a port that has no choice
abbrev pub conflicts_of : Inputs → List Fact → List ℕ → Option Version → List Fault
conflicts_of inputs facts p (Some v) = []
conflicts_of inputs facts p None = if is_pinned inputs.setting inputs.pages p then [] else conflict_of facts p (tops_of inputs (floors_of inputs facts p))

-- the port of a floor
abbrev pub ports_in : Fact → List (List ℕ)
ports_in (need who f) = []
ports_in (floor p a) = p ∷ []
ports_in (visit i f a) = []

-- a port that isn't pinned and has floors, but none at or above all of them
abbrev pub second_faults_of : Inputs → List Fact → List Fault
second_faults_of inputs facts = flat_map (λ p. conflicts_of inputs facts p (chosen_of inputs facts p)) (in_order (λ p. p ∷ []) (flat_map ports_in facts))

-- third phase: a named feature that the manifest lacks, and what isn't supported: the manifest for `core`, a named feature by its own condition
abbrev pub feature_faults : Who → List ℕ → Option Version → Marks → Option (Feature Condition) → ℕ → List Fault
feature_faults who f v marks None n = lacks_feature who f v n ∷ []
feature_faults who f v marks (Some g) n = if holds g.supports marks then [] else isnt_supported who f v n ∷ []

-- a feature of a manifest, judged: `core` by the manifest, `default` by nothing
abbrev pub judged : Setting → Who → List ℕ → Option Version → Manifest Condition → ℕ → List Fault
judged s who f v m n =
    if bytes_eq f core then (if holds m.supports (marks_of s (triplet_of who)) then [] else isnt_supported who f v n ∷ []) else if bytes_eq f default then [] else
    feature_faults who f v (marks_of s (triplet_of who)) (feature_of m f) n

-- where the manifest is there
abbrev pub judged_at : Inputs → Instance → List ℕ → Version → Option (Result (Manifest Condition) Wrong) → ℕ → List Fault
judged_at inputs i f v None n = []
judged_at inputs i f v (Some (Err wrong)) n = []
judged_at inputs i f v (Some (Ok m)) n = judged inputs.setting (inst i) f (Some v) m n

-- where the port has a choice
abbrev pub judged_chosen : Inputs → Instance → List ℕ → Option Version → ℕ → List Fault
judged_chosen inputs i f None n = []
judged_chosen inputs i f (Some v) n = judged_at inputs i f v (manifest_at inputs.pages i.port (ask_of v)) n

-- a planned need, judged by the root's manifest or the chosen one, on its line
abbrev pub judged_need : Inputs → List Fact → Fact → ℕ → List Fault
judged_need inputs facts (need (root triplet) f) n = judged inputs.setting (root triplet) f None inputs.setting.root n
judged_need inputs facts (need (inst i) f) n = judged_chosen inputs i f (chosen_of inputs facts i.port) n
judged_need inputs facts (floor p a) n = []
judged_need inputs facts (visit i f a) n = []

-- a fact, judged on its line
abbrev pub judged_on_line : Inputs → List Fact → Fact → List Fault
judged_on_line inputs facts x = flat_map (judged_need inputs facts x) (option_to_list (line_of facts x))

-- the lines of the third phase: those of the facts that are planned, in their order
abbrev pub third_faults_of : Inputs → List Fact → List Fact → List Fault
third_faults_of inputs facts planned = flat_map (judged_on_line inputs facts) (filter (is_among planned) facts)
