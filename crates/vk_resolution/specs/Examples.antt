-- Small projects as values, and the lines that they print.
use Rattle.std.specs.Prelude.{◌≡◌, ℕ, Bool, true, false, ◌&&◌, ◌||◌, nat_le, not, ◌==◌, take_while, List, [], ◌∷◌, map, Some, None, length, Ok, Err, bytes_eq, codes, if◌then◌else◌}
use Rattle.std.specs.Ordering.{nat_cmp, is_lt}
use Rattle.std.specs.Cmp.Lexicographic.{slice_cmp}
use Rattle.vk_spec.specs.Versions.{Class, dot, date, text, Version, Ask}
use Rattle.vk_spec.specs.Manifests.{Manifest, Dependency, FeatureUse}
use Rattle.vk_spec.specs.Pages.{no_registry, baseline, Row, Page}
use Rattle.vk_spec.specs.Conditions.{always, Condition}
use Rattle.vk_spec.specs.Settings.{Triplet, Setting, Instance}
use Rattle.vk_resolution.specs.Settings.{ListsOff}
use Rattle.vk_resolution.specs.Givens.{Pages}
use Rattle.vk_resolution.specs.Consequences.{Inputs}
use Rattle.vk_resolution.specs.Planning.{Item}
use Rattle.vk_resolution.specs.Faults.{Fault}
use Rattle.vk_resolution.specs.Outcomes.{Printing, Outcome, planned, refused, IsOutcome}

-- the numbers of a dotted text, which end before a `+`
abbrev pub numbers : List ℕ → List ℕ
numbers t = take_while (λ c. not (c == 43)) t

-- where each number has one digit, dotted texts and days stand in the order of their numbers; two texts with the same numbers are unrelated
abbrev pub at_most_dots : Version → Version → Bool
at_most_dots v w = is_lt (slice_cmp nat_cmp (numbers v.text) (numbers w.text)) || (bytes_eq v.text w.text && nat_le v.port w.port)

-- the texts of `version-string` are unrelated
abbrev pub at_most_texts : Version → Version → Bool
at_most_texts v w = bytes_eq v.text w.text && nat_le v.port w.port

-- each class has its order, and versions of different classes are unrelated
abbrev pub at_most_by : Class → Class → Version → Version → Bool
at_most_by dot dot v w = at_most_dots v w
at_most_by date date v w = at_most_dots v w
at_most_by text text v w = at_most_texts v w
at_most_by _ _ v w = false

-- the order on versions in the worked projects
abbrev pub at_most : Version → Version → Bool
at_most v w = at_most_by v.class w.class v w

-- a dotted version without port-version
abbrev pub version : List ℕ → Version
version t = record { class = dot; text = t; port = 0 }

-- what asks for it
abbrev pub ask : List ℕ → Ask
ask t = record { text = t; port = 0 }

-- a dependency on a port
abbrev pub on : List ℕ → Dependency Condition
on p = record { name = p; defaults = true; features = []; host = false; platform = always; minimum = None }

-- a dependency with a minimum
abbrev pub at_least : List ℕ → List ℕ → Dependency Condition
at_least p t = record { name = p; defaults = true; features = []; host = false; platform = always; minimum = Some (ask t) }

-- a feature in a list
abbrev pub use_of : List ℕ → FeatureUse Condition
use_of f = record { name = f; platform = always }

-- a manifest of a port with dependencies
abbrev pub manifest : List ℕ → Version → List (Dependency Condition) → Manifest Condition
manifest p v ds = record { name = Some p; version = Some v; supports = always; dependencies = ds; default_features = []; features = []; overrides = [] }

-- a version in a table, with its dependencies
abbrev pub release : List ℕ → List ℕ → List (Dependency Condition) → Row Condition
release p t ds = record { version = version t; manifest = Ok (manifest p (version t) ds) }

-- a port of a registry: its baseline, and its table
abbrev pub listed : List ℕ → List (Row Condition) → Page Condition
listed t rows = record { given = Ok (baseline (ask t)); rows = rows }

-- no registry serves any other port
abbrev pub pages_of : List (List ℕ × Page Condition) → Pages
pages_of [] p = record { given = Err no_registry; rows = [] }
pages_of (x ∷ xs) p = if bytes_eq x.0 p then x.1 else pages_of xs p

-- the triplets of the worked projects
abbrev pub x64_linux : Triplet
x64_linux = record { name = codes "x64-linux"; bytes = []; marks = codes "x64" ∷ codes "linux" ∷ codes "static" ∷ [] }

-- a root without a name
abbrev pub root_with : List (Dependency Condition) → Manifest Condition
root_with ds = record { name = None; version = None; supports = always; dependencies = ds; default_features = []; features = []; overrides = [] }

-- a second one
abbrev pub arm64_linux : Triplet
arm64_linux = record { name = codes "arm64-linux"; bytes = []; marks = codes "arm64" ∷ codes "arm" ∷ codes "linux" ∷ codes "static" ∷ [] }

-- a root for two triplets, without features of the words
abbrev pub setting : Manifest Condition → Triplet → Triplet → List Instance → Setting
setting m target host off = record { root = m; target = target; host = host; features = []; defaults = true; off = off; max_facts = 1000 }

-- a root with these dependencies, for x64-linux, in which nothing is off
abbrev pub project : List (Dependency Condition) → Pages → Inputs
project ds pages = record { setting = setting (root_with ds) x64_linux x64_linux []; pages = pages; at_most = at_most }

-- the instance of a port for x64-linux
abbrev pub x64 : List ℕ → Instance
x64 p = record { port = p; triplet = codes "x64-linux" }

-- a line of the plan: port, triplet, version, the line of its floor, features
pub record Line : Type 0 where
  pub port : List ℕ
  pub triplet : List ℕ
  pub version : List ℕ
  pub number : ℕ
  pub features : List (List ℕ)

-- the line of an item
abbrev pub line : Item → Line
line item = record { port = item.instance.port; triplet = item.instance.triplet; version = item.version.text; number = item.line; features = item.features }

-- what a report says: the plan's lines or the faults, and how many reasons there are
pub data Report : Type 0 where
  plans : List Line → ℕ → Report
  refuses : List Fault → ℕ → Report

-- what an outcome prints
abbrev pub report_of : Outcome → Report
report_of (planned items reasons) = plans (map line items) (length reasons)
report_of (refused faults reasons) = refuses faults (length reasons)

-- the off list is right, and what follows from the inputs prints this, whatever bytes the lines have
pub record Reports (inputs : Inputs) (report : Report) : Type 0 where
  pub off : ListsOff inputs.setting
  pub outcome : (bytes : Printing) → (o : Outcome) × IsOutcome inputs bytes o × (report_of o ≡ report)

-- what each item of a plan needs
abbrev pub needs_in : Outcome → List (List ℕ)
needs_in (planned items reasons) = map (λ item. item.needs) items
needs_in (refused faults reasons) = []

-- what follows from the inputs has these needs
abbrev pub HasNeeds : Inputs → List (List ℕ) → Type 0
HasNeeds inputs needs = (bytes : Printing) → (o : Outcome) × IsOutcome inputs bytes o × (needs_in o ≡ needs)

-- a report is the only one
abbrev pub ReportsAlone : Type 0
ReportsAlone = (inputs : Inputs) (report : Report) → Reports inputs report → (bytes : Printing) (o : Outcome) → IsOutcome inputs bytes o → report_of o ≡ report
