-- The plan: what the chosen versions alone require, what depends on what, in which order, and the cycle that is told.
use Rattle.std.specs.Prelude.{◌≡◌, ◌≢◌, ◌<◌, ℕ, zero, suc, ◌+◌, Bool, true, false, not, ◌&&◌, List, [], ◌∷◌, map, filter, flat_map, Option, Some, None, Result, Ok, Err, bytes_eq, if◌then◌else◌}
use Rattle.std.specs.List.{Contains, list_any, list_all}
use Rattle.std.specs.declared.cmp.Ordering.TheVariants.{Less, Greater}
use Rattle.vk_spec.specs.Versions.{Version, ask_of}
use Rattle.vk_spec.specs.Manifests.{Manifest, core, default}
use Rattle.vk_spec.specs.Pages.{Wrong}
use Rattle.vk_spec.specs.Settings.{Setting, Instance}
use Rattle.vk_spec.specs.Conditions.{Condition}
use Rattle.vk_resolution.specs.Keys.{Key, key_cmp, in_order}
use Rattle.vk_resolution.specs.Least.{Rules, IsLeast}
use Rattle.vk_resolution.specs.Settings.{root, inst, same_instance, instance_of, applicable_of}
use Rattle.vk_resolution.specs.Givens.{manifest_at}
use Rattle.vk_resolution.specs.Asking.{Fact, need, floor, visit, asked_of, root_facts_of}
use Rattle.vk_resolution.specs.Consequences.{Inputs, asked_at}
use Rattle.vk_resolution.specs.Choices.{chosen_of}
use Rattle.vk_resolution.specs.Reasons.{line_of}

-- whether a fact is a need
abbrev pub is_need : Fact → Bool
is_need (need who f) = true
is_need (floor p a) = false
is_need (visit i f a) = false

-- the visit at the chosen version, if there is one
abbrev pub visit_of : Instance → List ℕ → Option Version → List Fact
visit_of i f None = []
visit_of i f (Some v) = visit i f (ask_of v) ∷ []

-- what the chosen versions alone require: a need of an instance is a visit at the chosen version, and manifests ask for needs and no floors
abbrev pub planned_from : Inputs → List Fact → Fact → List Fact
planned_from inputs facts (need (root triplet) f) = filter is_need (asked_of inputs.setting (root triplet) f inputs.setting.root)
planned_from inputs facts (need (inst i) f) = visit_of i f (chosen_of inputs facts i.port)
planned_from inputs facts (floor p a) = []
planned_from inputs facts (visit i f a) = filter is_need (asked_at inputs i f a)

-- the rules of the plan
abbrev pub planned_rules_of : Inputs → List Fact → Rules Fact
planned_rules_of inputs facts = record {
  roots = root_facts_of inputs.setting;
  alone = planned_from inputs facts;
  together = λ a b. [];
}

-- the planned facts, where `facts` is the least list of requirements
abbrev pub IsPlanned : Inputs → List Fact → List Fact → Type 0
IsPlanned inputs facts planned = IsLeast (planned_rules_of inputs facts) planned

-- instances by port, then by triplet
abbrev pub instance_key : Instance → Key
instance_key i = i.port ∷ i.triplet ∷ []

-- the instance of a need
abbrev pub needed_in : Fact → List Instance
needed_in (need (root triplet) f) = []
needed_in (need (inst i) f) = i ∷ []
needed_in (floor p a) = []
needed_in (visit i f a) = []

-- the planned instances, by port and triplet
abbrev pub instances_of : List Fact → List Instance
instances_of planned = in_order instance_key (flat_map needed_in planned)

-- where the dependencies of a manifest's feature lead
abbrev pub targets_in : Setting → Instance → List ℕ → Option (Result (Manifest Condition) Wrong) → List Instance
targets_in s i f None = []
targets_in s i f (Some (Err wrong)) = []
targets_in s i f (Some (Ok m)) = map (instance_of s (inst i)) (applicable_of s (inst i) f m)

-- where a planned visit of an instance leads: the instances of its applicable dependencies, but for itself
abbrev pub targets_at : Inputs → Instance → Fact → List Instance
targets_at inputs i (need who f) = []
targets_at inputs i (floor p a) = []
targets_at inputs i (visit j f a) = if same_instance j i then filter (λ k. not (same_instance k j)) (targets_in inputs.setting j f (manifest_at inputs.pages j.port a)) else []

-- the edges: what an instance depends on
abbrev pub targets_of : Inputs → List Fact → Instance → List Instance
targets_of inputs planned i = flat_map (targets_at inputs i) planned

-- no way along the edges from the instance is longer than n
abbrev pub is_within : (Instance → List Instance) → ℕ → Instance → Bool
is_within targets zero i = list_all (λ j. false) (targets i)
is_within targets (suc n) i = list_all (is_within targets n) (targets i)

-- the height: 0 without edges, else one more than the greatest height of a target
pub record HasHeight (targets : Instance → List Instance) (n : ℕ) (i : Instance) : Type 0 where
  pub within : is_within targets n i ≡ true
  pub no_lower : (m : ℕ) → m < n → is_within targets m i ≡ false

-- a feature list has `core` first, the others by their bytes
abbrev pub feature_key : List ℕ → Key
feature_key f = (if bytes_eq f core then [] else 0 ∷ []) ∷ f ∷ []

-- the feature of a need of the instance, but for `default`
abbrev pub feature_in : Instance → Fact → List (List ℕ)
feature_in i (need (root triplet) f) = []
feature_in i (need (inst j) f) = if same_instance j i && not (bytes_eq f default) then f ∷ [] else []
feature_in i (floor p a) = []
feature_in i (visit j f a) = []

-- the planned features of an instance, but for `default`
abbrev pub features_of : List Fact → Instance → List (List ℕ)
features_of planned i = in_order feature_key (flat_map (feature_in i) planned)

-- an item of the plan: an instance, its version, the line of its chosen floor, its features, and the places of what it depends on, from 0
pub record Item : Type 0 where
  pub instance : Instance
  pub version : Version
  pub line : ℕ
  pub features : List (List ℕ)
  pub needs : List ℕ

-- the places, from n on, of those that pass
abbrev pub places_from : {X : Type 0} → ℕ → (X → Bool) → List X → List ℕ
places_from n test [] = []
places_from n test (x ∷ xs) = if test x then n ∷ places_from (n + 1) test xs else places_from (n + 1) test xs

-- the item of an instance, in a plan whose instances are in this order
pub record IsItem (inputs : Inputs) (facts planned : List Fact) (order : List Instance) (item : Item) : Type 0 where
  pub version : chosen_of inputs facts item.instance.port ≡ Some item.version
  pub line : line_of facts (floor item.instance.port (ask_of item.version)) ≡ Some item.line
  pub features : item.features ≡ features_of planned item.instance
  pub needs : item.needs ≡ places_from 0 (λ j. list_any (same_instance j) (targets_of inputs planned item.instance)) order

-- one instance stands before another: by height, then by port and triplet
abbrev pub StandsBefore : (Instance → List Instance) → Instance → Instance → Type 0
StandsBefore targets i j = (m n : ℕ) → HasHeight targets m i → HasHeight targets n j → key_cmp ((m ∷ []) ∷ instance_key i) ((n ∷ []) ∷ instance_key j) ≡ Less

-- each instance stands before all that follow it
abbrev pub IsByHeight : (Instance → List Instance) → List Instance → Type 0
IsByHeight targets [] = Unit {0}
IsByHeight targets (i ∷ is) = ((j : Instance) → Contains is j → StandsBefore targets i j) × IsByHeight targets is

-- the instances of the items
abbrev pub order_of : List Item → List Instance
order_of items = map (λ item. item.instance) items

-- the plan: an item for each planned instance, in order; each has a height
pub record IsPlan (inputs : Inputs) (facts planned : List Fact) (items : List Item) : Type 0 where
  pub all : (i : Instance) → (Contains (order_of items) i → Contains (instances_of planned) i) × (Contains (instances_of planned) i → Contains (order_of items) i)
  pub heights : (i : Instance) → Contains (order_of items) i → (n : ℕ) × HasHeight (targets_of inputs planned) n i
  pub order : IsByHeight (targets_of inputs planned) (order_of items)
  pub each : (item : Item) → Contains items item → IsItem inputs facts planned (order_of items) item

-- there is a way of n edges
abbrev pub has_way : (Instance → List Instance) → ℕ → Instance → Instance → Bool
has_way targets zero i j = same_instance i j
has_way targets (suc n) i j = list_any (λ k. has_way targets n k j) (targets i)

-- a way leads back
abbrev pub IsOnCycle : (Instance → List Instance) → Instance → Type 0
IsOnCycle targets i = (n : ℕ) × (has_way targets (suc n) i i ≡ true)

-- the shortest way has n edges
pub record IsFrom (targets : Instance → List Instance) (n : ℕ) (i j : Instance) : Type 0 where
  pub way : has_way targets n i j ≡ true
  pub no_shorter : (m : ℕ) → m < n → has_way targets m i j ≡ false

-- the next of the walk: the least target among those from which the way back to the first is shortest
pub record IsNext (targets : Instance → List Instance) (first i j : Instance) : Type 0 where
  pub edge : Contains (targets i) j
  pub steps : ℕ
  pub back : IsFrom targets steps j first
  pub best : (k : Instance) (n : ℕ) → Contains (targets i) k → IsFrom targets n k first → key_cmp ((steps ∷ []) ∷ instance_key j) ((n ∷ []) ∷ instance_key k) ≢ Greater

-- the walk goes on from an instance, until it is back at the first
abbrev pub WalksOn : (Instance → List Instance) → Instance → Instance → List Instance → Type 0
WalksOn targets first i [] = IsNext targets first i first
WalksOn targets first i (j ∷ js) = (j ≢ first) × IsNext targets first i j × WalksOn targets first j js

-- the walk of the cycle that is told: it begins at the least planned instance on a cycle
pub record IsCycleFrom (targets : Instance → List Instance) (instances : List Instance) (first : Instance) (rest : List Instance) : Type 0 where
  pub planned : Contains instances first
  pub on_cycle : IsOnCycle targets first
  pub least : (i : Instance) → Contains instances i → IsOnCycle targets i → key_cmp (instance_key first) (instance_key i) ≢ Greater
  pub walk : WalksOn targets first first rest

-- the instances of the cycle that is told, from the first on
abbrev pub IsCycle : (Instance → List Instance) → List Instance → List Instance → Type 0
IsCycle targets instances [] = ⊥
IsCycle targets instances (first ∷ rest) = IsCycleFrom targets instances first rest
