-- The definitions computed: rounds that end in the least list, and from it the outcome.
use Rattle.std.specs.Prelude.{ℕ, zero, suc, Bool, true, false, not, ◌&&◌, List, [], ◌∷◌, ◌++◌, map, filter, flat_map, filter_map, Option, Some, None, option_map, option_and_then, is_some, length, if◌then◌else◌}
use Rattle.std.specs.List.{list_any, list_all, find}
use Rattle.vk_spec.specs.Versions.{ask_of}
use Rattle.vk_resolution.specs.Keys.{Key, same_key, in_order}
use Rattle.vk_resolution.specs.Least.{Rules}
use Rattle.vk_spec.specs.Manifests.{Dependency}
use Rattle.vk_spec.specs.Conditions.{Condition}
use Rattle.vk_spec.specs.Settings.{Setting, Instance}
use Rattle.vk_resolution.specs.Settings.{root, same_instance, root_rules_of, applicable_of, instance_of, is_own}
use Rattle.vk_resolution.specs.Asking.{Fact, floor, fact_key}
use Rattle.vk_resolution.specs.Consequences.{Inputs, rules_of}
use Rattle.vk_resolution.specs.Choices.{chosen_of}
use Rattle.vk_resolution.specs.Reasons.{Reason, cause_of, line_of}
use Rattle.vk_resolution.specs.Planning.{planned_rules_of, instance_key, instances_of, targets_of, is_within, features_of, places_from, Item, has_way}
use Rattle.vk_resolution.specs.Faults.{has_cycle, first_faults_of, second_faults_of, third_faults_of}
use Rattle.vk_resolution.specs.Outcomes.{Printing, lines_of, Outcome, planned, refused}

-- whether a list is empty
abbrev pub is_nothing : {X : Type 0} → List X → Bool
is_nothing [] = true
is_nothing (x ∷ xs) = false

-- whether a list has a thing of this key
abbrev pub has_key : {X : Type 0} → (X → Key) → List X → X → Bool
has_key key xs x = list_any (λ y. same_key (key x) (key y)) xs

-- what follows from the listed facts
abbrev pub following : {X : Type 0} → Rules X → List X → List X
following rules facts = flat_map rules.alone facts ++ flat_map (λ a. flat_map (rules.together a) facts) facts

-- what follows and isn't listed, in order
abbrev pub new_from : {X : Type 0} → Rules X → (X → Key) → List X → List X
new_from rules key facts = in_order key (filter (λ x. not (has_key key facts x)) (following rules facts))

-- the facts and what follows from them
abbrev pub next_round : {X : Type 0} → Rules X → (X → Key) → List X → List X
next_round rules key facts = facts ++ new_from rules key facts

-- the facts of ranks up to n, in order
abbrev pub round : {X : Type 0} → Rules X → (X → Key) → ℕ → List X
round rules key zero = in_order key rules.roots
round rules key (suc n) = next_round rules key (round rules key n)

-- the list, where nothing new follows from it
abbrev pub if_closed : {X : Type 0} → Rules X → (X → Key) → List X → Option (List X)
if_closed rules key facts = if is_nothing (new_from rules key facts) then Some facts else None

-- all of them, where each is there
abbrev pub all_some : {X Y : Type 0} → (X → Option Y) → List X → Option (List Y)
all_some f [] = Some []
all_some f (x ∷ xs) = option_and_then (λ y. option_map (λ ys. y ∷ ys) (all_some f xs)) (f x)

-- each fact with its cause, where each has one
abbrev pub reasons_by : Inputs → List Fact → Option (List Reason)
reasons_by inputs facts = all_some (λ x. option_map (λ c. record { fact = x; cause = c }) (cause_of inputs facts x)) facts

-- the least number below n that passes, from m on
abbrev pub least_from : ℕ → ℕ → (ℕ → Bool) → Option ℕ
least_from m zero test = None
least_from m (suc n) test = if test m then Some m else least_from (suc m) n test

-- a thing with a number in front
abbrev pub Numbered : Type 0
Numbered = ℕ × Instance

-- the order of such things: by number, then by port and triplet
abbrev pub numbered_key : Numbered → Key
numbered_key p = (p.0 ∷ []) ∷ instance_key p.1

-- an instance with its height, if that is below n
abbrev pub with_height : (Instance → List Instance) → ℕ → Instance → Option Numbered
with_height targets n i = option_map (λ h. (h, i)) (least_from 0 n (λ h. is_within targets h i))

-- the instances by height, port and triplet, where each has a height below n
abbrev pub order_by : (Instance → List Instance) → ℕ → List Instance → Option (List Instance)
order_by targets n instances = option_map (λ ps. map (λ (p : Numbered). p.1) (in_order numbered_key ps)) (all_some (with_height targets n) instances)

-- the item of an instance, where it has a version and a line
abbrev pub item_by : Inputs → List Fact → List Fact → List Instance → Instance → Option Item
item_by inputs facts chosen order i =
    option_and_then (λ v. option_map (λ n. record {
      instance = i;
      version = v;
      line = n;
      features = features_of chosen i;
      needs = places_from 0 (λ j. list_any (same_instance j) (targets_of inputs chosen i)) order;
    }) (line_of facts (floor i.port (ask_of v)))) (chosen_of inputs facts i.port)

-- whether a way of at most n edges leads back
abbrev pub on_cycle_within : (Instance → List Instance) → ℕ → Instance → Bool
on_cycle_within targets n i = is_some (least_from 0 n (λ k. has_way targets (suc k) i i))

-- the first listed instance on a cycle of at most as many edges as there are instances
abbrev pub first_on_cycle : (Instance → List Instance) → List Instance → Option Instance
first_on_cycle targets instances = find (on_cycle_within targets (length instances)) instances

-- a target with the length of its shortest way back
abbrev pub with_way : (Instance → List Instance) → ℕ → Instance → Instance → Option Numbered
with_way targets n first j = option_map (λ k. (k, j)) (least_from 0 n (λ k. has_way targets k j first))

-- the first of a list
abbrev pub head_of : {X : Type 0} → List X → Option X
head_of [] = None
head_of (x ∷ xs) = Some x

-- the next of the walk, with the length of its way back
abbrev pub next_by : (Instance → List Instance) → ℕ → Instance → Instance → Option Numbered
next_by targets n first i = head_of (in_order numbered_key (filter_map (with_way targets n first) (targets i)))

-- the walk from an instance, until it is back at the first
abbrev pub walk_by : (Instance → List Instance) → ℕ → Instance → ℕ → Instance → Option (List Instance)
walk_by targets n first zero i = None
walk_by targets n first (suc m) i =
    option_and_then (λ (p : Numbered). let rest = walk_by targets n first m p.1 in if same_instance p.1 first then Some [] else option_map (λ js. p.1 ∷ js) rest) (next_by targets n first i)

-- the cycle that is told
abbrev pub cycle_by : (Instance → List Instance) → List Instance → Option (List Instance)
cycle_by targets instances =
    option_and_then (λ first. option_map (λ js. first ∷ js) (walk_by targets (length instances) first (length instances) first)) (first_on_cycle targets instances)

-- a plan where there is an order, else the cycle
abbrev pub order_or_cycle : Inputs → List Fact → List Fact → List Reason → Option (List Instance) → Option Outcome
order_or_cycle inputs facts chosen reasons None = option_map (λ walk. refused (has_cycle walk ∷ []) reasons) (cycle_by (targets_of inputs chosen) (instances_of chosen))
order_or_cycle inputs facts chosen reasons (Some order) = option_map (λ items. planned items reasons) (all_some (item_by inputs facts chosen order) order)

-- the plan or the fault of the fourth phase
abbrev pub plan_by : Inputs → List Fact → List Fact → List Reason → Option Outcome
plan_by inputs facts chosen reasons = order_or_cycle inputs facts chosen reasons (order_by (targets_of inputs chosen) (length (instances_of chosen)) (instances_of chosen))

-- the third phase, then the plan
abbrev pub third_by : Inputs → Printing → List Fact → List Reason → List Fact → Option Outcome
third_by inputs bytes facts reasons chosen =
    if is_nothing (third_faults_of inputs facts chosen) then plan_by inputs facts chosen reasons else Some (refused (lines_of bytes (third_faults_of inputs facts chosen)) reasons)

-- the second phase, then the third
abbrev pub second_by : Inputs → Printing → ℕ → List Fact → List Reason → Option Outcome
second_by inputs bytes n facts reasons =
    if is_nothing (second_faults_of inputs facts) then option_and_then (third_by inputs bytes facts reasons) (if_closed (planned_rules_of inputs facts) fact_key (round (planned_rules_of inputs facts) fact_key n))
    else Some (refused (lines_of bytes (second_faults_of inputs facts)) reasons)

-- the first phase, then the second
abbrev pub first_by : Inputs → Printing → ℕ → List Fact → List Reason → Option Outcome
first_by inputs bytes n facts reasons =
    if is_nothing (first_faults_of inputs facts) then second_by inputs bytes n facts reasons else Some (refused (lines_of bytes (first_faults_of inputs facts)) reasons)

-- the outcome, where n rounds are enough
abbrev pub outcome_by : Inputs → Printing → ℕ → Option Outcome
outcome_by inputs bytes n =
    option_and_then (λ facts. option_and_then (first_by inputs bytes n facts) (reasons_by inputs facts)) (if_closed (rules_of inputs) fact_key (round (rules_of inputs) fact_key n))

-- the root's applicable dependencies on others, of these features
abbrev pub named_by : Setting → List (List ℕ) → List (Dependency Condition)
named_by s features = filter (λ d. not (is_own s (root s.target.name) (instance_of s (root s.target.name) d))) (flat_map (λ f. applicable_of s (root s.target.name) f s.root) features)

-- the instances that are off, where these are the root's asked features
abbrev pub off_by : Setting → List (List ℕ) → List Instance
off_by s features =
    filter (λ j. list_all (λ d. not (same_instance (instance_of s (root s.target.name) d) j && d.defaults)) (named_by s features)) (map (instance_of s (root s.target.name)) (named_by s features))

-- features by their names
abbrev pub name_key : List ℕ → Key
name_key f = f ∷ []

-- the instances that are off, where n rounds are enough to find the root's asked features
abbrev pub off_list_by : Setting → ℕ → Option (List Instance)
off_list_by s n = option_map (off_by s) (if_closed (root_rules_of s) name_key (round (root_rules_of s) name_key n))
