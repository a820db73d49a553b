-- One step: what follows from one fact or from two, each with its cause.
use Rattle.std.specs.Prelude.{ℕ, Bool, false, not, ◌&&◌, List, [], ◌∷◌, map, flat_map, Option, Some, None, is_some, Result, Ok, Err, bytes_eq, if◌then◌else◌}
use Rattle.std.specs.List.{Contains}
use Rattle.vk_spec.specs.Versions.{Version, Ask, same_ask, ask_of, same_version}
use Rattle.vk_spec.specs.Manifests.{Manifest}
use Rattle.vk_spec.specs.Pages.{Wrong, Given, overlay, override, baseline, Row, row_in}
use Rattle.vk_spec.specs.Settings.{Setting, Instance}
use Rattle.vk_spec.specs.Conditions.{Condition}
use Rattle.vk_resolution.specs.Least.{Rules}
use Rattle.vk_resolution.specs.Settings.{root, inst}
use Rattle.vk_resolution.specs.Givens.{Pages, manifest_at, is_pinned}
use Rattle.vk_resolution.specs.Asking.{Fact, need, floor, visit, asked_of, root_facts_of}

-- what a plan is made from: the setting, the pages, and the order on versions (whether one is at most the other)
pub record Inputs : Type 0 where
  pub setting : Setting
  pub pages : Pages
  pub at_most : Version → Version → Bool

-- the one is at most the other, and isn't the same
abbrev pub is_below : Inputs → Version → Version → Bool
is_below inputs v w = inputs.at_most v w && not (same_version v w)

-- why a fact stands: it is a root fact, or it follows from the facts that are cited (C: facts, or the numbers of their lines)
pub data Cause (C : Type 0) : Type 0 where
  by_root : Cause C
  by_baseline : C → Cause C
  by_override : C → Cause C
  by_overlay : C → Cause C
  by_minimum : C → Cause C
  by_one : C → Cause C
  by_two : C → C → Cause C

-- a fact that follows, and why
pub record Step : Type 0 where
  pub fact : Fact
  pub cause : Cause Fact

-- the floor of the given version, from a need of the port
abbrev pub given_step : Fact → List ℕ → Result Given Wrong → List Step
given_step x p (Ok (overlay v)) = record { fact = floor p (ask_of v); cause = by_overlay x } ∷ []
given_step x p (Ok (override a)) = record { fact = floor p a; cause = by_override x } ∷ []
given_step x p (Ok (baseline a)) = record { fact = floor p a; cause = by_baseline x } ∷ []
given_step x p (Err wrong) = []

-- what a manifest asks: needs, and the floors of ports that aren't pinned
abbrev pub asked_step : Inputs → Fact → Fact → List Step
asked_step inputs x (need who f) = record { fact = need who f; cause = by_one x } ∷ []
asked_step inputs x (floor p a) = if is_pinned inputs.setting inputs.pages p then [] else record { fact = floor p a; cause = by_minimum x } ∷ []
asked_step inputs x (visit i f a) = []

-- what the manifest at a version asks, if it is there
abbrev pub asked_in : Setting → Instance → List ℕ → Option (Result (Manifest Condition) Wrong) → List Fact
asked_in s i f None = []
asked_in s i f (Some (Err wrong)) = []
asked_in s i f (Some (Ok m)) = asked_of s (inst i) f m

-- what a feature of an instance asks at a version, where its manifest is readable and agrees
abbrev pub asked_at : Inputs → Instance → List ℕ → Ask → List Fact
asked_at inputs i f a = asked_in inputs.setting i f (manifest_at inputs.pages i.port a)

-- from one fact: from a need of a port, its given version; from a need of the root or a visit, what the manifest asks
abbrev pub steps_from : Inputs → Fact → List Step
steps_from inputs (need (root triplet) f) = flat_map (asked_step inputs (need (root triplet) f)) (asked_of inputs.setting (root triplet) f inputs.setting.root)
steps_from inputs (need (inst i) f) = given_step (need (inst i) f) i.port (inputs.pages i.port).given
steps_from inputs (floor p a) = []
steps_from inputs (visit i f a) = flat_map (asked_step inputs (visit i f a)) (asked_at inputs i f a)

-- the row of the floor is not below that of the given version, and both are there
abbrev pub is_not_below : Inputs → Option (Row Condition) → Option (Row Condition) → Bool
is_not_below inputs None found = false
is_not_below inputs (Some given) None = false
is_not_below inputs (Some given) (Some row) = not (is_below inputs row.version given.version)

-- whether the version of a floor is looked at: of an overlay its own alone, of an override its own if the table has it, else each that isn't below the given one
abbrev pub is_visited_by : Inputs → List (Row Condition) → Ask → Result Given Wrong → Bool
is_visited_by inputs rows a (Ok (overlay v)) = same_ask a (ask_of v)
is_visited_by inputs rows a (Ok (override b)) = same_ask a b && is_some (row_in rows a)
is_visited_by inputs rows a (Ok (baseline b)) = is_not_below inputs (row_in rows b) (row_in rows a)
is_visited_by inputs rows a (Err wrong) = false

-- whether the version of a floor of a port is looked at
abbrev pub is_visited : Inputs → List ℕ → Ask → Bool
is_visited inputs p a = is_visited_by inputs (inputs.pages p).rows a (inputs.pages p).given

-- from two facts: from a need of an instance and a floor of its port, the visit
abbrev pub visits_from : Inputs → Fact → Fact → List Fact
visits_from inputs (need (inst i) f) (floor p a) = if bytes_eq p i.port && is_visited inputs p a then visit i f a ∷ [] else []
visits_from inputs (need (inst i) f) (need who g) = []
visits_from inputs (need (inst i) f) (visit j g a) = []
visits_from inputs (need (root triplet) f) y = []
visits_from inputs (floor p a) y = []
visits_from inputs (visit i f a) y = []

-- a fact follows by a cause from the facts that it cites
abbrev pub FollowsBy : Inputs → Cause Fact → Fact → Type 0
FollowsBy inputs by_root x = Contains (root_facts_of inputs.setting) x
FollowsBy inputs (by_baseline a) x = Contains (steps_from inputs a) (record { fact = x; cause = by_baseline a })
FollowsBy inputs (by_override a) x = Contains (steps_from inputs a) (record { fact = x; cause = by_override a })
FollowsBy inputs (by_overlay a) x = Contains (steps_from inputs a) (record { fact = x; cause = by_overlay a })
FollowsBy inputs (by_minimum a) x = Contains (steps_from inputs a) (record { fact = x; cause = by_minimum a })
FollowsBy inputs (by_one a) x = Contains (steps_from inputs a) (record { fact = x; cause = by_one a })
FollowsBy inputs (by_two a b) x = Contains (visits_from inputs a b) x

-- the rules of requirement
abbrev pub rules_of : Inputs → Rules Fact
rules_of inputs = record {
  roots = root_facts_of inputs.setting;
  alone = λ a. map (λ step. step.fact) (steps_from inputs a);
  together = visits_from inputs;
}
