-- What contracts see of lists of facts: the needs among them, and those of the root.
use Rattle.std.specs.Prelude.{ℕ, List, map, filter}
use Rattle.vk_resolution.specs.Settings.{root}
use Rattle.vk_resolution.specs.Asking as plain
use Rattle.vk_resolution.specs.Asking.{need}
use Rattle.vk_resolution.specs.Planning.{is_need}
use Rattle.vk_model.specs.declared.facts.Fact.{Fact}
use Rattle.vk_model.specs.FactViews.{fact_view}

abbrev pub facts_view : List Fact → List plain.Fact
facts_view = map fact_view

-- the needs among these facts
abbrev pub needs_in : List Fact → List plain.Fact
needs_in facts = filter is_need (facts_view facts)

-- the need of a feature of the root
abbrev pub root_need : List ℕ → List ℕ → plain.Fact
root_need triplet f = need (root triplet) f

abbrev pub root_needs : List ℕ → List (List ℕ) → List plain.Fact
root_needs triplet = map (root_need triplet)
