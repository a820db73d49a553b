-- What contracts see of a worklist: its maps as lists of reasons, and how one level follows another.
use Rattle.std.specs.Prelude.{◌≡◌, ◌++◌, List, [], map}
use Rattle.std.specs.List.{Contains}
use Rattle.vk_spec.specs.Lists.{NoRepeats, IsWithin}
use Rattle.vk_spec.specs.Settings.{Setting}
use Rattle.vk_resolution.specs.Keys.{Ascends}
use Rattle.vk_resolution.specs.Asking as plain
use Rattle.vk_resolution.specs.Asking.{root_facts_of}
use Rattle.vk_resolution.specs.Consequences.{by_root}
use Rattle.vk_resolution.specs.Reasons.{Reason, facts_of}
use Rattle.vk_resolution.specs.Closing.{NotesReasons}
use Rattle.vk_model.specs.declared.facts.Fact.{Fact}
use Rattle.vk_model.specs.declared.reasons.Cause.{Cause}
use Rattle.vk_model.specs.FactViews.{fact_view, cause_view}

abbrev pub reason_of : Fact × Cause → Reason
reason_of e = record { fact = fact_view e.0; cause = cause_view e.1 }

-- the entries of a map, or a list of pairs, as reasons
abbrev pub reasons_in : List (Fact × Cause) → List Reason
reasons_in = map reason_of

abbrev pub facts_in : List (Fact × Cause) → List plain.Fact
facts_in es = facts_of (reasons_in es)

-- the given facts are the root facts, and that is their cause
pub record AreRoots (setting : Setting) (given : List Reason) : Type 0 where
  pub facts : facts_of given ≡ root_facts_of setting
  pub causes : (r : Reason) → Contains given r → r.cause ≡ by_root

-- what was brought up and stood nowhere stands behind the old entries, each fact once with the cause that came first
pub record IsNoted (old brought new : List (Fact × Cause)) : Type 0 where
  pub more : List (Fact × Cause)
  pub behind : new ≡ old ++ more
  pub noted : NotesReasons (facts_in old) (reasons_in brought) [] (reasons_in more)

-- the fresh reasons, in order, stand behind the lines
pub record IsNextLevel (lines fresh new : List Reason) : Type 0 where
  pub sorted : List Reason
  pub behind : new ≡ lines ++ sorted
  pub to : IsWithin fresh sorted
  pub from : IsWithin sorted fresh
  pub distinct : NoRepeats (facts_of sorted)
  pub ascends : Ascends plain.fact_key (facts_of sorted)

-- the given reasons, in order, are the lines, each fact once
pub record IsFirstLevel (given lines : List Reason) : Type 0 where
  pub to : IsWithin (facts_of lines) (facts_of given)
  pub from : IsWithin (facts_of given) (facts_of lines)
  pub distinct : NoRepeats (facts_of lines)
  pub ascends : Ascends plain.fact_key (facts_of lines)
  pub causes : IsWithin lines given
