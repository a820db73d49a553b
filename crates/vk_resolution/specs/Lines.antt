-- What is printed: faults, items of the plan, facts with their causes, and the whole report of an outcome.
use Rattle.std.specs.Prelude.{◌+◌, ◌++◌, ℕ, List, [], ◌∷◌, map, flat_map, length, Option, Some, None, codes, decimal}
use Rattle.std.specs.List.{join_with_byte}
use Rattle.vk_spec.specs.Versions.{Version, ask_of}
use Rattle.vk_base.specs.Tokens.{token_of}
use Rattle.vk_base.specs.Printed.{version_text, path_text, field_word}
use Rattle.vk_json.specs.Places.{file_line}
use Rattle.vk_resolution.specs.Settings.{Who, root, inst}
use Rattle.vk_resolution.specs.Asking.{Fact, need, floor, visit}
use Rattle.vk_resolution.specs.Consequences.{Cause, by_root, by_baseline, by_override, by_overlay, by_minimum, by_one, by_two}
use Rattle.vk_resolution.specs.Reasons.{Reason}
use Rattle.vk_resolution.specs.Planning.{Item}
use Rattle.vk_resolution.specs.Faults.{Trouble, lacks_registry, lacks_baseline, unreadable, lacks_version, differs, Fault, troubled, conflicts, lacks_feature, isnt_supported, has_cycle}
use Rattle.vk_resolution.specs.Outcomes.{Outcome, planned, refused}

-- the number of a reason that is cited
abbrev pub citing_line : ℕ → List ℕ
citing_line n = codes " " ++ decimal n

-- a port and a triplet; the root is `.`
abbrev pub who_text : Who → List ℕ
who_text (root triplet) = codes ". " ++ token_of triplet
who_text (inst i) = token_of i.port ++ codes " " ++ token_of i.triplet

-- a version; the root has none
abbrev pub version_or_none : Option Version → List ℕ
version_or_none None = codes "-"
version_or_none (Some v) = version_text (ask_of v)

-- ---- faults

-- what is wrong with files
abbrev pub trouble_text : Trouble → List ℕ
trouble_text (lacks_registry p) = codes "no-registry " ++ token_of p
trouble_text (lacks_baseline p) = codes "no-baseline " ++ token_of p
trouble_text (unreadable path place word) = file_line path place word
trouble_text (lacks_version p a) = codes "no-version " ++ token_of p ++ codes " " ++ version_text a
trouble_text (differs path field row manifest) = codes "disagrees " ++ path_text path ++ codes " " ++ field_word field ++ codes " " ++ token_of row ++ codes " " ++ token_of manifest

-- a need, and the version that it is judged by
abbrev pub judged_text : Who → List ℕ → Option Version → List ℕ
judged_text who f v = who_text who ++ codes " " ++ token_of f ++ codes " " ++ version_or_none v

-- the line of a fault
abbrev pub fault_line : Fault → List ℕ
fault_line (troubled t n) = trouble_text t ++ citing_line n
fault_line (conflicts p v n w m) = codes "conflict " ++ token_of p ++ codes " " ++ version_text (ask_of v) ++ citing_line n ++ codes " " ++ version_text (ask_of w) ++ citing_line m
fault_line (lacks_feature who f v n) = codes "no-feature " ++ judged_text who f v ++ citing_line n
fault_line (isnt_supported who f v n) = codes "unsupported " ++ judged_text who f v ++ citing_line n
fault_line (has_cycle walk) = codes "cycle" ++ flat_map (λ i. codes " " ++ who_text (inst i)) walk

-- ---- reasons

abbrev pub fact_text : Fact → List ℕ
fact_text (need who f) = codes "need " ++ who_text who ++ codes " " ++ token_of f
fact_text (floor p a) = codes "floor " ++ token_of p ++ codes " " ++ version_text a
fact_text (visit i f a) = codes "visit " ++ who_text (inst i) ++ codes " " ++ token_of f ++ codes " " ++ version_text a

-- the word of a cause, and the lines that it cites
abbrev pub cause_text : Cause ℕ → List ℕ
cause_text by_root = codes "root"
cause_text (by_baseline n) = codes "baseline" ++ citing_line n
cause_text (by_override n) = codes "override" ++ citing_line n
cause_text (by_overlay n) = codes "overlay" ++ citing_line n
cause_text (by_minimum n) = codes "minimum" ++ citing_line n
cause_text (by_one n) = codes "from" ++ citing_line n
cause_text (by_two n m) = codes "from" ++ citing_line n ++ citing_line m

abbrev pub reason_text : Reason → List ℕ
reason_text r = fact_text r.fact ++ codes " " ++ cause_text r.cause

-- ---- the report

-- a port, its triplet and version, the line of its chosen floor, and its features, joined by commas
abbrev pub item_text : Item → List ℕ
item_text item = who_text (inst item.instance) ++ codes " " ++ version_text (ask_of item.version) ++ citing_line item.line ++ codes " " ++ join_with_byte 44 (map token_of item.features)

-- a line, ended
abbrev pub ended : List ℕ → List ℕ
ended text = text ++ codes "\n"

-- lines, each with its number in front, from n on
abbrev pub numbered_lines : {X : Type 0} → (X → List ℕ) → ℕ → List X → List ℕ
numbered_lines text n [] = []
numbered_lines text n (x ∷ xs) = ended (decimal n ++ codes " " ++ text x) ++ numbered_lines text (n + 1) xs

-- a word and how many lines follow
abbrev pub counted : {X : Type 0} → List ℕ → List X → List ℕ
counted word xs = ended (word ++ codes " " ++ decimal (length xs))

-- the reasons, and the last line
abbrev pub reasons_text : List Reason → List ℕ
reasons_text reasons = counted (codes "reasons") reasons ++ numbered_lines reason_text 1 reasons ++ codes "end\n"

-- the report of an outcome
abbrev pub report_text : Outcome → List ℕ
report_text (planned items reasons) = codes "vcpkg-plan 1\nstatus planned\n" ++ counted (codes "plan") items ++ numbered_lines item_text 1 items ++ reasons_text reasons
report_text (refused faults reasons) = codes "vcpkg-plan 1\nstatus refused\n" ++ counted (codes "faults") faults ++ flat_map (λ f. ended (fault_line f)) faults ++ reasons_text reasons
