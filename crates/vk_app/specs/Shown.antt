-- What a run shows: its status, and the bytes on both sinks.
use Rattle.std.specs.Prelude.{◌++◌, ℕ, List, [], Err, Ok, codes, decimal}
use Rattle.vk_base.specs.declared.limits.Limit.{Limit}
use Rattle.vk_base.specs.declared.limits.Limit.TheVariants as limit
use Rattle.vk_resolution.specs.Outcomes.{Outcome, planned, refused}
use Rattle.vk_words.specs.FaultTexts.{fault_text_of}
use Rattle.vk_words.specs.declared.faults.WordFault.{WordFault}
use Rattle.vk_report.specs.Reports.{whole_report}
use Rattle.vk_app.specs.Resolutions.{Resolution, early, resolved, too_many}

pub record Shown : Type 0 where
  pub status : ℕ
  pub out : List ℕ
  pub err : List ℕ

-- a line on `err` and nothing on `out`
abbrev pub told : ℕ → List ℕ → Shown
told status line = record { status = status; out = []; err = line }

-- bytes on `out` and nothing on `err`
abbrev pub printed : ℕ → List ℕ → Shown
printed status bytes = record { status = status; out = bytes; err = [] }

abbrev pub words_line : WordFault → List ℕ
words_line fault = codes "words: " ++ fault_text_of fault ++ codes "\n"

abbrev pub memory_line : List ℕ
memory_line = codes "memory\n"

abbrev pub tree_line : List ℕ
tree_line = codes "tree failed\n"

abbrev pub output_line : List ℕ
output_line = codes "output failed\n"

-- the name of what may not grow without bound
abbrev pub limit_name : Limit → List ℕ
limit_name (limit.Facts n) = codes "facts"
limit_name limit.Entries = codes "entries"
limit_name limit.Files = codes "files"
limit_name limit.Depth = codes "depth"
limit_name (limit.Bytes n) = codes "bytes"
limit_name limit.Tmp = codes "tmp"
limit_name limit.Damaged = codes "damaged"

-- how much of it there may be
abbrev pub limit_number : Limit → ℕ
limit_number (limit.Facts n) = n
limit_number limit.Entries = 100000
limit_number limit.Files = 1000000
limit_number limit.Depth = 64
limit_number (limit.Bytes n) = n
limit_number limit.Tmp = 10000
limit_number limit.Damaged = 10000

abbrev pub limit_line : Limit → List ℕ
limit_line l = codes "limit " ++ limit_name l ++ codes " " ++ decimal (limit_number l) ++ codes "\n"

-- 0 for a plan, 1 for a refusal
abbrev pub outcome_status : Outcome → ℕ
outcome_status (planned items reasons) = 0
outcome_status (refused lines reasons) = 1

-- the report, or that there are too many requirements
abbrev pub shown_for : Resolution → Shown
shown_for (early e) = printed 1 (whole_report (Err e))
shown_for (resolved o) = printed (outcome_status o) (whole_report (Ok o))
shown_for (too_many most) = told 6 (limit_line (limit.Facts most))
