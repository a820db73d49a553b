-- A report that is checked, and what is shown of it.
use Rattle.std.specs.Prelude.{◌≡◌, ◌++◌, ℕ, List, [], length, nat_lt, Option, Some, None, Result, Ok, Err, codes, decimal, if◌then◌else◌}
use Rattle.std.specs.FinMap as files_map
use Rattle.vk_spec.specs.Paths.{Path}
use Rattle.vk_spec.specs.Files.{Files}
use Rattle.vk_spec.specs.Earlies.{Early, bad_file}
use Rattle.vk_resolution.specs.Outcomes.{Outcome}
use Rattle.vk_model.specs.Lines.{early_line}
use Rattle.vk_report.specs.Reports.{whole_report}
use Rattle.vk_files.specs.Kept.{Seen, absent, too_large, holds}
use Rattle.vk_check.specs.Verdicts.{IsVerdict}
use Rattle.vk_check.specs.declared.verdicts.Verdict.{Verdict}
use Rattle.vk_check.specs.declared.verdicts.Verdict.TheVariants.{Yes, No}
use Rattle.vk_app.specs.Resolutions.{Resolution, early, resolved, too_many}
use Rattle.vk_app.specs.Shown.{Shown, printed, shown_for}

-- the longest report that is read, in bytes
abbrev pub most_report : ℕ
most_report = 268435456

-- what stands where the report is
abbrev pub report_in : Option (List ℕ) → Seen
report_in None = absent
report_in (Some bytes) = if nat_lt most_report (length bytes) then too_large else holds bytes

abbrev pub report_at : Path → Files → Seen
report_at path files = report_in (files_map.get files path)

-- the line with which all begins that a check prints
abbrev pub check_head : List ℕ
check_head = codes "vcpkg-check 1\n"

-- there is no report at the path, for the reason that a word tells
abbrev pub no_report : Path → List ℕ → List ℕ
no_report path word = check_head ++ early_line (bad_file path [] word) ++ codes "\n"

-- behind the number of a line: the wanted line, or that none is wanted
abbrev pub wanted_line : Option (List ℕ) → List ℕ
wanted_line None = codes "\nwant-nothing\n"
wanted_line (Some line) = codes "\nwant " ++ line ++ codes "\n"

-- yes, or the first line that differs and the wanted one
abbrev pub verdict_shown : Verdict → Shown
verdict_shown Yes = printed 0 (check_head ++ codes "yes\n")
verdict_shown (No line want) = printed 1 (check_head ++ codes "no " ++ decimal line ++ wanted_line want)

-- what is shown of bytes in place of the wanted report
abbrev pub ShowsVerdict : List ℕ → Result Outcome Early → Shown → Type 0
ShowsVerdict bytes wanted shown = (verdict : Verdict) × IsVerdict bytes (whole_report wanted) verdict × (shown ≡ verdict_shown verdict)

-- against the report of what a project comes to; a limit that is passed stands in its place
abbrev pub ShowsAgainst : List ℕ → Resolution → Shown → Type 0
ShowsAgainst bytes (early e) shown = ShowsVerdict bytes (Err e) shown
ShowsAgainst bytes (resolved o) shown = ShowsVerdict bytes (Ok o) shown
ShowsAgainst bytes (too_many n) shown = shown ≡ shown_for (too_many n)

-- a report that isn't there, or is too long, is told before what the project comes to
abbrev pub ShowsSeen : Path → Seen → Resolution → Shown → Type 0
ShowsSeen path absent r shown = shown ≡ printed 1 (no_report path (codes "absent"))
ShowsSeen path too_large r shown = shown ≡ printed 1 (no_report path (codes "large"))
ShowsSeen path (holds bytes) r shown = ShowsAgainst bytes r shown

-- what is shown of the report at a path, where the project comes to this
abbrev pub ShowsCheck : Path → Files → Resolution → Shown → Type 0
ShowsCheck path files r shown = ShowsSeen path (report_at path files) r shown
