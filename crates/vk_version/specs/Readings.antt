-- Which texts are versions under a scheme, which are asks, and the fault of every other text.
use Rattle.std.specs.Prelude.{◌≡◌, ℕ, ◌^◌, ◌&&◌, not, nat_lt, Bool, List, Option, Some, None}
use Rattle.std.specs.Prelude.{Result, Ok, Err, if◌then◌else◌}
use Rattle.std.specs.List.{list_any, before_first, after_first}
use Rattle.std.specs.Result.{is_ok}
use Rattle.semver.specs.Parse.{version_parts}
use Rattle.vk_spec.specs.Reading.{◌>>=◌}
use Rattle.vk_spec.specs.Versions.{Class, Version, Ask}
use Rattle.vk_spec.specs.Versions as plain
use Rattle.vk_version.specs.declared.faults.VersionFault.{VersionFault}
use Rattle.vk_version.specs.declared.faults.VersionFault.TheVariants as fault
use Rattle.vk_version.specs.Schemes.{Scheme}
use Rattle.vk_version.specs.Schemes as the
use Rattle.vk_version.specs.Texts.{is_relaxed, numbers_in, all_fit, core_of, is_dated, day_of}
use Rattle.vk_version.specs.Texts.{later_numbers, has_day, is_plain, is_hash, is_number, number_of}

-- the class of a scheme's versions
abbrev pub class_of : Scheme → Class
class_of the.relaxed = plain.dot
class_of the.semver = plain.dot
class_of the.date = plain.date
class_of the.string = plain.text

-- a fault, unless this holds
abbrev pub fault_unless : VersionFault → Bool → Option VersionFault
fault_unless wrong holds = if holds then None else Some wrong

-- a value, or the fault that there is
abbrev pub unless : {A : Type 0} → Option VersionFault → A → Result A VersionFault
unless None x = Ok x
unless (Some wrong) x = Err wrong

-- numbers joined by dots, a pre-release and build metadata: first the form, then how large the
-- numbers are
abbrev pub relaxed_fault : List ℕ → Option VersionFault
relaxed_fault text =
    if is_relaxed text then fault_unless fault.Number (all_fit (numbers_in (core_of text)))
    else Some fault.Shape

-- what the standard's reader takes
abbrev pub semver_fault : List ℕ → Option VersionFault
semver_fault text = fault_unless fault.Shape (is_ok (version_parts text))

-- a day and numbers: first the form, then the day, then how large the numbers are
abbrev pub date_fault : List ℕ → Option VersionFault
date_fault text =
    if not (is_dated text) then Some fault.Shape
    else if not (has_day (day_of text)) then Some fault.Day
    else fault_unless fault.Number (all_fit (later_numbers text))

-- any text without control characters and without a hash
abbrev pub string_fault : List ℕ → Option VersionFault
string_fault text = fault_unless fault.Shape (is_plain text && not (list_any is_hash text))

-- the fault of a text under a scheme, or none
abbrev pub fault_under : Scheme → List ℕ → Option VersionFault
fault_under the.relaxed text = relaxed_fault text
fault_under the.semver text = semver_fault text
fault_under the.date text = date_fault text
fault_under the.string text = string_fault text

-- the version that a text is under a scheme
abbrev pub reads_version : Scheme → List ℕ → ℕ → Result Version VersionFault
reads_version scheme text port =
    unless (fault_under scheme text) (record { class = class_of scheme; text = text; port = port })

-- some scheme reads it
pub record IsVersion (v : Version) : Type 0 where
  pub scheme : Scheme
  pub reads : reads_version scheme v.text v.port ≡ Ok v

-- a port-version after a hash: a number without leading zeros, of 32 bits
abbrev pub port_fault : List ℕ → Option VersionFault
port_fault digits =
    if not (is_number digits) then Some fault.Shape
    else fault_unless fault.Number (nat_lt (number_of digits) (2 ^ 32))

-- the port-version of an ask: what stands after its first hash, or 0 without one
abbrev pub reads_port : List ℕ → Result ℕ VersionFault
reads_port text =
    if list_any is_hash text then unless (port_fault (after_first is_hash text))
    (number_of (after_first is_hash text))
    else Ok 0

-- an ask: what stands before the first hash, which is all of the text without one, and the
-- port-version
abbrev pub reads_ask : List ℕ → Result Ask VersionFault
reads_ask text =
    if not (is_plain (before_first is_hash text)) then Err fault.Shape
    else (reads_port text >>= λ port. Ok (record { text = before_first is_hash text; port = port }))
