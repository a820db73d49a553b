-- A version under one of its four keys, with the port-version beside it.
use Rattle.std.specs.Prelude.{ℕ, Bool, false, List, [], ◌∷◌, Option, Some, None, Result, Ok, Err}
use Rattle.std.specs.Prelude.{codes, if◌then◌else◌}
use Rattle.std.specs.List.{filter}
use Rattle.std.specs.Option.{is_some}
use Rattle.serde_json.specs.Data.{Data}
use Rattle.serde_json.specs.Find.{get}
use Rattle.vk_spec.specs.Reading.{◌>>=◌, or_fault}
use Rattle.vk_spec.specs.Versions.{Version, Ask}
use Rattle.vk_version.specs.Schemes.{Scheme, relaxed, semver, date, string}
use Rattle.vk_version.specs.Readings.{reads_version}
use Rattle.vk_json.specs.declared.faults.FileFault.{FileFault}
use Rattle.vk_json.specs.declared.faults.Why.TheVariants as why
use Rattle.vk_json.specs.Places.{here, at_member}
use Rattle.vk_json.specs.Readings.{Reading, number_at, wanted, optional, optional_or}
use Rattle.vk_fields.specs.declared.versions.VersionKeys.{VersionKeys}
use Rattle.vk_fields.specs.Wording.{version_word}
use Rattle.vk_fields.specs.Texts.{WrittenAsk, by_rule, plain_at, written_at}

-- the key of a scheme
abbrev pub key_of : Scheme → List ℕ
key_of relaxed = codes "version"
key_of semver = codes "version-semver"
key_of date = codes "version-date"
key_of string = codes "version-string"

-- the schemes whose keys are there, in the order in which they are looked for
abbrev pub schemes_in : Data → List Scheme
schemes_in d =
    filter (λ scheme. is_some (get (key_of scheme) d)) (relaxed ∷ semver ∷ date ∷ string ∷ [])

-- at most one of them: a second one is the fault, at its key
abbrev pub only_scheme : List Scheme → Result (Option Scheme) FileFault
only_scheme [] = Ok None
only_scheme (scheme ∷ []) = Ok (Some scheme)
only_scheme (scheme ∷ second ∷ rest) = Err (at_member (key_of second) why.TwoVersions)

-- the scheme of the one version key, if there is one
abbrev pub scheme_in : Reading (Option Scheme)
scheme_in d = only_scheme (schemes_in d)

abbrev pub after_found : Option Scheme → Scheme → Result (Option Scheme) FileFault
after_found None next = Ok (Some next)
after_found (Some found) next = Err (at_member (key_of next) why.TwoVersions)

-- which of the four keys are there
abbrev pub has_key : VersionKeys → Scheme → Bool
has_key keys relaxed = keys.relaxed
has_key keys semver = keys.semver
has_key keys date = keys.date
has_key keys string = keys.text

abbrev pub no_keys : VersionKeys
no_keys = record { relaxed = false; semver = false; date = false; text = false }

-- the same scheme by scheme: the one found so far, and the next one
abbrev pub next_scheme : (Scheme → Bool) → Option Scheme → Scheme → Result (Option Scheme) FileFault
next_scheme there found next = if there next then after_found found next else Ok found

unfoldable pub scheme_by : (Scheme → Bool) → Result (Option Scheme) FileFault
scheme_by there = do
  first ← next_scheme there None relaxed
  second ← next_scheme there first semver
  third ← next_scheme there second date
  next_scheme there third string

-- the scheme of the one version key that has to be there
abbrev pub scheme_needed : Reading Scheme
scheme_needed d = scheme_in d >>= or_fault (here why.NoVersion)

-- the port-version, 0 where there is none
abbrev pub port_version_at : Reading ℕ
port_version_at = optional_or 0 number_at (codes "port-version")

-- a version's text, read without a port-version
abbrev pub version_text_at : Scheme → Reading Version
version_text_at scheme = by_rule version_word (λ text. reads_version scheme text 0)

-- the version under the key of a scheme, with the port-version beside it
unfoldable pub version_under : Scheme → Reading Version
version_under scheme d = do
  version ← wanted (version_text_at scheme) (key_of scheme) d
  port ← port_version_at d
  Ok (record version { port = port })

-- the port-version alone, where no version is there
abbrev pub version_if : Option Scheme → Reading (Option Version)
version_if None d = port_version_at d >>= λ port. Ok None
version_if (Some scheme) d = version_under scheme d >>= λ version. Ok (Some version)

-- the version that an object's keys say, if they say one
unfoldable pub version_at : Reading (Option Version)
version_at d = scheme_in d >>= λ scheme. version_if scheme d

-- the version that an object's keys have to say: one of the keys has to be there
unfoldable pub version_needed_at : Reading Version
version_needed_at d = scheme_needed d >>= λ scheme. version_under scheme d

-- an ask whose text stands under a key, without `#`, with the port-version beside it
unfoldable pub ask_under : List ℕ → Reading Ask
ask_under key d = do
  text ← wanted plain_at key d
  port ← port_version_at d
  Ok (record { text = text; port = port })

-- a port-version may stand beside an ask whose text says none
abbrev pub with_port_beside : WrittenAsk → Option ℕ → Result Ask FileFault
with_port_beside written None = Ok written.ask
with_port_beside written (Some port) =
    if written.numbered then Err (at_member (codes "port-version") why.Twice)
    else Ok (record { text = written.ask.text; port = port })

-- an ask whose text stands under a key, and its port-version there after `#`, or beside it
unfoldable pub written_ask_under : List ℕ → Reading Ask
written_ask_under key d = do
  written ← wanted written_at key d
  port ← optional number_at (codes "port-version") d
  with_port_beside written port
