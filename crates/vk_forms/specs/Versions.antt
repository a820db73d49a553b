-- Which versions and asks stand in a report.
use Rattle.std.specs.Prelude.{◌≡◌, ◌<◌, ◌^◌, ℕ, List, Option, Some, None}
use Rattle.vk_spec.specs.Versions.{Version, Ask, ask_of, text}
use Rattle.vk_base.specs.Tokens.{token_of}
use Rattle.vk_version.specs.Readings.{string_fault}
use Rattle.vk_forms.specs.Texts.{IsText}

-- a text that `version-string` allows
pub record IsVersionText (t : List ℕ) : Type 0 where
  pub is_text : IsText t
  pub allowed : string_fault t ≡ None

-- with a port-version of 32 bits
pub record IsRightAsk (ask : Ask) : Type 0 where
  pub text : IsVersionText ask.text
  pub small : ask.port < 2 ^ 32

-- the class isn't printed: it is that of texts
pub record IsRightVersion (v : Version) : Type 0 where
  pub class : v.class ≡ text
  pub ask : IsRightAsk (ask_of v)

abbrev pub IsRightIfAny : Option Version → Type 0
IsRightIfAny None = Unit {0}
IsRightIfAny (Some v) = IsRightVersion v

-- the text alone
abbrev pub bare_text : Version → List ℕ
bare_text v = token_of v.text

-- with no port-version
pub record IsBareVersion (v : Version) : Type 0 where
  pub right : IsRightVersion v
  pub none : v.port ≡ 0
