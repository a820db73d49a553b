-- What a version keeps beside its text: the parts that the order compares.
use Rattle.std.specs.Prelude.{◌≡◌, ℕ, List}
use Rattle.semver.specs.Identifiers.{pre_text}
use Rattle.vk_spec.specs.Versions as plain
use Rattle.vk_version.specs.Readings.{IsVersion}
use Rattle.vk_version.specs.Orders.{numbers_by, pre_by}
use Rattle.vk_version.specs.Views.{class_view}
use Rattle.vk_version.specs.declared.versions.Version.TheInside.{Inside}

abbrev pub version_of : plain.Class → List ℕ → ℕ → plain.Version
version_of class text port = record { class = class; text = text; port = port }

-- the version that is kept
abbrev pub version_view : Inside → plain.Version
version_view v = version_of (class_view v.class) v.ask.text v.ask.port

-- some scheme reads a version's text, and these are the parts of the text that the order compares
pub record Keeps (v : plain.Version) (kept_numbers kept_pre : List ℕ) : Type 0 where
  pub version : IsVersion v
  pub numbers : kept_numbers ≡ numbers_by v.class v.text
  pub pre : kept_pre ≡ pre_by v.class v.text

abbrev pub IsParsed : Inside → Type 0
IsParsed v = Keeps (version_view v) v.numbers (pre_text v.pre)
