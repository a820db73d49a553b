-- What single steps of reading say to each other.
use Rattle.std.specs.Prelude.{◌≡◌, ◌&&◌, true, ℕ, Bool, List, [], Option, Some, None, Result}
use Rattle.std.specs.Borrow.{Bor}
use Rattle.semver.specs.declared.Prerelease.{Prerelease}
use Rattle.semver.specs.Identifiers.{pre_text}
use Rattle.semver.specs.Order.{parts}
use Rattle.vk_version.specs.declared.faults.VersionFault.{VersionFault}
use Rattle.vk_version.specs.declared.faults.VersionFault.TheVariants as fault
use Rattle.vk_version.specs.Texts.{is_dated, day_of, later_parts, has_day, core_of, tail_of, pre_in}
use Rattle.vk_version.specs.Texts.{is_tail, is_pre, is_metadata, is_relaxed}
use Rattle.vk_version.specs.Readings.{fault_unless, unless}

-- numbers that fit, or a fault
abbrev pub fits_if : Bool → Result (Unit {0}) VersionFault
fits_if holds = unless (fault_unless fault.Number holds) tt

-- a form that holds, or a fault
abbrev pub shape_if : Bool → Result (Unit {0}) VersionFault
shape_if holds = unless (fault_unless fault.Shape holds) tt

-- the numbers' part and the pre-release of a text of the relaxed scheme
abbrev pub reads_form : List ℕ → Result (List ℕ × List ℕ) VersionFault
reads_form text =
    unless (fault_unless fault.Shape (is_relaxed text)) (core_of text, pre_in (tail_of text))

abbrev pub form_view : Bor (List ℕ) × Prerelease → List ℕ × List ℕ
form_view form = (form.0.now, pre_text form.1)

-- the parts of a text that is borrowed, if it is there
abbrev pub parts_in : Option (Bor (List ℕ)) → List (List ℕ)
parts_in None = []
parts_in (Some text) = parts text.now

-- a text is a day that there is, with numbers in these later parts
pub record IsDate (text : List ℕ) (day : List ℕ) (later : List (List ℕ)) : Type 0 where
  pub form : is_dated text ≡ true
  pub known : has_day (day_of text) ≡ true
  pub days : day ≡ day_of text
  pub parts : later_parts text ≡ later

-- what a text says, if it is there
abbrev pub text_in : Option (Bor (List ℕ)) → List ℕ
text_in None = []
text_in (Some text) = text.now

-- a text passes, if it is there
abbrev pub passes : (List ℕ → Bool) → Option (Bor (List ℕ)) → Bool
passes test None = true
passes test (Some text) = test text.now

-- a text is cut into its numbers' part, and what follows a hyphen and a plus, if they are there
pub record IsCut (text front : List ℕ) (pre build : Option (Bor (List ℕ))) : Type 0 where
  pub core : front ≡ core_of text
  pub pre_release : text_in pre ≡ pre_in (tail_of text)
  pub tail : is_tail (tail_of text) ≡ (passes is_pre pre && passes is_metadata build)
