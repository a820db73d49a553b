-- The rules of names, and the first place at which a text breaks one.
use Rattle.std.specs.Prelude.{◌≡◌, ◌≢◌, ◌-◌, ◌≤◌, ◌<◌, ◌||◌, ◌&&◌, ◌==◌, ℕ, Bool, true, false, not}
use Rattle.std.specs.Prelude.{nat_lt, nat_le, List, length, take, slice_index, Option, Some, None}
use Rattle.std.specs.Prelude.{Result, Ok, Err, bytes_eq, if◌then◌else◌}
use Rattle.std.specs.List.{position, All}
use Rattle.vk_spec.specs.Manifests.{core, default}
use Rattle.vk_base.specs.declared.names.Rule.{Rule}
use Rattle.vk_base.specs.declared.names.NameFault.{NameFault}
use Rattle.vk_base.specs.declared.names.NameFault.TheVariants as fault

-- what a kind of names allows besides lower-case letters, digits, and hyphens inside
pub record NameRule : Type 0 where
  -- `_`, anywhere
  pub underscore : Bool
  -- a hyphen as the last byte
  pub last_hyphen : Bool

-- the same of the program's own rule
abbrev pub rule_of : Rule → NameRule
rule_of r = record { underscore = r.underscore; last_hyphen = r.last_hyphen }

abbrev pub port_rule : NameRule
port_rule = record { underscore = false; last_hyphen = false }

-- the rule of features, triplets and agents
abbrev pub word_rule : NameRule
word_rule = record { underscore = true; last_hyphen = true }

-- a to z, 0 to 9, `-`, and `_` where the rule allows it
abbrev pub is_name_byte : NameRule → ℕ → Bool
is_name_byte rule b = (nat_le 97 b && nat_le b 122) || (nat_le 48 b && nat_le b 57) || (b == 45) || (rule.underscore && b == 95)

pub record IsName (rule : NameRule) (text : List ℕ) : Type 0 where
  pub bytes : All (λ b. is_name_byte rule b ≡ true) text
  pub some : 0 < length text
  pub few : length text ≤ 200
  pub first : slice_index text 0 ≢ 45
  pub last : rule.last_hyphen ≡ false → slice_index text (length text - 1) ≢ 45

-- the fault of a text whose first 200 bytes are right: it is too long, or empty, or ends with a hyphen
abbrev pub end_fault : NameRule → List ℕ → Option ℕ
end_fault rule text =
    if nat_lt 200 (length text) then Some 200 else
    if length text == 0 || (not rule.last_hyphen && slice_index text (length text - 1) == 45) then Some (length text) else None

-- where a byte is found that no name has, there; else at the end
abbrev pub fault_from : NameRule → List ℕ → Option ℕ → Option ℕ
fault_from rule text (Some at) = Some at
fault_from rule text None = end_fault rule text

-- the place of the first byte that breaks the rule, or none
abbrev pub name_fault : NameRule → List ℕ → Option ℕ
name_fault rule text =
    if slice_index text 0 == 45 then Some 0 else
    fault_from rule text (position (λ b. not (is_name_byte rule b)) (take 200 text))

-- nothing before this place breaks the rule
pub record BreaksFirst (rule : NameRule) (text : List ℕ) (at : ℕ) : Type 0 where
  pub within : at ≤ length text
  pub few : at ≤ 200
  pub before : (k : ℕ) → k < at → is_name_byte rule (slice_index text k) ≡ true
  pub first : 0 < at → slice_index text 0 ≢ 45

-- a name is its text, unless the text has a fault
abbrev pub named : List ℕ → Option ℕ → Result (List ℕ) NameFault
named text None = Ok text
named text (Some at) = Err (fault.Bad at)

abbrev pub reads_name : NameRule → List ℕ → Result (List ℕ) NameFault
reads_name rule text = named text (name_fault rule text)

-- a feature's name is a word that has no meaning of its own
pub record IsFeatureName (text : List ℕ) : Type 0 where
  pub word : IsName word_rule text
  pub not_core : text ≢ core
  pub not_default : text ≢ default

abbrev pub is_reserved : List ℕ → Bool
is_reserved text = bytes_eq text core || bytes_eq text default

-- a feature's name, which is its text, or what is wrong with it
abbrev pub reads_feature : List ℕ → Result (List ℕ) NameFault
reads_feature text = if is_reserved text then Err fault.Reserved else reads_name word_rule text
