-- What is known of one port: its given version, its table, and its manifests.
use Rattle.std.specs.Prelude.{◌||◌, ◌-◌, ℕ, Bool, true, false, List, [], ◌∷◌, length, drop, Option, option_map, Result, Ok, Err, bytes_eq, codes}
use Rattle.std.specs.List.{find, list_any}
use Rattle.std.specs.Cmp.Lexicographic.{pointwise}
use Rattle.vk_spec.specs.Paths.{Path}
use Rattle.vk_spec.specs.Versions.{Version, Ask, ask_of, same_ask}
use Rattle.vk_spec.specs.Manifests.{Manifest, Override}

-- the first of these in which a table and a manifest differ
pub data Field : Type 0 where
  name : Field
  class : Field
  text : Field
  port : Field

-- why a given version or a manifest isn't there
pub data Wrong : Type 0 where
  no_registry : Wrong
  no_baseline : Wrong
  -- a file, a place in it, and the word for what is wrong there
  bad_file : Path → List ℕ → List ℕ → Wrong
  -- a file, a field, what the table has and what the manifest has
  disagrees : Path → Field → List ℕ → List ℕ → Wrong

-- where a port's given version comes from
pub data Given : Type 0 where
  overlay : Version → Given
  override : Ask → Given
  baseline : Ask → Given

-- one version of the table, with its manifest
pub record Row (Condition : Type 0) : Type 0 where
  pub version : Version
  pub manifest : Result (Manifest Condition) Wrong

pub record Page (Condition : Type 0) : Type 0 where
  pub given : Result Given Wrong
  pub rows : List (Row Condition)

-- what a given version asks for
abbrev pub given_ask : Given → Ask
given_ask (overlay v) = ask_of v
given_ask (override a) = a
given_ask (baseline a) = a

-- the row that an ask means, if there is one: it has the ask's text and port-version
abbrev pub row_in : {C : Type 0} → List (Row C) → Ask → Option (Row C)
row_in rows a = find (λ r. same_ask (ask_of r.version) a) rows

-- its version
abbrev pub version_in : {C : Type 0} → Page C → Ask → Option Version
version_in page a = option_map (λ r. r.version) (row_in page.rows a)

-- its manifest, or what is wrong with it
abbrev pub manifest_in : {C : Type 0} → Page C → Ask → Option (Result (Manifest C) Wrong)
manifest_in page a = option_map (λ r. r.manifest) (row_in page.rows a)

-- ---- pinned ports

-- an override is for the port
abbrev pub has_override : List Override → List ℕ → Bool
has_override overrides p = list_any (λ o. bytes_eq o.name p) overrides

-- the manifest in an overlay's folder for the port
abbrev pub is_overlay_file : List ℕ → Path → Bool
is_overlay_file p path = pointwise bytes_eq (drop (length path - 2) path) (p ∷ codes "vcpkg.json" ∷ [])

-- an overlay has the port, or one of the root's overrides is for it; also where the given version failed
abbrev pub is_pinned_by : List Override → List ℕ → Result Given Wrong → Bool
is_pinned_by overrides p (Ok (overlay v)) = true
is_pinned_by overrides p (Ok (override a)) = true
is_pinned_by overrides p (Ok (baseline a)) = false
is_pinned_by overrides p (Err (disagrees path field row manifest)) = true
is_pinned_by overrides p (Err (bad_file path place word)) = is_overlay_file p path || has_override overrides p
is_pinned_by overrides p (Err no_registry) = has_override overrides p
is_pinned_by overrides p (Err no_baseline) = has_override overrides p
