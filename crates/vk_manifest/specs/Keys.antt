-- The members that the manual names, for each kind of object in a manifest.
use Rattle.std.specs.Prelude.{◌≡◌, ℕ, List, [], ◌∷◌, codes}
use Rattle.std.specs.List.{All}
use Rattle.serde_json.specs.Data.{Data}
use Rattle.serde_json.specs.Find.{get}

abbrev pub manifest_keys : List (List ℕ)
manifest_keys =
    codes "name" ∷ codes "version" ∷ codes "version-semver" ∷ codes "version-date"
    ∷ codes "version-string" ∷ codes "port-version" ∷ codes "supports" ∷ codes "dependencies"
    ∷ codes "default-features" ∷ codes "features" ∷ codes "overrides" ∷ []

abbrev pub dependency_keys : List (List ℕ)
dependency_keys =
    codes "name" ∷ codes "default-features" ∷ codes "features" ∷ codes "host"
    ∷ codes "platform" ∷ codes "version>=" ∷ []

-- of a feature that a list names
abbrev pub use_keys : List (List ℕ)
use_keys = codes "name" ∷ codes "platform" ∷ []

abbrev pub feature_keys : List (List ℕ)
feature_keys = codes "dependencies" ∷ codes "supports" ∷ []

abbrev pub override_keys : List (List ℕ)
override_keys =
    codes "name" ∷ codes "version" ∷ codes "version-semver" ∷ codes "version-date"
    ∷ codes "version-string" ∷ codes "port-version" ∷ []

-- two values have the same members under these keys
abbrev pub AgreeOn : List (List ℕ) → Data → Data → Type 0
AgreeOn keys d e = All (λ key. get key d ≡ get key e) keys
