-- Members that the manual doesn't name change nothing.
use Rattle.std.proofs.Common.{◌≡◌, ℕ, Bool, true, false, List, [], arith, refl}
use Rattle.std.specs.Prelude.{codes}
use Rattle.serde_json.specs.Data.{Members, object}
use Rattle.serde_json.specs.Find.{get}
use Rattle.vk_version.specs.Schemes.{Scheme, relaxed, semver, date, string}
use Rattle.vk_spec.specs.Conditions.{always}
use Rattle.vk_json.specs.Readings.{bool_at, each_item, each_member}
use Rattle.vk_json.proofs.SameLemmas.{on_same, then_same, wanted_same, optional_same, optional_or_same}
use Rattle.vk_base.specs.Names.{reads_feature}
use Rattle.vk_fields.specs.Wording.{name_word}
use Rattle.vk_fields.specs.Saying.{said_here}
use Rattle.vk_fields.specs.Texts.{port_name_at, feature_name_at, expression_at, ask_at}
use Rattle.vk_fields.specs.Versions.{key_of}
use Rattle.vk_fields.proofs.SameLemmas.{scheme_needed_same, version_same, version_needed_same, written_ask_same}
use Rattle.vk_manifest.specs.Manifests.{use_at, use_of_object, dependency_at, dependency_with, dependency_of_object, feature_at, new_name_at, override_ask_at, override_from, overrides_at, name_in, version_in, overrides_if, manifest_at}
use Rattle.vk_manifest.specs.Keys.{manifest_keys, dependency_keys, use_keys, feature_keys, override_keys, AgreeOn}

module _ (ms ns : Members) where
  pub use_same : AgreeOn use_keys (object ms) (object ns) → use_at (object ms) ≡ use_at (object ns)
  unfolding use_of_object
  use_same agree =
      then_same (wanted_same feature_name_at (codes "name") (object ms) (object ns) (agree 0 [] (omega arith))) (λ name.
      then_same (optional_or_same expression_at (codes "platform") (object ms) (object ns) (agree 1 [] (omega arith)) always) (λ platform. refl))

  pub dependency_same : AgreeOn dependency_keys (object ms) (object ns) → dependency_at (object ms) ≡ dependency_at (object ns)
  unfolding dependency_of_object dependency_with
  dependency_same agree =
      then_same (wanted_same port_name_at (codes "name") (object ms) (object ns) (agree 0 [] (omega arith))) (λ name.
      then_same (optional_or_same bool_at (codes "default-features") (object ms) (object ns) (agree 1 [] (omega arith)) true) (λ defaults.
      then_same (optional_or_same (each_item use_at) (codes "features") (object ms) (object ns) (agree 2 [] (omega arith)) []) (λ features.
      then_same (optional_or_same bool_at (codes "host") (object ms) (object ns) (agree 3 [] (omega arith)) false) (λ host.
      then_same (optional_or_same expression_at (codes "platform") (object ms) (object ns) (agree 4 [] (omega arith)) always) (λ platform.
      then_same (optional_same ask_at (codes "version>=") (object ms) (object ns) (agree 5 [] (omega arith))) (λ minimum. refl))))))

  pub feature_same : (key : List ℕ) → AgreeOn feature_keys (object ms) (object ns) → feature_at key (object ms) ≡ feature_at key (object ns)
  unfolding feature_at
  feature_same key agree =
      on_same (said_here name_word (reads_feature key)) (λ name.
      then_same (optional_or_same (each_item dependency_at) (codes "dependencies") (object ms) (object ns) (agree 0 [] (omega arith)) []) (λ dependencies.
      then_same (optional_or_same expression_at (codes "supports") (object ms) (object ns) (agree 1 [] (omega arith)) always) (λ supports. refl)))

  override_versions : AgreeOn override_keys (object ms) (object ns) → (scheme : Scheme) → get (key_of scheme) (object ms) ≡ get (key_of scheme) (object ns)
  override_versions agree relaxed = agree 1 [] (omega arith)
  override_versions agree semver = agree 2 [] (omega arith)
  override_versions agree date = agree 3 [] (omega arith)
  override_versions agree string = agree 4 [] (omega arith)

  new_name_same : (names : List (List ℕ)) → get (codes "name") (object ms) ≡ get (codes "name") (object ns) → new_name_at names (object ms) ≡ new_name_at names (object ns)
  unfolding new_name_at
  new_name_same names same = then_same (wanted_same port_name_at (codes "name") (object ms) (object ns) same) (λ name. refl)

  override_ask_same : AgreeOn override_keys (object ms) (object ns) → override_ask_at (object ms) ≡ override_ask_at (object ns)
  unfolding override_ask_at
  override_ask_same agree =
      then_same (scheme_needed_same (object ms) (object ns) (override_versions agree))
      (written_ask_same (object ms) (object ns) (override_versions agree) (agree 5 [] (omega arith)))

  pub override_same : (names : List (List ℕ)) → AgreeOn override_keys (object ms) (object ns) → override_from names (object ms) ≡ override_from names (object ns)
  unfolding override_from
  override_same names agree =
      then_same (new_name_same names (agree 0 [] (omega arith))) (λ name.
      then_same (override_ask_same agree) (λ ask. refl))

  manifest_versions : AgreeOn manifest_keys (object ms) (object ns) → (scheme : Scheme) → get (key_of scheme) (object ms) ≡ get (key_of scheme) (object ns)
  manifest_versions agree relaxed = agree 1 [] (omega arith)
  manifest_versions agree semver = agree 2 [] (omega arith)
  manifest_versions agree date = agree 3 [] (omega arith)
  manifest_versions agree string = agree 4 [] (omega arith)

  name_same : (root : Bool) → AgreeOn manifest_keys (object ms) (object ns) → name_in root (object ms) ≡ name_in root (object ns)
  unfolding name_in
  name_same true agree = optional_same port_name_at (codes "name") (object ms) (object ns) (agree 0 [] (omega arith))
  name_same false agree = then_same (wanted_same port_name_at (codes "name") (object ms) (object ns) (agree 0 [] (omega arith))) (λ name. refl)

  version_in_same : (root : Bool) → AgreeOn manifest_keys (object ms) (object ns) → version_in root (object ms) ≡ version_in root (object ns)
  unfolding version_in
  version_in_same true agree = version_same (object ms) (object ns) (manifest_versions agree) (agree 5 [] (omega arith))
  version_in_same false agree = then_same (version_needed_same (object ms) (object ns) (manifest_versions agree) (agree 5 [] (omega arith))) (λ version. refl)

  overrides_same : (root : Bool) → AgreeOn manifest_keys (object ms) (object ns) → overrides_if root (object ms) ≡ overrides_if root (object ns)
  overrides_same true agree = optional_or_same overrides_at (codes "overrides") (object ms) (object ns) (agree 10 [] (omega arith)) []
  overrides_same false agree = refl

  pub manifest_same : (root : Bool) → AgreeOn manifest_keys (object ms) (object ns) → manifest_at root (object ms) ≡ manifest_at root (object ns)
  unfolding manifest_at
  manifest_same root agree =
      then_same (name_same root agree) (λ name.
      then_same (version_in_same root agree) (λ version.
      then_same (optional_or_same expression_at (codes "supports") (object ms) (object ns) (agree 6 [] (omega arith)) always) (λ supports.
      then_same (optional_or_same (each_item dependency_at) (codes "dependencies") (object ms) (object ns) (agree 7 [] (omega arith)) []) (λ dependencies.
      then_same (optional_or_same (each_item use_at) (codes "default-features") (object ms) (object ns) (agree 8 [] (omega arith)) []) (λ defaults.
      then_same (optional_or_same (each_member feature_at) (codes "features") (object ms) (object ns) (agree 9 [] (omega arith)) []) (λ features.
      then_same (overrides_same root agree) (λ overrides. refl)))))))
