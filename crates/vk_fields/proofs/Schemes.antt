-- Looking for the schemes one by one finds the one whose key is there.
use Rattle.std.proofs.Common.{◌≡◌, Bool, true, false, [], ◌∷◌, refl}
use Rattle.std.specs.List.{filter}
use Rattle.std.specs.Option.{is_some}
use Rattle.serde_json.specs.Data.{Data}
use Rattle.serde_json.specs.Find.{get}
use Rattle.vk_version.specs.Schemes.{Scheme, relaxed, semver, date, string}
use Rattle.vk_fields.specs.Versions.{key_of, only_scheme, scheme_in, scheme_by}

by_tests : (there is : Scheme → Bool) (a b c e : Bool) → there relaxed ≡ a → there semver ≡ b → there date ≡ c → there string ≡ e → is relaxed ≡ a → is semver ≡ b → is date ≡ c → is string ≡ e
    → scheme_by there ≡ only_scheme (filter is (relaxed ∷ semver ∷ date ∷ string ∷ []))
unfolding scheme_by
by_tests there is true true c e p q r s i j k l = rw (p, q, i, j) refl
by_tests there is true false true e p q r s i j k l = rw (p, q, r, i, j, k) refl
by_tests there is true false false true p q r s i j k l = rw (p, q, r, s, i, j, k, l) refl
by_tests there is true false false false p q r s i j k l = rw (p, q, r, s, i, j, k, l) refl
by_tests there is false true true e p q r s i j k l = rw (p, q, r, i, j, k) refl
by_tests there is false true false true p q r s i j k l = rw (p, q, r, s, i, j, k, l) refl
by_tests there is false true false false p q r s i j k l = rw (p, q, r, s, i, j, k, l) refl
by_tests there is false false true true p q r s i j k l = rw (p, q, r, s, i, j, k, l) refl
by_tests there is false false true false p q r s i j k l = rw (p, q, r, s, i, j, k, l) refl
by_tests there is false false false true p q r s i j k l = rw (p, q, r, s, i, j, k, l) refl
by_tests there is false false false false p q r s i j k l = rw (p, q, r, s, i, j, k, l) refl

pub by_is_in : (there : Scheme → Bool) (d : Data) → ((scheme : Scheme) → there scheme ≡ is_some (get (key_of scheme) d)) → scheme_by there ≡ scheme_in d
by_is_in there d same = by_tests there (λ scheme. is_some (get (key_of scheme) d)) _ _ _ _ (same relaxed) (same semver) (same date) (same string) refl refl refl refl
