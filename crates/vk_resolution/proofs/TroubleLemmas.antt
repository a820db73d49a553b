-- The troubles of the first phase are those of the table.
use Rattle.std.proofs.Common.{◌≡◌, ◌≢◌, ℕ, List, [], refl, sym, subst}
use Rattle.std.specs.Prelude.{Option, Some, None, option_map, Result, Ok, Err, IfErr}
use Rattle.std.specs.List.{Contains}
use Rattle.vk_spec.specs.Versions.{Version, Ask, ask_of, same_ask}
use Rattle.vk_spec.specs.Manifests.{Manifest}
use Rattle.vk_spec.specs.Pages.{Wrong, no_registry, no_baseline, bad_file, disagrees, Given, overlay, override, baseline, Row, row_in}
use Rattle.vk_spec.specs.Catalogues.{ArePages, CanBeOfRow}
use Rattle.vk_spec.specs.Conditions.{Condition}
use Rattle.vk_spec.specs.Settings.{Instance}
use Rattle.vk_spec.proofs.ListLemmas.{contains_nothing, contains_first}
use Rattle.vk_resolution.specs.Settings.{root, inst}
use Rattle.vk_resolution.specs.Givens.{manifest_at}
use Rattle.vk_resolution.specs.Asking.{Fact, need, floor, visit}
use Rattle.vk_resolution.specs.Consequences.{Inputs}
use Rattle.vk_resolution.specs.Faults.{Trouble, lacks_version, wrong_of, given_troubles, manifest_troubles, floor_troubles, troubles_of}
use Rattle.vk_resolution.specs.TroubleLaws.{IsTrouble, no_registry_serves, no_baseline_has, given_is_bad, given_disagrees, manifest_is_bad, manifest_disagrees, no_version_listed, TroublesMean}
use Rattle.vk_resolution.proofs.Members.{contains_single, found_contains}
use Rattle.vk_resolution.proofs.Soundness.{map_some}

-- a port without a version for an ask has no row for it
no_row : (o : Option (Row Condition)) → option_map (λ r. r.version) o ≡ None → o ≡ None
no_row None e = refl
no_row (Some r) e = (cc)

no_version : (o : Option (Row Condition)) → o ≡ None → option_map (λ r. r.version) o ≡ None
no_version None e = refl
no_version (Some r) e = (cc)

module _ (inputs : Inputs) where
  lacking : (p : List ℕ) (a : Ask) (g : Given) → ((v : Version) → g ≢ overlay v) → Contains (floor_troubles p a None (Ok g)) (lacks_version p a)
  lacking p a (overlay v) other = absurd (other v refl)
  lacking p a (override b) other = contains_first (lacks_version p a) []
  lacking p a (baseline b) other = contains_first (lacks_version p a) []

  told_given : (p : List ℕ) (wrong : Wrong) → (inputs.pages p).given ≡ Err wrong → Contains (given_troubles p (inputs.pages p).given) (wrong_of p wrong)
  told_given p wrong e = subst (λ o. Contains (given_troubles p o) (wrong_of p wrong)) (sym e) (contains_first (wrong_of p wrong) [])

  told_manifest : (p : List ℕ) (a : Ask) (wrong : Wrong) → manifest_at inputs.pages p a ≡ Some (Err wrong) → Contains (manifest_troubles p (manifest_at inputs.pages p a)) (wrong_of p wrong)
  told_manifest p a wrong e = subst (λ o. Contains (manifest_troubles p o) (wrong_of p wrong)) (sym e) (contains_first (wrong_of p wrong) [])

  trouble_told : (x : Fact) (t : Trouble) → IsTrouble inputs x t → Contains (troubles_of inputs x) t
  trouble_told _ _ (no_registry_serves i f e) = told_given i.port no_registry e
  trouble_told _ _ (no_baseline_has i f e) = told_given i.port no_baseline e
  trouble_told _ _ (given_is_bad i f path place word e) = told_given i.port (bad_file path place word) e
  trouble_told _ _ (given_disagrees i f path field table manifest e) = told_given i.port (disagrees path field table manifest) e
  trouble_told _ _ (manifest_is_bad i f a path place word e) = told_manifest i.port a (bad_file path place word) e
  trouble_told _ _ (manifest_disagrees i f a path field table manifest e) = told_manifest i.port a (disagrees path field table manifest) e
  trouble_told _ _ (no_version_listed p a g e other none) =
      subst (λ o. Contains (floor_troubles p a o (inputs.pages p).given) (lacks_version p a)) (sym (no_row (row_in (inputs.pages p).rows a) none))
      (subst (λ o. Contains (floor_troubles p a None o) (lacks_version p a)) (sym e) (lacking p a g other))

  given_wrong : (i : Instance) (f : List ℕ) (wrong : Wrong) → (inputs.pages i.port).given ≡ Err wrong → IsTrouble inputs (need (inst i) f) (wrong_of i.port wrong)
  given_wrong i f no_registry e = no_registry_serves i f e
  given_wrong i f no_baseline e = no_baseline_has i f e
  given_wrong i f (bad_file path place word) e = given_is_bad i f path place word e
  given_wrong i f (disagrees path field table manifest) e = given_disagrees i f path field table manifest e

  given_trouble : (i : Instance) (f : List ℕ) (t : Trouble) (given : Result Given Wrong) → (inputs.pages i.port).given ≡ given → Contains (given_troubles i.port given) t → IsTrouble inputs (need (inst i) f) t
  given_trouble i f t (Ok g) e h = absurd (contains_nothing t h)
  given_trouble i f t (Err wrong) e h = subst (IsTrouble inputs (need (inst i) f)) (contains_single (wrong_of i.port wrong) t h) (given_wrong i f wrong e)

  floor_trouble : (p : List ℕ) (a : Ask) (t : Trouble) (row : Option (Row Condition)) (given : Result Given Wrong) → row_in (inputs.pages p).rows a ≡ row → (inputs.pages p).given ≡ given
      → Contains (floor_troubles p a row given) t → IsTrouble inputs (floor p a) t
  floor_trouble p a t (Some row) given e k h = absurd (contains_nothing t h)
  floor_trouble p a t None (Ok (overlay v)) e k h = absurd (contains_nothing t h)
  floor_trouble p a t None (Ok (override b)) e k h =
      subst (IsTrouble inputs (floor p a)) (contains_single (lacks_version p a) t h) (no_version_listed p a (override b) k (λ v same. (cc)) (no_version (row_in (inputs.pages p).rows a) e))
  floor_trouble p a t None (Ok (baseline b)) e k h =
      subst (IsTrouble inputs (floor p a)) (contains_single (lacks_version p a) t h) (no_version_listed p a (baseline b) k (λ v same. (cc)) (no_version (row_in (inputs.pages p).rows a) e))
  floor_trouble p a t None (Err wrong) e k h = absurd (contains_nothing t h)

  module _ (pages : ArePages inputs.pages) where
    -- what is wrong with the manifest of a row can be wrong there
    row_wrong : (p : List ℕ) (a : Ask) (wrong : Wrong) → manifest_at inputs.pages p a ≡ Some (Err wrong) → CanBeOfRow wrong
    row_wrong p a wrong e =
        let r = map_some (λ (row : Row Condition). row.manifest) (row_in (inputs.pages p).rows a) (Err wrong) e in
        let found = found_contains (λ (row : Row Condition). same_ask (ask_of row.version) a) (inputs.pages p).rows r.0 r.1 in
        let can = (pages p).row_wrongs r.0 found.0 in
        subst (λ m. IfErr m CanBeOfRow) r.2 can

    manifest_wrong : (i : Instance) (f : List ℕ) (a : Ask) (wrong : Wrong) → manifest_at inputs.pages i.port a ≡ Some (Err wrong) → IsTrouble inputs (visit i f a) (wrong_of i.port wrong)
    manifest_wrong i f a no_registry e = absurd (row_wrong i.port a no_registry e)
    manifest_wrong i f a no_baseline e = absurd (row_wrong i.port a no_baseline e)
    manifest_wrong i f a (bad_file path place word) e = manifest_is_bad i f a path place word e
    manifest_wrong i f a (disagrees path field table manifest) e = manifest_disagrees i f a path field table manifest e

    manifest_trouble : (i : Instance) (f : List ℕ) (a : Ask) (t : Trouble) (manifest : Option (Result (Manifest Condition) Wrong)) → manifest_at inputs.pages i.port a ≡ manifest
        → Contains (manifest_troubles i.port manifest) t → IsTrouble inputs (visit i f a) t
    manifest_trouble i f a t None e h = absurd (contains_nothing t h)
    manifest_trouble i f a t (Some (Ok m)) e h = absurd (contains_nothing t h)
    manifest_trouble i f a t (Some (Err wrong)) e h = subst (IsTrouble inputs (visit i f a)) (contains_single (wrong_of i.port wrong) t h) (manifest_wrong i f a wrong e)

    is_trouble : (x : Fact) (t : Trouble) → Contains (troubles_of inputs x) t → IsTrouble inputs x t
    is_trouble (need (root triplet) f) t h = absurd (contains_nothing t h)
    is_trouble (need (inst i) f) t h = given_trouble i f t (inputs.pages i.port).given refl h
    is_trouble (floor p a) t h = floor_trouble p a t (row_in (inputs.pages p).rows a) (inputs.pages p).given refl refl h
    is_trouble (visit i f a) t h = manifest_trouble i f a t (manifest_at inputs.pages i.port a) refl h

pub troubles_mean : TroublesMean
troubles_mean = record { told = trouble_told; no_other = is_trouble }
