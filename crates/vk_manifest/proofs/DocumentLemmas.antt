-- What a document gives as a manifest, and where what it tells stands.
use Rattle.std.proofs.Common.{◌≡◌, ℕ, Bool, List, refl, ap, sym, ◌∙◌}
use Rattle.std.specs.Prelude.{Option, Some, None, Result, Ok, Err}
use Rattle.serde_json.specs.Data.{Data}
use Rattle.vk_spec.specs.Reading.{◌>>=◌, or_fault}
use Rattle.vk_spec.specs.Manifests.{Manifest}
use Rattle.vk_spec.specs.Conditions.{Condition}
use Rattle.vk_json.specs.Documents.{json_of, value_of, without_mark}
use Rattle.vk_json.specs.declared.faults.FileFault.{FileFault}
use Rattle.vk_json.specs.declared.faults.Why.TheVariants as why
use Rattle.vk_json.specs.Places.{here}
use Rattle.vk_json.specs.Standing.{StandsIn}
use Rattle.vk_json.proofs.TellingLemmas.{told_stands, given_has}
use Rattle.vk_manifest.specs.Manifests.{manifest_at, manifest_of}
use Rattle.vk_json.proofs.DocumentKeys.{keys_ascend}
use Rattle.vk_manifest.specs.Names.{IsNamed}
use Rattle.vk_manifest.proofs.TellingLemmas.{IsPortUnless, IsRead, manifest_says}

pub fault_stands : (bytes : List ℕ) (root : Bool) (d : Data) (fault : FileFault) → json_of bytes ≡ Ok d → manifest_of bytes root ≡ Err fault → StandsIn d fault
fault_stands bytes root d fault is told =
    told_stands (IsRead root d) d (manifest_at root d) fault (manifest_says root d) (sym (ap (λ r. r >>= manifest_at root) is) ∙ told)

whole : (o : Option Data) (fault : FileFault) → or_fault (here why.Json) o ≡ Err fault → fault ≡ here why.Json
whole None fault e = (cc)
whole (Some d) fault e = (cc)

pub no_document : (bytes : List ℕ) (root : Bool) (fault : FileFault) → json_of bytes ≡ Err fault → (manifest_of bytes root ≡ Err fault) × (fault ≡ here why.Json)
unfolding json_of
no_document bytes root fault e = (ap (λ r. r >>= manifest_at root) e, whole (value_of (without_mark bytes)) fault e)

-- what is read of a document
abbrev IsGiven : Bool → Manifest Condition → Type 0
IsGiven root m = IsNamed m × IsPortUnless root m

read_by : (bytes : List ℕ) (root : Bool) (r : Result Data FileFault) (m : Manifest Condition) → json_of bytes ≡ r → (r >>= manifest_at root) ≡ Ok m → IsGiven root m
read_by bytes root (Ok d) m is e =
    let read = given_has (IsRead root d) d (manifest_at root d) m (manifest_says root d) e in
    (read.0 (λ place found leads. keys_ascend bytes place d found is leads), read.1)
read_by bytes root (Err fault) m is e = (cc)

pub is_read : (bytes : List ℕ) (root : Bool) (m : Manifest Condition) → manifest_of bytes root ≡ Ok m → IsGiven root m
is_read bytes root m e = read_by bytes root (json_of bytes) m refl e
