use Rattle.std.proofs.Common.{◌≡◌, ◌||◌, drop}
use Rattle.vk_version.specs.Schemes.{Scheme}
use Rattle.vk_fields.specs.Versions.{key_of, has_key}
use Rattle.vk_fields.proofs.KeyLemmas.{has}
use Rattle.vk_fields.proofs.versions.keys_among.Given as goal

abbrev pub invariant-loop-key : goal.invariant-loop-key
invariant-loop-key l = (scheme : Scheme) →
    has_key l.keys scheme || has (key_of scheme) (drop l.key-index l.object) ≡ has (key_of scheme) l.object
