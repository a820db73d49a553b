use Rattle.std.proofs.Common.{◌||◌, ◌+◌, ◌∙◌, drop, ap}
use Rattle.vk_fields.specs.Versions.{key_of, has_key}
use Rattle.vk_fields.proofs.KeyLemmas.{has, noted_so_far, noted_all}
use Rattle.vk_fields.proofs.versions.keys_among.Goals as goal

pub loop-key-preserved : goal.loop-key-preserved
loop-key-preserved c = λ scheme.
    ap (λ b. b || has (key_of scheme) (drop (c.loop-key.key-index + 1) c.args.object.now)) (c.note.ensures scheme)
    ∙ noted_so_far (key_of scheme) c.args.object.now c.loop-key.key-index c.loop-key-item.result (has_key c.loop-key.keys scheme) c.loop-key-test.true c.loop-key-item.is (c.loop-key.invariant scheme)

pub returns : goal.returns
returns c = λ scheme. noted_all (key_of scheme) c.args.object.now c.loop-key.key-index (has_key c.loop-key.keys scheme) c.loop-key-test.false (c.loop-key.invariant scheme)
