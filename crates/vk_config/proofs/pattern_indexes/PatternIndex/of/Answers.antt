use Rattle.std.proofs.Common.{◌∙◌, ap, sym, take_all, map}
use Rattle.vk_config.specs.FirstPlaces.{has_pattern, first_with}
use Rattle.vk_config.specs.RegistryViews.{registry_view}
use Rattle.vk_config.proofs.FirstLemmas.{first_more}
use Rattle.vk_config.proofs.pattern_indexes.PatternIndex.of.Goals as goal

pub loop-place-preserved : goal.loop-place-preserved
loop-place-preserved c = λ pattern.
    c.in_ok-put_all.ensures pattern ∙ rw (c.loop-place.invariant pattern, c.patterns_of.ensures)
    (first_more registry_view (has_pattern pattern) c.args.registries.now c.loop-place.place
    c.index-registries-place.result c.loop-place-test.true (sym c.index-registries-place.is))

pub returns : goal.returns
returns c = λ pattern.
    c.loop-place.invariant pattern
    ∙ ap (λ registries. first_with (map registry_view registries) pattern)
    (take_all c.loop-place.place c.args.registries.now c.loop-place-test.false)
