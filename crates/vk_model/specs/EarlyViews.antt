-- What contracts see of why there is no setting: plain data.
use Rattle.vk_spec.specs.Earlies as plain
use Rattle.vk_json.specs.Words.{word_of}
use Rattle.vk_model.specs.declared.earlies.Early.{Early}
use Rattle.vk_model.specs.declared.earlies.Early.TheVariants as early

abbrev pub early_view : Early → plain.Early
early_view (early.BadFile path place why) = plain.bad_file path place (word_of why)
early_view early.TwoConfigurations = plain.two_configurations
early_view (early.NoTriplet name) = plain.no_triplet name
early_view (early.Overlap first second) = plain.overlap first second
early_view (early.Blocked path) = plain.blocked path
