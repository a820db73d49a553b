-- What contracts see of an input, whole or borrowed, and of a fault.
use Rattle.std.specs.Prelude.{ℕ, map}
use Rattle.vk_base.specs.FeatureViews.{feature_view}
use Rattle.vk_model.specs.SettingViews.{instance_view}
use Rattle.vk_abi_text.specs.Inputs as plain
use Rattle.vk_abi_text.specs.declared.inputs.AbiInput.{AbiInput}
use Rattle.vk_abi_text.specs.declared.inputs.AbiSource.{AbiSource}
use Rattle.vk_abi_text.specs.declared.inputs.DepDigest.{DepDigest}
use Rattle.vk_folder.specs.declared.digests.FileDigest.{FileDigest}
use Rattle.vk_abi_text.specs.declared.readers.AbiFault.{AbiFault}
use Rattle.vk_abi_text.specs.declared.readers.AbiFault.TheVariants.{Line}

abbrev pub file_view : FileDigest → plain.FileDigest
file_view f = record { path = f.path; digest = f.digest.bytes }

abbrev pub dep_view : DepDigest → plain.DepDigest
dep_view d = record { instance = instance_view d.inst; digest = d.digest.bytes }

abbrev pub input_view : AbiInput → plain.Input
input_view i = record {
  builder = i.builder;
  port = i.port;
  version = i.version;
  features = map feature_view i.features;
  triplet = i.triplet;
  triplet_digest = i.triplet_digest.bytes;
  native = i.native;
  files = map file_view i.files;
  deps = map dep_view i.deps;
}

-- the same of an input whose parts are borrowed
abbrev pub source_view : AbiSource → plain.Input
source_view s = record {
  builder = s.builder.now;
  port = s.port.now;
  version = s.version.now;
  features = map feature_view s.features.now;
  triplet = s.triplet.now;
  triplet_digest = s.triplet_digest.bytes;
  native = s.native;
  files = map file_view s.files.now;
  deps = map dep_view s.deps.now;
}

-- the line that a fault tells
abbrev pub line_in : AbiFault → ℕ
line_in (Line n) = n
