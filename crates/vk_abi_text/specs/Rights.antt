-- Which inputs keep the rules of their parts.
use Rattle.std.specs.Prelude.{◌≡◌, ◌≢◌, ◌≤◌, ◌<◌, ◌^◌, ℕ, List, length, map, Ok}
use Rattle.std.specs.List.{All, Contains}
use Rattle.std.specs.Str.{IsUtf8}
use Rattle.hex.specs.Hex.{IsBytes}
use Rattle.vk_spec.specs.Lists.{NoRepeats}
use Rattle.vk_spec.specs.Manifests.{core, default}
use Rattle.vk_spec.specs.Versions.{Version}
use Rattle.vk_base.specs.Names.{IsName, port_rule, word_rule}
use Rattle.vk_base.specs.Paths.{IsPath, text_of_path}
use Rattle.vk_base.specs.Tokens.{IsByte}
use Rattle.vk_version.specs.Readings.{IsVersion}
use Rattle.vk_model.specs.BuilderTexts.{reads_builder_text}
use Rattle.vk_model.specs.declared.builders.Builder.{Builder}
use Rattle.vk_forms.specs.Names.{IsRightInstance}
use Rattle.vk_abi_text.specs.Inputs.{DepDigest, FileDigest, Input}
use Rattle.vk_abi_text.specs.Lines.{AbiLine, builder_line, dep_line, feature_line, file_line, native_line, port_line, triplet_line, version_line}

-- 32 bytes
pub record IsDigest (digest : List ℕ) : Type 0 where
  pub bytes : IsBytes digest
  pub count : length digest ≡ 32

pub record IsRightBuilder (b : Builder) : Type 0 where
  pub name : IsName word_rule b.name
  pub text : reads_builder_text b.text ≡ Ok b.text
  pub bytes : All IsByte b.text

-- some scheme reads the text, and the port-version has 32 bits
pub record IsRightVersion (v : Version) : Type 0 where
  pub version : IsVersion v
  pub bytes : All IsByte v.text
  pub small : v.port < 2 ^ 32

-- `core`, or a feature of the manifest
pub record IsRightFeature (f : List ℕ) : Type 0 where
  pub name : IsName word_rule f
  pub not_default : f ≢ default

pub record IsRightFile (f : FileDigest) : Type 0 where
  pub path : IsPath f.path
  pub bytes : All IsByte (text_of_path f.path)
  pub digest : IsDigest f.digest

pub record IsRightDep (d : DepDigest) : Type 0 where
  pub instance : IsRightInstance d.instance
  pub digest : IsDigest d.digest

-- each part keeps its rule, and no feature, path or instance stands twice
pub record IsRightInput (i : Input) : Type 0 where
  pub builder : IsRightBuilder i.builder
  pub port : IsName port_rule i.port
  pub version : IsRightVersion i.version
  pub features : All IsRightFeature i.features
  pub core : Contains i.features core
  pub each_feature : NoRepeats i.features
  pub triplet : IsName word_rule i.triplet
  pub triplet_digest : IsDigest i.triplet_digest
  pub files : All IsRightFile i.files
  pub each_path : NoRepeats (map (λ f. f.path) i.files)
  pub deps : All IsRightDep i.deps
  pub each_instance : NoRepeats (map (λ d. d.instance) i.deps)

-- what the values that it is made of keep, whoever made them: all but its dependencies, and that `default` is none of its features
pub record HasRightParts (i : Input) : Type 0 where
  pub builder : IsRightBuilder i.builder
  pub port : IsName port_rule i.port
  pub version : IsRightVersion i.version
  pub features : All (IsName word_rule) i.features
  pub triplet : IsName word_rule i.triplet
  pub paths : All (λ f. All IsByte (text_of_path f.path)) i.files

-- the same of what a line says
abbrev pub IsRightLine : AbiLine → Type 0
IsRightLine (builder_line b) = IsRightBuilder b
IsRightLine (dep_line d) = IsRightDep d
IsRightLine (feature_line f) = IsRightFeature f
IsRightLine (file_line f) = IsRightFile f
IsRightLine (native_line native) = Unit {0}
IsRightLine (port_line p) = IsName port_rule p
IsRightLine (triplet_line t digest) = IsName word_rule t × IsDigest digest
IsRightLine (version_line v) = IsRightVersion v

-- a path whose text is UTF-8 and has at most 4,096 bytes
pub record IsShortFile (f : FileDigest) : Type 0 where
  pub short : length (text_of_path f.path) ≤ 4096
  pub utf8 : IsUtf8 (text_of_path f.path)

-- what besides has to hold for an input to be read back: texts are UTF-8, and paths aren't too long
pub record IsReadable (i : Input) : Type 0 where
  pub builder : IsUtf8 i.builder.text
  pub version : IsUtf8 i.version.text
  pub files : All IsShortFile i.files

-- a right line that can be read back
abbrev pub IsReadableLine : AbiLine → Type 0
IsReadableLine (builder_line b) = IsRightBuilder b × IsUtf8 b.text
IsReadableLine (dep_line d) = IsRightDep d
IsReadableLine (feature_line f) = IsRightFeature f
IsReadableLine (file_line f) = IsRightFile f × IsShortFile f
IsReadableLine (native_line native) = Unit {0}
IsReadableLine (port_line p) = IsName port_rule p
IsReadableLine (triplet_line t digest) = IsName word_rule t × IsDigest digest
IsReadableLine (version_line v) = IsRightVersion v × IsUtf8 v.text
