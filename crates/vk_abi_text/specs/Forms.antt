-- Which values may stand in a line, and what contracts see of what is read.
use Rattle.std.specs.Prelude.{◌≡◌, ℕ, Bool, List, Option, Some, None, Ok}
use Rattle.vk_spec.specs.Versions as plain
use Rattle.vk_spec.specs.Versions.{Class, Version}
use Rattle.vk_base.specs.FeatureViews.{feature_view}
use Rattle.vk_base.specs.declared.features.FeatureName.{FeatureName}
use Rattle.vk_version.specs.Readings.{IsVersion}
use Rattle.vk_version.specs.Schemes as the
use Rattle.vk_version.specs.Schemes.{Scheme}
use Rattle.vk_digest.specs.declared.Digest.{Digest}
use Rattle.vk_model.specs.BuilderTexts.{reads_builder_text}
use Rattle.vk_model.specs.declared.builders.Builder.{Builder}
use Rattle.vk_forms.specs.Choices.{either_plain}
use Rattle.vk_forms.specs.declared.choices.Either.{Either}
use Rattle.vk_forms.specs.declared.choices.Either.TheVariants as either
use Rattle.vk_forms.specs.Forms.{pair_plain}
use Rattle.vk_forms.specs.Texts.{IsText}
use Rattle.vk_abi_text.specs.Inputs as said
use Rattle.vk_abi_text.specs.Lines.{AbiLine, builder_line, dep_line, feature_line, file_line, native_line, port_line, triplet_line, version_line}
use Rattle.vk_abi_text.specs.Parts.{LineParts}
use Rattle.vk_abi_text.specs.Rights.{IsDigest}
use Rattle.vk_base.specs.Names.{IsName, word_rule}
use Rattle.vk_abi_text.specs.Views.{dep_view, file_view}
use Rattle.vk_abi_text.specs.declared.inputs.DepDigest.{DepDigest}
use Rattle.vk_folder.specs.declared.digests.FileDigest.{FileDigest}
use Rattle.vk_abi_text.specs.declared.kinds.Line.{Line}
use Rattle.vk_abi_text.specs.declared.kinds.Line.TheVariants as line

-- a text that a builder may have
pub record IsBuilderText (t : List ℕ) : Type 0 where
  pub reads : reads_builder_text t ≡ Ok t
  pub is_text : IsText t

abbrev pub IsRightTriplet : List ℕ × List ℕ → Type 0
IsRightTriplet t = IsName word_rule t.0 × IsDigest t.1

-- the scheme that reads all versions of a class
abbrev pub scheme_of : Class → Scheme
scheme_of plain.dot = the.relaxed
scheme_of plain.date = the.date
scheme_of plain.text = the.string

abbrev pub version_of : Class → List ℕ → ℕ → Version
version_of class text port = record { class = class; text = text; port = port }

-- the version of these parts, or that they are none's
abbrev pub ReadsVersion : Class → List ℕ → ℕ → Option Version → Type 0
ReadsVersion class text port (Some v) = (v ≡ version_of class text port) × IsVersion v
ReadsVersion class text port None = IsVersion (version_of class text port) → ⊥

-- ---- the parts of a value

abbrev pub digest_bytes : Digest → List ℕ
digest_bytes d = d.bytes

abbrev pub builder_of : List ℕ × List ℕ → Builder
builder_of p = record { name = p.0; text = p.1 }

abbrev pub DepParts : Type 0
DepParts = List ℕ × (List ℕ × List ℕ)

abbrev pub dep_parts : List ℕ × (List ℕ × Digest) → DepParts
dep_parts = pair_plain (λ x. x) (pair_plain (λ x. x) digest_bytes)

abbrev pub dep_of : DepParts → said.DepDigest
dep_of p = record { instance = record { port = p.0; triplet = p.1.0 }; digest = p.1.1 }

abbrev pub file_of : List (List ℕ) × List ℕ → said.FileDigest
file_of p = record { path = p.0; digest = p.1 }

abbrev pub triplet_parts : List ℕ × Digest → List ℕ × List ℕ
triplet_parts = pair_plain (λ x. x) digest_bytes

-- ---- lines

abbrev pub line_view : Line → AbiLine
line_view (line.Builder b) = builder_line b
line_view (line.Dep d) = dep_line (dep_view d)
line_view (line.Feature f) = feature_line (feature_view f)
line_view (line.File f) = file_line (file_view f)
line_view (line.Native native) = native_line native
line_view (line.Port p) = port_line p
line_view (line.Triplet t digest) = triplet_line t digest.bytes
line_view (line.Version v) = version_line v

abbrev pub Read : Type 0 → Type 0
Read X = Unit {0} × X

abbrev pub LineRead : Type 0
LineRead = Either (Read Builder) (Either (Read DepDigest) (Either (Read FeatureName) (Either (Read FileDigest) (Either (Read Bool) (Either (Read (List ℕ)) (Either (Read (List ℕ × Digest)) (Read Version)))))))

abbrev pub read_plain : {X Y : Type 0} → (X → Y) → Read X → Unit {0} × Y
read_plain view = pair_plain (λ u. u) view

abbrev pub line_parts : LineRead → LineParts
line_parts = either_plain (read_plain (λ b. b)) (either_plain (read_plain dep_view) (either_plain (read_plain feature_view) (either_plain (read_plain file_view)
    (either_plain (read_plain (λ n. n)) (either_plain (read_plain (λ p. p)) (either_plain (read_plain triplet_parts) (read_plain (λ v. v))))))))

abbrev pub other : {X Y : Type 0} → Y → Either X Y
other y = either.Other y
