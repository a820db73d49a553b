-- The ABI text of a package: a first line, and then what goes into the package's build, a line each, in the order of their bytes.
use Rattle.std.specs.Prelude.{◌++◌, ℕ, Bool, true, false, List, [], ◌∷◌, map, flat_map, codes, decimal}
use Rattle.std.specs.List.{join_with_byte}
use Rattle.hex.specs.Hex.{encode_lower}
use Rattle.vk_spec.specs.Versions.{Version}
use Rattle.vk_base.specs.Printed.{path_text}
use Rattle.vk_base.specs.Tokens.{token_of}
use Rattle.vk_version.specs.ClassWords.{class_word}
use Rattle.vk_resolution.specs.Keys.{Key, in_order}
use Rattle.vk_resolution.specs.Lines.{ended}
use Rattle.vk_model.specs.declared.builders.Builder.{Builder}
use Rattle.vk_abi_text.specs.Inputs.{DepDigest, FileDigest, Input}

-- what a line says
pub data AbiLine : Type 0 where
  builder_line : Builder → AbiLine
  dep_line : DepDigest → AbiLine
  feature_line : List ℕ → AbiLine
  file_line : FileDigest → AbiLine
  native_line : Bool → AbiLine
  port_line : List ℕ → AbiLine
  -- a triplet's name, and the digest of its file's bytes
  triplet_line : List ℕ → List ℕ → AbiLine
  version_line : Version → AbiLine

abbrev pub yes_or_no : Bool → List ℕ
yes_or_no true = codes "yes"
yes_or_no false = codes "no"

-- the fields of a line; digests are printed as hexadecimal digits
abbrev pub fields_of : AbiLine → List (List ℕ)
fields_of (builder_line b) = codes "builder" ∷ token_of b.name ∷ token_of b.text ∷ []
fields_of (dep_line d) = codes "dep" ∷ token_of d.instance.port ∷ token_of d.instance.triplet ∷ encode_lower d.digest ∷ []
fields_of (feature_line f) = codes "feature" ∷ token_of f ∷ []
fields_of (file_line f) = codes "file" ∷ path_text f.path ∷ encode_lower f.digest ∷ []
fields_of (native_line native) = codes "native" ∷ yes_or_no native ∷ []
fields_of (port_line p) = codes "port" ∷ token_of p ∷ []
fields_of (triplet_line t digest) = codes "triplet" ∷ token_of t ∷ encode_lower digest ∷ []
fields_of (version_line v) = codes "version" ∷ class_word v.class ∷ token_of v.text ∷ decimal v.port ∷ []

-- a line is its fields, with blanks between
abbrev pub line_text : AbiLine → List ℕ
line_text line = join_with_byte 32 (fields_of line)

-- the lines that say an input
abbrev pub lines_of : Input → List AbiLine
lines_of i =
    builder_line i.builder ∷ native_line i.native ∷ port_line i.port ∷ triplet_line i.triplet i.triplet_digest ∷ version_line i.version
    ∷ (map dep_line i.deps ++ map feature_line i.features ++ map file_line i.files)

-- texts are ordered by their bytes
abbrev pub text_key : List ℕ → Key
text_key text = text ∷ []

-- the texts of an input's lines, in the order of their bytes
abbrev pub texts_of : Input → List (List ℕ)
texts_of i = in_order text_key (map line_text (lines_of i))

-- the first line, and with its end
abbrev pub first_text : List ℕ
first_text = codes "abi 2"

abbrev pub heading : List ℕ
heading = ended first_text

abbrev pub abi_text_of : Input → List ℕ
abi_text_of i = heading ++ flat_map ended (texts_of i)
