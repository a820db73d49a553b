-- How lines are put together from what is read.
use Rattle.std.specs.Prelude.{◌⊎◌, ◌++◌, ℕ, Bool, List, ◌∷◌, decimal}
use Rattle.std.proofs.Common.{inl, inr}
use Rattle.hex.specs.Hex.{encode_lower}
use Rattle.vk_spec.specs.Versions.{Version}
use Rattle.vk_base.specs.Printed.{path_text}
use Rattle.vk_base.specs.Tokens.{token_of}
use Rattle.vk_version.specs.ClassWords.{class_word}
use Rattle.vk_model.specs.declared.builders.Builder.{Builder}
use Rattle.vk_abi_text.specs.Inputs.{DepDigest, FileDigest}
use Rattle.vk_abi_text.specs.Lines.{AbiLine, builder_line, dep_line, feature_line, file_line, native_line, port_line, triplet_line, version_line}

-- ---- what stands behind the first word of a line

abbrev pub builder_text : Builder → List ℕ
builder_text b = token_of b.name ++ 32 ∷ token_of b.text

abbrev pub dep_text : DepDigest → List ℕ
dep_text d = token_of d.instance.port ++ 32 ∷ (token_of d.instance.triplet ++ 32 ∷ encode_lower d.digest)

abbrev pub file_text : FileDigest → List ℕ
file_text f = path_text f.path ++ 32 ∷ encode_lower f.digest

abbrev pub triplet_text : List ℕ × List ℕ → List ℕ
triplet_text t = token_of t.0 ++ 32 ∷ encode_lower t.1

abbrev pub version_text : Version → List ℕ
version_text v = class_word v.class ++ 32 ∷ (token_of v.text ++ 32 ∷ decimal v.port)

-- ---- a word and a value, of one of the kinds

abbrev pub Said : Type 0 → Type 0
Said X = Unit {0} × X

abbrev pub LineParts : Type 0
LineParts = Said Builder ⊎ (Said DepDigest ⊎ (Said (List ℕ) ⊎ (Said FileDigest ⊎ (Said Bool ⊎ (Said (List ℕ) ⊎ (Said (List ℕ × List ℕ) ⊎ Said Version))))))

abbrev pub line_of : LineParts → AbiLine
line_of (inl p) = builder_line p.1
line_of (inr (inl p)) = dep_line p.1
line_of (inr (inr (inl p))) = feature_line p.1
line_of (inr (inr (inr (inl p)))) = file_line p.1
line_of (inr (inr (inr (inr (inl p))))) = native_line p.1
line_of (inr (inr (inr (inr (inr (inl p)))))) = port_line p.1
line_of (inr (inr (inr (inr (inr (inr (inl p))))))) = triplet_line p.1.0 p.1.1
line_of (inr (inr (inr (inr (inr (inr (inr p))))))) = version_line p.1
