-- What lines say, kind by kind.
use Rattle.std.specs.Prelude.{ℕ, Bool, List, [], ◌∷◌, flat_map}
use Rattle.vk_spec.specs.Versions.{Version}
use Rattle.vk_model.specs.declared.builders.Builder.{Builder}
use Rattle.vk_abi_text.specs.Inputs.{DepDigest, FileDigest}
use Rattle.vk_abi_text.specs.Lines.{AbiLine, builder_line, dep_line, feature_line, file_line, native_line, port_line, triplet_line, version_line}

-- ---- what a line says, where it is of a kind

abbrev pub builders_in : AbiLine → List Builder
builders_in (builder_line b) = b ∷ []
builders_in other = []

abbrev pub deps_in : AbiLine → List DepDigest
deps_in (dep_line d) = d ∷ []
deps_in other = []

abbrev pub features_in : AbiLine → List (List ℕ)
features_in (feature_line f) = f ∷ []
features_in other = []

abbrev pub files_in : AbiLine → List FileDigest
files_in (file_line f) = f ∷ []
files_in other = []

abbrev pub natives_in : AbiLine → List Bool
natives_in (native_line native) = native ∷ []
natives_in other = []

abbrev pub ports_in : AbiLine → List (List ℕ)
ports_in (port_line p) = p ∷ []
ports_in other = []

abbrev pub triplets_in : AbiLine → List (List ℕ × List ℕ)
triplets_in (triplet_line t digest) = (t, digest) ∷ []
triplets_in other = []

abbrev pub versions_in : AbiLine → List Version
versions_in (version_line v) = v ∷ []
versions_in other = []

-- ---- what lines say, in their order

pub record Gathered : Type 0 where
  pub builders : List Builder
  pub deps : List DepDigest
  pub features : List (List ℕ)
  pub files : List FileDigest
  pub natives : List Bool
  pub ports : List (List ℕ)
  pub triplets : List (List ℕ × List ℕ)
  pub versions : List Version

abbrev pub gathered : List AbiLine → Gathered
gathered lines = record {
  builders = flat_map builders_in lines;
  deps = flat_map deps_in lines;
  features = flat_map features_in lines;
  files = flat_map files_in lines;
  natives = flat_map natives_in lines;
  ports = flat_map ports_in lines;
  triplets = flat_map triplets_in lines;
  versions = flat_map versions_in lines;
}
