-- How what lines say is gathered line by line.
use Rattle.std.specs.Prelude.{◌≡◌, ◌≢◌, ◌⊎◌, ◌<◌, ◌+◌, ◌^◌, ◌++◌, ℕ, Bool, true, false, List, [], ◌∷◌, length, map, option_to_list, Option, Some, None}
use Rattle.std.specs.Cmp.Lexicographic.{slice_cmp}
use Rattle.std.specs.Ordering.{nat_cmp}
use Rattle.std.specs.declared.cmp.Ordering.TheVariants.{Less}
use Rattle.vk_base.specs.FeatureViews.{feature_view}
use Rattle.vk_resolution.specs.Keys.{Ascends}
use Rattle.vk_abi_text.specs.Gathered.{Gathered, builders_in, deps_in, features_in, files_in, gathered, natives_in, ports_in, triplets_in, versions_in}
use Rattle.std.specs.List.{Contains}
use Rattle.vk_spec.specs.Manifests.{core}
use Rattle.vk_abi_text.specs.Inputs.{Input}
use Rattle.vk_abi_text.specs.Lines.{AbiLine, builder_line, dep_line, feature_line, file_line, heading, line_text, native_line, port_line, triplet_line, version_line}
use Rattle.vk_abi_text.specs.Forms.{triplet_parts}
use Rattle.vk_abi_text.specs.Readings.{MayStand, line_key, text_of_lines}
use Rattle.vk_abi_text.specs.Rights.{IsReadableLine}
use Rattle.vk_abi_text.specs.Views.{dep_view, file_view}
use Rattle.vk_abi_text.specs.declared.gathering.Gathering.{Gathering}

-- a list, and more at its end
abbrev pub with_more : {X : Type 0} → List X → List X → List X
with_more xs [] = xs
with_more xs (y ∷ ys) = with_more (xs ++ y ∷ []) ys

-- with what one more line says
abbrev pub with_line : AbiLine → Gathered → Gathered
with_line line said = record {
  builders = with_more said.builders (builders_in line);
  deps = with_more said.deps (deps_in line);
  features = with_more said.features (features_in line);
  files = with_more said.files (files_in line);
  natives = with_more said.natives (natives_in line);
  ports = with_more said.ports (ports_in line);
  triplets = with_more said.triplets (triplets_in line);
  versions = with_more said.versions (versions_in line);
}

-- no key of the last is this
abbrev pub IsOtherThanLast : {X K : Type 0} → (X → K) → List X → K → Type 0
IsOtherThanLast {X} key xs k = (before : List X) (x : X) → xs ≡ before ++ x ∷ [] → key x ≢ k

-- whether the key of the last is this
abbrev pub TellsLast : {X K : Type 0} → (X → K) → List X → K → Bool → Type 0
TellsLast key xs k true = IsOtherThanLast key xs k → ⊥
TellsLast key xs k false = IsOtherThanLast key xs k

-- a line that isn't told by what was gathered to be a second one
abbrev pub IsNew : AbiLine → Gathered → Type 0
IsNew (builder_line b) said = said.builders ≡ []
IsNew (dep_line d) said = IsOtherThanLast (λ e. e.instance) said.deps d.instance
IsNew (feature_line f) said = Unit {0}
IsNew (file_line f) said = IsOtherThanLast (λ g. g.path) said.files f.path
IsNew (native_line native) said = said.natives ≡ []
IsNew (port_line p) said = said.ports ≡ []
IsNew (triplet_line t digest) said = said.triplets ≡ []
IsNew (version_line v) said = said.versions ≡ []

abbrev pub gathering_view : Gathering → Gathered
gathering_view g = record {
  builders = option_to_list g.builder;
  deps = map dep_view g.deps;
  features = map feature_view g.features;
  files = map file_view g.files;
  natives = option_to_list g.native;
  ports = option_to_list g.port;
  triplets = map triplet_parts (option_to_list g.triplet);
  versions = option_to_list g.version;
}

-- a value is put where none was, or one is there
abbrev pub PutsOnce : {X : Type 0} → X → Option X → Option X → Bool → Type 0
PutsOnce x before after true = (before ≡ None) × (after ≡ Some x)
PutsOnce x before after false = before ≢ None

-- a value is put at the end, or the last has its key
abbrev pub PutsOther : {X K : Type 0} → (X → K) → X → List X → List X → Bool → Type 0
PutsOther key x before after true = IsOtherThanLast key before (key x) × (after ≡ before ++ x ∷ [])
PutsOther key x before after false = IsOtherThanLast key before (key x) → ⊥

-- a new line is added, or it is a second one
abbrev pub Adds : AbiLine → Gathered → Gathered → Bool → Type 0
Adds line before after true = IsNew line before × (after ≡ with_line line before)
Adds line before after false = IsNew line before → ⊥

-- lists that are in the order of their lines
pub record AreOrdered (said : Gathered) : Type 0 where
  pub deps : Ascends (λ d. line_key (dep_line d)) said.deps
  pub features : Ascends (λ f. line_key (feature_line f)) said.features
  pub files : Ascends (λ f. line_key (file_line f)) said.files

-- the text of the last of some lines, which is empty where there is none
abbrev pub last_text : List AbiLine → List ℕ
last_text [] = []
last_text (l ∷ []) = line_text l
last_text (l ∷ m ∷ lines) = last_text (m ∷ lines)

-- these lines were read and gathered, the last of them has this text, this is left of the bytes, and so many is the next line
pub record Led (bytes : List ℕ) (said : Gathered) (last left : List ℕ) (next : ℕ) : Type 0 where
  pub lines : List AbiLine
  pub split : bytes ≡ heading ++ text_of_lines lines ++ left
  pub stand : MayStand lines
  pub all : said ≡ gathered lines
  pub ordered : AreOrdered (gathered lines)
  pub last_is : last ≡ last_text lines
  pub count : next ≡ length lines + 2
  pub room : next + length left < 2 ^ 32

-- a text is that of a line, which is above the last and new
pub record IsNext (last text : List ℕ) (said : Gathered) (line : AbiLine) : Type 0 where
  pub readable : IsReadableLine line
  pub is : text ≡ line_text line
  pub above : slice_cmp nat_cmp last text ≡ Less
  pub new : IsNew line said

-- the line that a text is comes next, and is gathered; or none does
abbrev pub Follows : List ℕ → List ℕ → Gathered → Gathered → Bool → Type 0
Follows last text before after true = (line : AbiLine) × (IsNext last text before line × (after ≡ with_line line before))
Follows last text before after false = (line : AbiLine) → IsNext last text before line → ⊥

-- which line is refused where last bytes lack their line feed: the one behind them where they are a line that comes next, else they
abbrev pub CountsLast : List ℕ → List ℕ → Gathered → ℕ → ℕ → Type 0
CountsLast last left said number n =
    ((line : AbiLine) × IsNext last left said line × (n ≡ number + 1)) ⊎ (((line : AbiLine) → IsNext last left said line → ⊥) × (n ≡ number))

-- the input that was gathered, where nothing lacks
pub record IsInputOf (said : Gathered) (i : Input) : Type 0 where
  pub builder : said.builders ≡ i.builder ∷ []
  pub deps : said.deps ≡ i.deps
  pub features : said.features ≡ i.features
  pub has_core : Contains said.features core
  pub files : said.files ≡ i.files
  pub native : said.natives ≡ i.native ∷ []
  pub port : said.ports ≡ i.port ∷ []
  pub triplet : said.triplets ≡ (i.triplet, i.triplet_digest) ∷ []
  pub version : said.versions ≡ i.version ∷ []
