-- Which bytes are the ABI text of which input, and which line breaks every other text.
use Rattle.std.specs.Prelude.{◌≡◌, ◌≢◌, ◌⊎◌, ◌≤◌, ◌+◌, ◌++◌, ℕ, List, [], ◌∷◌, length, map, flat_map, Result, Ok, Err}
use Rattle.std.specs.List.{All, Contains}
use Rattle.vk_spec.specs.Manifests.{core}
use Rattle.vk_spec.specs.Lists.{NoRepeats}
use Rattle.vk_base.specs.declared.stops.Unread.{Unread}
use Rattle.vk_base.specs.declared.stops.Unread.TheVariants as unread
use Rattle.vk_resolution.specs.Keys.{Ascends, Key, in_order}
use Rattle.vk_resolution.specs.Lines.{ended}
use Rattle.vk_abi_text.specs.Gathered.{Gathered, gathered}
use Rattle.vk_abi_text.specs.Inputs.{Input}
use Rattle.vk_abi_text.specs.Lines.{AbiLine, abi_text_of, dep_line, feature_line, file_line, first_text, heading, line_text, text_key}
use Rattle.vk_abi_text.specs.Rights.{IsReadable, IsReadableLine, IsRightInput}
use Rattle.vk_abi_text.specs.Views.{input_view, line_in}
use Rattle.vk_abi_text.specs.declared.inputs.AbiInput.{AbiInput}
use Rattle.vk_abi_text.specs.declared.readers.AbiFault.{AbiFault}

-- lines are ordered by the bytes of their texts
abbrev pub line_key : AbiLine → Key
line_key line = text_key (line_text line)

-- an input whose lists are in the order of their lines
abbrev pub ordered : Input → Input
ordered i = record {
  builder = i.builder;
  port = i.port;
  version = i.version;
  features = in_order (λ f. line_key (feature_line f)) i.features;
  triplet = i.triplet;
  triplet_digest = i.triplet_digest;
  native = i.native;
  files = in_order (λ f. line_key (file_line f)) i.files;
  deps = in_order (λ d. line_key (dep_line d)) i.deps;
}

-- the bytes are the text of this input
pub record IsRead (bytes : List ℕ) (i : Input) : Type 0 where
  pub text : bytes ≡ abi_text_of i
  pub right : IsRightInput i
  pub readable : IsReadable i
  pub ordered : ordered i ≡ i

-- of five kinds there is at most one line each, and no feature, path or instance stands in two
pub record HaveNoSecond (said : Gathered) : Type 0 where
  pub builder : length said.builders ≤ 1
  pub each_instance : NoRepeats (map (λ d. d.instance) said.deps)
  pub each_feature : NoRepeats said.features
  pub each_path : NoRepeats (map (λ f. f.path) said.files)
  pub native : length said.natives ≤ 1
  pub port : length said.ports ≤ 1
  pub triplet : length said.triplets ≤ 1
  pub version : length said.versions ≤ 1

-- lines that may stand behind the first line of a text
pub record MayStand (lines : List AbiLine) : Type 0 where
  pub readable : All IsReadableLine lines
  pub ascends : Ascends line_key lines
  pub no_second : HaveNoSecond (gathered lines)

-- no line lacks
pub record AreAll (said : Gathered) : Type 0 where
  pub builder : said.builders ≢ []
  pub core : Contains said.features core
  pub native : said.natives ≢ []
  pub port : said.ports ≢ []
  pub triplet : said.triplets ≢ []
  pub version : said.versions ≢ []

-- lines, each ended
abbrev pub text_of_lines : List AbiLine → List ℕ
text_of_lines lines = flat_map (λ l. ended (line_text l)) lines

-- the bytes begin with this line, or are it without its end
abbrev pub IsFirstOf : AbiLine → List ℕ → Type 0
IsFirstOf line bytes = (bytes ≡ line_text line) ⊎ ((more : List ℕ) × (bytes ≡ ended (line_text line) ++ more))

-- the first line of the bytes, counted from 1, that breaks the rules, where last bytes without a line feed are a line; it is the one behind the last where a line lacks or the end of the last
pub data IsRefusedAt (bytes : List ℕ) (n : ℕ) : Type 0 where
  -- the bytes don't begin with the first line
  by_heading : n ≡ 1 → (bytes ≡ first_text → ⊥) → ((rest : List ℕ) → bytes ≡ heading ++ rest → ⊥) → IsRefusedAt bytes n
  -- they are the first line, which lacks its end
  by_heading_end : n ≡ 2 → bytes ≡ first_text → IsRefusedAt bytes n
  -- these lines may stand there, and none that may stand behind them follows; where nothing follows, one of them lacks
  by_line : (lines : List AbiLine) (left : List ℕ) → bytes ≡ heading ++ text_of_lines lines ++ left → MayStand lines → n ≡ length lines + 2
      → ((line : AbiLine) → IsFirstOf line left → MayStand (lines ++ line ∷ []) → ⊥)
      → (left ≡ [] → AreAll (gathered lines) → ⊥) → IsRefusedAt bytes n
  -- all lines may stand there, and the last one lacks its end
  by_end : (lines : List AbiLine) (last : AbiLine) → bytes ≡ heading ++ text_of_lines lines ++ line_text last → MayStand (lines ++ last ∷ []) → n ≡ length lines + 3 → IsRefusedAt bytes n

-- what reading answers
abbrev pub Reading : Type 0
Reading = Result AbiInput (Unread AbiFault)

-- the input of which the bytes are the text, or the first line that breaks
abbrev pub Ends : List ℕ → Reading → Type 0
Ends bytes (Ok input) = IsRead bytes (input_view input)
Ends bytes (Err (unread.Fault fault)) = IsRefusedAt bytes (line_in fault)
Ends bytes (Err (unread.Memory memory)) = Unit {0}

-- this input, unless memory ran out
abbrev pub IsInput : Input → Reading → Type 0
IsInput i (Ok input) = input_view input ≡ i
IsInput i (Err (unread.Fault fault)) = ⊥
IsInput i (Err (unread.Memory memory)) = Unit {0}
