-- When two inputs are one build: they differ at most in the order of their lists.
use Rattle.std.specs.Prelude.{◌≡◌, ◌↔◌, List}
use Rattle.std.specs.List.{Contains}
use Rattle.vk_abi_text.specs.Inputs.{Input}
use Rattle.vk_abi_text.specs.Lines.{abi_text_of}
use Rattle.vk_abi_text.specs.Rights.{IsRightInput}

abbrev pub HaveSame : {X : Type 0} → List X → List X → Type 0
HaveSame {X} xs ys = (x : X) → Contains xs x ↔ Contains ys x

pub record SameInput (i j : Input) : Type 0 where
  pub builder : i.builder ≡ j.builder
  pub port : i.port ≡ j.port
  pub version : i.version ≡ j.version
  pub features : HaveSame i.features j.features
  pub triplet : i.triplet ≡ j.triplet
  pub triplet_digest : i.triplet_digest ≡ j.triplet_digest
  pub native : i.native ≡ j.native
  pub files : HaveSame i.files j.files
  pub deps : HaveSame i.deps j.deps

-- right inputs with one text are one build, however long their paths are
abbrev pub TextsTellInputs : Type 0
TextsTellInputs = (i j : Input) → IsRightInput i → IsRightInput j → abi_text_of i ≡ abi_text_of j → SameInput i j
