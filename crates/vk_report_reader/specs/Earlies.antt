-- Which early lines stand in a report, and how they are put together from what is read.
use Rattle.std.specs.Prelude.{◌⊎◌, ℕ, List}
use Rattle.std.proofs.Common.{inl, inr}
use Rattle.vk_spec.specs.Paths.{Path}
use Rattle.vk_spec.specs.Earlies.{Early, bad_file, two_configurations, no_triplet, overlap, blocked}
use Rattle.vk_base.specs.Names.{IsName, word_rule}
use Rattle.vk_json.specs.Words.{word_of}
use Rattle.vk_json.specs.declared.faults.Why.{Why}
use Rattle.vk_forms.specs.declared.choices.Either.{Either}
use Rattle.vk_forms.specs.Choices.{either_plain}
use Rattle.vk_forms.specs.Words.{IsWord}
use Rattle.vk_forms.specs.Forms.{pair_plain}
use Rattle.vk_forms.specs.Paths.{IsPlace, IsRightPath}

abbrev pub IsRightEarly : Early → Type 0
IsRightEarly (bad_file path place word) = IsRightPath path × IsPlace place × IsWord word
IsRightEarly two_configurations = Unit {0}
IsRightEarly (no_triplet triplet) = IsName word_rule triplet
IsRightEarly (overlap first second) = IsRightPath first × IsRightPath second
IsRightEarly (blocked path) = IsRightPath path

-- a word with a path, a place and what is wrong there, which is a word or its cause
abbrev pub FileParts : Type 0 → Type 0
FileParts W = Unit {0} × (Path × (List ℕ × W))

-- a word with two paths, or with one
abbrev pub FolderParts : Type 0
FolderParts = (Unit {0} × (Path × Path)) ⊎ (Unit {0} × Path)

-- a word alone; or with a triplet; or what is wrong with a file or a folder
abbrev pub EarlyParts : Type 0 → Type 0
EarlyParts W = Unit {0} ⊎ ((Unit {0} × List ℕ) ⊎ (FileParts W ⊎ FolderParts))

abbrev pub file_parts : FileParts Why → FileParts Why
file_parts = pair_plain (λ u. u) (pair_plain (λ x. x) (pair_plain (λ x. x) (λ x. x)))

abbrev pub folder_parts : Either (Unit {0} × (Path × Path)) (Unit {0} × Path) → FolderParts
folder_parts = either_plain (pair_plain (λ u. u) (pair_plain (λ x. x) (λ x. x))) (pair_plain (λ u. u) (λ x. x))

abbrev pub early_parts : Either (Unit {0}) (Either (Unit {0} × List ℕ) (Either (FileParts Why) (Either (Unit {0} × (Path × Path)) (Unit {0} × Path)))) → EarlyParts Why
early_parts = either_plain (λ u. u) (either_plain (pair_plain (λ u. u) (λ x. x)) (either_plain file_parts folder_parts))

abbrev pub early_from : {W : Type 0} → (W → List ℕ) → EarlyParts W → Early
early_from says (inl u) = two_configurations
early_from says (inr (inl p)) = no_triplet p.1
early_from says (inr (inr (inl p))) = bad_file p.1.0 p.1.1.0 (says p.1.1.1)
early_from says (inr (inr (inr (inl p)))) = overlap p.1.0 p.1.1
early_from says (inr (inr (inr (inr p)))) = blocked p.1

abbrev pub early_of : EarlyParts Why → Early
early_of = early_from word_of
