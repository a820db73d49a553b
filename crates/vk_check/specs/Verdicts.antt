-- Whether two texts are the same, and where they first differ.
use Rattle.std.specs.Prelude.{◌≡◌, ◌≢◌, ◌<◌, ◌+◌, ◌^◌, ◌++◌, ℕ, List, Option, option_map, take, length, slice_get}
use Rattle.vk_check.specs.Lines.{lines_of, without_feed}
use Rattle.vk_check.specs.declared.verdicts.Verdict.{Verdict}
use Rattle.vk_check.specs.declared.verdicts.Verdict.TheVariants.{Yes, No}

-- two lists are the same up to a place, counted from 0, and differ there
pub record DifferAt {X : Type 0} (one other : List X) (place : ℕ) : Type 0 where
  pub same : take place one ≡ take place other
  pub differ : slice_get one place ≢ slice_get other place

-- the first line, counted from 1, at which the texts differ, and the one that is wanted there, without its line feed
pub record IsNo (report want : List ℕ) (line : ℕ) (wanted : Option (List ℕ)) : Type 0 where
  pub place : ℕ
  pub number : line ≡ place + 1
  pub first : DifferAt (lines_of report) (lines_of want) place
  pub told : wanted ≡ option_map without_feed (slice_get (lines_of want) place)

abbrev pub IsVerdict : List ℕ → List ℕ → Verdict → Type 0
IsVerdict report want Yes = report ≡ want
IsVerdict report want (No line wanted) = IsNo report want line wanted

-- the lines with which both texts begin, and one more, can be counted
abbrev pub HasFewSharedLines : List ℕ → List ℕ → Type 0
HasFewSharedLines report want = (shared one other : List (List ℕ)) → lines_of report ≡ shared ++ one → lines_of want ≡ shared ++ other → length shared + 1 < 2 ^ 32

-- two texts have a verdict
abbrev pub VerdictExists : Type 0
VerdictExists = (report want : List ℕ) → (verdict : Verdict) × IsVerdict report want verdict

-- and no other
abbrev pub VerdictIsOne : Type 0
VerdictIsOne = (report want : List ℕ) (one other : Verdict) → IsVerdict report want one → IsVerdict report want other → one ≡ other

-- a verdict of no comes only where they differ
abbrev pub NoMeansDifferent : Type 0
NoMeansDifferent = (report want : List ℕ) (line : ℕ) (wanted : Option (List ℕ)) → IsVerdict report want (No line wanted) → report ≢ want
