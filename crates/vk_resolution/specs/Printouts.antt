-- Worked projects as they are printed.
use Rattle.std.specs.Prelude.{◌≡◌, ℕ, List, [], ◌∷◌, flat_map, length, codes}
use Rattle.vk_resolution.specs.Consequences.{Inputs}
use Rattle.vk_resolution.specs.Outcomes.{Outcome, planned, refused, IsOutcome}
use Rattle.vk_resolution.specs.Lines.{fault_line, item_text, ended, numbered_lines, report_text}
use Rattle.vk_resolution.specs.Agreement.{reasons_in}

-- these lines, each ended
abbrev pub lines : List (List ℕ) → List ℕ
lines texts = flat_map ended texts

-- what follows from the inputs prints these lines
abbrev pub Prints : Inputs → List (List ℕ) → Type 0
Prints inputs texts = (o : Outcome) × IsOutcome inputs fault_line o × (report_text o ≡ lines texts)

-- the lines of the plan or of the faults
abbrev pub told_lines : Outcome → List ℕ
told_lines (planned items reasons) = numbered_lines item_text 1 items
told_lines (refused faults reasons) = flat_map (λ f. ended (fault_line f)) faults

-- what follows from the inputs tells these lines, with so many reasons
pub record Tells (inputs : Inputs) (texts : List (List ℕ)) (reasons : ℕ) : Type 0 where
  pub outcome : Outcome
  pub is_outcome : IsOutcome inputs fault_line outcome
  pub told : told_lines outcome ≡ lines texts
  pub many : length (reasons_in outcome) ≡ reasons

-- a raised minimum, whole
abbrev pub raised_minimum_printed : List (List ℕ)
raised_minimum_printed =
    codes "vcpkg-plan 1"
    ∷ codes "status planned"
    ∷ codes "plan 2"
    ∷ codes "1 b x64-linux 1.2#0 10 core"
    ∷ codes "2 a x64-linux 1.0#0 5 core"
    ∷ codes "reasons 15"
    ∷ codes "1 need . x64-linux core root"
    ∷ codes "2 need . x64-linux default root"
    ∷ codes "3 need a x64-linux core from 1"
    ∷ codes "4 need a x64-linux default from 1"
    ∷ codes "5 floor a 1.0#0 baseline 3"
    ∷ codes "6 visit a x64-linux core 1.0#0 from 3 5"
    ∷ codes "7 visit a x64-linux default 1.0#0 from 4 5"
    ∷ codes "8 need b x64-linux core from 6"
    ∷ codes "9 need b x64-linux default from 6"
    ∷ codes "10 floor b 1.2#0 minimum 6"
    ∷ codes "11 floor b 1.1#0 baseline 8"
    ∷ codes "12 visit b x64-linux core 1.2#0 from 8 10"
    ∷ codes "13 visit b x64-linux default 1.2#0 from 9 10"
    ∷ codes "14 visit b x64-linux core 1.1#0 from 8 11"
    ∷ codes "15 visit b x64-linux default 1.1#0 from 9 11"
    ∷ codes "end"
    ∷ []

-- the plan of a realistic project
abbrev pub realistic_told : List (List ℕ)
realistic_told =
    codes "1 vcpkg-cmake x64-linux 2023-05-04#0 14 core"
    ∷ codes "2 fmt x64-linux 10.1.1#0 13 core"
    ∷ codes "3 openssl x64-linux 3.1.3#0 27 core"
    ∷ codes "4 zlib x64-linux 1.3#0 15 core"
    ∷ codes "5 curl x64-linux 8.4.0#0 12 core,ssl"
    ∷ []

-- one line
abbrev pub single_line : List ℕ → List (List ℕ)
single_line text = text ∷ []

-- an override, whole
abbrev pub overridden_printed : List (List ℕ)
overridden_printed =
    codes "vcpkg-plan 1"
    ∷ codes "status planned"
    ∷ codes "plan 3"
    ∷ codes "1 s x64-linux alpha#0 15 core"
    ∷ codes "2 p x64-linux 1#0 7 core"
    ∷ codes "3 q x64-linux 1#0 8 core"
    ∷ codes "reasons 17"
    ∷ codes "1 need . x64-linux core root"
    ∷ codes "2 need . x64-linux default root"
    ∷ codes "3 need p x64-linux core from 1"
    ∷ codes "4 need p x64-linux default from 1"
    ∷ codes "5 need q x64-linux core from 1"
    ∷ codes "6 need q x64-linux default from 1"
    ∷ codes "7 floor p 1#0 baseline 3"
    ∷ codes "8 floor q 1#0 baseline 5"
    ∷ codes "9 visit p x64-linux core 1#0 from 3 7"
    ∷ codes "10 visit p x64-linux default 1#0 from 4 7"
    ∷ codes "11 visit q x64-linux core 1#0 from 5 8"
    ∷ codes "12 visit q x64-linux default 1#0 from 6 8"
    ∷ codes "13 need s x64-linux core from 9"
    ∷ codes "14 need s x64-linux default from 9"
    ∷ codes "15 floor s alpha#0 override 13"
    ∷ codes "16 visit s x64-linux core alpha#0 from 13 15"
    ∷ codes "17 visit s x64-linux default alpha#0 from 14 15"
    ∷ codes "end"
    ∷ []
