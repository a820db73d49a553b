-- The parts of a path as one text with `/` between, and their order as bytes.
use Rattle.std.specs.Prelude.{◌≡◌, ◌≢◌, ◌==◌, ◌<◌, ◌⊎◌, ℕ, suc, List, [], ◌∷◌, length, if◌then◌else◌}
use Rattle.std.specs.List.{slice_split}
use Rattle.vk_spec.specs.Paths.{Path}

-- the parts that a text says: none where it is empty, else what stands between the slashes
abbrev pub parts_in : List ℕ → Path
parts_in [] = []
parts_in (b ∷ text) = slice_split (λ c. c == 47) (b ∷ text)

-- where a byte stands in the order of joined parts: `/` before every other
abbrev pub rank : ℕ → ℕ
rank b = if b == 47 then 0 else suc b

-- what stands after a front and what follows then: nothing, or `/` and more
abbrev pub IsBelow : List ℕ → List ℕ → Type 0
IsBelow rest more = ((rest ≡ []) × (more ≡ [])) ⊎ (rest ≡ 47 ∷ more)

abbrev pub IsOtherwise : List ℕ → Type 0
IsOtherwise rest = (0 < length rest) × ((more : List ℕ) → rest ≢ 47 ∷ more)
