-- A line and its line feed.
use Rattle.std.proofs.Common.{◌≡◌, ◌++◌, ◌∷◌, ℕ, List, [], append_assoc}

pub ended_line : (line more : List ℕ) → (line ++ 10 ∷ []) ++ more ≡ line ++ 10 ∷ more
ended_line line more = append_assoc line (10 ∷ []) more
