-- Which marks hold for the instances of a triplet.
use Rattle.std.specs.Prelude.{◌≡◌, ◌≢◌, ◌↔◌, ℕ, List, codes}
use Rattle.std.specs.List.{Contains}
use Rattle.vk_spec.specs.Settings.{Setting}
use Rattle.vk_resolution.specs.Settings.{marks_of}

-- for the host's triplet, its marks and `native`; for any other, the target's marks
pub data HoldsFor (s : Setting) (triplet mark : List ℕ) : Type 0 where
  of_host : triplet ≡ s.host.name → Contains s.host.marks mark → HoldsFor s triplet mark
  native_of_host : triplet ≡ s.host.name → mark ≡ codes "native" → HoldsFor s triplet mark
  of_target : triplet ≢ s.host.name → Contains s.target.marks mark → HoldsFor s triplet mark

-- the listed marks are these
abbrev pub MarksMean : Type 0
MarksMean = (s : Setting) (triplet mark : List ℕ) → Contains (marks_of s triplet) mark ↔ HoldsFor s triplet mark
