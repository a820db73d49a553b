-- The schemes of version texts.

-- numbers joined by dots, with a pre-release and build metadata; Semantic Versioning 2.0.0; a day
-- and numbers; any text
pub data Scheme : Type 0 where
  relaxed : Scheme
  semver : Scheme
  date : Scheme
  string : Scheme
