-- Reading the numbers of a dotted text, one after the other.
use Rattle.std.proofs.Common.{◌≡◌, ◌<◌, ◌++◌, ◌==◌, ℕ, true, false, List, ◌∷◌, length}
use Rattle.std.proofs.Common.{Option, Some, None}
use Rattle.std.specs.Prelude.{MatchOption, IfSome}
use Rattle.std.specs.Borrow.{Bor}
use Rattle.std.specs.List.{list_any, after_first}
use Rattle.std.specs.Str.{IsUtf8}
use Rattle.semver.specs.Order.{parts}
use Rattle.vk_version.specs.Texts.{is_dotted, numbers_in, all_fit, first_part}
use Rattle.vk_version.specs.Steps.{parts_in}
use Rattle.vk_version.proofs.CutLemmas.{uncut, cut_at, after_shorter}

-- a text is cut at its first dot, if it has one
abbrev pub IsCutAtDot : List ℕ → Option (Bor (List ℕ)) → Type 0
IsCutAtDot text rest = MatchOption rest (list_any (λ b. b == 46) text ≡ false)
    (λ r. (list_any (λ b. b == 46) text ≡ true) × (r.now ≡ after_first (λ b. b == 46) text))

-- its parts are the first one and those of the rest
pub cut_parts : (text front : List ℕ) (rest : Option (Bor (List ℕ))) → front ≡ first_part text
    → IsCutAtDot text rest → parts text ≡ front ∷ parts_in rest
cut_parts text front None first cut = rw first (uncut (λ b. b == 46) text cut)
cut_parts text front (Some r) first cut =
    rw (first, cut.1) (cut_at (λ b. b == 46) text 0 cut.0)

pub cut_shorter : (text : List ℕ) (rest : Option (Bor (List ℕ))) → IsCutAtDot text rest
    → IfSome rest (λ r. length r.now < length text)
cut_shorter text None cut = tt
cut_shorter text (Some r) cut = rw cut.1 (after_shorter (λ b. b == 46) text cut.0)

-- the numbers so far and those of what is left are the numbers of all
pub record Leaves (old : List ℕ) (whole : List ℕ) (numbers : List ℕ) (left : List ℕ) : Type 0 where
  pub utf8 : IsUtf8 left
  pub dotted : is_dotted left ≡ true
  pub same : numbers ++ numbers_in left ≡ old ++ numbers_in whole
  pub fit : all_fit (numbers_in left) ≡ all_fit (numbers_in whole)
