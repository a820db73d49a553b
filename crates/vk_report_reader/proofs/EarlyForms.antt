-- Early lines are put together from their parts.
use Rattle.std.proofs.Common.{◌≡◌, ◌++◌, ℕ, List, inl, inr, refl, ap, sym, ◌∙◌, codes}
use Rattle.vk_spec.specs.Paths.{Path}
use Rattle.vk_spec.specs.Earlies.{Early, bad_file, two_configurations, no_triplet, overlap, blocked}
use Rattle.vk_base.specs.Names.{IsName, word_rule}
use Rattle.vk_base.specs.Printed.{path_text}
use Rattle.vk_base.specs.Tokens.{token_of}
use Rattle.vk_base.proofs.PathLemmas.{lacks_byte}
use Rattle.vk_json.specs.Places.{place_text}
use Rattle.vk_json.specs.Words.{HasSmallNumber, word_of}
use Rattle.vk_model.specs.Lines.{early_line}
use Rattle.vk_forms.specs.Choices.{either_text, IsRightEither}
use Rattle.vk_report_reader.specs.Earlies.{EarlyParts, FileParts, FolderParts, IsRightEarly, early_from, early_of}
use Rattle.vk_forms.specs.Words.{IsWord}
use Rattle.vk_forms.specs.Forms.{pair_text, IsRightPair}
use Rattle.vk_forms.specs.Paths.{IsPlace, IsRightPath}
use Rattle.vk_forms.specs.Words.{Any}
use Rattle.vk_forms.proofs.PathForms.{path_blank, place_blank}
use Rattle.vk_report_reader.proofs.Spaced.{spaced2, spaced3}
use Rattle.vk_forms.proofs.Through.{AreParts}

abbrev pub triplet_text : Unit {0} × List ℕ → List ℕ
triplet_text = pair_text 32 (λ u. codes "no-triplet") token_of

abbrev pub IsTripletLine : Unit {0} × List ℕ → Type 0
IsTripletLine = IsRightPair 32 (λ u. codes "no-triplet") Any (IsName word_rule)

abbrev pub file_text : {W : Type 0} → (W → List ℕ) → FileParts W → List ℕ
file_text says = pair_text 32 (λ u. codes "bad-file") (pair_text 32 path_text (pair_text 32 place_text says))

abbrev pub IsFileLine : {W : Type 0} → (W → Type 0) → FileParts W → Type 0
IsFileLine is_right = IsRightPair 32 (λ u. codes "bad-file") Any (IsRightPair 32 path_text IsRightPath (IsRightPair 32 place_text IsPlace is_right))

abbrev pub overlap_text : Unit {0} × (Path × Path) → List ℕ
overlap_text = pair_text 32 (λ u. codes "overlap") (pair_text 32 path_text path_text)

abbrev pub IsOverlapLine : Unit {0} × (Path × Path) → Type 0
IsOverlapLine = IsRightPair 32 (λ u. codes "overlap") Any (IsRightPair 32 path_text IsRightPath IsRightPath)

abbrev pub blocked_text : Unit {0} × Path → List ℕ
blocked_text = pair_text 32 (λ u. codes "blocked") path_text

abbrev pub IsBlockedLine : Unit {0} × Path → Type 0
IsBlockedLine = IsRightPair 32 (λ u. codes "blocked") Any IsRightPath

abbrev pub folder_text : FolderParts → List ℕ
folder_text = either_text overlap_text blocked_text

abbrev pub IsFolderLine : FolderParts → Type 0
IsFolderLine = IsRightEither IsOverlapLine IsBlockedLine

abbrev pub early_text : {W : Type 0} → (W → List ℕ) → EarlyParts W → List ℕ
early_text says = either_text (λ u. codes "two-configurations") (either_text triplet_text (either_text (file_text says) folder_text))

abbrev pub AreEarlyParts : {W : Type 0} → (W → Type 0) → EarlyParts W → Type 0
AreEarlyParts is_right = IsRightEither Any (IsRightEither IsTripletLine (IsRightEither (IsFileLine is_right) IsFolderLine))

-- whatever it is that tells the words for what is wrong with a file
module _ {W : Type 0} (says : W → List ℕ) (is_right : W → Type 0) (is_word : (w : W) → is_right w → IsWord (says w)) (of_word : (word : List ℕ) → IsWord word → (w : W) × (is_right w × (word ≡ says w))) where
  made_of : (p : EarlyParts W) → AreEarlyParts is_right p → (early_text says p ≡ early_line (early_from says p)) × IsRightEarly (early_from says p)
  made_of (inl u) right = (refl, tt)
  made_of (inr (inl p)) right = (refl, right.2)
  made_of (inr (inr (inl p))) right = (
    sym (ap (λ l. codes "bad-file " ++ l) (spaced3 (path_text p.1.0) (place_text p.1.1.0) (says p.1.1.1))),
    (right.2.0, right.2.2.0, is_word p.1.1.1 right.2.2.2),
  )
  made_of (inr (inr (inr (inl p)))) right = (sym (ap (λ l. codes "overlap " ++ l) (spaced2 (path_text p.1.0) (path_text p.1.1))), (right.2.0, right.2.2))
  made_of (inr (inr (inr (inr p)))) right = (refl, right.2)

  parts_of : (x : Early) → IsRightEarly x → (p : EarlyParts W) × (AreEarlyParts is_right p × (early_line x ≡ early_text says p) × (x ≡ early_from says p))
  parts_of two_configurations right = (inl tt, (tt, refl, refl))
  parts_of (no_triplet t) right = (inr (inl (tt, t)), ((tt, lacks_byte 32 (codes "no-triplet") refl, right), refl, refl))
  parts_of (bad_file path place word) right =
      let said = of_word word right.2 in (
        inr (inr (inl (tt, (path, (place, said.0))))),
        (
          (tt, lacks_byte 32 (codes "bad-file") refl, (right.0, path_blank path right.0, (right.1, place_blank place right.1, said.1.0))),
          ap (λ w. early_line (bad_file path place w)) said.1.1 ∙ ap (λ l. codes "bad-file " ++ l) (spaced3 (path_text path) (place_text place) (says said.0)),
          ap (bad_file path place) said.1.1,
        ),
      )
  parts_of (overlap first second) right = (
    inr (inr (inr (inl (tt, (first, second))))),
    (
      (tt, lacks_byte 32 (codes "overlap") refl, (right.0, path_blank first right.0, right.1)),
      ap (λ l. codes "overlap " ++ l) (spaced2 (path_text first) (path_text second)),
      refl,
    ),
  )
  parts_of (blocked path) right = (inr (inr (inr (inr (tt, path)))), ((tt, lacks_byte 32 (codes "blocked") refl, right), refl, refl))

  parts_are : AreParts (early_text says) (AreEarlyParts is_right) early_line IsRightEarly (early_from says)
  parts_are = record { made = made_of; parts = parts_of }

pub early_parts_are : AreParts (early_text word_of) (AreEarlyParts HasSmallNumber) early_line IsRightEarly early_of
early_parts_are = parts_are word_of HasSmallNumber (λ why small. record { why = why; small = small; is = refl }) (λ word is. (is.why, (is.small, is.is)))

-- the same with the words themselves
pub early_words_are : AreParts (early_text (λ w. w)) (AreEarlyParts IsWord) early_line IsRightEarly (early_from (λ w. w))
early_words_are = parts_are (λ w. w) IsWord (λ word is. is) (λ word is. (word, (is, refl)))
