-- The words after the command, read one after the other.
use Rattle.std.proofs.Common.{◌≡◌, ◌+◌, ◌<◌, ◌≤◌, ℕ, List, [], ◌∷◌, ◌++◌, length, drop, get_or, map, ◌∙◌, ap}
use Rattle.std.specs.Prelude.{Option, Result, Ok}
use Rattle.std.proofs.lemmas.List.{map-id}
use Rattle.vk_spec.specs.Reading.{read_after, Fails}
use Rattle.vk_spec.proofs.ReadingLemmas.{after_goes_on, after_ends, after_is_done}
use Rattle.vk_base.specs.declared.words.Word.{Word}
use Rattle.vk_words.specs.WordViews.{word_view}

-- where what is read stands for itself
module _ {A F : Type 0} (f : List A → ℕ → Option (List ℕ) → Result A F) where
  -- what is left to read after some words
  abbrev pub left_after : List A → ℕ → List Word → Result (List A) F
  left_after read i words = read_after f (map (λ a. a) read) i (drop i (map word_view words))

  pub word_goes_on : (read : List A) (x : A) (i : ℕ) (words : List Word) (word : Word) (total : Result (List A) F)
      → i < length words → word ≡ get_or words i word → f read i (word_view word) ≡ Ok x
      → left_after read i words ≡ total → left_after (read ++ x ∷ []) (i + 1) words ≡ total
  word_goes_on read x i words word total within is reads so_far =
      after_goes_on word_view (λ a. a) f read x i words word total within is (rw (map-id read) reads) so_far

  pub word_ends : (told : Option F) (read : List A) (i : ℕ) (words : List Word) (word : Word) (total : Result (List A) F)
      → i < length words → word ≡ get_or words i word → Fails told (f read i (word_view word))
      → left_after read i words ≡ total → Fails told total
  word_ends told read i words word total within is fails so_far =
      after_ends word_view (λ a. a) f told read i words word total within is (rw (map-id read) fails) so_far

  pub words_end : (read : List A) (i : ℕ) (words : List Word) (total : Result (List A) F)
      → length words ≤ i → left_after read i words ≡ total → total ≡ Ok read
  words_end read i words total past so_far =
      after_is_done word_view (λ a. a) f read i words total past so_far ∙ ap Ok (map-id read)
