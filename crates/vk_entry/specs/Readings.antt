-- What is read of a contents list, line by line.
use Rattle.std.specs.Prelude.{◌≡◌, ◌≢◌, ◌<◌, ◌+◌, ◌^◌, ◌++◌, ◌∷◌, ◌⊎◌, [], ℕ, Bool, true, false}
use Rattle.std.specs.Prelude.{List, length, flat_map, codes, Some, Result, Ok, Err}
use Rattle.vk_spec.specs.Paths.{Path}
use Rattle.vk_base.specs.declared.stops.Unread.{Unread}
use Rattle.vk_base.specs.declared.stops.Unread.TheVariants as unread
use Rattle.vk_digest.specs.declared.Digest.{Digest}
use Rattle.vk_resolution.specs.Lines.{ended}
use Rattle.vk_forms.specs.Choices.{either_text, IsRightEither}
use Rattle.vk_forms.specs.Forms.{pair_plain}
use Rattle.vk_forms.specs.Words.{Any}
use Rattle.vk_entry.specs.Contents.{Content, content_text, opening}
use Rattle.vk_entry.specs.ContentLists.{Ascend, AreContents, HasForm, IsContent}
use Rattle.vk_entry.specs.Answers.{Reading}
use Rattle.vk_entry.specs.declared.contents.ContentLine.{ContentLine}
use Rattle.vk_entry.specs.declared.reading.EntryFault.{EntryFault}
use Rattle.vk_entry.specs.declared.reading.EntryFault.TheVariants.{Line, Order, End}

-- ---- a line's parts

abbrev pub Parts : Type 0
Parts = Unit {0} × (Path × (ℕ × List ℕ))

-- the same of the parts that are read
abbrev pub content_parts : Unit {0} × (Path × (ℕ × Digest)) → Parts
content_parts = pair_plain (λ u. u) (pair_plain (λ p. p) (pair_plain (λ n. n) (λ d. d.bytes)))

abbrev pub content_from : Parts → Content
content_from p = record { path = p.1.0; size = p.1.1.0; digest = p.1.1.1 }

-- ---- a line that may follow the first one

abbrev pub AnyLine : Type 0
AnyLine = Unit {0} ⊎ Content

abbrev pub line_text : AnyLine → List ℕ
line_text = either_text (λ u. codes "end") content_text

abbrev pub IsRightLine : AnyLine → Type 0
IsRightLine = IsRightEither Any IsContent

-- the line of a file is put at the end where its path is above the last one
abbrev pub Appends : Content → ℕ → List Content → Result (Unit {0}) (Unread EntryFault)
    → List Content → Type 0
Appends next n old (Ok u) new = Ascend (old ++ next ∷ []) × (new ≡ old ++ next ∷ [])
Appends next n old (Err (unread.Fault (Line m))) new = ⊥
Appends next n old (Err (unread.Fault (Order m))) new = (Ascend (old ++ next ∷ []) → ⊥) × (m ≡ n)
Appends next n old (Err (unread.Fault End)) new = ⊥
Appends next n old (Err (unread.Memory memory)) new = Unit {0}

-- what taking a line answers and leaves: whether it was the last one, or its fault
abbrev pub Takes : List ℕ → ℕ → List Content → Result Bool (Unread EntryFault)
    → List Content → Type 0
Takes line n old (Ok true) new = (line ≡ codes "end") × (new ≡ old)
Takes line n old (Ok false) new =
    (c : Content) × IsContent c × (line ≡ content_text c)
    × Ascend (old ++ c ∷ []) × (new ≡ old ++ c ∷ [])
Takes line n old (Err (unread.Fault (Line m))) new = (HasForm (Some old) line → ⊥) × (m ≡ n)
Takes line n old (Err (unread.Fault (Order m))) new =
    (c : Content) × IsContent c × (line ≡ content_text c)
    × (Ascend (old ++ c ∷ []) → ⊥) × (m ≡ n)
Takes line n old (Err (unread.Fault End)) new = ⊥
Takes line n old (Err (unread.Memory memory)) new = Unit {0}

-- what is wrong with last bytes without a line feed, which may be none
abbrev pub Lacking : List ℕ → ℕ → EntryFault → Type 0
Lacking last n (Line m) = (last ≢ []) × (HasForm (Some []) last → ⊥) × (m ≡ n)
Lacking last n (Order m) = ⊥
Lacking last n End = (last ≡ []) ⊎ HasForm (Some []) last

-- ---- the whole

-- these files were read, this is left of the bytes, and so many is the next line
pub record Led (bytes : List ℕ) (cs : List Content) (left : List ℕ) (next : ℕ) : Type 0 where
  pub right : AreContents cs
  pub split : bytes ≡ flat_map ended (opening cs) ++ left
  pub count : next ≡ length (opening cs) + 1
  pub room : next + length left < 2 ^ 32

-- the lines as they are, where nothing follows
abbrev pub IsWhole : List ContentLine → List ℕ → Reading → Type 0
IsWhole lines more (Ok read) = (more ≡ []) × (read ≡ lines)
IsWhole lines more (Err (unread.Fault (Line m))) = ⊥
IsWhole lines more (Err (unread.Fault (Order m))) = ⊥
IsWhole lines more (Err (unread.Fault End)) = more ≢ []
IsWhole lines more (Err (unread.Memory memory)) = ⊥
