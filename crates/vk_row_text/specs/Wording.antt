-- How a row is cut, and what a word stands for.
use Rattle.std.specs.Prelude.{◌≡◌, ◌⊎◌, ◌==◌, ℕ, Bool, List, Some, None, Result, Ok, Err}
use Rattle.std.specs.Str.{IsUtf8}
use Rattle.vk_spec.specs.Paths.{Path}
use Rattle.vk_base.specs.PathReading.{path_of}
use Rattle.vk_base.specs.declared.paths.PathFault.{PathFault}
use Rattle.vk_base.specs.Tokens.{ReadsToken}
use Rattle.vk_base.specs.declared.stops.Unread.{Unread}
use Rattle.vk_base.specs.declared.stops.Unread.TheVariants.{Fault, Memory}
use Rattle.vk_row_text.specs.declared.replies.NoRow.{NoRow}

abbrev pub is_blank : ℕ → Bool
is_blank b = b == 32

-- what is read of a row
abbrev pub Read : Type 0 → Type 0
Read A = Result A (Unread NoRow)

-- the bytes of which a word is the token, or that there are none
abbrev pub ReadsBytes : List ℕ → Read (List ℕ) → Type 0
ReadsBytes word (Ok bytes) = ReadsToken word (Some bytes)
ReadsBytes word (Err (Fault _)) = ReadsToken word None
ReadsBytes word (Err (Memory _)) = Unit {0}

-- a word of no text: the token of no bytes, or of bytes that are no UTF-8
abbrev pub IsNoText : List ℕ → Type 0
IsNoText word =
    ReadsToken word None ⊎ ((bytes : List ℕ) × ReadsToken word (Some bytes) × (IsUtf8 bytes → ⊥))

-- bytes as a text, or that they are none
abbrev pub IsTextOf : List ℕ → Read (List ℕ) → Type 0
IsTextOf bytes (Ok text) = text ≡ bytes
IsTextOf bytes (Err (Fault _)) = IsUtf8 bytes → ⊥
IsTextOf bytes (Err (Memory _)) = ⊥

-- the text of which a word is the token, or that there is none
abbrev pub ReadsText : List ℕ → Read (List ℕ) → Type 0
ReadsText word (Ok text) = ReadsToken word (Some text)
ReadsText word (Err (Fault _)) = IsNoText word
ReadsText word (Err (Memory _)) = Unit {0}

-- the path that a text is, or that it is none
abbrev pub IsPathOf : List ℕ → Read Path → Type 0
IsPathOf text (Ok path) = path_of text ≡ Ok path
IsPathOf text (Err (Fault _)) = (fault : PathFault) × (path_of text ≡ Err fault)
IsPathOf text (Err (Memory _)) = Unit {0}

-- a word of no path: it is of no text, or that text is no path
abbrev pub IsNoPath : List ℕ → Type 0
IsNoPath word =
    (text : List ℕ) × (fault : PathFault) × ReadsToken word (Some text) × (path_of text ≡ Err fault)

-- the path whose text a word is the token of, or that there is none
abbrev pub ReadsPath : List ℕ → Read Path → Type 0
ReadsPath word (Ok path) =
    (text : List ℕ) × ReadsToken word (Some text) × (path_of text ≡ Ok path)
ReadsPath word (Err (Fault _)) = IsNoText word ⊎ IsNoPath word
ReadsPath word (Err (Memory _)) = Unit {0}

-- the number that parsing gives, or that it gives none
abbrev pub ReadsNumber : {N F : Type 0} → (Result N F → Type 0) → Read N → Type 0
ReadsNumber {F = F} gives (Ok number) = gives (Ok number)
ReadsNumber {F = F} gives (Err (Fault _)) = (fault : F) × gives (Err fault)
ReadsNumber {F = F} gives (Err (Memory _)) = ⊥
