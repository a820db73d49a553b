-- The lines of a triplet file, and what a line says.
use Rattle.std.specs.Prelude.{◌≡◌, ◌<◌, ◌==◌, ◌&&◌, ◌||◌, ◌++◌, ◌∷◌, [], ◌⊎◌, ℕ, Bool, true, not}
use Rattle.std.specs.Prelude.{List, length, map, Option, MatchOption, codes}
use Rattle.std.specs.Char.{is_ascii_alphanumeric, is_ascii_graphic, to_ascii_lowercase}
use Rattle.std.specs.List.{list_all, list_any, slice_split}
use Rattle.std.specs.Str.Lines.{strip_carriage_return}
use Rattle.vk_triplet.specs.declared.triplets.Variable.{Variable}

-- lines stand between line feeds, and a carriage return at a line's end is dropped
abbrev pub lines_of : List ℕ → List (List ℕ)
lines_of bytes = map strip_carriage_return (slice_split (λ b. b == 10) bytes)

-- a space or a tab
abbrev pub is_blank : ℕ → Bool
is_blank b = (b == 32) || (b == 9)

-- a letter, a digit or `_`
abbrev pub is_name_byte : ℕ → Bool
is_name_byte b = is_ascii_alphanumeric b || (b == 95)

-- printable, but no space and none of `"`, `(`, `)`, `#`, `;`, `$`, `\`
abbrev pub is_bare_byte : ℕ → Bool
is_bare_byte b = is_ascii_graphic b && not (list_any (λ c. b == c) (codes "\"()#;$\\"))

-- anything but `"`, `\`, `$` and a line feed
abbrev pub is_quoted_byte : ℕ → Bool
is_quoted_byte b = not (list_any (λ c. b == c) (codes "\"\\$\n"))

-- blanks, or nothing
abbrev pub IsBlanks : List ℕ → Type 0
IsBlanks text = list_all is_blank text ≡ true

-- a value written bare: one byte or more
pub record IsBare (written value : List ℕ) : Type 0 where
  pub same : written ≡ value
  pub some : 0 < length value
  pub bytes : list_all is_bare_byte value ≡ true

-- a value written between double quotes, which may be empty
pub record IsQuoted (written value : List ℕ) : Type 0 where
  pub quotes : written ≡ 34 ∷ (value ++ 34 ∷ [])
  pub bytes : list_all is_quoted_byte value ≡ true

-- blanks, at least one, and then a value
pub record IsWritten (given value : List ℕ) : Type 0 where
  pub blanks : List ℕ
  pub written : List ℕ
  pub split : given ≡ blanks ++ written
  pub blank : IsBlanks blanks
  pub apart : 0 < length blanks
  pub form : IsBare written value ⊎ IsQuoted written value

-- what may stand after the name: nothing, which gives the empty text, or blanks and a value
abbrev pub IsGivenValue : List ℕ → List ℕ → Type 0
IsGivenValue given value = ((given ≡ []) × (value ≡ [])) ⊎ IsWritten given value

-- a command that sets a variable: `set` in any case, `(`, the name, what is given, `)`
pub record IsSet (command : List ℕ) (variable : Variable) : Type 0 where
  pub word : List ℕ
  pub outside : List ℕ
  pub inside : List ℕ
  pub given : List ℕ
  pub end : List ℕ
  pub split : command ≡ word ++ (outside ++ 40 ∷ (inside ++ (variable.name ++ (given ++ (end ++ 41 ∷ [])))))
  pub set : map to_ascii_lowercase word ≡ codes "set"
  pub blank : IsBlanks outside × IsBlanks inside × IsBlanks end
  pub some : 0 < length variable.name
  pub name : list_all is_name_byte variable.name ≡ true
  pub value : IsGivenValue given variable.value

-- a comment, from `#` on, or nothing
abbrev pub IsComment : List ℕ → Type 0
IsComment text = (text ≡ []) ⊎ ((rest : List ℕ) × (text ≡ 35 ∷ rest))

-- what a line says: nothing, or that a variable is set; blanks before and after it, and a comment at the end
pub record Says (line : List ℕ) (said : Option Variable) : Type 0 where
  pub before : List ℕ
  pub command : List ℕ
  pub after : List ℕ
  pub comment : List ℕ
  pub split : line ≡ before ++ (command ++ (after ++ comment))
  pub blank : IsBlanks before × IsBlanks after
  pub rest : IsComment comment
  pub form : MatchOption said (command ≡ []) (IsSet command)
