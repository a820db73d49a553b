-- What a line says, found from the left.
use Rattle.std.specs.Prelude.{◌==◌, ℕ, Bool, true, List, [], ◌∷◌, take, drop, Option, Some, None}
use Rattle.std.specs.Prelude.{codes, if◌then◌else◌}
use Rattle.std.specs.List.{prefix_len}
use Rattle.std.specs.Str.{str_eq_ignore_ascii_case}
use Rattle.vk_triplet.specs.Lines.{is_blank, is_name_byte, is_bare_byte, is_quoted_byte}
use Rattle.vk_triplet.specs.declared.triplets.Variable.{Variable}

-- then: with what was found, the search goes on
infixl 10 ◌>>=◌
abbrev pub ◌>>=◌ : {A B : Type 0} → Option A → (A → Option B) → Option B
None >>= f = None
(Some x) >>= f = f x

-- the bytes in front that pass the test
abbrev pub front_of : (ℕ → Bool) → List ℕ → List ℕ
front_of test text = take (prefix_len test text) text

-- what stands after them
abbrev pub past : (ℕ → Bool) → List ℕ → List ℕ
past test text = drop (prefix_len test text) text

-- what stands after this byte, where the text begins with it
abbrev pub after_byte : ℕ → List ℕ → Option (List ℕ)
after_byte byte [] = None
after_byte byte (b ∷ rest) = if b == byte then Some rest else None

-- what stands after `set`, where the text begins with it in any case
abbrev pub after_set : List ℕ → Option (List ℕ)
after_set text = if str_eq_ignore_ascii_case (take 3 text) (codes "set") then Some (drop 3 text) else None

-- one byte or more that pass the test, and what stands after them
abbrev pub some_front : (ℕ → Bool) → List ℕ → Option (List ℕ × List ℕ)
some_front test text = if prefix_len test text == 0 then None else Some (front_of test text, past test text)

-- after a double quote: the value up to the next one, and what stands after that
abbrev pub quoted_value : List ℕ → Option (List ℕ × List ℕ)
quoted_value text = after_byte 34 (past is_quoted_byte text) >>= λ rest. Some (front_of is_quoted_byte text, rest)

-- a value, by what stands after a double quote in front, if one stands there
abbrev pub value_from : List ℕ → Option (List ℕ) → Option (List ℕ × List ℕ)
value_from text None = some_front is_bare_byte text
value_from text (Some quoted) = quoted_value quoted

-- a value, quoted where it begins with a double quote and bare otherwise, and what stands after it
abbrev pub value_at : List ℕ → Option (List ℕ × List ℕ)
value_at text = value_from text (after_byte 34 text)

-- blanks, and then a value, and what stands after it
abbrev pub blank_value : List ℕ → Option (List ℕ × List ℕ)
blank_value text = some_front is_blank text >>= λ cut. value_at cut.1

-- what stands after a closing parenthesis and the blanks before it
abbrev pub closed : List ℕ → Option (List ℕ)
closed text = after_byte 41 (past is_blank text)

-- a value after blanks, and what stands after the closing parenthesis
abbrev pub written_at : List ℕ → Option (List ℕ × List ℕ)
written_at text = blank_value text >>= λ cut. closed cut.1 >>= λ rest. Some (cut.0, rest)

-- the empty value where the parenthesis closes at once, with what stands after it; else the one that is written
abbrev pub given_from : List ℕ → Option (List ℕ) → Option (List ℕ × List ℕ)
given_from text (Some rest) = Some ([], rest)
given_from text None = written_at text

-- the value that is given after a name, and what stands after the closing parenthesis
abbrev pub given_at : List ℕ → Option (List ℕ × List ℕ)
given_at text = given_from text (closed text)

-- what stands after `set`, a parenthesis and the blanks round it
abbrev pub opened : List ℕ → Option (List ℕ)
opened text = after_set text >>= λ rest. after_byte 40 (past is_blank rest) >>= λ inside. Some (past is_blank inside)

-- a command, and what stands after it
abbrev pub set_at : List ℕ → Option (Variable × List ℕ)
set_at text = do
  inside ← opened text
  name ← some_front is_name_byte inside
  given ← given_at name.1
  Some (record { name = name.0; value = given.0 }, given.1)

-- a comment, or nothing
abbrev pub begins_comment : List ℕ → Bool
begins_comment [] = true
begins_comment (b ∷ rest) = b == 35

-- nothing but blanks and a comment
abbrev pub is_done : List ℕ → Bool
is_done text = begins_comment (past is_blank text)

-- a command with nothing after it but blanks and a comment
abbrev pub only_set : List ℕ → Option Variable
only_set text = set_at text >>= λ cut. if is_done cut.1 then Some cut.0 else None

-- what a line says: nothing, or a variable; none where it says neither
abbrev pub said_by : List ℕ → Option (Option Variable)
said_by line = if is_done line then Some None else (only_set (past is_blank line) >>= λ variable. Some (Some variable))
