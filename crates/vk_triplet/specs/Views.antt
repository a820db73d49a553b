-- What contracts see of kinds of bytes, commands and what stands after them.
use Rattle.std.specs.Prelude.{◌==◌, ℕ, Bool, Option, Some, None, List, []}
use Rattle.std.specs.List.{slice_split}
use denote.Ref.{Bor}
use Rattle.vk_triplet.specs.Lines.{is_blank, is_name_byte, is_bare_byte, is_quoted_byte}
use Rattle.vk_triplet.specs.declared.triplets.Variable.{Variable}
use Rattle.vk_triplet.specs.declared.lines.Kind.{Kind}
use Rattle.vk_triplet.specs.declared.lines.Kind.TheVariants as kind
use Rattle.vk_triplet.specs.declared.lines.Command.{Command}

-- which bytes are of a kind
abbrev pub is_in : Kind → ℕ → Bool
is_in kind.Blank = is_blank
is_in kind.Name = is_name_byte
is_in kind.Bare = is_bare_byte
is_in kind.Quoted = is_quoted_byte

-- two texts that are borrowed, by their bytes
abbrev pub pair_view : Bor (List ℕ) × Bor (List ℕ) → List ℕ × List ℕ
pair_view cut = (cut.0.now, cut.1.now)

-- a command, by its bytes
abbrev pub command_view : Command → Variable
command_view c = record { name = c.name.now; value = c.value.now }

-- a command, and what stands after it
abbrev pub cut_view : Command × Bor (List ℕ) → Variable × List ℕ
cut_view cut = (command_view cut.0, cut.1.now)

-- the parts of what stands after a line feed, if there is one
abbrev pub parts_in : Option (Bor (List ℕ)) → List (List ℕ)
parts_in None = []
parts_in (Some rest) = slice_split (λ b. b == 10) rest.now
