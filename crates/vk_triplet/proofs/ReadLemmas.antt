-- Reading lines one after the other, as a loop does.
use Rattle.std.proofs.Common.{◌≡◌, false, ◌+◌, ◌≤◌, ◌++◌, ◌==◌, ℕ, List, [], ◌∷◌, length, map, refl, ap, sym, ◌∙◌, append_assoc, arith}
use Rattle.std.specs.Prelude.{Option, Some, None, Result, Ok, Err}
use Rattle.std.specs.List.{slice_split}
use Rattle.std.specs.Option.{option_to_list}
use Rattle.std.specs.Str.Lines.{strip_carriage_return}
use Rattle.std.specs.Str.{IsUtf8, is_utf8}
use Rattle.std.proofs.lemmas.Bool.{false_from_ne_true}
use Rattle.std.proofs.lemmas.Str.{IsUtf8-from_is_utf8, is_utf8-from_IsUtf8}
use Rattle.std.proofs.lemmas.List.{append-nil}
use Rattle.vk_spec.specs.Reading.{◌>>=◌, read_each, Fails}
use Rattle.vk_triplet.specs.Lines.{lines_of}
use Rattle.vk_triplet.specs.declared.triplets.Variable.{Variable}
use Rattle.vk_triplet.specs.TripletReadings.{line_said, variables_in, variables_from, reads_triplet, triplet_of, triplet_with}
use Rattle.vk_triplet.specs.declared.faults.TripletFault.{TripletFault}
use Rattle.vk_triplet.specs.declared.faults.TripletFault.TheVariants as wrong

-- the variables that were read before, and those that are still read
abbrev pub with_variables : List Variable → Result (List Variable) TripletFault → Result (List Variable) TripletFault
with_variables front read = read >>= λ more. Ok (front ++ more)

-- the variables of what is left go on to those of the whole; each line before stands for one byte at least
pub record Leaves (whole : List ℕ) (vars : List Variable) (n : ℕ) (left : List ℕ) : Type 0 where
  pub read : with_variables vars (variables_from n (lines_of left)) ≡ variables_from 1 (lines_of whole)
  pub count : n + length left ≤ length whole + 1

with_none : (read : Result (List Variable) TripletFault) → with_variables [] read ≡ read
with_none (Ok more) = refl
with_none (Err fault) = refl

pub leaves_all : (whole : List ℕ) (vars : List Variable) → vars ≡ [] → Leaves whole vars 1 whole
leaves_all whole vars none = record { read = rw none (with_none (variables_from 1 (lines_of whole))); count = omega arith }

with_both : (front back : List Variable) (read : Result (List Variable) TripletFault) → with_variables front (with_variables back read) ≡ with_variables (front ++ back) read
with_both front back (Ok more) = ap Ok (sym (append_assoc front back more))
with_both front back (Err fault) = refl

said_first : (said : Option Variable) (read : Result (List (Option Variable)) TripletFault)
    → ((read >>= λ more. Ok (said ∷ more)) >>= λ all. Ok (variables_in all)) ≡ with_variables (option_to_list said) (read >>= λ all. Ok (variables_in all))
said_first said (Ok more) = refl
said_first said (Err fault) = refl

-- a line that says something, and the lines after it
from_said : (n : ℕ) (text : List ℕ) (lines : List (List ℕ)) (said : Option Variable) → line_said n text ≡ Ok said
    → variables_from n (text ∷ lines) ≡ with_variables (option_to_list said) (variables_from (n + 1) lines)
unfolding read_each
from_said n text lines said e = rw e (said_first said (read_each line_said (n + 1) lines))

from_fault : (n : ℕ) (text : List ℕ) (lines : List (List ℕ)) (fault : TripletFault) → line_said n text ≡ Err fault → variables_from n (text ∷ lines) ≡ Err fault
unfolding read_each
from_fault n text lines fault e = rw e refl

from_none : (n : ℕ) → variables_from n [] ≡ Ok []
unfolding read_each
from_none n = refl

cut_lines : (left text : List ℕ) (parts : List (List ℕ)) → slice_split (λ b. b == 10) left ≡ text ∷ parts → lines_of left ≡ strip_carriage_return text ∷ map strip_carriage_return parts
cut_lines left text parts e = ap (map strip_carriage_return) e

-- a line was read, and more are left
pub leaves_more : (whole : List ℕ) (vars : List Variable) (n : ℕ) (left text rest : List ℕ) (said : Option Variable) → Leaves whole vars n left
    → slice_split (λ b. b == 10) left ≡ text ∷ slice_split (λ b. b == 10) rest → length text + length rest + 1 ≤ length left
    → line_said n (strip_carriage_return text) ≡ Ok said → Leaves whole (vars ++ option_to_list said) (n + 1) rest
leaves_more whole vars n left text rest said l cut shorter e = record {
  read = sym (with_both vars (option_to_list said) (variables_from (n + 1) (lines_of rest)))
      ∙ ap (with_variables vars) (sym (from_said n (strip_carriage_return text) (lines_of rest) said e) ∙ ap (variables_from n) (sym (cut_lines left text (slice_split (λ b. b == 10) rest) cut)))
      ∙ l.read;
  count = omega (arith, l.count, shorter);
}

-- the last line was read
pub leaves_none : (whole : List ℕ) (vars : List Variable) (n : ℕ) (left text : List ℕ) (said : Option Variable) → Leaves whole vars n left
    → slice_split (λ b. b == 10) left ≡ text ∷ [] → line_said n (strip_carriage_return text) ≡ Ok said → variables_from 1 (lines_of whole) ≡ Ok (vars ++ option_to_list said)
leaves_none whole vars n left text said l cut e =
    let last : variables_from n (lines_of left) ≡ Ok (option_to_list said) =
    ap (variables_from n) (cut_lines left text [] cut) ∙ from_said n (strip_carriage_return text) [] said e
    ∙ ap (with_variables (option_to_list said)) (from_none (n + 1)) ∙ ap Ok (append-nil (option_to_list said)) in
    sym l.read ∙ ap (with_variables vars) last

-- a line has a fault: so have all
pub leaves_fault : (whole : List ℕ) (vars : List Variable) (n : ℕ) (left text : List ℕ) (parts : List (List ℕ)) (told : Option TripletFault) → Leaves whole vars n left
    → slice_split (λ b. b == 10) left ≡ text ∷ parts → Fails told (line_said n (strip_carriage_return text)) → Fails told (variables_from 1 (lines_of whole))
leaves_fault whole vars n left text parts None l cut fails = tt
leaves_fault whole vars n left text parts (Some fault) l cut fails =
    sym l.read ∙ ap (with_variables vars) (ap (variables_from n) (cut_lines left text parts cut) ∙ from_fault n (strip_carriage_return text) (map strip_carriage_return parts) fault fails)

-- bytes that are no UTF-8
pub no_text : (name bytes : List ℕ) → (IsUtf8 bytes → ⊥) → triplet_of name bytes ≡ Err wrong.NotText
unfolding reads_triplet
no_text name bytes none =
    let no : is_utf8 bytes ≡ false = false_from_ne_true (is_utf8 bytes) (λ yes. none (IsUtf8-from_is_utf8 bytes yes)) in
    rw no refl

-- bytes that are: their lines are read
pub text_fault : (name bytes : List ℕ) (told : Option TripletFault) → IsUtf8 bytes → Fails told (variables_from 1 (lines_of bytes)) → Fails told (triplet_of name bytes)
unfolding reads_triplet
text_fault name bytes None text fails = tt
text_fault name bytes (Some fault) text fails = rw (is_utf8-from_IsUtf8 bytes text, fails) refl

pub text_read : (name bytes : List ℕ) (variables : List Variable) → IsUtf8 bytes → variables_from 1 (lines_of bytes) ≡ Ok variables → triplet_of name bytes ≡ Ok (triplet_with name bytes variables)
unfolding reads_triplet
text_read name bytes variables text read = rw (is_utf8-from_IsUtf8 bytes text, read) refl
