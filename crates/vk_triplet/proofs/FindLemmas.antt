-- What a line says by the grammar is found in it.
use Rattle.std.proofs.Common.{◌≡◌, ◌<◌, ◌++◌, ℕ, Bool, true, false, eqb, List, [], ◌∷◌, length, take, drop, map, inl, inr, refl, ap, sym, ◌∙◌, append_assoc, arith, codes}
use Rattle.std.specs.Prelude.{Option, Some, None, ◌⊎◌, if◌then◌else◌}
use Rattle.std.specs.Char.{to_ascii_lowercase}
use Rattle.std.specs.List.{prefix_len, list_all}
use Rattle.std.proofs.Math.Seq.{take-append_seam, drop-append_seam}
use Rattle.std.proofs.lemmas.Bool.{eq-eqb, ne_eqb, and_parts, and_from}
use Rattle.std.proofs.lemmas.Bool.Decides.{nat_tests}
use Rattle.std.proofs.lemmas.List.{length-map}
use Rattle.std.proofs.lemmas.List.Folds.{list_all-append}
use Rattle.std.proofs.lemmas.Slice.Eq.{bytes_eq-Decides}
use Rattle.vk_triplet.specs.Lines.{IsBlanks, IsBare, IsQuoted, IsWritten, IsGivenValue, IsSet, IsComment, Says, is_blank, is_name_byte, is_bare_byte, is_quoted_byte}
use Rattle.vk_triplet.specs.declared.triplets.Variable.{Variable}
use Rattle.vk_triplet.specs.LineReadings.{◌>>=◌, past, after_byte, after_set, some_front, quoted_value, value_from, value_at, blank_value, closed, written_at, given_from, given_at, opened, set_at, begins_comment, is_done, only_set, said_by}
use Rattle.vk_triplet.proofs.FrontLemmas.{Stops, front_stops, front_cut}

find_byte : (byte : ℕ) (rest : List ℕ) → after_byte byte (byte ∷ rest) ≡ Some rest
find_byte byte rest = rw (eq-eqb byte byte refl) refl

find_other : (byte b : ℕ) (rest : List ℕ) → eqb b byte ≡ false → after_byte byte (b ∷ rest) ≡ None
find_other byte b rest other = rw other refl

-- bytes that pass, and then one that doesn't
find_front : (test : ℕ → Bool) (front rest : List ℕ) → list_all test front ≡ true → 0 < length front → Stops test rest → some_front test (front ++ rest) ≡ Some (front, rest)
find_front test front rest all some stops =
    let cut = front_cut test front rest all stops in
    let len = front_stops test front rest all stops in
    let not_none : eqb (prefix_len test (front ++ rest)) 0 ≡ false = ne_eqb _ 0 (λ e. absurd (omega (arith, len, e))) in
    rw (not_none, cut.0, cut.1) refl

past_front : (test : ℕ → Bool) (front rest : List ℕ) → list_all test front ≡ true → Stops test rest → past test (front ++ rest) ≡ rest
past_front test front rest all stops = (front_cut test front rest all stops).1

-- which bytes begin what
blank_no_name : (b : ℕ) → is_blank b ≡ true → is_name_byte b ≡ false
blank_no_name b h = grind (arith, nat_tests)

name_no_blank : (b : ℕ) → is_name_byte b ≡ true → is_blank b ≡ false
name_no_blank b h = grind (arith, nat_tests)

bare_plain : (b : ℕ) → is_bare_byte b ≡ true → (is_blank b ≡ false) × (eqb b 34 ≡ false) × (eqb b 41 ≡ false)
bare_plain b h = (grind (arith, nat_tests), grind (arith, nat_tests), grind (arith, nat_tests))

blank_no_bare : (b : ℕ) → is_blank b ≡ true → is_bare_byte b ≡ false
blank_no_bare b h = grind (arith, nat_tests)

letter_s : (b : ℕ) → to_ascii_lowercase b ≡ 115 → (is_blank b ≡ false) × (eqb b 35 ≡ false)
letter_s b h = (grind (arith, nat_tests), grind (arith, nat_tests))

-- blanks and a closing parenthesis end what has neither
paren_stops : (test : ℕ → Bool) (end more : List ℕ) → IsBlanks end → test 41 ≡ false → ((b : ℕ) → is_blank b ≡ true → test b ≡ false) → Stops test (end ++ 41 ∷ more)
paren_stops test [] more blank paren each = paren
paren_stops test (b ∷ end) more blank paren each = each b (and_parts (is_blank b) (list_all is_blank end) blank).0

find_closed : (end more : List ℕ) → IsBlanks end → closed (end ++ 41 ∷ more) ≡ Some more
find_closed end more blank = rw (past_front is_blank end (41 ∷ more) blank refl) (find_byte 41 more)

-- a text that begins with neither a blank nor a closing parenthesis
abbrev pub Plain : List ℕ → Type 0
Plain [] = ⊥
Plain (b ∷ rest) = (is_blank b ≡ false) × (eqb b 41 ≡ false)

plain_stops : (text : List ℕ) → Plain text → Stops is_blank text
plain_stops [] plain = tt
plain_stops (b ∷ rest) plain = plain.0

not_closed : (blanks text : List ℕ) → IsBlanks blanks → Plain text → closed (blanks ++ text) ≡ None
not_closed blanks [] blank plain = absurd plain
not_closed blanks (b ∷ rest) blank plain = rw (past_front is_blank blanks (b ∷ rest) blank plain.0) (find_other 41 b rest plain.1)

-- a written value is found where it stands
pub record Finds (written value tail : List ℕ) : Type 0 where
  pub plain : Plain (written ++ tail)
  pub found : value_at (written ++ tail) ≡ Some (value, tail)

find_bare : (value tail : List ℕ) → 0 < length value → list_all is_bare_byte value ≡ true → Stops is_bare_byte tail → Finds value value tail
find_bare [] tail some all stops = absurd (omega (arith, some))
find_bare (b ∷ value) tail some all stops =
    let first = bare_plain b (and_parts (is_bare_byte b) (list_all is_bare_byte value) all).0 in
    record {
      plain = (first.0, first.2);
      found = ap (value_from (b ∷ (value ++ tail))) (find_other 34 b (value ++ tail) first.1) ∙ find_front is_bare_byte (b ∷ value) tail all some stops;
    }

find_quoted : (value tail : List ℕ) → list_all is_quoted_byte value ≡ true → Finds (34 ∷ (value ++ 34 ∷ [])) value tail
find_quoted value tail all =
    let cut = front_cut is_quoted_byte value (34 ∷ tail) all refl in
    let quoted : quoted_value (value ++ 34 ∷ tail) ≡ Some (value, tail) = rw (cut.0, cut.1) refl in
    record {
      plain = (refl, refl);
      found = rw (append_assoc value (34 ∷ []) tail) quoted;
    }

find_form : (written value tail : List ℕ) → IsBare written value ⊎ IsQuoted written value → Stops is_bare_byte tail → Finds written value tail
find_form written value tail form stops =
    elim form [
      | inl bare ↦ rw bare.same (find_bare value tail bare.some bare.bytes stops)
      | inr quoted ↦ rw quoted.quotes (find_quoted value tail quoted.bytes)
    ]

find_written_at : (blanks text value end more : List ℕ) → IsBlanks blanks → 0 < length blanks → Plain text → value_at text ≡ Some (value, end ++ 41 ∷ more) → IsBlanks end → given_at (blanks ++ text) ≡ Some (value, more)
find_written_at blanks text value end more blank apart plain found ends =
    let front = find_front is_blank blanks text blank apart (plain_stops text plain) in
    let first : blank_value (blanks ++ text) ≡ Some (value, end ++ 41 ∷ more) = ap (λ o. o >>= λ cut. value_at cut.1) front ∙ found in
    let written : written_at (blanks ++ text) ≡ Some (value, more) =
    ap (λ o. o >>= λ cut. closed cut.1 >>= λ rest. Some (cut.0, rest)) first ∙ ap (λ o. o >>= λ rest. Some (value, rest)) (find_closed end more ends) in
    ap (given_from (blanks ++ text)) (not_closed blanks text blank plain) ∙ written

find_written : (given value end more : List ℕ) → IsWritten given value → IsBlanks end → given_at (given ++ (end ++ 41 ∷ more)) ≡ Some (value, more)
find_written given value end more w ends =
    let tail = paren_stops is_bare_byte end more ends refl blank_no_bare in
    let form = find_form w.written value (end ++ 41 ∷ more) w.form tail in
    rw (w.split, append_assoc w.blanks w.written (end ++ 41 ∷ more))
    (find_written_at w.blanks (w.written ++ (end ++ 41 ∷ more)) value end more w.blank w.apart form.plain form.found ends)

find_nothing : (end more : List ℕ) → IsBlanks end → given_at (end ++ 41 ∷ more) ≡ Some ([], more)
find_nothing end more ends = ap (given_from (end ++ 41 ∷ more)) (find_closed end more ends)

find_given : (given value end more : List ℕ) → IsGivenValue given value → IsBlanks end → given_at (given ++ (end ++ 41 ∷ more)) ≡ Some (value, more)
find_given given value end more gives ends =
    elim gives [
      | inl nothing ↦ rw (nothing.0, nothing.1) (find_nothing end more ends)
      | inr written ↦ find_written given value end more written ends
    ]

blanks_stop : (blanks text more : List ℕ) → IsBlanks blanks → 0 < length blanks → Stops is_name_byte ((blanks ++ text) ++ more)
blanks_stop [] text more blank apart = absurd (omega (arith, apart))
blanks_stop (b ∷ blanks) text more blank apart = blank_no_name b (and_parts (is_blank b) (list_all is_blank blanks) blank).0

-- what follows a name doesn't go on with it
given_stops : (given value end more : List ℕ) → IsGivenValue given value → IsBlanks end → Stops is_name_byte (given ++ (end ++ 41 ∷ more))
given_stops given value end more gives ends =
    elim gives [
      | inl nothing ↦ rw nothing.0 (paren_stops is_name_byte end more ends refl blank_no_name)
      | inr written ↦ rw written.split (blanks_stop written.blanks written.written (end ++ 41 ∷ more) written.blank written.apart)
    ]

-- a name, and what is given after it
record FindsName (name tail : List ℕ) : Type 0 where
  pub stops : Stops is_blank (name ++ tail)
  pub found : some_front is_name_byte (name ++ tail) ≡ Some (name, tail)

find_name : (name tail : List ℕ) → 0 < length name → list_all is_name_byte name ≡ true → Stops is_name_byte tail → FindsName name tail
find_name [] tail some all stops = absurd (omega (arith, some))
find_name (b ∷ name) tail some all stops = record {
  stops = name_no_blank b (and_parts (is_name_byte b) (list_all is_name_byte name) all).0;
  found = find_front is_name_byte (b ∷ name) tail all some stops;
}

take_seam_at : (n : ℕ) (xs ys : List ℕ) → length xs ≡ n → take n (xs ++ ys) ≡ xs
take_seam_at n xs ys e = rw (← e) (take-append_seam xs ys)

drop_seam_at : (n : ℕ) (xs ys : List ℕ) → length xs ≡ n → drop n (xs ++ ys) ≡ ys
drop_seam_at n xs ys e = rw (← e) (drop-append_seam xs ys)

find_set : (word rest : List ℕ) → map to_ascii_lowercase word ≡ codes "set" → after_set (word ++ rest) ≡ Some rest
find_set word rest set =
    let three : length word ≡ 3 = sym (length-map word to_ascii_lowercase) ∙ ap length set in
    let same = (bytes_eq-Decides (map to_ascii_lowercase word) (codes "set")).1 set in
    rw (take_seam_at 3 word rest three, drop_seam_at 3 word rest three, same) refl

find_opened : (word outside inside rest : List ℕ) → map to_ascii_lowercase word ≡ codes "set" → IsBlanks outside → IsBlanks inside → Stops is_blank rest
    → opened (word ++ (outside ++ 40 ∷ (inside ++ rest))) ≡ Some rest
find_opened word outside inside rest set blank inner stops =
    let one = find_set word (outside ++ 40 ∷ (inside ++ rest)) set in
    let two : after_byte 40 (past is_blank (outside ++ 40 ∷ (inside ++ rest))) ≡ Some (inside ++ rest) = rw (past_front is_blank outside (40 ∷ (inside ++ rest)) blank refl) (find_byte 40 (inside ++ rest)) in
    ap (λ o. o >>= λ l. after_byte 40 (past is_blank l) >>= λ i. Some (past is_blank i)) one
    ∙ ap (λ o. o >>= λ i. Some (past is_blank i)) two
    ∙ ap Some (past_front is_blank inside rest inner stops)

regrouped : (a b c d e f rest : List ℕ) → (a ++ (b ++ 40 ∷ (c ++ (d ++ (e ++ (f ++ 41 ∷ [])))))) ++ rest ≡ a ++ (b ++ 40 ∷ (c ++ (d ++ (e ++ (f ++ 41 ∷ rest)))))
regrouped a b c d e f rest = simp append_assoc

find_command : (command : List ℕ) (variable : Variable) (more : List ℕ) → IsSet command variable → set_at (command ++ more) ≡ Some (variable, more)
find_command command variable more s =
    let name = find_name variable.name (s.given ++ (s.end ++ 41 ∷ more)) s.some s.name (given_stops s.given variable.value s.end more s.value s.blank.2) in
    let one = find_opened s.word s.outside s.inside (variable.name ++ (s.given ++ (s.end ++ 41 ∷ more))) s.set s.blank.0 s.blank.1 name.stops in
    let three = find_given s.given variable.value s.end more s.value s.blank.2 in
    rw (s.split, regrouped s.word s.outside s.inside variable.name s.given s.end more)
    (ap (λ o. o >>= λ i. some_front is_name_byte i >>= λ n. given_at n.1 >>= λ g. Some (record { name = n.0; value = g.0 }, g.1)) one
    ∙ ap (λ o. o >>= λ n. given_at n.1 >>= λ g. Some (record { name = n.0; value = g.0 }, g.1)) name.found
    ∙ ap (λ o. o >>= λ g. Some (record { name = variable.name; value = g.0 }, g.1)) three)

comment_stops : (comment : List ℕ) → IsComment comment → Stops is_blank comment
comment_stops comment c = elim c [ inl none ↦ rw none tt | inr some ↦ rw some.1 refl ]

comment_begins : (comment : List ℕ) → IsComment comment → begins_comment comment ≡ true
comment_begins comment c = elim c [ inl none ↦ rw none refl | inr some ↦ rw some.1 refl ]

find_done : (after comment : List ℕ) → IsBlanks after → IsComment comment → is_done (after ++ comment) ≡ true
find_done after comment blank c = rw (past_front is_blank after comment blank (comment_stops comment c)) (comment_begins comment c)

-- a command begins with the letter S
record BeginsSet (text : List ℕ) : Type 0 where
  pub stops : Stops is_blank text
  pub other : begins_comment text ≡ false

word_begins : (word rest : List ℕ) → map to_ascii_lowercase word ≡ codes "set" → BeginsSet (word ++ rest)
word_begins [] rest set = (cc)
word_begins (b ∷ word) rest set =
    let first : to_ascii_lowercase b ≡ 115 = cc in
    let letter = letter_s b first in
    record { stops = letter.0; other = letter.1 }

find_only : (command : List ℕ) (variable : Variable) (after comment : List ℕ) → IsSet command variable → IsBlanks after → IsComment comment → only_set (command ++ (after ++ comment)) ≡ Some variable
find_only command variable after comment set blank c =
    ap (λ o. o >>= λ cut. if is_done cut.1 then Some cut.0 else None) (find_command command variable (after ++ comment) set)
    ∙ ap (λ b. if b then Some variable else None) (find_done after comment blank c)

command_begins : (command : List ℕ) (variable : Variable) (more : List ℕ) → IsSet command variable → BeginsSet (command ++ more)
command_begins command variable more s =
    rw (s.split, append_assoc s.word (s.outside ++ 40 ∷ (s.inside ++ (variable.name ++ (s.given ++ (s.end ++ 41 ∷ []))))) more)
    (word_begins s.word ((s.outside ++ 40 ∷ (s.inside ++ (variable.name ++ (s.given ++ (s.end ++ 41 ∷ []))))) ++ more) s.set)

find_variable : (before command : List ℕ) (variable : Variable) (after comment : List ℕ) → IsBlanks before → IsSet command variable → IsBlanks after → IsComment comment
    → said_by (before ++ (command ++ (after ++ comment))) ≡ Some (Some variable)
find_variable before command variable after comment front set blank c =
    let begins = command_begins command variable (after ++ comment) set in
    let rest = past_front is_blank before (command ++ (after ++ comment)) front begins.stops in
    rw (rest, begins.other, find_only command variable after comment set blank c) refl

find_none : (before after comment : List ℕ) → IsBlanks before → IsBlanks after → IsComment comment → said_by (before ++ (after ++ comment)) ≡ Some None
find_none before after comment front blank c =
    let both : IsBlanks (before ++ after) = list_all-append is_blank before after ∙ and_from _ _ front blank in
    let done = find_done (before ++ after) comment both c in
    rw (← append_assoc before after comment, done) refl

found_form : (line : List ℕ) (said : Option Variable) (s : Says line said) → said_by (s.before ++ (s.command ++ (s.after ++ s.comment))) ≡ Some said
found_form line None s = rw s.form (find_none s.before s.after s.comment s.blank.0 s.blank.1 s.rest)
found_form line (Some variable) s = find_variable s.before s.command variable s.after s.comment s.blank.0 s.form s.blank.1 s.rest

-- what a line says is what is found in it
pub found_says : (line : List ℕ) (said : Option Variable) → Says line said → said_by line ≡ Some said
found_says line said s = rw s.split (found_form line said s)
