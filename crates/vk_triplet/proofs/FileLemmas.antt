-- Which line is told, and what the variables of a file are.
use Rattle.std.proofs.Common.{◌≡◌, ◌≢◌, ◌+◌, ◌-◌, ◌<◌, ℕ, zero, suc, Bool, true, false, List, [], ◌∷◌, length, get_or, refl, ap, sym, ◌∙◌, arith}
use Rattle.std.specs.Prelude.{Option, Some, None, Result, Ok, Err, if◌then◌else◌}
use Rattle.std.specs.List.{filter}
use Rattle.std.specs.Str.{IsUtf8, is_utf8}
use Rattle.std.proofs.lemmas.Bool.{false_from_ne_true}
use Rattle.std.proofs.lemmas.List.Elements.{All-head, All-tail, filter-append}
use Rattle.std.proofs.lemmas.Slice.Eq.{bytes_eq-Decides}
use Rattle.std.proofs.lemmas.Str.{IsUtf8-from_is_utf8, is_utf8-from_IsUtf8}
use Rattle.vk_spec.specs.Reading.{◌>>=◌, or_fault, read_each}
use Rattle.vk_triplet.specs.Lines.{lines_of}
use Rattle.vk_triplet.specs.declared.triplets.Variable.{Variable}
use Rattle.vk_triplet.specs.LineReadings.{said_by}
use Rattle.vk_triplet.specs.TripletReadings.{line_said, variables_in, variables_from, reads_triplet, last_value, sets, value_of}
use Rattle.vk_triplet.specs.declared.faults.TripletFault.{TripletFault}
use Rattle.vk_triplet.specs.declared.faults.TripletFault.TheVariants as wrong
use Rattle.vk_triplet.specs.FileLaws.{EachSays, HasVariables, HasReading, IsFirstUnread, LeavesAlone, IsSetLast}
use Rattle.vk_triplet.proofs.SayLemmas.{says_found}
use Rattle.vk_triplet.proofs.FindLemmas.{found_says}
use Rattle.vk_triplet.proofs.MarkLemmas.{last_push}
use Rattle.vk_spec.proofs.ReadingLemmas.{bind_ok}

found_some : {F : Type 0} (fault : F) (o : Option (Option Variable)) (said : Option Variable) → or_fault fault o ≡ Ok said → o ≡ Some said
found_some fault None said e = (cc)
found_some fault (Some other) said e = let same : other ≡ said = cc in ap Some same

ok_if : (b : Bool) (r : Result (List Variable) TripletFault) (x : List Variable) → (if b then r else Err wrong.NotText) ≡ Ok x → (b ≡ true) × (r ≡ Ok x)
ok_if true r x e = (refl, e)
ok_if false r x e = (cc)

found_ok : (n : ℕ) (text : List ℕ) (said : Option Variable) → line_said n text ≡ Ok said → said_by text ≡ Some said
found_ok n text said e = found_some (wrong.Line n) (said_by text) said e

each_says : (n : ℕ) (lines : List (List ℕ)) (said : List (Option Variable)) → read_each line_said n lines ≡ Ok said → EachSays lines said
unfolding read_each
each_says n [] said e = let none : [] ≡ said = cc in rw (← none) tt
each_says n (text ∷ lines) said e =
    let first = bind_ok (line_said n text) (λ y. read_each line_said (n + 1) lines >>= λ ys. Ok (y ∷ ys)) said e in
    let later = bind_ok (read_each line_said (n + 1) lines) (λ ys. Ok (first.0 ∷ ys)) said first.2 in
    let same : first.0 ∷ later.0 ≡ said = cc in
    rw (← same) (says_found text first.0 (found_ok n text first.0 first.1), each_says (n + 1) lines later.0 later.1)

pub has_variables : (bytes : List ℕ) (variables : List Variable) → reads_triplet bytes ≡ Ok variables → HasVariables bytes variables
unfolding reads_triplet
has_variables bytes variables e =
    let text = ok_if (is_utf8 bytes) (variables_from 1 (lines_of bytes)) variables e in
    let said = bind_ok (read_each line_said 1 (lines_of bytes)) (λ said. Ok (variables_in said)) variables text.1 in
    let same : variables_in said.0 ≡ variables = cc in
    record { text = IsUtf8-from_is_utf8 bytes text.0; said = said.0; each = each_says 1 (lines_of bytes) said.0 said.1; kept = sym same }

-- no line says nothing, or there is a first one that does
pub record FoundAt (n : ℕ) (lines : List (List ℕ)) (fault : TripletFault) : Type 0 where
  pub at : ℕ
  pub told : fault ≡ wrong.Line (n + at)
  pub within : at < length lines
  pub before : (k : ℕ) → k < at → (said : Option Variable) × (said_by (get_or lines k []) ≡ Some said)
  pub here : said_by (get_or lines at []) ≡ None

err_then : {A B F : Type 0} (r : Result A F) (f : A → B) (fault : F) → (r >>= λ x. Ok (f x)) ≡ Err fault → r ≡ Err fault
err_then (Ok x) f fault e = (cc)
err_then (Err other) f fault e = let same : other ≡ fault = cc in ap Err same

sum : (n at : ℕ) → (n + 1) + at ≡ n + suc at
sum n at = omega arith

earlier : (text : List ℕ) (lines : List (List ℕ)) (said : Option Variable) (at : ℕ) → said_by text ≡ Some said
    → ((k : ℕ) → k < at → (s : Option Variable) × (said_by (get_or lines k []) ≡ Some s)) → (k : ℕ) → k < suc at → (s : Option Variable) × (said_by (get_or (text ∷ lines) k []) ≡ Some s)
earlier text lines said at e before zero below = (said, e)
earlier text lines said at e before (suc k) below = before k (omega (arith, below))

abbrev refused : TripletFault → Result (List (Option Variable)) TripletFault
refused fault = Err fault

first_told : (n : ℕ) (fault : TripletFault) → refused (wrong.Line n) ≡ refused fault → fault ≡ wrong.Line (n + 0)
first_told n fault e = let same : wrong.Line n ≡ fault = cc in let none : n + 0 ≡ n = omega arith in rw none (sym same)

later_at : (n : ℕ) (text : List ℕ) (lines : List (List ℕ)) (said : Option Variable) (fault : TripletFault) → said_by text ≡ Some said → FoundAt (n + 1) lines fault → FoundAt n (text ∷ lines) fault
later_at n text lines said fault e f = record {
  at = suc f.at;
  told = f.told ∙ ap wrong.Line (sum n f.at);
  within = omega (arith, f.within);
  before = earlier text lines said f.at e f.before;
  here = f.here;
}

fault_cases : (n : ℕ) (text : List ℕ) (lines : List (List ℕ)) (fault : TripletFault) (o : Option (Option Variable)) → said_by text ≡ o
    → (or_fault (wrong.Line n) o >>= λ y. read_each line_said (n + 1) lines >>= λ ys. Ok (y ∷ ys)) ≡ Err fault
    → ((read_each line_said (n + 1) lines ≡ Err fault) → FoundAt (n + 1) lines fault) → FoundAt n (text ∷ lines) fault
fault_cases n text lines fault None is e more = record { at = 0; told = first_told n fault e; within = omega arith; before = (λ k below. absurd (omega arith)); here = is }
fault_cases n text lines fault (Some said) is e more = later_at n text lines said fault is (more (err_then (read_each line_said (n + 1) lines) (λ ys. said ∷ ys) fault e))

fault_at : (n : ℕ) (lines : List (List ℕ)) (fault : TripletFault) → read_each line_said n lines ≡ Err fault → FoundAt n lines fault
unfolding read_each
fault_at n [] fault e = (cc)
fault_at n (text ∷ lines) fault e = fault_cases n text lines fault (said_by text) refl e (λ later. fault_at (n + 1) lines fault later)

no_said : (text : List ℕ) → said_by text ≡ None → HasReading text → ⊥
no_said text none has = let found = found_says text has.0 has.1 in let clash : None ≡ Some has.0 = sym none ∙ found in (cc)

line_same : (n m : ℕ) → wrong.Line n ≡ wrong.Line m → n ≡ m
line_same n m e = cc

first_unread_at : (lines : List (List ℕ)) (n : ℕ) (f : FoundAt 1 lines (wrong.Line n)) → n ≡ 1 + f.at → IsFirstUnread lines n
first_unread_at lines n f same = record {
  counted = omega arith;
  within = omega (arith, f.within);
  before = λ k below. (let found = f.before k (omega (arith, same, below)) in (found.0, says_found (get_or lines k []) found.0 found.1));
  here = (let place : n - 1 ≡ f.at = omega (arith, same) in rw place (no_said (get_or lines f.at []) f.here));
}

text_err : (b : Bool) (r : Result (List Variable) TripletFault) (n : ℕ) → (if b then r else Err wrong.NotText) ≡ Err (wrong.Line n) → (b ≡ true) × (r ≡ Err (wrong.Line n))
text_err true r n e = (refl, e)
text_err false r n e = (cc)

pub first_unread : (bytes : List ℕ) (n : ℕ) → reads_triplet bytes ≡ Err (wrong.Line n) → IsUtf8 bytes × IsFirstUnread (lines_of bytes) n
unfolding reads_triplet
first_unread bytes n e =
    let text = text_err (is_utf8 bytes) (variables_from 1 (lines_of bytes)) n e in
    let found = fault_at 1 (lines_of bytes) (wrong.Line n) (err_then (read_each line_said 1 (lines_of bytes)) variables_in (wrong.Line n) text.1) in
    (IsUtf8-from_is_utf8 bytes text.0, first_unread_at (lines_of bytes) n found (line_same n (1 + found.at) found.told))

text_none : (b : Bool) (r : Result (List Variable) TripletFault) → (b ≡ true → r ≡ Err wrong.NotText → ⊥) → (if b then r else Err wrong.NotText) ≡ Err wrong.NotText → b ≡ false
text_none true r other e = absurd (other refl e)
text_none false r other e = refl

never_text : (n : ℕ) (lines : List (List ℕ)) → variables_from n lines ≡ Err wrong.NotText → ⊥
never_text n lines e =
    let found = fault_at n lines wrong.NotText (err_then (read_each line_said n lines) variables_in wrong.NotText e) in
    let clash : wrong.NotText ≡ wrong.Line (n + found.at) = found.told in
    (cc)

pub no_utf8 : (bytes : List ℕ) → reads_triplet bytes ≡ Err wrong.NotText → IsUtf8 bytes → ⊥
unfolding reads_triplet
no_utf8 bytes e text =
    let no = text_none (is_utf8 bytes) (variables_from 1 (lines_of bytes)) (λ _ lines. never_text 1 (lines_of bytes) lines) e in
    let is = is_utf8-from_IsUtf8 bytes text in
    let clash : true ≡ false = sym is ∙ no in
    (cc)

-- lines that set other variables are left out
none_kept : (name : List ℕ) (variables : List Variable) → LeavesAlone name variables → filter (sets name) variables ≡ []
none_kept name [] other = refl
none_kept name (s ∷ variables) other =
    let no : sets name s ≡ false = false_from_ne_true (sets name s) (λ yes. All-head (λ t. t.name ≢ name) s variables other ((bytes_eq-Decides s.name name).0 yes)) in
    rw no (none_kept name variables (All-tail (λ t. t.name ≢ name) s variables other))

pub never_set : (name : List ℕ) (variables : List Variable) → LeavesAlone name variables → value_of name variables ≡ []
never_set name variables other = ap last_value (none_kept name variables other)

pub set_last : (name value : List ℕ) (variables : List Variable) → IsSetLast name value variables → value_of name variables ≡ value
set_last name value variables s =
    let here : sets name (record { name = name; value = value }) ≡ true = (bytes_eq-Decides name name).1 refl in
    rw (s.split, filter-append (sets name) s.front (record { name = name; value = value } ∷ s.back), here, none_kept name s.back s.last)
    (last_push (filter (sets name) s.front) (record { name = name; value = value }))
