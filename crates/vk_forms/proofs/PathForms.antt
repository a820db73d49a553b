-- Paths and places are read from their tokens.
use Rattle.std.proofs.Common.{◌≡◌, ◌≢◌, ◌==◌, ◌∷◌, ℕ, true, false, List, [], refl, ap, sym, ◌∙◌, subst, arith}
use Rattle.std.specs.Prelude.{Option, Some, None, Result, Ok, Err, codes, slice_index}
use Rattle.std.proofs.lemmas.Bool.Decides.{nat_tests}
use Rattle.vk_spec.specs.Paths.{Path}
use Rattle.vk_spec.specs.Reading.{◌>>=◌, Gives}
use Rattle.vk_base.specs.Stops.{fault_in}
use Rattle.vk_base.specs.declared.stops.Unread.{Unread}
use Rattle.vk_base.specs.declared.stops.Unread.TheVariants as unread
use Rattle.vk_base.specs.Paths.{text_of_path, Lacks}
use Rattle.vk_base.specs.PathReading.{checked, path_of}
use Rattle.vk_base.specs.Printed.{path_text}
use Rattle.vk_base.specs.Tokens.{token_of}
use Rattle.vk_base.specs.declared.paths.PathFault.{PathFault}
use Rattle.vk_base.proofs.PathLemmas.{lacks_byte}
use Rattle.vk_base.proofs.PathLaws.{checked_says, read_path, text_back}
use Rattle.vk_base.proofs.TokenLemmas.{tokens_differ}
use Rattle.vk_json.specs.Places.{place_text}
use Rattle.vk_forms.specs.Forms.{FindsOrNot, ReadsAs}
use Rattle.vk_forms.specs.Paths.{IsPlace, IsRightPath, IsShortPath}
use Rattle.vk_forms.specs.Texts.{IsText}
use Rattle.vk_forms.proofs.TextForms.{text_blank}

-- ---- paths

then_Ok : {A B F : Type 0} (r : Result A F) (f : A → B) (y : B) → (r >>= λ x. Ok (f x)) ≡ Ok y → (x : A) × (r ≡ Ok x)
then_Ok (Ok x) f y e = (x, refl)
then_Ok (Err fault) f y e = absurd (cc)

checked_tt : (r : Result (Unit {0}) PathFault) (u : Unit {0}) → r ≡ Ok u → r ≡ Ok tt
checked_tt r u e = e

pub path_read : (text : List ℕ) (p : Path) → path_of text ≡ Ok p → text_of_path p ≡ text → ReadsAs text_of_path IsShortPath text (Some p)
path_read text p read same =
    let check = then_Ok (checked text) _ p read in
    let says = checked_says text (checked_tt (checked text) check.0 check.1) in
    (sym same, record { path = read_path text p read; short = rw same says.1 })

pub ok_same : (r : Result Path PathFault) (p q : Path) → r ≡ Ok p → r ≡ Ok q → p ≡ q
ok_same r p q one other = (cc)

-- a text that reads as another path, or as none, is no path's
pub path_other : (text : List ℕ) (p : Path) → path_of text ≡ Ok p → (text_of_path p ≡ text → ⊥) → ReadsAs text_of_path IsShortPath text None
path_other text p read other = λ q right e.
    let again : path_of text ≡ Ok q = ap path_of e ∙ text_back q right.path right.short in
    let same : p ≡ q = ok_same (path_of text) p q read again in
    other (ap text_of_path same ∙ sym e)

pub path_none : (text : List ℕ) (fault : PathFault) → path_of text ≡ Err fault → ReadsAs text_of_path IsShortPath text None
path_none text fault read = λ q right e.
    let again : path_of text ≡ Ok q = ap path_of e ∙ text_back q right.path right.short in
    (cc)

-- the path of a token's text
pub token_path : (text t : List ℕ) → text ≡ token_of t → IsText t → (found : Option Path) → ReadsAs text_of_path IsShortPath t found → ReadsAs path_text IsRightPath text found
token_path text t is text_is (Some p) read = (is ∙ ap token_of read.0, record { is_short = read.1; is_text = subst IsText read.0 text_is })
token_path text t is text_is None none = λ q right e. none q right.is_short (sym (tokens_differ (text_of_path q) t right.is_text.bytes text_is.bytes (sym e ∙ is)))

pub no_token_path : (text : List ℕ) → ReadsAs token_of IsText text None → ReadsAs path_text IsRightPath text None
no_token_path text none = λ q right e. none (text_of_path q) right.is_text e

-- ---- places

pub place_read : (text place : List ℕ) → text ≡ token_of place → IsText place → (slice_index place 0 == 47) ≡ true → ReadsAs place_text IsPlace text (Some place)
place_read text [] is text_is slash = absurd (let clash : false ≡ true = slash in (cc))
place_read text (b ∷ place) is text_is slash = (is, (grind (arith, nat_tests), text_is))

is_other : (text place : List ℕ) → text ≢ codes "-" → text ≡ token_of place → IsText place → (slice_index place 0 == 47) ≡ false → (q : List ℕ) → IsPlace q → text ≡ place_text q → ⊥
is_other text place not_all is text_is other [] right e = not_all e
is_other text place not_all is text_is other (b ∷ q) right e =
    let same : place ≡ b ∷ q = tokens_differ place (b ∷ q) text_is.bytes right.1.bytes (sym is ∙ e) in
    let slash : (b == 47) ≡ false = ap (λ l. slice_index l 0 == 47) (sym same) ∙ other in
    let here = right.0 in
    grind (arith, nat_tests)

is_none : (text : List ℕ) → text ≢ codes "-" → ReadsAs token_of IsText text None → (q : List ℕ) → IsPlace q → text ≡ place_text q → ⊥
is_none text not_all none [] right e = not_all e
is_none text not_all none (b ∷ q) right e = none (b ∷ q) right.1 e

pub place_other : (text place : List ℕ) → text ≢ codes "-" → text ≡ token_of place → IsText place → (slice_index place 0 == 47) ≡ false → ReadsAs place_text IsPlace text None
place_other = is_other

pub place_none : (text : List ℕ) → text ≢ codes "-" → ReadsAs token_of IsText text None → ReadsAs place_text IsPlace text None
place_none = is_none

-- ---- both stand without a blank

pub path_blank : (path : Path) → IsRightPath path → Lacks 32 (path_text path)
path_blank path right = text_blank (text_of_path path) right.is_text

pub place_blank : (place : List ℕ) → IsPlace place → Lacks 32 (place_text place)
place_blank [] right = lacks_byte 32 (codes "-") refl
place_blank (b ∷ place) right = text_blank (b ∷ place) right.1

-- ---- what reading a path answers

pub path_not_found : (text : List ℕ) (r : Result Path (Unread PathFault)) → Gives (λ p. p) fault_in r (path_of text) → (found : Option Path) → FindsOrNot r found → found ≡ None → ReadsAs text_of_path IsShortPath text None
path_not_found text (Ok p) read found is none = absurd (let clash : Some p ≡ None = sym is ∙ none in (cc))
path_not_found text (Err (unread.Fault fault)) read found is none = path_none text fault read
path_not_found text (Err (unread.Memory memory)) read found is none = absurd is

some_same : (q p : Path) → Some q ≡ Some p → q ≡ p
some_same q p e = (cc)

pub path_found : (text : List ℕ) (r : Result Path (Unread PathFault)) → Gives (λ p. p) fault_in r (path_of text) → (found : Option Path) → FindsOrNot r found → (p : Path) → found ≡ Some p → path_of text ≡ Ok p
path_found text (Ok q) read found is p some = let same : q ≡ p = some_same q p (sym is ∙ some) in read ∙ ap (λ x. Ok x) same
path_found text (Err (unread.Fault fault)) read found is p some = absurd (let clash : None ≡ Some p = sym is ∙ some in (cc))
path_found text (Err (unread.Memory memory)) read found is p some = absurd is
