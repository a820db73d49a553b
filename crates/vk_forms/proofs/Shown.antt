-- What is printed has visible characters of ASCII and blanks alone, so it is a text without a line feed.
use Rattle.std.proofs.Common.{◌≡◌, ◌<◌, ◌++◌, ◌∷◌, ◌&&◌, ℕ, Bool, true, List, [], map, inl, inr, refl, sym, subst, codes, arith}
use Rattle.std.specs.Prelude.{Some, None, decimal, nat_lt}
use Rattle.std.specs.List.{All, join_with_byte}
use Rattle.std.proofs.lemmas.Bool.Decides.{nat_tests}
use Rattle.std.proofs.lemmas.List.Elements.{All-append, All-cons, All-nil, All-weaker}
use Rattle.vk_spec.specs.Versions.{ask_of}
use Rattle.vk_spec.specs.Manifests.{core}
use Rattle.vk_base.specs.Names.{IsName, NameRule, is_name_byte, port_rule, word_rule}
use Rattle.vk_base.specs.Paths.{text_of_path}
use Rattle.vk_base.specs.Printed.{field_word, path_text, version_text}
use Rattle.vk_base.specs.Tokens.{IsPlain, token_of}
use Rattle.vk_base.proofs.PathLemmas.{both}
use Rattle.vk_base.proofs.TokenLemmas.{token_plain}
use Rattle.vk_json.specs.Places.{place_text}
use Rattle.vk_model.specs.Lines.{features_text}
use Rattle.vk_resolution.specs.Lines.{version_or_none}
use Rattle.vk_forms.specs.Lines.{IsLine}
use Rattle.vk_forms.specs.Choices.{either_text, IsRightEither}
use Rattle.vk_forms.specs.Words.{IsWord}
use Rattle.vk_forms.specs.Features.{AreAbove, AreFeatures}
use Rattle.vk_forms.specs.Forms.{pair_text, IsRightPair}
use Rattle.vk_forms.specs.Names.{IsPortIfAny, port_or_root}
use Rattle.vk_forms.specs.Paths.{IsPlace, IsRightPath}
use Rattle.vk_forms.specs.Words.{Any}
use Rattle.vk_forms.specs.Texts.{IsText}
use Rattle.vk_forms.specs.Versions.{IsRightAsk, IsRightIfAny, IsRightVersion}
use Rattle.vk_forms.proofs.NameForms.{core_word, name_token}
use Rattle.vk_forms.proofs.Numbers.{decimal_plain}
use Rattle.vk_forms.proofs.WordForms.{are_plain, field_plain, plain_from, word_plain}

-- a visible character of ASCII, or a blank
abbrev pub IsShown : ℕ → Type 0
IsShown b = (31 < b) × (b < 127)

abbrev pub AreShown : {X : Type 0} → (X → List ℕ) → (X → Type 0) → Type 0
AreShown {X = X} shows is_fine = (x : X) → is_fine x → All IsShown (shows x)

pub shown_from : (text : List ℕ) → All IsPlain text → All IsShown text
shown_from text all = All-weaker IsPlain IsShown (λ b plain. (omega (arith, plain.0), plain.1)) text all

-- the same as a test, which computes
abbrev pub are_shown : List ℕ → Bool
are_shown [] = true
are_shown (b ∷ text) = nat_lt 31 b && (nat_lt b 127 && are_shown text)

pub shown_by : (text : List ℕ) → are_shown text ≡ true → All IsShown text
shown_by [] e = All-nil IsShown
shown_by (b ∷ text) e =
    let one = both (nat_lt 31 b) (nat_lt b 127 && are_shown text) e in
    let two = both (nat_lt b 127) (are_shown text) one.1 in
    let above = one.0 in
    let below = two.0 in
    All-cons IsShown b text (grind (arith, nat_tests), grind (arith, nat_tests)) (shown_by text two.1)

blank_shown : (text : List ℕ) → All IsShown text → All IsShown (32 ∷ text)
blank_shown text all = All-cons IsShown 32 text (omega arith, omega arith) all

-- two texts with a blank between
pub spaced_shown : (one other : List ℕ) → All IsShown one → All IsShown other → All IsShown (one ++ 32 ∷ other)
spaced_shown one other first second = All-append IsShown one (32 ∷ other) first (blank_shown other second)

pub pair_shown : {A B : Type 0} (one : A → List ℕ) (other : B → List ℕ) (is_right_one : A → Type 0) (is_right_other : B → Type 0)
    → AreShown one is_right_one → AreShown other is_right_other → AreShown (pair_text 32 one other) (IsRightPair 32 one is_right_one is_right_other)
pair_shown one other is_right_one is_right_other first second p right = spaced_shown (one p.0) (other p.1) (first p.0 right.0) (second p.1 right.2)

pub either_shown : {P Q : Type 0} (one : P → List ℕ) (other : Q → List ℕ) (is_right_one : P → Type 0) (is_right_other : Q → Type 0)
    → AreShown one is_right_one → AreShown other is_right_other → AreShown (either_text one other) (IsRightEither is_right_one is_right_other)
either_shown one other is_right_one is_right_other first second (inl p) right = first p right
either_shown one other is_right_one is_right_other first second (inr q) right = second q right

-- ---- leaves

pub word : (text : List ℕ) → are_plain text ≡ true → AreShown (λ u. text) Any
word text plain u right = shown_from text (plain_from text plain)

name_plain : (rule : NameRule) (text : List ℕ) → IsName rule text → All IsPlain (token_of text)
name_plain rule text right = subst (All IsPlain) (sym (name_token rule text right))
    (All-weaker (λ b. is_name_byte rule b ≡ true) IsPlain (λ b is. (grind (arith, nat_tests), grind (arith, nat_tests))) text right.bytes)

pub name : (rule : NameRule) → AreShown token_of (IsName rule)
name rule text right = shown_from (token_of text) (name_plain rule text right)

pub number : AreShown decimal IsLine
number n right = shown_from (decimal n) (decimal_plain n right)

pub text : AreShown token_of IsText
text x right = shown_from (token_of x) (token_plain x right.bytes)

pub ask : AreShown version_text IsRightAsk
ask a right =
    All-append IsShown (token_of a.text ++ 35 ∷ []) (decimal a.port)
    (All-append IsShown (token_of a.text) (35 ∷ []) (text a.text right.text.is_text) (All-cons IsShown 35 [] (omega arith, omega arith) (All-nil IsShown)))
    (number a.port right.small)

pub version : AreShown (λ v. version_text (ask_of v)) IsRightVersion
version v right = ask (ask_of v) right.ask

pub if_any : AreShown version_or_none IsRightIfAny
if_any None right = word (codes "-") refl tt tt
if_any (Some v) right = version v right

pub port : AreShown port_or_root IsPortIfAny
port None right = word (codes ".") refl tt tt
port (Some p) right = name port_rule p right

pub path : AreShown path_text IsRightPath
path p right = text (text_of_path p) right.is_text

pub place : AreShown place_text IsPlace
place [] right = word (codes "-") refl tt tt
place (b ∷ p) right = text (b ∷ p) right.1

pub field : AreShown field_word (λ f. Unit {0})
field f right = shown_from (field_word f) (field_plain f)

pub why : AreShown (λ w. w) IsWord
why w right = shown_from w (word_plain w right)

comma_shown : (one other : List ℕ) → All IsShown one → All IsShown other → All IsShown (one ++ 44 ∷ other)
comma_shown one other first second = All-append IsShown one (44 ∷ other) first (All-cons IsShown 44 other (omega arith, omega arith) second)

above : (last : List ℕ) (fs : List (List ℕ)) → AreAbove last fs → All IsShown (join_with_byte 44 (map token_of fs))
above last [] all = All-nil IsShown
above last (f ∷ []) all = name word_rule f all.0.word
above last (f ∷ g ∷ fs) all = comma_shown (token_of f) (join_with_byte 44 (map token_of (g ∷ fs))) (name word_rule f all.0.word) (above f (g ∷ fs) all.2)

core_shown : (f : List ℕ) → f ≡ core → All IsShown (token_of f)
core_shown f is = name word_rule f (subst (IsName word_rule) (sym is) core_word)

pub features : AreShown features_text AreFeatures
features [] right = All-nil IsShown
features (f ∷ []) right = core_shown f right.0
features (f ∷ g ∷ fs) right = comma_shown (token_of f) (join_with_byte 44 (map token_of (g ∷ fs))) (core_shown f right.0) (above [] (g ∷ fs) right.1)
