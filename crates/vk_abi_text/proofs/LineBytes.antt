-- A right line has visible characters of ASCII and blanks alone.
use Rattle.std.proofs.Common.{◌≡◌, ◌≢◌, ◌<◌, ◌++◌, ◌∷◌, ℕ, Bool, true, false, List, refl, codes, arith}
use Rattle.std.specs.Prelude.{decimal}
use Rattle.std.specs.List.{All}
use Rattle.std.specs.Str.{IsUtf8}
use Rattle.std.proofs.lemmas.List.Elements.{All-weaker}
use Rattle.std.proofs.lemmas.Bool.Decides.{nat_tests}
use Rattle.std.proofs.lemmas.Str.{IsUtf8-from_ascii}
use Rattle.std.proofs.lemmas.Str.Ascii.{IsAscii-from_all}
use Rattle.vk_spec.specs.Versions.{Class}
use Rattle.vk_spec.specs.Versions as plain
use Rattle.vk_base.specs.Names.{IsName, NameRule, is_name_byte, port_rule, word_rule}
use Rattle.vk_base.specs.Paths.{Lacks, text_of_path}
use Rattle.vk_base.specs.Printed.{path_text}
use Rattle.vk_base.specs.Tokens.{IsByte, token_of}
use Rattle.vk_base.proofs.TokenLemmas.{token_plain}
use Rattle.hex.specs.Hex.{encode_lower}
use Rattle.vk_version.specs.ClassWords.{class_word}
use Rattle.vk_forms.proofs.Numbers.{decimal_plain}
use Rattle.vk_forms.proofs.Shown.{IsShown, shown_by, shown_from, spaced_shown}
use Rattle.vk_abi_text.specs.Lines.{AbiLine, builder_line, dep_line, feature_line, file_line, line_text, native_line, port_line, triplet_line, version_line, yes_or_no}
use Rattle.vk_abi_text.specs.Rights.{IsDigest, IsRightLine}
use Rattle.vk_abi_text.proofs.Digests.{digest_plain}

token_shown : (text : List ℕ) → All IsByte text → All IsShown (token_of text)
token_shown text bytes = shown_from (token_of text) (token_plain text bytes)

name : (rule : NameRule) (text : List ℕ) → IsName rule text → All IsShown (token_of text)
name rule text right = token_shown text (All-weaker (λ b. is_name_byte rule b ≡ true) IsByte (λ b is. grind (arith, nat_tests)) text right.bytes)

digest_shown : (digest : List ℕ) → IsDigest digest → All IsShown (encode_lower digest)
digest_shown digest right = shown_from (encode_lower digest) (digest_plain digest right)

class_shown : (class : Class) → All IsShown (class_word class)
class_shown plain.dot = shown_by (codes "dot") refl
class_shown plain.date = shown_by (codes "date") refl
class_shown plain.text = shown_by (codes "text") refl

yes_shown : (yes : Bool) → All IsShown (yes_or_no yes)
yes_shown true = shown_by (codes "yes") refl
yes_shown false = shown_by (codes "no") refl

behind : (word rest : List ℕ) → All IsShown word → All IsShown rest → All IsShown (word ++ 32 ∷ rest)
behind word rest = spaced_shown word rest

pub line_shown : (line : AbiLine) → IsRightLine line → All IsShown (line_text line)
line_shown (builder_line b) right =
    behind (codes "builder") _ (shown_by (codes "builder") refl) (behind (token_of b.name) (token_of b.text) (name word_rule b.name right.name) (token_shown b.text right.bytes))
line_shown (dep_line d) right =
    behind (codes "dep") _ (shown_by (codes "dep") refl)
    (behind (token_of d.instance.port) _ (name port_rule d.instance.port right.instance.0)
    (behind (token_of d.instance.triplet) (encode_lower d.digest) (name word_rule d.instance.triplet right.instance.1) (digest_shown d.digest right.digest)))
line_shown (feature_line f) right = behind (codes "feature") (token_of f) (shown_by (codes "feature") refl) (name word_rule f right.name)
line_shown (file_line f) right =
    behind (codes "file") _ (shown_by (codes "file") refl) (behind (path_text f.path) (encode_lower f.digest) (token_shown (text_of_path f.path) right.bytes) (digest_shown f.digest right.digest))
line_shown (native_line n) right = behind (codes "native") (yes_or_no n) (shown_by (codes "native") refl) (yes_shown n)
line_shown (port_line p) right = behind (codes "port") (token_of p) (shown_by (codes "port") refl) (name port_rule p right)
line_shown (triplet_line t d) right =
    behind (codes "triplet") _ (shown_by (codes "triplet") refl) (behind (token_of t) (encode_lower d) (name word_rule t right.0) (digest_shown d right.1))
line_shown (version_line v) right =
    behind (codes "version") _ (shown_by (codes "version") refl)
    (behind (class_word v.class) _ (class_shown v.class) (behind (token_of v.text) (decimal v.port) (token_shown v.text right.bytes) (shown_from (decimal v.port) (decimal_plain v.port right.small))))

-- so it has no line feed
pub line_whole : (line : AbiLine) → IsRightLine line → Lacks 10 (line_text line)
line_whole line right = All-weaker IsShown (λ c. c ≢ 10) (λ c shown e. absurd (omega (arith, e, shown.0))) (line_text line) (line_shown line right)

-- and is UTF-8
pub line_utf8 : (line : AbiLine) → IsRightLine line → IsUtf8 (line_text line)
line_utf8 line right = IsUtf8-from_ascii (line_text line) (IsAscii-from_all (line_text line) (All-weaker IsShown (λ c. c < 128) (λ c shown. omega (arith, shown.1)) (line_text line) (line_shown line right)))
