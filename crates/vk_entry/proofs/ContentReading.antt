-- What the lines of a contents list say is what they were written of.
use Rattle.std.proofs.Common.{◌≡◌, ◌≢◌, ◌<◌, ◌+◌, ◌-◌, ◌*◌, ◌/◌, ◌%◌, ◌==◌, ◌++◌, ◌∷◌, ℕ, Bool, true, false, List, [], length, length-append, map, cond, refl, ap, ◌∙◌, append_assoc, arith, codes}
use Rattle.std.specs.Prelude.{flat_map, decimal, Some}
use Rattle.std.specs.Char.{digit_value}
use Rattle.std.specs.Fmt.{digit_glyph}
use Rattle.std.specs.List.{All}
use Rattle.std.specs.Result.{result_unwrap_or}
use Rattle.std.specs.Str.Parse.{digits_value}
use Rattle.std.proofs.lemmas.Bool.{ne_eqb}
use Rattle.std.proofs.lemmas.Bool.Decides.{nat_tests}
use Rattle.std.proofs.lemmas.Fmt.{digits_value-decimal}
use Rattle.std.proofs.lemmas.List.{take_at}
use Rattle.std.proofs.lemmas.List.Elements.{All-head, All-tail, All-weaker}
use Rattle.std.proofs.lemmas.List.Splits.{slice_split_at, slice_split_none}
use Rattle.std.proofs.lemmas.Str.Parse.{numerals_by_value, tells_digits}
use Rattle.hex.specs.Hex.{encode_lower}
use Rattle.hex.proofs.HexLemmas.{decode_of-encode_lower}
use Rattle.vk_spec.specs.Paths.{Path}
use Rattle.vk_base.specs.Paths.{Lacks, text_of_path}
use Rattle.vk_base.specs.PathReading.{path_of}
use Rattle.vk_base.specs.Printed.{path_text}
use Rattle.vk_base.specs.Tokens.{IsByte, is_escaped, token_byte, token_of}
use Rattle.vk_base.proofs.PathLaws.{text_back}
use Rattle.vk_base.proofs.PathLemmas.{lacks_byte}
use Rattle.vk_resolution.specs.Lines.{ended}
use Rattle.vk_forms.specs.Paths.{IsRightPath}
use Rattle.vk_forms.proofs.LineLemmas.{ended_line}
use Rattle.vk_forms.proofs.PathForms.{path_blank}
use Rattle.vk_forms.proofs.WordForms.{plain_blank}
use Rattle.vk_entry.specs.Contents.{Content, content_text, contents_text, opening}
use Rattle.vk_entry.specs.ContentLists.{AreContents, IsContent, IsDigest, IsSize}
use Rattle.vk_entry.specs.ContentsIn.{between, bytes_said, content_said, contents_said, digest_said, file_lines, path_said}
use Rattle.vk_entry.proofs.DigestLemmas.{digest_plain}
use Rattle.vk_entry.proofs.LineForms.{size_plain}
use Rattle.vk_entry.proofs.Outcomes.{lines_whole}

-- ---- what stands between marks

other_bytes : (mark : ℕ) (text : List ℕ) → Lacks mark text → All (λ b. (b == mark) ≡ false) text
other_bytes mark text lacks = All-weaker (λ b. b ≢ mark) (λ b. (b == mark) ≡ false) (λ b other. ne_eqb b mark other) text lacks

same_mark : (mark : ℕ) → (mark == mark) ≡ true
same_mark mark = grind (arith, nat_tests)

first_between : (mark : ℕ) (text rest : List ℕ) → Lacks mark text → between mark (text ++ mark ∷ rest) ≡ text ∷ between mark rest
first_between mark text rest lacks = slice_split_at (λ b. b == mark) text mark rest (other_bytes mark text lacks) (same_mark mark)

last_between : (mark : ℕ) (text : List ℕ) → Lacks mark text → between mark text ≡ text ∷ []
last_between mark text lacks = slice_split_none (λ b. b == mark) text (other_bytes mark text lacks)

-- ---- the bytes of a token

glyph_value : (d : ℕ) → d < 16 → digit_value (digit_glyph true d) ≡ d
glyph_value d small = grind (arith, nat_tests)

escape_value : (b : ℕ) → b < 256 → 16 * digit_value (digit_glyph true (b / 16)) + digit_value (digit_glyph true (b % 16)) ≡ b
escape_value b small =
    let high = glyph_value (b / 16) (omega (arith, small)) in
    let low = glyph_value (b % 16) (omega arith) in
    rw (high, low) (omega arith)

kept_said : (b : ℕ) (rest : List ℕ) → (b == 37) ≡ false → bytes_said (b ∷ rest) ≡ b ∷ bytes_said rest
kept_said b [] other = refl
kept_said b (c ∷ []) other = refl
kept_said b (c ∷ d ∷ rest) other =
    ap (λ t. cond t ((16 * digit_value c + digit_value d) ∷ bytes_said rest) (b ∷ bytes_said (c ∷ d ∷ rest))) other

byte_said : (b : ℕ) (escaped : Bool) (rest : List ℕ) → b < 256 → is_escaped b ≡ escaped
    → bytes_said (cond escaped (37 ∷ digit_glyph true (b / 16) ∷ digit_glyph true (b % 16) ∷ []) (b ∷ []) ++ rest) ≡ b ∷ bytes_said rest
byte_said b true rest small is = ap (λ n. n ∷ bytes_said rest) (escape_value b small)
byte_said b false rest small is = kept_said b rest (let plain = is in grind (arith, nat_tests))

token_said : (text : List ℕ) → All IsByte text → bytes_said (token_of text) ≡ text
unfolding token_of
token_said [] all = refl
token_said (b ∷ text) all =
    byte_said b (is_escaped b) (flat_map token_byte text) (All-head IsByte b text all) refl
    ∙ ap (λ l. b ∷ l) (token_said text (All-tail IsByte b text all))

-- ---- the line of a file

path_back : (path : Path) → IsRightPath path → path_said (path_text path) ≡ path
path_back path right =
    ap (λ t. result_unwrap_or (path_of t) []) (token_said (text_of_path path) right.is_text.bytes)
    ∙ ap (λ r. result_unwrap_or r []) (text_back path right.is_short.path right.is_short.short)

size_back : (n : ℕ) → IsSize n → digits_value 10 (decimal n) ≡ n
size_back n small = digits_value-decimal (numerals_by_value _ tells_digits) n small

digest_back : (digest : List ℕ) → IsDigest digest → digest_said (encode_lower digest) ≡ digest
digest_back digest right = ap (λ r. result_unwrap_or r []) (decode_of-encode_lower digest right.0)

content_is : (c d : Content) → c.path ≡ d.path → c.size ≡ d.size → c.digest ≡ d.digest → c ≡ d
content_is c d path size digest = λ i. record { path = path i; size = size i; digest = digest i }

words_between : (c : Content) → IsContent c
    → between 32 (content_text c) ≡ codes "file" ∷ path_text c.path ∷ decimal c.size ∷ encode_lower c.digest ∷ []
words_between c right =
    first_between 32 (codes "file") (path_text c.path ++ 32 ∷ (decimal c.size ++ 32 ∷ encode_lower c.digest)) (lacks_byte 32 (codes "file") refl)
    ∙ ap (λ l. codes "file" ∷ l)
    (first_between 32 (path_text c.path) (decimal c.size ++ 32 ∷ encode_lower c.digest) (path_blank c.path right.path.0)
    ∙ ap (λ l. path_text c.path ∷ l)
    (first_between 32 (decimal c.size) (encode_lower c.digest) (plain_blank (decimal c.size) (size_plain c.size right.size))
    ∙ ap (λ l. decimal c.size ∷ l) (last_between 32 (encode_lower c.digest) (plain_blank (encode_lower c.digest) (digest_plain c.digest right.digest.0)))))

content_back : (c : Content) → IsContent c → content_said (between 32 (content_text c)) ≡ c
content_back c right =
    ap content_said (words_between c right)
    ∙ content_is (content_said (codes "file" ∷ path_text c.path ∷ decimal c.size ∷ encode_lower c.digest ∷ [])) c (path_back c.path right.path.0) (size_back c.size right.size) (digest_back c.digest right.digest)

each_back : (cs : List Content) → All IsContent cs → map (λ line. content_said (between 32 line)) (map content_text cs) ≡ cs
each_back [] all = refl
each_back (c ∷ cs) all =
    ap (λ d. d ∷ map (λ line. content_said (between 32 line)) (map content_text cs)) (content_back c (All-head IsContent c cs all))
    ∙ ap (λ l. c ∷ l) (each_back cs (All-tail IsContent c cs all))

-- ---- the whole

lines_between : (lines : List (List ℕ)) (rest : List ℕ) → All (Lacks 10) lines → between 10 (flat_map ended lines ++ rest) ≡ lines ++ between 10 rest
lines_between [] rest all = refl
lines_between (line ∷ lines) rest all =
    ap (between 10) (append_assoc (ended line) (flat_map ended lines) rest ∙ ended_line line (flat_map ended lines ++ rest))
    ∙ first_between 10 line (flat_map ended lines ++ rest) (All-head (Lacks 10) line lines all)
    ∙ ap (λ l. line ∷ l) (lines_between lines rest (All-tail (Lacks 10) line lines all))

middle : (first last end : List ℕ) (lines : List (List ℕ)) → file_lines (first ∷ (lines ++ last ∷ end ∷ [])) ≡ lines
middle first last end lines =
    let count = length-append lines (last ∷ end ∷ []) in
    take_at lines (last ∷ end ∷ []) (length (first ∷ (lines ++ last ∷ end ∷ [])) - 3) (omega (arith, count))

pub said_again : (cs : List Content) → AreContents cs → contents_said (contents_text cs) ≡ cs
said_again cs right =
    ap (λ lines. map (λ line. content_said (between 32 line)) (file_lines lines)) (lines_between (opening cs) (ended (codes "end")) (lines_whole (Some cs) right))
    ∙ ap (map (λ line. content_said (between 32 line))) (middle (codes "contents 1") (codes "end") [] (map content_text cs))
    ∙ each_back cs right.each
