-- The lines of a contents list, put together from their parts.
use Rattle.std.proofs.Common.{◌≡◌, ◌≢◌, ◌<◌, ◌+◌, ◌%◌, ◌∷◌, ℕ, Bool, true, false, List, [], inl, inr, refl, sym, ◌∙◌, subst, codes, arith}
use Rattle.std.specs.Prelude.{Some, None, IsTrue, decimal}
use Rattle.std.specs.List.{All}
use Rattle.std.specs.Str.{IsUtf8}
use Rattle.std.proofs.lemmas.Fmt.{decimal_by_steps, decimal_injective}
use Rattle.std.proofs.lemmas.List.Elements.{All-append, All-cons, All-nil, All-weaker}
use Rattle.std.proofs.lemmas.Str.{IsUtf8-from_ascii}
use Rattle.std.proofs.lemmas.Str.Ascii.{IsAscii-from_all}
use Rattle.hex.specs.Hex.{encode_lower}
use Rattle.vk_spec.specs.Paths.{Path}
use Rattle.vk_base.specs.Paths.{Lacks, text_of_path}
use Rattle.vk_base.specs.Printed.{path_text}
use Rattle.vk_base.specs.Tokens.{IsPlain}
use Rattle.vk_base.proofs.PathLemmas.{lacks_byte}
use Rattle.vk_base.proofs.TokenLemmas.{token_plain}
use Rattle.vk_forms.specs.Forms.{ReadsAs, TellsApart, pair_text, IsRightPair}
use Rattle.vk_forms.specs.Paths.{IsRightPath}
use Rattle.vk_forms.specs.Words.{Any}
use Rattle.vk_forms.proofs.Apart.{either_apart, pair_apart, path_apart, word_apart}
use Rattle.vk_forms.proofs.PathForms.{path_blank}
use Rattle.vk_forms.proofs.Shown.{AreShown, IsShown, either_shown, pair_shown, shown_from, word}
use Rattle.vk_forms.proofs.Through.{AreParts, parts_apart, parts_hold}
use Rattle.vk_forms.proofs.WordForms.{plain_blank}
use Rattle.vk_entry.specs.Packages.{IsPackagePath}
use Rattle.vk_entry.specs.Contents.{Content, content_text}
use Rattle.vk_entry.specs.ContentLists.{HasForm, IsContent, IsDigest, IsListedPath, IsSize}
use Rattle.vk_entry.specs.Readings.{AnyLine, IsRightLine, Parts, content_from, line_text}
use Rattle.vk_entry.proofs.DigestLemmas.{digest_plain, digest_apart}

-- ---- leaves

pub size_plain : (n : ℕ) → IsSize n → All IsPlain (decimal n)
size_plain n small = decimal_by_steps (λ m ds. All IsPlain ds)
    (λ m one. All-cons IsPlain (48 + m) [] (omega arith, omega (arith, one)) (All-nil IsPlain))
    (λ m ds more rest. All-append IsPlain ds ((48 + m % 10) ∷ []) rest (All-cons IsPlain (48 + m % 10) [] (omega arith, omega arith) (All-nil IsPlain)))
    n small

size_apart : TellsApart decimal IsSize
size_apart m n left right e = decimal_injective m n left right e

listed_apart : TellsApart path_text IsListedPath
listed_apart p q left right e = path_apart p q left.0 right.0 e

-- a path that was read, but that no package's file may have
pub other_path : (text : List ℕ) (p : Path) (test : Bool) → ReadsAs path_text IsRightPath text (Some p) → (IsPackagePath p → IsTrue test) → test ≡ false → ReadsAs path_text IsListedPath text None
other_path text p test read form fails = λ q right e.
    let same : q ≡ p = path_apart q p right.0 read.1 (sym e ∙ read.0) in
    let yes : test ≡ true = form (subst IsPackagePath same right.1) in
    let clash : true ≡ false = sym yes ∙ fails in
    (cc)

-- ---- the line of a file

abbrev pub parts_text : Parts → List ℕ
parts_text = pair_text 32 (λ u. codes "file") (pair_text 32 path_text (pair_text 32 decimal encode_lower))

abbrev pub AreRightParts : Parts → Type 0
AreRightParts = IsRightPair 32 (λ u. codes "file") Any (IsRightPair 32 path_text IsListedPath (IsRightPair 32 decimal IsSize IsDigest))

pub content_parts_are : AreParts parts_text AreRightParts content_text IsContent content_from
content_parts_are = record {
  made = λ p right. (refl, record { path = right.2.0; size = right.2.2.0; digest = right.2.2.2 });
  parts = λ c fine. (
    (tt, (c.path, (c.size, c.digest))),
    (
      (tt, lacks_byte 32 (codes "file") refl, (fine.path, path_blank c.path fine.path.0, (fine.size, plain_blank (decimal c.size) (size_plain c.size fine.size), fine.digest))),
      refl,
      refl,
    ),
  );
}

pub content_apart : TellsApart content_text IsContent
content_apart =
    parts_apart content_parts_are
    (pair_apart 32 (λ u. codes "file") _ Any _ (word_apart (codes "file"))
    (pair_apart 32 path_text _ IsListedPath _ listed_apart
    (pair_apart 32 decimal encode_lower IsSize IsDigest size_apart digest_apart)))

content_shown : AreShown content_text IsContent
content_shown = parts_hold content_parts_are (All IsShown)
    (pair_shown (λ u. codes "file") _ Any _ (word (codes "file") refl)
    (pair_shown path_text _ IsListedPath _ (λ p right. shown_from (path_text p) (token_plain (text_of_path p) right.0.is_text.bytes))
    (pair_shown decimal encode_lower IsSize IsDigest (λ n right. shown_from (decimal n) (size_plain n right)) (λ d right. shown_from (encode_lower d) (digest_plain d right.0)))))

-- ---- a line of either kind

line_shown : AreShown line_text IsRightLine
line_shown = either_shown (λ u. codes "end") content_text Any IsContent (word (codes "end") refl) content_shown

pub line_utf8 : (x : AnyLine) → IsRightLine x → IsUtf8 (line_text x)
line_utf8 x right = IsUtf8-from_ascii (line_text x) (IsAscii-from_all (line_text x) (All-weaker IsShown (λ b. b < 128) (λ b shown. omega (arith, shown.1)) (line_text x) (line_shown x right)))

pub shown_whole : (line : List ℕ) → All IsShown line → Lacks 10 line
shown_whole line all = All-weaker IsShown (λ b. b ≢ 10) (λ b shown e. absurd (omega (arith, e, shown.0))) line all

pub line_whole : (x : AnyLine) → IsRightLine x → Lacks 10 (line_text x)
line_whole x right = shown_whole (line_text x) (line_shown x right)

pub not_text : (line : List ℕ) → (IsUtf8 line → ⊥) → ReadsAs line_text IsRightLine line None
not_text line odd = λ x right e. odd (subst IsUtf8 (sym e) (line_utf8 x right))

pub no_end : (c : Content) → IsContent c → codes "end" ≡ content_text c → ⊥
no_end c right e = (cc)

pub lines_apart : TellsApart line_text IsRightLine
lines_apart = either_apart (λ u. codes "end") content_text Any IsContent (word_apart (codes "end")) content_apart (λ u c left right e. no_end c right e)

-- ---- which lines have a form

pub no_form : (line : List ℕ) → ReadsAs line_text IsRightLine line None → HasForm (Some []) line → ⊥
no_form line none (inl end) = none (inl tt) tt end
no_form line none (inr file) = none (inr file.0) file.1 file.2

pub form_of : (line : List ℕ) (x : AnyLine) → ReadsAs line_text IsRightLine line (Some x) → HasForm (Some []) line
form_of line (inl u) read = inl read.0
form_of line (inr c) read = inr (c, read.1, read.0)
