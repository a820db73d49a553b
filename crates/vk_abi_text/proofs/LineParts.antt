-- Lines are put together from a word and a value, and no two right ones have one text.
use Rattle.std.proofs.Common.{◌≡◌, ◌++◌, ◌∷◌, ℕ, true, false, List, [], inl, inr, refl, ap, sym, ◌∙◌, codes}
use Rattle.std.specs.Prelude.{◌==◌, decimal, slice_index, if◌then◌else◌}
use Rattle.hex.specs.Hex.{encode_lower}
use Rattle.vk_spec.specs.Settings.{Instance}
use Rattle.vk_spec.specs.Versions.{Class, Version}
use Rattle.vk_spec.specs.Versions as plain
use Rattle.vk_base.specs.Names.{IsName, port_rule, word_rule}
use Rattle.vk_base.specs.Paths.{Lacks, text_of_path}
use Rattle.vk_base.specs.Printed.{path_text}
use Rattle.vk_base.specs.Tokens.{IsByte, token_of}
use Rattle.std.specs.List.{All}
use Rattle.vk_base.proofs.PathLemmas.{lacks_byte}
use Rattle.vk_base.proofs.TokenLemmas.{token_plain, tokens_differ}
use Rattle.vk_version.specs.ClassWords.{class_word}
use Rattle.vk_model.specs.declared.builders.Builder.{Builder}
use Rattle.vk_forms.specs.Choices.{either_text, IsRightEither}
use Rattle.vk_forms.specs.Forms.{TellsApart, pair_text, IsRightPair}
use Rattle.vk_forms.specs.Words.{Any}
use Rattle.vk_forms.proofs.Apart.{name_apart, number_apart}
use Rattle.vk_forms.proofs.Heads.{AreKinds, one_kind, one_or}
use Rattle.vk_forms.proofs.NameForms.{name_lacks}
use Rattle.vk_forms.proofs.PairForms.{same_pair}
use Rattle.vk_forms.proofs.Through.{AreParts, parts_apart}
use Rattle.vk_forms.proofs.WordForms.{plain_blank}
use Rattle.vk_abi_text.specs.Inputs.{DepDigest, FileDigest}
use Rattle.vk_abi_text.specs.Lines.{AbiLine, builder_line, dep_line, feature_line, file_line, line_text, native_line, port_line, triplet_line, version_line, yes_or_no}
use Rattle.vk_abi_text.specs.Parts.{LineParts, builder_text, dep_text, file_text, line_of, triplet_text, version_text}
use Rattle.vk_abi_text.specs.Rights.{IsRightBuilder, IsRightDep, IsRightFeature, IsRightFile, IsRightLine, IsRightVersion}
use Rattle.vk_abi_text.proofs.Digests.{digest_apart}
use Rattle.vk_abi_text.proofs.PathTexts.{paths_apart}

-- ---- the parts of lines, of which each is right as its line is

abbrev pub worded : {X : Type 0} → List ℕ → (X → List ℕ) → Unit {0} × X → List ℕ
worded word prints = pair_text 32 (λ u. word) prints

abbrev pub IsWorded : {X : Type 0} → List ℕ → (X → Type 0) → Unit {0} × X → Type 0
IsWorded word is_right = IsRightPair 32 (λ u. word) Any is_right

abbrev pub parts_text : LineParts → List ℕ
parts_text =
    either_text (worded (codes "builder") builder_text) (either_text (worded (codes "dep") dep_text) (either_text (worded (codes "feature") token_of) (either_text (worded (codes "file") file_text)
    (either_text (worded (codes "native") yes_or_no) (either_text (worded (codes "port") token_of) (either_text (worded (codes "triplet") triplet_text) (worded (codes "version") version_text)))))))

abbrev pub AreLineParts : (AbiLine → Type 0) → LineParts → Type 0
AreLineParts R =
    IsRightEither (IsWorded (codes "builder") (λ b. R (builder_line b))) (IsRightEither (IsWorded (codes "dep") (λ d. R (dep_line d)))
    (IsRightEither (IsWorded (codes "feature") (λ f. R (feature_line f))) (IsRightEither (IsWorded (codes "file") (λ f. R (file_line f)))
    (IsRightEither (IsWorded (codes "native") (λ n. R (native_line n))) (IsRightEither (IsWorded (codes "port") (λ p. R (port_line p)))
    (IsRightEither (IsWorded (codes "triplet") (λ t. R (triplet_line t.0 t.1))) (IsWorded (codes "version") (λ v. R (version_line v)))))))))

module _ (R : AbiLine → Type 0) where
  line_made : (p : LineParts) → AreLineParts R p → (parts_text p ≡ line_text (line_of p)) × R (line_of p)
  line_made (inl p) right = (refl, right.2)
  line_made (inr (inl p)) right = (refl, right.2)
  line_made (inr (inr (inl p))) right = (refl, right.2)
  line_made (inr (inr (inr (inl p)))) right = (refl, right.2)
  line_made (inr (inr (inr (inr (inl p))))) right = (refl, right.2)
  line_made (inr (inr (inr (inr (inr (inl p)))))) right = (refl, right.2)
  line_made (inr (inr (inr (inr (inr (inr (inl p))))))) right = (refl, right.2)
  line_made (inr (inr (inr (inr (inr (inr (inr p))))))) right = (refl, right.2)

  parts_of_line : (line : AbiLine) → R line → (p : LineParts) × (AreLineParts R p × (line_text line ≡ parts_text p) × (line ≡ line_of p))
  parts_of_line (builder_line b) fine = (inl (tt, b), ((tt, lacks_byte 32 (codes "builder") refl, fine), refl, refl))
  parts_of_line (dep_line d) fine = (inr (inl (tt, d)), ((tt, lacks_byte 32 (codes "dep") refl, fine), refl, refl))
  parts_of_line (feature_line f) fine = (inr (inr (inl (tt, f))), ((tt, lacks_byte 32 (codes "feature") refl, fine), refl, refl))
  parts_of_line (file_line f) fine = (inr (inr (inr (inl (tt, f)))), ((tt, lacks_byte 32 (codes "file") refl, fine), refl, refl))
  parts_of_line (native_line n) fine = (inr (inr (inr (inr (inl (tt, n))))), ((tt, lacks_byte 32 (codes "native") refl, fine), refl, refl))
  parts_of_line (port_line p) fine = (inr (inr (inr (inr (inr (inl (tt, p)))))), ((tt, lacks_byte 32 (codes "port") refl, fine), refl, refl))
  parts_of_line (triplet_line t d) fine = (inr (inr (inr (inr (inr (inr (inl (tt, (t, d)))))))), ((tt, lacks_byte 32 (codes "triplet") refl, fine), refl, refl))
  parts_of_line (version_line v) fine = (inr (inr (inr (inr (inr (inr (inr (tt, v))))))), ((tt, lacks_byte 32 (codes "version") refl, fine), refl, refl))

  pub line_parts_are : AreParts parts_text (AreLineParts R) line_text R line_of
  line_parts_are = record { made = line_made; parts = parts_of_line }

-- ---- what stands behind the first word tells the value

pub token_blank : (text : List ℕ) → All IsByte text → Lacks 32 (token_of text)
token_blank text bytes = plain_blank (token_of text) (token_plain text bytes)

builder_is : (b c : Builder) → b.name ≡ c.name → b.text ≡ c.text → b ≡ c
builder_is b c one other = ap (λ n. record { name = n; text = b.text }) one ∙ ap (λ t. record { name = c.name; text = t }) other

builder_apart : TellsApart builder_text IsRightBuilder
builder_apart b c left right e =
    let same = same_pair 32 (token_of b.name) (token_of c.name) (token_of b.text) (token_of c.text) (name_lacks word_rule 32 b.name refl left.name) (name_lacks word_rule 32 c.name refl right.name) e in
    builder_is b c (name_apart word_rule b.name c.name left.name right.name same.0) (tokens_differ b.text c.text left.bytes right.bytes same.1)

pub instance_is : (i j : Instance) → i.port ≡ j.port → i.triplet ≡ j.triplet → i ≡ j
instance_is i j one other = ap (λ p. record { port = p; triplet = i.triplet }) one ∙ ap (λ t. record { port = j.port; triplet = t }) other

dep_is : (d e : DepDigest) → d.instance ≡ e.instance → d.digest ≡ e.digest → d ≡ e
dep_is d e one other = ap (λ i. record { instance = i; digest = d.digest }) one ∙ ap (λ h. record { instance = e.instance; digest = h }) other

dep_apart : TellsApart dep_text IsRightDep
dep_apart d e left right same =
    let one = same_pair 32 (token_of d.instance.port) (token_of e.instance.port) (token_of d.instance.triplet ++ 32 ∷ encode_lower d.digest) (token_of e.instance.triplet ++ 32 ∷ encode_lower e.digest)
    (name_lacks port_rule 32 d.instance.port refl left.instance.0) (name_lacks port_rule 32 e.instance.port refl right.instance.0) same in
    let two = same_pair 32 (token_of d.instance.triplet) (token_of e.instance.triplet) (encode_lower d.digest) (encode_lower e.digest)
    (name_lacks word_rule 32 d.instance.triplet refl left.instance.1) (name_lacks word_rule 32 e.instance.triplet refl right.instance.1) one.1 in
    dep_is d e (instance_is d.instance e.instance (name_apart port_rule d.instance.port e.instance.port left.instance.0 right.instance.0 one.0) (name_apart word_rule d.instance.triplet e.instance.triplet left.instance.1 right.instance.1 two.0))
    (digest_apart d.digest e.digest left.digest right.digest two.1)

feature_apart : TellsApart token_of IsRightFeature
feature_apart f g left right e = name_apart word_rule f g left.name right.name e

file_is : (f g : FileDigest) → f.path ≡ g.path → f.digest ≡ g.digest → f ≡ g
file_is f g one other = ap (λ p. record { path = p; digest = f.digest }) one ∙ ap (λ h. record { path = g.path; digest = h }) other

file_apart : TellsApart file_text IsRightFile
file_apart f g left right e =
    let same = same_pair 32 (path_text f.path) (path_text g.path) (encode_lower f.digest) (encode_lower g.digest) (token_blank (text_of_path f.path) left.bytes) (token_blank (text_of_path g.path) right.bytes) e in
    file_is f g (paths_apart f.path g.path left.path right.path (tokens_differ (text_of_path f.path) (text_of_path g.path) left.bytes right.bytes same.0)) (digest_apart f.digest g.digest left.digest right.digest same.1)

native_apart : TellsApart yes_or_no (λ n. IsRightLine (native_line n))
native_apart true true left right e = refl
native_apart true false left right e = absurd (cc)
native_apart false true left right e = absurd (cc)
native_apart false false left right e = refl

pair_is : (p q : List ℕ × List ℕ) → p.0 ≡ q.0 → p.1 ≡ q.1 → p ≡ q
pair_is p q one other = ap (λ a. (a, p.1)) one ∙ ap (λ b. (q.0, b)) other

triplet_apart : TellsApart triplet_text (λ t. IsRightLine (triplet_line t.0 t.1))
triplet_apart t u left right e =
    let same = same_pair 32 (token_of t.0) (token_of u.0) (encode_lower t.1) (encode_lower u.1) (name_lacks word_rule 32 t.0 refl left.0) (name_lacks word_rule 32 u.0 refl right.0) e in
    pair_is t u (name_apart word_rule t.0 u.0 left.0 right.0 same.0) (digest_apart t.1 u.1 left.1 right.1 same.1)

pub class_blank : (class : Class) → Lacks 32 (class_word class)
class_blank plain.dot = lacks_byte 32 (codes "dot") refl
class_blank plain.date = lacks_byte 32 (codes "date") refl
class_blank plain.text = lacks_byte 32 (codes "text") refl

-- a class is known by the second byte of its word
class_named : List ℕ → Class
class_named word = if slice_index word 1 == 111 then plain.dot else if slice_index word 1 == 97 then plain.date else plain.text

class_again : (class : Class) → class_named (class_word class) ≡ class
unfolding class_named
class_again plain.dot = refl
class_again plain.date = refl
class_again plain.text = refl

pub words_differ : (c d : Class) → class_word c ≡ class_word d → c ≡ d
words_differ c d e = sym (class_again c) ∙ ap class_named e ∙ class_again d

version_is : (v w : Version) → v.class ≡ w.class → v.text ≡ w.text → v.port ≡ w.port → v ≡ w
version_is v w one two three =
    ap (λ c. record { class = c; text = v.text; port = v.port }) one
    ∙ ap (λ t. record { class = w.class; text = t; port = v.port }) two
    ∙ ap (λ n. record { class = w.class; text = w.text; port = n }) three

version_apart : TellsApart version_text IsRightVersion
version_apart v w left right e =
    let one = same_pair 32 (class_word v.class) (class_word w.class) (token_of v.text ++ 32 ∷ decimal v.port) (token_of w.text ++ 32 ∷ decimal w.port) (class_blank v.class) (class_blank w.class) e in
    let two = same_pair 32 (token_of v.text) (token_of w.text) (decimal v.port) (decimal w.port) (token_blank v.text left.bytes) (token_blank w.text right.bytes) one.1 in
    version_is v w (words_differ v.class w.class one.0) (tokens_differ v.text w.text left.bytes right.bytes two.0) (number_apart v.port w.port left.small right.small two.1)

-- ---- kinds are told apart by their first words

version_kind : AreKinds (codes "version" ∷ []) (worded (codes "version") version_text) (IsWorded (codes "version") IsRightVersion)
version_kind = one_kind (codes "version") version_text IsRightVersion version_apart

line_parts_apart : TellsApart parts_text (AreLineParts IsRightLine)
line_parts_apart =
    (one_or (codes "builder") _ _ _ _ _ refl (one_kind (codes "builder") builder_text IsRightBuilder builder_apart)
    (one_or (codes "dep") _ _ _ _ _ refl (one_kind (codes "dep") dep_text IsRightDep dep_apart)
    (one_or (codes "feature") _ _ _ _ _ refl (one_kind (codes "feature") token_of IsRightFeature feature_apart)
    (one_or (codes "file") _ _ _ _ _ refl (one_kind (codes "file") file_text IsRightFile file_apart)
    (one_or (codes "native") _ _ _ _ _ refl (one_kind (codes "native") yes_or_no (λ n. IsRightLine (native_line n)) native_apart)
    (one_or (codes "port") _ _ _ _ _ refl (one_kind (codes "port") token_of (IsName port_rule) (name_apart port_rule))
    (one_or (codes "triplet") _ _ _ _ _ refl (one_kind (codes "triplet") triplet_text (λ t. IsRightLine (triplet_line t.0 t.1)) triplet_apart)
    version_kind))))))).apart

-- no two right lines have one text
pub lines_apart : TellsApart line_text IsRightLine
lines_apart = parts_apart (line_parts_are IsRightLine) line_parts_apart
