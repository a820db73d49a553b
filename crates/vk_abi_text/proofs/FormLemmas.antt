-- What stands in a line is read from its parts.
use Rattle.std.proofs.Common.{◌≡◌, ◌≢◌, ◌++◌, ◌∷◌, ℕ, Bool, true, false, cond, List, refl, ap, sym, ◌∙◌, subst}
use Rattle.std.specs.Prelude.{Option, Some, None, Result, Ok, Err, decimal, nat_lt, length, option_map}
use Rattle.hex.specs.Hex.{encode_lower}
use Rattle.vk_spec.specs.Manifests.{default}
use Rattle.vk_spec.specs.Reading.{◌>>=◌, Gives}
use Rattle.vk_spec.specs.Versions as plain
use Rattle.vk_spec.specs.Versions.{Class, Version}
use Rattle.vk_base.specs.Names.{IsName, port_rule, word_rule}
use Rattle.vk_base.specs.Paths.{text_of_path}
use Rattle.vk_base.specs.Printed.{path_text}
use Rattle.vk_base.specs.Stops.{fault_in}
use Rattle.vk_base.specs.Tokens.{token_of}
use Rattle.vk_base.specs.declared.stops.Unread.{Unread}
use Rattle.vk_base.specs.declared.stops.Unread.TheVariants as unread
use Rattle.vk_base.proofs.NameLemmas.{rule_from_no_fault}
use Rattle.vk_base.proofs.TokenLemmas.{tokens_differ}
use Rattle.vk_version.specs.ClassWords.{class_word}
use Rattle.vk_version.specs.Readings.{IsVersion, class_of, fault_under, reads_version, unless}
use Rattle.vk_version.specs.Schemes as the
use Rattle.vk_version.specs.Schemes.{Scheme}
use Rattle.vk_version.specs.declared.faults.VersionFault.{VersionFault}
use Rattle.vk_model.specs.BuilderTexts.{reads_builder_text}
use Rattle.vk_model.specs.Retold.{told_as}
use Rattle.vk_model.specs.declared.builders.BuilderFault.{BuilderFault}
use Rattle.vk_model.specs.declared.builders.BuilderFault.TheVariants as fault
use Rattle.vk_forms.specs.Lines.{IsLine}
use Rattle.vk_forms.specs.Forms.{FindsOrNot, ReadsAs, pair_text, IsRightPair}
use Rattle.vk_forms.specs.Paths.{IsRightPath}
use Rattle.vk_forms.specs.Texts.{IsText}
use Rattle.vk_forms.proofs.Apart.{number_apart}
use Rattle.vk_forms.proofs.NameForms.{name_lacks, name_token}
use Rattle.vk_forms.proofs.PairForms.{same_pair}
use Rattle.vk_forms.proofs.Through.{AreParts}
use Rattle.vk_abi_text.specs.Forms.{IsBuilderText, IsRightTriplet, ReadsVersion, builder_of, dep_of, file_of, scheme_of, version_of}
use Rattle.vk_abi_text.specs.Lines.{builder_line, dep_line, file_line, version_line}
use Rattle.vk_abi_text.specs.Parts.{builder_text, dep_text, file_text, triplet_text, version_text}
use Rattle.vk_abi_text.specs.Rights.{IsDigest, IsReadableLine, IsRightFeature}
use Rattle.vk_abi_text.proofs.LineParts.{class_blank, token_blank, words_differ}

-- ---- builders' texts

told_same : (test : Bool) (r : Result Version BuilderFault) (t x : List ℕ) → cond test (Err fault.Form) (r >>= λ version. Ok t) ≡ Ok x → x ≡ t
told_same true r t x e = (cc)
told_same false (Ok v) t x e = (cc)
told_same false (Err f) t x e = (cc)

reads_itself : (t x : List ℕ) → reads_builder_text t ≡ Ok x → x ≡ t
unfolding reads_builder_text
reads_itself t x e = told_same (nat_lt 200 (length t)) (told_as fault.Form (reads_version the.string t 0)) t x e

pub builder_text_read : (text t : List ℕ) → text ≡ token_of t → IsText t → (r : Result (List ℕ) (Unread BuilderFault)) → Gives (λ x. x) fault_in r (reads_builder_text t)
    → (found : Option (List ℕ)) → FindsOrNot r found → ReadsAs token_of IsBuilderText text (option_map (λ x. x) found)
builder_text_read text t is text_is (Ok x) read found e =
    let same = reads_itself t x read in
    subst (λ f. ReadsAs token_of IsBuilderText text (option_map (λ x. x) f)) (sym e)
    (subst (λ y. (text ≡ token_of y) × IsBuilderText y) (sym same) (is, record { reads = read ∙ ap (λ y. Ok y) same; is_text = text_is }))
builder_text_read text t is text_is (Err (unread.Fault f)) read found e =
    subst (λ f. ReadsAs token_of IsBuilderText text (option_map (λ x. x) f)) (sym e)
    (λ y right here.
    let same : y ≡ t = tokens_differ y t right.is_text.bytes text_is.bytes (sym here ∙ is) in
    let fine : reads_builder_text t ≡ Ok t = subst (λ z. reads_builder_text z ≡ Ok z) same right.reads in
    (cc))
builder_text_read text t is text_is (Err (unread.Memory memory)) read found e = absurd e

-- ---- features

default_token : token_of default ≡ default
default_token = name_token word_rule default (rule_from_no_fault word_rule default refl)

pub default_none : (text x : List ℕ) → text ≡ default → IsRightFeature x → text ≡ token_of x → ⊥
default_none text x is right e = right.not_default (sym (name_token word_rule x right.name) ∙ sym e ∙ is)

pub not_default : (text : List ℕ) → text ≢ default → (found : Option (List ℕ)) → ReadsAs token_of (IsName word_rule) text found → ReadsAs token_of IsRightFeature text found
not_default text free (Some f) read = (read.0, record { name = read.1; not_default = λ e. free (read.0 ∙ ap token_of e ∙ default_token) })
not_default text free None none = λ x right e. none x right.name e

-- ---- versions

unless_ok : {A : Type 0} (f : Option VersionFault) (x v : A) → unless f x ≡ Ok v → x ≡ v
unless_ok None x v e = (cc)
unless_ok (Some wrong) x v e = (cc)

class_back : (class : Class) → class_of (scheme_of class) ≡ class
class_back plain.dot = refl
class_back plain.date = refl
class_back plain.text = refl

-- a version that the semantic scheme reads, the relaxed one reads too
abbrev pub IsRelaxed : Type 0
IsRelaxed = (text : List ℕ) (port : ℕ) (v : Version) → reads_version the.semver text port ≡ Ok v → reads_version the.relaxed text port ≡ Ok v

class_is : (s : Scheme) (class : Class) (text : List ℕ) (port : ℕ) → reads_version s text port ≡ Ok (version_of class text port) → class_of s ≡ class
class_is s class text port e = ap (λ v. v.class) (unless_ok (fault_under s text) (record { class = class_of s; text = text; port = port }) (version_of class text port) e)

by_class : IsRelaxed → (s : Scheme) (class : Class) (text : List ℕ) (port : ℕ) → class_of s ≡ class → reads_version s text port ≡ Ok (version_of class text port) → reads_version (scheme_of class) text port ≡ Ok (version_of class text port)
by_class relaxed the.relaxed class text port is e = subst (λ c. reads_version (scheme_of c) text port ≡ Ok (version_of class text port)) is e
by_class relaxed the.semver class text port is e = subst (λ c. reads_version (scheme_of c) text port ≡ Ok (version_of class text port)) is (relaxed text port (version_of class text port) e)
by_class relaxed the.date class text port is e = subst (λ c. reads_version (scheme_of c) text port ≡ Ok (version_of class text port)) is e
by_class relaxed the.string class text port is e = subst (λ c. reads_version (scheme_of c) text port ≡ Ok (version_of class text port)) is e

pub version_read : IsRelaxed → (class : Class) (text : List ℕ) (port : ℕ) (s : Scheme) → s ≡ scheme_of class → (r : Result Version (Unread VersionFault)) → Gives (λ v. v) fault_in r (reads_version s text port)
    → (found : Option Version) → FindsOrNot r found → ReadsVersion class text port found
version_read relaxed class text port s by (Ok v) read found e =
    let whole : record { class = class_of s; text = text; port = port } ≡ v = unless_ok (fault_under s text) (record { class = class_of s; text = text; port = port }) v read in
    let same : v ≡ version_of class text port = sym whole ∙ ap (λ c. version_of c text port) (ap class_of by ∙ class_back class) in
    subst (ReadsVersion class text port) (sym e) (same, subst IsVersion whole (record { scheme = s; reads = read ∙ ap (λ x. Ok x) (sym whole) }))
version_read relaxed class text port s by (Err (unread.Fault f)) read found e =
    subst (ReadsVersion class text port) (sym e)
    (λ is.
    let fine : reads_version s text port ≡ Ok (version_of class text port) =
    ap (λ x. reads_version x text port) by ∙ by_class relaxed is.scheme class text port (class_is is.scheme class text port is.reads) is.reads in
    (cc))
version_read relaxed class text port s by (Err (unread.Memory memory)) read found e = absurd e

pub read_mapped : (class : Class) (text : List ℕ) (port : ℕ) (found : Option Version) → ReadsVersion class text port found → ReadsVersion class text port (option_map (λ v. v) found)
read_mapped class text port None read = read
read_mapped class text port (Some v) read = read

abbrev pub VersionParts : Type 0
VersionParts = Class × (List ℕ × ℕ)

abbrev pub version_parts_text : VersionParts → List ℕ
version_parts_text = pair_text 32 class_word (pair_text 32 token_of decimal)

abbrev pub AreVersionParts : VersionParts → Type 0
AreVersionParts = IsRightPair 32 class_word (λ c. Unit {0}) (IsRightPair 32 token_of IsText IsLine)

abbrev IsReadableVersion : Version → Type 0
IsReadableVersion v = IsReadableLine (version_line v)

pub version_made : (text : List ℕ) (p : VersionParts) → ReadsAs version_parts_text AreVersionParts text (Some p) → (found : Option Version) → ReadsVersion p.0 p.1.0 p.1.1 found → ReadsAs version_text (λ v. IsReadableLine (version_line v)) text found
version_made text p read (Some v) is =
    subst (λ w. (text ≡ version_text w) × IsReadableVersion w) (sym is.0)
    (read.0, (record { version = subst IsVersion is.0 is.1; bytes = read.1.2.0.bytes; small = read.1.2.2 }, read.1.2.0.utf8))
version_made text p read None none = λ v right e.
    let line : version_text v ≡ version_parts_text p = sym e ∙ read.0 in
    let one = same_pair 32 (class_word v.class) (class_word p.0) (token_of v.text ++ 32 ∷ decimal v.port) (token_of p.1.0 ++ 32 ∷ decimal p.1.1) (class_blank v.class) (class_blank p.0) line in
    let two = same_pair 32 (token_of v.text) (token_of p.1.0) (decimal v.port) (decimal p.1.1) (token_blank v.text right.0.bytes) (token_blank p.1.0 read.1.2.0.bytes) one.1 in
    let class = words_differ v.class p.0 one.0 in
    let text_same = tokens_differ v.text p.1.0 right.0.bytes read.1.2.0.bytes two.0 in
    let port = number_apart v.port p.1.1 right.0.small read.1.2.2 two.1 in
    none (subst (λ c. IsVersion (version_of c p.1.0 p.1.1)) class (subst (λ t. IsVersion (version_of v.class t p.1.1)) text_same (subst (λ n. IsVersion (version_of v.class v.text n)) port right.0.version)))

pub no_version : (text : List ℕ) → ReadsAs version_parts_text AreVersionParts text None → ReadsAs version_text (λ v. IsReadableLine (version_line v)) text None
no_version text none = λ v right e.
    none (v.class, (v.text, v.port)) (tt, class_blank v.class, (record { bytes = right.0.bytes; utf8 = right.1 }, token_blank v.text right.0.bytes, right.0.small)) e

-- ---- values made of parts

pub builder_parts_are : AreParts (pair_text 32 token_of token_of) (IsRightPair 32 token_of (IsName word_rule) IsBuilderText) builder_text (λ b. IsReadableLine (builder_line b)) builder_of
builder_parts_are = record {
  made = λ p right. (refl, (record { name = right.0; text = right.2.reads; bytes = right.2.is_text.bytes }, right.2.is_text.utf8));
  parts = λ b fine. (
    (b.name, b.text),
    ((fine.0.name, name_lacks word_rule 32 b.name refl fine.0.name, record { reads = fine.0.text; is_text = record { bytes = fine.0.bytes; utf8 = fine.1 } }), refl, refl),
  );
}

pub dep_parts_are : AreParts (pair_text 32 token_of (pair_text 32 token_of encode_lower)) (IsRightPair 32 token_of (IsName port_rule) (IsRightPair 32 token_of (IsName word_rule) IsDigest)) dep_text (λ d. IsReadableLine (dep_line d)) dep_of
dep_parts_are = record {
  made = λ p right. (refl, record { instance = (right.0, right.2.0); digest = right.2.2 });
  parts = λ d fine. (
    (d.instance.port, (d.instance.triplet, d.digest)),
    (
      (fine.instance.0, name_lacks port_rule 32 d.instance.port refl fine.instance.0, (fine.instance.1, name_lacks word_rule 32 d.instance.triplet refl fine.instance.1, fine.digest)),
      refl,
      refl,
    ),
  );
}

pub file_parts_are : AreParts (pair_text 32 path_text encode_lower) (IsRightPair 32 path_text IsRightPath IsDigest) file_text (λ f. IsReadableLine (file_line f)) file_of
file_parts_are = record {
  made = λ p right. (
    refl,
    (record { path = right.0.is_short.path; bytes = right.0.is_text.bytes; digest = right.2 }, record { short = right.0.is_short.short; utf8 = right.0.is_text.utf8 }),
  );
  parts = λ f fine. (
    (f.path, f.digest),
    (
      (
        record { is_short = record { path = fine.0.path; short = fine.1.short }; is_text = record { bytes = fine.0.bytes; utf8 = fine.1.utf8 } },
        token_blank (text_of_path f.path) fine.0.bytes,
        fine.0.digest,
      ),
      refl,
      refl,
    ),
  );
}

pub triplet_read : (text : List ℕ) (found : Option (List ℕ × List ℕ)) → ReadsAs (pair_text 32 token_of encode_lower) (IsRightPair 32 token_of (IsName word_rule) IsDigest) text found → ReadsAs triplet_text IsRightTriplet text found
triplet_read text (Some t) read = (read.0, (read.1.0, read.1.2))
triplet_read text None none = λ t right e. none t (right.0, name_lacks word_rule 32 t.0 refl right.0, right.1) e
