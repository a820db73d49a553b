-- Versions and asks are read from a text and a port-version.
use Rattle.std.proofs.Common.{◌≡◌, ◌≢◌, ◌<◌, ◌^◌, ◌++◌, ◌∷◌, ℕ, Bool, true, false, List, [], refl, ap, sym, ◌∙◌, subst, append_assoc, arith}
use Rattle.std.specs.Prelude.{Option, Some, None, Result, Ok, Err, option_map, not, decimal}
use Rattle.std.specs.List.{list_any}
use Rattle.std.proofs.lemmas.Bool.Decides.{nat_tests}
use Rattle.std.proofs.lemmas.List.Elements.{All-nil, All-cons, All-append}
use Rattle.vk_spec.specs.Reading.{Gives}
use Rattle.vk_spec.specs.Versions as plain
use Rattle.vk_spec.specs.Versions.{Ask, Version, ask_of}
use Rattle.vk_base.specs.declared.stops.Unread.{Unread}
use Rattle.vk_base.specs.declared.stops.Unread.TheVariants as unread
use Rattle.vk_base.specs.Paths.{Lacks}
use Rattle.vk_base.specs.Printed.{version_text}
use Rattle.vk_base.specs.Stops.{fault_in}
use Rattle.vk_base.specs.Tokens.{token_of}
use Rattle.vk_base.proofs.NameLemmas.{neither}
use Rattle.vk_base.proofs.PathLemmas.{both}
use Rattle.vk_base.proofs.TokenLemmas.{tokens_differ}
use Rattle.vk_version.specs.declared.faults.VersionFault.{VersionFault}
use Rattle.vk_version.specs.declared.faults.VersionFault.TheVariants as fault
use Rattle.vk_version.specs.Schemes as the
use Rattle.vk_version.specs.Readings.{fault_unless, reads_version, string_fault, unless}
use Rattle.vk_version.specs.Texts.{is_hash, is_plain}
use Rattle.vk_forms.specs.Forms.{FindsOrNot, IsRightPair, ReadsAs, pair_text}
use Rattle.vk_forms.specs.Texts.{IsText}
use Rattle.vk_forms.specs.Versions.{IsBareVersion, IsRightAsk, IsRightVersion, IsVersionText, bare_text}
use Rattle.vk_forms.proofs.Numbers.{decimal_lacks}
use Rattle.vk_forms.proofs.TextForms.{text_blank, token_lacks}

unless-Ok : {A : Type 0} (f : Option VersionFault) (x v : A) → unless f x ≡ Ok v → (f ≡ None) × (x ≡ v)
unless-Ok None x v e = (refl, (cc))
unless-Ok (Some wrong) x v e = (cc)

pub bare_read : (text t : List ℕ) → text ≡ token_of t → IsText t → (r : Result Version (Unread VersionFault)) → Gives (λ v. v) fault_in r (reads_version the.string t 0)
    → (found : Option Version) → FindsOrNot r found → ReadsAs bare_text IsBareVersion text (option_map (λ v. v) found)
bare_read text t is text_is (Ok v) read found e =
    let it = unless-Ok (string_fault t) (record { class = plain.text; text = t; port = 0 }) v read in
    subst (λ f. ReadsAs bare_text IsBareVersion text (option_map (λ v. v) f)) (sym e)
    (subst (λ w. (text ≡ bare_text w) × IsBareVersion w) it.1 (
      is,
      record { right = record { class = refl; ask = record { text = record { is_text = text_is; allowed = it.0 }; small = omega arith } }; none = refl },
    ))
bare_read text t is text_is (Err (unread.Fault f)) read found e =
    subst (λ f. ReadsAs bare_text IsBareVersion text (option_map (λ v. v) f)) (sym e)
    (λ v right here.
    let same : v.text ≡ t = tokens_differ v.text t right.right.ask.text.is_text.bytes text_is.bytes (sym here ∙ is) in
    let allowed : string_fault t ≡ None = subst (λ x. string_fault x ≡ None) same right.right.ask.text.allowed in
    let fine : reads_version the.string t 0 ≡ Ok (record { class = plain.text; text = t; port = 0 }) = ap (λ f. unless f (record { class = plain.text; text = t; port = 0 })) allowed in
    (cc))
bare_read text t is text_is (Err (unread.Memory memory)) read found e = absurd e

allowed_is : (test : Bool) → fault_unless fault.Shape test ≡ None → test ≡ true
allowed_is true e = refl
allowed_is false e = (cc)

not_is : (test : Bool) → not test ≡ true → test ≡ false
not_is true e = (cc)
not_is false e = refl

any_lacks : (text : List ℕ) → list_any is_hash text ≡ false → Lacks 35 text
any_lacks [] none = All-nil (λ c. c ≢ 35)
any_lacks (b ∷ text) none =
    let each = neither (is_hash b) (list_any is_hash text) none in
    let first = each.0 in
    All-cons (λ c. c ≢ 35) b text (λ e. grind (arith, nat_tests)) (any_lacks text each.1)

-- the text of a version has no hash, and so its token
pub hash_lacks : (text : List ℕ) → IsVersionText text → Lacks 35 (token_of text)
hash_lacks text is =
    let tests = both (is_plain text) (not (list_any is_hash text)) (allowed_is _ is.allowed) in
    token_lacks 35 text (omega arith) (any_lacks text (not_is (list_any is_hash text) tests.1))

pub version_none : (text : List ℕ) → ReadsAs (pair_text 35 bare_text decimal) (IsRightPair 35 bare_text IsBareVersion (λ n. n < 2 ^ 32)) text None
    → ReadsAs (λ v. version_text (ask_of v)) IsRightVersion text None
version_none text none = λ v right e.
    none (record { class = v.class; text = v.text; port = 0 }, v.port)
    (record { right = record { class = right.class; ask = record { text = right.ask.text; small = omega arith } }; none = refl }, hash_lacks v.text right.ask.text, right.ask.small)
    (e ∙ append_assoc (token_of v.text) (35 ∷ []) (decimal v.port))

pub ask_none : (text : List ℕ) → ReadsAs (λ v. version_text (ask_of v)) IsRightVersion text None → ReadsAs version_text IsRightAsk text None
ask_none text none = λ a right e. none (record { class = plain.text; text = a.text; port = a.port }) (record { class = refl; ask = right }) e

-- a version is printed without a blank
pub version_blank : (ask : Ask) → IsRightAsk ask → Lacks 32 (version_text ask)
version_blank ask right =
    All-append (λ c. c ≢ 32) (token_of ask.text ++ 35 ∷ []) (decimal ask.port)
    (All-append (λ c. c ≢ 32) (token_of ask.text) (35 ∷ []) (text_blank ask.text right.text.is_text) (All-cons (λ c. c ≢ 32) 35 [] (λ e. absurd (omega (arith, e))) (All-nil (λ c. c ≢ 32))))
    (decimal_lacks 32 ask.port right.small (omega arith))
