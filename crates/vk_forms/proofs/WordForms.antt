-- The words of faults and fields have visible characters alone.
use Rattle.std.proofs.Common.{◌≡◌, ◌≢◌, ◌<◌, ◌^◌, ◌++◌, ◌∷◌, ◌&&◌, ℕ, Bool, true, List, [], refl, sym, subst, codes, arith}
use Rattle.std.specs.Prelude.{decimal, nat_lt}
use Rattle.std.specs.List.{All}
use Rattle.std.proofs.lemmas.Bool.Decides.{nat_tests}
use Rattle.std.proofs.lemmas.List.Elements.{All-append, All-cons, All-nil, All-weaker}
use Rattle.vk_base.specs.Paths.{Lacks}
use Rattle.vk_base.specs.Tokens.{IsPlain}
use Rattle.vk_base.specs.Printed.{field_word}
use Rattle.vk_base.proofs.PathLemmas.{both}
use Rattle.vk_spec.specs.Pages.{Field, name, class, text, port}
use Rattle.vk_json.specs.Words.{HasSmallNumber, word_of}
use Rattle.vk_json.specs.declared.faults.Why.{Why}
use Rattle.vk_json.specs.declared.faults.Why.TheVariants as why
use Rattle.vk_forms.specs.Words.{IsWord}
use Rattle.vk_forms.proofs.Numbers.{decimal_plain}

-- visible characters of ASCII alone
abbrev pub are_plain : List ℕ → Bool
are_plain [] = true
are_plain (b ∷ line) = nat_lt 32 b && (nat_lt b 127 && are_plain line)

pub plain_from : (line : List ℕ) → are_plain line ≡ true → All IsPlain line
plain_from [] e = All-nil IsPlain
plain_from (b ∷ line) e =
    let one = both (nat_lt 32 b) (nat_lt b 127 && are_plain line) e in
    let two = both (nat_lt b 127) (are_plain line) one.1 in
    let above = one.0 in
    let below = two.0 in
    All-cons IsPlain b line (grind (arith, nat_tests), grind (arith, nat_tests)) (plain_from line two.1)

-- so there is no blank
pub plain_blank : (line : List ℕ) → All IsPlain line → Lacks 32 line
plain_blank line all = All-weaker IsPlain (λ c. c ≢ 32) (λ c plain e. absurd (omega (arith, e, plain.0))) line all

numbered_plain : (word : List ℕ) (n : ℕ) → All IsPlain (word ++ codes ":") → n < 2 ^ 32 → All IsPlain ((word ++ codes ":") ++ decimal n)
numbered_plain word n is small = All-append IsPlain (word ++ codes ":") (decimal n) is (decimal_plain n small)

pub why_plain : (w : Why) → HasSmallNumber w → All IsPlain (word_of w)
why_plain why.Absent small = plain_from (codes "absent") refl
why_plain why.Large small = plain_from (codes "large") refl
why_plain why.Json small = plain_from (codes "json") refl
why_plain why.Object small = plain_from (codes "object") refl
why_plain why.List small = plain_from (codes "list") refl
why_plain why.Text small = plain_from (codes "text") refl
why_plain why.Bool small = plain_from (codes "bool") refl
why_plain why.Number small = plain_from (codes "number") refl
why_plain why.Item small = plain_from (codes "item") refl
why_plain why.Missing small = plain_from (codes "missing") refl
why_plain why.Name small = plain_from (codes "name") refl
why_plain why.Reserved small = plain_from (codes "reserved") refl
why_plain why.TwoVersions small = plain_from (codes "two-versions") refl
why_plain why.NoVersion small = plain_from (codes "no-version") refl
why_plain why.Version small = plain_from (codes "version") refl
why_plain why.Range small = plain_from (codes "range") refl
why_plain why.Day small = plain_from (codes "day") refl
why_plain why.Depth small = plain_from (codes "depth") refl
why_plain why.Path small = plain_from (codes "path") refl
why_plain why.Kind small = plain_from (codes "kind") refl
why_plain why.Pattern small = plain_from (codes "pattern") refl
why_plain why.Twice small = plain_from (codes "twice") refl
why_plain why.Many small = plain_from (codes "many") refl
why_plain why.Utf8 small = plain_from (codes "utf8") refl
why_plain (why.Unexpected n) small = numbered_plain (codes "unexpected") n (plain_from (codes "unexpected:") refl) small
why_plain (why.Mixed n) small = numbered_plain (codes "mixed") n (plain_from (codes "mixed:") refl) small
why_plain (why.Open n) small = numbered_plain (codes "open") n (plain_from (codes "open:") refl) small
why_plain (why.Line n) small = numbered_plain (codes "line") n (plain_from (codes "line:") refl) small

pub why_blank : (w : Why) → HasSmallNumber w → Lacks 32 (word_of w)
why_blank w small = plain_blank (word_of w) (why_plain w small)

-- a word that is printed of what is wrong
pub word_plain : (word : List ℕ) → IsWord word → All IsPlain word
word_plain word is = subst (All IsPlain) (sym is.is) (why_plain is.why is.small)

pub field_plain : (field : Field) → All IsPlain (field_word field)
field_plain name = plain_from (codes "name") refl
field_plain class = plain_from (codes "class") refl
field_plain text = plain_from (codes "text") refl
field_plain port = plain_from (codes "port-version") refl
