-- What was read, as the value of the bytes.
use Rattle.std.proofs.Common.{◌≡◌, ℕ, List, [], Bool, true, false, cond, refl, ap, sym, ◌∙◌}
use Rattle.std.specs.Prelude.{Option, Some, None, Err, option_and_then}
use Rattle.std.specs.Option.{is_some}
use Rattle.std.specs.Str.{IsUtf8, is_utf8}
use Rattle.std.proofs.lemmas.Str.{IsUtf8-from_is_utf8, is_utf8-from_IsUtf8}
use Rattle.json.specs.Json as json
use Rattle.json.specs.Lex.{tokens}
use Rattle.json.specs.Token.{Token}
use Rattle.serde_json.specs.Data.{Data}
use Rattle.serde_json.specs.Read.{of_json, max_depth, read}
use Rattle.vk_spec.specs.Reading.{or_fault}
use Rattle.vk_json.specs.declared.faults.Why.TheVariants as why
use Rattle.vk_json.specs.Documents.{json_of, without_mark}
use Rattle.vk_json.specs.Places.{here}
use Rattle.vk_json.specs.Values.{data_of}
use Rattle.vk_json.proofs.RangeLemmas.{json_is}

-- bytes that are UTF-8 are the document that they are as a text
pub of_text : (bytes : List ℕ) → IsUtf8 (without_mark bytes) → or_fault (here why.Json) (read (without_mark bytes)) ≡ json_of bytes
unfolding json_of
of_text bytes text = ap (λ b. or_fault (here why.Json) (cond b (read (without_mark bytes)) None)) (sym (is_utf8-from_IsUtf8 (without_mark bytes) text))

no_text : (bytes : List ℕ) (b : Bool) → is_utf8 bytes ≡ b → (IsUtf8 bytes → ⊥) → cond b (read bytes) None ≡ None
no_text bytes true is none = absurd (none (IsUtf8-from_is_utf8 bytes is))
no_text bytes false is none = refl

-- others are none
pub of_no_text : (bytes : List ℕ) → (IsUtf8 (without_mark bytes) → ⊥) → json_of bytes ≡ Err (here why.Json)
unfolding json_of
of_no_text bytes none = ap (or_fault (here why.Json)) (no_text (without_mark bytes) (is_utf8 (without_mark bytes)) refl none)

in_range_read : (j : json.Json) (found : Option Data) → of_json j ≡ found → true ≡ is_some found → found ≡ Some (data_of j)
in_range_read j None e some = let clash : true ≡ false = some in (cc)
in_range_read j (Some d) e some = ap Some (sym (json_is j d e))

-- a text of one value whose numbers are in range
pub text_read : (text : List ℕ) (j : json.Json) (rest : List Token) → json.value max_depth (tokens text) ≡ Some (j, rest) → rest ≡ [] → true ≡ is_some (of_json j) → read text ≡ Some (data_of j)
text_read text j rest value last some =
    let whole : json.value max_depth (tokens text) ≡ Some (j, []) = value ∙ ap (λ r. Some (j, r)) last in
    ap (λ found. option_and_then of_json (option_and_then (λ p. json.if_last p.0 p.1) found)) whole ∙ in_range_read j (of_json j) refl some
