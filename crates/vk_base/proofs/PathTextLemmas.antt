-- The text of a path as it is gone through byte by byte.
use Rattle.std.proofs.Common.{◌≡◌, ◌<◌, ◌++◌, ℕ, zero, suc, true, false, List, [], ◌∷◌, length}
use Rattle.std.proofs.Common.{refl, ap, sym, ◌∙◌, append_assoc, arith}
use Rattle.std.specs.List.{All, join_with_byte}
use Rattle.std.proofs.lemmas.List.Elements.{All-same, All-head}
use Rattle.vk_spec.specs.Paths.{Path, anchor}
use Rattle.vk_base.specs.Paths.{IsPart, IsPath, is_rooted, ups_of, parts_of, steps_of, text_of_path}
use Rattle.vk_base.specs.PathTexts.{left_text, parts_text, climbing_text}
use Rattle.vk_base.specs.declared.path_texts.Left.{Left}
use Rattle.vk_base.specs.Tokens.{token_of}
use Rattle.vk_base.proofs.PathLemmas.{key_again, steps_anchor}
use Rattle.vk_base.proofs.PathLaws.{text_down, text_root, joined_some}
use Rattle.vk_base.proofs.TokenLemmas.{token-append}

some_text : (text : List ℕ) → 0 < length text → parts_text text ≡ text
some_text [] some = absurd (omega (arith, some))
some_text (b ∷ text) some = refl

some_climbing : (n : ℕ) (text : List ℕ) → 0 < length text → climbing_text n text ≡ steps_of n ++ text
some_climbing n [] some = absurd (omega (arith, some))
some_climbing n (b ∷ text) some = refl

plain_parts : (parts : Path) → All IsPart parts → text_of_path (anchor false 0 ∷ parts) ≡ parts_text (join_with_byte 47 parts)
plain_parts [] each = refl
plain_parts (p ∷ ps) each = text_down 0 p ps ∙ sym (some_text (join_with_byte 47 (p ∷ ps)) (joined_some p ps (All-head IsPart p ps each)))

climbing_parts : (n : ℕ) (parts : Path) → 0 < n → All IsPart parts → text_of_path (anchor false n ∷ parts) ≡ climbing_text n (join_with_byte 47 parts)
climbing_parts n [] some each = sym (steps_anchor n some)
climbing_parts n (p ∷ ps) some each = text_down n p ps ∙ sym (some_climbing n (join_with_byte 47 (p ∷ ps)) (joined_some p ps (All-head IsPart p ps each)))

rooted_parts : (ups : ℕ) (parts : Path) → text_of_path (anchor true ups ∷ parts) ≡ 47 ∷ join_with_byte 47 parts
rooted_parts ups [] = refl
rooted_parts ups (p ∷ ps) = text_root ups p ps

each_part : (key : Path) → IsPath key → All IsPart (parts_of key)
each_part key path = All-same IsPart (parts_of key) path.parts (ap parts_of path.key_is) path.path.each

-- a rooted one, one without steps up, and one with some
pub text_rooted : (key : Path) → IsPath key → is_rooted key ≡ true → text_of_path key ≡ 47 ∷ join_with_byte 47 (parts_of key)
text_rooted key path e =
    ap text_of_path (sym (key_again key path)) ∙ ap (λ b. text_of_path (anchor b (ups_of key) ∷ parts_of key)) e ∙ rooted_parts (ups_of key) (parts_of key)

pub text_plain : (key : Path) → IsPath key → is_rooted key ≡ false → ups_of key ≡ 0 → text_of_path key ≡ parts_text (join_with_byte 47 (parts_of key))
text_plain key path e none =
    ap text_of_path (sym (key_again key path))
    ∙ ap (λ b. text_of_path (anchor b (ups_of key) ∷ parts_of key)) e
    ∙ ap (λ n. text_of_path (anchor false n ∷ parts_of key)) none
    ∙ plain_parts (parts_of key) (each_part key path)

pub text_climbing : (key : Path) → IsPath key → is_rooted key ≡ false → 0 < ups_of key → text_of_path key ≡ climbing_text (ups_of key) (join_with_byte 47 (parts_of key))
text_climbing key path e some =
    ap text_of_path (sym (key_again key path))
    ∙ ap (λ b. text_of_path (anchor b (ups_of key) ∷ parts_of key)) e
    ∙ climbing_parts (ups_of key) (parts_of key) some (each_part key path)

steps_token : (n : ℕ) → token_of (steps_of n) ≡ steps_of n
unfolding token_of
steps_token zero = refl
steps_token (suc n) = ap (λ t. 46 ∷ 46 ∷ 47 ∷ t) (steps_token n)

-- the token of what is left, piece by piece
pub left_token : (l : Left) → token_of l.bytes.now ++ (steps_of l.steps ++ token_of l.rest.now) ≡ token_of (left_text l)
left_token l =
    ap (λ t. token_of l.bytes.now ++ (t ++ token_of l.rest.now)) (sym (steps_token l.steps))
    ∙ ap (λ t. token_of l.bytes.now ++ t) (sym (token-append (steps_of l.steps) l.rest.now))
    ∙ sym (token-append l.bytes.now (steps_of l.steps ++ l.rest.now))
    ∙ ap token_of (sym (append_assoc l.bytes.now (steps_of l.steps) l.rest.now))
