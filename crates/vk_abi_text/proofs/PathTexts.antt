-- Different paths have different texts, however long they are.
use Rattle.std.proofs.Common.{◌≡◌, ◌+◌, ◌==◌, ◌++◌, ◌∷◌, ℕ, zero, suc, Bool, true, false, List, [], length, refl, ap, sym, ◌∙◌, append_assoc, arith}
use Rattle.std.specs.List.{All, join_with_byte}
use Rattle.std.specs.Str.{bytes_eq}
use Rattle.std.proofs.lemmas.List.{append-nil}
use Rattle.std.proofs.lemmas.Bool.Decides.{nat_tests}
use Rattle.std.proofs.lemmas.List.Elements.{All-head, All-tail}
use Rattle.std.proofs.lemmas.Slice.Eq.{bytes_eq-Decides}
use Rattle.vk_spec.specs.Paths.{Path, steps_up, anchor}
use Rattle.vk_base.specs.Paths.{IsPart, IsPathOf, IsPath, steps_of, text_of_path}
use Rattle.vk_base.specs.PathReading.{segments, stays, climbs, with_segment, walked, start_of}
use Rattle.vk_base.proofs.PathLaws.{segments_joined, text_down, text_root}
use Rattle.vk_base.proofs.PathLemmas.{climbed-key, steps_end}

empty_text : (s : List ℕ) → (length s == 0) ≡ true → s ≡ []
empty_text [] e = refl
empty_text (c ∷ s) e = absurd (grind (arith, nat_tests))

not_so : (test : Bool) → (test ≡ true → ⊥) → test ≡ false
not_so true none = absurd (none refl)
not_so false none = refl

part_stays : (s : List ℕ) → IsPart s → stays s ≡ false
part_stays s part =
    let filled = not_so (length s == 0) (λ e. part.some (empty_text s e)) in
    let away = not_so (bytes_eq s (46 ∷ [])) (λ e. part.not_here ((bytes_eq-Decides s (46 ∷ [])).0 e)) in
    rw (filled, away) refl

with_part : (key : Path) (s : List ℕ) → IsPart s → with_segment key s ≡ key ++ s ∷ []
with_part key s part = rw (part_stays s part, not_so (climbs s) (λ e. part.not_above ((bytes_eq-Decides s (46 ∷ 46 ∷ [])).0 e))) refl

walked_parts : (key parts : Path) → All IsPart parts → walked key parts ≡ key ++ parts
unfolding walked
walked_parts key [] all = sym (append-nil key)
walked_parts key (s ∷ ss) all =
    ap (λ k. walked k ss) (with_part key s (All-head IsPart s ss all))
    ∙ walked_parts (key ++ s ∷ []) ss (All-tail IsPart s ss all)
    ∙ append_assoc key (s ∷ []) ss

one_step : (k : ℕ) → with_segment (anchor false k ∷ []) (46 ∷ 46 ∷ []) ≡ anchor false (k + 1) ∷ []
one_step k = climbed-key false k [] 1 (λ e. (cc))

walked_steps : (n k : ℕ) (rest : List ℕ) → walked (anchor false k ∷ []) (segments (steps_of n ++ rest)) ≡ walked (anchor false (k + n) ∷ []) (segments rest)
unfolding walked
walked_steps zero k rest = let same : k + 0 ≡ k = omega arith in rw same refl
walked_steps (suc n) k rest =
    let count : k + 1 + n ≡ k + suc n = omega arith in
    ap (λ key. walked key (segments (steps_of n ++ rest))) (one_step k)
    ∙ walked_steps n (k + 1) rest
    ∙ ap (λ m. walked (anchor false m ∷ []) (segments rest)) count

start_part : (first : List ℕ) (rest : List ℕ) → IsPart first → start_of (first ++ rest) ≡ anchor false 0 ∷ []
start_part [] rest part = absurd (part.some refl)
start_part (c ∷ first) rest part =
    let other = part.no_slash 0 0 (omega arith) in
    let plain : (c == 47) ≡ false = grind (arith, nat_tests) in
    ap (λ b. anchor b 0 ∷ []) plain

start_joined : (first : List ℕ) (rest : Path) → IsPart first → start_of (join_with_byte 47 (first ∷ rest)) ≡ anchor false 0 ∷ []
start_joined first [] part = ap start_of (sym (append-nil first)) ∙ start_part first [] part
start_joined first (second ∷ rest) part = start_part first (47 ∷ join_with_byte 47 (second ∷ rest)) part

start_down : (n : ℕ) (first : List ℕ) (rest : Path) → IsPart first → start_of (steps_of n ++ join_with_byte 47 (first ∷ rest)) ≡ anchor false 0 ∷ []
start_down zero first rest part = start_joined first rest part
start_down (suc n) first rest part = refl

start_up : (n : ℕ) → start_of (steps_up n) ≡ anchor false 0 ∷ []
start_up zero = refl
start_up (suc n) = refl

-- the path that a text says, whatever its length
abbrev said : List ℕ → Path
said text = walked (start_of text) (segments text)

said_back : (rooted : Bool) (ups : ℕ) (parts : Path) → IsPathOf rooted ups parts → said (text_of_path (anchor rooted ups ∷ parts)) ≡ anchor rooted ups ∷ parts
unfolding walked
said_back true ups [] path = refl
said_back false zero [] path = refl
said_back false (suc n) [] path =
    let count : 0 + n + 1 ≡ suc n = omega arith in
    ap (λ key. walked key (segments (steps_up n))) (start_up n)
    ∙ ap (λ t. walked (anchor false 0 ∷ []) (segments t)) (sym (steps_end n))
    ∙ walked_steps n 0 (46 ∷ 46 ∷ [])
    ∙ one_step (0 + n)
    ∙ ap (λ m. anchor false m ∷ []) count
said_back true ups (first ∷ rest) path =
    ap said (text_root ups first rest)
    ∙ ap (walked (anchor true 0 ∷ [])) (segments_joined first rest path.each)
    ∙ walked_parts (anchor true 0 ∷ []) (first ∷ rest) path.each
said_back false ups (first ∷ rest) path =
    let count : 0 + ups ≡ ups = omega arith in
    ap said (text_down ups first rest)
    ∙ ap (λ key. walked key (segments (steps_of ups ++ join_with_byte 47 (first ∷ rest)))) (start_down ups first rest (All-head IsPart first rest path.each))
    ∙ walked_steps ups 0 (join_with_byte 47 (first ∷ rest))
    ∙ ap (walked (anchor false (0 + ups) ∷ [])) (segments_joined first rest path.each)
    ∙ walked_parts (anchor false (0 + ups) ∷ []) (first ∷ rest) path.each
    ∙ ap (λ m. anchor false m ∷ (first ∷ rest)) count

path_back : (p : Path) → IsPath p → said (text_of_path p) ≡ p
path_back p is = ap (λ k. said (text_of_path k)) is.key_is ∙ said_back is.rooted is.ups is.parts is.path ∙ sym is.key_is

pub paths_apart : (p q : Path) → IsPath p → IsPath q → text_of_path p ≡ text_of_path q → p ≡ q
paths_apart p q left right e = sym (path_back p left) ∙ ap said e ∙ path_back q right
