-- The first line of a text, and its line feed.
use Rattle.std.proofs.Common.{◌≡◌, ◌+◌, ℕ, suc, Bool, true, false, cond, List, [], ◌∷◌, ◌++◌, length, length-append, append_assoc, take, drop, refl, ap, sym, ◌∙◌, arith}
use Rattle.std.specs.Prelude.{◌==◌}
use Rattle.std.proofs.Math.Seq.{take-append_seam, drop-append_seam}
use Rattle.vk_base.specs.Paths.{Lacks}
use Rattle.vk_check.specs.Lines.{with_byte, lines_of, without_feed, cut_lines}

lacks_rest : (c b : ℕ) (bytes : List ℕ) → Lacks c (b ∷ bytes) → Lacks c bytes
lacks_rest c b bytes lacks = λ k d h. lacks (suc k) d (omega (arith, h))

not_same : (b c : ℕ) (t : Bool) → (b == c) ≡ t → (b ≡ c → ⊥) → (b == c) ≡ false
not_same b c true e differ = absurd (differ (grind (arith, e)))
not_same b c false e differ = e

lacks_first : (c b : ℕ) (bytes : List ℕ) → Lacks c (b ∷ bytes) → (b == c) ≡ false
lacks_first c b bytes lacks = not_same b c (b == c) refl (lacks 0 b (omega arith))

grown : (b : ℕ) (l : List ℕ) (ls : List (List ℕ)) → (b == 10) ≡ false → with_byte b (l ∷ ls) ≡ (b ∷ l) ∷ ls
grown b l ls other = ap (λ t. cond t ((b ∷ []) ∷ l ∷ ls) ((b ∷ l) ∷ ls)) other

feed_first : (ls : List (List ℕ)) → with_byte 10 ls ≡ (10 ∷ []) ∷ ls
feed_first [] = refl
feed_first (l ∷ ls) = refl

-- a line that ends
pub line_first : (line rest : List ℕ) → Lacks 10 line → lines_of (line ++ 10 ∷ rest) ≡ (line ++ 10 ∷ []) ∷ lines_of rest
line_first [] rest lacks = feed_first (lines_of rest)
line_first (b ∷ line) rest lacks = ap (with_byte b) (line_first line rest (lacks_rest 10 b line lacks)) ∙ grown b (line ++ 10 ∷ []) (lines_of rest) (lacks_first 10 b line lacks)

-- last bytes without a line feed
line_last : (line : List ℕ) → Lacks 10 line → lines_of line ≡ cut_lines line []
line_last [] lacks = refl
line_last (b ∷ []) lacks = refl
line_last (b ∷ c ∷ line) lacks = ap (with_byte b) (line_last (c ∷ line) (lacks_rest 10 b (c ∷ line) lacks)) ∙ grown b (c ∷ line) [] (lacks_first 10 b (c ∷ line) lacks)

cut_ended : (line rest : List ℕ) → cut_lines (line ++ 10 ∷ []) rest ≡ (line ++ 10 ∷ []) ∷ lines_of rest
cut_ended [] rest = refl
cut_ended (b ∷ line) rest = refl

pub split_ended : (text line rest front back : List ℕ) → text ≡ line ++ 10 ∷ rest → Lacks 10 line → front ≡ take (length line + 1) text → back ≡ drop (length line + 1) text → lines_of text ≡ cut_lines front back
split_ended text line rest front back split lacks is_front is_back =
    let whole : text ≡ (line ++ 10 ∷ []) ++ rest = split ∙ sym (append_assoc line (10 ∷ []) rest) in
    let long : length line + 1 ≡ length (line ++ 10 ∷ []) = sym (length-append line (10 ∷ [])) in
    let first : front ≡ line ++ 10 ∷ [] = is_front ∙ ap (λ n. take n text) long ∙ ap (take (length (line ++ 10 ∷ []))) whole ∙ take-append_seam (line ++ 10 ∷ []) rest in
    let second : back ≡ rest = is_back ∙ ap (λ n. drop n text) long ∙ ap (drop (length (line ++ 10 ∷ []))) whole ∙ drop-append_seam (line ++ 10 ∷ []) rest in
    ap lines_of split ∙ line_first line rest lacks ∙ sym (ap (cut_lines front) second ∙ ap (λ l. cut_lines l rest) first ∙ cut_ended line rest)

take_whole : (xs : List ℕ) → take (length xs) xs ≡ xs
take_whole [] = refl
take_whole (x ∷ xs) = ap (λ l. x ∷ l) (take_whole xs)

drop_whole : (xs : List ℕ) → drop (length xs) xs ≡ []
drop_whole [] = refl
drop_whole (x ∷ xs) = drop_whole xs

pub split_last : (text front back : List ℕ) → Lacks 10 text → front ≡ take (length text) text → back ≡ drop (length text) text → lines_of text ≡ cut_lines front back
split_last text front back lacks is_front is_back =
    line_last text lacks ∙ sym (ap (cut_lines front) (is_back ∙ drop_whole text) ∙ ap (λ l. cut_lines l []) (is_front ∙ take_whole text))

pub feed_dropped : (line rest : List ℕ) → Lacks 10 line → without_feed (line ++ 10 ∷ rest) ≡ line
feed_dropped [] rest lacks = refl
feed_dropped (b ∷ line) rest lacks =
    ap (λ t. cond t [] (b ∷ without_feed (line ++ 10 ∷ rest))) (lacks_first 10 b line lacks) ∙ ap (λ l. b ∷ l) (feed_dropped line rest (lacks_rest 10 b line lacks))

pub feed_missing : (line : List ℕ) → Lacks 10 line → without_feed line ≡ line
feed_missing [] lacks = refl
feed_missing (b ∷ line) lacks = ap (λ t. cond t [] (b ∷ without_feed line)) (lacks_first 10 b line lacks) ∙ ap (λ l. b ∷ l) (feed_missing line (lacks_rest 10 b line lacks))
