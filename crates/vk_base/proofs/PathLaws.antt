-- What is read is a path, and reading, joining and writing fit together.
use Rattle.std.proofs.Common.{◌≡◌, ◌≢◌, ◌+◌, ◌-◌, ◌==◌, ◌<◌, ◌≤◌, ◌++◌, ◌||◌, ℕ, zero, suc, Bool, true, false, List, [], ◌∷◌, length, take, get_or, length-append, cond, ltb, eqb, subst, refl, ap, sym, ◌∙◌, append_assoc, arith}
use Rattle.std.specs.Prelude.{◌^◌, Option, Some, None, Result, Ok, Err}
use Rattle.std.specs.List.{All, onto_first, position, join_with_byte}
use Rattle.std.specs.Str.{bytes_eq}
use Rattle.std.proofs.lemmas.List.{append-nil, take-take, length-take-le}
use Rattle.std.proofs.lemmas.Bool.Decides.{nat_tests}
use Rattle.std.proofs.lemmas.List.Elements.{All-nil, All-cons, All-head, All-tail, All-push, All-take, All-append}
use Rattle.std.proofs.lemmas.Slice.Eq.{bytes_eq-Decides}
use Rattle.vk_spec.specs.Paths.{Path, steps_up, anchor}
use Rattle.vk_spec.specs.Reading.{◌>>=◌}
use Rattle.vk_base.specs.Paths.{Lacks, IsPart, IsPathOf, IsPath, ups_of, climbed, joined, steps_of, front_of, text_of_path}
use Rattle.vk_base.specs.declared.paths.PathFault.{PathFault}
use Rattle.vk_base.specs.PathReading.{checked, zero_fault, segments, stays, climbs, with_segment, walked, start_of, path_of}
use Rattle.vk_base.proofs.NameLemmas.{neither, position-None, position-All}
use Rattle.vk_base.proofs.PathLemmas.{ups_of-key, climbed-key, ups_most, climb_ups, segment_first, segment_last, steps_end, front-unrooted, lacks_byte, joined_down, joined-here, is_rooted-key}

-- a segment holds neither `/` nor a byte 0
abbrev pub IsSegment : List ℕ → Type 0
IsSegment s = Lacks 47 s × Lacks 0 s

one_more : (b : ℕ) (slash : Bool) (ss : Path) → (b == 47) ≡ slash → b ≢ 0 → All IsSegment ss → All IsSegment (cond slash ([] ∷ ss) (onto_first b ss))
one_more b true ss e some all = All-cons IsSegment [] ss (All-nil (λ c. c ≢ 47), All-nil (λ c. c ≢ 0)) all
one_more b false [] e some all =
    let other : b ≢ 47 = grind (arith, nat_tests) in
    All-cons IsSegment (b ∷ []) [] (All-cons (λ c. c ≢ 47) b [] other (All-nil (λ c. c ≢ 47)), All-cons (λ c. c ≢ 0) b [] some (All-nil (λ c. c ≢ 0))) (All-nil IsSegment)
one_more b false (s ∷ ss) e some all =
    let other : b ≢ 47 = grind (arith, nat_tests) in
    let first = All-head IsSegment s ss all in
    All-cons IsSegment (b ∷ s) ss (All-cons (λ c. c ≢ 47) b s other first.0, All-cons (λ c. c ≢ 0) b s some first.1) (All-tail IsSegment s ss all)

pub segments_hold : (text : List ℕ) → Lacks 0 text → All IsSegment (segments text)
segments_hold [] lacks = All-cons IsSegment [] [] (All-nil (λ c. c ≢ 47), All-nil (λ c. c ≢ 0)) (All-nil IsSegment)
segments_hold (b ∷ text) lacks = one_more b (b == 47) (segments text) refl (All-head (λ c. c ≢ 0) b text lacks) (segments_hold text (All-tail (λ c. c ≢ 0) b text lacks))

count_more : (b : ℕ) (slash : Bool) (ss : Path) → length (cond slash ([] ∷ ss) (onto_first b ss)) ≤ length ss + 1
count_more b true ss = omega arith
count_more b false [] = omega arith
count_more b false (s ∷ ss) = omega arith

segments_count : (text : List ℕ) → length (segments text) ≤ length text + 1
segments_count [] = omega arith
segments_count (b ∷ text) = omega (arith, count_more b (b == 47) (segments text), segments_count text)

-- a segment that neither stays nor climbs is a part
segment_part : (s : List ℕ) → stays s ≡ false → climbs s ≡ false → IsSegment s → IsPart s
segment_part s stay climb holds =
    let both = neither (length s == 0) (bytes_eq s (46 ∷ [])) stay in
    record {
      some = λ same. let clash : true ≡ false = sym (ap (λ t. length t == 0) same) ∙ both.0 in (cc);
      not_here = λ same. let clash : true ≡ false = sym ((bytes_eq-Decides s (46 ∷ [])).1 same) ∙ both.1 in (cc);
      not_above = λ same. let clash : true ≡ false = sym ((bytes_eq-Decides s (46 ∷ 46 ∷ [])).1 same) ∙ climb in (cc);
      no_slash = holds.0;
      no_zero = holds.1;
    }

climbed_path : (rooted : Bool) (ups : ℕ) (parts : Path) (n : ℕ) → IsPathOf rooted ups parts → ups + n < 2 ^ 32 → IsPath (anchor rooted (ups + (n - length parts)) ∷ take (length parts - n) parts)
climbed_path true ups parts n path small = record {
  rooted = true;
  ups = 0;
  parts = take (length parts - n) parts;
  key_is = refl;
  path = record { root = λ e. refl; small = omega arith; each = All-take IsPart (length parts - n) parts path.each };
}
climbed_path false ups parts n path small = record {
  rooted = false;
  ups = ups + (n - length parts);
  parts = take (length parts - n) parts;
  key_is = refl;
  path = record { root = λ e. (cc); small = omega (arith, small); each = All-take IsPart (length parts - n) parts path.each };
}

step_case : (key : Path) (s : List ℕ) (stay climb : Bool) → stays s ≡ stay → climbs s ≡ climb → IsPath key → IsSegment s → ups_of key + 1 < 2 ^ 32
    → IsPath (cond stay key (cond climb (climbed key 1) (key ++ s ∷ [])))
step_case key s true climb e f path holds small = path
step_case key s false true e f path holds small =
    let room : path.ups + 1 < 2 ^ 32 = omega (arith, small, ap ups_of path.key_is, ups_of-key path.rooted path.ups path.parts path.path.root) in
    rw (ap (λ k. climbed k 1) path.key_is, climbed-key path.rooted path.ups path.parts 1 path.path.root) (climbed_path path.rooted path.ups path.parts 1 path.path room)
step_case key s false false e f path holds small = record {
  rooted = path.rooted;
  ups = path.ups;
  parts = path.parts ++ s ∷ [];
  key_is = ap (λ k. k ++ s ∷ []) path.key_is;
  path = record { root = path.path.root; small = path.path.small; each = All-push IsPart path.parts s path.path.each (segment_part s e f holds) };
}

step_path : (key : Path) (s : List ℕ) → IsPath key → IsSegment s → ups_of key + 1 < 2 ^ 32 → IsPath (with_segment key s)
step_path key s path holds small = step_case key s (stays s) (climbs s) refl refl path holds small

pushed_ups : (key : Path) (s : List ℕ) → IsPath key → ups_of (key ++ s ∷ []) ≡ ups_of key
pushed_ups key s path = ap (λ k. ups_of (k ++ s ∷ [])) path.key_is ∙ sym (ap ups_of path.key_is)

step_ups : (key : Path) (s : List ℕ) (stay climb : Bool) → IsPath key → ups_of (cond stay key (cond climb (climbed key 1) (key ++ s ∷ []))) ≤ ups_of key + 1
step_ups key s true climb path = omega arith
step_ups key s false true path = climb_ups key path
step_ups key s false false path = omega (arith, pushed_ups key s path)

walked_path : (key : Path) (ss : Path) → IsPath key → All IsSegment ss → ups_of key + length ss < 2 ^ 32 → IsPath (walked key ss)
unfolding walked
walked_path key [] path all small = path
walked_path key (s ∷ ss) path all small =
    walked_path (with_segment key s) ss
    (step_path key s path (All-head IsSegment s ss all) (omega (arith, small)))
    (All-tail IsSegment s ss all)
    (omega (arith, small, step_ups key s (stays s) (climbs s) path))

start_path : (rooted : Bool) → IsPath (anchor rooted 0 ∷ [])
start_path rooted = record {
  rooted = rooted;
  ups = 0;
  parts = [];
  key_is = refl;
  path = record { root = λ e. refl; small = omega arith; each = All-nil IsPart };
}

-- what the check of a text says
not_wrong : (test : Bool) (wrong : PathFault) (rest : Result (Unit {0}) PathFault) → cond test (Err wrong) rest ≡ Ok tt → (test ≡ false) × (rest ≡ Ok tt)
not_wrong true wrong rest e = (cc)
not_wrong false wrong rest e = (refl, e)

no_zero_found : (found : Option ℕ) → zero_fault found ≡ Ok tt → found ≡ None
no_zero_found None e = refl
no_zero_found (Some at) e = (cc)

pub checked_says : (text : List ℕ) → checked text ≡ Ok tt → (0 < length text) × (length text ≤ 4096) × Lacks 0 text
checked_says text e =
    let some = not_wrong (length text == 0) _ _ e in
    let short = not_wrong (ltb 4096 (length text)) _ _ some.1 in
    let none = no_zero_found (position (λ b. b == 0) text) short.1 in
    let filled = some.0 in
    let few = short.0 in
    (grind (arith, nat_tests), grind (arith, nat_tests), λ k d within same. let other = position-None (λ b. b == 0) text none k d within in grind (arith, nat_tests))

bound : (read : Result (Unit {0}) PathFault) (made key : Path) → (read >>= λ u. Ok made) ≡ Ok key → (read ≡ Ok tt) × (made ≡ key)
bound (Ok u) made key e = (refl, (cc))
bound (Err wrong) made key e = (cc)

-- what is read is a path
pub read_path : (text : List ℕ) (key : Path) → path_of text ≡ Ok key → IsPath key
read_path text key e =
    let parts = bound (checked text) (walked (start_of text) (segments text)) key e in
    let says = checked_says text parts.0 in
    rw (← parts.1)
    (walked_path (start_of text) (segments text) (start_path (eqb (get_or text 0 0) 47)) (segments_hold text says.2)
    (omega (arith, segments_count text, says.1, ups_most (eqb (get_or text 0 0) 47) 0 [])))

not_so : (test : Bool) → (test ≡ true → ⊥) → test ≡ false
not_so true denies = absurd (denies refl)
not_so false denies = refl

none_of : (one two : Bool) → (one ≡ true → ⊥) → (two ≡ true → ⊥) → (one || two) ≡ false
none_of one two a b = rw (not_so one a, not_so two b) refl

empty_is : (s : List ℕ) → (length s == 0) ≡ true → s ≡ []
empty_is [] e = refl
empty_is (c ∷ s) e = let none : length (c ∷ s) ≡ 0 = grind (arith, nat_tests) in absurd (omega (arith, none))

-- a part is gone to as it is
part_stays : (s : List ℕ) → IsPart s → stays s ≡ false
part_stays s part = none_of (length s == 0) (bytes_eq s (46 ∷ [])) (λ e. part.some (empty_is s e)) (λ e. part.not_here ((bytes_eq-Decides s (46 ∷ [])).0 e))

with_part : (key : Path) (s : List ℕ) → IsPart s → with_segment key s ≡ key ++ s ∷ []
with_part key s part = rw (part_stays s part, not_so (climbs s) (λ e. part.not_above ((bytes_eq-Decides s (46 ∷ 46 ∷ [])).0 e))) refl

walked_parts : (key parts : Path) → All IsPart parts → walked key parts ≡ key ++ parts
unfolding walked
walked_parts key [] all = sym (append-nil key)
walked_parts key (s ∷ ss) all =
    ap (λ k. walked k ss) (with_part key s (All-head IsPart s ss all))
    ∙ walked_parts (key ++ s ∷ []) ss (All-tail IsPart s ss all)
    ∙ append_assoc key (s ∷ []) ss

pub segments_joined : (first : List ℕ) (rest : Path) → All IsPart (first ∷ rest) → segments (join_with_byte 47 (first ∷ rest)) ≡ first ∷ rest
segments_joined first [] all = segment_last first (All-head IsPart first [] all).no_slash
segments_joined first (second ∷ rest) all =
    segment_first (join_with_byte 47 (first ∷ second ∷ rest)) first (join_with_byte 47 (second ∷ rest)) refl (All-head IsPart first (second ∷ rest) all).no_slash
    ∙ ap (λ l. first ∷ l) (segments_joined second rest (All-tail IsPart first (second ∷ rest) all))

one_step : (k : ℕ) → with_segment (anchor false k ∷ []) (46 ∷ 46 ∷ []) ≡ anchor false (k + 1) ∷ []
one_step k = climbed-key false k [] 1 (λ e. (cc))

walked_steps : (n k : ℕ) (rest : List ℕ) → walked (anchor false k ∷ []) (segments (steps_of n ++ rest)) ≡ walked (anchor false (k + n) ∷ []) (segments rest)
unfolding walked
walked_steps zero k rest = let same : k + 0 ≡ k = omega arith in rw same refl
walked_steps (suc n) k rest =
    let count : k + 1 + n ≡ k + suc n = omega arith in
    ap (λ key. walked key (segments (steps_of n ++ rest))) (one_step k)
    ∙ walked_steps n (k + 1) rest
    ∙ ap (λ m. walked (anchor false m ∷ []) (segments rest)) count

-- a part's text begins a path here
start_part : (first : List ℕ) (rest : List ℕ) → IsPart first → start_of (first ++ rest) ≡ anchor false 0 ∷ []
start_part [] rest part = absurd (part.some refl)
start_part (c ∷ first) rest part =
    let other = part.no_slash 0 0 (omega arith) in
    let plain : (c == 47) ≡ false = grind (arith, nat_tests) in
    ap (λ b. anchor b 0 ∷ []) plain

start_joined : (first : List ℕ) (rest : Path) → IsPart first → start_of (join_with_byte 47 (first ∷ rest)) ≡ anchor false 0 ∷ []
start_joined first [] part = ap start_of (sym (append-nil first)) ∙ start_part first [] part
start_joined first (second ∷ rest) part = start_part first (47 ∷ join_with_byte 47 (second ∷ rest)) part

start_down : (n : ℕ) (first : List ℕ) (rest : Path) → IsPart first → start_of (steps_of n ++ join_with_byte 47 (first ∷ rest)) ≡ anchor false 0 ∷ []
start_down zero first rest part = start_joined first rest part
start_down (suc n) first rest part = refl

start_up : (n : ℕ) → start_of (steps_up n) ≡ anchor false 0 ∷ []
start_up zero = refl
start_up (suc n) = refl

text_parts : (first : List ℕ) (part : List ℕ) (rest : Path) → text_of_path (first ∷ (part ∷ rest)) ≡ front_of (first ∷ (part ∷ rest)) ++ join_with_byte 47 (part ∷ rest)
text_parts first part rest = let some : (length (part ∷ rest) == 0) ≡ false = grind (arith, nat_tests) in rw some refl

pub text_down : (ups : ℕ) (part : List ℕ) (rest : Path) → text_of_path (anchor false ups ∷ (part ∷ rest)) ≡ steps_of ups ++ join_with_byte 47 (part ∷ rest)
text_down ups part rest = text_parts (anchor false ups) part rest ∙ ap (λ front. front ++ join_with_byte 47 (part ∷ rest)) (sym (front-unrooted ups))

pub text_root : (ups : ℕ) (part : List ℕ) (rest : Path) → text_of_path (anchor true ups ∷ (part ∷ rest)) ≡ 47 ∷ join_with_byte 47 (part ∷ rest)
text_root ups part rest = text_parts (anchor true ups) part rest

walked_back : (rooted : Bool) (ups : ℕ) (parts : Path) → IsPathOf rooted ups parts
    → walked (start_of (text_of_path (anchor rooted ups ∷ parts))) (segments (text_of_path (anchor rooted ups ∷ parts))) ≡ anchor rooted ups ∷ parts
unfolding walked
walked_back true ups [] path = refl
walked_back false zero [] path = refl
walked_back false (suc n) [] path =
    let count : 0 + n + 1 ≡ suc n = omega arith in
    ap (λ key. walked key (segments (steps_up n))) (start_up n)
    ∙ ap (λ t. walked (anchor false 0 ∷ []) (segments t)) (sym (steps_end n))
    ∙ walked_steps n 0 (46 ∷ 46 ∷ [])
    ∙ one_step (0 + n)
    ∙ ap (λ m. anchor false m ∷ []) count
walked_back true ups (first ∷ rest) path =
    ap (λ t. walked (start_of t) (segments t)) (text_root ups first rest)
    ∙ ap (walked (anchor true 0 ∷ [])) (segments_joined first rest path.each)
    ∙ walked_parts (anchor true 0 ∷ []) (first ∷ rest) path.each
walked_back false ups (first ∷ rest) path =
    let count : 0 + ups ≡ ups = omega arith in
    ap (λ t. walked (start_of t) (segments t)) (text_down ups first rest)
    ∙ ap (λ key. walked key (segments (steps_of ups ++ join_with_byte 47 (first ∷ rest)))) (start_down ups first rest (All-head IsPart first rest path.each))
    ∙ walked_steps ups 0 (join_with_byte 47 (first ∷ rest))
    ∙ ap (walked (anchor false (0 + ups) ∷ [])) (segments_joined first rest path.each)
    ∙ walked_parts (anchor false (0 + ups) ∷ []) (first ∷ rest) path.each
    ∙ ap (λ m. anchor false m ∷ (first ∷ rest)) count

-- no text of a path is empty, and none has a byte 0
steps_whole : (n : ℕ) → Lacks 0 (steps_of n)
steps_whole zero = All-nil (λ c. c ≢ 0)
steps_whole (suc n) = All-append (λ c. c ≢ 0) (46 ∷ 46 ∷ 47 ∷ []) (steps_of n) (lacks_byte 0 (46 ∷ 46 ∷ 47 ∷ []) refl) (steps_whole n)

anchor_whole : (rooted : Bool) (ups : ℕ) → Lacks 0 (anchor rooted ups)
anchor_whole true ups = lacks_byte 0 (47 ∷ []) refl
anchor_whole false zero = lacks_byte 0 (46 ∷ []) refl
anchor_whole false (suc n) = subst (Lacks 0) (steps_end n) (All-append (λ c. c ≢ 0) (steps_of n) (46 ∷ 46 ∷ []) (steps_whole n) (lacks_byte 0 (46 ∷ 46 ∷ []) refl))

joined_whole : (parts : Path) → All IsPart parts → Lacks 0 (join_with_byte 47 parts)
joined_whole [] all = All-nil (λ c. c ≢ 0)
joined_whole (first ∷ []) all = (All-head IsPart first [] all).no_zero
joined_whole (first ∷ (second ∷ rest)) all =
    All-append (λ c. c ≢ 0) first (47 ∷ join_with_byte 47 (second ∷ rest)) (All-head IsPart first (second ∷ rest) all).no_zero
    (All-cons (λ c. c ≢ 0) 47 (join_with_byte 47 (second ∷ rest)) (omega arith) (joined_whole (second ∷ rest) (All-tail IsPart first (second ∷ rest) all)))

text_whole : (rooted : Bool) (ups : ℕ) (parts : Path) → IsPathOf rooted ups parts → Lacks 0 (text_of_path (anchor rooted ups ∷ parts))
text_whole rooted ups [] path = anchor_whole rooted ups
text_whole true ups (first ∷ rest) path =
    subst (Lacks 0) (sym (text_root ups first rest))
    (All-append (λ c. c ≢ 0) (47 ∷ []) (join_with_byte 47 (first ∷ rest)) (lacks_byte 0 (47 ∷ []) refl) (joined_whole (first ∷ rest) path.each))
text_whole false ups (first ∷ rest) path =
    subst (Lacks 0) (sym (text_down ups first rest))
    (All-append (λ c. c ≢ 0) (steps_of ups) (join_with_byte 47 (first ∷ rest)) (steps_whole ups) (joined_whole (first ∷ rest) path.each))

pub joined_some : (first : List ℕ) (rest : Path) → IsPart first → 0 < length (join_with_byte 47 (first ∷ rest))
joined_some [] rest part = absurd (part.some refl)
joined_some (c ∷ first) [] part = omega arith
joined_some (c ∷ first) (second ∷ rest) part = omega arith

anchor_some : (rooted : Bool) (ups : ℕ) → 0 < length (anchor rooted ups)
anchor_some true ups = omega arith
anchor_some false zero = omega arith
anchor_some false (suc zero) = omega arith
anchor_some false (suc (suc n)) = omega arith

text_some : (rooted : Bool) (ups : ℕ) (parts : Path) → IsPathOf rooted ups parts → 0 < length (text_of_path (anchor rooted ups ∷ parts))
text_some rooted ups [] path = anchor_some rooted ups
text_some rooted ups (first ∷ rest) path =
    omega (arith, ap length (text_parts (anchor rooted ups) first rest), joined_some first rest (All-head IsPart first rest path.each), length-append (front_of (anchor rooted ups ∷ (first ∷ rest))) (join_with_byte 47 (first ∷ rest)))

pub checked_ok : (text : List ℕ) → 0 < length text → length text ≤ 4096 → Lacks 0 text → checked text ≡ Ok tt
checked_ok text some short whole =
    let filled : (length text == 0) ≡ false = grind (arith, nat_tests) in
    let few : ltb 4096 (length text) ≡ false = grind (arith, nat_tests) in
    let none : position (λ b. b == 0) text ≡ None = position-All (λ b. b == 0) text (λ k d within. let other = whole k d within in grind (arith, nat_tests)) in
    rw (filled, few, none) refl

-- a path's text reads as that path
pub text_back : (key : Path) → IsPath key → length (text_of_path key) ≤ 4096 → path_of (text_of_path key) ≡ Ok key
text_back key path short =
    let some = text_some path.rooted path.ups path.parts path.path in
    let whole = text_whole path.rooted path.ups path.parts path.path in
    let here : length (text_of_path (anchor path.rooted path.ups ∷ path.parts)) ≤ 4096 = subst (λ k. length (text_of_path k) ≤ 4096) path.key_is short in
    let good = checked_ok (text_of_path (anchor path.rooted path.ups ∷ path.parts)) some here whole in
    ap (λ k. path_of (text_of_path k)) path.key_is
    ∙ ap (λ r. r >>= λ u. Ok (walked (start_of (text_of_path (anchor path.rooted path.ups ∷ path.parts))) (segments (text_of_path (anchor path.rooted path.ups ∷ path.parts))))) good
    ∙ ap Ok (walked_back path.rooted path.ups path.parts path.path)
    ∙ ap Ok (sym path.key_is)

-- a text, `/` and a text: the segments of both
onto_more : (b : ℕ) (slash : Bool) (xs ys : Path) → 0 < length xs → cond slash ([] ∷ (xs ++ ys)) (onto_first b (xs ++ ys)) ≡ cond slash ([] ∷ xs) (onto_first b xs) ++ ys
onto_more b slash [] ys some = absurd (omega (arith, some))
onto_more b true (x ∷ xs) ys some = refl
onto_more b false (x ∷ xs) ys some = refl

some_more : (b : ℕ) (slash : Bool) (xs : Path) → 0 < length (cond slash ([] ∷ xs) (onto_first b xs))
some_more b true xs = omega arith
some_more b false [] = omega arith
some_more b false (x ∷ xs) = omega arith

pub segments_some : (text : List ℕ) → 0 < length (segments text)
segments_some [] = omega arith
segments_some (b ∷ text) = some_more b (b == 47) (segments text)

pub segments_both : (one other : List ℕ) → segments (one ++ 47 ∷ other) ≡ segments one ++ segments other
segments_both [] other = refl
segments_both (b ∷ one) other =
    ap (λ ss. cond (b == 47) ([] ∷ ss) (onto_first b ss)) (segments_both one other)
    ∙ onto_more b (b == 47) (segments one) (segments other) (segments_some one)

walked_both : (key : Path) (xs ys : Path) → walked key (xs ++ ys) ≡ walked (walked key xs) ys
unfolding walked
walked_both key [] ys = refl
walked_both key (s ∷ xs) ys = walked_both (with_segment key s) xs ys

-- a path that goes down from where it stands, or up
abbrev Down : Path → Type 0
Down q = (v : ℕ) × (qs : Path) × (q ≡ anchor false v ∷ qs)

down_case : (q : Path) (s : List ℕ) (stay climb : Bool) → Down q → Down (cond stay q (cond climb (climbed q 1) (q ++ s ∷ [])))
down_case q s true climb d = d
down_case q s false true d = (d.0 + (1 - length d.1), take (length d.1 - 1) d.1, ap (λ k. climbed k 1) d.2 ∙ climbed-key false d.0 d.1 1 (λ e. (cc)))
down_case q s false false d = (d.0, d.1 ++ s ∷ [], ap (λ k. k ++ s ∷ []) d.2)

-- where a path that isn't rooted leads, by the fields of both
abbrev led : Bool → ℕ → Path → ℕ → Path → Path
led rooted ups parts v qs = anchor rooted (ups + (v - length parts)) ∷ (take (length parts - v) parts ++ qs)

joined-key : (rooted : Bool) (ups : ℕ) (parts : Path) (v : ℕ) (qs : Path) → (rooted ≡ true → ups ≡ 0)
    → joined (anchor rooted ups ∷ parts) (anchor false v ∷ qs) ≡ led rooted ups parts v qs
joined-key rooted ups parts v qs root =
    joined_down (anchor rooted ups ∷ parts) (anchor false v ∷ qs) v (is_rooted-key false v qs) (ups_of-key false v qs (λ e. (cc)))
    ∙ ap (λ k. k ++ qs) (climbed-key rooted ups parts v root)

keys_same : (rooted : Bool) (m n : ℕ) (xs ys : Path) → m ≡ n → xs ≡ ys → anchor rooted m ∷ xs ≡ anchor rooted n ∷ ys
keys_same rooted m n xs ys count same = ap (λ k. anchor rooted k ∷ xs) count ∙ ap (λ l. anchor rooted n ∷ l) same

up_key : (rooted : Bool) (n : ℕ) (xs : Path) → climbed (anchor rooted n ∷ xs) 1 ≡ anchor rooted (n + (1 - length xs)) ∷ take (length xs - 1) xs
up_key true n xs = climbed-key true 0 xs 1 (λ e. refl)
up_key false n xs = climbed-key false n xs 1 (λ e. (cc))

take_past : (xs ys : Path) (m : ℕ) → take (length xs + m) (xs ++ ys) ≡ xs ++ take m ys
take_past [] ys m = let same : 0 + m ≡ m = omega arith in ap (λ k. take k ys) same
take_past (x ∷ xs) ys m =
    let count : length (x ∷ xs) + m ≡ suc (length xs + m) = omega arith in
    ap (λ k. take k (x ∷ (xs ++ ys))) count ∙ ap (λ l. x ∷ l) (take_past xs ys m)

one_less : (parts : Path) (v : ℕ) → length (take (length parts - v) parts) ≡ length parts - v → length (take (length parts - v) parts) - 1 ≡ length parts - (v + 1)
one_less parts v kept = omega (arith, kept)

all_but_one : (xs : Path) (q : List ℕ) (qs : Path) → length (xs ++ q ∷ qs) ≡ length xs + length (q ∷ qs) → length (xs ++ q ∷ qs) - 1 ≡ length xs + (length (q ∷ qs) - 1)
all_but_one xs q qs all = omega (arith, all)

same_kept : (parts : Path) (v : ℕ) (q : List ℕ) (qs : Path) → length parts - v ≡ length parts - (v + (1 - length (q ∷ qs)))
same_kept parts v q qs = omega arith

-- one step up from there
led_up : (rooted : Bool) (ups : ℕ) (parts : Path) (v : ℕ) (qs : Path)
    → climbed (led rooted ups parts v qs) 1 ≡ led rooted ups parts (v + (1 - length qs)) (take (length qs - 1) qs)
led_up rooted ups parts v [] =
    let kept = length-take-le (length parts - v) parts (omega arith) in
    let plain : take (length parts - v) parts ++ [] ≡ take (length parts - v) parts = append-nil (take (length parts - v) parts) in
    ap (λ l. climbed (anchor rooted (ups + (v - length parts)) ∷ l) 1) plain
    ∙ up_key rooted (ups + (v - length parts)) (take (length parts - v) parts)
    ∙ keys_same rooted (ups + (v - length parts) + (1 - length (take (length parts - v) parts))) (ups + (v + 1 - length parts))
    (take (length (take (length parts - v) parts) - 1) (take (length parts - v) parts)) (take (length parts - (v + 1)) parts ++ [])
    (omega (arith, kept))
    (take-take (length (take (length parts - v) parts) - 1) (length parts - v) parts (omega (arith, kept))
    ∙ ap (λ k. take k parts) (one_less parts v kept)
    ∙ sym (append-nil (take (length parts - (v + 1)) parts)))
led_up rooted ups parts v (q ∷ qs) =
    let kept = length-take-le (length parts - v) parts (omega arith) in
    let all = length-append (take (length parts - v) parts) (q ∷ qs) in
    up_key rooted (ups + (v - length parts)) (take (length parts - v) parts ++ q ∷ qs)
    ∙ keys_same rooted (ups + (v - length parts) + (1 - length (take (length parts - v) parts ++ q ∷ qs))) (ups + (v + (1 - length (q ∷ qs)) - length parts))
    (take (length (take (length parts - v) parts ++ q ∷ qs) - 1) (take (length parts - v) parts ++ q ∷ qs))
    (take (length parts - (v + (1 - length (q ∷ qs)))) parts ++ take (length (q ∷ qs) - 1) (q ∷ qs))
    (omega (arith, all))
    (ap (λ k. take k (take (length parts - v) parts ++ q ∷ qs)) (all_but_one (take (length parts - v) parts) q qs all)
    ∙ take_past (take (length parts - v) parts) (q ∷ qs) (length (q ∷ qs) - 1)
    ∙ ap (λ k. take k parts ++ take (length (q ∷ qs) - 1) (q ∷ qs)) (same_kept parts v q qs))

led_case : (rooted : Bool) (ups : ℕ) (parts : Path) (v : ℕ) (qs : Path) (s : List ℕ) (stay climb : Bool) → (rooted ≡ true → ups ≡ 0)
    → cond stay (led rooted ups parts v qs) (cond climb (climbed (led rooted ups parts v qs) 1) (led rooted ups parts v qs ++ s ∷ []))
    ≡ joined (anchor rooted ups ∷ parts) (cond stay (anchor false v ∷ qs) (cond climb (climbed (anchor false v ∷ qs) 1) ((anchor false v ∷ qs) ++ s ∷ [])))
led_case rooted ups parts v qs s true climb root = sym (joined-key rooted ups parts v qs root)
led_case rooted ups parts v qs s false true root =
    led_up rooted ups parts v qs
    ∙ sym (joined-key rooted ups parts (v + (1 - length qs)) (take (length qs - 1) qs) root)
    ∙ ap (joined (anchor rooted ups ∷ parts)) (sym (up_key false v qs))
led_case rooted ups parts v qs s false false root =
    ap (λ l. anchor rooted (ups + (v - length parts)) ∷ l) (append_assoc (take (length parts - v) parts) qs (s ∷ []))
    ∙ sym (joined-key rooted ups parts v (qs ++ s ∷ []) root)

-- a segment after the other path is one after both
with_joined : (key q : Path) (s : List ℕ) → IsPath key → Down q → with_segment (joined key q) s ≡ joined key (with_segment q s)
with_joined key q s path d =
    let there : joined key q ≡ led path.rooted path.ups path.parts d.0 d.1 = ap (λ k. joined k q) path.key_is ∙ ap (joined (anchor path.rooted path.ups ∷ path.parts)) d.2 ∙ joined-key path.rooted path.ups path.parts d.0 d.1 path.path.root in
    ap (λ k. with_segment k s) there
    ∙ led_case path.rooted path.ups path.parts d.0 d.1 s (stays s) (climbs s) path.path.root
    ∙ ap (λ k. joined (anchor path.rooted path.ups ∷ path.parts) (with_segment k s)) (sym d.2)
    ∙ ap (λ k. joined k (with_segment q s)) (sym path.key_is)

walked_joined : (key q : Path) (ss : Path) → IsPath key → Down q → walked (joined key q) ss ≡ joined key (walked q ss)
unfolding walked
walked_joined key q [] path d = refl
walked_joined key q (s ∷ ss) path d =
    ap (λ k. walked k ss) (with_joined key q s path d) ∙ walked_joined key (with_segment q s) ss path (down_case q s (stays s) (climbs s) d)

start_both : (one other : List ℕ) → 0 < length one → start_of (one ++ 47 ∷ other) ≡ start_of one
start_both [] other some = absurd (omega (arith, some))
start_both (b ∷ one) other some = refl

-- two texts with `/` between read as the one path and from there the other
pub joined_read : (one other : List ℕ) (key more : Path) → path_of one ≡ Ok key → path_of other ≡ Ok more → get_or other 0 0 ≢ 47 → length one + length other < 4096
    → path_of (one ++ 47 ∷ other) ≡ Ok (joined key more)
joined_read one other key more reads reads_other plain short =
    let left = bound (checked one) (walked (start_of one) (segments one)) key reads in
    let right = bound (checked other) (walked (start_of other) (segments other)) more reads_other in
    let says = checked_says one left.0 in
    let says_other = checked_says other right.0 in
    let path = read_path one key reads in
    let here : (get_or other 0 0 == 47) ≡ false = grind (arith, nat_tests) in
    let count = length-append one (47 ∷ other) in
    let whole : Lacks 0 (one ++ 47 ∷ other) = All-append (λ c. c ≢ 0) one (47 ∷ other) says.2 (All-cons (λ c. c ≢ 0) 47 other (omega arith) says_other.2) in
    let good = checked_ok (one ++ 47 ∷ other) (omega (arith, count)) (omega (arith, count, short)) whole in
    let from_here : more ≡ walked ((46 ∷ []) ∷ []) (segments other) = sym right.1 ∙ ap (λ b. walked (anchor b 0 ∷ []) (segments other)) here in
    ap (λ r. r >>= λ u. Ok (walked (start_of (one ++ 47 ∷ other)) (segments (one ++ 47 ∷ other)))) good
    ∙ ap (λ k. Ok (walked k (segments (one ++ 47 ∷ other)))) (start_both one other says.0)
    ∙ ap (λ ss. Ok (walked (start_of one) ss)) (segments_both one other)
    ∙ ap Ok (walked_both (start_of one) (segments one) (segments other))
    ∙ ap (λ k. Ok (walked k (segments other))) (left.1 ∙ sym (append-nil key) ∙ sym (joined-here key [] path))
    ∙ ap Ok (walked_joined key ((46 ∷ []) ∷ []) (segments other) path (0, [], refl))
    ∙ ap (λ k. Ok (joined key k)) (sym from_here)
