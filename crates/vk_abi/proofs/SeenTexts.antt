-- Two files below one folder are seen from it by different texts.
use Rattle.std.proofs.Common.{◌≡◌, ℕ, zero, suc, true, false, List, [], ◌∷◌, ◌++◌, refl, ap, sym, ◌∙◌, subst}
use Rattle.std.proofs.lemmas.List.{append-nil}
use Rattle.std.proofs.lemmas.List.Elements.{All-head, All-tail}
use Rattle.std.specs.Prelude.{Bool}
use Rattle.std.specs.List.{All, join_with_byte}
use Rattle.vk_spec.specs.Paths.{Path, anchor, steps_up}
use Rattle.vk_base.specs.Paths.{IsPart, IsPath, text_of_path}
use Rattle.vk_base.specs.PathReading.{segments}
use Rattle.vk_base.proofs.PathLaws.{segments_joined, segments_both, text_down}

-- ---- anchors are told apart by what stands between their marks

abbrev pieces : Path → Path
pieces p = segments (join_with_byte 47 p)

joined_segments : (first : List ℕ) (rest : Path) → All IsPart rest → pieces (first ∷ rest) ≡ segments first ++ rest
joined_segments first [] parts = sym (append-nil (segments first))
joined_segments first (part ∷ rest) parts = segments_both first (join_with_byte 47 (part ∷ rest)) ∙ ap (λ l. segments first ++ l) (segments_joined part rest parts)

-- what stands after the first of so many steps up
abbrev more_up : ℕ → Path
more_up zero = []
more_up (suc n) = (46 ∷ 46 ∷ []) ∷ more_up n

up_segments : (n : ℕ) → segments (steps_up n) ≡ (46 ∷ 46 ∷ []) ∷ more_up n
up_segments zero = refl
up_segments (suc n) = ap (λ l. (46 ∷ 46 ∷ []) ∷ l) (up_segments n)

no_step : (xs ys : Path) → All IsPart xs → xs ≡ (46 ∷ 46 ∷ []) ∷ ys → ⊥
no_step [] ys parts e = (cc)
no_step (x ∷ xs) ys parts e = let same : x ≡ 46 ∷ 46 ∷ [] = (cc) in (All-head IsPart x xs parts).not_above same

more_same : (m n : ℕ) (xs ys : Path) → All IsPart xs → All IsPart ys → more_up m ++ xs ≡ more_up n ++ ys → steps_up m ∷ xs ≡ steps_up n ∷ ys
more_same zero zero xs ys left right e = ap (λ l. steps_up 0 ∷ l) e
more_same zero (suc n) xs ys left right e = absurd (no_step xs (more_up n ++ ys) left e)
more_same (suc m) zero xs ys left right e = absurd (no_step ys (more_up m ++ xs) right (sym e))
more_same (suc m) (suc n) xs ys left right e =
    let later : more_up m ++ xs ≡ more_up n ++ ys = (cc) in
    let same = more_same m n xs ys left right later in
    let up : steps_up m ≡ steps_up n = (cc) in
    let rest : xs ≡ ys = (cc) in
    λ i. (46 ∷ 46 ∷ 47 ∷ up i) ∷ rest i

anchored_same : (r s : Bool) (m n : ℕ) (xs ys : Path) → All IsPart xs → All IsPart ys → segments (anchor r m) ++ xs ≡ segments (anchor s n) ++ ys → anchor r m ∷ xs ≡ anchor s n ∷ ys
anchored_same true true m n xs ys left right e = let rest : xs ≡ ys = (cc) in ap (λ l. (47 ∷ []) ∷ l) rest
anchored_same false false zero zero xs ys left right e = let rest : xs ≡ ys = (cc) in ap (λ l. (46 ∷ []) ∷ l) rest
anchored_same false false (suc m) (suc n) xs ys left right e =
    let both : (46 ∷ 46 ∷ []) ∷ (more_up m ++ xs) ≡ (46 ∷ 46 ∷ []) ∷ (more_up n ++ ys) = ap (λ l. l ++ xs) (sym (up_segments m)) ∙ e ∙ ap (λ l. l ++ ys) (up_segments n) in
    let later : more_up m ++ xs ≡ more_up n ++ ys = (cc) in
    more_same m n xs ys left right later
anchored_same true false m zero xs ys left right e = (cc)
anchored_same false true zero n xs ys left right e = (cc)
anchored_same true false m (suc n) xs ys left right e = let clash : [] ∷ [] ∷ xs ≡ (46 ∷ 46 ∷ []) ∷ (more_up n ++ ys) = e ∙ ap (λ l. l ++ ys) (up_segments n) in (cc)
anchored_same false true (suc m) n xs ys left right e = let clash : (46 ∷ 46 ∷ []) ∷ (more_up m ++ xs) ≡ [] ∷ [] ∷ ys = ap (λ l. l ++ xs) (sym (up_segments m)) ∙ e in (cc)
anchored_same false false zero (suc n) xs ys left right e = let clash : (46 ∷ []) ∷ xs ≡ (46 ∷ 46 ∷ []) ∷ (more_up n ++ ys) = e ∙ ap (λ l. l ++ ys) (up_segments n) in (cc)
anchored_same false false (suc m) zero xs ys left right e = let clash : (46 ∷ 46 ∷ []) ∷ (more_up m ++ xs) ≡ (46 ∷ []) ∷ ys = ap (λ l. l ++ xs) (sym (up_segments m)) ∙ e in (cc)

-- ---- what lies below a folder

parts_after : (folder : Path) (first part : List ℕ) (rest : Path) → IsPath (first ∷ (folder ++ part ∷ rest)) → All IsPart (part ∷ rest)
parts_after folder first part rest path = last_parts folder (part ∷ rest) (subst (All IsPart) (tails path) path.path.each)
  where
    tails : (path : IsPath (first ∷ (folder ++ part ∷ rest))) → path.parts ≡ folder ++ part ∷ rest
    tails path = let e = path.key_is in (cc)

    last_parts : (front back : Path) → All IsPart (front ++ back) → All IsPart back
    last_parts [] back all = all
    last_parts (x ∷ front) back all = last_parts front back (All-tail IsPart x (front ++ back) all)

key_same : (first : List ℕ) (rest : Path) (other : List ℕ) (more : Path) → IsPath (first ∷ rest) → IsPath (other ∷ more)
    → join_with_byte 47 (first ∷ rest) ≡ join_with_byte 47 (other ∷ more) → first ∷ rest ≡ other ∷ more
key_same first rest other more one two e =
    one.key_is ∙ anchored_same one.rooted two.rooted one.ups two.ups one.parts two.parts one.path.each two.path.each
    (sym (joined_segments (anchor one.rooted one.ups) one.parts one.path.each) ∙ ap pieces (sym one.key_is) ∙ ap segments e ∙ ap pieces two.key_is ∙ joined_segments (anchor two.rooted two.ups) two.parts two.path.each)
    ∙ sym two.key_is

-- two paths below a folder are one where their texts are
rests_same : (folder : Path) (part : List ℕ) (rest : Path) (other : List ℕ) (more : Path) → IsPath (folder ++ part ∷ rest) → IsPath (folder ++ other ∷ more)
    → join_with_byte 47 (part ∷ rest) ≡ join_with_byte 47 (other ∷ more) → part ∷ rest ≡ other ∷ more
rests_same [] part rest other more one two e = key_same part rest other more one two e
rests_same (first ∷ folder) part rest other more one two e =
    sym (segments_joined part rest (parts_after folder first part rest one)) ∙ ap segments e ∙ segments_joined other more (parts_after folder first other more two)

pub seen_same : (folder : Path) (part : List ℕ) (rest : Path) (other : List ℕ) (more : Path) → IsPath (folder ++ part ∷ rest) → IsPath (folder ++ other ∷ more)
    → text_of_path ((46 ∷ []) ∷ part ∷ rest) ≡ text_of_path ((46 ∷ []) ∷ other ∷ more) → part ∷ rest ≡ other ∷ more
seen_same folder part rest other more one two e = rests_same folder part rest other more one two (sym (text_down 0 part rest) ∙ e ∙ text_down 0 other more)
