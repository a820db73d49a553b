-- The files of a contents list ascend, one after the other.
use Rattle.std.proofs.Common.{◌≡◌, ◌==◌, ◌↔◌, ◌-◌, ◌<◌, ◌++◌, ◌∷◌, ℕ, suc, Bool, true, false, List, [], length, get_or, map, Ordering, refl, ap, sym, ◌∙◌, subst, arith}
use Rattle.std.specs.Prelude.{Some, None, IsTrue, slice_get}
use Rattle.std.specs.declared.cmp.Ordering.TheVariants.{Less, Equal, Greater}
use Rattle.std.specs.List.{AllByRecursion}
use Rattle.std.specs.List.Sorted.{IsStrictlySortedBy}
use Rattle.std.specs.Ordering.{nat_cmp, ordering_index}
use Rattle.std.specs.Cmp.Lexicographic.{slice_cmp}
use Rattle.std.proofs.lemmas.Cmp.{nat_list_cmp_total}
use Rattle.std.proofs.lemmas.List.{map-append}
use Rattle.std.proofs.lemmas.Option.{slice_get-get_or, slice_get_within}
use Rattle.vk_base.specs.Paths.{text_of_path}
use Rattle.vk_entry.specs.Contents.{Content}
use Rattle.vk_entry.specs.ContentLists.{Ascend}
use Rattle.vk_entry.specs.ContentViews.{content_view}
use Rattle.vk_entry.specs.declared.contents.ContentLine.{ContentLine}

abbrev bytes_cmp : List ℕ → List ℕ → Ordering
bytes_cmp = slice_cmp nat_cmp

abbrev text_of : Content → List ℕ
text_of c = text_of_path c.path

abbrev Below : List ℕ → List Content → Type 0
Below text cs = AllByRecursion (λ other. bytes_cmp text other ≡ Less) (map text_of cs)

-- what is below the last is below what is above the last
below_more : (text : List ℕ) (front : List Content) (last next : Content) → bytes_cmp (text_of last) (text_of next) ≡ Less → Below text (front ++ last ∷ []) → Below text ((front ++ last ∷ []) ++ next ∷ [])
below_more text [] last next less all = (all.0, (nat_list_cmp_total.trans text (text_of last) (text_of next) all.0 less, tt))
below_more text (c ∷ front) last next less all = (all.0, below_more text front last next less all.1)

pub above_last : (front : List Content) (last next : Content) → Ascend (front ++ last ∷ []) → bytes_cmp (text_of last) (text_of next) ≡ Less → Ascend ((front ++ last ∷ []) ++ next ∷ [])
unfolding IsStrictlySortedBy
above_last [] last next order less = ((less, tt), (tt, tt))
above_last (c ∷ front) last next order less = (below_more (text_of c) front last next less order.0, above_last front last next order.1 less)

pub last_below : (front : List Content) (last next : Content) → Ascend ((front ++ last ∷ []) ++ next ∷ []) → bytes_cmp (text_of last) (text_of next) ≡ Less
unfolding IsStrictlySortedBy
last_below [] last next order = order.0.0
last_below (c ∷ front) last next order = last_below front last next order.1

pub one_ascends : (c : Content) → Ascend (c ∷ [])
unfolding IsStrictlySortedBy
one_ascends c = (tt, tt)

pub none_ascend : Ascend []
unfolding IsStrictlySortedBy
none_ascend = tt

-- ---- the last of a list

last_from : {X : Type 0} (xs : List X) (x : X) → 0 < length xs → x ≡ get_or xs (length xs - 1) x → (front : List X) × (xs ≡ front ++ x ∷ [])
last_from [] x some e = absurd (omega (arith, some))
last_from (y ∷ []) x some e = ([], ap (λ z. z ∷ []) (sym e))
last_from (y ∷ z ∷ xs) x some e =
    let further : length (y ∷ z ∷ xs) - 1 ≡ suc (length (z ∷ xs) - 1) = omega arith in
    let later = last_from (z ∷ xs) x (omega arith) (e ∙ ap (λ n. get_or (y ∷ z ∷ xs) n x) further) in
    (y ∷ later.0, ap (λ l. y ∷ l) later.1)

last_is : {X : Type 0} (xs : List X) (x : X) → Some x ≡ slice_get xs (length xs - 1) → (front : List X) × (xs ≡ front ++ x ∷ [])
last_is xs x e =
    let within = slice_get_within xs (length xs - 1) x (sym e) in
    let read : Some x ≡ Some (get_or xs (length xs - 1) x) = e ∙ slice_get-get_or xs (length xs - 1) x within in
    last_from xs x (omega (arith, within)) (cc)

is_less : (o : Ordering) → (ordering_index o == 0) ≡ true → o ≡ Less
is_less Less e = refl
is_less Equal e = absurd (let clash : false ≡ true = e in (cc))
is_less Greater e = absurd (let clash : false ≡ true = e in (cc))

less_is : (o : Ordering) → o ≡ Less → (ordering_index o == 0) ≡ true
less_is o e = rw e refl

-- whether the next file is above those before it, by the order of the last one and of it
pub above_by : (lines : List ContentLine) (last : ContentLine) (next : Content) (test : Bool) → Ascend (map content_view lines) → Some last ≡ slice_get lines (length lines - 1)
    → test ≡ (ordering_index (bytes_cmp (text_of_path last.path) (text_of next)) == 0) → IsTrue test ↔ Ascend (map content_view lines ++ next ∷ [])
above_by lines last next test order is tested =
    let cut = last_is lines last is in
    let viewed : map content_view lines ≡ map content_view cut.0 ++ content_view last ∷ [] = ap (map content_view) cut.1 ∙ map-append content_view cut.0 (last ∷ []) in
    let before : Ascend (map content_view cut.0 ++ content_view last ∷ []) = subst Ascend viewed order in (
      (λ yes. subst (λ l. Ascend (l ++ next ∷ [])) (sym viewed) (above_last (map content_view cut.0) (content_view last) next before (is_less (bytes_cmp (text_of_path last.path) (text_of next)) (sym tested ∙ yes)))),
      (λ all. tested ∙ less_is (bytes_cmp (text_of_path last.path) (text_of next)) (last_below (map content_view cut.0) (content_view last) next (subst (λ l. Ascend (l ++ next ∷ [])) viewed all))),
    )

pub none_above : (lines : List ContentLine) (next : Content) → None ≡ slice_get lines (length lines - 1) → Ascend (map content_view lines ++ next ∷ [])
none_above [] next e = one_ascends next
none_above (y ∷ []) next e = absurd (let clash : None ≡ Some y = e in (cc))
none_above (y ∷ z ∷ lines) next e =
    let within = slice_get-get_or (y ∷ z ∷ lines) (length (y ∷ z ∷ lines) - 1) y (omega arith) in
    let clash : None ≡ Some (get_or (y ∷ z ∷ lines) (length (y ∷ z ∷ lines) - 1) y) = e ∙ within in
    absurd (cc)

-- ---- the front of files that ascend

below_front : (text : List ℕ) (front : List Content) (next : Content) (rest : List Content) → Below text (front ++ next ∷ rest) → Below text (front ++ next ∷ [])
below_front text [] next rest all = (all.0, tt)
below_front text (c ∷ front) next rest all = (all.0, below_front text front next rest all.1)

pub ascend_front : (front : List Content) (next : Content) (rest : List Content) → Ascend (front ++ next ∷ rest) → Ascend (front ++ next ∷ [])
unfolding IsStrictlySortedBy
ascend_front [] next rest order = (tt, tt)
ascend_front (c ∷ front) next rest order = (below_front (text_of c) front next rest order.0, ascend_front front next rest order.1)
