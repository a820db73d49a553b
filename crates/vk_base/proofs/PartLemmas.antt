-- Parts of a path and the text with `/` between that says them.
use Rattle.std.proofs.Common.{Bor, ◌≡◌, ◌≢◌, ◌+◌, ◌-◌, ◌==◌, ◌<◌, ◌≤◌, ◌++◌, ◌⊎◌, inl, inr, ⊎_elim, ℕ, suc, Bool, true, false, cond, List, [], ◌∷◌, length, take, drop, map, length-append, subst, refl, ap, sym, ◌∙◌, append_assoc, arith}
use Rattle.std.specs.Prelude.{bytes_eq, Option, Some, None, Result, Ok, Err, is_ok, MatchOption, OnOk}
use Rattle.std.specs.Bool.{Decides}
use Rattle.std.specs.List.{All, onto_first, join_with_byte, count_by}
use Rattle.std.specs.Str.Pattern.{FindsTextPrefix, StripsPrefix, RFindsChar}
use Rattle.std.specs.Str.{NoCharPasses}
use Rattle.std.specs.Cmp.{nat_cmp_is, ranks}
use Rattle.std.specs.Cmp.Lexicographic.{pointwise, slice_cmp}
use Rattle.std.specs.Ordering.{nat_cmp, ordering_then, MatchOrdering}
use Rattle.std.specs.declared.cmp.Ordering.{Ordering}
use Rattle.std.specs.declared.cmp.Ordering.TheVariants as ordering
use Rattle.std.proofs.Math.Bool.{and-false}
use Rattle.std.proofs.Math.Seq.{drop-append_seam, take-append_seam}
use Rattle.std.proofs.lemmas.Bool.Decides.{nat_tests}
use Rattle.std.proofs.lemmas.Str.Pattern.{NoCharPasses-char, drop_at_char}
use Rattle.std.proofs.lemmas.List.{append-nil, append_cancel_left, take-take, length-take-le, take-append-drop}
use Rattle.std.proofs.lemmas.List.Elements.{All-same, All-head, All-drop, All-take}
use Rattle.std.proofs.lemmas.List.Splits.{join_with_byte-slice_split, length-slice_split}
use Rattle.std.proofs.lemmas.Slice.Eq.{slice_eq-Decides, bytes_eq-Decides}
use Rattle.vk_spec.specs.Paths.{Path, path_cmp, Begins}
use Rattle.vk_base.specs.Paths.{Lacks, IsPart}
use Rattle.vk_base.specs.Parts.{parts_in, rank, IsBelow, IsOtherwise}
use Rattle.vk_base.specs.PathReading.{segments}
use Rattle.vk_base.proofs.PathLemmas.{segment_last, lacks_from}
use Rattle.vk_base.proofs.PathLaws.{segments_both, segments_some, segments_joined, joined_some}

-- ---- a text and its parts

-- the parts with `/` between are the text
pub join_parts : (text : List ℕ) → join_with_byte 47 (parts_in text) ≡ text
join_parts [] = refl
join_parts (b ∷ text) = join_with_byte-slice_split 47 (b ∷ text)

pub same_text : (one other : List ℕ) → parts_in one ≡ parts_in other → one ≡ other
same_text one other e = sym (join_parts one) ∙ ap (join_with_byte 47) e ∙ join_parts other

pub parts_some : (text : List ℕ) → 0 < length text → parts_in text ≡ segments text
parts_some [] some = absurd (omega (arith, some))
parts_some (b ∷ text) some = refl

pub count_parts : (text : List ℕ) → 0 < length text → length (parts_in text) ≡ count_by (λ b. b == 47) text + 1
count_parts text some = ap length (parts_some text some) ∙ length-slice_split (λ b. b == 47) text

pub some_parts : (text : List ℕ) → 0 < length text → 0 < length (parts_in text)
some_parts text some = omega (arith, count_parts text some)

-- a part's text says that part alone
pub one_part : (part : List ℕ) → IsPart part → parts_in part ≡ part ∷ []
one_part [] is = absurd (is.some refl)
one_part (b ∷ part) is = segment_last (b ∷ part) is.no_slash

pub some_bytes : (text : List ℕ) → (length text == 0) ≡ false → 0 < length text
some_bytes [] e = (cc)
some_bytes (b ∷ text) e = omega arith

pub no_bytes : (text : List ℕ) → (length text == 0) ≡ true → length text ≡ 0
no_bytes [] e = refl
no_bytes (b ∷ text) e = grind (arith, nat_tests)

part_some : (part : List ℕ) → IsPart part → 0 < length part
part_some [] is = absurd (is.some refl)
part_some (b ∷ part) is = omega arith

-- a text, `/` and a text
pub parts_both : (front back : List ℕ) → 0 < length front → 0 < length back → parts_in (front ++ 47 ∷ back) ≡ parts_in front ++ parts_in back
parts_both front back some more =
    parts_some (front ++ 47 ∷ back) (omega (arith, length-append front (47 ∷ back)))
    ∙ segments_both front back
    ∙ ap (λ ps. ps ++ segments back) (sym (parts_some front some))
    ∙ ap (λ ps. parts_in front ++ ps) (sym (parts_some back more))

front_some : (front back : List ℕ) → All IsPart (segments front ++ segments back) → 0 < length front
front_some [] back all = absurd ((All-head IsPart [] (segments back) all).some refl)
front_some (b ∷ front) back all = omega arith

back_some : (front back : List ℕ) → All IsPart (segments front ++ segments back) → 0 < length back
back_some front [] all =
    let last : All IsPart ([] ∷ []) = All-same IsPart ([] ∷ []) (drop (length (segments front)) (segments front ++ [] ∷ [])) (sym (drop-append_seam (segments front) ([] ∷ []))) (All-drop IsPart (length (segments front)) (segments front ++ [] ∷ []) all) in
    absurd ((All-head IsPart [] [] last).some refl)
back_some front (b ∷ back) all = omega arith

segments_of : (front back : List ℕ) → All IsPart (parts_in (front ++ 47 ∷ back)) → All IsPart (segments front ++ segments back)
segments_of front back all =
    All-same IsPart (segments front ++ segments back) (parts_in (front ++ 47 ∷ back))
    (sym (parts_some (front ++ 47 ∷ back) (omega (arith, length-append front (47 ∷ back))) ∙ segments_both front back))
    all

-- where a text of parts has a `/`, something stands on both sides
pub both_some : (front back : List ℕ) → All IsPart (parts_in (front ++ 47 ∷ back)) → (0 < length front) × (0 < length back)
both_some front back all =
    let each = segments_of front back all in
    (front_some front back each, back_some front back each)

pub parts_cut : (text front back : List ℕ) → text ≡ front ++ 47 ∷ back → All IsPart (parts_in text) → parts_in text ≡ parts_in front ++ parts_in back
parts_cut text front back e all =
    let some = both_some front back (subst (λ t. All IsPart (parts_in t)) e all) in
    ap parts_in e ∙ parts_both front back some.0 some.1

-- the parts of the parts' text are these
pub parts_join : (parts : Path) → All IsPart parts → parts_in (join_with_byte 47 parts) ≡ parts
parts_join [] all = refl
parts_join (first ∷ rest) all =
    parts_some (join_with_byte 47 (first ∷ rest)) (joined_some first rest (All-head IsPart first rest all)) ∙ segments_joined first rest all

-- ---- putting texts together

pub pushed_first : {A E : Type 0} (r : Result A E) (old new part : List ℕ) → new ≡ cond (is_ok r) (old ++ part) old → length old ≡ 0 → IsPart part
    → OnOk r (parts_in new ≡ parts_in old ++ part ∷ [])
pushed_first (Ok u) [] new part e none is = ap parts_in e ∙ one_part part is
pushed_first (Ok u) (b ∷ old) new part e none is = absurd (omega (arith, none))
pushed_first (Err f) old new part e none is = tt

pub pushed_next : {A E : Type 0} (r : Result A E) (old mid new part : List ℕ) → mid ≡ old ++ 47 ∷ [] → new ≡ cond (is_ok r) (mid ++ part) mid → 0 < length old → IsPart part
    → OnOk r (parts_in new ≡ parts_in old ++ part ∷ [])
pushed_next (Ok u) old mid new part e f some is =
    ap parts_in (f ∙ ap (λ l. l ++ part) e ∙ append_assoc old (47 ∷ []) part)
    ∙ parts_both old part some (part_some part is)
    ∙ ap (λ ps. parts_in old ++ ps) (one_part part is)
pushed_next (Err g) old mid new part e f some is = tt

pub three_texts : (none front all one two three : List ℕ) → none ≡ [] → one ≡ none ++ front → two ≡ one ++ 47 ∷ [] → three ≡ two ++ all → 0 < length front → 0 < length all
    → parts_in three ≡ parts_in front ++ parts_in all
three_texts none front all one two three n a b d some more =
    ap parts_in (d ∙ ap (λ l. l ++ all) (b ∙ ap (λ l. l ++ 47 ∷ []) (a ∙ ap (λ l. l ++ front) n)) ∙ append_assoc front (47 ∷ []) all)
    ∙ parts_both front all some more

-- ---- cutting

pub lacking_parts : (text : List ℕ) → 0 < length text → Lacks 47 text → parts_in text ≡ text ∷ []
lacking_parts text some lacks = parts_some text some ∙ segment_last text lacks

pub first_cut : (text part rest : List ℕ) → text ≡ part ++ 47 ∷ rest → Lacks 47 part → All IsPart (parts_in text) → parts_in text ≡ part ∷ parts_in rest
first_cut text part rest e lacks all =
    let some = both_some part rest (subst (λ t. All IsPart (parts_in t)) e all) in
    parts_cut text part rest e all ∙ ap (λ ps. ps ++ parts_in rest) (lacking_parts part some.0 lacks)

-- what `rsplit_once` says
pub cut_at_last : (bs : List ℕ) (r : Option (Bor (List ℕ) × Bor (List ℕ)))
    → MatchOption r (RFindsChar 47 bs None) (λ x. (i : ℕ) × (j : ℕ) × RFindsChar 47 bs (Some (i, j)) × (x.0.now ≡ take i bs) × (x.1.now ≡ drop j bs) × (i ≤ j) × (length x.0.now ≡ i) × (length x.1.now + j ≡ length bs))
    → MatchOption r (Lacks 47 bs) (λ x. (bs ≡ x.0.now ++ 47 ∷ x.1.now) × Lacks 47 x.1.now)
cut_at_last bs None h = lacks_from 47 bs (λ i. NoCharPasses-char 47 bs i h (omega arith))
cut_at_last bs (Some x) h = (
  sym (take-append-drop h.0 bs)
      ∙ ap (λ l. l ++ drop h.0 bs) (sym h.3)
      ∙ ap (λ l. x.0.now ++ l) (drop_at_char 47 bs h.0 h.1 h.2.1 (omega arith) ∙ ap (λ l. 47 ∷ l) (sym h.4)),
  lacks_from 47 x.1.now (λ i. NoCharPasses-char 47 x.1.now i (subst (NoCharPasses (λ d. d == 47)) (sym h.4) h.2.0) (omega arith)),
)

few_parts : (text : List ℕ) → Lacks 47 text → length (parts_in text) < 2
few_parts [] lacks = omega arith
few_parts (b ∷ text) lacks = omega (arith, ap length (lacking_parts (b ∷ text) (omega arith) lacks))

pub last_cut : (text : List ℕ) (r : Option (Bor (List ℕ) × Bor (List ℕ))) → MatchOption r (Lacks 47 text) (λ x. (text ≡ x.0.now ++ 47 ∷ x.1.now) × Lacks 47 x.1.now) → All IsPart (parts_in text)
    → MatchOption r (length (parts_in text) < 2) (λ x. (parts_in text ≡ parts_in x.0.now ++ x.1.now ∷ []) × (0 < length (parts_in x.0.now)))
last_cut text None lacks all = few_parts text lacks
last_cut text (Some x) h all =
    let some = both_some x.0.now x.1.now (subst (λ t. All IsPart (parts_in t)) h.0 all) in (
      parts_cut text x.0.now x.1.now h.0 all ∙ ap (λ ps. parts_in x.0.now ++ ps) (lacking_parts x.1.now some.1 h.1),
      some_parts x.0.now some.0,
    )

pub last_split : (text : List ℕ) (r : Option (Bor (List ℕ) × Bor (List ℕ))) → MatchOption r (Lacks 47 text) (λ x. (text ≡ x.0.now ++ 47 ∷ x.1.now) × Lacks 47 x.1.now) → All IsPart (parts_in text)
    → MatchOption r (length (parts_in text) < 2) (λ x. text ≡ x.0.now ++ 47 ∷ x.1.now)
last_split text None lacks all = few_parts text lacks
last_split text (Some x) h all = h.0

single : (parts : Path) → 0 < length parts → length parts < 2 → parts ≡ take (length parts - 1) parts ++ join_with_byte 47 parts ∷ []
single [] some few = absurd (omega (arith, some))
single (p ∷ []) some few = refl
single (p ∷ (q ∷ ps)) some few = absurd (omega (arith, few))

-- a text of one part is that part
pub single_part : (text : List ℕ) → 0 < length (parts_in text) → length (parts_in text) < 2 → parts_in text ≡ take (length (parts_in text) - 1) (parts_in text) ++ text ∷ []
single_part text some few = single (parts_in text) some few ∙ ap (λ t. take (length (parts_in text) - 1) (parts_in text) ++ t ∷ []) (join_parts text)

pub front_each : (all front back : Path) → all ≡ front ++ back → All IsPart all → All IsPart front
front_each all front back e each =
    All-same IsPart front (take (length front) all) (sym (ap (take (length front)) e ∙ take-append_seam front back)) (All-take IsPart (length front) all each)

pub back_each : (all front back : Path) → all ≡ front ++ back → All IsPart all → All IsPart back
back_each all front back e each =
    All-same IsPart back (drop (length front) all) (sym (ap (drop (length front)) e ∙ drop-append_seam front back)) (All-drop IsPart (length front) all each)

pub last_two : (all front : Path) (one two : List ℕ) → all ≡ front ++ two ∷ [] → front ≡ take (length front - 1) front ++ one ∷ [] → drop (length all - 2) all ≡ one ∷ two ∷ []
last_two all front one two e f =
    let before = take (length front - 1) front in
    let whole : all ≡ before ++ one ∷ two ∷ [] = e ∙ ap (λ ps. ps ++ two ∷ []) f ∙ append_assoc before (one ∷ []) (two ∷ []) in
    let count : length all - 2 ≡ length before = omega (arith, ap length whole, length-append before (one ∷ two ∷ [])) in
    ap (λ n. drop n all) count ∙ ap (drop (length before)) whole ∙ drop-append_seam before (one ∷ two ∷ [])

pub not_two : (parts : Path) (one two : List ℕ) → length parts < 2 → pointwise bytes_eq (drop (length parts - 2) parts) (one ∷ two ∷ []) ≡ false
not_two [] one two few = refl
not_two (p ∷ []) one two few = and-false (bytes_eq p one)
not_two (p ∷ (q ∷ parts)) one two few = absurd (omega (arith, few))

pub none_left : (parts : Path) (text : List ℕ) (i n : ℕ) → parts_in text ≡ take (length parts - i) parts → length text ≡ 0 → i ≤ n → parts_in text ≡ take (length parts - n) parts
none_left parts [] i n e none more =
    let long : length parts - i ≡ 0 = sym (length-take-le (length parts - i) parts (omega arith)) ∙ ap length (sym e) in
    let all : length parts - n ≡ 0 = omega (arith, long, more) in
    rw all refl
none_left parts (b ∷ text) i n e none more = absurd (omega (arith, none))

pub one_less : (parts front shorter : Path) (i : ℕ) → front ≡ take (length parts - i) parts → shorter ≡ take (length front - 1) front → shorter ≡ take (length parts - (i + 1)) parts
one_less parts front shorter i e f =
    let long : length front ≡ length parts - i = ap length e ∙ length-take-le (length parts - i) parts (omega arith) in
    let count : length front - 1 ≡ length parts - (i + 1) = omega (arith, long) in
    f ∙ ap (λ n. take n front) count ∙ ap (take (length parts - (i + 1))) e ∙ take-take (length parts - (i + 1)) (length parts - i) parts (omega arith)

-- ---- which parts begin others

join_append : (xs ys : Path) → 0 < length xs → 0 < length ys → join_with_byte 47 (xs ++ ys) ≡ join_with_byte 47 xs ++ 47 ∷ join_with_byte 47 ys
join_append [] ys some more = absurd (omega (arith, some))
join_append (x ∷ []) [] some more = absurd (omega (arith, more))
join_append (x ∷ []) (y ∷ ys) some more = refl
join_append (x ∷ (z ∷ xs)) ys some more =
    ap (λ l. x ++ 47 ∷ l) (join_append (z ∷ xs) ys (omega arith) more)
    ∙ sym (append_assoc x (47 ∷ join_with_byte 47 (z ∷ xs)) (47 ∷ join_with_byte 47 ys))

begins_by : (text front : List ℕ) (rest : Path) → 0 < length front → parts_in text ≡ parts_in front ++ rest → (text ≡ front) ⊎ ((more : List ℕ) × (text ≡ front ++ 47 ∷ more))
begins_by text front [] some e = inl (same_text text front (e ∙ append-nil (parts_in front)))
begins_by text front (p ∷ ps) some e =
    inr (
      join_with_byte 47 (p ∷ ps),
      sym (join_parts text)
          ∙ ap (join_with_byte 47) e
          ∙ join_append (parts_in front) (p ∷ ps) (some_parts front some) (omega arith)
          ∙ ap (λ l. l ++ 47 ∷ join_with_byte 47 (p ∷ ps)) (join_parts front),
    )

-- what `strip_prefix` says
pub strip_says : (front bytes : List ℕ) (r : Option (Bor (List ℕ))) → MatchOption r (FindsTextPrefix front bytes None) (λ x. StripsPrefix (FindsTextPrefix front) bytes x.now)
    → MatchOption r ((rest : List ℕ) → bytes ≢ front ++ rest) (λ x. bytes ≡ front ++ x.now)
strip_says front bytes None lacks = lacks
strip_says front bytes (Some x) strips = strips.1.1 ∙ ap (λ l. front ++ l) (sym strips.2)

-- a text that begins otherwise
pub other_front : (text front : List ℕ) → 0 < length front → ((rest : List ℕ) → text ≢ front ++ rest) → Begins (parts_in front) (parts_in text) → ⊥
other_front text front some lacks begins =
    ⊎_elim (λ e. lacks [] (e ∙ sym (append-nil front))) (λ h. lacks (47 ∷ h.0) h.1) (begins_by text front begins.0 some begins.1)

below_some : (text front rest more : List ℕ) → text ≡ front ++ rest → IsBelow rest more → All IsPart (parts_in text) → parts_in text ≡ parts_in front ++ parts_in more
below_some text front rest more e (inl h) all =
    ap parts_in (e ∙ ap (λ l. front ++ l) h.0 ∙ append-nil front) ∙ sym (append-nil (parts_in front)) ∙ ap (λ l. parts_in front ++ parts_in l) (sym h.1)
below_some text front rest more e (inr h) all = parts_cut text front more (e ∙ ap (λ l. front ++ l) h) all

below_none : (text front rest : List ℕ) → 0 < length front → text ≡ front ++ rest → IsOtherwise rest → Begins (parts_in front) (parts_in text) → ⊥
below_none text front rest some e other begins =
    ⊎_elim
    (λ same. absurd (omega (arith, other.0, ap length e, ap length same, length-append front rest)))
    (λ h. other.1 h.0 (append_cancel_left front rest (47 ∷ h.0) (sym e ∙ h.1)))
    (begins_by text front begins.0 some begins.1)

pub slashed : (rest : List ℕ) (r : Option (Bor (List ℕ))) → MatchOption r ((more : List ℕ) → rest ≢ 47 ∷ more) (λ x. rest ≡ 47 ∷ x.now) → 0 < length rest
    → MatchOption r (IsOtherwise rest) (λ x. IsBelow rest x.now)
slashed rest None h some = (some, h)
slashed rest (Some x) h some = inr h

pub below_either : (text front rest : List ℕ) (r : Option (Bor (List ℕ))) → 0 < length front → text ≡ front ++ rest → MatchOption r (IsOtherwise rest) (λ x. IsBelow rest x.now) → All IsPart (parts_in text)
    → MatchOption r (Begins (parts_in front) (parts_in text) → ⊥) (λ x. parts_in text ≡ parts_in front ++ parts_in x.now)
below_either text front rest None some e h all = below_none text front rest some e h
below_either text front rest (Some x) some e h all = below_some text front rest x.now e h all

-- ---- equality and order

same_as : (a b : Bool) {X Y : Type 0} → Decides a X → Decides b Y → (X → Y) → (Y → X) → a ≡ b
same_as true b da db there back = sym (db.1 (there (da.0 refl)))
same_as false true da db there back = da.1 (back (db.0 refl))
same_as false false da db there back = refl

pub same_parts : (one other : List ℕ) → bytes_eq one other ≡ pointwise bytes_eq (parts_in one) (parts_in other)
same_parts one other =
    same_as (bytes_eq one other) (pointwise bytes_eq (parts_in one) (parts_in other)) (bytes_eq-Decides one other)
    (slice_eq-Decides bytes_eq-Decides (parts_in one) (parts_in other) (pointwise bytes_eq (parts_in one) (parts_in other)) refl)
    (ap parts_in) (same_text one other)

then_again : (a b d : Ordering) → ordering_then (ordering_then a b) d ≡ ordering_then a (ordering_then b d)
then_again ordering.Less b d = refl
then_again ordering.Equal b d = refl
then_again ordering.Greater b d = refl

same_rank : (b : ℕ) → nat_cmp b b ≡ ordering.Equal
same_rank b = sym (nat_cmp_is b b ordering.Equal refl)

sucs : (b c : ℕ) (r : Ordering) → MatchOrdering r (b < c) (b ≡ c) (c < b) → MatchOrdering r (suc b < suc c) (suc b ≡ suc c) (suc c < suc b)
sucs b c ordering.Less h = omega (arith, h)
sucs b c ordering.Equal h = ap suc h
sucs b c ordering.Greater h = omega (arith, h)

suc_cmp : (b c : ℕ) → nat_cmp (suc b) (suc c) ≡ nat_cmp b c
suc_cmp b c = sym (nat_cmp_is (suc b) (suc c) (nat_cmp b c) (sucs b c (nat_cmp b c) (ranks b c)))

zero_less : (b : ℕ) → nat_cmp 0 (suc b) ≡ ordering.Less
zero_less b = sym (nat_cmp_is 0 (suc b) ordering.Less (omega arith))

suc_greater : (b : ℕ) → nat_cmp (suc b) 0 ≡ ordering.Greater
suc_greater b = sym (nat_cmp_is (suc b) 0 ordering.Greater (omega arith))

byte_first : (c d : ℕ) (x y : Bool) (ss tt : Path) (r : Ordering) → 0 < length ss → 0 < length tt → path_cmp ss tt ≡ r
    → path_cmp (cond x ([] ∷ ss) (onto_first c ss)) (cond y ([] ∷ tt) (onto_first d tt)) ≡ ordering_then (nat_cmp (cond x 0 (suc c)) (cond y 0 (suc d))) r
byte_first c d x y [] tt r some more rec = absurd (omega (arith, some))
byte_first c d x y (s ∷ ss) [] r some more rec = absurd (omega (arith, more))
byte_first c d true true (s ∷ ss) (t ∷ tt) r some more rec = rec
byte_first c d true false (s ∷ ss) (t ∷ tt) r some more rec = ap (λ o. ordering_then o r) (sym (zero_less d))
byte_first c d false true (s ∷ ss) (t ∷ tt) r some more rec = ap (λ o. ordering_then o r) (sym (suc_greater c))
byte_first c d false false (s ∷ ss) (t ∷ tt) r some more rec =
    then_again (nat_cmp c d) (slice_cmp nat_cmp s t) (path_cmp ss tt)
    ∙ ap (ordering_then (nat_cmp c d)) rec
    ∙ ap (λ o. ordering_then o r) (sym (suc_cmp c d))

end_before : (d : ℕ) (y : Bool) (tt : Path) → 0 < length tt → path_cmp ([] ∷ []) (cond y ([] ∷ tt) (onto_first d tt)) ≡ ordering.Less
end_before d y [] more = absurd (omega (arith, more))
end_before d true (t ∷ tt) more = refl
end_before d false (t ∷ tt) more = refl

end_after : (c : ℕ) (x : Bool) (ss : Path) → 0 < length ss → path_cmp (cond x ([] ∷ ss) (onto_first c ss)) ([] ∷ []) ≡ ordering.Greater
end_after c x [] some = absurd (omega (arith, some))
end_after c true (s ∷ ss) some = refl
end_after c false (s ∷ ss) some = refl

order_segments : (one other : List ℕ) → path_cmp (segments one) (segments other) ≡ slice_cmp nat_cmp (map rank one) (map rank other)
order_segments [] [] = refl
order_segments [] (d ∷ other) = end_before d (d == 47) (segments other) (segments_some other)
order_segments (c ∷ one) [] = end_after c (c == 47) (segments one) (segments_some one)
order_segments (c ∷ one) (d ∷ other) =
    byte_first c d (c == 47) (d == 47) (segments one) (segments other) (slice_cmp nat_cmp (map rank one) (map rank other))
    (segments_some one) (segments_some other) (order_segments one other)

none_before : (tt : Path) → 0 < length tt → path_cmp [] tt ≡ ordering.Less
none_before [] more = absurd (omega (arith, more))
none_before (t ∷ tt) more = refl

none_after : (ss : Path) → 0 < length ss → path_cmp ss [] ≡ ordering.Greater
none_after [] some = absurd (omega (arith, some))
none_after (s ∷ ss) some = refl

-- the order of parts is that of their texts, where `/` stands before every other byte
pub order_parts : (one other : List ℕ) → slice_cmp nat_cmp (map rank one) (map rank other) ≡ path_cmp (parts_in one) (parts_in other)
order_parts [] [] = refl
order_parts [] (d ∷ other) = sym (none_before (segments (d ∷ other)) (segments_some (d ∷ other)))
order_parts (c ∷ one) [] = sym (none_after (segments (c ∷ one)) (segments_some (c ∷ one)))
order_parts (c ∷ one) (d ∷ other) = sym (order_segments (c ∷ one) (d ∷ other))
