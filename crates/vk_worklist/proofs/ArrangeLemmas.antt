-- Lines from a place on that change places, and one that moves forward until the one before it isn't greater.
use Rattle.std.proofs.Common.{◌≡◌, ◌<◌, ◌≤◌, ◌+◌, ◌-◌, ℕ, true, false, refl, List, [], ◌∷◌, length, take, drop, set, get_or, inl, inr, ap, sym, ◌∙◌, subst, arith}
use Rattle.std.specs.Map.{keys_of}
use Rattle.std.specs.declared.cmp.Ordering.{Ordering}
use Rattle.std.specs.declared.cmp.Ordering.TheVariants.{Less, Equal, Greater}
use Rattle.std.specs.Cmp.{on_total}
use Rattle.std.specs.List.{swap}
use Rattle.std.specs.List.Sorted.{IsSorted}
use Rattle.std.specs.Ordering.{is_lt, ordering_reverse}
use Rattle.std.proofs.lemmas.Bool.{cases_order}
use Rattle.std.proofs.lemmas.List.{take-set-le, drop-set-add, get_or-drop, length-drop}
use Rattle.std.proofs.lemmas.List.Edits.{length-swap, swap_is, Swapped, swapped_from_swap}
use Rattle.std.proofs.lemmas.List.Sorted.{IsPermutation-refl, IsPermutation-trans, IsPermutation-swap}
use Rattle.vk_spec.proofs.FileLemmas.{path_total}
use Rattle.vk_model.specs.declared.facts.Fact.{Fact}
use Rattle.vk_model.specs.declared.reasons.Cause.{Cause}
use Rattle.vk_model.specs.FactKeys.{key_of}
use Rattle.indexmap.proofs.MapLemmas.{sorted_keys}
use Rattle.vk_worklist.specs.Arranged.{IsArranged, IsInOrder, IsPutInOrder, IsSifted, is_less}
use Rattle.vk_worklist.specs.Orders.{fact_order}
use Rattle.vk_worklist.proofs.MapLemmas.{Entries}

-- ---- lines that change places

pub arranged_none : (settled : ℕ) (es : Entries) → IsArranged settled es es
arranged_none settled es = record {
  long = refl;
  kept = refl;
  moved = IsPermutation-refl (drop settled es);
}

pub arranged_then : (settled : ℕ) (es fs gs : Entries) → IsArranged settled es fs → IsArranged settled fs gs → IsArranged settled es gs
arranged_then settled es fs gs one other = record {
  long = other.long ∙ one.long;
  kept = other.kept ∙ one.kept;
  moved = IsPermutation-trans (drop settled es) (drop settled fs) (drop settled gs) one.moved other.moved;
}

-- two behind n of a list are exchanged
taken_swap : {X : Type 0} (n i j : ℕ) (xs : List X) (d : X) → n + i < length xs → n + j < length xs → take n (swap xs (n + i) (n + j)) ≡ take n xs
taken_swap n i j xs d one other =
    ap (take n) (sym (swap_is xs (n + i) (n + j) d one other))
    ∙ take-set-le n (set xs (n + i) (get_or xs (n + j) d)) (n + j) (get_or xs (n + i) d) (omega arith)
    ∙ take-set-le n xs (n + i) (get_or xs (n + j) d) (omega arith)

dropped_swap : {X : Type 0} (n i j : ℕ) (xs : List X) (d : X) → n + i < length xs → n + j < length xs → drop n (swap xs (n + i) (n + j)) ≡ swap (drop n xs) i j
dropped_swap n i j xs d one other =
    ap (drop n) (sym (swap_is xs (n + i) (n + j) d one other))
    ∙ drop-set-add n (set xs (n + i) (get_or xs (n + j) d)) j (get_or xs (n + i) d)
    ∙ ap (λ l. set l j (get_or xs (n + i) d)) (drop-set-add n xs i (get_or xs (n + j) d))
    ∙ ap (λ v. set (set (drop n xs) i v) j (get_or xs (n + i) d)) (sym (get_or-drop n xs j d))
    ∙ ap (λ v. set (set (drop n xs) i (get_or (drop n xs) j d)) j v) (sym (get_or-drop n xs i d))
    ∙ swap_is (drop n xs) i j d (let long = length-drop n xs in omega (arith, one, long)) (let long = length-drop n xs in omega (arith, other, long))

swap_behind : (n i j : ℕ) (es fs : Entries) (d : Fact × Cause) → n + i < length es → n + j < length es → fs ≡ swap es (n + i) (n + j) → IsArranged n es fs
swap_behind n i j es fs d one other is = record {
  long = ap length is ∙ length-swap es (n + i) (n + j);
  kept = ap (take n) is ∙ taken_swap n i j es d one other;
  moved = IsPermutation-swap (drop n es) (drop n fs) i j (let long = length-drop n es in omega (arith, one, long)) (let long = length-drop n es in omega (arith, other, long)) (ap (drop n) is ∙ dropped_swap n i j es d one other);
}

pub arranged_swap : (n a b : ℕ) (es fs : Entries) → n ≤ a → n ≤ b → a < length es → b < length es → fs ≡ swap es a b → IsArranged n es fs
arranged_swap n a b [] fs na nb one other is = absurd (omega (arith, one))
arranged_swap n a b (e ∷ es) fs na nb one other is =
    let at : n + (a - n) ≡ a = omega (arith, na) in
    let bt : n + (b - n) ≡ b = omega (arith, nb) in
    swap_behind n (a - n) (b - n) (e ∷ es) fs e (subst (λ m. m < length (e ∷ es)) (sym at) one) (subst (λ m. m < length (e ∷ es)) (sym bt) other)
    (is ∙ ap (λ m. swap (e ∷ es) m b) (sym at) ∙ ap (λ m. swap (e ∷ es) (n + (a - n)) m) (sym bt))

-- ---- one that moves forward

turned_less : (r s : Ordering) → s ≡ ordering_reverse r → is_lt r ≡ true → is_lt s ≡ false
turned_less Less s e h = ap is_lt e
turned_less Equal s e h = ap is_lt e
turned_less Greater s e h = (cc)

not_both : (e f : Fact × Cause) → is_less e f ≡ true → is_less f e ≡ false
not_both e f h = turned_less (fact_order e.0 f.0) (fact_order f.0 e.0) ((on_total key_of path_total).antisymm f.0 e.0) h

same_less : (a b c d : Fact × Cause) → a ≡ c → b ≡ d → is_less c d ≡ false → is_less a b ≡ false
same_less a b c d p q h = ap (λ x. is_less x b) p ∙ ap (is_less c) q ∙ h

pub sifted_first : (low at : ℕ) (es : Entries) → IsInOrder low at es → IsSifted low (at + 1) at es
sifted_first low at es order = record {
  order = λ k d from to other. order k d from (omega (arith, to, other));
  over = λ d from to. absurd (omega (arith, to));
}

-- the one at a place, which is less, changes places with the one before it
module _ (low high i : ℕ) (es fs : Entries) (from : low ≤ i) (fits : high ≤ length es) (within : i + 1 < high) (was : IsSifted low high (i + 1) es) (goes : (d : Fact × Cause) → is_less (get_or es (i + 1) d) (get_or es i d) ≡ true) (is : fs ≡ swap es i (i + 1)) where
  turn : (d : Fact × Cause) → Swapped (λ m. get_or es m d) (λ m. get_or fs m d) i (i + 1)
  turn d = swapped_from_swap es fs i (i + 1) d (omega (arith, fits, within)) (omega (arith, fits, within)) is

  order_here : (k : ℕ) (d : Fact × Cause) → k ≡ i → is_less (get_or fs (k + 1) d) (get_or fs k d) ≡ false
  order_here k d e =
      same_less (get_or fs (k + 1) d) (get_or fs k d) (get_or es i d) (get_or es (i + 1) d)
      (ap (λ m. get_or fs (m + 1) d) e ∙ (turn d).1) (ap (λ m. get_or fs m d) e ∙ (turn d).0)
      (not_both (get_or es (i + 1) d) (get_or es i d) (goes d))

  order_behind : (k : ℕ) (d : Fact × Cause) → i + 1 ≡ k → k + 1 < high → is_less (get_or fs (k + 1) d) (get_or fs k d) ≡ false
  order_behind k d e to =
      same_less (get_or fs (k + 1) d) (get_or fs k d) (get_or es (i + 1 + 1) d) (get_or es (i + 1 - 1) d)
      ((turn d).2 (k + 1) (omega (arith, e)) (omega (arith, e)) ∙ ap (λ m. get_or es (m + 1) d) (sym e))
      (ap (λ m. get_or fs m d) (sym e) ∙ (turn d).1 ∙ ap (λ m. get_or es m d) (omega arith))
      (was.over d (omega (arith, from)) (omega (arith, e, to)))

  order_else : (k : ℕ) (d : Fact × Cause) → low ≤ k → k + 1 < high → (k ≡ i → ⊥) → (k ≡ i + 1 → ⊥) → (k + 1 ≡ i → ⊥) → is_less (get_or fs (k + 1) d) (get_or fs k d) ≡ false
  order_else k d up to here behind before =
      same_less (get_or fs (k + 1) d) (get_or fs k d) (get_or es (k + 1) d) (get_or es k d)
      ((turn d).2 (k + 1) before (omega (arith, here))) ((turn d).2 k here behind)
      (was.order k d up to (omega (arith, here)))

  order_now : (k : ℕ) (d : Fact × Cause) → low ≤ k → k + 1 < high → (k + 1 ≡ i → ⊥) → is_less (get_or fs (k + 1) d) (get_or fs k d) ≡ false
  order_now k d up to before =
      elim (cases_order k i) [
        | inl e ↦ order_here k d e
        | inr other ↦ elim other [
          | inl less ↦ order_else k d up to (omega (arith, less)) (omega (arith, less)) before
          | inr more ↦ elim (cases_order (i + 1) k) [
            | inl e ↦ order_behind k d e to
            | inr apart ↦ order_else k d up to (omega (arith, more)) (λ e. elim apart [ inl h ↦ omega (arith, h, e) | inr h ↦ omega (arith, h, e) ]) before
          ]
        ]
      ]

  sifted_more : IsSifted low high i fs
  sifted_more = record {
    order = order_now;
    over = λ d up to.
        same_less (get_or fs (i + 1) d) (get_or fs (i - 1) d) (get_or es (i - 1 + 1) d) (get_or es (i - 1) d)
        ((turn d).1 ∙ ap (λ m. get_or es m d) (omega (arith, up))) ((turn d).2 (i - 1) (omega (arith, up)) (omega (arith, up)))
        (was.order (i - 1) d (omega (arith, up)) (omega (arith, up, to)) (omega (arith, up)));
  }

pub sifted_back : (low high place : ℕ) (es fs : Entries) → low < place → place < high → high ≤ length es → IsSifted low high place es → ((d : Fact × Cause) → is_less (get_or es place d) (get_or es (place - 1) d) ≡ true) → fs ≡ swap es (place - 1) place → IsSifted low high (place - 1) fs
sifted_back low high place es fs up within fits was goes is =
    let e : place - 1 + 1 ≡ place = omega (arith, up) in
    sifted_more low high (place - 1) es fs (omega (arith, up)) fits (omega (arith, up, within)) (subst (λ m. IsSifted low high m es) (sym e) was)
    (λ d. ap (λ m. is_less (get_or es m d) (get_or es (place - 1) d)) e ∙ goes d) (is ∙ ap (swap es (place - 1)) (sym e))

pub sifted_last : (low high place : ℕ) (es : Entries) → IsSifted low high place es → ((d : Fact × Cause) → low < place → is_less (get_or es place d) (get_or es (place - 1) d) ≡ false) → IsInOrder low high es
sifted_last low high place es was stays k d from to =
    elim (cases_order (k + 1) place) [
      | inl e ↦ same_less (get_or es (k + 1) d) (get_or es k d) (get_or es place d) (get_or es (place - 1) d)
          (ap (λ m. get_or es m d) e) (ap (λ m. get_or es m d) (omega (arith, e))) (stays d (omega (arith, e, from)))
      | inr other ↦ was.order k d from to (λ e. elim other [ inl h ↦ omega (arith, h, e) | inr h ↦ omega (arith, h, e) ])
    ]

-- lines that changed places before
pub put_by_two : (settled : ℕ) (es fs gs : Entries) → IsArranged settled es fs → IsArranged settled fs gs → IsInOrder settled (length fs) gs → IsPutInOrder settled es gs
put_by_two settled es fs gs one other order = record {
  arranged = arranged_then settled es fs gs one other;
  order = subst (λ n. IsInOrder settled n gs) (sym other.long) order;
}

-- what is in order from a place on is sorted behind it
pub behind_sorted : (settled : ℕ) (es : Entries) → IsInOrder settled (length es) es → IsSorted fact_order (keys_of (drop settled es))
behind_sorted settled es order = sorted_keys (λ a b. is_lt (fact_order a b)) (drop settled es) (λ k d from to.
    let long = length-drop settled es in
    same_less (get_or (drop settled es) (k + 1) d) (get_or (drop settled es) k d) (get_or es (settled + k + 1) d) (get_or es (settled + k) d)
    (get_or-drop settled es (k + 1) d ∙ ap (λ m. get_or es m d) (omega arith)) (get_or-drop settled es k d)
    (order (settled + k) d (omega arith) (omega (arith, to, long))))
