-- Index maps of facts, as lists of reasons: what is among them, one more at the end, a sort, and one behind the other.
use Rattle.std.proofs.Common.{◌≡◌, ◌<◌, ◌+◌, suc, Bool, true, false, cond, List, [], ◌∷◌, ◌++◌, length, get_or, inl, inr, refl, ap, sym, ◌∙◌, subst, arith}
use Rattle.std.specs.Prelude.{Option, Some, None, is_some, unwrap_or}
use Rattle.std.specs.declared.cmp.Ordering.{Ordering}
use Rattle.std.specs.declared.cmp.Ordering.TheVariants.{Less, Equal, Greater}
use Rattle.std.specs.Ordering.{is_lt}
use Rattle.std.specs.Map.{lookup, keys_of}
use Rattle.std.specs.List.{Contains}
use Rattle.std.specs.List.Sorted.{IsSorted, IsPermutation}
use Rattle.std.proofs.lemmas.List.Sorted.{Contains-permutation}
use Rattle.indexmap.specs.IndexMap.{insert_entry}
use Rattle.vk_spec.specs.Lists.{NoRepeats, IsWithin}
use Rattle.vk_spec.proofs.ListLemmas.{contains_nothing, contains_first, contains_later, contains_cases}
use Rattle.vk_spec.proofs.FileLemmas.{path_total, path_same}
use Rattle.vk_resolution.specs.Keys.{Key, key_cmp, Ascends}
use Rattle.vk_resolution.specs.Asking.{fact_key}
use Rattle.vk_resolution.proofs.Members.{map_contains, contains_map, true_false}
use Rattle.vk_resolution.proofs.Orders.{same_key-Decides, turned}
use Rattle.vk_resolution.proofs.FactLemmas.{fact_key-IsKey}
use Rattle.vk_model.specs.declared.facts.Fact.{Fact}
use Rattle.vk_model.specs.declared.reasons.Cause.{Cause}
use Rattle.vk_model.specs.FactViews.{fact_view}
use Rattle.vk_model.specs.FactKeys.{key_of}
use Rattle.vk_worklist.specs.Entries.{reason_of, reasons_in, facts_in}
use Rattle.vk_worklist.specs.Orders.{is_same, fact_order}

abbrev pub Entries : Type 0
Entries = List (Fact × Cause)

pub same_view : (x y : Fact) → is_same x y ≡ true → fact_view x ≡ fact_view y
same_view x y e = fact_key-IsKey (fact_view x) (fact_view y) ((same_key-Decides (key_of x) (key_of y)).0 e)

pub view_same : (x y : Fact) → fact_view x ≡ fact_view y → is_same x y ≡ true
view_same x y e = (same_key-Decides (key_of x) (key_of y)).1 (ap fact_key e)

-- ---- what is among them

found_step : (x : Fact) (e : Fact × Cause) (es : Entries) (b : Bool) → is_same x e.0 ≡ b → (is_some (lookup (is_same x) es) ≡ true → Contains (facts_in es) (fact_view x)) → is_some (cond b (Some e.1) (lookup (is_same x) es)) ≡ true → Contains (facts_in (e ∷ es)) (fact_view x)
found_step x e es true at rest h = subst (λ z. Contains (z ∷ facts_in es) (fact_view x)) (same_view x e.0 at) (contains_first (fact_view x) (facts_in es))
found_step x e es false at rest h = contains_later (fact_view e.0) (fact_view x) (facts_in es) (rest h)

pub found_contains : (x : Fact) (es : Entries) → is_some (lookup (is_same x) es) ≡ true → Contains (facts_in es) (fact_view x)
found_contains x [] h = (cc)
found_contains x (e ∷ es) h = found_step x e es (is_same x e.0) refl (found_contains x es) h

first_found : (o : Option Cause) (c : Cause) (b : Bool) → b ≡ true → is_some (cond b (Some c) o) ≡ true
first_found o c true e = refl
first_found o c false e = (cc)

later_found : (o : Option Cause) (c : Cause) (b : Bool) → is_some o ≡ true → is_some (cond b (Some c) o) ≡ true
later_found o c true e = refl
later_found o c false e = e

pub contains_found : (x : Fact) (es : Entries) → Contains (facts_in es) (fact_view x) → is_some (lookup (is_same x) es) ≡ true
contains_found x [] h = absurd (contains_nothing (fact_view x) h)
contains_found x (e ∷ es) h =
    elim (contains_cases (fact_view e.0) (fact_view x) (facts_in es) h) [
      | inl same ↦ first_found (lookup (is_same x) es) e.1 (is_same x e.0) (view_same x e.0 (sym same))
      | inr later ↦ later_found (lookup (is_same x) es) e.1 (is_same x e.0) (contains_found x es later)
    ]

-- ---- one more, and more

put_by : (x : Fact) (c : Cause) (e : Fact × Cause) (es : Entries) (b : Bool) → is_same x e.0 ≡ b → (Contains (facts_in (e ∷ es)) (fact_view x) → ⊥) → cond b ((e.0, c) ∷ es) (e ∷ (es ++ (x, c) ∷ [])) ≡ e ∷ (es ++ (x, c) ∷ [])
put_by x c e es true at new = absurd (new (subst (λ z. Contains (z ∷ facts_in es) (fact_view x)) (same_view x e.0 at) (contains_first (fact_view x) (facts_in es))))
put_by x c e es false at new = refl

pub put_last : (x : Fact) (c : Cause) (es : Entries) → (Contains (facts_in es) (fact_view x) → ⊥) → insert_entry is_same es x c ≡ es ++ (x, c) ∷ []
put_last x c [] new = refl
put_last x c (e ∷ es) new =
    ap (λ l. cond (is_same x e.0) ((e.0, c) ∷ es) (e ∷ l)) (put_last x c es (λ h. new (contains_later (fact_view e.0) (fact_view x) (facts_in es) h)))
    ∙ put_by x c e es (is_same x e.0) refl new

-- one more, unless it is there
first_cause : (x : Fact) (c : Cause) (e : Fact × Cause) (es : Entries) (b : Bool) → is_same x e.0 ≡ b → (is_some (lookup (is_same x) es) ≡ true → insert_entry is_same es x (unwrap_or (lookup (is_same x) es) c) ≡ es)
    → is_some (cond b (Some e.1) (lookup (is_same x) es)) ≡ true → cond b ((e.0, unwrap_or (cond b (Some e.1) (lookup (is_same x) es)) c) ∷ es) (e ∷ insert_entry is_same es x (unwrap_or (cond b (Some e.1) (lookup (is_same x) es)) c)) ≡ e ∷ es
first_cause x c e es true at rest there = refl
first_cause x c e es false at rest there = ap (λ l. e ∷ l) (rest there)

pub put_known : (x : Fact) (c : Cause) (es : Entries) → is_some (lookup (is_same x) es) ≡ true → insert_entry is_same es x (unwrap_or (lookup (is_same x) es) c) ≡ es
put_known x c [] there = (cc)
put_known x c (e ∷ es) there = first_cause x c e es (is_same x e.0) refl (put_known x c es) there

-- what an entry is given, where it keeps the cause that stands there
pub put_old : (x : Fact) (c w : Cause) (es new : Entries) → new ≡ insert_entry is_same es x w → w ≡ unwrap_or (lookup (is_same x) es) c → Contains (facts_in es) (fact_view x) → new ≡ es
put_old x c w es new made value there = made ∙ ap (insert_entry is_same es x) value ∙ put_known x c es (contains_found x es there)

unwrap_none : (o : Option Cause) (c : Cause) → (is_some o ≡ true → ⊥) → unwrap_or o c ≡ c
unwrap_none None c none = refl
unwrap_none (Some d) c none = absurd (none refl)

pub put_new : (x : Fact) (c w : Cause) (es new : Entries) → new ≡ insert_entry is_same es x w → w ≡ unwrap_or (lookup (is_same x) es) c → (Contains (facts_in es) (fact_view x) → ⊥) → new ≡ es ++ (x, c) ∷ []
put_new x c w es new made value unnoted =
    made ∙ ap (insert_entry is_same es x) (value ∙ unwrap_none (lookup (is_same x) es) c (λ some. unnoted (found_contains x es some))) ∙ put_last x c es unnoted

-- ---- a sort

not_lower : (k l : Key) (o : Ordering) → key_cmp k l ≡ o → is_lt (key_cmp l k) ≡ false → (k ≡ l → ⊥) → key_cmp k l ≡ Less
not_lower k l Less e h differ = e
not_lower k l Equal e h differ = absurd (differ (path_same k l e))
not_lower k l Greater e h differ = absurd (true_false (is_lt (key_cmp l k)) (ap is_lt (turned k l e)) h)

later_sorted : (e f : Fact × Cause) (es : Entries) → IsSorted fact_order (keys_of (e ∷ f ∷ es)) → IsSorted fact_order (keys_of (f ∷ es))
later_sorted e f es sorted k d low high =
    let up : suc k + 1 ≡ suc (k + 1) = omega arith in
    let within : suc k + 1 < length (keys_of (e ∷ f ∷ es)) = omega (arith, high) in
    subst (λ m. is_lt (fact_order (get_or (keys_of (e ∷ f ∷ es)) m d) (get_or (keys_of (f ∷ es)) k d)) ≡ false) up (sorted (suc k) d (omega arith) within)

-- facts that a sort has put in order, each once, ascend
pub sorted_ascends : (es : Entries) → IsSorted fact_order (keys_of es) → NoRepeats (facts_in es) → Ascends fact_key (facts_in es)
sorted_ascends [] sorted distinct = tt
sorted_ascends (e ∷ []) sorted distinct = ((λ y h. absurd (contains_nothing y h)), tt)
sorted_ascends (e ∷ f ∷ es) sorted distinct =
    let rest : Ascends fact_key (facts_in (f ∷ es)) = sorted_ascends (f ∷ es) (later_sorted e f es sorted) distinct.1 in
    let next : key_cmp (key_of e.0) (key_of f.0) ≡ Less =
    not_lower (key_of e.0) (key_of f.0) (key_cmp (key_of e.0) (key_of f.0)) refl (sorted 0 e.0 (omega arith) (omega arith))
    (λ same. distinct.0 (subst (λ z. Contains (z ∷ facts_in es) (fact_view e.0)) (fact_key-IsKey (fact_view e.0) (fact_view f.0) same) (contains_first (fact_view e.0) (facts_in es)))) in (
      (λ y h. elim (contains_cases (fact_view f.0) y (facts_in es) h) [
        | inl same ↦ subst (λ z. key_cmp (key_of e.0) (fact_key z) ≡ Less) same next
        | inr later ↦ path_total.trans (key_of e.0) (key_of f.0) (fact_key y) next (rest.0 y later)
      ]),
      rest,
    )

-- a permutation has the same members
pub permuted_within : (es fs : Entries) → IsPermutation es fs → IsWithin (reasons_in es) (reasons_in fs)
permuted_within es fs moved r h = let p = contains_map reason_of es r h in subst (Contains (reasons_in fs)) p.2 (map_contains reason_of fs p.0 (Contains-permutation es fs p.0 moved p.1))
