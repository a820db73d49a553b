-- A level's end, and one line more.
use Rattle.std.proofs.Common.{◌≡◌, ◌+◌, ◌<◌, ◌≤◌, ℕ, Bool, zero, suc, true, false, refl, List, [], ◌∷◌, ◌++◌, take, drop, inl, inr, ap, sym, ◌∙◌, subst, arith}
use Rattle.std.specs.Prelude.{Option, Some, None, IfSome, slice_get, length}
use Rattle.std.specs.Map.{keys_of}
use Rattle.std.specs.List.{Contains, IsDistinct, AllByRecursion}
use Rattle.std.specs.List.Sorted.{IsPermutation}
use Rattle.std.proofs.lemmas.List.{map-append, take-append-drop, take-append-le, length-map}
use Rattle.std.proofs.lemmas.List.Elements.{Contains-append_left, Contains-append_right}
use Rattle.std.proofs.lemmas.List.Sorted.{IsPermutation-sym, IsPermutation-map}
use Rattle.std.specs.Cmp.{on_equiv}
use Rattle.std.specs.Cmp.Lexicographic.{lists_equiv, nat_list_eq_equiv}
use Rattle.indexmap.proofs.MapLemmas.{distinct_permutation}
use Rattle.vk_spec.specs.Lists.{NoRepeats, IsWithin}
use Rattle.vk_spec.specs.Settings.{Setting}
use Rattle.vk_spec.proofs.ListLemmas.{contains_nothing, contains_first, contains_later, contains_cases, no_repeats_append}
use Rattle.vk_resolution.specs.Givens.{Pages}
use Rattle.vk_resolution.specs.Asking as plain
use Rattle.vk_resolution.specs.Reasons.{Reason, facts_of}
use Rattle.vk_resolution.specs.Closing.{Produces, IsTooMuch, IsClosing}
use Rattle.vk_resolution.specs.Closures.{HasTooManyFacts}
use Rattle.vk_resolution.specs.Planner.{inputs_of}
use Rattle.vk_resolution.proofs.Members.{true_false}
use Rattle.vk_resolution.proofs.ClosingLemmas.{closing_more, closing_forced, facts_within}
use Rattle.vk_model.specs.declared.facts.Fact.{Fact}
use Rattle.vk_model.specs.declared.reasons.Cause.{Cause}
use Rattle.vk_model.specs.FactViews.{fact_view}
use Rattle.vk_model.specs.FactKeys.{key_of}
use Rattle.vk_worklist.specs.Alone.{Follows}
use Rattle.vk_worklist.specs.Entries.{reason_of, reasons_in, facts_in, IsNoted, IsNextLevel}
use Rattle.vk_worklist.specs.Arranged.{IsArranged, IsPutInOrder}
use Rattle.vk_worklist.specs.Orders.{is_same}
use Rattle.vk_worklist.proofs.MapLemmas.{Entries, same_view, view_same, sorted_ascends, permuted_within}
use Rattle.vk_worklist.proofs.ArrangeLemmas.{behind_sorted}
use Rattle.vk_worklist.proofs.NoteLemmas.{facts_split, noted_behind, much_behind}

-- ---- a level's end

-- the keys of a map are facts without repeats
differs : (x : Fact) (es : Entries) → AllByRecursion (λ y. is_same x y ≡ false) (keys_of es) → Contains (facts_in es) (fact_view x) → ⊥
differs x [] each held = contains_nothing (fact_view x) held
differs x (e ∷ es) each held =
    elim (contains_cases (fact_view e.0) (fact_view x) (facts_in es) held) [
      | inl same ↦ true_false (is_same x e.0) (view_same x e.0 (sym same)) each.0
      | inr later ↦ differs x es each.1 later
    ]

unique_distinct : (es : Entries) → IsDistinct is_same (keys_of es) → NoRepeats (facts_in es)
unfolding IsDistinct
unique_distinct [] unique = tt
unique_distinct (e ∷ es) unique = (differs e.0 es unique.0, unique_distinct es unique.1)

apart_keys : (x : Fact) (es : Entries) → (Contains (facts_in es) (fact_view x) → ⊥) → AllByRecursion (λ y. is_same x y ≡ false) (keys_of es)
apart_keys x [] apart = tt
apart_keys x (e ∷ es) apart = (
  apart_key (is_same x e.0) refl,
  apart_keys x es (λ h. apart (contains_later (fact_view e.0) (fact_view x) (facts_in es) h)),
)
  where
    apart_key : (b : Bool) → is_same x e.0 ≡ b → is_same x e.0 ≡ false
    apart_key true h = absurd (apart (subst (λ z. Contains (z ∷ facts_in es) (fact_view x)) (same_view x e.0 h) (contains_first (fact_view x) (facts_in es))))
    apart_key false h = h

distinct_unique : (es : Entries) → NoRepeats (facts_in es) → IsDistinct is_same (keys_of es)
unfolding IsDistinct
distinct_unique [] distinct = tt
distinct_unique (e ∷ es) distinct = (apart_keys e.0 es distinct.0, distinct_unique es distinct.1)

-- entries that change places repeat no fact
moved_distinct : (es fs : Entries) → IsPermutation es fs → NoRepeats (facts_in es) → NoRepeats (facts_in fs)
moved_distinct es fs moved distinct = unique_distinct fs (distinct_permutation (on_equiv key_of (lists_equiv nat_list_eq_equiv)) (keys_of es) (keys_of fs) (IsPermutation-map (λ e. e.0) es fs moved) (distinct_unique es distinct))

pub first_distinct : {X : Type 0} (xs ys : List X) → NoRepeats (xs ++ ys) → NoRepeats xs
first_distinct [] ys each = tt
first_distinct (x ∷ xs) ys each = ((λ h. each.0 (Contains-append_left xs ys x h)), first_distinct xs ys each.1)

last_distinct : {X : Type 0} (xs ys : List X) → NoRepeats (xs ++ ys) → NoRepeats ys
last_distinct [] ys each = each
last_distinct (x ∷ xs) ys each = last_distinct xs ys each.1

parts_apart : {X : Type 0} (xs ys : List X) → NoRepeats (xs ++ ys) → (y : X) → Contains ys y → Contains xs y → ⊥
parts_apart [] ys each y h held = contains_nothing y held
parts_apart (x ∷ xs) ys each y h held =
    elim (contains_cases x y xs held) [
      | inl same ↦ each.0 (subst (Contains (xs ++ ys)) (sym same) (Contains-append_right xs ys y h))
      | inr later ↦ parts_apart xs ys each.1 y h later
    ]

-- the fresh entries, sorted, stand behind the lines
pub record IsAdded (lines fresh sorted new : Entries) : Type 0 where
  pub behind : new ≡ lines ++ sorted
  pub level : IsNextLevel (reasons_in lines) (reasons_in fresh) (reasons_in new)
  pub distinct : NoRepeats (facts_in new)

-- by way of entries that change places
pub level_of : (settled : ℕ) (old new : Entries) → NoRepeats (facts_in old) → IsPutInOrder settled old new → IsAdded (take settled old) (drop settled old) (drop settled new) new
level_of settled old new each put =
    let arranged : IsArranged settled old new = put.arranged in
    let lines : Entries = take settled old in
    let fresh : Entries = drop settled old in
    let sorted : Entries = drop settled new in
    let apart : NoRepeats (facts_in lines ++ facts_in fresh) = subst NoRepeats (facts_split lines fresh old (sym (take-append-drop settled old))) each in
    let distinct : NoRepeats (facts_in sorted) = moved_distinct fresh sorted arranged.moved (last_distinct (facts_in lines) (facts_in fresh) apart) in
    let from : IsWithin (reasons_in sorted) (reasons_in fresh) = permuted_within sorted fresh (IsPermutation-sym fresh sorted arranged.moved) in
    let unknown : (x : plain.Fact) → Contains (facts_in sorted) x → Contains (facts_in lines) x → ⊥ = λ x h held. parts_apart (facts_in lines) (facts_in fresh) apart x (facts_within (reasons_in sorted) (reasons_in fresh) from x h) held in
    let behind : new ≡ lines ++ sorted = sym (take-append-drop settled new) ∙ ap (λ l. l ++ sorted) arranged.kept in
    record {
      behind = behind;
      level = record {
        sorted = reasons_in sorted;
        behind = ap reasons_in behind ∙ map-append reason_of lines sorted;
        to = permuted_within fresh sorted arranged.moved;
        from = from;
        distinct = distinct;
        ascends = sorted_ascends sorted (behind_sorted settled new put.order) distinct;
      };
      distinct = subst NoRepeats (sym (facts_split lines sorted new behind))
          (no_repeats_append (facts_in lines) (facts_in sorted) (first_distinct (facts_in lines) (facts_in fresh) apart) distinct (λ x held h. unknown x h held));
    }

-- ---- one line more

-- behind the lines stand others
module _ (lines fresh all : Entries) (split : all ≡ lines ++ fresh) where
  pub front_facts : (n : ℕ) → n ≤ length lines → take n (facts_in all) ≡ take n (facts_in lines)
  front_facts n within =
      ap (take n) (facts_split lines fresh all split)
      ∙ take-append-le n (facts_in lines) (facts_in fresh) (subst (λ m. n ≤ m) (sym (length-map (reasons_in lines) (λ (r : Reason). r.fact) ∙ length-map lines reason_of)) within)

  pub front_line : (n : ℕ) (y : plain.Fact) → n < length lines → take (n + 1) (facts_in all) ≡ take n (facts_in all) ++ y ∷ [] → take (n + 1) (facts_in lines) ≡ take n (facts_in lines) ++ y ∷ []
  front_line n y within next = sym (front_facts (n + 1) (omega (arith, within))) ∙ next ∙ ap (λ l. l ++ y ∷ []) (front_facts n (omega (arith, within)))

-- the lines up to that at hand, and those behind it
pub line_whole : (facts : List plain.Fact) (n : ℕ) (y : plain.Fact) → take (n + 1) facts ≡ take n facts ++ y ∷ [] → (take n facts ++ y ∷ []) ++ drop (n + 1) facts ≡ facts
line_whole facts n y next = ap (λ l. l ++ drop (n + 1) facts) (sym next) ∙ take-append-drop (n + 1) facts

stands : (lines : List Reason) (n : ℕ) (y : plain.Fact) → take (n + 1) (facts_of lines) ≡ take n (facts_of lines) ++ y ∷ [] → Contains (facts_of lines) y
stands lines n y next =
    subst (λ l. Contains l y) (line_whole (facts_of lines) n y next)
    (Contains-append_left (take n (facts_of lines) ++ y ∷ []) (drop (n + 1) (facts_of lines)) y (Contains-append_right (take n (facts_of lines)) (y ∷ []) y (contains_first y [])))

-- what stands on a line follows from the root facts
pub line_follows : (o : Option Pages) (s : Setting) (lines fresh all : Entries) (n : ℕ) (y : plain.Fact) → all ≡ lines ++ fresh → n < length lines → take (n + 1) (facts_in all) ≡ take n (facts_in all) ++ y ∷ []
    → IfSome o (λ pages. IsClosing (inputs_of s pages) (reasons_in lines) (take n (facts_in lines)) (reasons_in fresh)) → IfSome o (λ pages. Follows (inputs_of s pages) y)
line_follows None s lines fresh all n y split within next was = tt
line_follows (Some pages) s lines fresh all n y split within next was = (was.work.rank, was.work.ordered.level.sound y (stands (reasons_in lines) n y (front_line lines fresh all split n y within next)))

pub one_more : (o : Option Pages) (s : Setting) (lines fresh all brought new : Entries) (n : ℕ) (y : plain.Fact) → all ≡ lines ++ fresh → n < length lines → take (n + 1) (facts_in all) ≡ take n (facts_in all) ++ y ∷ []
    → IfSome o (λ pages. IsClosing (inputs_of s pages) (reasons_in lines) (take n (facts_in lines)) (reasons_in fresh))
    → IfSome o (λ pages. Produces (inputs_of s pages) (take n (facts_in all)) y (reasons_in brought)) → (noted : IsNoted all brought new)
    → IfSome o (λ pages. IsClosing (inputs_of s pages) (reasons_in lines) (take (n + 1) (facts_in lines)) (reasons_in (fresh ++ noted.more)))
one_more None s lines fresh all brought new n y split within next was produces noted = tt
one_more (Some pages) s lines fresh all brought new n y split within next was produces noted =
    let at : take (n + 1) (facts_in lines) ≡ take n (facts_in lines) ++ y ∷ [] = front_line lines fresh all split n y within next in
    subst (λ l. IsClosing (inputs_of s pages) (reasons_in lines) l (reasons_in (fresh ++ noted.more))) (sym at)
    (closing_more (inputs_of s pages) (reasons_in lines) (take n (facts_in lines)) (drop (n + 1) (facts_in lines)) (reasons_in fresh) y (reasons_in brought) (reasons_in (fresh ++ noted.more)) (line_whole (facts_in lines) n y at) was
    (subst (λ l. Produces (inputs_of s pages) l y (reasons_in brought)) (front_facts lines fresh all split n (omega (arith, within))) produces) (noted_behind lines fresh all brought new split noted))

pub one_forced : (o : Option Pages) (s : Setting) (lines fresh all brought : Entries) (n : ℕ) (y : plain.Fact) (most : ℕ) → all ≡ lines ++ fresh → n < length lines → take (n + 1) (facts_in all) ≡ take n (facts_in all) ++ y ∷ []
    → IfSome o (λ pages. IsClosing (inputs_of s pages) (reasons_in lines) (take n (facts_in lines)) (reasons_in fresh))
    → IfSome o (λ pages. Produces (inputs_of s pages) (take n (facts_in all)) y (reasons_in brought)) → s.max_facts ≡ most → IsTooMuch (facts_in all) (reasons_in brought) [] most
    → IfSome o (λ pages. HasTooManyFacts (inputs_of s pages))
one_forced None s lines fresh all brought n y most split within next was produces limit much = tt
one_forced (Some pages) s lines fresh all brought n y most split within next was produces limit much =
    closing_forced (inputs_of s pages) (reasons_in lines) (take n (facts_in lines)) (reasons_in fresh) y (reasons_in brought) (stands (reasons_in lines) n y (front_line lines fresh all split n y within next)) was
    (subst (λ l. Produces (inputs_of s pages) l y (reasons_in brought)) (front_facts lines fresh all split n (omega (arith, within))) produces)
    (subst (IsTooMuch (facts_in lines) (reasons_in brought) (reasons_in fresh)) (sym limit) (much_behind lines fresh all brought most split much))

-- the next line is taken up behind those before it
next_line : (es : Entries) (n : ℕ) (e : Fact × Cause) → slice_get es n ≡ Some e → take (suc n) (facts_in es) ≡ take n (facts_in es) ++ fact_view e.0 ∷ []
next_line [] n e at = (cc)
next_line (f ∷ es) zero e at = let same : f ≡ e = (cc) in ap (λ z. fact_view z.0 ∷ []) same
next_line (f ∷ es) (suc n) e at = ap (λ l. fact_view f.0 ∷ l) (next_line es n e at)

pub next_at : (es : Entries) (n : ℕ) (e : Fact × Cause) → slice_get es n ≡ Some e → take (n + 1) (facts_in es) ≡ take n (facts_in es) ++ fact_view e.0 ∷ []
next_at es n e at = let up : suc n ≡ n + 1 = omega arith in subst (λ m. take m (facts_in es) ≡ take n (facts_in es) ++ fact_view e.0 ∷ []) up (next_line es n e at)
