-- Rows after a write, and rows in order.
use Rattle.std.proofs.Common.{◌≡◌, ◌⊎◌, ◌+◌, ℕ, inl, inr, Bool, true, false, cond, get_or, arith, List, [], ◌∷◌, ◌++◌, refl, ap, sym, ◌∙◌, subst}
use Rattle.std.specs.Prelude.{Some, None, IsSorted, bytes_eq}
use Rattle.std.specs.declared.cmp.Ordering.{Ordering}
use Rattle.std.specs.declared.cmp.Ordering.TheVariants.{Less, Equal, Greater}
use Rattle.std.specs.Ordering.{is_lt, nat_cmp, ordering_reverse}
use Rattle.std.specs.Cmp.{IsTotalOrder, nat_cmp_total, tied_itself}
use Rattle.std.specs.Cmp.Lexicographic.{slice_cmp, lists_total}
use Rattle.std.specs.FinMap.{IsAntisymmetric, slice_cmp-IsAntisymmetric, nat_cmp-IsAntisymmetric}
use Rattle.std.specs.List.{Contains, AllByRecursion, IsDistinct}
use Rattle.std.specs.List.Sorted.{IsStrictlySortedBy}
use Rattle.std.specs.Map.{keys_of, lookup}
use Rattle.std.proofs.lemmas.List.{append-nil}
use Rattle.std.proofs.lemmas.Map.Keys.{apart_from_distinct, sorted_from_all_adjacent, sorted_head, sorted_tail}
use Rattle.std.proofs.lemmas.Slice.Eq.{bytes_eq-Decides}
use Rattle.vk_spec.proofs.ListLemmas.{contains_nothing, contains_first, contains_later, contains_cases}
use Rattle.vk_resolution.proofs.Members.{map_contains}
use Rattle.vk_choices.specs.Rows.{Rows, row_of, in_row, listed_of, NoneIsEmpty, AreInOrder, HasOneMore}

pub bytes_total : IsTotalOrder (slice_cmp nat_cmp)
bytes_total = lists_total nat_cmp_total

pub bytes_same : IsAntisymmetric (slice_cmp nat_cmp)
bytes_same = slice_cmp-IsAntisymmetric nat_cmp-IsAntisymmetric

-- ---- one thing more

-- of the port this is listed now, and of all others what was
abbrev pub IsWritten : {T : Type 0} → Rows T → List ℕ → List T → Rows T → Type 0
IsWritten old port xs new = (p : List ℕ) → row_of new p ≡ cond (bytes_eq port p) (Some xs) (row_of old p)

not_empty : {T : Type 0} (xs : List T) (x : T) → xs ++ x ∷ [] ≡ [] → ⊥
not_empty [] x e = (cc)
not_empty (y ∷ xs) x e = (cc)

module _ {T : Type 0} (old new : Rows T) (port : List ℕ) (x : T) where
  abbrev row : List T
  row = listed_of old port ++ x ∷ []

  more_by : (p : List ℕ) (b : Bool) → bytes_eq port p ≡ b → row_of new p ≡ cond b (Some row) (row_of old p) → listed_of new p ≡ listed_of old p ++ cond b (x ∷ []) []
  more_by p true same is = ap in_row is ∙ ap (λ q. listed_of old q ++ x ∷ []) ((bytes_eq-Decides port p).0 same)
  more_by p false other is = ap in_row is ∙ sym (append-nil (listed_of old p))

  some_by : (p : List ℕ) (b : Bool) → row_of new p ≡ cond b (Some row) (row_of old p) → NoneIsEmpty old → listed_of new p ≡ [] → row_of new p ≡ None
  some_by p true is some e = absurd (not_empty (listed_of old port) x (sym (ap in_row is) ∙ e))
  some_by p false is some e = is ∙ some p (sym (ap in_row is) ∙ e)

  pub one_more : IsWritten old port row new → HasOneMore port x old new
  one_more is = record {
    listed = λ p. more_by p (bytes_eq port p) refl (is p);
    some = λ some p e. some_by p (bytes_eq port p) (is p) some e;
  }

-- ---- in order

below_by : (a b : List ℕ) (o : Ordering) → slice_cmp nat_cmp a b ≡ o → is_lt (slice_cmp nat_cmp b a) ≡ false → bytes_eq a b ≡ false → o ≡ Less
below_by a b Less e above other = refl
below_by a b Equal e above other = let same : bytes_eq a b ≡ true = (bytes_eq-Decides a b).1 (bytes_same a b e) in (cc)
below_by a b Greater e above other = let less : slice_cmp nat_cmp b a ≡ Less = bytes_total.antisymm b a ∙ ap ordering_reverse e in let clash : true ≡ false = sym (ap is_lt less) ∙ above in (cc)

-- distinct ports that are sorted ascend
pub in_order : {T : Type 0} (rows : Rows T) → IsSorted (slice_cmp nat_cmp) (keys_of rows) → IsDistinct bytes_eq (keys_of rows) → AreInOrder rows
in_order rows sorted distinct =
    sorted_from_all_adjacent bytes_total (keys_of rows) [] (λ k l.
    let a = get_or (keys_of rows) k [] in
    let b = get_or (keys_of rows) (k + 1) [] in
    below_by a b (slice_cmp nat_cmp a b) refl (sorted k [] (omega arith) l) (apart_from_distinct bytes_eq (keys_of rows) k (k + 1) [] distinct (omega arith) l))

pub each_of : {X : Type 0} (P : X → Type 0) (xs : List X) (x : X) → AllByRecursion P xs → Contains xs x → P x
each_of P [] x all h = absurd (contains_nothing x h)
each_of P (y ∷ ys) x all h = elim (contains_cases y x ys h) [ inl same ↦ subst P same all.0 | inr later ↦ each_of P ys x all.1 later ]

pub are_apart : (p q : List ℕ) → slice_cmp nat_cmp p q ≡ Less → p ≡ q → ⊥
are_apart p q less same = let tie : slice_cmp nat_cmp p q ≡ Equal = subst (λ r. slice_cmp nat_cmp p r ≡ Equal) same (tied_itself bytes_total p) in (cc)

module _ {X : Type 0} (e : List ℕ × X) (es : List (List ℕ × X)) (ordered : IsStrictlySortedBy (slice_cmp nat_cmp) (keys_of (e ∷ es))) where
  -- the first port is below the others
  pub is_first : (q : List ℕ) → Contains (keys_of es) q → slice_cmp nat_cmp e.0 q ≡ Less
  is_first q h = each_of (λ r. slice_cmp nat_cmp e.0 r ≡ Less) (keys_of es) q (sorted_head (slice_cmp nat_cmp) e.0 (keys_of es) ordered) h

  -- and the others ascend
  pub others_ascend : IsStrictlySortedBy (slice_cmp nat_cmp) (keys_of es)
  others_ascend = sorted_tail (slice_cmp nat_cmp) e.0 (keys_of es) ordered

-- a port that isn't among them has no row
absent_by : {X : Type 0} (p : List ℕ) (e : List ℕ × X) (es : List (List ℕ × X)) (b : Bool) → bytes_eq p e.0 ≡ b → (Contains (keys_of (e ∷ es)) p → ⊥) → lookup (bytes_eq p) es ≡ None → cond b (Some e.1) (lookup (bytes_eq p) es) ≡ None
absent_by p e es true same new rest = absurd (new (subst (Contains (keys_of (e ∷ es))) (sym ((bytes_eq-Decides p e.0).0 same)) (contains_first e.0 (keys_of es))))
absent_by p e es false other new rest = rest

pub absent : {X : Type 0} (p : List ℕ) (es : List (List ℕ × X)) → (Contains (keys_of es) p → ⊥) → lookup (bytes_eq p) es ≡ None
absent p [] new = refl
absent p (e ∷ es) new = absent_by p e es (bytes_eq p e.0) refl new (absent p es (λ h. new (contains_later e.0 p (keys_of es) h)))

-- each row is that of its port
row_by : {T : Type 0} (d e : List ℕ × List T) (rows : Rows T) (b : Bool) → bytes_eq e.0 d.0 ≡ b → AreInOrder (d ∷ rows) → (d ≡ e) ⊎ Contains rows e → (Contains rows e → row_of rows e.0 ≡ Some e.1) → cond b (Some d.1) (row_of rows e.0) ≡ Some e.1
row_by d e rows true same ordered (inl is) rest = ap (λ x. Some x.1) is
row_by d e rows false other ordered (inl is) rest = let same : bytes_eq e.0 d.0 ≡ true = (bytes_eq-Decides e.0 d.0).1 (ap (λ x. x.0) (sym is)) in (cc)
row_by d e rows true same ordered (inr later) rest = absurd (are_apart d.0 e.0 (is_first d rows ordered e.0 (map_contains (λ x. x.0) rows e later)) (sym ((bytes_eq-Decides e.0 d.0).0 same)))
row_by d e rows false other ordered (inr later) rest = rest later

pub row_is : {T : Type 0} (rows : Rows T) → AreInOrder rows → (e : List ℕ × List T) → Contains rows e → row_of rows e.0 ≡ Some e.1
row_is [] ordered e h = absurd (contains_nothing e h)
row_is (d ∷ rows) ordered e h = row_by d e rows (bytes_eq e.0 d.0) refl ordered (contains_cases d e rows h) (row_is rows (others_ascend d rows ordered) e)
