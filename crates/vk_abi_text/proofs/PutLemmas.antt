-- Lines that are put one after the other stand in order.
use Rattle.std.proofs.Common.{◌≡◌, ◌<◌, ◌≤◌, ◌+◌, ◌++◌, ◌∷◌, ℕ, List, [], get_or, length, map, take, inl, inr, refl, ap, sym, ◌∙◌, subst, append_assoc}
use Rattle.std.specs.Prelude.{Err, Ok, OnOk, Result}
use Rattle.std.specs.declared.cmp.Ordering.{Ordering}
use Rattle.std.specs.declared.cmp.Ordering.TheVariants.{Less, Equal, Greater}
use Rattle.std.specs.BTreeSet.{insert_key}
use Rattle.std.specs.Cmp.Lexicographic.{slice_cmp}
use Rattle.std.specs.List.{All, Contains}
use Rattle.std.proofs.lemmas.List.Elements.{All-append, All-cons, All-nil}
use Rattle.std.specs.Ordering.{match_ordering, nat_cmp, ordering_then}
use Rattle.std.proofs.lemmas.List.{append-nil}
use Rattle.std.proofs.lemmas.List.{map-append, take_all, take_more}
use Rattle.vk_resolution.specs.Keys.{in_order, key_cmp, put_by, put_in}
use Rattle.vk_resolution.proofs.Orders.{ascending_one, contains-in_order, in_order-ascends, in_order-contains}
use Rattle.vk_resolution.proofs.Members.{contains_single}
use Rattle.vk_spec.proofs.ListLemmas.{contains_cases, contains_first, contains_later}
use Rattle.vk_abi_text.specs.Inputs.{Input}
use Rattle.vk_abi_text.specs.Lines.{AbiLine, builder_line, dep_line, feature_line, file_line, line_text, native_line, port_line, text_key, texts_of, triplet_line, version_line}
use Rattle.vk_abi_text.specs.Puts.{Puts, single_lines}
use Rattle.vk_abi_text.specs.Same.{HaveSame}
use Rattle.vk_abi_text.proofs.SameTexts.{text_is_key}
use Rattle.vk_abi_text.proofs.Selections.{in_back, in_either, in_front}

abbrev pub bytes_cmp : List ℕ → List ℕ → Ordering
bytes_cmp = slice_cmp nat_cmp

then_equal : (o : Ordering) → ordering_then o Equal ≡ o
then_equal Less = refl
then_equal Equal = refl
then_equal Greater = refl

-- texts are compared by their bytes
pub one_part : (a b : List ℕ) → key_cmp (text_key a) (text_key b) ≡ bytes_cmp a b
one_part a b = then_equal (bytes_cmp a b)

same_by : (o : Ordering) (k x : List ℕ) (xs later other : List (List ℕ)) → later ≡ other → match_ordering o (k ∷ x ∷ xs) (x ∷ xs) (x ∷ later) ≡ put_by o k x xs other
same_by Less k x xs later other e = refl
same_by Equal k x xs later other e = refl
same_by Greater k x xs later other e = ap (λ l. x ∷ l) e

inserted : (xs : List (List ℕ)) (k : List ℕ) → insert_key bytes_cmp xs k ≡ put_in text_key k xs
inserted [] k = refl
inserted (x ∷ xs) k =
    same_by (bytes_cmp k x) k x xs (insert_key bytes_cmp xs k) (put_in text_key k xs) (inserted xs k)
    ∙ ap (λ o. put_by o k x xs (put_in text_key k xs)) (sym (one_part k x))

-- lists with the same members are one list in order
pub same_order : (xs ys : List (List ℕ)) → HaveSame xs ys → in_order text_key xs ≡ in_order text_key ys
same_order xs ys same =
    ascending_one text_key (in_order text_key xs) (in_order text_key ys) (in_order-ascends text_key xs) (in_order-ascends text_key ys)
    (λ z h. in_order-contains text_key text_is_key ys z ((same z).0 (contains-in_order text_key xs z h)))
    (λ z h. in_order-contains text_key text_is_key xs z ((same z).1 (contains-in_order text_key ys z h)))

put_last : (x : List ℕ) (xs : List (List ℕ)) → HaveSame (x ∷ xs) (xs ++ x ∷ [])
put_last x xs z = (
  (λ h. elim (contains_cases x z xs h) [
    | inl is ↦ in_back xs (x ∷ []) z (subst (Contains (x ∷ [])) is (contains_first x []))
    | inr later ↦ in_front xs (x ∷ []) z later
  ]),
  (λ h. elim (in_either xs (x ∷ []) z h) [
    | inl front ↦ contains_later x z xs front
    | inr last ↦ subst (Contains (x ∷ xs)) (contains_single x z last) (contains_first x xs)
  ]),
)

pub put_one : (old new : List (List ℕ)) (k : List ℕ) → new ≡ insert_key bytes_cmp old k → Puts (k ∷ []) old new
put_one old new k e = record {
  puts = λ texts is. e ∙ ap (λ l. insert_key bytes_cmp l k) is ∙ inserted (in_order text_key texts) k ∙ same_order (k ∷ texts) (texts ++ k ∷ []) (put_last k texts);
}

pub put_none : (old : List (List ℕ)) → Puts [] old old
put_none old = record { puts = λ texts is. is ∙ ap (in_order text_key) (sym (append-nil texts)) }

pub put_then : (one other old mid new : List (List ℕ)) → Puts one old mid → Puts other mid new → Puts (one ++ other) old new
put_then one other old mid new first second = record {
  puts = λ texts is. second.puts (texts ++ one) (first.puts texts is) ∙ ap (in_order text_key) (append_assoc texts one other);
}

-- the texts of the lines of some values
abbrev pub texts_by : {A B : Type 0} → (A → B) → (B → AbiLine) → List A → List (List ℕ)
texts_by view make xs = map line_text (map make (map view xs))

texts_append : {A B : Type 0} (view : A → B) (make : B → AbiLine) (xs ys : List A) → texts_by view make (xs ++ ys) ≡ texts_by view make xs ++ texts_by view make ys
texts_append view make xs ys =
    ap (λ l. map line_text (map make l)) (map-append view xs ys)
    ∙ ap (map line_text) (map-append make (map view xs) (map view ys))
    ∙ map-append line_text (map make (map view xs)) (map make (map view ys))

module _ {A B : Type 0} (view : A → B) (make : B → AbiLine) (xs : List A) (n : ℕ) where
  -- one more of a list
  pub put_next : (x : A) (t : List ℕ) (old mid new : List (List ℕ)) → n < length xs → x ≡ get_or xs n x → Puts (texts_by view make (take n xs)) old mid → Puts (t ∷ []) mid new → t ≡ line_text (make (view x))
      → Puts (texts_by view make (take (n + 1) xs)) old new
  put_next x t old mid new within is first second same =
      let longer : take (n + 1) xs ≡ take n xs ++ x ∷ [] = take_more xs n x within ∙ ap (λ y. take n xs ++ y ∷ []) (sym is) in
      let texts : texts_by view make (take n xs) ++ t ∷ [] ≡ texts_by view make (take (n + 1) xs) =
      ap (λ u. texts_by view make (take n xs) ++ u ∷ []) same ∙ sym (texts_append view make (take n xs) (x ∷ [])) ∙ ap (texts_by view make) (sym longer) in
      subst (λ l. Puts l old new) texts (put_then (texts_by view make (take n xs)) (t ∷ []) old mid new first second)

  pub put_all : (old new : List (List ℕ)) → length xs ≤ n → Puts (texts_by view make (take n xs)) old new → Puts (texts_by view make xs) old new
  put_all old new ends put = subst (λ l. Puts (texts_by view make l) old new) (take_all n xs ends) put

-- what the first ones of a list keep, and one more of them
module _ {A B : Type 0} (view : A → B) (P : B → Type 0) (xs : List A) (n : ℕ) where
  pub right_next : (x : A) → n < length xs → x ≡ get_or xs n x → All P (map view (take n xs)) → P (view x) → All P (map view (take (n + 1) xs))
  right_next x within is all one =
      let longer : take (n + 1) xs ≡ take n xs ++ x ∷ [] = take_more xs n x within ∙ ap (λ y. take n xs ++ y ∷ []) (sym is) in
      subst (All P) (sym (ap (map view) longer ∙ map-append view (take n xs) (x ∷ [])))
      (All-append P (map view (take n xs)) (view x ∷ []) all (All-cons P (view x) [] one (All-nil P)))

  pub right_all : length xs ≤ n → All P (map view (take n xs)) → All P (map view xs)
  right_all ends all = subst (λ l. All P (map view l)) (take_all n xs ends) all

-- one of five
pub put_same : (t u : List ℕ) (old new : List (List ℕ)) → Puts (t ∷ []) old new → t ≡ u → Puts (u ∷ []) old new
put_same t u old new put is = subst (λ x. Puts (x ∷ []) old new) is put

-- all lines of an input, put into nothing
pub put_lines : (i : Input) (none a b c d : List (List ℕ)) → none ≡ [] → Puts (map line_text (single_lines i)) none a → Puts (map line_text (map dep_line i.deps)) a b → Puts (map line_text (map feature_line i.features)) b c
    → Puts (map line_text (map file_line i.files)) c d → d ≡ texts_of i
put_lines i none a b c d empty one two three four =
    let puts = put_then _ _ none a d one (put_then _ _ a c d (put_then _ _ a b c two three) four) in
    puts.puts [] empty ∙ ap (in_order text_key)
    (ap (λ l. map line_text (single_lines i) ++ l)
    (ap (λ l. l ++ map line_text (map file_line i.files)) (sym (map-append line_text (map dep_line i.deps) (map feature_line i.features)))
    ∙ sym (map-append line_text (map dep_line i.deps ++ map feature_line i.features) (map file_line i.files))))

-- the five lines of which there is one each, put one after the other
pub put_five : {E : Type 0} (r : Result (Unit {0}) E) (i : Input) (b n p t v : List ℕ) (old k1 k2 k3 k4 new : List (List ℕ))
    → b ≡ line_text (builder_line i.builder) → n ≡ line_text (native_line i.native) → p ≡ line_text (port_line i.port) → t ≡ line_text (triplet_line i.triplet i.triplet_digest) → v ≡ line_text (version_line i.version)
    → Puts (b ∷ []) old k1 → Puts (n ∷ []) k1 k2 → Puts (p ∷ []) k2 k3 → Puts (t ∷ []) k3 k4 → OnOk r (Puts (v ∷ []) k4 new) → OnOk r (Puts (map line_text (single_lines i)) old new)
put_five (Ok u) i b n p t v old k1 k2 k3 k4 new eb en ep et ev one two three four five =
    put_then _ _ old k1 new (put_same b _ old k1 one eb)
    (put_then _ _ k1 k2 new (put_same n _ k1 k2 two en)
    (put_then _ _ k2 k3 new (put_same p _ k2 k3 three ep)
    (put_then _ _ k3 k4 new (put_same t _ k3 k4 four et) (put_same v _ k4 new five ev))))
put_five (Err e) i b n p t v old k1 k2 k3 k4 new eb en ep et ev one two three four five = tt
