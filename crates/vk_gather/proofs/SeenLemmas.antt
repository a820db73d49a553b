-- A sorted list of paths, each text once, is what is seen in a folder.
use Rattle.std.proofs.Common.{◌≡◌, ◌+◌, inl, inr, ℕ, suc, Bool, true, false, List, [], ◌∷◌, ◌++◌, length, map, drop, get_or, Ordering, refl, ap, sym, ◌∙◌, subst, arith}
use Rattle.std.specs.Prelude.{if◌then◌else◌}
use Rattle.std.specs.declared.cmp.Ordering.TheVariants.{Less, Equal, Greater}
use Rattle.std.specs.Ordering.{is_lt, is_eq, nat_cmp, ordering_reverse, ordering_then}
use Rattle.std.specs.Cmp.Lexicographic.{slice_cmp}
use Rattle.std.specs.FinMap.{slice_cmp-IsAntisymmetric, nat_cmp-IsAntisymmetric}
use Rattle.std.specs.List.{All, AllByRecursion, Contains}
use Rattle.std.specs.List.Sorted.{IsPermutation, IsSorted, IsStrictlySortedBy}
use Rattle.std.proofs.Math.Seq.{drop-append_seam}
use Rattle.std.proofs.lemmas.List.Elements.{Contains-get_or}
use Rattle.std.proofs.lemmas.Slice.Eq.{bytes_eq-Decides, starts_is}
use Rattle.std.proofs.lemmas.List.MinMax.{ranks_by}
use Rattle.std.proofs.lemmas.List.Sorted.{sorted_far, Contains-permutation, IsPermutation-sym}
use Rattle.vk_spec.specs.Paths.{Path}
use Rattle.vk_spec.proofs.ListLemmas.{contains_nothing, contains_first, contains_later, contains_cases}
use Rattle.vk_base.specs.Paths.{IsPath, begins, parts_of, text_of_path}
use Rattle.vk_tree.proofs.PlaceLemmas.{part_total}
use Rattle.vk_walk.specs.Walks.{AreSeen, text_order}
use Rattle.vk_resolution.specs.Keys.{Key, Ascends, in_order, key_cmp, put_by, put_in}
use Rattle.vk_resolution.proofs.Members.{contains_map}
use Rattle.vk_resolution.proofs.Orders.{ascending_one, contains-in_order, in_order-ascends, put_in-keeps}
use Rattle.vk_entry.proofs.SameTexts.{same_path}
use Rattle.vk_gather.specs.Gathers.{by_order, put_seen, seen_in}
use Rattle.vk_gather.specs.FilesToGather.{Follow, IsSeen}
use Rattle.vk_gather.specs.EachOnce.{each_once, put_first}

-- ---- the order of texts as one of keys

abbrev path_key : Path → Key
path_key p = text_of_path p ∷ []

then_nothing : (o : Ordering) → ordering_then o Equal ≡ o
then_nothing Less = refl
then_nothing Equal = refl
then_nothing Greater = refl

key_order : (p q : Path) → key_cmp (path_key p) (path_key q) ≡ text_order p q
key_order p q = then_nothing (text_order p q)

put_same : (o : Ordering) (p q : Path) (qs later : List Path) → by_order o (p ∷ q ∷ qs) (q ∷ qs) (q ∷ later) ≡ put_by o p q qs later
put_same Less p q qs later = refl
put_same Equal p q qs later = refl
put_same Greater p q qs later = refl

put_is : (p : Path) (qs : List Path) → put_seen p qs ≡ put_in path_key p qs
put_is p [] = refl
put_is p (q ∷ qs) =
    put_same (text_order p q) p q qs (put_seen p qs)
    ∙ ap (λ o. put_by o p q qs (put_seen p qs)) (sym (key_order p q))
    ∙ ap (λ l. put_by (key_cmp (path_key p) (path_key q)) p q qs l) (put_is p qs)

-- ---- a sorted list

later_tail : (p : Path) (ps : List Path) → IsSorted text_order (p ∷ ps) → IsSorted text_order ps
later_tail p ps sorted = λ k d low high. subst (λ (n : ℕ). is_lt (text_order (get_or (p ∷ ps) n d) (get_or ps k d)) ≡ false) {x = suc k + 1} {y = suc (k + 1)} (omega arith) (sorted (suc k) d (omega arith) (omega (arith, high)))

not_below : (p q : Path) (ps : List Path) → IsSorted text_order (p ∷ ps) → Contains ps q → is_lt (text_order q p) ≡ false
not_below p q ps sorted at =
    subst (λ r. is_lt (text_order r p) ≡ false) at.2
    (sorted_far (λ x y. is_lt (text_order x y)) (ranks_by part_total text_of_path) (p ∷ ps) sorted 0 (suc at.0) q (omega arith) (omega (arith, at.1)))

not_after : (p q : Path) → text_order p q ≡ Greater → is_lt (text_order q p) ≡ false → ⊥
not_after p q e test =
    let turned : text_order q p ≡ Less = part_total.antisymm (text_of_path q) (text_of_path p) ∙ ap ordering_reverse e in
    let clash : true ≡ false = sym (ap is_lt turned) ∙ test in (cc)

front_by : (o : Ordering) (p q : Path) (qs later : List Path) → (o ≡ Greater → ⊥) → (if is_eq o then q ∷ qs else p ∷ q ∷ qs) ≡ put_by o p q qs later
front_by Less p q qs later up = refl
front_by Equal p q qs later up = refl
front_by Greater p q qs later up = absurd (up refl)

front_is : (p : Path) (qs : List Path) → ((q : Path) → Contains qs q → is_lt (text_order q p) ≡ false) → put_first p qs ≡ put_in path_key p qs
front_is p [] up = refl
front_is p (q ∷ qs) up =
    front_by (text_order p q) p q qs (put_in path_key p qs) (λ e. not_after p q e (up q (contains_first q qs)))
    ∙ ap (λ o. put_by o p q qs (put_in path_key p qs)) (sym (key_order p q))

-- neighbours with one text are one, so they stand in order
sorted_once : (ps : List Path) → IsSorted text_order ps → each_once ps ≡ in_order path_key ps
sorted_once [] sorted = refl
sorted_once (p ∷ ps) sorted =
    ap (put_first p) (sorted_once ps (later_tail p ps sorted))
    ∙ front_is p (in_order path_key ps) (λ q at. not_below p q ps sorted (contains-in_order path_key ps q at))

-- ---- the paths that are seen

-- the paths that a folder begins, as they are seen from it
abbrev seen_list : Path → List Path → List Path
seen_list folder [] = []
seen_list folder (p ∷ ps) = if begins folder p then ((46 ∷ []) ∷ drop (length folder) p) ∷ seen_list folder ps else seen_list folder ps

by_test : (b : Bool) (p : Path) (qs : List Path) → (if b then put_seen p (in_order path_key qs) else in_order path_key qs) ≡ in_order path_key (if b then p ∷ qs else qs)
by_test true p qs = put_is p (in_order path_key qs)
by_test false p qs = refl

seen_is : (folder : Path) (found : List Path) → seen_in folder found ≡ in_order path_key (seen_list folder found)
seen_is folder [] = refl
seen_is folder (p ∷ ps) =
    ap (λ l. if begins folder p then put_seen ((46 ∷ []) ∷ drop (length folder) p) l else l) (seen_is folder ps)
    ∙ by_test (begins folder p) ((46 ∷ []) ∷ drop (length folder) p) (seen_list folder ps)

begun : (folder p : Path) → begins folder p ≡ true → p ≡ folder ++ drop (length folder) p
begun folder p is = (starts_is bytes_eq-Decides p folder (begins folder p) refl).0 is

begins_so : (folder p rest : Path) → p ≡ folder ++ rest → begins folder p ≡ true
begins_so folder p rest is = (starts_is bytes_eq-Decides p folder (begins folder p) refl).1 rest is

abbrev IsSeenOf : Path → List Path → Path → Type 0
IsSeenOf folder ps z = (rest : Path) × (z ≡ (46 ∷ []) ∷ rest) × Contains ps (folder ++ rest)

sound_by : (folder p z : Path) (ps : List Path) (b : Bool) → begins folder p ≡ b → (Contains (seen_list folder ps) z → IsSeenOf folder ps z)
    → Contains (if b then ((46 ∷ []) ∷ drop (length folder) p) ∷ seen_list folder ps else seen_list folder ps) z → IsSeenOf folder (p ∷ ps) z
sound_by folder p z ps true is rest at = elim (contains_cases ((46 ∷ []) ∷ drop (length folder) p) z (seen_list folder ps) at) [
  | inl same ↦ (drop (length folder) p, sym same, subst (Contains (p ∷ ps)) (begun folder p is) (contains_first p ps))
  | inr later ↦ (let r = rest later in (r.0, r.1, contains_later p (folder ++ r.0) ps r.2))
]
sound_by folder p z ps false is rest at = let r = rest at in (r.0, r.1, contains_later p (folder ++ r.0) ps r.2)

list_sound : (folder : Path) (ps : List Path) (z : Path) → Contains (seen_list folder ps) z → IsSeenOf folder ps z
list_sound folder [] z at = absurd (contains_nothing z at)
list_sound folder (p ∷ ps) z at = sound_by folder p z ps (begins folder p) refl (list_sound folder ps z) at

first_by : (b : Bool) (s z : Path) (qs : List Path) → b ≡ true → s ≡ z → Contains (if b then s ∷ qs else qs) z
first_by true s z qs is same = subst (Contains (s ∷ qs)) same (contains_first s qs)
first_by false s z qs is same = (cc)

later_by : (b : Bool) (s z : Path) (qs : List Path) → Contains qs z → Contains (if b then s ∷ qs else qs) z
later_by true s z qs at = contains_later s z qs at
later_by false s z qs at = at

list_all : (folder : Path) (ps : List Path) (rest : Path) → Contains ps (folder ++ rest) → Contains (seen_list folder ps) ((46 ∷ []) ∷ rest)
list_all folder [] rest at = absurd (contains_nothing (folder ++ rest) at)
list_all folder (p ∷ ps) rest at = elim (contains_cases p (folder ++ rest) ps at) [
  | inl same ↦ first_by (begins folder p) ((46 ∷ []) ∷ drop (length folder) p) ((46 ∷ []) ∷ rest) (seen_list folder ps) (begins_so folder p rest same)
      (ap (λ q. (46 ∷ []) ∷ drop (length folder) q) same ∙ ap (λ q. (46 ∷ []) ∷ q) (drop-append_seam folder rest))
  | inr later ↦ later_by (begins folder p) ((46 ∷ []) ∷ drop (length folder) p) ((46 ∷ []) ∷ rest) (seen_list folder ps) (list_all folder ps rest later)
]

-- ---- an order keeps all where things with one key are one

module _ {X : Type 0} (key : X → Key) where
  put_new : (x y : X) (ys : List X) (o : Ordering) → key_cmp (key x) (key y) ≡ o → (o ≡ Equal → x ≡ y) → Contains (put_in key x ys) x → Contains (put_by o x y ys (put_in key x ys)) x
  put_new x y ys Less e one rest = contains_first x (y ∷ ys)
  put_new x y ys Equal e one rest = subst (Contains (y ∷ ys)) (sym (one refl)) (contains_first y ys)
  put_new x y ys Greater e one rest = contains_later y x (put_in key x ys) rest

  put_in-has : (x : X) (ys : List X) → ((y : X) → Contains ys y → key_cmp (key x) (key y) ≡ Equal → x ≡ y) → Contains (put_in key x ys) x
  put_in-has x [] one = contains_first x []
  put_in-has x (y ∷ ys) one = put_new x y ys (key_cmp (key x) (key y)) refl (λ e. one y (contains_first y ys) e) (put_in-has x ys (λ z h e. one z (contains_later y z ys h) e))

  in_order-has : (xs : List X) → ((x y : X) → Contains xs x → Contains xs y → key_cmp (key x) (key y) ≡ Equal → x ≡ y) → (z : X) → Contains xs z → Contains (in_order key xs) z
  in_order-has [] one z h = absurd (contains_nothing z h)
  in_order-has (x ∷ xs) one z h = elim (contains_cases x z xs h) [
    | inl same ↦ subst (Contains (put_in key x (in_order key xs))) same (put_in-has x (in_order key xs) (λ y there e. one x y (contains_first x xs) (contains_later x y xs (contains-in_order key xs y there)) e))
    | inr later ↦ put_in-keeps key x z (in_order key xs) (in_order-has xs (λ a b at_a at_b e. one a b (contains_later x a xs at_a) (contains_later x b xs at_b) e) z later)
  ]

-- ---- the sorted list is what is seen

texts_tied : (a b : List ℕ) → slice_cmp nat_cmp a b ≡ Equal → a ≡ b
texts_tied = slice_cmp-IsAntisymmetric nat_cmp-IsAntisymmetric

one_key : (x y : Path) → IsPath x → IsPath y → key_cmp (path_key x) (path_key y) ≡ Equal → x ≡ y
one_key x y x_path y_path e = same_path x y x_path y_path (texts_tied (text_of_path x) (text_of_path y) (sym (key_order x y) ∙ e))

module _ (folder : Path) (found seen sorted : List Path) (are : AreSeen folder found seen) (moved : IsPermutation seen sorted) (order : IsSorted text_order sorted) (paths : (p : Path) → Contains sorted p → IsPath p) where
  listed : (z : Path) → Contains sorted z → Contains (seen_list folder found) z
  listed z at =
      let r = are.sound z (Contains-permutation sorted seen z (IsPermutation-sym seen sorted moved) at) in
      subst (Contains (seen_list folder found)) (sym r.1) (list_all folder found r.0 r.2)

  from_list : (z : Path) → Contains (seen_list folder found) z → Contains sorted z
  from_list z at =
      let r = list_sound folder found z at in
      subst (Contains sorted) (sym r.1) (Contains-permutation seen sorted ((46 ∷ []) ∷ r.0) moved (are.all r.0 r.2))

  pub sorted_seen : each_once sorted ≡ seen_in folder found
  sorted_seen =
      sorted_once sorted order
      ∙ ascending_one path_key (in_order path_key sorted) (in_order path_key (seen_list folder found)) (in_order-ascends path_key sorted) (in_order-ascends path_key (seen_list folder found))
      (λ z at. in_order-has path_key (seen_list folder found) (λ x y at_x at_y e. one_key x y (paths x (from_list x at_x)) (paths y (from_list y at_y)) e) z (listed z (contains-in_order path_key sorted z at)))
      (λ z at. in_order-has path_key sorted (λ x y at_x at_y e. one_key x y (paths x at_x) (paths y at_y) e) z (from_list z (contains-in_order path_key (seen_list folder found) z at)))
      ∙ sym (seen_is folder found)

-- ---- and it may be read

all_by : (P : List ℕ → Type 0) (ys : List (List ℕ)) → ((y : List ℕ) → Contains ys y → P y) → AllByRecursion P ys
all_by P [] each = tt
all_by P (y ∷ ys) each = (each y (contains_first y ys), all_by P ys (λ z at. each z (contains_later y z ys at)))

strict_by : (ps : List Path) → Ascends path_key ps → IsStrictlySortedBy (slice_cmp nat_cmp) (map text_of_path ps)
unfolding IsStrictlySortedBy
strict_by [] up = tt
strict_by (p ∷ ps) up = (
  all_by (λ t. slice_cmp nat_cmp (text_of_path p) t ≡ Less) (map text_of_path ps) (λ t at.
      let z = contains_map text_of_path ps t at in
      subst (λ u. slice_cmp nat_cmp (text_of_path p) u ≡ Less) z.2 (sym (key_order p z.0) ∙ up.0 z.0 z.1)),
  strict_by ps up.1,
)

seen_so : (z rest : Path) → z ≡ (46 ∷ []) ∷ rest → IsSeen z
seen_so z rest is = is ∙ ap (λ r. (46 ∷ []) ∷ r) (sym (ap parts_of is))

list_seen : (folder : Path) (found : List Path) (z : Path) → Contains (in_order path_key (seen_list folder found)) z → IsSeen z
list_seen folder found z at = let r = list_sound folder found z (contains-in_order path_key (seen_list folder found) z at) in seen_so z r.0 r.1

all_seen : (ps : List Path) → ((z : Path) → Contains ps z → IsSeen z) → All IsSeen ps
all_seen ps each k d within = each (get_or ps k d) (Contains-get_or ps k d within)

pub seen_follow : (folder : Path) (found : List Path) → Follow [] (seen_in folder found)
seen_follow folder found = subst (Follow []) (sym (seen_is folder found)) (record {
  ascend = strict_by (in_order path_key (seen_list folder found)) (in_order-ascends path_key (seen_list folder found));
  seen = all_seen (in_order path_key (seen_list folder found)) (list_seen folder found);
})
