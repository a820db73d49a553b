-- What lines say, one more line at a time.
use Rattle.std.proofs.Common.{◌≡◌, ◌<◌, ◌≤◌, ◌++◌, ◌∷◌, ℕ, Bool, List, [], length, length-append, map, inl, inr, refl, ap, sym, ◌∙◌, subst, append_assoc, arith, codes}
use Rattle.std.specs.Prelude.{flat_map}
use Rattle.std.specs.List.{Contains}
use Rattle.std.specs.Cmp.{nat_cmp_total, tied_itself}
use Rattle.std.specs.Cmp.Lexicographic.{lists_total}
use Rattle.std.specs.FinMap.{nat_cmp-IsAntisymmetric}
use Rattle.std.specs.Ordering.{nat_cmp, ordering_reverse, ordering_then}
use Rattle.std.specs.declared.cmp.Ordering.{Ordering}
use Rattle.std.specs.declared.cmp.Ordering.TheVariants.{Less, Equal, Greater}
use Rattle.std.proofs.lemmas.List.{append-nil, append_cancel_left, map-append}
use Rattle.std.proofs.lemmas.List.Elements.{All-contains, All-push}
use Rattle.std.proofs.lemmas.Grind.{flat_map-append}
use Rattle.hex.specs.Hex.{encode_lower}
use Rattle.vk_spec.specs.Lists.{NoRepeats}
use Rattle.vk_spec.specs.Paths.{Path}
use Rattle.vk_spec.specs.Settings.{Instance}
use Rattle.vk_spec.proofs.ListLemmas.{contains_cases, contains_first, contains_later, contains_nothing, contains-flat_map, no_repeats_push}
use Rattle.vk_base.specs.Names.{port_rule, word_rule}
use Rattle.vk_base.specs.Paths.{text_of_path}
use Rattle.vk_base.specs.Printed.{path_text}
use Rattle.vk_base.specs.Tokens.{token_of}
use Rattle.vk_base.proofs.TokenLemmas.{tokens_differ}
use Rattle.vk_resolution.specs.Keys.{Ascends, Key, key_cmp}
use Rattle.vk_resolution.proofs.Members.{contains_map, contains_single, map_contains}
use Rattle.vk_forms.specs.Names.{IsRightInstance}
use Rattle.vk_forms.proofs.Apart.{name_apart}
use Rattle.vk_forms.proofs.NameForms.{name_lacks}
use Rattle.vk_forms.proofs.PairForms.{same_pair}
use Rattle.vk_abi_text.specs.Adding.{AreOrdered, IsNew, IsOtherThanLast, last_text, with_line, with_more}
use Rattle.vk_abi_text.specs.Gathered.{Gathered, builders_in, deps_in, features_in, files_in, gathered, natives_in, ports_in, triplets_in, versions_in}
use Rattle.vk_abi_text.specs.Inputs.{DepDigest, FileDigest}
use Rattle.vk_abi_text.specs.Lines.{AbiLine, builder_line, dep_line, feature_line, file_line, line_text, native_line, port_line, text_key, triplet_line, version_line}
use Rattle.vk_abi_text.specs.Readings.{HaveNoSecond, MayStand, line_key}
use Rattle.vk_abi_text.specs.Rights.{IsReadableLine, IsRightDep, IsRightFile, IsRightLine}
use Rattle.vk_abi_text.proofs.LineParts.{instance_is, token_blank}
use Rattle.vk_abi_text.proofs.PathTexts.{paths_apart}
use Rattle.vk_abi_text.proofs.PutLemmas.{bytes_cmp, one_part}
use Rattle.vk_abi_text.proofs.Selections.{in_back, in_either, in_front}

pub right_of : (line : AbiLine) → IsReadableLine line → IsRightLine line
right_of (builder_line b) readable = readable.0
right_of (dep_line d) readable = readable
right_of (feature_line f) readable = readable
right_of (file_line f) readable = readable.0
right_of (native_line n) readable = readable
right_of (port_line p) readable = readable
right_of (triplet_line t d) readable = readable
right_of (version_line v) readable = readable.0

-- ---- one more line

more_is : {X : Type 0} (xs ys : List X) → with_more xs ys ≡ xs ++ ys
more_is xs [] = sym (append-nil xs)
more_is xs (y ∷ ys) = more_is (xs ++ y ∷ []) ys ∙ append_assoc xs (y ∷ []) ys

sel_more : {X : Type 0} (sel : AbiLine → List X) (lines : List AbiLine) (x : AbiLine) → flat_map sel (lines ++ x ∷ []) ≡ with_more (flat_map sel lines) (sel x)
sel_more sel lines x = flat_map-append sel lines (x ∷ []) ∙ ap (λ l. flat_map sel lines ++ l) (append-nil (sel x)) ∙ sym (more_is (flat_map sel lines) (sel x))

pub gathered_more : (lines : List AbiLine) (x : AbiLine) → gathered (lines ++ x ∷ []) ≡ with_line x (gathered lines)
gathered_more lines x = λ i. record {
  builders = sel_more builders_in lines x i;
  deps = sel_more deps_in lines x i;
  features = sel_more features_in lines x i;
  files = sel_more files_in lines x i;
  natives = sel_more natives_in lines x i;
  ports = sel_more ports_in lines x i;
  triplets = sel_more triplets_in lines x i;
  versions = sel_more versions_in lines x i;
}

-- ---- a value of a kind is that of a line

abbrev from_versions : AbiLine → List AbiLine
from_versions l = map version_line (versions_in l)

abbrev from_triplets : AbiLine → List AbiLine
from_triplets l = map (λ t. triplet_line t.0 t.1) (triplets_in l) ++ from_versions l

abbrev from_ports : AbiLine → List AbiLine
from_ports l = map port_line (ports_in l) ++ from_triplets l

abbrev from_natives : AbiLine → List AbiLine
from_natives l = map native_line (natives_in l) ++ from_ports l

abbrev from_files : AbiLine → List AbiLine
from_files l = map file_line (files_in l) ++ from_natives l

abbrev from_features : AbiLine → List AbiLine
from_features l = map feature_line (features_in l) ++ from_files l

abbrev from_deps : AbiLine → List AbiLine
from_deps l = map dep_line (deps_in l) ++ from_features l

-- a line again, of the kind that it is
abbrev again : AbiLine → List AbiLine
again l = map builder_line (builders_in l) ++ from_deps l

again_is : (l : AbiLine) → again l ≡ l ∷ []
again_is (builder_line b) = refl
again_is (dep_line d) = refl
again_is (feature_line f) = refl
again_is (file_line f) = refl
again_is (native_line n) = refl
again_is (port_line p) = refl
again_is (triplet_line t d) = refl
again_is (version_line v) = refl

module _ {X : Type 0} (sel : AbiLine → List X) (make : X → AbiLine) where
  back : ((l : AbiLine) (y : AbiLine) → Contains (map make (sel l)) y → Contains (again l) y) → (lines : List AbiLine) (x : X) → Contains (flat_map sel lines) x → Contains lines (make x)
  back within lines x h =
      let it = contains-flat_map sel lines x h in
      let is : it.0 ≡ make x = contains_single it.0 (make x) (subst (λ ls. Contains ls (make x)) (again_is it.0) (within it.0 (make x) (map_contains make (sel it.0) x it.2))) in
      subst (Contains lines) is it.1

after_builders : (l y : AbiLine) → Contains (from_deps l) y → Contains (again l) y
after_builders l y h = in_back (map builder_line (builders_in l)) (from_deps l) y h

after_deps : (l y : AbiLine) → Contains (from_features l) y → Contains (again l) y
after_deps l y h = after_builders l y (in_back (map dep_line (deps_in l)) (from_features l) y h)

after_features : (l y : AbiLine) → Contains (from_files l) y → Contains (again l) y
after_features l y h = after_deps l y (in_back (map feature_line (features_in l)) (from_files l) y h)

after_files : (l y : AbiLine) → Contains (from_natives l) y → Contains (again l) y
after_files l y h = after_features l y (in_back (map file_line (files_in l)) (from_natives l) y h)

after_natives : (l y : AbiLine) → Contains (from_ports l) y → Contains (again l) y
after_natives l y h = after_files l y (in_back (map native_line (natives_in l)) (from_ports l) y h)

after_ports : (l y : AbiLine) → Contains (from_triplets l) y → Contains (again l) y
after_ports l y h = after_natives l y (in_back (map port_line (ports_in l)) (from_triplets l) y h)

pub builders_back : (lines : List AbiLine) (b : _) → Contains (flat_map builders_in lines) b → Contains lines (builder_line b)
builders_back lines b h = back builders_in builder_line (λ l y at. in_front (map builder_line (builders_in l)) (from_deps l) y at) lines b h

pub deps_back : (lines : List AbiLine) (d : DepDigest) → Contains (flat_map deps_in lines) d → Contains lines (dep_line d)
deps_back lines d h = back deps_in dep_line (λ l y at. after_builders l y (in_front (map dep_line (deps_in l)) (from_features l) y at)) lines d h

pub features_back : (lines : List AbiLine) (f : List ℕ) → Contains (flat_map features_in lines) f → Contains lines (feature_line f)
features_back lines f h = back features_in feature_line (λ l y at. after_deps l y (in_front (map feature_line (features_in l)) (from_files l) y at)) lines f h

pub files_back : (lines : List AbiLine) (f : FileDigest) → Contains (flat_map files_in lines) f → Contains lines (file_line f)
files_back lines f h = back files_in file_line (λ l y at. after_features l y (in_front (map file_line (files_in l)) (from_natives l) y at)) lines f h

pub natives_back : (lines : List AbiLine) (n : Bool) → Contains (flat_map natives_in lines) n → Contains lines (native_line n)
natives_back lines n h = back natives_in native_line (λ l y at. after_files l y (in_front (map native_line (natives_in l)) (from_ports l) y at)) lines n h

pub ports_back : (lines : List AbiLine) (p : List ℕ) → Contains (flat_map ports_in lines) p → Contains lines (port_line p)
ports_back lines p h = back ports_in port_line (λ l y at. after_natives l y (in_front (map port_line (ports_in l)) (from_triplets l) y at)) lines p h

pub triplets_back : (lines : List AbiLine) (t : List ℕ × List ℕ) → Contains (flat_map triplets_in lines) t → Contains lines (triplet_line t.0 t.1)
triplets_back lines t h = back triplets_in (λ u. triplet_line u.0 u.1) (λ l y at. after_ports l y (in_front (map (λ u. triplet_line u.0 u.1) (triplets_in l)) (from_versions l) y at)) lines t h

pub versions_back : (lines : List AbiLine) (v : _) → Contains (flat_map versions_in lines) v → Contains lines (version_line v)
versions_back lines v h = back versions_in version_line (λ l y at. after_ports l y (in_back (map (λ u. triplet_line u.0 u.1) (triplets_in l)) (from_versions l) y at)) lines v h

-- ---- the order of texts

trans : (a b c : List ℕ) → bytes_cmp a b ≡ Less → bytes_cmp b c ≡ Less → bytes_cmp a c ≡ Less
trans a b c one two = (lists_total nat_cmp_total).trans a b c one two

pub by_bytes : (a b : List ℕ) → key_cmp (text_key a) (text_key b) ≡ Less → bytes_cmp a b ≡ Less
by_bytes a b less = sym (one_part a b) ∙ less

pub by_key : (a b : List ℕ) → bytes_cmp a b ≡ Less → key_cmp (text_key a) (text_key b) ≡ Less
by_key a b less = one_part a b ∙ less

not_itself : (a : List ℕ) → bytes_cmp a a ≡ Less → ⊥
not_itself a less = let clash : Equal ≡ Less = sym (tied_itself (lists_total nat_cmp_total) a) ∙ less in (cc)

pub below_last : (lines : List AbiLine) (t : List ℕ) → Ascends line_key lines → bytes_cmp (last_text lines) t ≡ Less → (l : AbiLine) → Contains lines l → bytes_cmp (line_text l) t ≡ Less
below_last [] t a less l h = absurd (contains_nothing l h)
below_last (m ∷ []) t a less l h = subst (λ x. bytes_cmp (line_text x) t ≡ Less) (contains_single m l h) less
below_last (m ∷ n ∷ lines) t a less l h = elim (contains_cases m l (n ∷ lines) h) [
  | inl same ↦
      subst (λ x. bytes_cmp (line_text x) t ≡ Less) same
      (trans (line_text m) (line_text n) t (by_bytes (line_text m) (line_text n) (a.0 n (contains_first n lines))) (below_last (n ∷ lines) t a.1 less n (contains_first n lines)))
  | inr later ↦ below_last (n ∷ lines) t a.1 less l later
]

above_nothing : (x : AbiLine) → bytes_cmp [] (line_text x) ≡ Less
above_nothing (builder_line b) = refl
above_nothing (dep_line d) = refl
above_nothing (feature_line f) = refl
above_nothing (file_line f) = refl
above_nothing (native_line n) = refl
above_nothing (port_line p) = refl
above_nothing (triplet_line t d) = refl
above_nothing (version_line v) = refl

pub above_last : (lines : List AbiLine) (x : AbiLine) → Ascends line_key (lines ++ x ∷ []) → bytes_cmp (last_text lines) (line_text x) ≡ Less
above_last [] x a = above_nothing x
above_last (l ∷ []) x a = by_bytes (line_text l) (line_text x) (a.0 x (contains_first x []))
above_last (l ∷ m ∷ lines) x a = above_last (m ∷ lines) x a.1

pub last_more : (lines : List AbiLine) (x : AbiLine) → last_text (lines ++ x ∷ []) ≡ line_text x
last_more [] x = refl
last_more (l ∷ []) x = refl
last_more (l ∷ m ∷ lines) x = last_more (m ∷ lines) x

pub ascends_more : {X : Type 0} (key : X → Key) (xs : List X) (x : X) → Ascends key xs → ((y : X) → Contains xs y → key_cmp (key y) (key x) ≡ Less) → Ascends key (xs ++ x ∷ [])
ascends_more key [] x a below = ((λ y h. absurd (contains_nothing y h)), tt)
ascends_more key (y ∷ xs) x a below = (
  (λ z h. elim (in_either xs (x ∷ []) z h) [
    | inl old ↦ a.0 z old
    | inr new ↦ subst (λ w. key_cmp (key y) (key w) ≡ Less) (contains_single x z new) (below y (contains_first y xs))
  ]),
  ascends_more key xs x a.1 (λ z h. below z (contains_later y z xs h)),
)

ascends_last : {X : Type 0} (key : X → Key) (before : List X) (z e : X) → Ascends key (before ++ z ∷ []) → Contains before e → key_cmp (key e) (key z) ≡ Less
ascends_last key [] z e a h = absurd (contains_nothing e h)
ascends_last key (b ∷ before) z e a h = elim (contains_cases b e before h) [
  | inl same ↦ subst (λ x. key_cmp (key x) (key z) ≡ Less) same (a.0 z (in_back before (z ∷ []) z (contains_first z [])))
  | inr later ↦ ascends_last key before z e a.1 later
]

-- what stands between two texts that begin alike begins so
both_equal : (o q a b : Ordering) → q ≡ ordering_reverse o → ordering_then o a ≡ Less → ordering_then q b ≡ Less → (o ≡ Equal) × (a ≡ Less) × (b ≡ Less)
both_equal Less q a b turned low high = absurd (let clash : ordering_then Greater b ≡ Less = ap (λ x. ordering_then x b) (sym turned) ∙ high in (cc))
both_equal Equal q a b turned low high = (refl, low, ap (λ x. ordering_then x b) (sym turned) ∙ high)
both_equal Greater q a b turned low high = absurd (cc)

between : (p a b z : List ℕ) → bytes_cmp (p ++ a) z ≡ Less → bytes_cmp z (p ++ b) ≡ Less → (c : List ℕ) × (z ≡ p ++ c)
between [] a b z low high = (z, refl)
between (x ∷ p) a b [] low high = absurd (let clash : Greater ≡ Less = low in (cc))
between (x ∷ p) a b (y ∷ z) low high =
    let both = both_equal (nat_cmp x y) (nat_cmp y x) (bytes_cmp (p ++ a) z) (bytes_cmp z (p ++ b)) (nat_cmp_total.antisymm y x) low high in
    let rest = between p a b z both.1 both.2 in
    (rest.0, ap (λ w. w ∷ z) (sym (nat_cmp-IsAntisymmetric x y both.0)) ∙ ap (λ l. x ∷ l) rest.1)

-- ---- the last of a list

pub last_split : {X : Type 0} (xs : List X) → 0 < length xs → (before : List X) × (x : X) × (xs ≡ before ++ x ∷ [])
last_split [] some = absurd (omega (arith, some))
last_split (x ∷ []) some = ([], x, refl)
last_split (x ∷ y ∷ xs) some = let s = last_split (y ∷ xs) (omega arith) in (x ∷ s.0, s.1, ap (λ l. x ∷ l) s.2)

module _ {X K : Type 0} (key : X → K) (text : X → List ℕ) (xs : List X) (x : X) where
  -- a key that the last hasn't is new, where those with one key stand together
  new_key : Ascends (λ y. text_key (text y)) xs → ((y : X) → Contains xs y → bytes_cmp (text y) (text x) ≡ Less) → IsOtherThanLast key xs (key x)
      → ((e z : X) → Contains xs z → key e ≡ key x → bytes_cmp (text e) (text z) ≡ Less → bytes_cmp (text z) (text x) ≡ Less → key z ≡ key x)
      → Contains (map key xs) (key x) → ⊥
  new_key ascends below other together h =
      let it = contains_map key xs (key x) h in
      let within = it.1.1 in
      let s = last_split xs (omega (arith, within)) in
      let at_last : Contains xs s.1 = subst (λ l. Contains l s.1) (sym s.2) (in_back s.0 (s.1 ∷ []) s.1 (contains_first s.1 [])) in
      elim (in_either s.0 (s.1 ∷ []) it.0 (subst (λ l. Contains l it.0) s.2 it.1)) [
        | inl before ↦
            other s.0 s.1 s.2
            (together it.0 s.1 at_last it.2 (by_bytes (text it.0) (text s.1) (ascends_last (λ y. text_key (text y)) s.0 s.1 it.0 (subst (Ascends (λ y. text_key (text y))) s.2 ascends) before)) (below s.1 at_last))
        | inr last ↦ other s.0 s.1 s.2 (ap key (contains_single s.1 it.0 last) ∙ it.2)
      ]

-- ---- lines of one instance, of one path, begin alike

abbrev dep_front : Instance → List ℕ
dep_front i = codes "dep " ++ (token_of i.port ++ 32 ∷ (token_of i.triplet ++ 32 ∷ []))

dep_joined : (i : Instance) (c : List ℕ) → dep_front i ++ c ≡ codes "dep " ++ (token_of i.port ++ 32 ∷ (token_of i.triplet ++ 32 ∷ c))
dep_joined i c =
    ap (λ l. codes "dep " ++ l) (append_assoc (token_of i.port) (32 ∷ (token_of i.triplet ++ 32 ∷ [])) c ∙ ap (λ l. token_of i.port ++ 32 ∷ l) (append_assoc (token_of i.triplet) (32 ∷ []) c))

dep_told : (z : DepDigest) (i : Instance) (c : List ℕ) → IsRightDep z → IsRightInstance i → line_text (dep_line z) ≡ dep_front i ++ c → z.instance ≡ i
dep_told z i c right fine e =
    let rest = append_cancel_left (codes "dep ") (token_of z.instance.port ++ 32 ∷ (token_of z.instance.triplet ++ 32 ∷ encode_lower z.digest)) (token_of i.port ++ 32 ∷ (token_of i.triplet ++ 32 ∷ c)) (e ∙ dep_joined i c) in
    let one = same_pair 32 (token_of z.instance.port) (token_of i.port) (token_of z.instance.triplet ++ 32 ∷ encode_lower z.digest) (token_of i.triplet ++ 32 ∷ c)
    (name_lacks port_rule 32 z.instance.port refl right.instance.0) (name_lacks port_rule 32 i.port refl fine.0) rest in
    let two = same_pair 32 (token_of z.instance.triplet) (token_of i.triplet) (encode_lower z.digest) c (name_lacks word_rule 32 z.instance.triplet refl right.instance.1) (name_lacks word_rule 32 i.triplet refl fine.1) one.1 in
    instance_is z.instance i (name_apart port_rule z.instance.port i.port right.instance.0 fine.0 one.0) (name_apart word_rule z.instance.triplet i.triplet right.instance.1 fine.1 two.0)

deps_together : (d e z : DepDigest) → IsRightDep d → IsRightDep z → e.instance ≡ d.instance → bytes_cmp (line_text (dep_line e)) (line_text (dep_line z)) ≡ Less → bytes_cmp (line_text (dep_line z)) (line_text (dep_line d)) ≡ Less → z.instance ≡ d.instance
deps_together d e z right fine same low high =
    let begins_e : line_text (dep_line e) ≡ dep_front d.instance ++ encode_lower e.digest = sym (dep_joined e.instance (encode_lower e.digest)) ∙ ap (λ i. dep_front i ++ encode_lower e.digest) same in
    let begins_d : line_text (dep_line d) ≡ dep_front d.instance ++ encode_lower d.digest = sym (dep_joined d.instance (encode_lower d.digest)) in
    let it = between (dep_front d.instance) (encode_lower e.digest) (encode_lower d.digest) (line_text (dep_line z))
    (subst (λ t. bytes_cmp t (line_text (dep_line z)) ≡ Less) begins_e low) (subst (λ t. bytes_cmp (line_text (dep_line z)) t ≡ Less) begins_d high) in
    dep_told z d.instance it.0 fine right.instance it.1

abbrev file_front : Path → List ℕ
file_front p = codes "file " ++ (path_text p ++ 32 ∷ [])

file_joined : (p : Path) (c : List ℕ) → file_front p ++ c ≡ codes "file " ++ (path_text p ++ 32 ∷ c)
file_joined p c = ap (λ l. codes "file " ++ l) (append_assoc (path_text p) (32 ∷ []) c)

files_together : (f e z : FileDigest) → IsRightFile f → IsRightFile z → e.path ≡ f.path → bytes_cmp (line_text (file_line e)) (line_text (file_line z)) ≡ Less → bytes_cmp (line_text (file_line z)) (line_text (file_line f)) ≡ Less → z.path ≡ f.path
files_together f e z right fine same low high =
    let begins_e : line_text (file_line e) ≡ file_front f.path ++ encode_lower e.digest = sym (file_joined e.path (encode_lower e.digest)) ∙ ap (λ p. file_front p ++ encode_lower e.digest) same in
    let begins_f : line_text (file_line f) ≡ file_front f.path ++ encode_lower f.digest = sym (file_joined f.path (encode_lower f.digest)) in
    let it = between (file_front f.path) (encode_lower e.digest) (encode_lower f.digest) (line_text (file_line z))
    (subst (λ t. bytes_cmp t (line_text (file_line z)) ≡ Less) begins_e low) (subst (λ t. bytes_cmp (line_text (file_line z)) t ≡ Less) begins_f high) in
    let rest = append_cancel_left (codes "file ") (path_text z.path ++ 32 ∷ encode_lower z.digest) (path_text f.path ++ 32 ∷ it.0) (it.1 ∙ file_joined f.path it.0) in
    let one = same_pair 32 (path_text z.path) (path_text f.path) (encode_lower z.digest) it.0 (token_blank (text_of_path z.path) fine.bytes) (token_blank (text_of_path f.path) right.bytes) rest in
    paths_apart z.path f.path fine.path right.path (tokens_differ (text_of_path z.path) (text_of_path f.path) fine.bytes right.bytes one.0)

-- ---- a line that is above all and new may stand

one_more : {X : Type 0} (xs : List X) (x : X) → xs ≡ [] → length (xs ++ x ∷ []) ≤ 1
one_more xs x e = subst (λ l. length (l ++ x ∷ []) ≤ 1) (sym e) (omega arith)

key_more : {X K : Type 0} (key : X → K) (xs : List X) (x : X) → NoRepeats (map key xs) → (Contains (map key xs) (key x) → ⊥) → NoRepeats (map key (xs ++ x ∷ []))
key_more key xs x each new = subst NoRepeats (sym (map-append key xs (x ∷ []))) (no_repeats_push (map key xs) (key x) each new)

module _ (lines : List AbiLine) (stand : MayStand lines) (ordered : AreOrdered (gathered lines)) where
  readable_at : (l : AbiLine) → Contains lines l → IsReadableLine l
  readable_at l h = All-contains IsReadableLine lines l stand.readable h

  second_more : (x : AbiLine) → IsReadableLine x → ((l : AbiLine) → Contains lines l → bytes_cmp (line_text l) (line_text x) ≡ Less) → IsNew x (gathered lines) → HaveNoSecond (with_line x (gathered lines))
  second_more (builder_line b) readable below new = let old = stand.no_second in record { builder = one_more _ b new; each_instance = old.each_instance; each_feature = old.each_feature; each_path = old.each_path; native = old.native; port = old.port; triplet = old.triplet; version = old.version }
  second_more (dep_line d) readable below new =
      let old = stand.no_second in
      let free = new_key (λ e. e.instance) (λ e. line_text (dep_line e)) (flat_map deps_in lines) d ordered.deps (λ y h. below (dep_line y) (deps_back lines y h)) new
      (λ e z h same low high. deps_together d e z readable (readable_at (dep_line z) (deps_back lines z h)) same low high) in
      record { builder = old.builder; each_instance = key_more (λ e. e.instance) (flat_map deps_in lines) d old.each_instance free; each_feature = old.each_feature; each_path = old.each_path; native = old.native; port = old.port; triplet = old.triplet; version = old.version }
  second_more (feature_line f) readable below new =
      let old = stand.no_second in
      let free : Contains (flat_map features_in lines) f → ⊥ = λ h. not_itself (line_text (feature_line f)) (below (feature_line f) (features_back lines f h)) in
      record { builder = old.builder; each_instance = old.each_instance; each_feature = no_repeats_push (flat_map features_in lines) f old.each_feature free; each_path = old.each_path; native = old.native; port = old.port; triplet = old.triplet; version = old.version }
  second_more (file_line f) readable below new =
      let old = stand.no_second in
      let free = new_key (λ g. g.path) (λ g. line_text (file_line g)) (flat_map files_in lines) f ordered.files (λ y h. below (file_line y) (files_back lines y h)) new
      (λ e z h same low high. files_together f e z readable.0 (readable_at (file_line z) (files_back lines z h)).0 same low high) in
      record { builder = old.builder; each_instance = old.each_instance; each_feature = old.each_feature; each_path = key_more (λ g. g.path) (flat_map files_in lines) f old.each_path free; native = old.native; port = old.port; triplet = old.triplet; version = old.version }
  second_more (native_line n) readable below new = let old = stand.no_second in record { builder = old.builder; each_instance = old.each_instance; each_feature = old.each_feature; each_path = old.each_path; native = one_more _ n new; port = old.port; triplet = old.triplet; version = old.version }
  second_more (port_line p) readable below new = let old = stand.no_second in record { builder = old.builder; each_instance = old.each_instance; each_feature = old.each_feature; each_path = old.each_path; native = old.native; port = one_more _ p new; triplet = old.triplet; version = old.version }
  second_more (triplet_line t d) readable below new = let old = stand.no_second in record { builder = old.builder; each_instance = old.each_instance; each_feature = old.each_feature; each_path = old.each_path; native = old.native; port = old.port; triplet = one_more _ (t, d) new; version = old.version }
  second_more (version_line v) readable below new = let old = stand.no_second in record { builder = old.builder; each_instance = old.each_instance; each_feature = old.each_feature; each_path = old.each_path; native = old.native; port = old.port; triplet = old.triplet; version = one_more _ v new }

  ordered_more : (x : AbiLine) → ((l : AbiLine) → Contains lines l → bytes_cmp (line_text l) (line_text x) ≡ Less) → AreOrdered (with_line x (gathered lines))
  ordered_more (builder_line b) below = record { deps = ordered.deps; features = ordered.features; files = ordered.files }
  ordered_more (dep_line d) below = record {
    deps = ascends_more (λ e. line_key (dep_line e)) (flat_map deps_in lines) d ordered.deps (λ y h. by_key (line_text (dep_line y)) (line_text (dep_line d)) (below (dep_line y) (deps_back lines y h)));
    features = ordered.features;
    files = ordered.files;
  }
  ordered_more (feature_line f) below = record {
    deps = ordered.deps;
    features = ascends_more (λ e. line_key (feature_line e)) (flat_map features_in lines) f ordered.features (λ y h. by_key (line_text (feature_line y)) (line_text (feature_line f)) (below (feature_line y) (features_back lines y h)));
    files = ordered.files;
  }
  ordered_more (file_line f) below = record {
    deps = ordered.deps;
    features = ordered.features;
    files = ascends_more (λ e. line_key (file_line e)) (flat_map files_in lines) f ordered.files (λ y h. by_key (line_text (file_line y)) (line_text (file_line f)) (below (file_line y) (files_back lines y h)));
  }
  ordered_more (native_line n) below = record { deps = ordered.deps; features = ordered.features; files = ordered.files }
  ordered_more (port_line p) below = record { deps = ordered.deps; features = ordered.features; files = ordered.files }
  ordered_more (triplet_line t d) below = record { deps = ordered.deps; features = ordered.features; files = ordered.files }
  ordered_more (version_line v) below = record { deps = ordered.deps; features = ordered.features; files = ordered.files }

  pub stand_more : (x : AbiLine) → IsReadableLine x → bytes_cmp (last_text lines) (line_text x) ≡ Less → IsNew x (gathered lines) → MayStand (lines ++ x ∷ []) × AreOrdered (gathered (lines ++ x ∷ []))
  stand_more x readable above new =
      let below : (l : AbiLine) → Contains lines l → bytes_cmp (line_text l) (line_text x) ≡ Less = below_last lines (line_text x) stand.ascends above in (
        record {
          readable = All-push IsReadableLine lines x stand.readable readable;
          ascends = ascends_more line_key lines x stand.ascends (λ l h. by_key (line_text l) (line_text x) (below l h));
          no_second = subst HaveNoSecond (sym (gathered_more lines x)) (second_more x readable below new);
        },
        subst AreOrdered (sym (gathered_more lines x)) (ordered_more x below),
      )

-- ---- and only such a line

none_before : {X : Type 0} (xs : List X) (x : X) → length (xs ++ x ∷ []) ≤ 1 → xs ≡ []
none_before [] x few = refl
none_before (y ∷ xs) x few = absurd (omega (arith, few, length-append xs (x ∷ [])))

pub no_repeat_last : {X : Type 0} (ks : List X) (k : X) → NoRepeats (ks ++ k ∷ []) → Contains ks k → ⊥
no_repeat_last [] k each h = contains_nothing k h
no_repeat_last (y ∷ ks) k each h = elim (contains_cases y k ks h) [
  | inl same ↦ each.0 (subst (Contains (ks ++ k ∷ [])) (sym same) (in_back ks (k ∷ []) k (contains_first k [])))
  | inr later ↦ no_repeat_last ks k each.1 later
]

other_key : {X K : Type 0} (key : X → K) (xs : List X) (x : X) → NoRepeats (map key (xs ++ x ∷ [])) → IsOtherThanLast key xs (key x)
other_key key xs x each before e is same =
    no_repeat_last (map key xs) (key x) (subst NoRepeats (map-append key xs (x ∷ [])) each)
    (subst (Contains (map key xs)) same (map_contains key xs e (subst (λ l. Contains l e) (sym is) (in_back before (e ∷ []) e (contains_first e [])))))

pub new_from : (x : AbiLine) (said : Gathered) → HaveNoSecond (with_line x said) → IsNew x said
new_from (builder_line b) said second = none_before said.builders b second.builder
new_from (dep_line d) said second = other_key (λ e. e.instance) said.deps d second.each_instance
new_from (feature_line f) said second = tt
new_from (file_line f) said second = other_key (λ g. g.path) said.files f second.each_path
new_from (native_line n) said second = none_before said.natives n second.native
new_from (port_line p) said second = none_before said.ports p second.port
new_from (triplet_line t d) said second = none_before said.triplets (t, d) second.triplet
new_from (version_line v) said second = none_before said.versions v second.version
