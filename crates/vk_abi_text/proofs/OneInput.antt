-- A text has one input whose lists are in order, and is read as that.
use Rattle.std.proofs.Common.{◌≡◌, ◌++◌, ◌∷◌, ℕ, List, [], map, inl, inr, refl, ap, sym, ◌∙◌, subst}
use Rattle.std.specs.Prelude.{flat_map}
use Rattle.std.specs.List.{Contains}
use Rattle.std.specs.declared.cmp.Ordering.{Ordering}
use Rattle.std.specs.declared.cmp.Ordering.TheVariants.{Less, Equal, Greater}
use Rattle.std.proofs.lemmas.List.Elements.{All-contains}
use Rattle.vk_spec.specs.Lists.{NoRepeats}
use Rattle.vk_spec.specs.Manifests.{core as the_core}
use Rattle.vk_spec.proofs.ListLemmas.{contains_cases, contains_first, contains_later, contains_nothing}
use Rattle.vk_resolution.specs.Keys.{Ascends, Key, in_order, key_cmp, put_by, put_in}
use Rattle.vk_resolution.specs.Lines.{ended}
use Rattle.vk_resolution.proofs.Members.{contains_map, map_contains}
use Rattle.vk_resolution.proofs.Orders.{ascending_one, ascends-NoRepeats, contains-in_order, in_order-ascends, in_order-contains}
use Rattle.vk_abi_text.specs.Inputs.{DepDigest, FileDigest, Input}
use Rattle.vk_abi_text.specs.Lines.{abi_text_of, dep_line, feature_line, file_line, heading, line_text, lines_of, text_key}
use Rattle.vk_abi_text.specs.Readings.{IsRead, line_key, ordered}
use Rattle.vk_abi_text.specs.Rights.{IsReadable, IsRightDep, IsRightFeature, IsRightFile, IsRightInput, IsShortFile}
use Rattle.vk_abi_text.specs.Same.{HaveSame}
use Rattle.vk_abi_text.proofs.LineParts.{lines_apart}
use Rattle.vk_abi_text.proofs.PutLemmas.{same_order}
use Rattle.vk_abi_text.proofs.ReadLemmas.{all_from, order_itself}
use Rattle.vk_abi_text.proofs.SameTexts.{text_is_key, texts_tell_inputs}
use Rattle.vk_abi_text.proofs.Selections.{each_line, has_builder, has_dep, has_feature, has_file, has_native, has_port, has_triplet, has_version}

pub what_is_read : (bytes : List ℕ) (i : Input) → IsRead bytes i → bytes ≡ abi_text_of i
what_is_read bytes i read = read.text

-- ---- one input

lists_one : {X : Type 0} (key : X → Key) (xs ys : List X) → in_order key xs ≡ xs → in_order key ys ≡ ys → HaveSame xs ys → xs ≡ ys
lists_one key xs ys one other same =
    ascending_one key xs ys (subst (Ascends key) one (in_order-ascends key xs)) (subst (Ascends key) other (in_order-ascends key ys)) (λ z h. (same z).0 h) (λ z h. (same z).1 h)

pub one_input : (bytes : List ℕ) (i j : Input) → IsRead bytes i → IsRead bytes j → i ≡ j
one_input bytes i j one other =
    let same = texts_tell_inputs i j one.right other.right (sym one.text ∙ other.text) in
    let features = lists_one (λ f. line_key (feature_line f)) i.features j.features (ap (λ x. x.features) one.ordered) (ap (λ x. x.features) other.ordered) same.features in
    let files = lists_one (λ f. line_key (file_line f)) i.files j.files (ap (λ x. x.files) one.ordered) (ap (λ x. x.files) other.ordered) same.files in
    let deps = lists_one (λ d. line_key (dep_line d)) i.deps j.deps (ap (λ x. x.deps) one.ordered) (ap (λ x. x.deps) other.ordered) same.deps in
    λ k. record {
      builder = same.builder k;
      port = same.port k;
      version = same.version k;
      features = features k;
      triplet = same.triplet k;
      triplet_digest = same.triplet_digest k;
      native = same.native k;
      files = files k;
      deps = deps k;
    }

-- ---- lists in the order of texts have the same members

module _ {X : Type 0} (f : X → List ℕ) where
  by_map : (o : Ordering) (x y : X) (ys later : List X) (texts : List (List ℕ)) → map f later ≡ texts → map f (put_by o x y ys later) ≡ put_by o (f x) (f y) (map f ys) texts
  by_map Less x y ys later texts e = refl
  by_map Equal x y ys later texts e = refl
  by_map Greater x y ys later texts e = ap (λ l. f y ∷ l) e

  put_map : (x : X) (ys : List X) → map f (put_in (λ z. text_key (f z)) x ys) ≡ put_in text_key (f x) (map f ys)
  put_map x [] = refl
  put_map x (y ∷ ys) = by_map (key_cmp (text_key (f x)) (text_key (f y))) x y ys (put_in (λ z. text_key (f z)) x ys) (put_in text_key (f x) (map f ys)) (put_map x ys)

  pub sorted_map : (xs : List X) → map f (in_order (λ z. text_key (f z)) xs) ≡ in_order text_key (map f xs)
  sorted_map [] = refl
  sorted_map (x ∷ xs) = put_map x (in_order (λ z. text_key (f z)) xs) ∙ ap (put_in text_key (f x)) (sorted_map xs)

  pub sorted_same : (xs : List X) → ((x y : X) → Contains xs x → Contains xs y → f x ≡ f y → x ≡ y) → HaveSame (in_order (λ z. text_key (f z)) xs) xs
  sorted_same xs apart z = (
    contains-in_order (λ w. text_key (f w)) xs z,
    (λ h.
        let there : Contains (map f (in_order (λ w. text_key (f w)) xs)) (f z) =
        subst (λ l. Contains l (f z)) (sym (sorted_map xs)) (in_order-contains text_key text_is_key (map f xs) (f z) (map_contains f xs z h)) in
        let it = contains_map f (in_order (λ w. text_key (f w)) xs) (f z) there in
        subst (Contains (in_order (λ w. text_key (f w)) xs)) (apart it.0 z (contains-in_order (λ w. text_key (f w)) xs it.0 it.1) h it.2) it.1),
  )

-- ---- keys without repeats

module _ {X K : Type 0} (key : X → K) where
  pub keys_tell : (xs : List X) → NoRepeats (map key xs) → (a b : X) → Contains xs a → Contains xs b → key a ≡ key b → a ≡ b
  keys_tell [] each a b ha hb e = absurd (contains_nothing a ha)
  keys_tell (x ∷ xs) each a b ha hb e = elim (contains_cases x a xs ha) [
    | inl is_a ↦ elim (contains_cases x b xs hb) [
      | inl is_b ↦ sym is_a ∙ is_b
      | inr in_b ↦ absurd (each.0 (subst (Contains (map key xs)) (sym e ∙ ap key (sym is_a)) (map_contains key xs b in_b)))
    ]
    | inr in_a ↦ elim (contains_cases x b xs hb) [
      | inl is_b ↦ absurd (each.0 (subst (Contains (map key xs)) (e ∙ ap key (sym is_b)) (map_contains key xs a in_a)))
      | inr in_b ↦ keys_tell xs each.1 a b in_a in_b e
    ]
  ]

  pub no_repeats_by : (ys : List X) → NoRepeats ys → ((a b : X) → Contains ys a → Contains ys b → key a ≡ key b → a ≡ b) → NoRepeats (map key ys)
  no_repeats_by [] each tell = tt
  no_repeats_by (y ∷ ys) each tell = (
    (λ h. let it = contains_map key ys (key y) h in each.0 (subst (Contains ys) (tell it.0 y (contains_later y it.0 ys it.1) (contains_first y ys) it.2) it.1)),
    no_repeats_by ys each.1 (λ a b ha hb e. tell a b (contains_later y a ys ha) (contains_later y b ys hb) e),
  )

-- ---- the input of a text, in order

feature_is : (x y : List ℕ) → feature_line x ≡ feature_line y → x ≡ y
feature_is x y e = (cc)

file_is : (x y : FileDigest) → file_line x ≡ file_line y → x ≡ y
file_is x y e = (cc)

dep_is : (x y : DepDigest) → dep_line x ≡ dep_line y → x ≡ y
dep_is x y e = (cc)

module _ (i : Input) (right : IsRightInput i) where
  abbrev feature_by : List ℕ → Key
  feature_by f = line_key (feature_line f)

  abbrev file_by : FileDigest → Key
  file_by f = line_key (file_line f)

  abbrev dep_by : DepDigest → Key
  dep_by d = line_key (dep_line d)

  same_features : HaveSame (in_order feature_by i.features) i.features
  same_features = sorted_same (λ f. line_text (feature_line f)) i.features
      (λ x y hx hy e. feature_is x y (lines_apart (feature_line x) (feature_line y) (All-contains IsRightFeature i.features x right.features hx) (All-contains IsRightFeature i.features y right.features hy) e))

  same_files : HaveSame (in_order file_by i.files) i.files
  same_files = sorted_same (λ f. line_text (file_line f)) i.files
      (λ x y hx hy e. file_is x y (lines_apart (file_line x) (file_line y) (All-contains IsRightFile i.files x right.files hx) (All-contains IsRightFile i.files y right.files hy) e))

  same_deps : HaveSame (in_order dep_by i.deps) i.deps
  same_deps = sorted_same (λ d. line_text (dep_line d)) i.deps
      (λ x y hx hy e. dep_is x y (lines_apart (dep_line x) (dep_line y) (All-contains IsRightDep i.deps x right.deps hx) (All-contains IsRightDep i.deps y right.deps hy) e))

  ordered_right : IsRightInput (ordered i)
  ordered_right = record {
    builder = right.builder;
    port = right.port;
    version = right.version;
    features = all_from IsRightFeature (in_order feature_by i.features) (λ f h. All-contains IsRightFeature i.features f right.features ((same_features f).0 h));
    core = (same_features the_core).1 right.core;
    each_feature = ascends-NoRepeats feature_by (in_order feature_by i.features) (in_order-ascends feature_by i.features);
    triplet = right.triplet;
    triplet_digest = right.triplet_digest;
    files = all_from IsRightFile (in_order file_by i.files) (λ f h. All-contains IsRightFile i.files f right.files ((same_files f).0 h));
    each_path = no_repeats_by (λ f. f.path) (in_order file_by i.files) (ascends-NoRepeats file_by (in_order file_by i.files) (in_order-ascends file_by i.files))
        (λ a b ha hb e. keys_tell (λ f. f.path) i.files right.each_path a b ((same_files a).0 ha) ((same_files b).0 hb) e);
    deps = all_from IsRightDep (in_order dep_by i.deps) (λ d h. All-contains IsRightDep i.deps d right.deps ((same_deps d).0 h));
    each_instance = no_repeats_by (λ d. d.instance) (in_order dep_by i.deps) (ascends-NoRepeats dep_by (in_order dep_by i.deps) (in_order-ascends dep_by i.deps))
        (λ a b ha hb e. keys_tell (λ d. d.instance) i.deps right.each_instance a b ((same_deps a).0 ha) ((same_deps b).0 hb) e);
  }

  same_lines : HaveSame (lines_of i) (lines_of (ordered i))
  same_lines l = (
    each_line i (Contains (lines_of (ordered i))) (has_builder (ordered i)) (has_native (ordered i)) (has_port (ordered i)) (has_triplet (ordered i)) (has_version (ordered i))
        (λ d h. has_dep (ordered i) d ((same_deps d).1 h)) (λ f h. has_feature (ordered i) f ((same_features f).1 h)) (λ f h. has_file (ordered i) f ((same_files f).1 h)) l,
    each_line (ordered i) (Contains (lines_of i)) (has_builder i) (has_native i) (has_port i) (has_triplet i) (has_version i)
        (λ d h. has_dep i d ((same_deps d).0 h)) (λ f h. has_feature i f ((same_features f).0 h)) (λ f h. has_file i f ((same_files f).0 h)) l,
  )

  same_texts : HaveSame (map line_text (lines_of i)) (map line_text (lines_of (ordered i)))
  same_texts t = (
    (λ h. let it = contains_map line_text (lines_of i) t h in subst (Contains (map line_text (lines_of (ordered i)))) it.2 (map_contains line_text (lines_of (ordered i)) it.0 ((same_lines it.0).0 it.1))),
    (λ h. let it = contains_map line_text (lines_of (ordered i)) t h in subst (Contains (map line_text (lines_of i))) it.2 (map_contains line_text (lines_of i) it.0 ((same_lines it.0).1 it.1))),
  )

  -- the text of a right input is read as the input, its lists in order
  pub read_again : IsReadable i → IsRead (abi_text_of i) (ordered i)
  read_again readable = record {
    text = ap (λ texts. heading ++ flat_map ended texts) (same_order (map line_text (lines_of i)) (map line_text (lines_of (ordered i))) same_texts);
    right = ordered_right;
    readable = record {
      builder = readable.builder;
      version = readable.version;
      files = all_from IsShortFile (in_order file_by i.files) (λ f h. All-contains IsShortFile i.files f readable.files ((same_files f).0 h));
    };
    ordered = λ k. record {
      builder = i.builder;
      port = i.port;
      version = i.version;
      features = order_itself feature_by (in_order feature_by i.features) (in_order-ascends feature_by i.features) k;
      triplet = i.triplet;
      triplet_digest = i.triplet_digest;
      native = i.native;
      files = order_itself file_by (in_order file_by i.files) (in_order-ascends file_by i.files) k;
      deps = order_itself dep_by (in_order dep_by i.deps) (in_order-ascends dep_by i.deps) k;
    };
  }
