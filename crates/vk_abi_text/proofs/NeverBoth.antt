-- No text is refused.
use Rattle.std.proofs.Common.{◌≡◌, ◌≤◌, ◌+◌, ◌++◌, ◌∷◌, ℕ, List, [], length, length-append, map, inr, refl, ap, sym, ◌∙◌, subst, append_assoc, arith}
use Rattle.std.specs.Prelude.{flat_map}
use Rattle.std.specs.List.{All, Contains}
use Rattle.std.proofs.lemmas.List.{append-nil, append_cancel_left, map-append}
use Rattle.std.proofs.lemmas.Grind.{flat_map-append}
use Rattle.std.proofs.lemmas.List.Elements.{All-contains, All-head, All-tail}
use Rattle.std.proofs.lemmas.List.Folds.{flat_map-map}
use Rattle.vk_spec.specs.Lists.{NoRepeats}
use Rattle.vk_spec.specs.Manifests.{core as the_core}
use Rattle.vk_spec.proofs.ListLemmas.{contains_first, contains_later, contains_nothing, contains-flat_map, no_repeats_append}
use Rattle.vk_base.specs.declared.stops.Unread.TheVariants as unread
use Rattle.std.specs.Prelude.{Ok, Err}
use Rattle.vk_resolution.specs.Keys.{Ascends, in_order}
use Rattle.vk_resolution.specs.Lines.{ended}
use Rattle.vk_resolution.proofs.Members.{contains_single}
use Rattle.vk_resolution.proofs.Orders.{ascends-NoRepeats, contains-in_order, in_order-ascends}
use Rattle.vk_base.specs.Paths.{Lacks}
use Rattle.vk_forms.proofs.PairForms.{lacks_none, same_pair}
use Rattle.vk_abi_text.specs.Gathered.{builders_in, deps_in, features_in, files_in, gathered, natives_in, ports_in, triplets_in, versions_in}
use Rattle.vk_abi_text.specs.Inputs.{Input}
use Rattle.vk_abi_text.specs.Lines.{AbiLine, abi_text_of, builder_line, dep_line, feature_line, file_line, first_text, heading, line_text, lines_of, native_line, port_line, texts_of, triplet_line, version_line}
use Rattle.vk_abi_text.specs.Readings.{AreAll, Ends, IsFirstOf, IsInput, IsRead, IsRefusedAt, MayStand, Reading, by_end, by_heading, by_heading_end, by_line, line_key, ordered, text_of_lines}
use Rattle.vk_abi_text.specs.Rights.{IsReadable, IsReadableLine, IsRightDep, IsRightFeature, IsRightFile, IsRightInput, IsRightLine, IsShortFile}
use Rattle.vk_abi_text.specs.Views.{input_view, line_in}
use Rattle.vk_abi_text.proofs.Gathers.{builders_back, deps_back, features_back, files_back, natives_back, ports_back, right_of, triplets_back, versions_back}
use Rattle.vk_abi_text.proofs.LineBytes.{line_whole}
use Rattle.vk_abi_text.proofs.LineParts.{lines_apart}
use Rattle.vk_abi_text.proofs.OneInput.{keys_tell, no_repeats_by, one_input, read_again, sorted_map, sorted_same}
use Rattle.vk_abi_text.proofs.ReadLemmas.{all_from, readable_last, some_line}
use Rattle.vk_abi_text.proofs.SameTexts.{lines_right}
use Rattle.vk_abi_text.proofs.Selections.{builder_of, deps_of, each_line, files_of, has_builder, has_feature, has_native, has_port, has_triplet, has_version, in_front, native_of, port_of, selected, triplet_of, version_of}

-- a line is of one kind
total : (l : AbiLine) → length (builders_in l) + (length (deps_in l) + (length (features_in l) + (length (files_in l) + (length (natives_in l) + (length (ports_in l) + (length (triplets_in l) + length (versions_in l))))))) ≡ 1
total (builder_line b) = refl
total (dep_line d) = refl
total (feature_line f) = refl
total (file_line f) = refl
total (native_line n) = refl
total (port_line p) = refl
total (triplet_line t d) = refl
total (version_line v) = refl

few_once : {X : Type 0} (xs : List X) → length xs ≤ 1 → NoRepeats xs
few_once [] few = tt
few_once (x ∷ []) few = ((λ h. contains_nothing x h), tt)
few_once (x ∷ y ∷ xs) few = absurd (omega (arith, few))

once_few : {X : Type 0} (a : X) (xs : List X) → NoRepeats xs → ((x : X) → Contains xs x → a ≡ x) → length xs ≤ 1
once_few a [] each all = omega arith
once_few a (x ∷ []) each all = omega arith
once_few a (x ∷ y ∷ xs) each all =
    absurd (each.0 (subst (Contains (y ∷ xs)) (sym (all y (contains_later x y (y ∷ xs) (contains_first y xs))) ∙ all x (contains_first x (y ∷ xs))) (contains_first y xs)))

module _ {X : Type 0} (sel : AbiLine → List X) (make : X → AbiLine) (few : (l : AbiLine) → length (sel l) ≤ 1) (back : (lines : List AbiLine) (x : X) → Contains (flat_map sel lines) x → Contains lines (make x)) where
  line_is : (l : AbiLine) (x : X) → Contains (sel l) x → l ≡ make x
  line_is l x h = contains_single l (make x) (back (l ∷ []) x (in_front (sel l) [] x h))

  each_once : (lines : List AbiLine) → NoRepeats lines → NoRepeats (flat_map sel lines)
  each_once [] each = tt
  each_once (l ∷ lines) each =
      no_repeats_append (sel l) (flat_map sel lines) (few_once (sel l) (few l)) (each_once lines each.1)
      (λ x here later. let it = contains-flat_map sel lines x later in each.0 (subst (Contains lines) (line_is it.0 x it.2 ∙ sym (line_is l x here)) it.1))

  at_most_one : (lines : List AbiLine) (all : List AbiLine) (a : X) → NoRepeats lines → ((l : AbiLine) → Contains lines l → Contains all l) → flat_map sel all ≡ a ∷ [] → ((x : X) → sel (make x) ≡ x ∷ []) → length (flat_map sel lines) ≤ 1
  at_most_one lines all a each within one is =
      once_few a (flat_map sel lines) (each_once lines each) (λ x h. contains_single a x (subst (λ l. Contains l x) one (selected sel make all x (is x) (within (make x) (back lines x h)))))

-- ---- the lines of an input in order may stand

module _ (i : Input) (right : IsRightInput i) (readable : IsReadable i) where
  abbrev ls : List AbiLine
  ls = in_order line_key (lines_of i)

  within : (l : AbiLine) → Contains ls l → Contains (lines_of i) l
  within = contains-in_order line_key (lines_of i)

  all_there : (l : AbiLine) → Contains (lines_of i) l → Contains ls l
  all_there l h = (sorted_same line_text (lines_of i) (λ x y hx hy e. lines_apart x y (lines_right i right x hx) (lines_right i right y hy) e) l).1 h

  once : NoRepeats ls
  once = ascends-NoRepeats line_key ls (in_order-ascends line_key (lines_of i))

  fine : (l : AbiLine) → Contains (lines_of i) l → IsReadableLine l
  fine = each_line i IsReadableLine (right.builder, readable.builder) tt right.port (right.triplet, right.triplet_digest) (right.version, readable.version)
      (λ d h. All-contains IsRightDep i.deps d right.deps h) (λ f h. All-contains IsRightFeature i.features f right.features h) (λ f h. (All-contains IsRightFile i.files f right.files h, All-contains IsShortFile i.files f readable.files h))

  in_deps : (d : _) → Contains (flat_map deps_in ls) d → Contains i.deps d
  in_deps d h = subst (λ l. Contains l d) (deps_of i) (selected deps_in dep_line (lines_of i) d refl (within (dep_line d) (deps_back ls d h)))

  in_files : (f : _) → Contains (flat_map files_in ls) f → Contains i.files f
  in_files f h = subst (λ l. Contains l f) (files_of i) (selected files_in file_line (lines_of i) f refl (within (file_line f) (files_back ls f h)))

  ls_stand : MayStand ls
  ls_stand = record {
    readable = all_from IsReadableLine ls (λ l h. fine l (within l h));
    ascends = in_order-ascends line_key (lines_of i);
    no_second = record {
      builder = at_most_one builders_in builder_line (λ l. omega (arith, total l)) builders_back ls (lines_of i) i.builder once within (builder_of i) (λ x. refl);
      each_instance = no_repeats_by (λ d. d.instance) (flat_map deps_in ls) (each_once deps_in dep_line (λ l. omega (arith, total l)) deps_back ls once)
          (λ a b ha hb e. keys_tell (λ d. d.instance) i.deps right.each_instance a b (in_deps a ha) (in_deps b hb) e);
      each_feature = each_once features_in feature_line (λ l. omega (arith, total l)) features_back ls once;
      each_path = no_repeats_by (λ f. f.path) (flat_map files_in ls) (each_once files_in file_line (λ l. omega (arith, total l)) files_back ls once)
          (λ a b ha hb e. keys_tell (λ f. f.path) i.files right.each_path a b (in_files a ha) (in_files b hb) e);
      native = at_most_one natives_in native_line (λ l. omega (arith, total l)) natives_back ls (lines_of i) i.native once within (native_of i) (λ x. refl);
      port = at_most_one ports_in port_line (λ l. omega (arith, total l)) ports_back ls (lines_of i) i.port once within (port_of i) (λ x. refl);
      triplet = at_most_one triplets_in (λ t. triplet_line t.0 t.1) (λ l. omega (arith, total l)) triplets_back ls (lines_of i) (i.triplet, i.triplet_digest) once within (triplet_of i) (λ x. refl);
      version = at_most_one versions_in version_line (λ l. omega (arith, total l)) versions_back ls (lines_of i) i.version once within (version_of i) (λ x. refl);
    };
  }

  some_in : {X : Type 0} (sel : AbiLine → List X) (make : X → AbiLine) (x : X) → sel (make x) ≡ x ∷ [] → Contains (lines_of i) (make x) → flat_map sel ls ≡ [] → ⊥
  some_in sel make x is there e = contains_nothing x (subst (λ l. Contains l x) e (selected sel make ls x is (all_there (make x) there)))

  ls_all : AreAll (gathered ls)
  ls_all = record {
    builder = some_in builders_in builder_line i.builder refl (has_builder i);
    core = selected features_in feature_line ls the_core refl (all_there (feature_line the_core) (has_feature i the_core right.core));
    native = some_in natives_in native_line i.native refl (has_native i);
    port = some_in ports_in port_line i.port refl (has_port i);
    triplet = some_in triplets_in (λ t. triplet_line t.0 t.1) (i.triplet, i.triplet_digest) refl (has_triplet i);
    version = some_in versions_in version_line i.version refl (has_version i);
  }

  ls_text : text_of_lines ls ≡ flat_map ended (texts_of i)
  ls_text = sym (flat_map-map ended line_text ls) ∙ ap (flat_map ended) (sorted_map line_text (lines_of i))

-- ---- lines that may stand begin the lines of the text

some_text : (text rest : List ℕ) → ended text ++ rest ≡ [] → ⊥
some_text [] rest e = (cc)
some_text (b ∷ text) rest e = (cc)

begins : (lines xs : List AbiLine) (left : List ℕ) → All IsReadableLine lines → All IsReadableLine xs → text_of_lines xs ≡ text_of_lines lines ++ left → (rest : List AbiLine) × ((xs ≡ lines ++ rest) × (left ≡ text_of_lines rest))
begins [] xs left one other e = (xs, (refl, sym e))
begins (l ∷ lines) [] left one other e = absurd (some_text (line_text l) (text_of_lines lines ++ left) (sym (append_assoc (ended (line_text l)) (text_of_lines lines) left) ∙ sym e))
begins (l ∷ lines) (x ∷ xs) left one other e =
    let fine_l = right_of l (All-head IsReadableLine l lines one) in
    let fine_x = right_of x (All-head IsReadableLine x xs other) in
    let same = same_pair 10 (line_text x) (line_text l) (text_of_lines xs) (text_of_lines lines ++ left) (line_whole x fine_x) (line_whole l fine_l)
    (sym (append_assoc (line_text x) (10 ∷ []) (text_of_lines xs)) ∙ e ∙ append_assoc (ended (line_text l)) (text_of_lines lines) left ∙ append_assoc (line_text l) (10 ∷ []) (text_of_lines lines ++ left)) in
    let it = begins lines xs left (All-tail IsReadableLine l lines one) (All-tail IsReadableLine x xs other) same.1 in
    (it.0, (ap (λ y. y ∷ xs) (lines_apart x l fine_x fine_l same.0) ∙ ap (λ ys. l ∷ ys) it.1.0, it.1.1))

-- ---- what begins lines that may stand may stand

all_first : {X : Type 0} (P : X → Type 0) (xs ys : List X) → All P (xs ++ ys) → All P xs
all_first P xs ys all = all_from P xs (λ x h. All-contains P (xs ++ ys) x all (in_front xs ys x h))

ascends_first : (xs ys : List AbiLine) → Ascends line_key (xs ++ ys) → Ascends line_key xs
ascends_first [] ys a = tt
ascends_first (x ∷ xs) ys a = ((λ y h. a.0 y (in_front xs ys y h)), ascends_first xs ys a.1)

once_first : {X : Type 0} (xs ys : List X) → NoRepeats (xs ++ ys) → NoRepeats xs
once_first [] ys each = tt
once_first (x ∷ xs) ys each = ((λ h. each.0 (in_front xs ys x h)), once_first xs ys each.1)

few_first : {X : Type 0} (sel : AbiLine → List X) (xs ys : List AbiLine) → length (flat_map sel (xs ++ ys)) ≤ 1 → length (flat_map sel xs) ≤ 1
few_first sel xs ys few = omega (arith, few, ap length (flat_map-append sel xs ys), length-append (flat_map sel xs) (flat_map sel ys))

key_first : {X K : Type 0} (key : X → K) (sel : AbiLine → List X) (xs ys : List AbiLine) → NoRepeats (map key (flat_map sel (xs ++ ys))) → NoRepeats (map key (flat_map sel xs))
key_first key sel xs ys each =
    once_first (map key (flat_map sel xs)) (map key (flat_map sel ys))
    (subst NoRepeats (ap (map key) (flat_map-append sel xs ys) ∙ map-append key (flat_map sel xs) (flat_map sel ys)) each)

stand_first : (xs ys : List AbiLine) → MayStand (xs ++ ys) → MayStand xs
stand_first xs ys stand = let old = stand.no_second in record {
  readable = all_first IsReadableLine xs ys stand.readable;
  ascends = ascends_first xs ys stand.ascends;
  no_second = record {
    builder = few_first builders_in xs ys old.builder;
    each_instance = key_first (λ d. d.instance) deps_in xs ys old.each_instance;
    each_feature = once_first (flat_map features_in xs) (flat_map features_in ys) (subst NoRepeats (flat_map-append features_in xs ys) old.each_feature);
    each_path = key_first (λ f. f.path) files_in xs ys old.each_path;
    native = few_first natives_in xs ys old.native;
    port = few_first ports_in xs ys old.port;
    triplet = few_first triplets_in xs ys old.triplet;
    version = few_first versions_in xs ys old.version;
  };
}

stuck : (lines rest : List AbiLine) (left : List ℕ) → MayStand (lines ++ rest) → AreAll (gathered (lines ++ rest)) → left ≡ text_of_lines rest
    → ((line : AbiLine) → IsFirstOf line left → MayStand (lines ++ line ∷ []) → ⊥) → (left ≡ [] → AreAll (gathered lines) → ⊥) → ⊥
stuck lines [] left stand all e unwanted lacking = lacking e (subst (λ l. AreAll (gathered l)) (append-nil lines) all)
stuck lines (x ∷ rest) left stand all e unwanted lacking =
    unwanted x (inr (text_of_lines rest, e)) (stand_first (lines ++ x ∷ []) rest (subst MayStand (sym (append_assoc lines (x ∷ []) rest)) stand))

first_alone : (more : List ℕ) → first_text ≡ heading ++ more → ⊥
first_alone more e = (cc)

-- a line without its end isn't lines with theirs
unended : (last : AbiLine) → IsRightLine last → (rest : List AbiLine) → line_text last ≡ text_of_lines rest → ⊥
unended last right [] e = some_line last e
unended last right (x ∷ rest) e =
    lacks_none 10 (line_text x) (text_of_lines rest) (subst (Lacks 10) (e ∙ append_assoc (line_text x) (10 ∷ []) (text_of_lines rest)) (line_whole last right))

pub never_both : (bytes : List ℕ) (i : Input) (n : ℕ) → IsRead bytes i → IsRefusedAt bytes n → ⊥
never_both bytes i n read (by_heading number alone none) = none (flat_map ended (texts_of i)) read.text
never_both bytes i n read (by_heading_end number alone) = first_alone (flat_map ended (texts_of i)) (sym alone ∙ read.text)
never_both bytes i n read (by_end lines last split stand number) =
    let here : heading ++ flat_map ended (texts_of i) ≡ heading ++ (text_of_lines lines ++ line_text last) = sym read.text ∙ split ∙ append_assoc heading (text_of_lines lines) (line_text last) in
    let same = append_cancel_left heading (flat_map ended (texts_of i)) (text_of_lines lines ++ line_text last) here in
    let whole = ls_stand i read.right read.readable in
    let it = begins lines (ls i read.right read.readable) (line_text last) (stand_first lines (last ∷ []) stand).readable whole.readable (ls_text i read.right read.readable ∙ same) in
    unended last (right_of last (readable_last lines last stand)) it.0 it.1.1
never_both bytes i n read (by_line lines left split stand number unwanted lacking) =
    let here : heading ++ flat_map ended (texts_of i) ≡ heading ++ (text_of_lines lines ++ left) = sym read.text ∙ split ∙ append_assoc heading (text_of_lines lines) left in
    let same = append_cancel_left heading (flat_map ended (texts_of i)) (text_of_lines lines ++ left) here in
    let whole = ls_stand i read.right read.readable in
    let it = begins lines (ls i read.right read.readable) left stand.readable whole.readable (ls_text i read.right read.readable ∙ same) in
    stuck lines it.0 left (subst MayStand it.1.0 whole) (subst (λ l. AreAll (gathered l)) it.1.0 (ls_all i read.right read.readable)) it.1.1 unwanted lacking

pub read_only_so : (i : Input) → IsRightInput i → IsReadable i → (answer : Reading) → Ends (abi_text_of i) answer → IsInput (ordered i) answer
read_only_so i right readable (Ok input) ends = one_input (abi_text_of i) (input_view input) (ordered i) ends (read_again i right readable)
read_only_so i right readable (Err (unread.Fault fault)) ends = never_both (abi_text_of i) (ordered i) (line_in fault) (read_again i right readable) ends
read_only_so i right readable (Err (unread.Memory memory)) ends = tt
