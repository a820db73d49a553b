-- An ABI text is read line by line.
use Rattle.std.proofs.Common.{◌≡◌, ◌≢◌, ◌<◌, ◌==◌, ◌+◌, ◌^◌, ◌++◌, ◌∷◌, ℕ, Bool, true, false, Decides, List, [], length, length-append, map, inl, inr, refl, ap, sym, ◌∙◌, subst, append_assoc, arith, codes}
use Rattle.std.specs.Prelude.{IfSome, Err, flat_map, not}
use Rattle.std.specs.List.{All, Contains}
use Rattle.std.specs.Str.{IsUtf8}
use Rattle.std.proofs.lemmas.List.{append-nil}
use Rattle.std.proofs.lemmas.Bool.Decides.{nat_tests}
use Rattle.std.proofs.lemmas.List.Elements.{All-cons, All-contains, All-head, All-nil, All-tail, All-weaker}
use Rattle.std.proofs.lemmas.List.Folds.{flat_map-map}
use Rattle.std.proofs.lemmas.Grind.{flat_map-append}
use Rattle.std.proofs.lemmas.Str.{IsUtf8-from_ascii}
use Rattle.std.proofs.lemmas.Str.Ascii.{IsAscii-from_all}
use Rattle.vk_spec.specs.Lists.{NoRepeats}
use Rattle.vk_spec.specs.Manifests.{core as the_core}
use Rattle.vk_spec.proofs.ListLemmas.{contains_first, contains_later}
use Rattle.vk_base.specs.Paths.{Lacks}
use Rattle.vk_base.specs.Stops.{fault_in}
use Rattle.vk_base.specs.declared.stops.Unread.{Unread}
use Rattle.vk_base.specs.declared.stops.Unread.TheVariants as unread
use Rattle.vk_base.proofs.PathLemmas.{lacks_byte}
use Rattle.vk_resolution.specs.Keys.{Ascends, Key, in_order, key_cmp, put_by, put_in}
use Rattle.vk_resolution.specs.Lines.{ended}
use Rattle.vk_resolution.proofs.Members.{contains_map, contains_single, map_contains}
use Rattle.vk_resolution.proofs.Orders.{ascending_one, contains-in_order, in_order-ascends, in_order-contains}
use Rattle.vk_forms.specs.Lines.{IsLineText, NoLine}
use Rattle.vk_forms.proofs.PairForms.{lacks_none, same_pair}
use Rattle.vk_forms.proofs.Shown.{IsShown, shown_by}
use Rattle.vk_abi_text.specs.Adding.{Adds, AreOrdered, CountsLast, Follows, IsInputOf, IsNew, IsNext, Led, last_text, with_line}
use Rattle.vk_abi_text.specs.Gathered.{Gathered, builders_in, deps_in, features_in, files_in, gathered, natives_in, ports_in, triplets_in, versions_in}
use Rattle.vk_abi_text.specs.Inputs.{DepDigest, FileDigest, Input}
use Rattle.vk_abi_text.specs.Lines.{AbiLine, builder_line, dep_line, feature_line, file_line, heading, line_text, lines_of, native_line, port_line, text_key, texts_of, triplet_line, version_line}
use Rattle.vk_abi_text.specs.Readings.{AreAll, Ends, HaveNoSecond, IsFirstOf, IsRead, IsRefusedAt, MayStand, by_end, by_heading, by_line, line_key, ordered, text_of_lines}
use Rattle.vk_abi_text.specs.Rights.{IsReadable, IsReadableLine, IsRightDep, IsRightFeature, IsRightFile, IsRightInput, IsShortFile}
use Rattle.vk_abi_text.specs.Views.{line_in}
use Rattle.vk_abi_text.specs.declared.readers.AbiFault.{AbiFault}
use Rattle.std.specs.declared.cmp.Ordering.TheVariants.{Less}
use Rattle.vk_abi_text.proofs.Gathers.{above_last, builders_back, deps_back, features_back, files_back, gathered_more, last_more, natives_back, new_from, ports_back, right_of, stand_more, triplets_back, versions_back}
use Rattle.vk_abi_text.proofs.LineBytes.{line_utf8, line_whole}
use Rattle.vk_abi_text.proofs.LineParts.{lines_apart}
use Rattle.vk_abi_text.proofs.PutLemmas.{bytes_cmp}
use Rattle.vk_abi_text.proofs.SameTexts.{text_is_key}
use Rattle.vk_abi_text.proofs.Selections.{each_line, has_builder, has_dep, has_feature, has_file, has_native, has_port, has_triplet, has_version, in_back, selected}

-- ---- the next line

pub follows_read : (last text : List ℕ) (x : AbiLine) → text ≡ line_text x → IsReadableLine x → bytes_cmp last text ≡ Less → (before after : Gathered) (fits : Bool) → Adds x before after fits → Follows last text before after fits
follows_read last text x is readable above before after true adds = (x, (record { readable = readable; is = is; above = above; new = adds.0 }, adds.1))
follows_read last text x is readable above before after false refused = λ y next.
    let same : y ≡ x = lines_apart y x (right_of y next.readable) (right_of x readable) (sym next.is ∙ is) in
    refused (subst (λ l. IsNew l before) same next.new)

text_more : (lines : List AbiLine) (x : AbiLine) (rest : List ℕ) → (heading ++ text_of_lines lines) ++ (line_text x ++ 10 ∷ rest) ≡ (heading ++ text_of_lines (lines ++ x ∷ [])) ++ rest
text_more lines x rest =
    ap (λ l. (heading ++ text_of_lines lines) ++ l) (sym (append_assoc (line_text x) (10 ∷ []) rest))
    ∙ sym (append_assoc (heading ++ text_of_lines lines) (ended (line_text x)) rest)
    ∙ ap (λ l. l ++ rest) (append_assoc heading (text_of_lines lines) (ended (line_text x))
    ∙ ap (λ l. heading ++ l) (ap (λ l. text_of_lines lines ++ l) (sym (append-nil (ended (line_text x)))) ∙ sym (flat_map-append (λ l. ended (line_text l)) lines (x ∷ []))))

pub led_start : (bytes : List ℕ) → length bytes < 2 ^ 32 → (line rest : List ℕ) → bytes ≡ line ++ 10 ∷ rest → line ≡ codes "abi 2" → (said : Gathered) → said ≡ gathered [] → Led bytes said [] rest 2
led_start bytes small line rest cut is said none =
    let count = ap length cut in
    let parts = length-append line (10 ∷ rest) in
    let five : length line ≡ 5 = ap length is in record {
      lines = [];
      split = cut ∙ ap (λ l. l ++ 10 ∷ rest) is;
      stand = record { readable = All-nil IsReadableLine; ascends = tt; no_second = record { builder = omega arith; each_instance = tt; each_feature = tt; each_path = tt; native = omega arith; port = omega arith; triplet = omega arith; version = omega arith } };
      all = none;
      ordered = record { deps = tt; features = tt; files = tt };
      last_is = refl;
      count = refl;
      room = omega (arith, small, count, parts, five);
    }

pub led_more : (bytes : List ℕ) (said after : Gathered) (last left text rest : List ℕ) (n : ℕ) → Led bytes said last left n → left ≡ text ++ 10 ∷ rest → Follows last text said after true → Led bytes after text rest (n + 1)
led_more bytes said after last left text rest n led cut next =
    let x = next.0 in
    let it = next.1.0 in
    let above : bytes_cmp (last_text led.lines) (line_text x) ≡ Less = subst (λ t. bytes_cmp (last_text led.lines) t ≡ Less) it.is (subst (λ l. bytes_cmp l text ≡ Less) led.last_is it.above) in
    let more = stand_more led.lines led.stand led.ordered x it.readable above (subst (IsNew x) led.all it.new) in
    let parts = length-append text (10 ∷ rest) in
    let count = ap length cut in
    let lines = length-append led.lines (x ∷ []) in
    let before = led.count in
    let room = led.room in record {
      lines = led.lines ++ x ∷ [];
      split = led.split ∙ ap (λ l. (heading ++ text_of_lines led.lines) ++ l) (cut ∙ ap (λ t. t ++ 10 ∷ rest) it.is) ∙ text_more led.lines x rest;
      stand = more.0;
      all = next.1.1 ∙ ap (with_line x) led.all ∙ sym (gathered_more led.lines x);
      ordered = more.1;
      last_is = it.is ∙ sym (last_more led.lines x);
      count = omega (arith, before, lines);
      room = omega (arith, room, count, parts);
    }

pub readable_last : (lines : List AbiLine) (x : AbiLine) → MayStand (lines ++ x ∷ []) → IsReadableLine x
readable_last lines x stand = All-contains IsReadableLine (lines ++ x ∷ []) x stand.readable (in_back lines (x ∷ []) x (contains_first x []))

not_empty : (line rest : List ℕ) → line ++ 10 ∷ rest ≡ [] → ⊥
not_empty [] rest e = (cc)
not_empty (x ∷ line) rest e = (cc)

-- a line that may stand behind those that were read comes next
comes_next : (bytes : List ℕ) (said : Gathered) (last left : List ℕ) (n : ℕ) (led : Led bytes said last left n) (line : AbiLine) (text : List ℕ) → line_text line ≡ text → MayStand (led.lines ++ line ∷ []) → IsNext last text said line
comes_next bytes said last left n led line text is stand = record {
  readable = readable_last led.lines line stand;
  is = sym is;
  above = subst (λ l. bytes_cmp l text ≡ Less) (sym led.last_is) (subst (λ t. bytes_cmp (last_text led.lines) t ≡ Less) is (above_last led.lines line stand.ascends));
  new = subst (IsNew line) (sym led.all) (new_from line (gathered led.lines) (subst HaveNoSecond (gathered_more led.lines line) stand.no_second));
}

pub led_refused : (bytes : List ℕ) (said after : Gathered) (last left text rest : List ℕ) (n : ℕ) → Led bytes said last left n → left ≡ text ++ 10 ∷ rest → Lacks 10 text → Follows last text said after false → IsRefusedAt bytes n
led_refused bytes said after last left text rest n led cut whole none =
    by_line led.lines left led.split led.stand led.count unwanted (λ empty all. absurd (not_empty text rest (sym cut ∙ empty)))
  where
    unwanted : (line : AbiLine) → IsFirstOf line left → MayStand (led.lines ++ line ∷ []) → ⊥
    unwanted line (inl alone) stand =
        lacks_none 10 text rest (subst (Lacks 10) (sym alone ∙ cut) (line_whole line (right_of line (readable_last led.lines line stand))))
    unwanted line (inr begins) stand =
        let right = right_of line (readable_last led.lines line stand) in
        let same = same_pair 10 (line_text line) text begins.0 rest (line_whole line right) whole (sym (append_assoc (line_text line) (10 ∷ []) begins.0) ∙ sym begins.1 ∙ cut) in
        none line (comes_next bytes said last left n led line text same.0 stand)

no_line_stands : (lines : List AbiLine) (left : List ℕ) → NoLine left → (line : AbiLine) (more : List ℕ) → left ≡ ended (line_text line) ++ more → MayStand (lines ++ line ∷ []) → ⊥
no_line_stands lines left none line more e stand =
    let right = right_of line (readable_last lines line stand) in
    none (line_text line) more record { whole = line_whole line right; utf8 = line_utf8 line right } e

-- last bytes are left without a line feed
pub led_unended : (bytes : List ℕ) (said : Gathered) (last left : List ℕ) (number n : ℕ) → Led bytes said last left number → NoLine left → (left ≡ [] → ⊥) → CountsLast last left said number n → IsRefusedAt bytes n
led_unended bytes said last left number n led none some (inl counts) =
    let line = counts.0 in
    let next = counts.1 in
    let above : bytes_cmp (last_text led.lines) (line_text line) ≡ Less = subst (λ t. bytes_cmp (last_text led.lines) t ≡ Less) next.is (subst (λ l. bytes_cmp l left ≡ Less) led.last_is next.above) in
    let stand = (stand_more led.lines led.stand led.ordered line next.readable above (subst (IsNew line) led.all next.new)).0 in
    let before = led.count in
    let behind = counts.2 in
    by_end led.lines line (led.split ∙ ap (λ l. (heading ++ text_of_lines led.lines) ++ l) next.is) stand (omega (arith, before, behind))
led_unended bytes said last left number n led none some (inr counts) =
    by_line led.lines left led.split led.stand (counts.1 ∙ led.count) unwanted (λ empty all. some empty)
  where
    unwanted : (line : AbiLine) → IsFirstOf line left → MayStand (led.lines ++ line ∷ []) → ⊥
    unwanted line (inl alone) stand = counts.0 line (comes_next bytes said last left number led line left (sym alone) stand)
    unwanted line (inr begins) stand = no_line_stands led.lines left none line begins.0 begins.1 stand

-- bytes that are no line are none that comes next
pub not_a_line : (last left : List ℕ) (said : Gathered) (number : ℕ) → (IsLineText left → ⊥) → CountsLast last left said number number
not_a_line last left said number none = inr (
  (λ line next. let right = right_of line next.readable in none (record { whole = subst (Lacks 10) (sym next.is) (line_whole line right); utf8 = subst IsUtf8 (sym next.is) (line_utf8 line right) })),
  refl,
)

-- no line is empty
pub some_line : (line : AbiLine) → line_text line ≡ [] → ⊥
some_line (builder_line b) e = (cc)
some_line (dep_line d) e = (cc)
some_line (feature_line f) e = (cc)
some_line (file_line f) e = (cc)
some_line (native_line native) e = (cc)
some_line (port_line p) e = (cc)
some_line (triplet_line t digest) e = (cc)
some_line (version_line v) e = (cc)

no_more : (text more : List ℕ) → [] ≡ ended text ++ more → ⊥
no_more [] more e = (cc)
no_more (b ∷ text) more e = (cc)

-- nothing is left, and a line lacks
pub led_lacking : (bytes : List ℕ) (said : Gathered) (last : List ℕ) (n : ℕ) → Led bytes said last [] n → (AreAll said → ⊥) → IsRefusedAt bytes n
led_lacking bytes said last n led lacking =
    by_line led.lines [] led.split led.stand led.count unwanted (λ empty all. lacking (subst AreAll (sym led.all) all))
  where
    unwanted : (line : AbiLine) → IsFirstOf line [] → MayStand (led.lines ++ line ∷ []) → ⊥
    unwanted line (inl alone) stand = some_line line (sym alone)
    unwanted line (inr begins) stand = no_more (line_text line) begins.0 begins.1

first_utf8 : IsUtf8 (codes "abi 2")
first_utf8 = IsUtf8-from_ascii (codes "abi 2") (IsAscii-from_all (codes "abi 2") (All-weaker IsShown (λ c. c < 128) (λ c shown. omega (arith, shown.1)) (codes "abi 2") (shown_by (codes "abi 2") refl)))

pub none_refused : (bytes : List ℕ) → NoLine bytes → (bytes ≡ codes "abi 2" → ⊥) → IsRefusedAt bytes 1
none_refused bytes none other = by_heading refl other (λ rest e. none (codes "abi 2") rest (record { whole = lacks_byte 10 (codes "abi 2") refl; utf8 = first_utf8 }) e)

pub heading_refused : (bytes line rest : List ℕ) → bytes ≡ line ++ 10 ∷ rest → Lacks 10 line → line ≢ codes "abi 2" → IsRefusedAt bytes 1
heading_refused bytes line rest cut whole other = by_heading refl
    (λ e. lacks_none 10 line rest (subst (Lacks 10) (sym e ∙ cut) (lacks_byte 10 (codes "abi 2") refl)))
    (λ more e. other (same_pair 10 line (codes "abi 2") rest more whole (lacks_byte 10 (codes "abi 2") refl) (sym cut ∙ e)).0)

pub ends_refused : (bytes : List ℕ) (n : ℕ) (e : Unread AbiFault) → IfSome (fault_in e) (λ fault. line_in fault ≡ n) → IsRefusedAt bytes n → Ends bytes (Err e)
ends_refused bytes n (unread.Fault fault) is at = subst (IsRefusedAt bytes) (sym is) at
ends_refused bytes n (unread.Memory memory) is at = tt

pub other_heading : {P : Type 0} (test : Bool) → Decides test P → true ≡ not test → P → ⊥
other_heading true decides e is = (cc)
other_heading false decides e is = let clash = decides.1 is in (cc)

pub same_heading : {P : Type 0} (test : Bool) → Decides test P → false ≡ not test → P
same_heading true decides e = decides.0 refl
same_heading false decides e = (cc)

-- ---- all is read

pub order_itself : {X : Type 0} (key : X → Key) (xs : List X) → Ascends key xs → in_order key xs ≡ xs
order_itself key [] a = refl
order_itself key (x ∷ []) a = refl
order_itself key (x ∷ y ∷ xs) a =
    ap (put_in key x) (order_itself key (y ∷ xs) a.1) ∙ ap (λ o. put_by o x y xs (put_in key x xs)) (a.0 y (contains_first y xs))

texts_ascend : (lines : List AbiLine) → Ascends line_key lines → Ascends text_key (map line_text lines)
texts_ascend [] a = tt
texts_ascend (l ∷ lines) a = (
  (λ t h. let it = contains_map line_text lines t h in subst (λ u. key_cmp (line_key l) (text_key u) ≡ Less) it.2 (a.0 it.0 it.1)),
  texts_ascend lines a.1,
)

pub all_from : {X : Type 0} (P : X → Type 0) (xs : List X) → ((x : X) → Contains xs x → P x) → All P xs
all_from P [] each = All-nil P
all_from P (x ∷ xs) each = All-cons P x xs (each x (contains_first x xs)) (all_from P xs (λ y h. each y (contains_later x y xs h)))

module _ (lines : List AbiLine) (stand : MayStand lines) (order : AreOrdered (gathered lines)) (i : Input) (is : IsInputOf (gathered lines) i) where
  fine : (l : AbiLine) → Contains lines l → IsReadableLine l
  fine l h = All-contains IsReadableLine lines l stand.readable h

  in_first : {X : Type 0} (xs : List X) (x : X) → xs ≡ x ∷ [] → Contains xs x
  in_first xs x e = subst (λ l. Contains l x) (sym e) (contains_first x [])

  the_builder : Contains lines (builder_line i.builder)
  the_builder = builders_back lines i.builder (in_first _ i.builder is.builder)

  the_native : Contains lines (native_line i.native)
  the_native = natives_back lines i.native (in_first _ i.native is.native)

  the_port : Contains lines (port_line i.port)
  the_port = ports_back lines i.port (in_first _ i.port is.port)

  the_triplet : Contains lines (triplet_line i.triplet i.triplet_digest)
  the_triplet = triplets_back lines (i.triplet, i.triplet_digest) (in_first _ (i.triplet, i.triplet_digest) is.triplet)

  the_version : Contains lines (version_line i.version)
  the_version = versions_back lines i.version (in_first _ i.version is.version)

  a_dep : (d : DepDigest) → Contains i.deps d → Contains lines (dep_line d)
  a_dep d h = deps_back lines d (subst (λ l. Contains l d) (sym is.deps) h)

  a_feature : (f : List ℕ) → Contains i.features f → Contains lines (feature_line f)
  a_feature f h = features_back lines f (subst (λ l. Contains l f) (sym is.features) h)

  a_file : (f : FileDigest) → Contains i.files f → Contains lines (file_line f)
  a_file f h = files_back lines f (subst (λ l. Contains l f) (sym is.files) h)

  single_is : {X : Type 0} (sel : AbiLine → List X) (make : X → AbiLine) (x y : X) → sel (make y) ≡ y ∷ [] → flat_map sel lines ≡ x ∷ [] → Contains (lines_of i) (make x) → Contains lines (make y) → Contains (lines_of i) (make y)
  single_is sel make x y one all there h = subst (λ z. Contains (lines_of i) (make z)) (contains_single x y (subst (λ l. Contains l y) all (selected sel make lines y one h))) there

  line_in_input : (l : AbiLine) → Contains lines l → Contains (lines_of i) l
  line_in_input (builder_line b) h = single_is builders_in builder_line i.builder b refl is.builder (has_builder i) h
  line_in_input (dep_line d) h = has_dep i d (subst (λ l. Contains l d) is.deps (selected deps_in dep_line lines d refl h))
  line_in_input (feature_line f) h = has_feature i f (subst (λ l. Contains l f) is.features (selected features_in feature_line lines f refl h))
  line_in_input (file_line f) h = has_file i f (subst (λ l. Contains l f) is.files (selected files_in file_line lines f refl h))
  line_in_input (native_line n) h = single_is natives_in native_line i.native n refl is.native (has_native i) h
  line_in_input (port_line p) h = single_is ports_in port_line i.port p refl is.port (has_port i) h
  line_in_input (triplet_line t d) h = single_is triplets_in (λ u. triplet_line u.0 u.1) (i.triplet, i.triplet_digest) (t, d) refl is.triplet (has_triplet i) h
  line_in_input (version_line v) h = single_is versions_in version_line i.version v refl is.version (has_version i) h

  input_line_in : (l : AbiLine) → Contains (lines_of i) l → Contains lines l
  input_line_in = each_line i (Contains lines) the_builder the_native the_port the_triplet the_version a_dep a_feature a_file

  texts_are : texts_of i ≡ map line_text lines
  texts_are =
      ascending_one text_key (texts_of i) (map line_text lines) (in_order-ascends text_key (map line_text (lines_of i))) (texts_ascend lines stand.ascends)
      (λ t h. let it = contains_map line_text (lines_of i) t (contains-in_order text_key (map line_text (lines_of i)) t h) in subst (Contains (map line_text lines)) it.2 (map_contains line_text lines it.0 (input_line_in it.0 it.1)))
      (λ t h. let it = contains_map line_text lines t h in
      in_order-contains text_key text_is_key (map line_text (lines_of i)) t (subst (Contains (map line_text (lines_of i))) it.2 (map_contains line_text (lines_of i) it.0 (line_in_input it.0 it.1))))

  text_is : text_of_lines lines ≡ flat_map ended (texts_of i)
  text_is = sym (flat_map-map ended line_text lines) ∙ ap (flat_map ended) (sym texts_are)

  right : IsRightInput i
  right = record {
    builder = (fine (builder_line i.builder) the_builder).0;
    port = fine (port_line i.port) the_port;
    version = (fine (version_line i.version) the_version).0;
    features = all_from IsRightFeature i.features (λ f h. fine (feature_line f) (a_feature f h));
    core = subst (λ l. Contains l the_core) is.features is.has_core;
    each_feature = subst NoRepeats is.features stand.no_second.each_feature;
    triplet = (fine (triplet_line i.triplet i.triplet_digest) the_triplet).0;
    triplet_digest = (fine (triplet_line i.triplet i.triplet_digest) the_triplet).1;
    files = all_from IsRightFile i.files (λ f h. (fine (file_line f) (a_file f h)).0);
    each_path = subst (λ l. NoRepeats (map (λ f. f.path) l)) is.files stand.no_second.each_path;
    deps = all_from IsRightDep i.deps (λ d h. fine (dep_line d) (a_dep d h));
    each_instance = subst (λ l. NoRepeats (map (λ d. d.instance) l)) is.deps stand.no_second.each_instance;
  }

  readable : IsReadable i
  readable = record {
    builder = (fine (builder_line i.builder) the_builder).1;
    version = (fine (version_line i.version) the_version).1;
    files = all_from IsShortFile i.files (λ f h. (fine (file_line f) (a_file f h)).1);
  }

  order_is : ordered i ≡ i
  order_is = λ k. record {
    builder = i.builder;
    port = i.port;
    version = i.version;
    features = order_itself (λ f. line_key (feature_line f)) i.features (subst (Ascends (λ f. line_key (feature_line f))) is.features order.features) k;
    triplet = i.triplet;
    triplet_digest = i.triplet_digest;
    native = i.native;
    files = order_itself (λ f. line_key (file_line f)) i.files (subst (Ascends (λ f. line_key (file_line f))) is.files order.files) k;
    deps = order_itself (λ d. line_key (dep_line d)) i.deps (subst (Ascends (λ d. line_key (dep_line d))) is.deps order.deps) k;
  }

pub led_read : (bytes : List ℕ) (said : Gathered) (last : List ℕ) (n : ℕ) (i : Input) → Led bytes said last [] n → IsInputOf said i → IsRead bytes i
led_read bytes said last n i led is =
    let here = subst (λ g. IsInputOf g i) led.all is in record {
      text = led.split ∙ append-nil (heading ++ text_of_lines led.lines) ∙ ap (λ l. heading ++ l) (text_is led.lines led.stand led.ordered i here);
      right = right led.lines led.stand led.ordered i here;
      readable = readable led.lines led.stand led.ordered i here;
      ordered = order_is led.lines led.stand led.ordered i here;
    }

pub some_left : (left : List ℕ) → false ≡ (length left == 0) → left ≡ [] → ⊥
some_left [] e is = (cc)
some_left (b ∷ left) e is = (cc)

pub nothing_left : (left : List ℕ) → true ≡ (length left == 0) → left ≡ []
nothing_left [] e = refl
nothing_left (b ∷ left) e = absurd (grind (arith, nat_tests))

last_readable : (lines : List AbiLine) → All IsReadableLine lines → IsUtf8 (last_text lines)
last_readable [] all = IsUtf8-from_ascii [] (IsAscii-from_all [] (All-nil (λ c. c < 128)))
last_readable (l ∷ []) all = line_utf8 l (right_of l (All-head IsReadableLine l [] all))
last_readable (l ∷ m ∷ lines) all = last_readable (m ∷ lines) (All-tail IsReadableLine l (m ∷ lines) all)

pub led_utf8 : (bytes : List ℕ) (said : Gathered) (last left : List ℕ) (n : ℕ) → Led bytes said last left n → IsUtf8 last
led_utf8 bytes said last left n led = subst IsUtf8 (sym led.last_is) (last_readable led.lines led.stand.readable)
