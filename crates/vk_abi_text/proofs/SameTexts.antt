-- Right inputs with one text are one build.
use Rattle.std.proofs.Common.{◌≡◌, ◌++◌, ◌∷◌, ℕ, List, [], map, refl, ap, sym, ◌∙◌, subst, append_assoc}
use Rattle.std.specs.Prelude.{flat_map}
use Rattle.std.specs.List.{All, Contains}
use Rattle.std.proofs.lemmas.List.{append_cancel_left}
use Rattle.std.proofs.lemmas.List.Elements.{All-head, All-tail, All-nil, All-cons, All-contains}
use Rattle.vk_base.specs.Paths.{Lacks}
use Rattle.vk_resolution.specs.Lines.{ended}
use Rattle.vk_resolution.proofs.Members.{contains_map, contains_single, map_contains}
use Rattle.vk_resolution.proofs.Orders.{contains-in_order, in_order-contains}
use Rattle.vk_spec.proofs.ListLemmas.{contains_first, contains_later}
use Rattle.vk_forms.proofs.PairForms.{same_pair}
use Rattle.vk_abi_text.specs.Inputs.{DepDigest, FileDigest, Input}
use Rattle.vk_abi_text.specs.Lines.{AbiLine, abi_text_of, builder_line, dep_line, feature_line, file_line, heading, line_text, lines_of, native_line, port_line, text_key, texts_of, triplet_line, version_line}
use Rattle.vk_abi_text.specs.Gathered.{builders_in, deps_in, features_in, files_in, natives_in, ports_in, triplets_in, versions_in}
use Rattle.vk_abi_text.specs.Rights.{IsRightDep, IsRightFeature, IsRightFile, IsRightInput, IsRightLine}
use Rattle.vk_abi_text.specs.Same.{TextsTellInputs}
use Rattle.vk_abi_text.proofs.LineBytes.{line_whole}
use Rattle.vk_abi_text.proofs.LineParts.{lines_apart}
use Rattle.vk_abi_text.proofs.Selections.{builder_of, deps_of, each_line, features_of, files_of, has_builder, has_dep, has_feature, has_file, has_native, has_port, has_triplet, has_version, native_of, port_of, selected, triplet_of, version_of}

-- ---- lines that are ended

not_ended : (text rest : List ℕ) → [] ≡ ended text ++ rest → ⊥
not_ended [] rest e = absurd (cc)
not_ended (b ∷ text) rest e = absurd (cc)

-- texts without line feeds are told by what they are when each is ended
pub ended_same : (xs ys : List (List ℕ)) → All (Lacks 10) xs → All (Lacks 10) ys → flat_map ended xs ≡ flat_map ended ys → xs ≡ ys
ended_same [] [] one other e = refl
ended_same [] (y ∷ ys) one other e = absurd (not_ended y (flat_map ended ys) e)
ended_same (x ∷ xs) [] one other e = absurd (not_ended x (flat_map ended xs) (sym e))
ended_same (x ∷ xs) (y ∷ ys) one other e =
    let same = same_pair 10 x y (flat_map ended xs) (flat_map ended ys) (All-head (Lacks 10) x xs one) (All-head (Lacks 10) y ys other)
    (sym (append_assoc x (10 ∷ []) (flat_map ended xs)) ∙ e ∙ append_assoc y (10 ∷ []) (flat_map ended ys)) in
    ap (λ l. l ∷ xs) same.0 ∙ ap (λ l. y ∷ l) (ended_same xs ys (All-tail (Lacks 10) x xs one) (All-tail (Lacks 10) y ys other) same.1)

-- ---- texts are ordered by themselves

pub text_is_key : (a b : List ℕ) → text_key a ≡ text_key b → a ≡ b
text_is_key a b e = (cc)

-- a right input has right lines
pub lines_right : (i : Input) → IsRightInput i → (l : AbiLine) → Contains (lines_of i) l → IsRightLine l
lines_right i right =
    each_line i IsRightLine right.builder tt right.port (right.triplet, right.triplet_digest) right.version
    (λ d h. All-contains IsRightDep i.deps d right.deps h) (λ f h. All-contains IsRightFeature i.features f right.features h) (λ f h. All-contains IsRightFile i.files f right.files h)

texts_whole : (i : Input) → IsRightInput i → (texts : List (List ℕ)) → ((t : List ℕ) → Contains texts t → Contains (texts_of i) t) → All (Lacks 10) texts
texts_whole i right [] within = All-nil (Lacks 10)
texts_whole i right (t ∷ texts) within =
    let it = contains_map line_text (lines_of i) t (contains-in_order text_key (map line_text (lines_of i)) t (within t (contains_first t texts))) in
    All-cons (Lacks 10) t texts (subst (Lacks 10) it.2 (line_whole it.0 (lines_right i right it.0 it.1))) (texts_whole i right texts (λ u h. within u (contains_later t u texts h)))

same_texts : (i j : Input) → IsRightInput i → IsRightInput j → abi_text_of i ≡ abi_text_of j → texts_of i ≡ texts_of j
same_texts i j left right e =
    ended_same (texts_of i) (texts_of j) (texts_whole i left (texts_of i) (λ t h. h)) (texts_whole j right (texts_of j) (λ t h. h))
    (append_cancel_left heading (flat_map ended (texts_of i)) (flat_map ended (texts_of j)) e)

-- ---- so the one has all lines of the other

module _ (i j : Input) (left : IsRightInput i) (right : IsRightInput j) (same : texts_of i ≡ texts_of j) where
  line_within : (l : AbiLine) → Contains (lines_of i) l → Contains (lines_of j) l
  line_within l h =
      let here : Contains (texts_of i) (line_text l) = in_order-contains text_key text_is_key (map line_text (lines_of i)) (line_text l) (map_contains line_text (lines_of i) l h) in
      let there : Contains (texts_of j) (line_text l) = subst (λ texts. Contains texts (line_text l)) same here in
      let it = contains_map line_text (lines_of j) (line_text l) (contains-in_order text_key (map line_text (lines_of j)) (line_text l) there) in
      subst (Contains (lines_of j)) (lines_apart it.0 l (lines_right j right it.0 it.1) (lines_right i left l h) it.2) it.1

  value_within : {X : Type 0} (sel : AbiLine → List X) (make : X → AbiLine) (xs : List X) (x : X) → flat_map sel (lines_of j) ≡ xs → sel (make x) ≡ x ∷ [] → Contains (lines_of i) (make x) → Contains xs x
  value_within sel make xs x are is h = subst (λ l. Contains l x) are (selected sel make (lines_of j) x is (line_within (make x) h))

  builder_is : j.builder ≡ i.builder
  builder_is = contains_single j.builder i.builder (value_within builders_in builder_line (j.builder ∷ []) i.builder (builder_of j) refl (has_builder i))

  native_is : j.native ≡ i.native
  native_is = contains_single j.native i.native (value_within natives_in native_line (j.native ∷ []) i.native (native_of j) refl (has_native i))

  port_is : j.port ≡ i.port
  port_is = contains_single j.port i.port (value_within ports_in port_line (j.port ∷ []) i.port (port_of j) refl (has_port i))

  triplet_is : ◌≡◌ {A = List ℕ × List ℕ} (j.triplet, j.triplet_digest) (i.triplet, i.triplet_digest)
  triplet_is =
      contains_single (j.triplet, j.triplet_digest) (i.triplet, i.triplet_digest)
      (value_within triplets_in (λ t. triplet_line t.0 t.1) ((j.triplet, j.triplet_digest) ∷ []) (i.triplet, i.triplet_digest) (triplet_of j) refl (has_triplet i))

  version_is : j.version ≡ i.version
  version_is = contains_single j.version i.version (value_within versions_in version_line (j.version ∷ []) i.version (version_of j) refl (has_version i))

  deps_within : (d : DepDigest) → Contains i.deps d → Contains j.deps d
  deps_within d h = value_within deps_in dep_line j.deps d (deps_of j) refl (has_dep i d h)

  features_within : (f : List ℕ) → Contains i.features f → Contains j.features f
  features_within f h = value_within features_in feature_line j.features f (features_of j) refl (has_feature i f h)

  files_within : (f : FileDigest) → Contains i.files f → Contains j.files f
  files_within f h = value_within files_in file_line j.files f (files_of j) refl (has_file i f h)

pub texts_tell_inputs : TextsTellInputs
texts_tell_inputs i j left right e =
    let same = same_texts i j left right e in record {
      builder = builder_is j i right left (sym same);
      port = port_is j i right left (sym same);
      version = version_is j i right left (sym same);
      features = λ f. (features_within i j left right same f, features_within j i right left (sym same) f);
      triplet = ap (λ t. t.0) (triplet_is j i right left (sym same));
      triplet_digest = ap (λ t. t.1) (triplet_is j i right left (sym same));
      native = native_is j i right left (sym same);
      files = λ f. (files_within i j left right same f, files_within j i right left (sym same) f);
      deps = λ d. (deps_within i j left right same d, deps_within j i right left (sym same) d);
    }
