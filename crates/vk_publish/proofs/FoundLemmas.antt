-- A whole entry is valid, and a hit for its text.
use Rattle.std.proofs.Common.{◌≡◌, ◌⊎◌, inl, inr, ◌++◌, [], ◌∷◌, ℕ, List, length, map, get_or, refl, ap, sym, ◌∙◌, subst, arith}
use Rattle.std.specs.Prelude.{Option, Some, None, IsSome, codes}
use Rattle.std.specs.List.{Contains}
use Rattle.std.proofs.Math.Nat.{le-max_right}
use Rattle.std.proofs.lemmas.List.Elements.{All-contains, Contains-append_cases, Contains-append_left, Contains-append_right}
use Rattle.sha2.specs.Sha256.{sha256}
use Rattle.vk_spec.specs.Paths.{Path, Begins}
use Rattle.vk_spec.specs.Standing.{Disk, bare, IsFile}
use Rattle.vk_spec.proofs.FileLemmas.{none_some}
use Rattle.vk_spec.proofs.ListLemmas.{contains_nothing, contains_first, contains_later, contains_cases}
use Rattle.vk_resolution.proofs.Members.{contains_map, map_contains}
use Rattle.vk_base.specs.Paths.{parts_of}
use Rattle.vk_entry.specs.Packages.{File, bytes_at}
use Rattle.vk_entry.specs.Contents.{Content, content_of, contents_text}
use Rattle.vk_entry.specs.ContentLists.{IsListable}
use Rattle.vk_entry.proofs.PackageLists.{package_listed}
use Rattle.vk_entry.proofs.PackageRules.{file_found}
use Rattle.vk_places.specs.Places.{text_at, contents_at, file_at}
use Rattle.vk_look.specs.LookIs.{file_places, most_list, places_of, wanted_in}
use Rattle.vk_publish.specs.Entries.{Placed, placed_file, last_files, entry_files, put_all, HoldsJust}
use Rattle.vk_publish.specs.Found.{IsTellable, HoldsWhole, WholeIsValid, WholeIsHit}
use Rattle.vk_publish.proofs.Conditions.{package_key}
use Rattle.vk_publish.proofs.PutLemmas.{placed_of, put_bare, put_has, put_says, last_of}

-- ---- what was put stands, where no two stand at one place

abbrev AreAlone : List Placed → Type 0
AreAlone xs = (x y : Placed) → Contains xs x → Contains xs y → x.0 ≡ y.0 → x.1 ≡ y.1

exact_by : (xs : List Placed) (x : Placed) (there : Option (List ℕ)) → AreAlone xs → Contains xs x → put_all xs bare x.0 ≡ there → IsSome there → there ≡ Some x.1
exact_by xs x None alone has is some = absurd (none_some {X = List ℕ} None refl some)
exact_by xs x (Some bytes) alone has is some = elim (put_says xs bare x.0 bytes is) [
  | inl none ↦ absurd (let clash : None ≡ Some bytes = none in (cc))
  | inr y ↦ ap (λ b. Some b) (y.3 ∙ sym (alone x y.0 has y.1 y.2))
]

stands_there : (xs : List Placed) (at : Path) (d : Disk) (x : Placed) → AreAlone xs → HoldsJust xs at d → Contains xs x → d (at ++ x.0) ≡ Some x.1
stands_there xs at d x alone just has = just x.0 ∙ exact_by xs x (put_all xs bare x.0) alone has refl (put_has xs x bare has)

-- ---- no two files of an entry stand at one place

path_key : (f : File) → IsListable f → f.path ≡ (46 ∷ []) ∷ parts_of f.path
path_key f right = package_key f.path right.path.0.is_short.path right.path.1

files_alone : (files : List File) (f g : File) → IsTellable files → Contains files f → Contains files g → (placed_file f).0 ≡ (placed_file g).0 → f.bytes ≡ g.bytes
files_alone files f g told has other is =
    let parts : parts_of f.path ≡ parts_of g.path = (cc) in
    let one = path_key f (All-contains IsListable files f told.each has) in
    let two = path_key g (All-contains IsListable files g told.each other) in
    let same : f.path ≡ g.path = one ∙ ap (λ p. (46 ∷ []) ∷ p) parts ∙ sym two in
    let both : Some f.bytes ≡ Some g.bytes = sym (file_found files f told.order has) ∙ ap (λ p. bytes_at p files) same ∙ file_found files g told.order other in
    (cc)

last_cases : (text : List ℕ) (files : List File) (x : Placed) → Contains (last_files text files) x → (x ≡ (contents_at [], contents_text (map content_of files))) ⊎ (x ≡ (text_at [], text))
last_cases text files x has = elim (contains_cases (contents_at [], contents_text (map content_of files)) x ((text_at [], text) ∷ []) has) [
  | inl same ↦ inl (sym same)
  | inr later ↦ elim (contains_cases (text_at [], text) x [] later) [
    | inl same ↦ inr (sym same)
    | inr none ↦ absurd (contains_nothing x none)
  ]
]

names_apart : contents_at [] ≡ text_at [] → ⊥
names_apart e = let first : 99 ≡ 97 = ap (λ p. get_or (get_or p 0 []) 0 0) e in omega (arith, first)

last_alone : (text : List ℕ) (files : List File) (x y : Placed) → Contains (last_files text files) x → Contains (last_files text files) y → x.0 ≡ y.0 → x.1 ≡ y.1
last_alone text files x y has other is = elim (last_cases text files x has) [
  | inl one ↦ elim (last_cases text files y other) [
    | inl two ↦ ap (λ z. z.1) (one ∙ sym two)
    | inr two ↦ absurd (names_apart (ap (λ z. z.0) (sym one) ∙ is ∙ ap (λ z. z.0) two))
  ]
  | inr one ↦ elim (last_cases text files y other) [
    | inl two ↦ absurd (names_apart (ap (λ z. z.0) (sym two) ∙ sym is ∙ ap (λ z. z.0) one))
    | inr two ↦ ap (λ z. z.1) (one ∙ sym two)
  ]
]

file_or_last : (text : List ℕ) (files : List File) (f : File) (y : Placed) → Contains (last_files text files) y → (placed_file f).0 ≡ y.0 → ⊥
file_or_last text files f y has is =
    let last = last_of text files y has in
    let whole : codes "files" ∷ parts_of f.path ≡ last.part ∷ [] = is ∙ last.path in
    let first : codes "files" ≡ last.part = ap (λ p. get_or p 0 []) whole in
    last.other (sym first)

alone_by : (text : List ℕ) (files : List File) (x y : Placed) → IsTellable files → x.0 ≡ y.0
    → Contains (map placed_file files) x ⊎ Contains (last_files text files) x → Contains (map placed_file files) y ⊎ Contains (last_files text files) y → x.1 ≡ y.1
alone_by text files x y told is (inl has) (inl other) =
    let f = placed_of files x has in
    let g = placed_of files y other in
    ap (λ z. z.1) f.2 ∙ files_alone files f.0 g.0 told f.1 g.1 (ap (λ z. z.0) (sym f.2) ∙ is ∙ ap (λ z. z.0) g.2) ∙ ap (λ z. z.1) (sym g.2)
alone_by text files x y told is (inl has) (inr last) = let f = placed_of files x has in absurd (file_or_last text files f.0 y last (ap (λ z. z.0) (sym f.2) ∙ is))
alone_by text files x y told is (inr last) (inl other) = let g = placed_of files y other in absurd (file_or_last text files g.0 x last (ap (λ z. z.0) (sym g.2) ∙ sym is))
alone_by text files x y told is (inr one) (inr two) = last_alone text files x y one two is

entry_alone : (text : List ℕ) (files : List File) → IsTellable files → AreAlone (entry_files text files)
entry_alone text files told x y has other is =
    alone_by text files x y told is (Contains-append_cases (map placed_file files) (last_files text files) x has) (Contains-append_cases (map placed_file files) (last_files text files) y other)

-- ---- what stands in a whole entry

file_in : (text : List ℕ) (files : List File) (f : File) → Contains files f → Contains (entry_files text files) (placed_file f)
file_in text files f has = Contains-append_left (map placed_file files) (last_files text files) (placed_file f) (map_contains placed_file files f has)

list_in : (text : List ℕ) (files : List File) → Contains (entry_files text files) (contents_at [], contents_text (map content_of files))
list_in text files = Contains-append_right (map placed_file files) (last_files text files) (contents_at [], contents_text (map content_of files)) (contains_first (contents_at [], contents_text (map content_of files)) ((text_at [], text) ∷ []))

text_in : (text : List ℕ) (files : List File) → Contains (entry_files text files) (text_at [], text)
text_in text files = Contains-append_right (map placed_file files) (last_files text files) (text_at [], text)
    (contains_later (contents_at [], contents_text (map content_of files)) (text_at [], text) ((text_at [], text) ∷ []) (contains_first (text_at [], text) []))

file_stands : (text : List ℕ) (files : List File) (entry : Path) (d : Disk) (f : File) → HoldsWhole text files entry d → Contains files f → d (file_at entry f.path) ≡ Some f.bytes
file_stands text files entry d f whole has = stands_there (entry_files text files) entry d (placed_file f) (entry_alone text files whole.tellable) whole.just (file_in text files f has)

list_stands : (text : List ℕ) (files : List File) (entry : Path) (d : Disk) → HoldsWhole text files entry d → d (contents_at entry) ≡ Some (contents_text (map content_of files))
list_stands text files entry d whole = stands_there (entry_files text files) entry d (contents_at [], contents_text (map content_of files)) (entry_alone text files whole.tellable) whole.just (list_in text files)

text_stands : (text : List ℕ) (files : List File) (entry : Path) (d : Disk) → HoldsWhole text files entry d → d (text_at entry) ≡ Some text
text_stands text files entry d whole = stands_there (entry_files text files) entry d (text_at [], text) (entry_alone text files whole.tellable) whole.just (text_in text files)

-- ---- nothing else stands there

place_of : (text : List ℕ) (files : List File) (entry : Path) (x : Placed) → Contains (map placed_file files) x ⊎ Contains (last_files text files) x → Contains (places_of entry (map content_of files)) (entry ++ x.0)
place_of text files entry x (inl has) =
    let f = placed_of files x has in
    let place = map_contains (λ (c : Content). file_at entry c.path) (map content_of files) (content_of f.0) (map_contains content_of files f.0 f.1) in
    let at : file_at entry f.0.path ≡ entry ++ x.0 = ap (λ z. entry ++ z.0) (sym f.2) in
    contains_later (text_at entry) (entry ++ x.0) (contents_at entry ∷ file_places entry (map content_of files))
    (contains_later (contents_at entry) (entry ++ x.0) (file_places entry (map content_of files)) (subst (Contains (file_places entry (map content_of files))) at place))
place_of text files entry x (inr last) = elim (last_cases text files x last) [
  | inl same ↦ subst (Contains (places_of entry (map content_of files))) (ap (λ z. entry ++ z.0) (sym same))
      (contains_later (text_at entry) (contents_at entry) (contents_at entry ∷ file_places entry (map content_of files)) (contains_first (contents_at entry) (file_places entry (map content_of files))))
  | inr same ↦ subst (Contains (places_of entry (map content_of files))) (ap (λ z. entry ++ z.0) (sym same)) (contains_first (text_at entry) (contents_at entry ∷ file_places entry (map content_of files)))
]

only_there : (text : List ℕ) (files : List File) (entry : Path) (d : Disk) (q : Path) → HoldsWhole text files entry d → IsFile d q → Begins entry q → Contains (places_of entry (map content_of files)) q
only_there text files entry d q whole stands begins =
    let some : IsSome (put_all (entry_files text files) bare begins.0) = subst (λ o. IsSome o) (ap d begins.1 ∙ whole.just begins.0) stands in
    let x = put_bare (entry_files text files) begins.0 some in
    let place = place_of text files entry x.0 (Contains-append_cases (map placed_file files) (last_files text files) x.0 x.1) in
    subst (Contains (places_of entry (map content_of files))) (ap (λ r. entry ++ r) (sym x.2) ∙ sym begins.1) place

-- ---- a whole entry is valid

some_there : (o : Option (List ℕ)) (bytes : List ℕ) → o ≡ Some bytes → IsSome o
some_there o bytes is = subst (λ it. IsSome it) (sym is) refl

listed_there : (text : List ℕ) (files : List File) (entry : Path) (d : Disk) (c : Content) → HoldsWhole text files entry d → Contains (map content_of files) c → IsFile d (file_at entry c.path)
listed_there text files entry d c whole has =
    let f = contains_map content_of files c has in
    subst (λ (l : Content). IsFile d (file_at entry l.path)) f.2 (some_there (d (file_at entry f.0.path)) f.0.bytes (file_stands text files entry d f.0 whole f.1))

pub whole_valid : WholeIsValid
whole_valid w text files d whole hashed short = record {
  kept_is = record {
    folder = (codes "abi.txt", [], some_there (d (text_at w.entry)) text (text_stands text files w.entry d whole));
    stands = text_stands text files w.entry d whole;
    short = short;
    hashed = hashed;
  };
  listed = record {
    bytes = contents_text (map content_of files);
    stands = list_stands text files w.entry d whole;
    short = whole.tellable.short;
    list = (refl, package_listed files whole.tellable.order whole.tellable.each);
  };
  all = record {
    calm = whole.calm;
    only = λ q stands begins. only_there text files w.entry d q whole stands begins;
    there = λ c has. listed_there text files w.entry d c whole has;
  };
  holds = record {
    stand = λ file has. file_stands text files w.entry d file whole has;
    listed = refl;
  };
}

pub whole_hit : WholeIsHit
whole_hit cache text files most d whole few =
    (map content_of files, whole_valid (wanted_in cache (sha256 text) text most) text files d whole refl (le-max_right most_list (length text)), few)
