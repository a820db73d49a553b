-- Files that are put one after the other, and those of an entry.
use Rattle.std.proofs.Common.{◌≡◌, ◌<◌, ◌⊎◌, inl, inr, ◌++◌, [], ◌∷◌, ℕ, List, length, map, get_or, cond, refl, ap, sym, ◌∙◌, subst, length-append, arith}
use Rattle.std.specs.Prelude.{Some, IsSome, codes}
use Rattle.std.specs.List.{Contains}
use Rattle.std.proofs.lemmas.List.{append_cancel_left}
use Rattle.std.proofs.lemmas.List.Elements.{Contains-append_cases, Contains-append_right}
use Rattle.vk_spec.specs.Paths.{Path}
use Rattle.vk_spec.specs.Standing.{Disk, bare, under, put, Same, Else}
use Rattle.vk_spec.proofs.FileLemmas.{same_or_other, ties_same, ties_other, none_some}
use Rattle.vk_spec.proofs.ListLemmas.{contains_nothing, contains_first, contains_later, contains_cases}
use Rattle.vk_base.specs.Paths.{parts_of}
use Rattle.vk_entry.specs.Packages.{File}
use Rattle.vk_entry.specs.Contents.{content_of, contents_text}
use Rattle.vk_places.specs.Places.{text_at, contents_at}
use Rattle.vk_publish.specs.Entries.{Placed, placed_file, last_files, entry_files, put_all, AreApart}

-- ---- what was put

put_here : (p q : Path) (bytes : List ℕ) (d : Disk) → q ≡ p → put p bytes d q ≡ Some bytes
put_here p q bytes d e = ap (λ b. cond b (Some bytes) (d q)) (ties_same q p e)

put_other : (p q : Path) (bytes : List ℕ) (d : Disk) → (q ≡ p → ⊥) → put p bytes d q ≡ d q
put_other p q bytes d other = ap (λ b. cond b (Some bytes) (d q)) (ties_other q p other)

pub put_else : (p : Path) (bytes : List ℕ) (d e : Disk) → Same (put p bytes d) e → Else (λ q. q ≡ p) d e
put_else p bytes d e same q other = same q ∙ put_other p q bytes d other

pub put_under : (a p : Path) (bytes : List ℕ) (d : Disk) → Same (put p bytes (under a d)) (under a (put (a ++ p) bytes d))
put_under a p bytes d r =
    elim (same_or_other r p) [
      | inl same ↦ put_here (a ++ p) (a ++ r) bytes d (ap (λ x. a ++ x) same) ∙ sym (put_here p r bytes (under a d) same)
      | inr other ↦ put_other (a ++ p) (a ++ r) bytes d (λ e. other (append_cancel_left a r p e)) ∙ sym (put_other p r bytes (under a d) other)
    ]

pub put_same : (p : Path) (bytes : List ℕ) (d e : Disk) → Same d e → Same (put p bytes d) (put p bytes e)
put_same p bytes d e same q = elim (same_or_other q p) [
  | inl at ↦ put_here p q bytes e at ∙ sym (put_here p q bytes d at)
  | inr other ↦ put_other p q bytes e other ∙ same q ∙ sym (put_other p q bytes d other)
]

pub put_all_same : (xs : List Placed) (d e : Disk) → Same d e → Same (put_all xs d) (put_all xs e)
put_all_same [] d e same = same
put_all_same (x ∷ xs) d e same = put_all_same xs (put x.0 x.1 d) (put x.0 x.1 e) (put_same x.0 x.1 d e same)

pub put_split : (xs ys : List Placed) (d : Disk) (q : Path) → put_all (xs ++ ys) d q ≡ put_all ys (put_all xs d) q
put_split [] ys d q = refl
put_split (x ∷ xs) ys d q = put_split xs ys (put x.0 x.1 d) q

pub put_some : (xs : List Placed) (d : Disk) (q : Path) → IsSome (put_all xs d q) → IsSome (d q) ⊎ ((x : Placed) × Contains xs x × (q ≡ x.0))
put_some [] d q some = inl some
put_some (x ∷ xs) d q some = elim (put_some xs (put x.0 x.1 d) q some) [
  | inl old ↦ elim (same_or_other q x.0) [
    | inl same ↦ inr (x, contains_first x xs, same)
    | inr other ↦ inl (subst (λ o. IsSome o) (put_other x.0 q x.1 d other) old)
  ]
  | inr y ↦ inr (y.0, contains_later x y.0 xs y.1, y.2)
]

-- where nothing was before, what stands is one of those that were put
pub put_bare : (xs : List Placed) (q : Path) → IsSome (put_all xs bare q) → (x : Placed) × Contains xs x × (q ≡ x.0)
put_bare xs q some = elim (put_some xs bare q some) [
  | inl none ↦ absurd (none_some (bare q) refl none)
  | inr x ↦ x
]

pub put_says : (xs : List Placed) (d : Disk) (q : Path) (bytes : List ℕ) → put_all xs d q ≡ Some bytes → (d q ≡ Some bytes) ⊎ ((x : Placed) × Contains xs x × (q ≡ x.0) × (bytes ≡ x.1))
put_says [] d q bytes is = inl is
put_says (x ∷ xs) d q bytes is = elim (put_says xs (put x.0 x.1 d) q bytes is) [
  | inl old ↦ elim (same_or_other q x.0) [
    | inl same ↦ inr (x, contains_first x xs, same, (let both : Some bytes ≡ Some x.1 = sym old ∙ put_here x.0 q x.1 d same in (cc)))
    | inr other ↦ inl (sym (put_other x.0 q x.1 d other) ∙ old)
  ]
  | inr y ↦ inr (y.0, contains_later x y.0 xs y.1, y.2, y.3)
]

-- what stands goes on, and what was put stands
put_keeps : (xs : List Placed) (d : Disk) (q : Path) → IsSome (d q) → IsSome (put_all xs d q)
put_keeps [] d q some = some
put_keeps (x ∷ xs) d q some = put_keeps xs (put x.0 x.1 d) q (elim (same_or_other q x.0) [
  | inl same ↦ subst (λ o. IsSome o) (sym (put_here x.0 q x.1 d same)) refl
  | inr other ↦ subst (λ o. IsSome o) (sym (put_other x.0 q x.1 d other)) some
])

pub put_has : (xs : List Placed) (x : Placed) (d : Disk) → Contains xs x → IsSome (put_all xs d x.0)
put_has [] x d has = absurd (contains_nothing x has)
put_has (y ∷ xs) x d has = elim (contains_cases y x xs has) [
  | inl same ↦ put_keeps xs (put y.0 y.1 d) x.0 (subst (λ o. IsSome o) (sym (put_here y.0 x.0 y.1 d (ap (λ z. z.0) (sym same)))) refl)
  | inr later ↦ put_has xs x (put y.0 y.1 d) later
]

-- ---- the files of an entry: none lies below another

-- none of these lies below another
abbrev pub ArePlacedApart : List Placed → Type 0
ArePlacedApart files = (x y : Placed) → Contains files x → Contains files y → (part : List ℕ) (rest : Path) → y.0 ≡ x.0 ++ part ∷ rest → ⊥

pub placed_of : (files : List File) (x : Placed) → Contains (map placed_file files) x → (f : File) × Contains files f × (x ≡ placed_file f)
placed_of [] x has = absurd (contains_nothing x has)
placed_of (g ∷ files) x has = elim (contains_cases (placed_file g) x (map placed_file files) has) [
  | inl same ↦ (g, contains_first g files, sym same)
  | inr later ↦ (let f = placed_of files x later in (f.0, contains_later g f.0 files f.1, f.2))
]

-- the last two have a path of one part each, and it isn't that of the files
pub record IsLast (x : Placed) : Type 0 where
  pub part : List ℕ
  pub path : x.0 ≡ part ∷ []
  pub other : part ≡ codes "files" → ⊥

pub last_of : (text : List ℕ) (files : List File) (x : Placed) → Contains (last_files text files) x → IsLast x
last_of text files x has = elim (contains_cases (contents_at [], contents_text (map content_of files)) x ((text_at [], text) ∷ []) has) [
  | inl same ↦ record { part = codes "contents.txt"; path = ap (λ y. y.0) (sym same); other = λ e. (let h : 99 ≡ 102 = ap (λ l. get_or l 0 0) e in absurd (omega (arith, h))) }
  | inr later ↦ elim (contains_cases (text_at [], text) x [] later) [
    | inl same ↦ record { part = codes "abi.txt"; path = ap (λ y. y.0) (sym same); other = λ e. (let h : 97 ≡ 102 = ap (λ l. get_or l 0 0) e in absurd (omega (arith, h))) }
    | inr none ↦ absurd (contains_nothing x none)
  ]
]

-- nothing has a path of one part and lies below another
below_one : (x : Path) (one part : List ℕ) (rest : Path) → 0 < length x → one ∷ [] ≡ x ++ part ∷ rest → ⊥
below_one x one part rest some is = omega (arith, ap length is, length-append x (part ∷ rest), some)

files_apart : (files : List File) (f g : File) (part : List ℕ) (rest : Path) → AreApart files → Contains files f → Contains files g → (placed_file g).0 ≡ (placed_file f).0 ++ part ∷ rest → ⊥
files_apart files f g part rest apart has other is =
    let below : parts_of g.path ≡ parts_of f.path ++ part ∷ rest = (cc) in
    let same : parts_of f.path ≡ parts_of g.path = apart f g has other (part ∷ rest, below) in
    omega (arith, ap length below, ap length same, length-append (parts_of f.path) (part ∷ rest))

file_last : (f : File) (y : Placed) (part : List ℕ) (rest : Path) → IsLast y → y.0 ≡ (placed_file f).0 ++ part ∷ rest → ⊥
file_last f y part rest last is = below_one (placed_file f).0 last.part part rest (omega arith) (sym last.path ∙ is)

last_file : (x : Placed) (g : File) (part : List ℕ) (rest : Path) → IsLast x → (placed_file g).0 ≡ x.0 ++ part ∷ rest → ⊥
last_file x g part rest last is =
    let whole : codes "files" ∷ parts_of g.path ≡ last.part ∷ part ∷ rest = is ∙ ap (λ p. p ++ part ∷ rest) last.path in
    let first : codes "files" ≡ last.part = ap (λ p. get_or p 0 []) whole in
    last.other (sym first)

last_last : (x y : Placed) (part : List ℕ) (rest : Path) → IsLast x → IsLast y → y.0 ≡ x.0 ++ part ∷ rest → ⊥
last_last x y part rest one other is = below_one x.0 other.part part rest (omega (arith, ap length one.path)) (sym other.path ∙ is)

pub entry_apart : (text : List ℕ) (files : List File) → AreApart files → ArePlacedApart (entry_files text files)
entry_apart text files apart x y has other part rest is =
    elim (Contains-append_cases (map placed_file files) (last_files text files) x has) [
      | inl x_in ↦ (let f = placed_of files x x_in in elim (Contains-append_cases (map placed_file files) (last_files text files) y other) [
        | inl y_in ↦ (let g = placed_of files y y_in in files_apart files f.0 g.0 part rest apart f.1 g.1 (ap (λ z. z.0) (sym g.2) ∙ is ∙ ap (λ z. z.0 ++ part ∷ rest) f.2))
        | inr y_last ↦ file_last f.0 y part rest (last_of text files y y_last) (is ∙ ap (λ z. z.0 ++ part ∷ rest) f.2)
      ])
      | inr x_last ↦ elim (Contains-append_cases (map placed_file files) (last_files text files) y other) [
        | inl y_in ↦ (let g = placed_of files y y_in in last_file x g.0 part rest (last_of text files x x_last) (ap (λ z. z.0) (sym g.2) ∙ is))
        | inr y_last ↦ last_last x y part rest (last_of text files x x_last) (last_of text files y y_last) is
      ]
    ]

-- an entry has at least its list
pub list_in : (text : List ℕ) (files : List File) → Contains (entry_files text files) (contents_at [], contents_text (map content_of files))
list_in text files = Contains-append_right (map placed_file files) (last_files text files) (contents_at [], contents_text (map content_of files)) (contains_first (contents_at [], contents_text (map content_of files)) ((text_at [], text) ∷ []))
