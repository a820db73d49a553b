-- Files moved one by one, and that they are a tree afterwards.
use Rattle.std.proofs.Common.{◌≡◌, ◌⊎◌, inl, inr, ℕ, true, false, cond, List, [], ◌∷◌, ◌++◌, refl, ap, sym, ◌∙◌, subst}
use Rattle.std.proofs.lemmas.List.{append-nil, append_assoc}
use Rattle.std.proofs.lemmas.Slice.Eq.{bytes_eq-Decides}
use Rattle.std.specs.Prelude.{Bool, Option, Some, None, IsSome, is_some}
use Rattle.std.specs.Str.{bytes_eq}
use Rattle.std.specs.List.{All, Contains}
use Rattle.std.specs.Map.{lookup}
use Rattle.std.specs.BTreeMap.{is_at}
use Rattle.std.proofs.lemmas.List.Elements.{All-contains, Contains-append_right}
use Rattle.std.specs.Ordering.{is_eq, eq_by_cmp}
use Rattle.std.specs.FinMap as map
use Rattle.vk_spec.specs.Paths.{Path, path_cmp, Begins, IsOther}
use Rattle.vk_spec.specs.Files.{Files, IsTree}
use Rattle.vk_spec.specs.Standing.{Disk, disk_of, put, drop_at, Same, Stands}
use Rattle.vk_spec.specs.Calls.{Moves, IsBareAbove, CanMake, rename_of}
use Rattle.vk_spec.proofs.FileLemmas.{path_total, ties_other, none_some}
use Rattle.vk_spec.proofs.ListLemmas.{contains_first}
use Rattle.vk_tree.proofs.FileMapLemmas.{Entries, one_put, found_at}
use Rattle.vk_tree.specs.Moving.{IsMovedTo}
use Rattle.vk_tree.proofs.PlaceLemmas.{same_front}

-- of two beginnings of one path, the one begins the other
pub nested : (a b r s : Path) → a ++ r ≡ b ++ s → Begins a b ⊎ Begins b a
nested [] b r s e = inl (b, refl)
nested (x ∷ a) [] r s e = inr (x ∷ a, refl)
nested (x ∷ a) (y ∷ b) r s e =
    let first : x ≡ y = (cc) in
    elim (nested a b r s (cc)) [
      | inl in_b ↦ inl (in_b.0, ap (λ l. y ∷ l) in_b.1 ∙ ap (λ z. z ∷ (a ++ in_b.0)) (sym first))
      | inr in_a ↦ inr (in_a.0, ap (λ l. x ∷ l) in_a.1 ∙ ap (λ z. z ∷ (b ++ in_a.0)) first)
    ]

-- what a path has when one is put elsewhere, or there
elsewhere : (p x : Path) (bytes : List ℕ) (d e : Disk) → Same (put p bytes d) e → IsOther x p → e x ≡ d x
elsewhere p x bytes d e same other = same x ∙ ap (λ t. cond t (Some bytes) (d x)) (ties_other x p other)

same_tests : (a b r rest : Path) → eq_by_cmp path_cmp (b ++ r) (b ++ rest) ≡ eq_by_cmp path_cmp (a ++ r) (a ++ rest)
same_tests a b r rest = ap is_eq (same_front b r rest ∙ sym (same_front a r rest))

apart_from : (a p r : Path) → (Begins a p → ⊥) → IsOther (a ++ r) p
apart_from a p r apart e = apart (r, sym e)

module _ (a b p q : Path) (bytes : List ℕ) (d d2 e e2 : Disk) (left : Same (put p bytes d) d2) (right : Same (put q bytes e) e2)
    (out : Begins b p → ⊥) (down : Begins a b → ⊥) (up : Begins b a → ⊥) (m : Moves a b d e) where
  lands_one : IsMovedTo a b p q → (r : Path) → e2 (b ++ r) ≡ d2 (a ++ r)
  lands_one (inl k) r =
      right (b ++ r)
      ∙ ap (λ t. cond t (Some bytes) (e (b ++ r))) (ap (eq_by_cmp path_cmp (b ++ r)) k.2 ∙ same_tests a b r k.0 ∙ sym (ap (eq_by_cmp path_cmp (a ++ r)) k.1))
      ∙ ap (cond (eq_by_cmp path_cmp (a ++ r) p) (Some bytes)) (m.lands r)
      ∙ sym (left (a ++ r))
  lands_one (inr k) r =
      elsewhere q (b ++ r) bytes e e2 right (λ s. out (r, sym (s ∙ k.1)))
      ∙ m.lands r
      ∙ sym (elsewhere p (a ++ r) bytes d d2 left (apart_from a p r k.0))

  leaves_one : IsMovedTo a b p q → (r : Path) → e2 (a ++ r) ≡ None
  leaves_one (inl k) r = elsewhere q (a ++ r) bytes e e2 right (λ s. elim (nested a b r k.0 (s ∙ k.2)) [ inl begun ↦ down begun | inr begun ↦ up begun ]) ∙ m.leaves r
  leaves_one (inr k) r = elsewhere q (a ++ r) bytes e e2 right (λ s. k.0 (r, sym (s ∙ k.1))) ∙ m.leaves r

  others_one : IsMovedTo a b p q → (x : Path) → ((Begins a x ⊎ Begins b x) → ⊥) → e2 x ≡ d2 x
  others_one (inl k) x apart =
      elsewhere q x bytes e e2 right (λ s. apart (inr (k.0, s ∙ k.2))) ∙ m.others x apart ∙ sym (elsewhere p x bytes d d2 left (λ s. apart (inl (k.0, s ∙ k.1))))
  others_one (inr k) x apart =
      right x ∙ ap (λ t. cond t (Some bytes) (e x)) (ap (eq_by_cmp path_cmp x) k.1) ∙ ap (cond (eq_by_cmp path_cmp x p) (Some bytes)) (m.others x apart) ∙ sym (left x)

  -- one file more is moved
  pub move_one : IsMovedTo a b p q → Moves a b d2 e2
  move_one k = record { lands = lands_one k; leaves = leaves_one k; others = others_one k }

pub move_none : (a b : Path) → Moves a b (disk_of map.empty) (disk_of map.empty)
move_none a b = record {
  lands = λ r. map.get-empty path_cmp (b ++ r) ∙ sym (map.get-empty path_cmp (a ++ r));
  leaves = λ r. map.get-empty path_cmp (a ++ r);
  others = λ x apart. refl;
}

-- the last entry that is left is moved
pub one_moved : (files before left done held moved : Entries) (a b p q : Path) (bytes copy : List ℕ) → files ≡ before ++ done → before ≡ left ++ (p, bytes) ∷ []
    → All (λ e. lookup (is_at (path_cmp e.0)) files ≡ Some e.1) files → CanMake (rename_of a b) (disk_of (map.from_entries files)) → (Stands (disk_of (map.from_entries files)) b → ⊥)
    → IsMovedTo a b p q → copy ≡ bytes → ((x : Path) → lookup (is_at (path_cmp x)) moved ≡ cond (is_at (path_cmp q) x) (Some copy) (lookup (is_at (path_cmp x)) held))
    → Moves a b (disk_of (map.from_entries done)) (disk_of (map.from_entries held))
    → (now : Entries) × (files ≡ left ++ now) × Moves a b (disk_of (map.from_entries now)) (disk_of (map.from_entries moved))
one_moved files before left done held moved a b p q bytes copy all last found can free to same put m =
    let now : files ≡ left ++ (p, bytes) ∷ done = all ∙ ap (λ l. l ++ done) last ∙ append_assoc left ((p, bytes) ∷ []) done in
    let at : lookup (is_at (path_cmp p)) files ≡ Some bytes
    = All-contains (λ e. lookup (is_at (path_cmp e.0)) files ≡ Some e.1) files (p, bytes) found (subst (λ l. Contains l (p, bytes)) (sym now) (Contains-append_right left ((p, bytes) ∷ done) (p, bytes) (contains_first (p, bytes) done))) in
    let stands : IsSome (map.get (map.from_entries files) p) = found_at files p bytes at in
    let inserted : map.from_entries moved ≡ map.insert (map.from_entries held) q bytes = one_put held moved q copy put ∙ ap (map.insert (map.from_entries held) q) same in (
      (p, bytes) ∷ done,
      now,
      move_one a b p q bytes (disk_of (map.from_entries done)) (disk_of (map.from_entries ((p, bytes) ∷ done))) (disk_of (map.from_entries held)) (disk_of (map.from_entries moved))
          (λ x. map.get-insert path_total (map.from_entries done) p bytes x)
          (λ x. ap (λ f. map.get f x) inserted ∙ map.get-insert path_total (map.from_entries held) q bytes x)
          (λ begun. free (begun.0, ap is_some (ap (map.get (map.from_entries files)) (sym begun.1)) ∙ stands)) can.1 can.2 m to,
    )

-- ---- no file lies below a file afterwards

longer : (b q more : Path) → b ≡ q ++ more → (Begins b q → ⊥) → (name : List ℕ) × (rest : Path) × (b ≡ q ++ name ∷ rest)
longer b q [] e apart = absurd (apart ([], sym (e ∙ append-nil q) ∙ sym (append-nil b)))
longer b q (name ∷ rest) e apart = (name, rest, e)

-- a path that isn't begun, above one that is, stands above what begins that
above_from : (b q rest : Path) (part : List ℕ) → Begins b (q ++ part ∷ rest) → (Begins b q → ⊥) → (name : List ℕ) × (more : Path) × (b ≡ q ++ name ∷ more)
above_from b q rest part begun apart =
    elim (nested b q begun.0 (part ∷ rest) (sym begun.1)) [
      | inl begins ↦ absurd (apart begins)
      | inr below ↦ longer b q below.0 below.1 apart
    ]

first_same : (x y : List ℕ) (a p : Path) → Begins (x ∷ a) (y ∷ p) → x ≡ y
first_same x y a p begun = let whole : y ∷ p ≡ x ∷ (a ++ begun.0) = begun.1 in (cc)

rest_same : (x y : List ℕ) (a p : Path) (begun : Begins (x ∷ a) (y ∷ p)) → p ≡ a ++ begun.0
rest_same x y a p begun = let whole : y ∷ p ≡ x ∷ (a ++ begun.0) = begun.1 in (cc)

same_part : (x y : List ℕ) → (x ≡ y) ⊎ (x ≡ y → ⊥)
same_part x y =
    elim (bytes_eq x y) as (λ t. bytes_eq x y ≡ t → (x ≡ y) ⊎ (x ≡ y → ⊥)) [
      | true ↦ λ e. inl ((bytes_eq-Decides x y).0 e)
      | false ↦ λ e. inr (λ same. let clash : true ≡ false = sym ((bytes_eq-Decides x y).1 same) ∙ e in (cc))
    ] refl

begins_or : (a p : Path) → Begins a p ⊎ (Begins a p → ⊥)
begins_or [] p = inl (p, refl)
begins_or (x ∷ a) [] = inr (λ begun. (cc))
begins_or (x ∷ a) (y ∷ p) = elim (same_part x y) [
  | inr other ↦ inr (λ begun. (let first : x ≡ y = first_same x y a p begun in other first))
  | inl same ↦ elim (begins_or a p) [
    | inl begun ↦ inl (begun.0, ap (λ l. y ∷ l) begun.1 ∙ ap (λ z. z ∷ (a ++ begun.0)) (sym same))
    | inr apart ↦ inr (λ begun. apart (begun.0, rest_same x y a p begun))
  ]
]

pub tree_moved : (a b : Path) (f g : Files) → IsTree f → IsBareAbove (disk_of f) b → Moves a b (disk_of f) (disk_of g) → IsTree g
tree_moved a b f g tree bare_above m q part rest some =
    elim (begins_or b q) [
      | inl in_b ↦ (
          let from : map.get f (a ++ in_b.0) ≡ map.get g q = sym (m.lands in_b.0) ∙ ap (map.get g) (sym in_b.1) in
          let below : q ++ part ∷ rest ≡ b ++ (in_b.0 ++ part ∷ rest) = ap (λ l. l ++ part ∷ rest) in_b.1 ∙ append_assoc b in_b.0 (part ∷ rest) in
          ap (map.get g) below ∙ m.lands (in_b.0 ++ part ∷ rest) ∙ ap (map.get f) (sym (append_assoc a in_b.0 (part ∷ rest))) ∙ tree (a ++ in_b.0) part rest (ap is_some from ∙ some))
      | inr out_b ↦ elim (begins_or a q) [
        | inl in_a ↦ absurd (none_some (map.get g q) (ap (map.get g) in_a.1 ∙ m.leaves in_a.0) some)
        | inr out_a ↦ (
            let here : map.get g q ≡ map.get f q = m.others q (λ begun. elim begun [ inl in_a ↦ out_a in_a | inr in_b ↦ out_b in_b ]) in
            let stood : IsSome (map.get f q) = ap is_some (sym here) ∙ some in
            elim (begins_or a (q ++ part ∷ rest)) [
              | inl in_a ↦ ap (map.get g) in_a.1 ∙ m.leaves in_a.0
              | inr apart_a ↦ elim (begins_or b (q ++ part ∷ rest)) [
                | inl in_b ↦ (let above = above_from b q rest part in_b out_b in absurd (none_some (map.get f q) (bare_above q above.0 above.1 above.2) stood))
                | inr apart_b ↦ m.others (q ++ part ∷ rest) (λ begun. elim begun [ inl in_a ↦ apart_a in_a | inr in_b ↦ apart_b in_b ]) ∙ tree q part rest stood
              ]
            ])
      ]
    ]

-- one file less
without_one : {X : Type 0} (t : Bool) (o : Option X) → IsSome (cond t None o) → IsSome o
without_one true o some = let clash : false ≡ true = some in (cc)
without_one false o some = some

still_none : {X : Type 0} (t : Bool) (o : Option X) → o ≡ None → cond t None o ≡ None
still_none true o none = refl
still_none false o none = none

pub tree_without : (p : Path) (f g : Files) → IsTree f → Same (drop_at p (disk_of f)) (disk_of g) → IsTree g
tree_without p f g tree same q part rest some =
    same (q ++ part ∷ rest)
    ∙ still_none (eq_by_cmp path_cmp (q ++ part ∷ rest) p) (map.get f (q ++ part ∷ rest))
    (tree q part rest (without_one (eq_by_cmp path_cmp q p) (map.get f q) (ap is_some (sym (same q)) ∙ some)))
