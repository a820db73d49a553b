-- What a folder has in it, and that it has it in one way.
use Rattle.std.proofs.Common.{◌≡◌, ◌≤◌, inl, inr, ℕ, suc, true, false, List, [], ◌∷◌, ◌++◌, length, refl, ap, sym, ◌∙◌, subst, arith}
use Rattle.std.proofs.lemmas.List.{append-nil, append_assoc}
use Rattle.std.specs.Prelude.{IsSome, Bool}
use Rattle.std.specs.List.{Contains}
use Rattle.std.proofs.lemmas.List.Elements.{Contains-append_right}
use Rattle.std.specs.declared.cmp.Ordering.TheVariants.{Less, Equal}
use Rattle.std.specs.Ordering.{nat_cmp}
use Rattle.std.specs.Cmp.{tied_itself}
use Rattle.std.specs.Cmp.Lexicographic.{slice_cmp}
use Rattle.vk_spec.specs.Lists.{NoRepeats, IsWithin}
use Rattle.vk_spec.specs.Paths.{Path}
use Rattle.vk_spec.proofs.ListLemmas.{contains_nothing, contains_first, contains_later, contains_cases}
use Rattle.vk_spec.specs.Standing.{Disk, Entry, IsFile, IsFolder, IsAs, Stands, ByName, AreEntries, IsListing}
use Rattle.vk_tree.proofs.PlaceLemmas.{part_total}
use Rattle.vk_walk.proofs.ShorterLemmas.{no_longer}

pub file_stands : (d : Disk) (p : Path) → IsFile d p → Stands d p
file_stands d p h = ([], subst (λ q. IsSome (d q)) (sym (append-nil p)) h)

pub folder_stands : (d : Disk) (p : Path) → IsFolder d p → Stands d p
folder_stands d p h = (h.0 ∷ h.1, h.2)

pub as_stands : (d : Disk) (p : Path) (folder : Bool) → IsAs d p folder → Stands d p
as_stands d p true h = folder_stands d p h
as_stands d p false h = file_stands d p h

abbrev names : List Entry → List (List ℕ)
names [] = []
names (e ∷ es) = e.name ∷ names es

same_length : (es : List Entry) → length (names es) ≡ length es
same_length [] = refl
same_length (e ∷ es) = ap (λ n. suc n) (same_length es)

has_name : (es : List Entry) (e : Entry) → Contains es e → Contains (names es) e.name
has_name [] e h = absurd (contains_nothing e h)
has_name (f ∷ es) e h = elim (contains_cases f e es h) [
  | inl same ↦ subst (λ x. Contains (names (f ∷ es)) x.name) same (contains_first f.name (names es))
  | inr later ↦ contains_later f.name e.name (names es) (has_name es e later)
]

of_name : (es : List Entry) (n : List ℕ) → Contains (names es) n → (e : Entry) × Contains es e × (e.name ≡ n)
of_name [] n h = absurd (contains_nothing n h)
of_name (f ∷ es) n h = elim (contains_cases f.name n (names es) h) [
  | inl same ↦ (f, contains_first f es, same)
  | inr later ↦ (let r = of_name es n later in (r.0, contains_later f r.0 es r.1, r.2))
]

unlike : (a b : List ℕ) → slice_cmp nat_cmp a b ≡ Less → a ≡ b → ⊥
unlike a b less same = let clash : Equal ≡ Less = sym (tied_itself part_total a) ∙ ap (slice_cmp nat_cmp a) same ∙ less in (cc)

each_once : (es : List Entry) → ByName es → NoRepeats (names es)
each_once [] order = tt
each_once (e ∷ es) order = (
  (λ h. let r = of_name es e.name h in unlike e.name r.0.name (order.0 r.0 r.1) (sym r.2)),
  each_once es order.1,
)

-- two listings of one folder are equally long
pub listings_within : (d : Disk) (p : Path) (es fs : List Entry) → IsListing d p es → AreEntries d p fs → length fs ≤ length es
listings_within d p es fs one other =
    let within : IsWithin (names fs) (names es) = λ n h.
    (let f = of_name fs n h in
    let s = as_stands d (p ++ f.0.name ∷ []) f.0.folder (other.sound f.0 f.1) in
    let e = one.all f.0.name s.0 (subst (λ q. IsSome (d q)) (append_assoc p (f.0.name ∷ []) s.0) s.1) in
    subst (Contains (names es)) (e.2 ∙ f.2) (has_name es e.0 e.1)) in
    let shorter : length (names fs) ≤ length (names es) = no_longer (names fs) (names es) (each_once fs other.order) within in
    omega (arith, shorter, same_length fs, same_length es)

-- those before an entry, and those after it
pub earlier : (done : List Entry) (e : Entry) (rest : List Entry) (f : Entry) → ByName (done ++ e ∷ rest) → Contains done f → slice_cmp nat_cmp f.name e.name ≡ Less
earlier [] e rest f order h = absurd (contains_nothing f h)
earlier (g ∷ done) e rest f order h = elim (contains_cases g f done h) [
  | inl same ↦ subst (λ x. slice_cmp nat_cmp x.name e.name ≡ Less) same (order.0 e (Contains-append_right done (e ∷ rest) e (contains_first e rest)))
  | inr later ↦ earlier done e rest f order.1 later
]

pub later : (done : List Entry) (e : Entry) (rest : List Entry) (f : Entry) → ByName (done ++ e ∷ rest) → Contains rest f → slice_cmp nat_cmp e.name f.name ≡ Less
later [] e rest f order h = order.0 f h
later (g ∷ done) e rest f order h = later done e rest f order.1 h

pub differ : (a b : List ℕ) → slice_cmp nat_cmp a b ≡ Less → a ≡ b → ⊥
differ = unlike
