-- Where a cache in memory may be written, and which packages may be put there.
use Rattle.std.proofs.Common.{◌≡◌, ◌<◌, ◌≤◌, ◌+◌, ◌++◌, ◌∷◌, [], ℕ, List, length, map, take, get_or, refl, ap, sym, ◌∙◌, subst, inl, inr, append_assoc}
use Rattle.std.specs.Prelude.{None, codes}
use Rattle.std.specs.List.{Contains}
use Rattle.std.proofs.lemmas.List.{append-nil, map-append, take_all, take_more}
use Rattle.std.proofs.lemmas.List.Elements.{Contains-append_cases}
use Rattle.vk_spec.specs.Paths.{Path, Begins}
use Rattle.vk_spec.specs.Files.{Files, HasRoomFor}
use Rattle.vk_spec.specs.Standing.{disk_of}
use Rattle.vk_spec.proofs.ListLemmas.{contains_cases, contains_nothing}
use Rattle.vk_base.specs.Paths.{parts_of}
use Rattle.vk_entry.specs.Packages.{File}
use Rattle.vk_publish.specs.Entries.{AreApart}
use Rattle.vk_publish.specs.Outcomes.{IsClear}

-- no file stands above a place in a folder of the cache, so none stands at the cache or above it
above_cache : (cache : Path) (folder name : List ℕ) (f : Files) → HasRoomFor ((cache ++ folder ∷ []) ++ name ∷ []) f → (front rest : Path) → cache ≡ front ++ rest → disk_of f front ≡ None
above_cache cache folder name f room front [] is = room.above front folder (name ∷ []) (append_assoc cache (folder ∷ []) (name ∷ []) ∙ ap (λ p. p ++ folder ∷ name ∷ []) (is ∙ append-nil front))
above_cache cache folder name f room front (part ∷ rest) is =
    room.above front part (rest ++ folder ∷ name ∷ [])
    (append_assoc cache (folder ∷ []) (name ∷ []) ∙ ap (λ p. p ++ folder ∷ name ∷ []) is ∙ append_assoc front (part ∷ rest) (folder ∷ name ∷ []))

pub clear_from : (cache : Path) (name : List ℕ) (f : Files) → HasRoomFor ((cache ++ codes "abi2" ∷ []) ++ name ∷ []) f → HasRoomFor ((cache ++ codes "tmp" ∷ []) ++ name ∷ []) f → HasRoomFor ((cache ++ codes "damaged" ∷ []) ++ name ∷ []) f
    → IsClear cache (disk_of f)
clear_from cache name f entries tmp damaged = record {
  above = above_cache cache (codes "abi2") name f entries;
  entries = entries.above (cache ++ codes "abi2" ∷ []) name [] refl;
  tmp = tmp.above (cache ++ codes "tmp" ∷ []) name [] refl;
  damaged = damaged.above (cache ++ codes "damaged" ∷ []) name [] refl;
}

-- what holds of the first ones, and of one more
module _ {A B : Type 0} (view : A → B) (P : B → Type 0) (xs : List A) (n : ℕ) where
  pub none_yet : (y : B) → Contains (map view (take 0 xs)) y → P y
  none_yet y h = absurd (contains_nothing y h)

  pub one_more : (x : A) → n < length xs → x ≡ get_or xs n x → ((y : B) → Contains (map view (take n xs)) y → P y) → P (view x) → (y : B) → Contains (map view (take (n + 1) xs)) y → P y
  one_more x within is before here y h =
      let longer : take (n + 1) xs ≡ take n xs ++ x ∷ [] = take_more xs n x within ∙ ap (λ z. take n xs ++ z ∷ []) (sym is) in
      elim (Contains-append_cases (map view (take n xs)) (view x ∷ []) y (subst (λ l. Contains l y) (ap (map view) longer ∙ map-append view (take n xs) (x ∷ [])) h)) [
        | inl front ↦ before y front
        | inr last ↦ elim (contains_cases (view x) y [] last) [
          | inl same ↦ subst P same here
          | inr none ↦ absurd (contains_nothing y none)
        ]
      ]

  pub all_done : length xs ≤ n → ((y : B) → Contains (map view (take n xs)) y → P y) → (y : B) → Contains (map view xs) y → P y
  all_done ends all = subst (λ l. (y : B) → Contains (map view l) y → P y) (take_all n xs ends) all

-- a path begins none of these, but for itself
abbrev pub BeginsNone : List File → Path → Type 0
BeginsNone files path = (other : File) → Contains files other → Begins path other.path → path ≡ other.path

-- it is one that a package may have
abbrev pub IsPlain : Path → Type 0
IsPlain path = path ≡ (46 ∷ []) ∷ parts_of path

pub apart_from : (files : List File) → ((one : File) → Contains files one → IsPlain one.path × BeginsNone files one.path) → AreApart files
apart_from files each one other has there below =
    let plain = (each one has).0 in
    let begins : Begins one.path other.path = (below.0, (each other there).0 ∙ ap (λ p. (46 ∷ []) ∷ p) below.1 ∙ ap (λ p. p ++ below.0) (sym plain)) in
    ap parts_of ((each one has).1 other there begins)
