-- Each folder of a map of files has a listing.
use Rattle.std.proofs.Common.{◌≡◌, ◌⊎◌, inl, inr, true, false, not, List, [], ◌∷◌, ◌++◌, map, refl, ap, sym, ◌∙◌, subst, arith}
use Rattle.std.proofs.lemmas.List.{append_assoc}
use Rattle.std.specs.Prelude.{ℕ, Option, Some, None, IsSome, is_some, flat_map}
use Rattle.std.specs.List.{Contains}
use Rattle.std.specs.Cmp.Lexicographic.{slice_cmp}
use Rattle.std.specs.declared.cmp.Ordering.{Ordering}
use Rattle.std.specs.declared.cmp.Ordering.TheVariants.{Less, Equal, Greater}
use Rattle.std.specs.Ordering.{nat_cmp, ordering_then}
use Rattle.std.specs.FinMap as fin
use Rattle.vk_spec.specs.Paths.{Path}
use Rattle.vk_spec.specs.Files.{Files}
use Rattle.vk_spec.specs.Standing.{disk_of, Entry, IsFolder, IsAs, ByName, IsListing}
use Rattle.vk_spec.proofs.ListLemmas.{contains_nothing, contains_first, contains-flat_map, flat_map-contains}
use Rattle.vk_resolution.specs.Keys.{Key, IsKey, Ascends, in_order}
use Rattle.vk_resolution.proofs.Members.{contains_single, contains_map, map_contains}
use Rattle.vk_resolution.proofs.Orders.{in_order-ascends, in_order-contains, contains-in_order}
use Rattle.vk_tree.proofs.ListingLemmas.{some_entry, no_entry}
use Rattle.vk_abi.proofs.RestLemmas.{rests, rest_listed, rest_stands}

-- of two comparisons, the first tells where the second ties
pub first_less : (o : Ordering) → ordering_then o Equal ≡ Less → o ≡ Less
first_less Less e = refl
first_less Equal e = (cc)
first_less Greater e = (cc)

abbrev name_key : List ℕ → Key
name_key name = name ∷ []

name_key-IsKey : IsKey name_key
name_key-IsKey a b e = (cc)

abbrev first_of : Path → List (List ℕ)
first_of [] = []
first_of (part ∷ rest) = part ∷ []

abbrev names_in : Files → Path → List (List ℕ)
names_in files dir = in_order name_key (flat_map first_of (rests files dir))

abbrev entry_named : Files → Path → List ℕ → Entry
entry_named files dir name = record { name = name; folder = not (is_some (fin.get files (dir ++ name ∷ []))) }

by_name : (files : Files) (dir : Path) (names : List (List ℕ)) → Ascends name_key names → ByName (map (entry_named files dir) names)
by_name files dir [] order = tt
by_name files dir (n ∷ names) order = (
  (λ e at. let r = contains_map (entry_named files dir) names e at in
      subst (λ f. slice_cmp nat_cmp n f.name ≡ Less) r.2 (first_less (slice_cmp nat_cmp n r.0) (order.0 r.0 r.1))),
  by_name files dir names order.1,
)

first_from : (name : List ℕ) (rest : Path) → Contains (first_of rest) name → (more : Path) × (rest ≡ name ∷ more)
first_from name [] at = absurd (contains_nothing name at)
first_from name (part ∷ rest) at = (rest, ap (λ x. x ∷ rest) (contains_single part name at))

named_below : (files : Files) (dir : Path) (name : List ℕ) → Contains (names_in files dir) name → (more : Path) × IsSome (fin.get files (dir ++ name ∷ more))
named_below files dir name at =
    let r = contains-flat_map first_of (rests files dir) name (contains-in_order name_key (flat_map first_of (rests files dir)) name at) in
    let first = first_from name r.0 r.2 in
    (first.0, subst (λ rest. IsSome (fin.get files (dir ++ rest))) first.1 (rest_stands files dir r.0 r.1))

is_as : (files : Files) (dir : Path) (name : List ℕ) (more : Path) (found : Option (List ℕ)) → fin.get files (dir ++ name ∷ []) ≡ found → IsSome (fin.get files (dir ++ name ∷ more)) → IsAs (disk_of files) (dir ++ name ∷ []) (not (is_some found))
is_as files dir name more (Some bytes) e some = subst IsSome (sym e) refl
is_as files dir name [] None e some = let clash : false ≡ true = sym (ap is_some e) ∙ some in (cc)
is_as files dir name (part ∷ more) None e some = (part, more, subst (λ q. IsSome (fin.get files q)) (sym (append_assoc dir (name ∷ []) (part ∷ more))) some)

pub listing_exists : (files : Files) (dir : Path) → (es : List Entry) × IsListing (disk_of files) dir es
listing_exists files dir = (
  map (entry_named files dir) (names_in files dir),
  record {
    entries_of = record {
      order = by_name files dir (names_in files dir) (in_order-ascends name_key (flat_map first_of (rests files dir)));
      sound = λ e at.
          let r = contains_map (entry_named files dir) (names_in files dir) e at in
          let below = named_below files dir r.0 r.1 in
          subst (λ f. IsAs (disk_of files) (dir ++ f.name ∷ []) f.folder) r.2 (is_as files dir r.0 below.0 (fin.get files (dir ++ r.0 ∷ [])) refl below.1);
    };
    all = λ name rest some. (
      entry_named files dir name,
      map_contains (entry_named files dir) (names_in files dir) name (in_order-contains name_key name_key-IsKey (flat_map first_of (rests files dir)) name
          (flat_map-contains first_of (rests files dir) (name ∷ rest) name (rest_listed files dir (name ∷ rest) some) (contains_first name []))),
      refl,
    );
  },
)

-- a folder stands there, or none does
pub folder_or_none : (files : Files) (dir : Path) → IsFolder (disk_of files) dir ⊎ (IsFolder (disk_of files) dir → ⊥)
folder_or_none files dir = by_listing (listing_exists files dir)
  where
    by_listing : ((es : List Entry) × IsListing (disk_of files) dir es) → IsFolder (disk_of files) dir ⊎ (IsFolder (disk_of files) dir → ⊥)
    by_listing ([], listing) = inr (no_entry (disk_of files) dir [] listing refl)
    by_listing (e ∷ es, listing) = inl (some_entry (disk_of files) dir (e ∷ es) listing.entries_of (omega arith))
