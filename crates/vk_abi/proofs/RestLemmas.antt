-- What follows a folder in the paths of a map of files.
use Rattle.std.proofs.Common.{◌≡◌, inl, inr, true, false, List, [], ◌∷◌, ◌++◌, refl, ap, sym, ◌∙◌, subst}
use Rattle.std.proofs.lemmas.Map.Views.{Contains-from_any, list_any-from_Contains}
use Rattle.std.proofs.lemmas.Slice.Eq.{bytes_eq-Decides}
use Rattle.std.specs.Prelude.{ℕ, Bool, Option, Some, None, IsSome, bytes_eq, flat_map, if◌then◌else◌}
use Rattle.std.specs.List.{Contains}
use Rattle.std.specs.Option.{option_to_list}
use Rattle.std.specs.Cmp.{eq_by_cmp_equiv}
use Rattle.std.specs.Ordering.{eq_by_cmp}
use Rattle.std.specs.FinMap as fin
use Rattle.vk_spec.specs.Paths.{Path, path_cmp}
use Rattle.vk_spec.specs.Files.{Files}
use Rattle.vk_spec.proofs.FileLemmas.{path_total, same_or_other, ties_other}
use Rattle.vk_spec.proofs.ListLemmas.{contains-flat_map, flat_map-contains}
use Rattle.vk_resolution.proofs.Members.{true_false, option_contains, contains_option}

-- ---- one path

abbrev rest_of : Path → Path → Option Path
rest_of [] q = Some q
rest_of (a ∷ p) [] = None
rest_of (a ∷ p) (b ∷ q) = if bytes_eq a b then rest_of p q else None

rest_next : (a b : List ℕ) (p q r : Path) (t : Bool) → bytes_eq a b ≡ t → (rest_of p q ≡ Some r → q ≡ p ++ r) → (if t then rest_of p q else None) ≡ Some r → b ∷ q ≡ a ∷ (p ++ r)
rest_next a b p q r true is more e = let first = (bytes_eq-Decides a b).0 is in let later = more e in λ i. sym first i ∷ later i
rest_next a b p q r false is more e = (cc)

rest_is : (p q r : Path) → rest_of p q ≡ Some r → q ≡ p ++ r
rest_is [] q r e = (cc)
rest_is (a ∷ p) [] r e = (cc)
rest_is (a ∷ p) (b ∷ q) r e = rest_next a b p q r (bytes_eq a b) refl (rest_is p q r) e

rest_there : (p r : Path) → rest_of p (p ++ r) ≡ Some r
rest_there [] r = refl
rest_there (a ∷ p) r = ap (λ t. if t then rest_of p (p ++ r) else None) ((bytes_eq-Decides a a).1 refl) ∙ rest_there p r

-- ---- all paths

tied : (p q : Path) → eq_by_cmp path_cmp p q ≡ true → p ≡ q
tied p q e = elim (same_or_other p q) [ inl same ↦ same | inr other ↦ absurd (true_false (eq_by_cmp path_cmp p q) e (ties_other p q other)) ]

-- what follows the folder in each path that it begins
abbrev pub rests : Files → Path → List Path
rests files dir = flat_map (λ q. option_to_list (rest_of dir q)) (fin.keys files)

pub rest_listed : (files : Files) (dir rest : Path) → IsSome (fin.get files (dir ++ rest)) → Contains (rests files dir) rest
rest_listed files dir rest some =
    flat_map-contains (λ q. option_to_list (rest_of dir q)) (fin.keys files) (dir ++ rest) rest
    (Contains-from_any {eq = eq_by_cmp path_cmp} tied (dir ++ rest) (fin.keys files) (sym (fin.contains_key-keys files (dir ++ rest)) ∙ some))
    (contains_option (rest_of dir (dir ++ rest)) rest (rest_there dir rest))

pub rest_stands : (files : Files) (dir rest : Path) → Contains (rests files dir) rest → IsSome (fin.get files (dir ++ rest))
rest_stands files dir rest at =
    let r = contains-flat_map (λ q. option_to_list (rest_of dir q)) (fin.keys files) rest at in
    subst (λ q. IsSome (fin.get files q)) (rest_is dir r.0 rest (option_contains (rest_of dir r.0) rest r.2))
    (fin.contains_key-keys files r.0 ∙ list_any-from_Contains (eq_by_cmp_equiv path_total) r.0 (fin.keys files) r.1)
