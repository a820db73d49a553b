-- What is kept in a cache: looking a path up, and keeping one more.
use Rattle.std.proofs.Common.{◌≡◌, true, false, List, [], ◌∷◌, refl, ap}
use Rattle.std.specs.Prelude.{Some, None, IsSome, Result, Ok, Err, IfOk}
use Rattle.std.specs.Option.{is_some}
use Rattle.std.specs.Map.{lookup, keys_of}
use Rattle.std.proofs.lemmas.Slice.Eq.{slice_eq-Decides, bytes_eq-Decides}
use Rattle.vk_spec.specs.Paths.{Path}
use Rattle.vk_files.specs.Kept.{Seen, Kept, paths_of}
use Rattle.vk_files.specs.Views.{same_path, seen_view, kept_at}
use Rattle.vk_files.specs.declared.found.Found.{Found}
use Rattle.vk_files.proofs.NotedLemmas.{noted, none_noted}

abbrev pub entries_kept : List (Path × Found) → Kept
entries_kept es = noted seen_view es

pub none_kept : (path : Path) (es : List (Path × Found)) → is_some (lookup (same_path path) es) ≡ false → kept_at path (entries_kept es) ≡ None
none_kept path es = none_noted seen_view (same_path path) es

pub path_is : (x y : Path) → same_path x y ≡ true → x ≡ y
path_is x y e = (slice_eq-Decides bytes_eq-Decides x y _ refl).0 e

pub same_self : (path : Path) → same_path path path ≡ true
same_self path = (slice_eq-Decides bytes_eq-Decides path path _ refl).1 refl

-- the paths of what is kept are the keys
pub paths_kept : (es : List (Path × Found)) → paths_of (entries_kept es) ≡ keys_of es
paths_kept [] = refl
paths_kept (e ∷ es) = ap (λ ks. e.0 ∷ ks) (paths_kept es)

-- what is found in what is kept is kept, whatever is answered of it
pub kept_so : {kept now : Kept} {seen : Seen} (path : Path) → now ≡ kept → kept_at path kept ≡ Some seen → IsSome (kept_at path now)
kept_so path same found = rw (same, found) refl

pub ok_each : {A E P : Type 0} (r : Result A E) → P → IfOk r (λ x. P)
ok_each (Ok x) p = p
ok_each (Err e) p = tt
