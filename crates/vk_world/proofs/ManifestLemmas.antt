-- The manifest of a row, among those of a table.
use Rattle.std.proofs.Common.{◌≡◌, ℕ, Bool, true, false, cond, List, [], ◌∷◌, map, refl, ap, subst, ◌∙◌}
use Rattle.std.specs.Prelude.{Some, option_map, Result}
use Rattle.std.specs.List.{Contains, find}
use Rattle.std.proofs.lemmas.Result.{IfOk-weaker}
use Rattle.vk_spec.specs.Paths.{Path}
use Rattle.vk_spec.specs.Versions.{Ask, ask_of, same_ask}
use Rattle.vk_spec.specs.Pages.{row_in}
use Rattle.vk_spec.proofs.ListLemmas.{contains_first, contains_later}
use Rattle.vk_registry.specs.Tables.{Row}
use Rattle.vk_catalogue.specs.Views.{manifest_said}
use Rattle.vk_base.specs.declared.stops.Outage.{Outage}
use Rattle.vk_model.specs.declared.wrongs.Wrong.{Wrong}
use Rattle.vk_model.specs.declared.manifests.Manifest.{Manifest}
use Rattle.std.specs.declared.rc.Rc.{Rc}
use Rattle.vk_files.specs.Kept.{Held}
use Rattle.vk_files.proofs.WithinLemmas.{one_in}
use Rattle.vk_files.specs.Finds.{NothingKnown}
use Rattle.vk_pages.specs.Pages.{row_manifest, page_row}
use Rattle.vk_pages.specs.Asked.{row_path}
use Rattle.vk_world.specs.Learning.{Learns, Means}
use Rattle.vk_world.specs.Listed.{row_meant}
use Rattle.vk_world.proofs.LearnLemmas.{learns_so}
use Rattle.vk_world.proofs.ListedLemmas.{some_is, manifest_on_table}

-- what is found in a list has its path among theirs
path_found : {X : Type 0} (path : X → Path) (test : X → Bool) (xs : List X) (x : X) → find test xs ≡ Some x → Contains (map path xs) (path x)
path_found path test [] x e = (cc)
path_found path test (y ∷ ys) x e = by (test y) e (path_found path test ys x)
  where
    by : (b : Bool) → cond b (Some y) (find test ys) ≡ Some x → (find test ys ≡ Some x → Contains (map path ys) (path x)) → Contains (path y ∷ map path ys) (path x)
    by true first rest = subst (λ z. Contains (path y ∷ map path ys) (path z)) (some_is first) (contains_first (path y) (map path ys))
    by false later rest = contains_later (path y) (path x) (map path ys) (rest later)

-- the manifest of the row that an ask means is on the page, and stands where one of the table's does
pub meant_learned : {Z : Type 0} (port : List ℕ) (registry : Path) (rows : List Row) (ask : Ask) (row : Row) {answer : Result (Result (Rc Manifest Z) Wrong) Outage} {a b : Held} → row_meant rows ask ≡ Some row
    → Learns answer (Means manifest_said (row_manifest port registry row)) (λ f. row_path registry row ∷ []) NothingKnown NothingKnown a b
    → Learns answer (λ f m. Some (manifest_said m) ≡ option_map (λ r. r.manifest) (row_in (map (page_row port registry f) rows) ask)) (λ f. map (row_path registry) rows) NothingKnown NothingKnown a b
meant_learned port registry rows ask row {answer = answer} meant one =
    learns_so refl (λ f known. (known, one_in (row_path registry row) (map (row_path registry) rows) (path_found (row_path registry) (λ r. same_ask (ask_of r.version) ask) rows row meant)))
    (λ f known after says. (known, IfOk-weaker answer _ _ (λ m is. ap Some is ∙ manifest_on_table port registry f rows ask row meant) says)) one
