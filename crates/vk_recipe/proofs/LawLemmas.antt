-- What a build makes is a package, and which step is the first that fails.
use Rattle.std.proofs.Common.{◌≡◌, ◌+◌, ℕ, List, [], ◌∷◌, ◌++◌, map, ap, sym, ◌∙◌, subst, append_assoc}
use Rattle.std.specs.Prelude.{Ok, flat_map}
use Rattle.std.specs.declared.cmp.Ordering.TheVariants.{Less, Equal}
use Rattle.std.specs.Cmp.{tied_itself}
use Rattle.std.specs.List.{Contains}
use Rattle.std.proofs.lemmas.Cmp.{nat_list_cmp_total}
use Rattle.std.proofs.lemmas.List.{append-nil}
use Rattle.vk_spec.specs.Lists.{NoRepeats}
use Rattle.vk_spec.specs.Paths.{Path}
use Rattle.vk_spec.specs.Reading.{◌>>=◌, read_after}
use Rattle.vk_spec.proofs.ReadingLemmas.{bind_ok}
use Rattle.vk_resolution.specs.Keys.{Ascends}
use Rattle.vk_resolution.proofs.Members.{contains_map, map_contains}
use Rattle.vk_resolution.proofs.Orders.{contains-in_order, in_order-ascends}
use Rattle.vk_entry.specs.Packages.{File, IsPackage}
use Rattle.vk_recipe.specs.Recipes.{Step}
use Rattle.vk_recipe.specs.PackagePaths.{IsDestination}
use Rattle.vk_recipe.specs.Builds.{Job, paths_of, judged, file_of_step, path_key, package_of, recipe_in, build_of}
use Rattle.vk_recipe.specs.BuildLaws.{AreApart}
use Rattle.vk_recipe.proofs.OrderLemmas.{Rises, text_of, bytes_cmp, then_nothing, rises_package}
use Rattle.vk_recipe.proofs.DistinctLemmas.{step_is_done, all_apart, all_made, paths_right, nothing_apart}
use Rattle.vk_recipe.proofs.FolderLemmas.{right_in}

-- ---- what is built

module _ (job : Job) where
  pub read_same : (earlier : List Step) (n : ℕ) (steps done : List Step) → read_after (judged job) earlier n steps ≡ Ok done → done ≡ earlier ++ steps
  unfolding read_after
  read_same earlier n [] done e = let is : done ≡ earlier = (cc) in is ∙ sym (append-nil earlier)
  read_same earlier n (s ∷ steps) done e =
      let first = bind_ok (judged job earlier n s) (λ y. read_after (judged job) (earlier ++ y ∷ []) (n + 1) steps) done e in
      let is = step_is_done job earlier n s first.0 first.1 in
      read_same (earlier ++ first.0 ∷ []) (n + 1) steps done first.2
      ∙ ap (λ y. (earlier ++ y ∷ []) ++ steps) is.1 ∙ append_assoc earlier (s ∷ []) steps

  -- the steps of what is built
  pub built_of : (files : List File) → build_of job ≡ Ok files → (steps : List Step) × (recipe_in job.folder ≡ Ok steps) × (read_after (judged job) [] 0 steps ≡ Ok steps) × (files ≡ package_of job steps)
  unfolding build_of
  built_of files e =
      let recipe = bind_ok (recipe_in job.folder) (λ steps. read_after (judged job) [] 0 steps >>= λ done. Ok (package_of job done)) files e in
      let read = bind_ok (read_after (judged job) [] 0 recipe.0) (λ done. Ok (package_of job done)) files recipe.2 in
      let same : read.0 ≡ recipe.0 = read_same [] 0 recipe.0 read.0 read.1 in
      let is : files ≡ package_of job read.0 = (cc) in
      (recipe.0, recipe.1, subst (λ l. read_after (judged job) [] 0 recipe.0 ≡ Ok l) same read.1, is ∙ ap (package_of job) same)

ascends_rises : (xs : List File) → Ascends path_key xs → Rises xs
ascends_rises [] up = tt
ascends_rises (x ∷ xs) up = ((λ z at. sym (then_nothing (bytes_cmp (text_of x) (text_of z))) ∙ up.0 z at), ascends_rises xs up.1)

abbrev path_in : File → Path
path_in f = f.path

rises_once : (xs : List File) → Rises xs → NoRepeats (map path_in xs)
rises_once [] up = tt
rises_once (x ∷ xs) up = (
  (λ at.
      let z = contains_map path_in xs x.path at in
      let less = subst (λ t. bytes_cmp (text_of x) t ≡ Less) (ap (λ p. text_of (record { path = p; bytes = [] })) z.2) (up.0 z.0 z.1) in
      let clash : Equal ≡ Less = sym (tied_itself nat_list_cmp_total (text_of x)) ∙ less in (cc)),
  rises_once xs up.1,
)

module _ (job : Job) (files : List File) (e : build_of job ≡ Ok files) where
  files_rise : Rises files
  files_rise = let is = built_of job files e in subst Rises (sym is.3) (ascends_rises (package_of job is.0) (in_order-ascends path_key (flat_map (file_of_step job) is.0)))

  pub package_built : IsPackage files
  package_built = rises_package files files_rise

  path_from : (p : Path) → Contains (map path_in files) p → Contains (paths_of job (built_of job files e).0) p
  path_from p at =
      let is = built_of job files e in
      let f = contains_map path_in files p at in
      let listed = subst (λ l. Contains l f.0) is.3 f.1 in
      subst (λ l. Contains l p) (all_made job [] 0 is.0 is.0 is.2)
      (subst (Contains (map path_in (flat_map (file_of_step job) is.0))) f.2 (map_contains path_in (flat_map (file_of_step job) is.0) f.0 (contains-in_order path_key (flat_map (file_of_step job) is.0) f.0 listed)))

  pub paths_built : (f : File) → Contains files f → IsDestination f.path
  paths_built f at =
      let is = built_of job files e in
      paths_right job is.0 (right_in job.folder is.0 is.1) f.path (path_from f.path (map_contains path_in files f at))

  pub apart_built : AreApart (map path_in files)
  apart_built =
      let is = built_of job files e in record {
        once = rises_once files files_rise;
        alone = λ p q one other begun. (all_apart job [] 0 is.0 is.0 is.2 (nothing_apart job)).alone p q (path_from p one) (path_from q other) begun;
      }
