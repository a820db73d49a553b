-- What early files decide.
use Rattle.std.proofs.Common.{◌≡◌, ◌+◌, ℕ, Bool, true, false, cond, List, [], ◌∷◌, ◌++◌, map, refl, ap, sym, subst, ◌∙◌, codes}
use Rattle.std.specs.Prelude.{Result, Ok, Err, if◌then◌else◌}
use Rattle.std.specs.FinMap as files_map
use Rattle.std.proofs.lemmas.List.{map-id}
use Rattle.std.proofs.lemmas.List.Elements.{All-head, All-tail, Contains-append_left, Contains-append_right}
use Rattle.serde_json.specs.Data.{Data}
use Rattle.vk_spec.specs.Reading.{◌>>=◌, read_each}
use Rattle.vk_spec.specs.Paths.{Path}
use Rattle.vk_spec.specs.Files.{Files}
use Rattle.vk_spec.specs.Lists.{IsWithin}
use Rattle.vk_spec.proofs.ListLemmas.{contains_nothing, contains_first, contains_later}
use Rattle.vk_files.specs.Within.{paths_after, up_to_first}
use Rattle.vk_files.proofs.WithinLemmas.{one_in, both_in}
use Rattle.vk_json.specs.declared.faults.FileFault.{FileFault}
use Rattle.vk_config.specs.Configs.{Config}
use Rattle.vk_config.specs.Readings.{config_of}
use Rattle.vk_config.specs.Embedding.{has_both, embedded_at}
use Rattle.vk_files.specs.Kept.{Seen, seen_in, seen_at, absent, too_large, holds}
use Rattle.vk_files.specs.Readings.{Standing, missing, too_long, readable, standing_by, standing_at, is_at, seen_file, early_of, or_told, told_at}
use Rattle.vk_model.specs.declared.projects.Project.{Project}
use Rattle.vk_spec.specs.Earlies.{Early, bad_file, two_configurations, no_triplet}
use Rattle.vk_opening.specs.Layouts.{Overlay}
use Rattle.vk_opening.specs.Asked.{is_faulty, tried_paths, triplets_asked, overlay_paths, found_paths, opening_paths}
use Rattle.vk_opening.specs.Laws.{AgreeAt, LacksTriplet, NoneHas, triplet_paths, early_paths}
use Rattle.vk_opening.specs.Projects.{manifest_path, config_path, triplet_path, folders_of}
use Rattle.vk_spec.specs.Manifests.{Manifest}
use Rattle.vk_spec.specs.Conditions.{Condition}
use Rattle.vk_opening.specs.Roots.{Root, OwnConfiguration, has_configuration, own_configuration, root_in, early_at, port_in}
use Rattle.vk_opening.specs.Configurations.{config_by, config_in}
use Rattle.vk_opening.specs.TripletFiles.{Triplets, triplet_in, triplet_at, triplets_at}
use Rattle.vk_opening.specs.Overlays.{overlay_by, overlay_at, overlays_at}
use Rattle.vk_opening.specs.Openings.{Opening, triplets_of, overlays_of, opened_of}
use Rattle.vk_opening.specs.Openings.{after_root, after_config, after_triplets, after_overlays}

-- two configurations

given_root : (project : Project) (root : Root) (files : Files) (line : Early) → early_at root_in (manifest_path project.folder) files ≡ Ok root → config_in project.folder root.configuration files ≡ Err line → opened_of project files ≡ Err line
unfolding opened_of
given_root project root files line is refused = rw (is, refused) refl

pub beside_a_file : (project : Project) (root : Root) (document : Data) (files : Files) → early_at root_in (manifest_path project.folder) files ≡ Ok root → root.configuration ≡ own_configuration document → has_configuration document ≡ true → standing_at (config_path project.folder) files ≡ readable → opened_of project files ≡ Err two_configurations
unfolding config_in
beside_a_file project root document files is own has stands = given_root project root files two_configurations is (rw (own, stands, has) refl)

pub under_both_keys : (project : Project) (root : Root) (document : Data) (files : Files) → early_at root_in (manifest_path project.folder) files ≡ Ok root → root.configuration ≡ own_configuration document → has_both document ≡ true → standing_at (config_path project.folder) files ≡ missing → opened_of project files ≡ Err two_configurations
unfolding config_in embedded_at
under_both_keys project root document files is own has stands = given_root project root files two_configurations is (rw (own, stands, has) refl)

long_is : (path : Path) (seen : Seen) → standing_by seen ≡ too_long → or_told early_of (told_at path (seen_file config_of seen)) ≡ Err (bad_file path [] (codes "large"))
long_is path absent stands = (cc)
long_is path too_large stands = refl
long_is path (holds bytes) stands = (cc)

pub too_long_first : (project : Project) (root : Root) (files : Files) → early_at root_in (manifest_path project.folder) files ≡ Ok root → standing_at (config_path project.folder) files ≡ too_long → opened_of project files ≡ Err (bad_file (config_path project.folder) [] (codes "large"))
unfolding config_in
too_long_first project root files is stands =
    given_root project root files _ is (rw stands (long_is (config_path project.folder) (seen_at (config_path project.folder) files) stands))

-- triplets folder by folder

triplet_step : (name : List ℕ) (folder : Path) (folders : List Path) (files : Files) (there : Bool) → is_at files (triplet_path name folder) ≡ there
    → triplet_at name (folder ∷ folders) files ≡ (if there then early_at (triplet_in name) (triplet_path name folder) files else triplet_at name folders files)
unfolding triplet_at
triplet_step name folder folders files true is = rw is refl
triplet_step name folder folders files false is = rw is refl

pub first_has : (name : List ℕ) (front rest : List Path) (folder : Path) (files : Files) → NoneHas name front files → is_at files (triplet_path name folder) ≡ true → triplet_at name (front ++ folder ∷ rest) files ≡ early_at (triplet_in name) (triplet_path name folder) files
first_has name [] rest folder files none has = triplet_step name folder rest files true has
first_has name (before ∷ front) rest folder files none has =
    triplet_step name before (front ++ folder ∷ rest) files false (All-head (LacksTriplet name files) before front none)
    ∙ first_has name front rest folder files (All-tail (LacksTriplet name files) before front none) has

pub none_has : (name : List ℕ) (folders : List Path) (files : Files) → NoneHas name folders files → triplet_at name folders files ≡ Err (no_triplet name)
unfolding triplet_at
none_has name [] files none = refl
none_has name (folder ∷ folders) files none = triplet_step name folder folders files false (All-head (LacksTriplet name files) folder folders none) ∙ none_has name folders files (All-tail (LacksTriplet name files) folder folders none)

-- files that agree

agree_front : (front more : List Path) (one other : Files) → AgreeAt (front ++ more) one other → AgreeAt front one other
agree_front [] more one other agree = tt
agree_front (path ∷ front) more one other agree = (agree.0, agree_front front more one other agree.1)

agree_rest : (front more : List Path) (one other : Files) → AgreeAt (front ++ more) one other → AgreeAt more one other
agree_rest [] more one other agree = agree
agree_rest (path ∷ front) more one other agree = agree_rest front more one other agree.1

module _ (one other : Files) where
  early_same : {A : Type 0} (reading : List ℕ → Result A FileFault) (path : Path) → files_map.get other path ≡ files_map.get one path → early_at reading path other ≡ early_at reading path one
  early_same reading path same = ap (λ o. or_told early_of (told_at path (seen_file reading (seen_in o)))) same

  standing_same : (path : Path) → files_map.get other path ≡ files_map.get one path → standing_at path other ≡ standing_at path one
  standing_same path same = ap (λ o. standing_by (seen_in o)) same

  by_same : (standing : Standing) (folder : Path) (own : OwnConfiguration) → early_at config_of (config_path folder) other ≡ early_at config_of (config_path folder) one → config_by standing folder own other ≡ config_by standing folder own one
  by_same missing folder own same = refl
  by_same too_long folder own same = same
  by_same readable folder own same = ap (λ read. if own.is_there then Err two_configurations else read) same

  config_same : (folder : Path) (own : OwnConfiguration) → files_map.get other (config_path folder) ≡ files_map.get one (config_path folder) → config_in folder own other ≡ config_in folder own one
  unfolding config_in
  config_same folder own same =
      ap (λ standing. config_by standing folder own other) (standing_same (config_path folder) same)
      ∙ by_same (standing_at (config_path folder) one) folder own (early_same config_of (config_path folder) same)

  there_same : (path : Path) → files_map.get other path ≡ files_map.get one path → (there : Bool) → is_at one path ≡ there → is_at other path ≡ there
  there_same path same there is = is_same ∙ is
    where
      is_same : is_at other path ≡ is_at one path
      is_same = rw same refl

  triplet_same : (name : List ℕ) (folders : List Path) → AgreeAt (map (triplet_path name) folders) one other → triplet_at name folders other ≡ triplet_at name folders one
  unfolding triplet_at
  triplet_same name [] agree = refl
  triplet_same name (folder ∷ folders) agree = by (triplet_same name folders agree.1) (is_at one (triplet_path name folder)) refl
    where
      by : triplet_at name folders other ≡ triplet_at name folders one → (there : Bool) → is_at one (triplet_path name folder) ≡ there → triplet_at name (folder ∷ folders) other ≡ triplet_at name (folder ∷ folders) one
      by later true is =
          triplet_step name folder folders other true (there_same (triplet_path name folder) agree.0 true is)
          ∙ early_same (triplet_in name) (triplet_path name folder) agree.0 ∙ sym (triplet_step name folder folders one true is)
      by later false is =
          triplet_step name folder folders other false (there_same (triplet_path name folder) agree.0 false is)
          ∙ later ∙ sym (triplet_step name folder folders one false is)

  kind_same : (standing : Standing) (folder : Path) → early_at port_in (manifest_path folder) other ≡ early_at port_in (manifest_path folder) one → overlay_by standing folder other ≡ overlay_by standing folder one
  kind_same missing folder same = refl
  kind_same too_long folder same = rw same refl
  kind_same readable folder same = rw same refl

  overlay_same : (folder : Path) → files_map.get other (manifest_path folder) ≡ files_map.get one (manifest_path folder) → overlay_at folder other ≡ overlay_at folder one
  unfolding overlay_at
  overlay_same folder same =
      ap (λ standing. overlay_by standing folder other) (standing_same (manifest_path folder) same)
      ∙ kind_same (standing_at (manifest_path folder) one) folder (early_same port_in (manifest_path folder) same)

  each_same : (folders : List Path) (n : ℕ) → AgreeAt (map manifest_path folders) one other → read_each (λ _ folder. overlay_at folder other) n folders ≡ read_each (λ _ folder. overlay_at folder one) n folders
  unfolding read_each
  each_same [] n agree = refl
  each_same (folder ∷ folders) n agree = rw (overlay_same folder agree.0, each_same folders (n + 1) agree.1) refl

  overlays_same : (folders : List Path) → AgreeAt (map manifest_path folders) one other → overlays_at folders other ≡ overlays_at folders one
  unfolding overlays_at
  overlays_same folders agree = each_same folders 0 agree

-- a step that went through
step_ok : {A B F : Type 0} (read : Result A F) (next : A → Result B F) (y : B) → (read >>= next) ≡ Ok y → (x : A) × (read ≡ Ok x) × (next x ≡ Ok y)
step_ok (Ok x) next y is = (x, refl, is)
step_ok (Err fault) next y is = (cc)

abbrev config_or : Config → Result Opening Early → Config
config_or config (Ok o) = o.layout.config
config_or config (Err line) = config

-- the configuration of an opening is the one that was read
config_opened : (project : Project) (root : Manifest Condition) (config : Config) (triplets : Triplets) (overlays : List Overlay) (files : Files) (opening : Opening) → after_overlays project root config triplets overlays files ≡ Ok opening → opening.layout.config ≡ config
config_opened project root config triplets overlays files opening is = ap (λ r. config_or opening.layout.config r) (sym is)

pub decided : (project : Project) (opening : Opening) (one other : Files) → AgreeAt (early_paths project opening.layout.config) one other → opened_of project one ≡ Ok opening → opened_of project other ≡ Ok opening
unfolding opened_of triplets_at
decided project opening one other agree is =
    let root = step_ok (early_at root_in (manifest_path project.folder) one) (λ root. after_root project root one) opening is in
    let config = step_ok (config_in project.folder root.0.configuration one) (λ config. after_config project root.0.manifest config one) opening root.2 in
    let triplets = step_ok (triplets_of project config.0 one) (λ triplets. after_triplets project root.0.manifest config.0 triplets one) opening config.2 in
    let overlays = step_ok (overlays_of project config.0 one) (λ overlays. after_overlays project root.0.manifest config.0 triplets.0 overlays one) opening triplets.2 in
    with_config root.0 config.0 triplets.0 overlays.0 root.1 config.1 triplets.1 overlays.1 overlays.2
  where
    triplets_same : (config : Config) → AgreeAt (triplet_paths project config) one other → triplets_of project config other ≡ triplets_of project config one
    triplets_same config agreed =
        let folders = folders_of project.folder project.overlay_triplets config.overlay_triplets in
        let first = agree_front (map (triplet_path project.target) folders) (map (triplet_path project.host) folders) one other agreed in
        let second = agree_rest (map (triplet_path project.target) folders) (map (triplet_path project.host) folders) one other agreed in
        rw (triplet_same one other project.target folders first, triplet_same one other project.host folders second) refl

    with_config : (root : Root) (config : Config) (triplets : Triplets) (overlays : List Overlay) → early_at root_in (manifest_path project.folder) one ≡ Ok root → config_in project.folder root.configuration one ≡ Ok config → triplets_of project config one ≡ Ok triplets → overlays_of project config one ≡ Ok overlays
        → after_overlays project root.manifest config triplets overlays one ≡ Ok opening → opened_of project other ≡ Ok opening
    with_config root config triplets overlays root_is config_is triplets_are overlays_are is_opening =
        let config_same_as : opening.layout.config ≡ config = config_opened project root.manifest config triplets overlays one opening is_opening in
        let agreed : AgreeAt (early_paths project config) one other = rw config_same_as at agree in
        let ports = map manifest_path (folders_of project.folder project.overlay_ports config.overlay_ports) in
        rw (
          early_same one other root_in (manifest_path project.folder) agreed.0,
          root_is,
          config_same one other project.folder root.configuration agreed.1.0,
          config_is,
          triplets_same config (agree_front (triplet_paths project config) ports one other agreed.1.1),
          triplets_are,
          overlays_same one other (folders_of project.folder project.overlay_ports config.overlay_ports) (agree_rest (triplet_paths project config) ports one other agreed.1.1),
          overlays_are,
        )
        is_opening

-- paths that are asked for

cons_in : {X : Type 0} (x : X) (xs ys : List X) → IsWithin xs ys → IsWithin (x ∷ xs) (x ∷ ys)
cons_in x xs ys within = both_in (x ∷ []) xs (x ∷ ys) (one_in x (x ∷ ys) (contains_first x ys)) (λ y has. contains_later x y ys (within y has))

first_in : {X : Type 0} (path : X → Path) (test : X → Bool) (xs : List X) → IsWithin (map path (up_to_first test xs)) (map path xs)
first_in path test [] = λ y has. has
first_in path test (x ∷ xs) = cons_in (path x) (map path (cond (test x) [] (up_to_first test xs))) (map path xs) (by (test x) (first_in path test xs))
  where
    by : (passes : Bool) → IsWithin (map path (up_to_first test xs)) (map path xs) → IsWithin (map path (cond passes [] (up_to_first test xs))) (map path xs)
    by true within = λ y has. absurd (contains_nothing y has)
    by false within = within

first_here : (test : Path → Bool) (xs : List Path) → IsWithin (up_to_first test xs) xs
first_here test xs = rw (map-id (up_to_first test xs), map-id xs) at (first_in (λ p. p) test xs)

after_in : {A P : Type 0} (read : Result A P) (next : A → List Path) (ys : List Path) → ((x : A) → IsWithin (next x) ys) → IsWithin (paths_after read next) ys
after_in (Ok x) next ys within = within x
after_in (Err fault) next ys within = λ y has. absurd (contains_nothing y has)

append_in : {X : Type 0} (xs ys more others : List X) → IsWithin xs ys → IsWithin more others → IsWithin (xs ++ more) (ys ++ others)
append_in xs ys more others one two =
    both_in xs more (ys ++ others) (λ x has. Contains-append_left ys others x (one x has)) (λ x has. Contains-append_right ys others x (two x has))

found_early : (project : Project) (config : Config) (files : Files) → IsWithin (found_paths project config files) (triplet_paths project config ++ map manifest_path (folders_of project.folder project.overlay_ports config.overlay_ports))
found_early project config files =
    let folders = folders_of project.folder project.overlay_triplets config.overlay_triplets in
    let ports = folders_of project.folder project.overlay_ports config.overlay_ports in
    let target = map (triplet_path project.target) folders in
    let host = map (triplet_path project.host) folders in
    let tried = tried_paths project.host folders files in
    append_in (triplets_asked project config files) (target ++ host) (paths_after (triplets_of project config files) (λ triplets. overlay_paths ports files)) (map manifest_path ports)
    (append_in (tried_paths project.target folders files) target (paths_after (triplet_at project.target folders files) (λ first. tried)) host
    (first_here (is_at files) target)
    (after_in (triplet_at project.target folders files) (λ first. tried) host (λ first. first_here (is_at files) host)))
    (after_in (triplets_of project config files) (λ triplets. overlay_paths ports files) (map manifest_path ports) (λ triplets. first_in manifest_path (is_faulty files) ports))

pub asked_early : (project : Project) (opening : Opening) (files : Files) → opened_of project files ≡ Ok opening → IsWithin (opening_paths project files) (early_paths project opening.layout.config)
unfolding opened_of
asked_early project opening files is =
    let root = step_ok (early_at root_in (manifest_path project.folder) files) (λ root. after_root project root files) opening is in
    let config = step_ok (config_in project.folder root.0.configuration files) (λ config. after_config project root.0.manifest config files) opening root.2 in
    let triplets = step_ok (triplets_of project config.0 files) (λ triplets. after_triplets project root.0.manifest config.0 triplets files) opening config.2 in
    let overlays = step_ok (overlays_of project config.0 files) (λ overlays. after_overlays project root.0.manifest config.0 triplets.0 overlays files) opening triplets.2 in
    with_config root.0 config.0 root.1 config.1 (config_opened project root.0.manifest config.0 triplets.0 overlays.0 files opening overlays.2)
  where
    with_config : (root : Root) (config : Config) → early_at root_in (manifest_path project.folder) files ≡ Ok root → config_in project.folder root.configuration files ≡ Ok config → opening.layout.config ≡ config → IsWithin (opening_paths project files) (early_paths project opening.layout.config)
    with_config root config root_is config_is same =
        let top = manifest_path project.folder in
        let file = config_path project.folder in
        let found = found_paths project config files in
        let early = triplet_paths project config ++ map manifest_path (folders_of project.folder project.overlay_ports config.overlay_ports) in
        let asked : opening_paths project files ≡ top ∷ file ∷ found = rw (root_is, config_is) refl in
        let within : IsWithin (top ∷ file ∷ found) (early_paths project config) = cons_in top (file ∷ found) (file ∷ early) (cons_in file found early (found_early project config files)) in
        subst (λ paths. IsWithin paths (early_paths project opening.layout.config)) (sym asked) (subst (λ c. IsWithin (top ∷ file ∷ found) (early_paths project c)) (sym same) within)
