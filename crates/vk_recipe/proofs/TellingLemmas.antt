-- What the parts of a recorded build give, and where what they tell stands.
use Rattle.std.proofs.Common.{◌≡◌, ◌≤◌, ◌+◌, ℕ, suc, Bool, true, false, nat_lt, List, [], ◌∷◌, length, refl, ap, sym, ◌∙◌, arith}
use Rattle.std.specs.Prelude.{Option, Some, None, IfSome, Result, Ok, Err, codes, if◌then◌else◌}
use Rattle.std.specs.List.{All}
use Rattle.std.proofs.lemmas.Bool.Decides.{nat_tests}
use Rattle.serde_json.specs.Data.{Data}
use Rattle.serde_json.specs.Find.{get}
use Rattle.vk_spec.specs.Paths.{Path}
use Rattle.vk_spec.specs.Reading.{◌>>=◌, or_fault, read_each}
use Rattle.vk_spec.proofs.ReadingLemmas.{bind_ok}
use Rattle.vk_spec.specs.Conditions.{always}
use Rattle.vk_base.specs.Names.{IsName, IsFeatureName, port_rule}
use Rattle.vk_base.specs.Paths.{IsPath}
use Rattle.vk_base.specs.PathReading.{path_of}
use Rattle.vk_base.proofs.PathLaws.{read_path}
use Rattle.vk_json.specs.Documents.{json_of}
use Rattle.vk_json.specs.declared.faults.FileFault.{FileFault}
use Rattle.vk_json.specs.declared.faults.Why.TheVariants as why
use Rattle.vk_json.specs.Looks.{items_of}
use Rattle.vk_json.specs.Places.{here, inside, member_step}
use Rattle.vk_json.specs.Readings.{text_at, bool_at, object_at, wanted, optional, each_item, item_at}
use Rattle.vk_json.specs.Standing.{StandsIn}
use Rattle.vk_json.proofs.TellingLemmas.{Says, Reads, Anything, says_then, told_here, text_says, bool_says, object_says, or_says, wanted_says, optional_says, optional_or_says, each_item_says, told_stands, given_has}
use Rattle.vk_fields.specs.Wording.{path_word}
use Rattle.vk_fields.specs.Texts.{port_name_at, feature_name_at, expression_at}
use Rattle.vk_fields.proofs.TellingLemmas.{said_says, port_name_says, feature_name_says, expression_says}
use Rattle.vk_recipe.specs.Recipes.{Step}
use Rattle.vk_recipe.specs.PackagePaths.{is_package_path, unless_outside, package_path_of, package_path_at, IsDestination}
use Rattle.vk_recipe.specs.RecipeReading.{actions_in, only_action, true_at, terms_in, copy_at, write_at, origin_in, take_at, info_at, step_of, step_at, unless_many, few_items, steps_at, recipe_at, recipe_of}
use Rattle.vk_recipe.proofs.PathLemmas.{package_path}
use Rattle.vk_recipe.specs.declared.reading.ActionKey.{ActionKey}
use Rattle.vk_recipe.specs.declared.reading.ActionKey.TheVariants as the

-- ---- paths

outside_says : (d : Data) (path : Path) → IsPath path → Says IsDestination d (unless_outside path)
outside_says d path is = by (is_package_path path) refl
  where
    by : (inside : Bool) → is_package_path path ≡ inside
        → Says {A = Path} IsDestination d (if inside then Ok path else Err (here why.Path))
    by true e = record { path = is; fits = package_path path e }
    by false e = told_here d why.Path (λ e. (cc))

path_says : Reads IsDestination package_path_at
unfolding package_path_of
path_says d =
    says_then Anything IsDestination d _ _ (text_says d) (λ text any.
    says_then IsPath IsDestination d _ _
    (said_says path_word IsPath d (path_of text) (λ wrong e. (cc)) (λ path e. read_path text path e))
    (λ path is. outside_says d path is))

-- ---- steps

abbrev pub GoesRight : Step → Type 0
GoesRight step = IsDestination step.to

only_says : (d : Data) (actions : List ActionKey) → Says Anything d (only_action actions)
only_says d [] = told_here d why.Item (λ e. (cc))
only_says d (action ∷ []) = tt
only_says d (action ∷ second ∷ rest) = told_here d why.Item (λ e. (cc))

true_by : (d : Data) (is : Bool) → Says {A = Unit {0}} Anything d (if is then Ok tt else Err (here why.Bool))
true_by d true = tt
true_by d false = told_here d why.Bool (λ e. (cc))

true_says : Reads Anything true_at
unfolding true_at
true_says d = says_then Anything Anything d _ _ (bool_says d) (λ is any. true_by d is)

terms_says : Reads Anything terms_in
unfolding terms_in
terms_says d =
    says_then Anything Anything d _ _ (optional_or_says Anything expression_at expression_says (codes "platform") d always tt) (λ platform any.
    says_then (λ o. IfSome o IsFeatureName) Anything d (optional feature_name_at (codes "feature") d) (λ feature. Ok (record { platform = platform; feature = feature })) (optional_says IsFeatureName feature_name_at feature_name_says (codes "feature") d) (λ feature is. tt))

to_says : (d : Data) → Says IsDestination d (wanted package_path_at (codes "to") d)
to_says d = wanted_says IsDestination package_path_at path_says (codes "to") d

copy_says : Reads GoesRight copy_at
unfolding copy_at
copy_says d =
    says_then IsDestination GoesRight d _ _ (wanted_says IsDestination package_path_at path_says (codes "copy") d) (λ file any.
    says_then IsDestination GoesRight d _ _ (to_says d) (λ to is.
    says_then Anything GoesRight d _ _ (terms_says d) (λ terms any. is)))

write_says : Reads GoesRight write_at
unfolding write_at
write_says d =
    says_then Anything GoesRight d _ _ (wanted_says Anything text_at text_says (codes "write") d) (λ text any.
    says_then IsDestination GoesRight d _ _ (to_says d) (λ to is.
    says_then Anything GoesRight d _ _ (terms_says d) (λ terms any. is)))

origin_says : Reads Anything origin_in
unfolding origin_in
origin_says d =
    says_then (IsName port_rule) Anything d _ _ (wanted_says (IsName port_rule) port_name_at port_name_says (codes "from") d) (λ from any.
    says_then Anything Anything d _ _ (optional_or_says Anything bool_at bool_says (codes "host") d false tt) (λ host any. tt))

take_says : Reads GoesRight take_at
unfolding take_at
take_says d =
    says_then IsDestination GoesRight d _ _ (wanted_says IsDestination package_path_at path_says (codes "take") d) (λ file any.
    says_then IsDestination GoesRight d _ _ (to_says d) (λ to is.
    says_then Anything GoesRight d _ _ (origin_says d) (λ origin any.
    says_then Anything GoesRight d _ _ (terms_says d) (λ terms any. is))))

info_says : Reads GoesRight info_at
unfolding info_at
info_says d =
    says_then Anything GoesRight d _ _ (wanted_says Anything true_at true_says (codes "info") d) (λ done any.
    says_then IsDestination GoesRight d _ _ (to_says d) (λ to is.
    says_then Anything GoesRight d _ _ (terms_says d) (λ terms any. is)))

step_of_says : (action : ActionKey) → Reads GoesRight (step_of action)
step_of_says the.Copy d = copy_says d
step_of_says the.Write d = write_says d
step_of_says the.Take d = take_says d
step_of_says the.Info d = info_says d

step_says : Reads GoesRight step_at
unfolding step_at
step_says d = says_then Anything GoesRight d _ _ (only_says d (actions_in d)) (λ action any. step_of_says action d)

-- ---- all steps

many_by : (d : Data) (many : Bool) → Says {A = Unit {0}} Anything d (if many then Err (here why.Many) else Ok tt)
many_by d true = told_here d why.Many (λ e. (cc))
many_by d false = tt

few_says : Reads Anything few_items
few_says d = says_then Anything Anything d _ _ (or_says d why.List (items_of d) (λ e. (cc))) (λ ds any. many_by d (nat_lt 50000 (length ds)))

steps_says : Reads (All GoesRight) steps_at
unfolding steps_at
steps_says d = says_then Anything (All GoesRight) d _ _ (few_says d) (λ few any. each_item_says GoesRight step_at step_says d)

recipe_says : Reads (All GoesRight) recipe_at
unfolding recipe_at
recipe_says d = says_then Anything (All GoesRight) d _ _ (object_says d) (λ object any. wanted_says (All GoesRight) steps_at steps_says (codes "steps") d)

pub recipe_stands : (bytes : List ℕ) (d : Data) (fault : FileFault) → json_of bytes ≡ Ok d → recipe_of bytes ≡ Err fault → StandsIn d fault
recipe_stands bytes d fault is told = told_stands (All GoesRight) d (recipe_at d) fault (recipe_says d) (sym (ap (λ r. r >>= recipe_at) is) ∙ told)

pub goes_right : (bytes : List ℕ) (steps : List Step) → recipe_of bytes ≡ Ok steps → All GoesRight steps
goes_right bytes steps read =
    let document = bind_ok (json_of bytes) recipe_at steps read in
    given_has (All GoesRight) document.0 (recipe_at document.0) steps (recipe_says document.0) document.2

-- ---- how many there are

as_many : {X A F : Type 0} (f : ℕ → X → Result A F) (n : ℕ) (xs : List X) (ys : List A) → read_each f n xs ≡ Ok ys → length ys ≡ length xs
unfolding read_each
as_many f n [] ys e = let none : ys ≡ [] = (cc) in rw none refl
as_many {A = A} f n (x ∷ xs) ys e =
    let first = bind_ok (f n x) (λ y. read_each f (n + 1) xs >>= λ zs. Ok (y ∷ zs)) ys e in
    let rest = bind_ok (read_each f (n + 1) xs) (λ zs. Ok (first.0 ∷ zs)) ys first.2 in
    let is : ys ≡ first.0 ∷ rest.0 = (cc) in
    rw is (ap suc (as_many f (n + 1) xs rest.0 rest.1))

inside_ok : {A : Type 0} (step : List ℕ) (r : Result A FileFault) (x : A) → inside step r ≡ Ok x → r ≡ Ok x
inside_ok step (Ok y) x e = e
inside_ok step (Err fault) x e = (cc)

not_many : (ds : List Data) (many : Bool) (u : Unit {0}) → nat_lt 50000 (length ds) ≡ many → (if many then Err (here why.Many) else Ok tt) ≡ Ok u → length ds ≤ 50000
not_many ds true u is e = (cc)
not_many ds false u is e = grind (arith, nat_tests)

few_by : (read : Option (List Data)) (steps : List Step) (u : Unit {0}) → (or_fault (here why.List) read >>= unless_many) ≡ Ok u
    → (or_fault (here why.List) read >>= read_each (item_at step_at) 0) ≡ Ok steps → length steps ≤ 50000
few_by None steps u few each = (cc)
few_by (Some ds) steps u few each =
    let most = not_many ds (nat_lt 50000 (length ds)) u refl few in
    let same = as_many (item_at step_at) 0 ds steps each in
    omega (arith, most, same)

steps_few : (d : Data) (steps : List Step) → steps_at d ≡ Ok steps → length steps ≤ 50000
unfolding steps_at each_item
steps_few d steps read =
    let few = bind_ok (few_items d) (λ u. each_item step_at d) steps read in
    few_by (items_of d) steps few.0 few.1 few.2

pub few_steps : (bytes : List ℕ) (steps : List Step) → recipe_of bytes ≡ Ok steps → length steps ≤ 50000
unfolding recipe_at wanted
few_steps bytes steps read =
    let document = bind_ok (json_of bytes) recipe_at steps read in
    let object = bind_ok (object_at document.0) (λ o. wanted steps_at (codes "steps") document.0) steps document.2 in
    let member = inside_ok (member_step (codes "steps")) (or_fault (here why.Missing) (get (codes "steps") document.0) >>= steps_at) steps object.2 in
    let list = bind_ok (or_fault (here why.Missing) (get (codes "steps") document.0)) steps_at steps member in
    steps_few list.0 steps list.2
