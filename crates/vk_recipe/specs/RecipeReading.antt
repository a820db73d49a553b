-- What the document of a recorded build means, in the order in which it is read.
use Rattle.std.specs.Prelude.{ℕ, Bool, false, nat_lt, List, [], ◌∷◌, length, Option}
use Rattle.std.specs.Prelude.{Result, Ok, Err, codes, if◌then◌else◌}
use Rattle.std.specs.List.{filter}
use Rattle.std.specs.Option.{is_some}
use Rattle.serde_json.specs.Data.{Data}
use Rattle.serde_json.specs.Find.{get}
use Rattle.vk_spec.specs.Conditions.{Condition, always}
use Rattle.vk_spec.specs.Reading.{◌>>=◌, or_fault}
use Rattle.vk_json.specs.Documents.{json_of}
use Rattle.vk_json.specs.declared.faults.FileFault.{FileFault}
use Rattle.vk_json.specs.declared.faults.Why.TheVariants as why
use Rattle.vk_json.specs.Looks.{items_of}
use Rattle.vk_json.specs.Places.{here}
use Rattle.vk_json.specs.Readings.{Reading, text_at, bool_at, object_at}
use Rattle.vk_json.specs.Readings.{wanted, optional, optional_or, each_item}
use Rattle.vk_fields.specs.Texts.{port_name_at, feature_name_at, expression_at}
use Rattle.vk_recipe.specs.PackagePaths.{package_path_at}
use Rattle.vk_recipe.specs.Recipes.{Step, copy, write, take, info}
use Rattle.vk_recipe.specs.declared.reading.ActionKey.{ActionKey}
use Rattle.vk_recipe.specs.declared.reading.ActionKey.TheVariants as the

-- the key of an action
abbrev pub key_of : ActionKey → List ℕ
key_of the.Copy = codes "copy"
key_of the.Write = codes "write"
key_of the.Take = codes "take"
key_of the.Info = codes "info"

-- the actions whose keys a step has
abbrev pub actions_in : Data → List ActionKey
actions_in d = filter (λ action. is_some (get (key_of action) d))
    (the.Copy ∷ the.Write ∷ the.Take ∷ the.Info ∷ [])

-- exactly one of them
abbrev pub only_action : List ActionKey → Result ActionKey FileFault
only_action (action ∷ []) = Ok action
only_action [] = Err (here why.Item)
only_action (action ∷ second ∷ rest) = Err (here why.Item)

abbrev pub action_in : Reading ActionKey
action_in d = only_action (actions_in d)

-- `true`, and not `false`
unfoldable pub true_at : Reading (Unit {0})
true_at d = bool_at d >>= λ is. if is then Ok tt else Err (here why.Bool)

-- where a step applies, and with which feature
pub record Terms : Type 0 where
  pub platform : Condition
  pub feature : Option (List ℕ)

unfoldable pub terms_in : Reading Terms
terms_in d = do
  platform ← optional_or always expression_at (codes "platform") d
  feature ← optional feature_name_at (codes "feature") d
  Ok (record { platform = platform; feature = feature })

-- each kind of step, key by key
unfoldable pub copy_at : Reading Step
copy_at d = do
  file ← wanted package_path_at (codes "copy") d
  to ← wanted package_path_at (codes "to") d
  terms ← terms_in d
  Ok (record {
    action = copy file;
    to = to;
    platform = terms.platform;
    feature = terms.feature;
  })

unfoldable pub write_at : Reading Step
write_at d = do
  text ← wanted text_at (codes "write") d
  to ← wanted package_path_at (codes "to") d
  terms ← terms_in d
  Ok (record {
    action = write text;
    to = to;
    platform = terms.platform;
    feature = terms.feature;
  })

-- the dependency that a step takes from: its port, and whether it is the one for the host
pub record Origin : Type 0 where
  pub from : List ℕ
  pub host : Bool

unfoldable pub origin_in : Reading Origin
origin_in d = do
  from ← wanted port_name_at (codes "from") d
  host ← optional_or false bool_at (codes "host") d
  Ok (record { from = from; host = host })

unfoldable pub take_at : Reading Step
take_at d = do
  file ← wanted package_path_at (codes "take") d
  to ← wanted package_path_at (codes "to") d
  origin ← origin_in d
  terms ← terms_in d
  Ok (record {
    action = take file origin.from origin.host;
    to = to;
    platform = terms.platform;
    feature = terms.feature;
  })

unfoldable pub info_at : Reading Step
info_at d = do
  is ← wanted true_at (codes "info") d
  to ← wanted package_path_at (codes "to") d
  terms ← terms_in d
  Ok (record {
    action = info;
    to = to;
    platform = terms.platform;
    feature = terms.feature;
  })

abbrev pub step_of : ActionKey → Reading Step
step_of the.Copy = copy_at
step_of the.Write = write_at
step_of the.Take = take_at
step_of the.Info = info_at

unfoldable pub step_at : Reading Step
step_at d = action_in d >>= λ action. step_of action d

-- that a list has at most 50,000 items
abbrev pub unless_many : List Data → Result (Unit {0}) FileFault
unless_many ds = if nat_lt 50000 (length ds) then Err (here why.Many) else Ok tt

abbrev pub few_items : Reading (Unit {0})
few_items d = or_fault (here why.List) (items_of d) >>= unless_many

unfoldable pub steps_at : Reading (List Step)
steps_at d = few_items d >>= λ few. each_item step_at d

unfoldable pub recipe_at : Reading (List Step)
recipe_at d = object_at d >>= λ object. wanted steps_at (codes "steps") d

-- the steps of a recorded build, by its bytes
abbrev pub recipe_of : List ℕ → Result (List Step) FileFault
recipe_of bytes = json_of bytes >>= recipe_at
