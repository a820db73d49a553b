-- What is promised of every plan, whatever its folders hold.
use Rattle.std.specs.Prelude.{◌≡◌, ◌++◌, List, Result, IsSome}
use Rattle.std.specs.List.{Contains}
use Rattle.std.specs.FinMap as map
use Rattle.vk_spec.specs.Paths.{Path}
use Rattle.vk_spec.specs.Files.{Files, IsTree}
use Rattle.vk_spec.specs.Settings.{Setting}
use Rattle.vk_spec.specs.Standing.{Disk, disk_of}
use Rattle.vk_base.specs.Paths.{IsPath}
use Rattle.vk_base.specs.declared.limits.Limit.{Limit}
use Rattle.vk_resolution.specs.Givens.{Pages}
use Rattle.vk_resolution.specs.Outcomes.{planned}
use Rattle.vk_resolution.specs.Planner.{IsOutcomeOf}
use Rattle.vk_resolution.specs.Planning.{Item}
use Rattle.vk_resolution.specs.Reasons.{Reason}
use Rattle.vk_abi.specs.Nodes.{Node, text_of, messages_of, HasNoCollision}
use Rattle.vk_abi.specs.Plans.{Shared, Placed, Pair, AreOfRightNodes, HaveTheirFeatures, TextsAre}

-- each file stands at a path as a tree's calls name it: no part has a `/`. Where one had, a file `a/b` in one part
-- and one in two would be seen by one text, and the order of texts would be none
abbrev pub ArePaths : Files → Type 0
ArePaths files = (p : Path) → IsSome (map.get files p) → IsPath p

-- whatever its folders, a plan over such files has texts, or a first limit that one of the folders passes
abbrev pub TextsExist : Type 0
TextsExist = (shared : Shared) (plan : List Placed) (files : Files) → IsTree files → ArePaths files → (told : Result (List Pair) Limit) × TextsAre shared plan told (disk_of files)

-- and it has one answer at most, over any files
abbrev pub TextsAreOne : Type 0
TextsAreOne = (shared : Shared) (plan : List Placed) (one other : Result (List Pair) Limit) (d : Disk) → TextsAre shared plan one d → TextsAre shared plan other d → one ≡ other

-- every plan gives its items the features that the texts of its builds need to be told apart
abbrev pub PlansGiveFeatures : Type 0
PlansGiveFeatures = (setting : Setting) (pages : Pages) (items : List Item) (reasons : List Reason) → IsOutcomeOf setting pages (planned items reasons) → HaveTheirFeatures items

-- builds of any two plans with one text are one build, where no two of their messages collide
abbrev pub PlansTellNodes : Type 0
PlansTellNodes = (shared other : Shared) (d e : Disk) (plan more : List Placed) (pairs texts : List Pair) (one : AreOfRightNodes shared d plan pairs) (two : AreOfRightNodes other e more texts)
    → (m n : Node) → Contains one.nodes m → Contains two.nodes n → HasNoCollision (messages_of m ++ messages_of n) → text_of m ≡ text_of n → m ≡ n
