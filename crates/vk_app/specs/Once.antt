-- Reading a tree: for a plan each path once and none that isn't listed, and what a request reads besides.
use Rattle.std.specs.Prelude.{◌≡◌, ◌⊎◌, ◌++◌, Bool, List, [], ◌∷◌, IfSome, Ok, Err}
use Rattle.std.specs.List.{Contains}
use Rattle.vk_spec.specs.Lists.{NoRepeats}
use Rattle.vk_spec.specs.Paths.{Path}
use Rattle.vk_spec.specs.Files.{Files}
use Rattle.vk_spec.specs.States.{State, OnlyRead}
use Rattle.vk_app.specs.declared.requests.Task.TheVariants as task
use Rattle.vk_app.specs.Asked.{Purpose, to_plan, to_tell}
use Rattle.vk_app.specs.Requests.{Request}

-- where the files are told, each of these paths is one that may be asked for
abbrev pub AreListed : (Files → Path → Type 0) → List Path → State → Type 0
AreListed May paths s = IfSome s.told (λ t. (path : Path) → Contains paths path → May t.files path)

-- nothing but reading was done: after earlier paths these were asked for, none of them again, no path twice, and none but those that may be asked for
pub record ReadsOnce (May : Files → Path → Type 0) (earlier : List Path) (failed : Bool) (before after : State) : Type 0 where
  pub only : OnlyRead failed before after
  pub distinct : NoRepeats (earlier ++ only.asked)
  pub listed : AreListed May only.asked before

-- what a request asks for besides its plan: a check its report, once at most; an ABI text files of ports' folders, where they are told
abbrev pub AreOwn : Request → (Files → Path → Type 0) → List Path → State → Type 0
AreOwn (Err fault) May own s = own ≡ []
AreOwn (Ok (task.Plan project)) May own s = own ≡ []
AreOwn (Ok (task.Abi project instance)) May own s = AreListed May own s
AreOwn (Ok (task.Check project report)) May own s = (own ≡ []) ⊎ (own ≡ report ∷ [])
AreOwn (Ok (task.SelfLoad size project)) May own s = own ≡ []

-- nothing but reading was done: for the plan each path once, and at one point what is read besides
pub record ReadsFor (request : Request) (May : Purpose → Files → Path → Type 0) (earlier : List Path) (failed : Bool) (before after : State) : Type 0 where
  pub only : OnlyRead failed before after
  pub first : List Path
  pub own : List Path
  pub rest : List Path
  pub parts : only.asked ≡ first ++ (own ++ rest)
  pub distinct : NoRepeats (earlier ++ (first ++ rest))
  pub listed : AreListed (May to_plan) (first ++ rest) before
  pub besides : AreOwn request (May to_tell) own before
