-- What is left of a walk that has come so far.
use Rattle.std.specs.Prelude.{◌≡◌, ◌++◌, [], ◌∷◌, ℕ, suc, List, true, Result, Ok, Err, reverse, Option, Some, None}
use Rattle.vk_spec.specs.Paths.{Path}
use Rattle.vk_spec.specs.Standing.{Entry}
use Rattle.vk_base.specs.declared.stops.Outage.{Outage}
use Rattle.vk_tree.specs.Answers.{entries_of}
use Rattle.vk_tree.specs.declared.trees.Listed.{Listed}
use Rattle.vk_protocol.specs.Protocols.{Protocol, ends, on_ok, each, ◌>>=◌}
use Rattle.vk_walk.specs.Walks.{Limits, Limit, deep, entries, files}
use Rattle.vk_walk.specs.WalkProtocol.{walk_at}
use Rattle.vk_walk.specs.declared.walks.WalkLimit.{WalkLimit}
use Rattle.vk_walk.specs.declared.walks.WalkLimit.TheVariants.{Deep, Entries, Files}
use Rattle.vk_walk.specs.declared.walks.Pending.{Pending}
use Rattle.vk_walk.specs.declared.walks.WalkNow.{WalkNow}
use Rattle.vk_walk.specs.declared.walks.WalkNow.TheVariants.{Lists, Done, Over}
use Rattle.vk_walk.specs.declared.walks.Walk.{Walk}

abbrev pub limit_view : WalkLimit → Limit
limit_view Deep = deep
limit_view Entries = entries
limit_view Files = files

abbrev pub listed_view : Result (List Listed) WalkLimit → Result (List Entry) Limit
listed_view (Ok ls) = Ok (entries_of ls)
listed_view (Err limit) = Err (limit_view limit)

abbrev pub found_view : Result (List Path) WalkLimit → Result (List Path) Limit
found_view (Ok found) = Ok found
found_view (Err limit) = Err (limit_view limit)

abbrev pub ended_view : Result (Result (List Path) WalkLimit) Outage → Result (Result (List Path) Limit) Outage
ended_view (Ok r) = Ok (found_view r)
ended_view (Err e) = Err e

abbrev pub walk_later : ℕ → Pending → List Path → Protocol (Result (List Path) Limit)
walk_later most p found = walk_at most p.left p.path p.folder found

-- what comes later, the next one last
abbrev pub walk_todo : ℕ → List Pending → List Path → Protocol (Result (List Path) Limit)
walk_todo most todo found = each (walk_later most) (reverse todo) found

-- something is dealt with, or what is to be done with it
abbrev pub Comes : ℕ → Option WalkNow → List Path → Protocol (Result (List Path) Limit) → Type 0
Comes most None found p = ends (Ok found) ≡ p
Comes most (Some (Lists path left)) found p = walk_at most (suc left) path true found ≡ p
Comes most (Some Done) found p = ⊥
Comes most (Some (Over limit)) found p = ends (Err (limit_view limit)) ≡ p

abbrev pub now_means : ℕ → WalkNow → List Path → List Pending → Protocol (Result (List Path) Limit)
now_means most (Lists path left) found todo = walk_at most (suc left) path true found >>= on_ok (walk_todo most todo)
now_means most Done found todo = ends (Ok found)
now_means most (Over limit) found todo = ends (Err (limit_view limit))

-- what is left of it
unfoldable pub walk_means : Walk → Protocol (Result (List Path) Limit)
walk_means w = now_means w.files w.at w.found w.todo

-- it has found nothing, and nothing is pending
pub record IsFresh (most : Limits) (at : WalkNow) (w : Walk) : Type 0 where
  pub files : w.files ≡ most.files
  pub todo : w.todo ≡ []
  pub found : w.found ≡ []
  pub next : w.at ≡ at

-- what the entries of a folder lead to
abbrev pub after_list : ℕ → Path → ℕ → List Path → List Pending → Result (List Entry) Limit → Protocol (Result (List Path) Limit)
after_list most path left found todo r = on_ok (λ es. each (λ e found. walk_at most left (path ++ e.name ∷ []) e.folder found) es found) r >>= on_ok (walk_todo most todo)

abbrev pub pend : Path → ℕ → Entry → Pending
pend path left e = record { path = path ++ e.name ∷ []; folder = e.folder; left = left }

-- the entries of a folder come before what came next
abbrev pub Entered : Path → ℕ → List Entry → List Pending → List Pending → Type 0
Entered path left es old new = (most : ℕ) (found : List Path) → walk_todo most new found ≡ each (λ e found. walk_at most left (path ++ e.name ∷ []) e.folder found) es found >>= on_ok (walk_todo most old)
