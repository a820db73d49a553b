-- A setting aside: its calls may be made, and what it leaves by its answer and wherever it stops.
use Rattle.std.proofs.Common.{◌≡◌, inl, inr, ◌++◌, [], ℕ, List, refl, sym, subst}
use Rattle.std.specs.Prelude.{Option, Some, None, IfSome, IfOk, Result, Ok, Err, codes}
use Rattle.std.proofs.lemmas.List.{append-nil}
use Rattle.vk_spec.specs.Paths.{Path}
use Rattle.vk_spec.specs.Files.{Files}
use Rattle.vk_spec.specs.States.{Told, State}
use Rattle.vk_spec.specs.Standing.{Disk, disk_of, Stands, OnFiles}
use Rattle.vk_spec.specs.Calls.{list_of, rename_of, CanMake, missing, too_large, exists, many}
use Rattle.vk_spec.proofs.FileLemmas.{none_some}
use Rattle.vk_base.specs.declared.limits.Limit.{Limit}
use Rattle.vk_base.specs.declared.limits.Limit.TheVariants as limit
use Rattle.vk_base.specs.declared.stops.Outage.{Outage}
use Rattle.vk_protocol.specs.Keeps.{Alone, Keeps}
use Rattle.vk_protocol.specs.Protocols.{Reply, Protocol, ends, on_ok}
use Rattle.vk_protocol.specs.Runs.{CanRun, CanRunOn, Does, Ran}
use Rattle.vk_protocol.proofs.KeptRuns.{On, alone_terms, alone_ends, alone_asks, keeps_can, keeps_ran}
use Rattle.vk_places.specs.Places.{agent_name, entry_at, damaged_of, damaged_at}
use Rattle.vk_places.proofs.ApartLemmas.{damaged_apart, bare_above}
use Rattle.vk_publish.specs.Names.{free_of}
use Rattle.vk_publish.specs.Aside.{moved_by, move_out, aside_of}
use Rattle.vk_publish.specs.Outcomes.{Between, IsClear, IsAside, AsideSays, AsideKeeps}
use Rattle.vk_publish.specs.declared.answers.Moved.{Moved}
use Rattle.vk_publish.specs.declared.answers.Moved.TheVariants as moved
use Rattle.vk_publish.proofs.NewNames.{Picks, picks, list_left}
use Rattle.vk_publish.proofs.PublishKept.{told_then}

module _ (cache : Path) (agent digest : List ℕ) where
  abbrev Kept : Files → Files → Type 0
  Kept f g = AsideKeeps cache agent digest f g

  abbrev Said : Files → Result Moved Limit → Files → Type 0
  Said f x g = AsideSays cache agent digest x f g

  abbrev IsKept : Files → Protocol (Result Moved Limit) → Files → Type 0
  IsKept f p g = Keeps (Alone (Kept f)) (λ g h. Kept f h) (Said f) p g

  -- ---- the move

  can_move : (n : ℕ) (d : Disk) → IsClear cache d → CanMake (rename_of (entry_at cache digest) (damaged_at cache agent n)) d
  can_move n d clear = (
    bare_above cache (codes "damaged") (agent_name agent n) d clear.above clear.damaged,
    (λ b. damaged_apart cache agent digest n (damaged_at cache agent n) [] b.0 (sym (append-nil (damaged_at cache agent n))) b.1),
    (λ b. damaged_apart cache agent digest n (entry_at cache digest) b.0 [] b.1 (sym (append-nil (entry_at cache digest)))),
  )

  move_replied : (n : ℕ) (f g : Files) (reply : Reply (rename_of (entry_at cache digest) (damaged_at cache agent n))) → Stands (disk_of f) (entry_at cache digest) → Picks cache (codes "damaged") agent limit.Damaged (Ok n) f
      → Does (rename_of (entry_at cache digest) (damaged_at cache agent n)) reply f g → Kept f g × IsKept f (ends (Ok (moved_by reply))) g
  move_replied n f g (Ok u) stands picks does =
      let is : IsAside cache agent digest (disk_of f) (disk_of g) = record { few = picks.0; number = n; name = picks.1; gone = does.leaves.leaves; kept = does.leaves.lands; others = does.leaves.others } in
      (inr is, alone_ends (Kept f) (Said f) (Ok moved.Done) g is)
  move_replied n f g (Err missing) stands picks does = absurd (does.says stands)
  move_replied n f g (Err too_large) stands picks does = absurd does.says
  move_replied n f g (Err exists) stands picks does = absurd (none_some (disk_of f (damaged_at cache agent n ++ does.says.1.0)) (picks.1.free does.says.1.0) does.says.1.1)
  move_replied n f g (Err many) stands picks does = absurd does.says

  -- ---- the whole

  picked_kept : (f : Files) (r : Result ℕ Limit) → IsClear cache (disk_of f) → Stands (disk_of f) (entry_at cache digest) → Picks cache (codes "damaged") agent limit.Damaged r f
      → IsKept f (on_ok (λ n. move_out (entry_at cache digest) (damaged_at cache agent n)) r) f
  picked_kept f (Ok n) clear stands picks =
      alone_asks (Kept f) (Said f) (rename_of (entry_at cache digest) (damaged_at cache agent n)) (λ reply. ends (Ok (moved_by reply))) f
      (can_move n (disk_of f) clear)
      (λ h left. inl left)
      (λ reply h does. move_replied n f h reply stands picks does)
  picked_kept f (Err over) clear stands picks = alone_ends (Kept f) (Said f) (Err over) f picks

  pub aside_kept : (f : Files) → IsClear cache (disk_of f) → Stands (disk_of f) (entry_at cache digest) → IsKept f (aside_of cache agent digest) f
  unfolding aside_of
  aside_kept f clear stands =
      alone_asks (Kept f) (Said f) (list_of (damaged_of cache)) (λ reply. on_ok (λ n. move_out (entry_at cache digest) (damaged_at cache agent n)) (free_of limit.Damaged agent reply)) f
      tt
      (λ h left. inl left)
      (λ reply h does. (let same = list_left cache (codes "damaged") agent reply f h does in
      (inl same, subst (λ g. IsKept f (on_ok (λ n. move_out (entry_at cache digest) (damaged_at cache agent n)) (free_of limit.Damaged agent reply)) g) (sym same) (picked_kept f (free_of limit.Damaged agent reply) clear stands (picks cache (codes "damaged") agent limit.Damaged reply f does.says does.small)))))

  can_on : (s : State) (o : Option Told) → s.told ≡ o → On (λ f. IsClear cache (disk_of f)) o → On (λ f. Stands (disk_of f) (entry_at cache digest)) o → CanRunOn (aside_of cache agent digest) s
  can_on s None is clear stands = subst (λ (o : Option Told). IfSome o (λ t. CanRun (aside_of cache agent digest) t.files)) (sym is) tt
  can_on s (Some t) is clear stands = subst (λ (o : Option Told). IfSome o (λ t. CanRun (aside_of cache agent digest) t.files)) (sym is)
      (keeps_can (Alone (Kept t.files)) (λ g h. Kept t.files h) (Kept t.files) (Said t.files) (alone_terms (Kept t.files)) (aside_of cache agent digest) t.files (inl refl, aside_kept t.files clear stands))

  -- each call may be made
  pub aside_can : (s : State) → OnFiles (IsClear cache) s → OnFiles (λ d. Stands d (entry_at cache digest)) s → CanRunOn (aside_of cache agent digest) s
  aside_can s clear stands = can_on s s.told refl clear stands

  ran_on : (r : Result (Result Moved Limit) Outage) (a b : State) (o : Option Told) → a.told ≡ o → On (λ f. IsClear cache (disk_of f)) o → On (λ f. Stands (disk_of f) (entry_at cache digest)) o → Ran (aside_of cache agent digest) r a b
      → IfSome o (λ t. IfSome b.told (λ u. AsideKeeps cache agent digest t.files u.files × IfOk r (λ x. AsideSays cache agent digest x t.files u.files)))
  ran_on r a b None is clear stands ran = tt
  ran_on r a b (Some t) is clear stands ran =
      keeps_ran (Alone (Kept t.files)) (λ g h. Kept t.files h) (Kept t.files) (Said t.files) (alone_terms (Kept t.files)) (aside_of cache agent digest) r a b
      (subst (λ (o : Option Told). On (λ g. Kept t.files g × IsKept t.files (aside_of cache agent digest) g) o) (sym is) (inl refl, aside_kept t.files clear stands)) ran

  -- what a run leaves, wherever it stops, and by its answer
  pub aside_keeps : (r : Result (Result Moved Limit) Outage) (a b : State) → OnFiles (IsClear cache) a → OnFiles (λ d. Stands d (entry_at cache digest)) a → Ran (aside_of cache agent digest) r a b → Between (AsideKeeps cache agent digest) a b
  aside_keeps r a b clear stands ran = told_then (λ f g. AsideKeeps cache agent digest f g × IfOk r (λ x. AsideSays cache agent digest x f g)) (AsideKeeps cache agent digest) a.told b.told (λ f g h. h.0) (ran_on r a b a.told refl clear stands ran)

  pub aside_says : (r s : Result (Result Moved Limit) Outage) (a b : State) → s ≡ r → OnFiles (IsClear cache) a → OnFiles (λ d. Stands d (entry_at cache digest)) a → Ran (aside_of cache agent digest) r a b → Between (λ f g. IfOk s (λ x. AsideSays cache agent digest x f g)) a b
  aside_says r s a b same clear stands ran =
      subst (λ z. Between (λ f g. IfOk z (λ x. AsideSays cache agent digest x f g)) a b) (sym same)
      (told_then (λ f g. AsideKeeps cache agent digest f g × IfOk r (λ x. AsideSays cache agent digest x f g)) (λ f g. IfOk r (λ x. AsideSays cache agent digest x f g)) a.told b.told (λ f g h. h.1) (ran_on r a b a.told refl clear stands ran))
