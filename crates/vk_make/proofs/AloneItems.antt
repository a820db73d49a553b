-- One package that is made alone: what it comes to, and what is kept.
use Rattle.std.proofs.Common.{◌≡◌, ◌⊎◌, inl, inr, ◌++◌, [], ◌∷◌, ◌+◌, ℕ, List, false, refl, sym, subst, arith}
use Rattle.std.specs.Prelude.{Option, Some, None, Result, Ok, Err, IsSome, nat_le, slice_get}
use Rattle.std.specs.List.{Contains}
use Rattle.std.proofs.lemmas.Bool.Decides.{nat_tests}
use Rattle.std.proofs.lemmas.List.{append-nil}
use Rattle.vk_spec.specs.Paths.{Path, Begins}
use Rattle.vk_spec.specs.Files.{Files}
use Rattle.vk_spec.specs.Standing.{Disk, disk_of, bare, under, Same, Else, IsFolder, Stands}
use Rattle.vk_spec.proofs.FileLemmas.{none_some}
use Rattle.vk_base.specs.declared.limits.Limit as base
use Rattle.vk_base.specs.declared.limits.Limit.TheVariants as limit
use Rattle.vk_tree.specs.Trees.{IsTreeDisk}
use Rattle.vk_places.specs.Places.{agent_name, entry_at, tmp_at, damaged_at}
use Rattle.vk_protocol.specs.Keeps.{Alone}
use Rattle.vk_protocol.specs.Protocols.{Protocol, ends, ◌>>=◌}
use Rattle.vk_protocol.specs.Runs.{Tells}
use Rattle.vk_protocol.proofs.BelowLemmas.{tells_same}
use Rattle.vk_protocol.proofs.KeepLemmas.{keeps_then}
use Rattle.vk_protocol.proofs.KeptRuns.{alone_terms, alone_ends}
use Rattle.vk_entry.specs.Packages.{File}
use Rattle.vk_gather.specs.Gathers.{gather_of}
use Rattle.vk_gather.specs.GatherIs.{GatherIs, HasPaths}
use Rattle.vk_gather.proofs.GatherAsks.{gather_below, gather_reads}
use Rattle.vk_look.specs.LookIs.{Wanted, LookIs, IsHarm}
use Rattle.vk_look.specs.Looks.{Looked, look_of}
use Rattle.vk_look.specs.declared.answers.Harm.{Harm}
use Rattle.vk_look.specs.declared.answers.Harm.TheVariants as harms
use Rattle.vk_look.specs.declared.answers.Look.TheVariants as look
use Rattle.vk_look.proofs.CallLemmas.{look_below, look_reads}
use Rattle.vk_look.proofs.LookTells.{look_tells}
use Rattle.vk_look.proofs.PlaceTests.{if_case}
use Rattle.vk_publish.specs.Aside.{aside_of}
use Rattle.vk_publish.specs.Entries.{AreApart, HoldsJust, entry_files}
use Rattle.vk_publish.specs.Outcomes.{PublishSays, PublishKeeps, IsAside, AsideSays, AsideKeeps}
use Rattle.vk_publish.specs.Publish.{publish_of}
use Rattle.vk_publish.specs.declared.answers.Moved.{Moved}
use Rattle.vk_publish.specs.declared.answers.Moved.TheVariants as moves
use Rattle.vk_publish.specs.declared.answers.Published.{Published}
use Rattle.vk_publish.specs.declared.answers.Published.TheVariants as publishing
use Rattle.vk_publish.proofs.AsideKept.{aside_kept}
use Rattle.vk_publish.proofs.PublishKept.{publish_kept}
use Rattle.vk_publish.proofs.PutLemmas.{list_in, entry_apart}
use Rattle.vk_make.specs.declared.answers.Mark.{Mark}
use Rattle.vk_make.specs.declared.answers.Mark.TheVariants.{Restored, Built, Rebuilt}
use Rattle.vk_make.specs.declared.answers.MakeEnd.{MakeEnd}
use Rattle.vk_make.specs.declared.answers.MakeEnd.TheVariants.{Collision, Limit, Refused}
use Rattle.vk_make.specs.Makes.{Task, Work, Item, OneMade, published, publish_item, supplied, gathered, build_item, moved, rebuild_item, wanted_for, looked, look_item, item_of, size_of}
use Rattle.vk_make.specs.MakeIs.{HasToBeBuilt, IsSupplied, IsBuilt, HasPackage, EntryStands, PassesLimit, by_entry, by_folder, by_package, by_damaged, by_tmp, ItemIs, aside_for}
use Rattle.vk_make.specs.Keeping.{IsLeft, CanMakeAlone}
use Rattle.vk_make.proofs.AloneReads.{KeepsAlone, reads_alone, keeps_as}
use Rattle.vk_make.specs.Leaving.{IsAtHand, IsAllKept}
use Rattle.vk_make.proofs.AlonePlaces.{else_more, same_then, stands_now, bare_where, tmp_published, tmp_aside}
use Rattle.vk_make.proofs.AloneAside.{AreAside, Stay, stay_same, stay_more, published_names, moved_names, aside_same, aside_more, new_names, no_more}
use Rattle.vk_make.proofs.AloneKept.{Touched, Since, since_start, since_more, folder_same, clear_since, left_same, free_away, hand_more, all_kept}

-- ---- what stands where a look finds a harm

folder_stands : (d : Disk) (p : Path) → IsFolder d p → Stands d p
folder_stands d p is = (is.0 ∷ is.1, is.2)

pub damaged_stands : (w : Wanted) (harm : Harm) (d : Disk) → IsHarm w harm d → Stands d w.entry
damaged_stands w harms.Text d (inl file) = ([], subst (λ p. IsSome (d p)) (sym (append-nil w.entry)) file)
damaged_stands w harms.Text d (inr is) = folder_stands d w.entry is.0
damaged_stands w harms.Contents d is = folder_stands d w.entry is.1.folder
damaged_stands w harms.Extra d is = folder_stands d w.entry is.1.kept_is.folder
damaged_stands w harms.Missing d is = folder_stands d w.entry is.1.kept_is.folder
damaged_stands w harms.Size d is = folder_stands d w.entry is.1.kept_is.folder
damaged_stands w harms.Hash d is = folder_stands d w.entry is.1.kept_is.folder

package_of : (w : Work) (i : Item) (mark : Mark) (built : List File) (d : Disk) → IsBuilt w i mark built d → HasPackage w i mark built d
package_of w i Restored built d is = absurd is.has_to
package_of w i Built built d is = is
package_of w i (Rebuilt harm) built d is = is

stands_of : (w : Work) (i : Item) (mark : Mark) (built : List File) (d e : Disk) → IsBuilt w i mark built d → HoldsJust (entry_files i.task.text built) (entry_at w.cache i.task.digest) e → EntryStands w i.task mark built d e
stands_of w i Restored built d e is whole = absurd is.has_to
stands_of w i Built built d e is whole = whole
stands_of w i (Rebuilt harm) built d e is whole = whole

-- ---- what is said of one item

-- an item of these tasks
pub record IsNext (tasks : List Task) (i : Item) : Type 0 where
  pub member : Contains tasks i.task
  pub stands : slice_get tasks i.place ≡ Some i.task

-- where it is made, so many entries were set aside
abbrev pub MadeAside : Work → ℕ → OneMade → Disk → Disk → Type 0
MadeAside w away (Ok made) d e = AreAside w (away + aside_for made.mark) d e
MadeAside w away (Err why) d e = Unit {0}

-- what it comes to, by the files at the start, and what it leaves to the others since it began
pub record Comes (w : Work) (tasks : List Task) (away : ℕ) (i : Item) (f s : Files) (one : OneMade) (g : Files) : Type 0 where
  pub is : ItemIs w away i one (disk_of f) g
  pub since : Since w tasks i.task (disk_of s) (disk_of g)
  pub stay : Stay w (disk_of s) (disk_of g)
  pub aside : MadeAside w away one (disk_of f) (disk_of g)

pub then_alone : {A B : Type 0} (I : Files → Type 0) (P : A → Files → Type 0) (Q : B → Files → Type 0) (p : Protocol A) (k : A → Protocol B) (g : Files) → I g → ((x : A) (h : Files) → I h → P x h → KeepsAlone I Q (k x) h) → KeepsAlone I P p g → KeepsAlone I Q (p >>= k) g
then_alone I P Q p k g holds more kept = keeps_then (Alone I) (λ g h. I h) I P Q p k g (alone_terms I) holds more kept

module _ (gathers : (most : ℕ) (folder : Path) (d : Disk) → HasPaths folder d → Tells (λ r. GatherIs most folder r d) (gather_of most folder) d) where
  module _ (w : Work) (tasks : List Task) (f : Files) (can : CanMakeAlone w tasks (disk_of f)) (tree : IsTreeDisk (disk_of f)) where
    abbrev d : Disk
    d = disk_of f

    abbrev Kept : Files → Type 0
    Kept g = IsAllKept w tasks d (disk_of g)

    module _ (away : ℕ) (i : Item) (next : IsNext tasks i) (s : Files) where
      abbrev Ends : OneMade → Files → Type 0
      Ends one g = Comes w tasks away i f s one g

      abbrev IsKept : Protocol OneMade → Files → Type 0
      IsKept p g = KeepsAlone Kept Ends p g

      -- what it leaves to the others so far
      abbrev Leaving : Files → Type 0
      Leaving g = Since w tasks i.task (disk_of s) (disk_of g) × Stay w (disk_of s) (disk_of g)

      -- and how many entries were set aside
      abbrev After : ℕ → Files → Type 0
      After count g = Leaving g × AreAside w count d (disk_of g)

      abbrev entry : Path
      entry = entry_at w.cache i.task.digest

      end_kept : (one : OneMade) (g : Files) → Ends one g → IsKept (ends one) g
      end_kept one g comes = alone_ends Kept Ends one g comes

      fault_kept : (why : MakeEnd) (g : Files) → ItemIs w away i (Err why) d g → Leaving g → IsKept (ends (Err why)) g
      fault_kept why g is still = end_kept (Err why) g (record { is = is; since = still.0; stay = still.1; aside = tt })

      still_none : (g : Files) → After away g → After (away + 0) g
      still_none g still = subst (λ n. After n g) (omega arith) still

      -- ---- a publishing

      module _ (g : Files) (kept : Kept g) where
        tmp_touched : (n : ℕ) → Same bare (under (tmp_at w.cache w.agent n) (disk_of g)) → (q : Path) → Begins (tmp_at w.cache w.agent n) q ⊎ Begins entry q → Touched w (disk_of g) i.task.digest q
        tmp_touched n free q (inl b) = inl (n, free, b)
        tmp_touched n free q (inr b) = inr (inr b)

        away_touched : (n : ℕ) → Same bare (under (damaged_at w.cache w.agent n) (disk_of g)) → (q : Path) → Begins entry q ⊎ Begins (damaged_at w.cache w.agent n) q → Touched w (disk_of g) i.task.digest q
        away_touched n free q (inl b) = inr (inr b)
        away_touched n free q (inr b) = inr (inl (n, free, b))

        tmp_only : (n : ℕ) (h : Files) → Same bare (under (tmp_at w.cache w.agent n) (disk_of g)) → Else (λ q. Begins (tmp_at w.cache w.agent n) q ⊎ Begins entry q) (disk_of g) (disk_of h) → Else (Touched w (disk_of g) i.task.digest) (disk_of g) (disk_of h)
        tmp_only n h free only = else_more (λ q. Begins (tmp_at w.cache w.agent n) q ⊎ Begins entry q) (Touched w (disk_of g) i.task.digest) (disk_of g) (disk_of h) (tmp_touched n free) only

        away_only : (n : ℕ) (h : Files) → Same bare (under (damaged_at w.cache w.agent n) (disk_of g)) → Else (λ q. Begins entry q ⊎ Begins (damaged_at w.cache w.agent n) q) (disk_of g) (disk_of h) → Else (Touched w (disk_of g) i.task.digest) (disk_of g) (disk_of h)
        away_only n h free only = else_more (λ q. Begins entry q ⊎ Begins (damaged_at w.cache w.agent n) q) (Touched w (disk_of g) i.task.digest) (disk_of g) (disk_of h) (away_touched n free) only

        module _ (mark : Mark) (built : List File) (is : IsBuilt w i mark built d) where
          published_left : (h : Files) → Same (under entry (disk_of g)) (under entry (disk_of h)) ⊎ (Same bare (under entry (disk_of g)) × HoldsJust (entry_files i.task.text built) entry (disk_of h)) → IsLeft w tasks i.task.digest d (disk_of h)
          published_left h (inl same) = left_same w tasks d can (disk_of g) kept.since (disk_of h) i.task.digest same (kept.since.entries i.task next.member)
          published_left h (inr whole) = inr (i.place, i.task, next.stands, refl, inr (record { room = i.room; mark = mark; built = built; is = is; now = whole.1 }))

          entry_or : (h : Files) → Same (under entry (disk_of g)) (under entry (disk_of h)) ⊎ (Same bare (under entry (disk_of g)) × HoldsJust (entry_files i.task.text built) entry (disk_of h)) → Same (under entry (disk_of g)) (under entry (disk_of h)) ⊎ Same bare (under entry (disk_of g))
          entry_or h (inl same) = inl same
          entry_or h (inr whole) = inr whole.0

          published_kept : (h : Files) → PublishKeeps w.cache w.agent i.task.digest (entry_files i.task.text built) g h → Kept h
          published_kept h (inl same) = subst Kept (sym same) kept
          published_kept h (inr p) =
              let only = tmp_only p.number h p.name.free p.others in
              all_kept w tasks d can (disk_of g) kept.since (disk_of h) i.task next.member only kept.hand (published_left h p.entry)
              (hand_more w tasks d can (disk_of g) kept.since (disk_of h) i.task next.member only i.task.digest (entry_or h p.entry) (kept.hand i.task next.member))

          aside_published : (h : Files) (n : ℕ) → Else (λ q. Begins (tmp_at w.cache w.agent n) q ⊎ Begins entry q) (disk_of g) (disk_of h) → AreAside w (away + aside_for mark) d (disk_of g) → AreAside w (away + aside_for mark) d (disk_of h)
          aside_published h n only are = aside_same w (disk_of g) (disk_of h) (away + aside_for mark) d (published_names w i.task.digest n (disk_of g) (disk_of h) only) are

          published_comes : (r : Result Published base.Limit) (h : Files) → Same bare (under entry (disk_of g)) → After (away + aside_for mark) g → PublishSays w.cache w.agent i.task.digest (entry_files i.task.text built) r g h → Ends (published mark built r) h
          published_comes (Ok publishing.Now) h free still says = record {
            is = (package_of w i mark built d is, stands_of w i mark built d (disk_of h) is says.whole, new_names w (away + aside_for mark) d (disk_of h) (aside_published h says.number says.others still.1));
            since = since_more w tasks d can (disk_of g) kept.since (disk_of h) i.task next.member (tmp_only says.number h says.name.free says.others) (disk_of s)
                (tmp_published w.cache w.agent i.task.digest says.number (disk_of g) (disk_of h) says.name.free says.gone says.others) still.0.0;
            stay = λ name stands. stay_same w (disk_of g) (disk_of h) (published_names w i.task.digest says.number (disk_of g) (disk_of h) says.others) name (still.0.1 name stands);
            aside = aside_published h says.number says.others still.1;
          }
          published_comes (Ok publishing.Already) h free still says = absurd (none_some (disk_of g (entry ++ says.was.0)) (free says.was.0) says.was.1)
          published_comes (Ok publishing.Gone) h free still says = absurd says
          published_comes (Err over) h free still says = record {
            is = subst (λ k. PassesLimit w away i d k over) (sym says.0) (by_tmp mark built over is free (refl, says.1));
            since = (subst Leaving (sym says.0) still.0).0;
            stay = (subst Leaving (sym says.0) still.0).1;
            aside = tt;
          }

          publish_comes : AreApart built → Same bare (under entry (disk_of g)) → After (away + aside_for mark) g → IsKept (publish_item w i mark built) g
          publish_comes apart free still =
              then_alone Kept (λ r h. PublishSays w.cache w.agent i.task.digest (entry_files i.task.text built) r g h) Ends (publish_of w.cache w.agent i.task.digest (entry_files i.task.text built)) (λ r. ends (published mark built r)) g kept
              (λ r h kept_h says. end_kept (published mark built r) h (published_comes r h free still says))
              (keeps_as (λ h. PublishKeeps w.cache w.agent i.task.digest (entry_files i.task.text built) g h) Kept (λ r h. PublishSays w.cache w.agent i.task.digest (entry_files i.task.text built) r g h) (publish_of w.cache w.agent i.task.digest (entry_files i.task.text built)) g
              published_kept (inl refl)
              (publish_kept w.cache w.agent i.task.digest (entry_files i.task.text built) g _ (list_in i.task.text built) (entry_apart i.task.text built apart) (clear_since w tasks d can (disk_of g) kept.since)))

        -- ---- a building

        module _ (free : Same bare (under entry (disk_of g))) (mark : Mark) (still : After (away + aside_for mark) g) (has_to : HasToBeBuilt w i mark d) where
          supplied_comes : (o : Option (List File)) → ((built : List File) → o ≡ Some built → AreApart built) → IsSupplied w i o d → IsKept (supplied w i mark o) g
          supplied_comes None apart is = fault_kept Refused g (mark, has_to, free, is) still.0
          supplied_comes (Some built) apart is = if_case (λ p. IsKept p g) (nat_le (size_of built) i.room) (publish_item w i mark built) (ends (Err (Limit (limit.Bytes w.most))))
              (λ few. publish_comes mark built (record { has_to = has_to; supplied = is; fits = grind (arith, nat_tests, few) }) (apart built refl) free still)
              (λ many. fault_kept (Limit (limit.Bytes w.most)) g (by_package mark built has_to free is (grind (arith, nat_tests, many))) still.0)

          gathered_comes : (r : Result (List File) base.Limit) → GatherIs w.most i.task.folder r d → IsKept (gathered w i mark r) g
          gathered_comes (Ok files) are = supplied_comes (w.supplies i.place files) (can.apart i.place files) (record { gathered = files; are = are; is = refl })
          gathered_comes (Err over) is = fault_kept (Limit over) g (by_folder mark over has_to free is) still.0

          gather_tells_now : Tells (λ r. GatherIs w.most i.task.folder r d) (gather_of w.most i.task.folder) (disk_of g)
          gather_tells_now = tells_same i.task.folder d (disk_of g) (folder_same w tasks d can (disk_of g) kept.since i.task next.member) (λ r. GatherIs w.most i.task.folder r d) (gather_of w.most i.task.folder) tree (gather_below w.most i.task.folder) (gathers w.most i.task.folder d (can.paths i.task next.member))

          build_comes : IsKept (build_item w i mark) g
          build_comes =
              then_alone Kept (λ r h. GatherIs w.most i.task.folder r d × (h ≡ g)) Ends (gather_of w.most i.task.folder) (gathered w i mark) g kept
              (λ r h kept_h said. subst (λ k. IsKept (gathered w i mark r) k) (sym said.1) (gathered_comes r said.0))
              (reads_alone Kept (λ r. GatherIs w.most i.task.folder r d) (gather_of w.most i.task.folder) g (gather_reads w.most i.task.folder) gather_tells_now)

        -- ---- a setting aside

        module _ (harm : Harm) (was : LookIs (wanted_for w i) (Ok (look.Damaged harm)) d) (same : Same (under entry d) (under entry (disk_of g))) where
          aside_hand : (h : Files) → IsAside w.cache w.agent i.task.digest (disk_of g) (disk_of h) → IsAtHand w i.task.digest d (disk_of h)
          aside_hand h is = inr (inr (
            is.number,
            free_away w tasks d can (disk_of g) kept.since is.number is.name.free,
            damaged_stands (wanted_for w i) harm d was,
            same_then (under entry d) (under entry (disk_of g)) (under (damaged_at w.cache w.agent is.number) (disk_of h)) same is.kept,
          ))

          aside_all_kept : (h : Files) → AsideKeeps w.cache w.agent i.task.digest g h → Kept h
          aside_all_kept h (inl none) = subst Kept (sym none) kept
          aside_all_kept h (inr is) = all_kept w tasks d can (disk_of g) kept.since (disk_of h) i.task next.member (away_only is.number h is.name.free is.others) kept.hand
              (inr (i.place, i.task, next.stands, refl, inl (record { room = i.room; harm = harm; was = was; now = is.gone }))) (aside_hand h is)

          after_aside : (h : Files) → After away g → IsAside w.cache w.agent i.task.digest (disk_of g) (disk_of h) → After (away + 1) h
          after_aside h still is =
              let others = moved_names w i.task.digest is.number (disk_of g) (disk_of h) is.others in (
                (
                  since_more w tasks d can (disk_of g) kept.since (disk_of h) i.task next.member (away_only is.number h is.name.free is.others) (disk_of s) (tmp_aside w.cache w.agent i.task.digest is.number (disk_of g) (disk_of h) is.others) still.0.0,
                  (λ name stands. stay_more w (disk_of g) (disk_of h) (agent_name w.agent is.number) is.name.free others name (still.0.1 name stands)),
                ),
                aside_more w (disk_of g) (disk_of h) (agent_name w.agent is.number) is.name.free others away d (free_away w tasks d can (disk_of g) kept.since is.number is.name.free)
                    (stands_now entry (damaged_at w.cache w.agent is.number) (disk_of g) (disk_of h) is.kept (stands_now entry entry d (disk_of g) same (damaged_stands (wanted_for w i) harm d was))) still.1,
              )

      module _ (g : Files) (kept : Kept g) (same : Same (under entry d) (under entry (disk_of g))) (still : After away g) where
        moved_comes : (harm : Harm) → LookIs (wanted_for w i) (Ok (look.Damaged harm)) d → (r : Result Moved base.Limit) (h : Files) → Kept h → AsideSays w.cache w.agent i.task.digest r g h → IsKept (moved w i harm r) h
        moved_comes harm was (Ok moves.Done) h kept_h says = build_comes h kept_h says.gone (Rebuilt harm) (after_aside g kept harm was same h still says) was
        moved_comes harm was (Ok moves.Gone) h kept_h says = absurd says
        moved_comes harm was (Ok moves.Taken) h kept_h says = absurd says
        moved_comes harm was (Err over) h kept_h says = fault_kept (Limit over) h (subst (λ k. PassesLimit w away i d k over) (sym says.0) (by_damaged harm over was (same, no_more w away d (disk_of g) still.1) (refl, says.1))) (subst Leaving (sym says.0) still.0)

        rebuild_comes : (harm : Harm) → LookIs (wanted_for w i) (Ok (look.Damaged harm)) d → IsKept (rebuild_item w i harm) g
        rebuild_comes harm was =
            then_alone Kept (λ r h. AsideSays w.cache w.agent i.task.digest r g h) Ends (aside_of w.cache w.agent i.task.digest) (moved w i harm) g kept
            (λ r h kept_h says. moved_comes harm was r h kept_h says)
            (keeps_as (λ h. AsideKeeps w.cache w.agent i.task.digest g h) Kept (λ r h. AsideSays w.cache w.agent i.task.digest r g h) (aside_of w.cache w.agent i.task.digest) g
            (aside_all_kept g kept harm was same) (inl refl)
            (aside_kept w.cache w.agent i.task.digest g (clear_since w tasks d can (disk_of g) kept.since) (stands_now entry entry d (disk_of g) same (damaged_stands (wanted_for w i) harm d was))))

        -- ---- a look

        looked_comes : (l : Looked) → LookIs (wanted_for w i) l d → IsKept (looked w i l) g
        looked_comes (Ok (look.Hit files)) is = end_kept (Ok (record { mark = Restored; files = files })) g (record { is = (is, same, new_names w (away + 0) d (disk_of g) (still_none g still).1); since = still.0.0; stay = still.0.1; aside = (still_none g still).1 })
        looked_comes (Ok look.Absent) is = build_comes g kept (same_then bare (under entry d) (under entry (disk_of g)) (bare_where d entry is) same) Built (still_none g still) is
        looked_comes (Ok (look.Damaged harm)) is = rebuild_comes harm is
        looked_comes (Ok (look.Collision other)) is = fault_kept (Collision i.place) g (refl, other, is) still.0
        looked_comes (Err over) is = fault_kept (Limit (limit.Bytes w.most)) g (by_entry (is.0, is.1, is.2, is.3, refl)) still.0

        look_tells_now : Tells (λ l. LookIs (wanted_for w i) l d) (look_of (wanted_for w i)) (disk_of g)
        look_tells_now = tells_same entry d (disk_of g) same (λ l. LookIs (wanted_for w i) l d) (look_of (wanted_for w i)) tree (look_below (wanted_for w i)) (look_tells (wanted_for w i) d)

        look_comes : IsKept (look_item w i) g
        look_comes =
            then_alone Kept (λ l h. LookIs (wanted_for w i) l d × (h ≡ g)) Ends (look_of (wanted_for w i)) (looked w i) g kept
            (λ l h kept_h said. subst (λ k. IsKept (looked w i l) k) (sym said.1) (looked_comes l said.0))
            (reads_alone Kept (λ l. LookIs (wanted_for w i) l d) (look_of (wanted_for w i)) g (look_reads (wanted_for w i)) look_tells_now)

      -- an item whose entry is as it was at the start
      pub item_comes : AreAside w away d (disk_of s) → Kept s → Same (under entry d) (under entry (disk_of s)) → IsKept (item_of w i false) s
      unfolding item_of
      item_comes aside kept same = look_comes s kept same ((since_start w tasks i.task (disk_of s), (λ name stands. stands)), aside)
