-- One package that is made among others.
use Rattle.std.proofs.Common.{◌≡◌, inl, inr, ℕ, List, true, false, refl, sym, subst}
use Rattle.std.specs.Prelude.{Bool, Some, Result, Ok, Err, nat_le}
use Rattle.std.specs.List.{Contains}
use Rattle.sha2.specs.Sha256.{sha256}
use Rattle.vk_spec.specs.Paths.{Path}
use Rattle.vk_spec.specs.Files.{Files}
use Rattle.vk_spec.specs.Standing.{Disk, disk_of}
use Rattle.vk_base.specs.declared.limits.Limit as base
use Rattle.vk_base.specs.declared.limits.Limit.TheVariants.{Bytes}
use Rattle.vk_tree.specs.Trees.{IsTreeDisk}
use Rattle.vk_walk.specs.Walks.{IsCalm}
use Rattle.vk_walk.specs.Walked.{walk_limits}
use Rattle.vk_protocol.specs.Protocols.{Protocol, ends, ◌>>=◌}
use Rattle.vk_protocol.proofs.KeepLemmas.{keeps_then}
use Rattle.vk_entry.specs.Packages.{File}
use Rattle.vk_gather.specs.Gathers.{gather_of}
use Rattle.vk_gather.proofs.GatherAsks.{gather_reads}
use Rattle.vk_look.specs.LookIs.{wanted_in}
use Rattle.vk_look.specs.Looks.{Looked, look_of}
use Rattle.vk_look.proofs.PlaceTests.{if_case}
use Rattle.vk_publish.specs.Entries.{entry_files, HoldsJust}
use Rattle.vk_publish.specs.Publish.{publish_of}
use Rattle.vk_publish.specs.Shared.{Pair, name_of, Effect, IsSound, Later, EndsWhole}
use Rattle.vk_publish.specs.declared.answers.Published.{Published}
use Rattle.vk_publish.proofs.PutLemmas.{entry_apart}
use Rattle.vk_publish.proofs.SharedLemmas.{shared_terms}
use Rattle.vk_publish.proofs.SharedPublish.{pair_kept}
use Rattle.vk_make.specs.declared.answers.MakeEnd.TheVariants.{Limit}
use Rattle.vk_make.specs.declared.answers.Mark.{Mark}
use Rattle.vk_make.specs.declared.answers.Mark.TheVariants.{Built}
use Rattle.vk_make.specs.Makes.{Work, Item, OneMade, published, publish_item, supplied, gathered, build_item, wanted_for, looked, item_of, size_of}
use Rattle.vk_make.specs.Several.{Agrees, IsMeant}
use Rattle.vk_make.proofs.SeveralReads.{IsKept, reads_kept}
use Rattle.vk_make.proofs.SeveralLooks.{Finds, look_kept}

-- an item that is made has this package
abbrev pub HasBuilt : List File → OneMade → Files → Type 0
HasBuilt built (Ok made) f = made.files ≡ built
HasBuilt built (Err why) f = Unit {0}

-- what a gathering and a publishing come to matters to nothing that follows
abbrev Any : {A : Type 0} → A → Files → Type 0
Any x f = Unit {0}

module _ (all : List Pair) (w : Work) where
  abbrev Sound : Files → Type 0
  Sound f = IsSound all w.cache (disk_of f)

  -- an item for which this package is meant
  pub record IsMeantFor (i : Item) (built : List File) : Type 0 where
    pub hashed : i.task.digest ≡ sha256 i.task.text
    pub member : Contains all (i.task.text, built)
    pub meant : IsMeant built
    pub supplies : (files : List File) → w.supplies i.place files ≡ Some built

  pub then_kept : {A B : Type 0} (P : A → Files → Type 0) (Q : B → Files → Type 0) (p : Protocol A) (k : A → Protocol B) (f : Files) → Sound f
      → ((x : A) (g : Files) → Sound g → P x g → IsKept all w.cache w.agent Q (k x) g) → IsKept all w.cache w.agent P p f → IsKept all w.cache w.agent Q (p >>= k) f
  then_kept P Q p k f sound more kept = keeps_then (Later all w.cache w.agent) (λ f g. Effect all w.cache w.agent (disk_of f) (disk_of g)) Sound P Q p k f (shared_terms all w.cache w.agent) sound more kept

  module _ (i : Item) (built : List File) (for : IsMeantFor i built) where
    abbrev Kept : Protocol OneMade → Files → Type 0
    Kept p f = IsKept all w.cache w.agent (HasBuilt built) p f

    published_kept : (mark : Mark) (r : Result Published base.Limit) (f : Files) → Kept (ends (published mark built r)) f
    published_kept mark (Ok p) f = λ g later. refl
    published_kept mark (Err over) f = λ g later. tt

    publish_kept : (mark : Mark) (f : Files) → Sound f → Kept (publish_item w i mark built) f
    publish_kept mark f sound =
        then_kept (EndsWhole all w.cache (name_of (i.task.text, built))) (HasBuilt built) (publish_of w.cache w.agent i.task.digest (entry_files i.task.text built)) (λ r. ends (published mark built r)) f sound
        (λ r g sound_g whole. published_kept mark r g)
        (subst (λ digest. IsKept all w.cache w.agent (EndsWhole all w.cache (name_of (i.task.text, built))) (publish_of w.cache w.agent digest (entry_files i.task.text built)) f) (sym for.hashed)
        (pair_kept all w.cache w.agent (i.task.text, built) for.member (entry_apart i.task.text built for.meant.apart) f))

    supplied_kept : (mark : Mark) (f : Files) → Sound f → Kept (supplied w i mark (Some built)) f
    supplied_kept mark f sound = if_case (λ p. Kept p f) (nat_le (size_of built) i.room) (publish_item w i mark built) (ends (Err (Limit (Bytes w.most)))) (λ few. publish_kept mark f sound) (λ many g later. tt)

    gathered_kept : (mark : Mark) (r : Result (List File) base.Limit) (f : Files) → Sound f → Kept (gathered w i mark r) f
    gathered_kept mark (Ok files) f sound = subst (λ o. Kept (supplied w i mark o) f) (sym (for.supplies files)) (supplied_kept mark f sound)
    gathered_kept mark (Err over) f sound = λ g later. tt

    build_kept : (mark : Mark) (f : Files) → Sound f → Kept (build_item w i mark) f
    build_kept mark f sound =
        then_kept Any (HasBuilt built) (gather_of w.most i.task.folder) (gathered w i mark) f sound
        (λ r g sound_g any. gathered_kept mark r g sound_g) (reads_kept all w.cache w.agent (gather_of w.most i.task.folder) f (gather_reads w.most i.task.folder))

    found_kept : (l : Looked) (f : Files) → Sound f → Finds built i.room l → Kept (looked w i l) f
    found_kept l f sound (inl is) = subst (λ x. Kept (looked w i x) f) (sym is) (build_kept Built f sound)
    found_kept l f sound (inr (inl is)) = subst (λ x. Kept (looked w i x) f) (sym is) (λ g later. refl)
    found_kept l f sound (inr (inr is)) = subst (λ x. Kept (looked w i x) f) (sym is) (λ g later. tt)

    module _ (agrees : Agrees all) (calm_by : (text : List ℕ) (built : List File) → IsMeant built → (entry : Path) (d : Disk) → IsTreeDisk d → HoldsJust (entry_files text built) entry d → IsCalm walk_limits d entry) where
      looks : (f : Files) → IsKept all w.cache w.agent (λ l g. Finds built i.room l) (look_of (wanted_for w i)) f
      looks f = subst (λ digest. IsKept all w.cache w.agent (λ l g. Finds built i.room l) (look_of (wanted_in w.cache digest i.task.text i.room)) f) (sym for.hashed)
          (look_kept calm_by all w.cache w.agent agrees i.task.text built for.member for.meant i.room f)

      pub item_kept : (again : Bool) (f : Files) → Sound f → Kept (item_of w i again) f
      unfolding item_of
      item_kept true f sound = λ g later. tt
      item_kept false f sound = then_kept (λ l g. Finds built i.room l) (HasBuilt built) (look_of (wanted_for w i)) (looked w i) f sound (λ l g sound_g found. found_kept l g sound_g found) (looks f)
