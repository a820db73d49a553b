-- All packages of an installer, and several of them, whatever the turns of their calls.
use Rattle.std.proofs.Common.{◌≡◌, ◌≢◌, inl, inr, ◌++◌, [], ◌∷◌, ℕ, List, length, length-append, append_assoc, refl, ap, sym, ◌∙◌, subst, arith}
use Rattle.std.specs.Prelude.{Bool, Option, Some, None, Result, Ok, Err, slice_get}
use Rattle.std.specs.List.{Contains}
use Rattle.std.proofs.lemmas.Bool.{cases_eq}
use Rattle.std.proofs.lemmas.List.{append-nil}
use Rattle.std.proofs.lemmas.List.Elements.{Contains-append_right}
use Rattle.vk_spec.specs.Paths.{Path}
use Rattle.vk_spec.specs.Files.{Files}
use Rattle.vk_spec.specs.Standing.{Disk, disk_of}
use Rattle.vk_spec.proofs.ListLemmas.{contains_first}
use Rattle.vk_tree.specs.Trees.{IsTreeDisk}
use Rattle.vk_walk.specs.Walks.{IsCalm}
use Rattle.vk_walk.specs.Walked.{walk_limits}
use Rattle.vk_entry.specs.Packages.{File}
use Rattle.vk_protocol.specs.Keeps.{AreTerms}
use Rattle.vk_protocol.specs.Protocols.{Protocol, ends, asks, each, on_ok}
use Rattle.vk_protocol.specs.Runs.{CanAsk}
use Rattle.vk_protocol.specs.Turns.{Left, goes, stopped, AllKeep, GoTogether, LeftKeeps, Turns}
use Rattle.vk_protocol.proofs.TurnLemmas.{turns_keep}
use Rattle.vk_publish.specs.Entries.{entry_files, HoldsJust}
use Rattle.vk_publish.specs.Shared.{Pair, Effect, IsSound, Later}
use Rattle.vk_publish.proofs.SharedLemmas.{effect_later, shared_terms, sound_kept}
use Rattle.vk_make.specs.declared.answers.MakeEnd.{MakeEnd}
use Rattle.vk_make.specs.declared.answers.MakeItems.{MakeItems}
use Rattle.vk_make.specs.Makes.{Task, Work, OneMade, Have, AllMade, next_item, add_item, make_one, make_of, Planned, has_digest, planned_after, none_yet, item_of, items_in}
use Rattle.vk_make.specs.Several.{Installer, work_of, Agrees, AreInstallers, AtStart, IsMeant, IsPrepared, SeveralMake, StaysWhole}
use Rattle.vk_make.proofs.SeveralReads.{IsKept}
use Rattle.vk_make.proofs.SeveralItems.{HasBuilt, IsMeantFor, then_kept, item_kept}

at_seam : {X : Type 0} (before : List X) (x : X) (later : List X) → slice_get (before ++ x ∷ later) (length before) ≡ Some x
at_seam [] x later = refl
at_seam (y ∷ before) x later = at_seam before x later

-- what is made so far are these packages
abbrev HasPackages : List (List File) → Result Have MakeEnd → Files → Type 0
HasPackages packages (Ok have) f = have.items.packages ≡ packages
HasPackages packages (Err why) f = Unit {0}

abbrev MadeAre : List (List File) → AllMade → Files → Type 0
MadeAre packages (Ok made) f = made.packages ≡ packages
MadeAre packages (Err why) f = Unit {0}

module _ (calm_by : (text : List ℕ) (built : List File) → IsMeant built → (entry : Path) (d : Disk) → IsTreeDisk d → HoldsJust (entry_files text built) entry d → IsCalm walk_limits d entry) where
  module _ (all : List Pair) (cache : Path) (i : Installer) (agrees : Agrees all) (prepared : IsPrepared all i) where
    abbrev w : Work
    w = work_of cache i

    abbrev Sound : Files → Type 0
    Sound f = IsSound all cache (disk_of f)

    -- what is done, and what is left of the tasks and of the packages
    record AreLeft (before tasks : List Task) (packages : List (List File)) (have : Have) : Type 0 where
      split : i.tasks ≡ before ++ tasks
      meant : i.packages ≡ have.items.packages ++ packages
      even : length before ≡ length have.items.packages

    next_meant : (before tasks : List Task) (t : Task) (built : List File) (packages : List (List File)) (have : Have) → AreLeft before (t ∷ tasks) (built ∷ packages) have → IsMeantFor all w (next_item t have) built
    next_meant before tasks t built packages have left =
        let task_at : slice_get i.tasks (length have.items.packages) ≡ Some t = ap (slice_get i.tasks) (sym left.even) ∙ ap (λ l. slice_get l (length before)) left.split ∙ at_seam before t tasks in
        let built_at : slice_get i.packages (length have.items.packages) ≡ Some built = ap (λ l. slice_get l (length have.items.packages)) left.meant ∙ at_seam have.items.packages built packages in
        let is = prepared.meant (length have.items.packages) t built task_at built_at in
        record {
          hashed = prepared.hashed t (subst (λ l. Contains l t) (sym left.split) (Contains-append_right before (t ∷ tasks) t (contains_first t tasks)));
          member = is.0;
          meant = is.1;
          supplies = λ files. built_at;
        }

    next_left : (before tasks : List Task) (t : Task) (built : List File) (packages : List (List File)) (have next : Have) → AreLeft before (t ∷ tasks) (built ∷ packages) have → next.items.packages ≡ have.items.packages ++ built ∷ [] → AreLeft (before ++ t ∷ []) tasks packages next
    next_left before tasks t built packages have next left is = record {
      split = left.split ∙ sym (append_assoc before (t ∷ []) tasks);
      meant = left.meant ∙ sym (append_assoc have.items.packages (built ∷ []) packages) ∙ ap (λ l. l ++ packages) (sym is);
      even = omega (arith, left.even, ap length is, length-append before (t ∷ []), length-append have.items.packages (built ∷ []));
    }

    -- as many packages are left as tasks
    left_even : (before tasks : List Task) (packages : List (List File)) (have : Have) → AreLeft before tasks packages have → length packages ≡ length tasks
    left_even before tasks packages have left = omega (arith, left.even, prepared.each, ap length left.split, ap length left.meant, length-append before tasks, length-append have.items.packages packages)

    -- ---- one more

    added_kept : (built : List File) (have : Have) (r : OneMade) (f : Files) → HasBuilt built r f → IsKept all cache i.agent (HasPackages (have.items.packages ++ built ∷ [])) (on_ok (add_item have) r) f
    added_kept built have (Ok made) f is = λ g later. ap (λ files. have.items.packages ++ files ∷ []) is
    added_kept built have (Err why) f is = λ g later. tt

    one_kept : (t : Task) (again : Bool) (built : List File) (have : Have) (f : Files) → IsMeantFor all w (next_item t have) built → Sound f → IsKept all cache i.agent (HasPackages (have.items.packages ++ built ∷ [])) (make_one w (t, again) have) f
    one_kept t again built have f for sound = then_kept all w (HasBuilt built) (HasPackages (have.items.packages ++ built ∷ [])) (item_of w (next_item t have) again) (on_ok (add_item have)) f sound
        (λ r g sound_g is. added_kept built have r g is) (item_kept all w (next_item t have) built for agrees calm_by again f sound)

    -- ---- all of them

    more_kept : (later : List Planned) (packages : List (List File)) (r : Result Have MakeEnd) (f : Files) → ((next : Have) → next.items.packages ≡ packages → IsKept all cache i.agent (HasPackages i.packages) (each (make_one w) later next) f)
        → HasPackages packages r f → IsKept all cache i.agent (HasPackages i.packages) (on_ok (each (make_one w) later) r) f
    more_kept later packages (Ok next) f more is = more next is
    more_kept later packages (Err why) f more is = λ g later. tt

    each_kept : (seen : List (List ℕ)) (before tasks : List Task) (packages : List (List File)) (have : Have) (f : Files) → AreLeft before tasks packages have → Sound f
        → IsKept all cache i.agent (HasPackages i.packages) (each (make_one w) (planned_after seen tasks) have) f
    each_kept seen before [] [] have f left sound = λ g later. sym (left.meant ∙ append-nil have.items.packages)
    each_kept seen before [] (built ∷ packages) have f left sound = absurd (omega (arith, left_even before [] (built ∷ packages) have left))
    each_kept seen before (t ∷ tasks) [] have f left sound = absurd (omega (arith, left_even before (t ∷ tasks) [] have left))
    each_kept seen before (t ∷ tasks) (built ∷ packages) have f left sound =
        then_kept all w (HasPackages (have.items.packages ++ built ∷ [])) (HasPackages i.packages) (make_one w (t, has_digest seen t.digest) have) (on_ok (each (make_one w) (planned_after (t.digest ∷ seen) tasks))) f sound
        (λ r g sound_g has. more_kept (planned_after (t.digest ∷ seen) tasks) (have.items.packages ++ built ∷ []) r g
        (λ next is. each_kept (t.digest ∷ seen) (before ++ t ∷ []) tasks packages next g (next_left before tasks t built packages have next left is) sound_g) has)
        (one_kept t (has_digest seen t.digest) built have f (next_meant before tasks t built packages have left) sound)

    items_kept : (r : Result Have MakeEnd) (f : Files) → HasPackages i.packages r f → IsKept all cache i.agent (MadeAre i.packages) (ends (items_in r)) f
    items_kept (Ok have) f is = λ g later. is
    items_kept (Err why) f is = λ g later. tt

    pub make_kept : (f : Files) → Sound f → IsKept all cache i.agent (MadeAre i.packages) (make_of w i.tasks) f
    unfolding make_of
    make_kept f sound = then_kept all w (HasPackages i.packages) (MadeAre i.packages) (each (make_one w) (planned_after [] i.tasks) (none_yet i.most)) (λ r. ends (items_in r)) f sound
        (λ r g sound_g is. items_kept r g is)
        (each_kept [] [] i.tasks i.packages (none_yet i.most) f (record { split = refl; meant = refl; even = refl }) sound)

-- ---- several of them

module _ (all : List Pair) (cache : Path) where
  -- what the installer with some number does, and what the others may do meanwhile; one that isn't there does nothing
  abbrev Meanwhile : Option Installer → Files → Files → Type 0
  Meanwhile (Some i) f g = Later all cache i.agent f g
  Meanwhile None f g = IsSound all cache (disk_of g)

  abbrev Doing : Option Installer → Files → Files → Type 0
  Doing (Some i) f g = Effect all cache i.agent (disk_of f) (disk_of g)
  Doing None f g = ⊥

  abbrev Comes : Option Installer → AllMade → Files → Type 0
  Comes (Some i) made f = MadeAre i.packages made f
  Comes None made f = Unit {0}

  terms_of : (o : Option Installer) → AreTerms (Meanwhile o) (Doing o) (λ f. IsSound all cache (disk_of f))
  terms_of (Some i) = shared_terms all cache i.agent
  terms_of None = record {
    nothing = λ f sound. sound;
    more = λ f g h one two. two;
    others = λ f g later. later;
    own = λ f g sound eff tree. absurd eff;
  }

  apart_of : (o p : Option Installer) (f g : Files) → ((i j : Installer) → o ≡ Some i → p ≡ Some j → j.agent ≢ i.agent) → IsSound all cache (disk_of f) → Doing o f g → IsTreeDisk (disk_of g) → Meanwhile p f g
  apart_of None p f g differ sound eff tree = absurd eff
  apart_of (Some i) None f g differ sound eff tree = sound_kept all cache i.agent (disk_of f) (disk_of g) tree eff sound
  apart_of (Some i) (Some j) f g differ sound eff tree = effect_later all cache i.agent j.agent f g (differ i j refl refl) tree eff sound

  abbrev LeftIs : Option Installer → Left AllMade → Files → Type 0
  LeftIs o left f = LeftKeeps (Meanwhile o) (Doing o) (Comes o) left f

  done_of : (i : Installer) (o : Option Installer) (made : MakeItems) (g : Files) → o ≡ Some i → IsSound all cache (disk_of g) → LeftIs o (goes (ends (Ok made))) g → made.packages ≡ i.packages
  done_of i o made g is sound keeps = subst (λ p. LeftIs p (goes (ends (Ok made))) g) is keeps g ((terms_of (Some i)).nothing g sound)

some_left : (m n : Left AllMade) (o : Option (Left AllMade)) → o ≡ Some m → o ≡ Some n → m ≡ n
some_left m n o one other = (cc)

-- so far: the cache is whole, and each keeps what it has to
abbrev pub AreKept : List Pair → Path → List Installer → Files → List (Left AllMade) → Type 0
AreKept all cache who f lefts = AllKeep (λ v. Meanwhile all cache (slice_get who v)) (λ v. Doing all cache (slice_get who v)) (λ f. IsSound all cache (disk_of f)) (λ v. Comes all cache (slice_get who v)) f lefts

module _ (all : List Pair) (cache : Path) (who : List Installer) where
  begun : ((text : List ℕ) (built : List File) → IsMeant built → (entry : Path) (d : Disk) → IsTreeDisk d → HoldsJust (entry_files text built) entry d → IsCalm walk_limits d entry) → Agrees all → AreInstallers all who
      → (f : Files) → IsSound all cache (disk_of f) → (v : ℕ) (i : Installer) (left : Left AllMade) → slice_get who v ≡ Some i → left ≡ goes (make_of (work_of cache i) i.tasks) → LeftIs all cache (slice_get who v) left f
  begun calm_by agrees are f sound v i left is left_is =
      subst (λ o. LeftIs all cache o left f) (sym is)
      (subst (λ l. LeftIs all cache (Some i) l f) (sym left_is) (make_kept calm_by all cache i agrees (are.each v i is) f sound))

  together : AreInstallers all who → GoTogether (λ v. Meanwhile all cache (slice_get who v)) (λ v. Doing all cache (slice_get who v)) (λ f. IsSound all cache (disk_of f))
  together are = record {
    each = λ v. terms_of all cache (slice_get who v);
    apart = λ v other not_v f g holds eff tree. apart_of all cache (slice_get who v) (slice_get who other) f g (λ i j i_is j_is. are.apart other v j i not_v j_is i_is) holds eff tree;
  }

  -- it is so at the start
  pub kept_start : ((text : List ℕ) (built : List File) → IsMeant built → (entry : Path) (d : Disk) → IsTreeDisk d → HoldsJust (entry_files text built) entry d → IsCalm walk_limits d entry) → Agrees all → AreInstallers all who
      → (f : Files) (before : List (Left AllMade)) → AtStart cache who before → IsSound all cache (disk_of f) → AreKept all cache who f before
  kept_start calm_by agrees are f before starts sound = record {
    holds = sound;
    keep = λ v left is. (let at = starts v left is in begun calm_by agrees are f sound v at.0 left at.1 at.2);
  }

  -- and after any turns
  pub kept_turns : AreInstallers all who → (turns : ℕ) (f g : Files) (before after : List (Left AllMade)) → AreKept all cache who f before → Turns turns f before g after → AreKept all cache who g after
  kept_turns are turns f g before after kept ran = turns_keep AllMade (λ v. Meanwhile all cache (slice_get who v)) (λ v. Doing all cache (slice_get who v)) (λ f. IsSound all cache (disk_of f)) (λ v. Comes all cache (slice_get who v)) (together are) turns f g before after kept ran

  -- and where one stops that has done nothing, and the others stay as they were
  pub kept_stop : (g : Files) (before after : List (Left AllMade)) (w : ℕ) → slice_get after w ≡ Some stopped → ((other : ℕ) → other ≢ w → slice_get after other ≡ slice_get before other) → AreKept all cache who g before → AreKept all cache who g after
  kept_stop g before after w is others kept = record {
    holds = kept.holds;
    keep = λ v left left_is. elim (cases_eq v w) [
      | inl same ↦ (subst (λ l. LeftIs all cache (slice_get who v) l g) (some_left stopped left (slice_get after v) (ap (slice_get after) same ∙ is) left_is) tt)
      | inr other ↦ (kept.keep v left (sym (others v other) ∙ left_is))
    ];
  }

  -- and where nobody did anything
  pub kept_same : (g : Files) (before after : List (Left AllMade)) → ((v : ℕ) → slice_get after v ≡ slice_get before v) → AreKept all cache who g before → AreKept all cache who g after
  kept_same g before after same kept = record { holds = kept.holds; keep = λ v left is. kept.keep v left (sym (same v) ∙ is) }

  -- so the law holds
  pub kept_whole : (g : Files) (lefts : List (Left AllMade)) → AreKept all cache who g lefts → StaysWhole all cache who g lefts
  kept_whole g lefts kept = record { whole = kept.holds; done = λ v i made is left. done_of all cache i (slice_get who v) made g is kept.holds (kept.keep v (goes (ends (Ok made))) left) }

  keeps_can : (o : Option Installer) (p : Protocol AllMade) (g : Files) → IsSound all cache (disk_of g) → LeftIs all cache o (goes p) g → CanAsk p (disk_of g)
  keeps_can o (ends x) g sound keeps = tt
  keeps_can o (asks call k) g sound keeps = (keeps g ((terms_of all cache o).nothing g sound)).0

  -- the next call of each may be made
  pub kept_can : (g : Files) (lefts : List (Left AllMade)) (v : ℕ) (p : Protocol AllMade) → AreKept all cache who g lefts → slice_get lefts v ≡ Some (goes p) → CanAsk p (disk_of g)
  kept_can g lefts v p kept is = keeps_can (slice_get who v) p g kept.holds (kept.keep v (goes p) is)

pub several_make_by : ((text : List ℕ) (built : List File) → IsMeant built → (entry : Path) (d : Disk) → IsTreeDisk d → HoldsJust (entry_files text built) entry d → IsCalm walk_limits d entry) → SeveralMake
several_make_by calm_by all cache who turns f g before after agrees are starts sound ran =
    kept_whole all cache who g after (kept_turns all cache who are turns f g before after (kept_start all cache who calm_by agrees are f before starts sound) ran)
