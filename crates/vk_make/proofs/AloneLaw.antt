-- All packages of an installer that is alone: what it comes to, and what is kept.
use Rattle.std.proofs.Common.{◌≡◌, inl, ◌++◌, [], ◌∷◌, ◌+◌, ℕ, List, Bool, true, false, length, refl, sym, ◌∙◌, subst}
use Rattle.std.specs.Prelude.{Result, Ok, Err}
use Rattle.std.specs.List.{Contains}
use Rattle.std.proofs.lemmas.List.{append-nil}
use Rattle.std.proofs.lemmas.List.Elements.{Contains-append_left, Contains-append_right}
use Rattle.vk_spec.specs.Paths.{Path}
use Rattle.vk_spec.specs.Files.{Files}
use Rattle.vk_spec.specs.Standing.{Disk, disk_of, under, Same}
use Rattle.vk_spec.proofs.ListLemmas.{contains_first}
use Rattle.vk_tree.specs.Trees.{IsTreeDisk}
use Rattle.vk_places.specs.Places.{entry_at, tmp_of}
use Rattle.vk_protocol.specs.Keeps.{Alone}
use Rattle.vk_protocol.specs.Protocols.{Protocol, ends, each, on_ok}
use Rattle.vk_protocol.specs.Runs.{Tells}
use Rattle.vk_protocol.proofs.KeepLemmas.{keeps_more}
use Rattle.vk_protocol.proofs.KeptRuns.{alone_ends}
use Rattle.vk_gather.specs.Gathers.{gather_of}
use Rattle.vk_gather.specs.GatherIs.{GatherIs, HasPaths}
use Rattle.vk_make.specs.declared.answers.MakeEnd.{MakeEnd}
use Rattle.vk_make.specs.declared.answers.MakeEnd.TheVariants.{Collision}
use Rattle.vk_make.specs.Makes.{Task, Work, MadeItem, OneMade, Have, AllMade, Planned, next_item, with_item, add_item, make_one, make_of, has_digest, planned_after, none_yet, item_of, items_in}
use Rattle.vk_make.specs.MakeIs.{aside_for, asides, ItemsAre, MadeIs}
use Rattle.vk_make.specs.Keeping.{IsKeptSince, CanMakeAlone, MakesAlone}
use Rattle.vk_make.specs.Leaving.{EntriesStand, Leaves, IsAllKept, LeavesEntries}
use Rattle.vk_make.proofs.AloneReads.{KeepsAlone, keeps_as}
use Rattle.vk_make.proofs.AlonePlaces.{same_then}
use Rattle.vk_make.proofs.AloneKept.{Since, kept_start}
use Rattle.vk_make.proofs.AloneAside.{Stay, names_stay}
use Rattle.vk_make.proofs.AloneItems.{Comes, then_alone, item_comes}
use Rattle.vk_make.proofs.AloneDone.{AreDone, done_start, before_in, done_next, done_more, stand_same, fresh_differs}

-- what an item's end leads to
abbrev taken : Have → OneMade → Result Have MakeEnd
taken have (Ok made) = Ok (with_item have made)
taken have (Err why) = Err why

module _ (gathers : (most : ℕ) (folder : Path) (d : Disk) → HasPaths folder d → Tells (λ r. GatherIs most folder r d) (gather_of most folder) d) where
  module _ (w : Work) (tasks : List Task) (f : Files) (can : CanMakeAlone w tasks (disk_of f)) (tree : IsTreeDisk (disk_of f)) where
    abbrev d : Disk
    d = disk_of f

    abbrev Kept : Files → Type 0
    Kept g = IsAllKept w tasks d (disk_of g)

    abbrev IsKept : {A : Type 0} → (A → Files → Type 0) → Protocol A → Files → Type 0
    IsKept P p g = KeepsAlone Kept P p g

    -- what all that is left comes to, and what it leaves; since it began the entries of what was done before are as they were
    record Are (before : List Task) (s : Files) (later : List Planned) (have : Have) (r : Result Have MakeEnd) (g : Files) : Type 0 where
      come : ItemsAre w later have (items_in r) d g
      leave : Leaves w tasks (items_in r) d (disk_of g)
      stay : Stay w (disk_of s) (disk_of g)
      still : (o : Task) → Contains before o → Same (under (entry_at w.cache o.digest) (disk_of s)) (under (entry_at w.cache o.digest) (disk_of g))

    -- ---- one item, and what follows

    module _ (before left : List Task) (seen : List (List ℕ)) (t : Task) (have : Have) (s : Files) (done : AreDone w tasks before (t ∷ left) seen have d (disk_of s)) (later : List Planned)
        (more : (made : MadeItem) (g : Files) → Kept g → AreDone w tasks (before ++ t ∷ []) left (t.digest ∷ seen) (with_item have made) d (disk_of g) → IsKept (Are (before ++ t ∷ []) g later (with_item have made)) (each (make_one w) later (with_item have made)) g) where
      abbrev Came : OneMade → Files → Type 0
      Came one g = Comes w tasks (asides have.items.made) (next_item t have) f s one g

      -- how an item's end goes into what is made
      record Took (r : Result Have MakeEnd) (g : Files) : Type 0 where
        one : OneMade
        is : r ≡ taken have one
        came : Came one g

      took : (one : OneMade) (g : Files) → Came one g → IsKept Took (on_ok (add_item have) one) g
      took (Ok made) g came = alone_ends Kept Took (Ok (with_item have made)) g (record { one = Ok made; is = refl; came = came })
      took (Err why) g came = alone_ends Kept Took (Err why) g (record { one = Err why; is = refl; came = came })

      module _ (fresh : has_digest seen t.digest ≡ false) where
        own_last : Contains (before ++ t ∷ []) t
        own_last = Contains-append_right before (t ∷ []) t (contains_first t [])

        since_before : (h : Disk) → Since w tasks t (disk_of s) h → (o : Task) → Contains before o → Same (under (entry_at w.cache o.digest) (disk_of s)) (under (entry_at w.cache o.digest) h)
        since_before h since o has = since.others o (before_in w tasks before left seen t have d (disk_of s) done o has) (fresh_differs seen t.digest o.digest fresh (done.seen_are o has))

        follows : (one : OneMade) (g : Files) → Kept g → Came one g → IsKept (Are before s ((t, false) ∷ later) have) (on_ok (each (make_one w) later) (taken have one)) g
        follows (Ok made) g kept came = keeps_more (Alone Kept) (λ g h. Kept h) (Are (before ++ t ∷ []) g later (with_item have made)) (Are before s ((t, false) ∷ later) have) (each (make_one w) later (with_item have made)) g
            (λ r h are. record {
              come = (Ok made, (came.is.0, stand_same w t made.mark made.files d (disk_of g) (disk_of h) (are.still t own_last) came.is.1, names_stay w (asides have.items.made + aside_for made.mark) d (disk_of g) (disk_of h) are.stay came.is.2), are.come);
              leave = are.leave;
              stay = λ name stands. are.stay name (came.stay name stands);
              still = λ o has. same_then (under (entry_at w.cache o.digest) (disk_of s)) (under (entry_at w.cache o.digest) (disk_of g)) (under (entry_at w.cache o.digest) (disk_of h))
                  (since_before (disk_of g) came.since o has) (are.still o (Contains-append_left before (t ∷ []) o has));
            })
            (more made g kept (done_more w tasks before left seen t have d (disk_of s) done made (disk_of g) fresh came.since came.is.1 came.aside))
        follows (Err why) g kept came = alone_ends Kept (Are before s ((t, false) ∷ later) have) (Err why) g (record {
          come = (Err why, came.is, refl);
          leave = record { entries = tt; tmp = same_then (under (tmp_of w.cache) d) (under (tmp_of w.cache) (disk_of s)) (under (tmp_of w.cache) (disk_of g)) done.tmp came.since.tmp };
          stay = came.stay;
          still = since_before (disk_of g) came.since;
        })

        goes_on : (r : Result Have MakeEnd) (g : Files) → Kept g → Took r g → IsKept (Are before s ((t, false) ∷ later) have) (on_ok (each (make_one w) later) r) g
        goes_on r g kept so = subst (λ x. IsKept (Are before s ((t, false) ∷ later) have) (on_ok (each (make_one w) later) x) g) (sym so.is) (follows so.one g kept so.came)

        new_kept : Kept s → IsKept (Are before s ((t, false) ∷ later) have) (each (make_one w) ((t, false) ∷ later) have) s
        new_kept kept =
            (let next = done_next w tasks before left seen t have d (disk_of s) done in
            then_alone Kept Took (Are before s ((t, false) ∷ later) have) (make_one w (t, false) have) (on_ok (each (make_one w) later)) s kept goes_on
            (then_alone Kept Came Took (item_of w (next_item t have) false) (on_ok (add_item have)) s kept (λ one h kept_h came. took one h came)
            (item_comes gathers w tasks f can tree (asides have.items.made) (next_item t have) next s done.aside kept (done.still t next.member fresh))))

      one_kept : (again : Bool) → has_digest seen t.digest ≡ again → Kept s → IsKept (Are before s ((t, again) ∷ later) have) (each (make_one w) ((t, again) ∷ later) have) s
      unfolding item_of
      one_kept true is kept = alone_ends Kept (Are before s ((t, true) ∷ later) have) (Err (Collision (length have.items.packages))) s (record { come = refl; leave = record { entries = tt; tmp = done.tmp }; stay = λ name stands. stands; still = λ o has r. refl })
      one_kept false is kept = new_kept is kept

    -- ---- all items

    each_kept : (seen : List (List ℕ)) (before later : List Task) (have : Have) (g : Files) → AreDone w tasks before later seen have d (disk_of g) → Kept g
        → IsKept (Are before g (planned_after seen later) have) (each (make_one w) (planned_after seen later) have) g
    each_kept seen before [] have g done kept = alone_ends Kept (Are before g [] have) (Ok have) g (record {
      come = refl;
      leave = record { entries = subst (λ ts. EntriesStand w ts have.items.made have.items.packages d (disk_of g)) (sym (done.split ∙ append-nil before)) done.stand; tmp = done.tmp };
      stay = λ name stands. stands;
      still = λ o has r. refl;
    })
    each_kept seen before (t ∷ later) have g done kept =
        one_kept before later seen t have g done (planned_after (t.digest ∷ seen) later)
        (λ made h kept_h done_h. each_kept (t.digest ∷ seen) (before ++ t ∷ []) later (with_item have made) h done_h kept_h)
        (has_digest seen t.digest) refl kept

    -- the whole
    record IsMade (result : AllMade) (g : Files) : Type 0 where
      come : MadeIs w tasks result d g
      leave : Leaves w tasks result d (disk_of g)

    all_start : Kept f
    all_start = record { since = kept_start w tasks d can; hand = λ t has. inl (λ r. refl) }

    make_kept : IsKept IsMade (make_of w tasks) f
    unfolding make_of
    make_kept =
        then_alone Kept (Are [] f (planned_after [] tasks) (none_yet w.most)) IsMade (each (make_one w) (planned_after [] tasks) (none_yet w.most)) (λ r. ends (items_in r)) f all_start
        (λ r g kept are. alone_ends Kept IsMade (items_in r) g (record { come = are.come; leave = are.leave }))
        (each_kept [] [] tasks (none_yet w.most) f (done_start w tasks d) all_start)

    made_alone : KeepsAlone (λ g. IsKeptSince w tasks d (disk_of g)) (λ result g. MadeIs w tasks result d g) (make_of w tasks) f
    made_alone = keeps_as Kept (λ g. IsKeptSince w tasks d (disk_of g)) (λ result g. MadeIs w tasks result d g) (make_of w tasks) f (λ g kept. kept.since) all_start
        (keeps_more (Alone Kept) (λ g h. Kept h) IsMade (λ result g. MadeIs w tasks result d g) (make_of w tasks) f (λ result g made. made.come) make_kept)

    left_alone : IsKept (λ result g. Leaves w tasks result d (disk_of g)) (make_of w tasks) f
    left_alone = keeps_more (Alone Kept) (λ g h. Kept h) IsMade (λ result g. Leaves w tasks result d (disk_of g)) (make_of w tasks) f (λ result g made. made.leave) make_kept

  -- whoever fails and wherever it stops: what it comes to
  pub makes_alone_by : MakesAlone
  makes_alone_by w tasks f can tree = made_alone w tasks f can tree

  -- and what it leaves
  pub leaves_entries_by : LeavesEntries
  leaves_entries_by w tasks f can tree = left_alone w tasks f can tree
