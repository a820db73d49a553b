-- A publishing: its calls may be made, and what it leaves by its answer and wherever it stops.
use Rattle.std.proofs.Common.{◌≡◌, inl, inr, ◌++◌, [], ◌∷◌, ℕ, List, length, length-append, refl, ap, sym, ◌∙◌, subst, append_assoc, arith}
use Rattle.std.specs.Prelude.{Option, Some, None, IsSome, IfSome, IfOk, Result, Ok, Err, codes}
use Rattle.std.specs.List.{Contains}
use Rattle.std.proofs.lemmas.List.{append-nil}
use Rattle.std.proofs.lemmas.List.Elements.{Contains-append_left, Contains-append_right}
use Rattle.vk_spec.specs.Paths.{Path, Begins}
use Rattle.vk_spec.specs.Files.{Files}
use Rattle.vk_spec.specs.States.{Told, State}
use Rattle.vk_spec.specs.Standing.{Disk, disk_of, bare, under, put, Same, Else, Stands, OnFiles}
use Rattle.vk_spec.specs.Calls.{list_of, write_of, rename_of, CanMake, IsBareAbove, missing, too_large, exists, many}
use Rattle.vk_spec.proofs.ListLemmas.{contains_first}
use Rattle.vk_base.specs.declared.limits.Limit.{Limit}
use Rattle.vk_base.specs.declared.limits.Limit.TheVariants as limit
use Rattle.vk_base.specs.declared.stops.Outage.{Outage}
use Rattle.vk_entry.specs.Packages.{File}
use Rattle.vk_protocol.specs.Keeps.{Alone, Keeps}
use Rattle.vk_protocol.specs.Protocols.{Reply, Protocol, ends, on_ok}
use Rattle.vk_protocol.specs.Runs.{CanRun, CanRunOn, Does, Ran}
use Rattle.vk_protocol.proofs.KeptRuns.{On, alone_terms, alone_ends, alone_asks, keeps_can, keeps_ran}
use Rattle.vk_places.specs.Places.{place, agent_name, entry_at, tmp_of, tmp_at}
use Rattle.vk_places.proofs.ApartLemmas.{tmp_apart, cut_at, bare_above}
use Rattle.vk_publish.specs.Names.{free_of}
use Rattle.vk_publish.specs.Entries.{Placed, entry_files, put_all, HoldsJust, AreApart}
use Rattle.vk_publish.specs.Publish.{published_by, write_all, publish_of}
use Rattle.vk_publish.specs.Outcomes.{Between, IsClear, HasMany, IsLeastFree, IsPublished, IsLeftThere, PublishSays, Publishes, PublishKeeps}
use Rattle.vk_publish.specs.declared.answers.Published.{Published}
use Rattle.vk_publish.specs.declared.answers.Published.TheVariants as published
use Rattle.vk_publish.proofs.NewNames.{is_some, Picks, picks, list_left}
use Rattle.vk_publish.proofs.PutLemmas.{put_else, put_under, put_all_same, put_split, put_bare, put_has, list_in, ArePlacedApart, entry_apart}

-- what is known while files are written below a new name
pub record Wrote (cache : Path) (agent : List ℕ) (n : ℕ) (done : List Placed) (f g : Files) : Type 0 where
  pub clear : IsClear cache (disk_of f)
  pub few : HasMany (tmp_of cache) (disk_of f) → ⊥
  pub name : IsLeastFree (tmp_at cache agent) (disk_of f) n
  pub view : HoldsJust done (tmp_at cache agent n) (disk_of g)
  pub only : Else (Begins (tmp_at cache agent n)) (disk_of f) (disk_of g)

-- what holds a file stands
pub holds_stands : (files : List Placed) (at : Path) (d : Disk) (x : Placed) → Contains files x → HoldsJust files at d → Stands d at
holds_stands files at d x has view = (x.0, subst (λ o. IsSome o) (sym (view x.0)) (put_has files x bare has))

module _ (cache : Path) (agent digest : List ℕ) where
  -- ---- above the places

  -- what stands above another place isn't below the new name
  above_apart : (n : ℕ) (folder name : List ℕ) (q : Path) (part : List ℕ) (rest : Path) → place cache folder name ≡ q ++ part ∷ rest → Begins (tmp_at cache agent n) q → ⊥
  above_apart n folder name q part rest is b =
      omega (arith, ap length is, length-append q (part ∷ rest), ap length b.1, length-append (tmp_at cache agent n) b.0, length-append cache (codes "tmp" ∷ agent_name agent n ∷ []), length-append cache (folder ∷ name ∷ []))

  above_same : (n : ℕ) (folder name : List ℕ) (d e : Disk) → Else (Begins (tmp_at cache agent n)) d e → IsBareAbove d (place cache folder name) → IsBareAbove e (place cache folder name)
  above_same n folder name d e only above q part rest is = only q (above_apart n folder name q part rest is) ∙ above q part rest is

  above_tmp : (n : ℕ) (done : List Placed) (f g : Files) → Wrote cache agent n done f g → IsBareAbove (disk_of g) (tmp_at cache agent n)
  above_tmp n done f g w = above_same n (codes "tmp") (agent_name agent n) (disk_of f) (disk_of g) w.only (bare_above cache (codes "tmp") (agent_name agent n) (disk_of f) w.clear.above w.clear.tmp)

  above_entry : (n : ℕ) (done : List Placed) (f g : Files) → Wrote cache agent n done f g → IsBareAbove (disk_of g) (entry_at cache digest)
  above_entry n done f g w = above_same n (codes "abi2") _ (disk_of f) (disk_of g) w.only (bare_above cache (codes "abi2") _ (disk_of f) w.clear.above w.clear.entries)

  entry_same : (n : ℕ) (d e : Disk) → Else (Begins (tmp_at cache agent n)) d e → Same (under (entry_at cache digest) d) (under (entry_at cache digest) e)
  entry_same n d e only r = only (entry_at cache digest ++ r) (λ b. tmp_apart cache agent digest n (entry_at cache digest ++ r) b.0 r b.1 refl)

  -- ---- one file

  none_put : (done : List Placed) (q : Path) → ((y : Placed) → Contains done y → q ≡ y.0 → ⊥) → put_all done bare q ≡ None
  none_put done q none = elim (is_some (put_all done bare q)) [
    | inl free ↦ free
    | inr some ↦ (let y = put_bare done q some in absurd (none y.0 y.1 y.2))
  ]

  pub can_write : (n : ℕ) (done : List Placed) (x : Placed) (d : Disk) → ((y : Placed) → Contains done y → (part : List ℕ) (rest : Path) → (y.0 ≡ x.0 ++ part ∷ rest → ⊥) × (x.0 ≡ y.0 ++ part ∷ rest → ⊥)) → IsBareAbove d (tmp_at cache agent n) → HoldsJust done (tmp_at cache agent n) d
      → CanMake (write_of (tmp_at cache agent n ++ x.0) x.1) d
  can_write n done x d apart above view = (
    (λ q part rest is. elim (cut_at (tmp_at cache agent n) x.0 q part rest is) [
      | inl c ↦ above q c.0 c.1 c.2
      | inr c ↦ ap d c.1 ∙ view c.0 ∙ none_put done c.0 (λ y has same. (apart y has part rest).1 (c.2 ∙ ap (λ l. l ++ part ∷ rest) same))
    ]),
    (λ folder.
        (let some = subst (λ o. IsSome o) (view (x.0 ++ folder.0 ∷ folder.1)) (subst (λ p. IsSome (d p)) (append_assoc (tmp_at cache agent n) x.0 (folder.0 ∷ folder.1)) folder.2) in
        let y = put_bare done (x.0 ++ folder.0 ∷ folder.1) some in
        (apart y.0 y.1 folder.0 folder.1).0 (sym y.2))),
  )

  -- what was put into a path that nothing stood at
  pub view_more : (n : ℕ) (done : List Placed) (x : Placed) (d e : Disk) → Same (put (tmp_at cache agent n ++ x.0) x.1 d) e → HoldsJust done (tmp_at cache agent n) d → HoldsJust (done ++ x ∷ []) (tmp_at cache agent n) e
  view_more n done x d e is view r =
      is (tmp_at cache agent n ++ r) ∙ put_under (tmp_at cache agent n) x.0 x.1 d r ∙ put_all_same (x ∷ []) (put_all done bare) (under (tmp_at cache agent n) d) view r ∙ sym (put_split done (x ∷ []) bare r)

  else_then : (P : Path → Type 0) (d e h : Disk) → Else P d e → Else P e h → Else P d h
  else_then P d e h one two q other = two q other ∙ one q other

  put_only : (n : ℕ) (x : Placed) (d e : Disk) → Else (λ q. q ≡ tmp_at cache agent n ++ x.0) d e → Else (Begins (tmp_at cache agent n)) d e
  put_only n x d e only q other = only q (λ same. other (x.0, same))

  wrote_more : (n : ℕ) (done : List Placed) (x : Placed) (f g h : Files) → Same (put (tmp_at cache agent n ++ x.0) x.1 (disk_of g)) (disk_of h) → Wrote cache agent n done f g → Wrote cache agent n (done ++ x ∷ []) f h
  wrote_more n done x f g h is w = record {
    clear = w.clear;
    few = w.few;
    name = w.name;
    view = view_more n done x (disk_of g) (disk_of h) is w.view;
    only = else_then (Begins (tmp_at cache agent n)) (disk_of f) (disk_of g) (disk_of h) w.only (put_only n x (disk_of g) (disk_of h) (put_else (tmp_at cache agent n ++ x.0) x.1 (disk_of g) (disk_of h) is));
  }

  module _ (files : List Placed) where
    abbrev Kept : Files → Files → Type 0
    Kept f g = PublishKeeps cache agent digest files f g

    abbrev Said : Files → Result Published Limit → Files → Type 0
    Said f x g = PublishSays cache agent digest files x f g

    abbrev IsKept : Files → Protocol (Result Published Limit) → Files → Type 0
    IsKept f p g = Keeps (Alone (Kept f)) (λ g h. Kept f h) (Said f) p g

    -- while files are written the entry is as it was
    writing : (n : ℕ) (f g : Files) → IsLeastFree (tmp_at cache agent) (disk_of f) n → Else (Begins (tmp_at cache agent n)) (disk_of f) (disk_of g) → Kept f g
    writing n f g name only = inr (record { number = n; name = name; entry = inl (entry_same n (disk_of f) (disk_of g) only); others = λ q other. only q (λ b. other (inl b)) })

    still : (f g h : Files) → h ≡ g → Kept f g → Kept f h
    still f g h same kept = subst (Kept f) (sym same) kept

    -- ---- the move

    can_move : (n : ℕ) (f g : Files) → Wrote cache agent n files f g → CanMake (rename_of (tmp_at cache agent n) (entry_at cache digest)) (disk_of g)
    can_move n f g w = (
      above_entry n files f g w,
      (λ b. tmp_apart cache agent digest n (entry_at cache digest) b.0 [] b.1 (sym (append-nil (entry_at cache digest)))),
      (λ b. tmp_apart cache agent digest n (tmp_at cache agent n) [] b.0 (sym (append-nil (tmp_at cache agent n))) b.1),
    )

    -- nothing stood there
    bare_before : (d e : Disk) (p : Path) → Same (under p d) (under p e) → (Stands e p → ⊥) → Same bare (under p d)
    bare_before d e p same none r = elim (is_some (d (p ++ r))) [
      | inl free ↦ free
      | inr some ↦ absurd (none (r, subst (λ o. IsSome o) (sym (same r)) some))
    ]

    stood_before : (d e : Disk) (p : Path) → Same (under p d) (under p e) → Stands e p → Stands d p
    stood_before d e p same stands = (stands.0, subst (λ o. IsSome o) (same stands.0) stands.1)

    moved : (n : ℕ) (f g h : Files) → Wrote cache agent n files f g → Does (rename_of (tmp_at cache agent n) (entry_at cache digest)) (Ok tt) g h → IsPublished cache agent digest files (disk_of f) (disk_of h)
    moved n f g h w does = record {
      few = w.few;
      number = n;
      name = w.name;
      was = bare_before (disk_of f) (disk_of g) (entry_at cache digest) (entry_same n (disk_of f) (disk_of g) w.only) does.says.1;
      whole = λ r. does.leaves.lands r ∙ w.view r;
      gone = does.leaves.leaves;
      others = λ q other. does.leaves.others q other ∙ w.only q (λ b. other (inl b));
    }

    published_kept : (d e : Disk) → IsPublished cache agent digest files d e → Publishes cache agent digest files d e
    published_kept d e is = record { number = is.number; name = is.name; entry = inr (is.was, is.whole); others = is.others }

    -- something stood there
    left_there : (n : ℕ) (f g : Files) → Wrote cache agent n files f g → Stands (disk_of g) (entry_at cache digest) → IsLeftThere cache agent digest files (disk_of f) (disk_of g)
    left_there n f g w stands = record { few = w.few; number = n; name = w.name; was = stood_before (disk_of f) (disk_of g) (entry_at cache digest) (entry_same n (disk_of f) (disk_of g) w.only) stands; made = w.view; others = w.only }

    move_replied : (n : ℕ) (f g h : Files) (reply : Reply (rename_of (tmp_at cache agent n) (entry_at cache digest))) → (x : Placed) → Contains files x → Wrote cache agent n files f g → Does (rename_of (tmp_at cache agent n) (entry_at cache digest)) reply g h
        → Kept f h × IsKept f (ends (Ok (published_by reply))) h
    move_replied n f g h (Ok u) x has w does = (let is = moved n f g h w does in (inr (published_kept (disk_of f) (disk_of h) is), alone_ends (Kept f) (Said f) (Ok published.Now) h is))
    move_replied n f g h (Err missing) x has w does = absurd (does.says (holds_stands files (tmp_at cache agent n) (disk_of g) x has w.view))
    move_replied n f g h (Err too_large) x has w does = absurd does.says
    move_replied n f g h (Err exists) x has w does = (
      still f g h does.leaves (writing n f g w.name w.only),
      alone_ends (Kept f) (Said f) (Ok published.Already) h (subst (λ i. IsLeftThere cache agent digest files (disk_of f) (disk_of i)) (sym does.leaves) (left_there n f g w does.says.1)),
    )
    move_replied n f g h (Err many) x has w does = absurd does.says

    -- ---- all writes, and the move

    write_replied : (done todo : List Placed) (x : Placed) (n : ℕ) (f g h : Files) (reply : Reply (write_of (tmp_at cache agent n ++ x.0) x.1)) → Wrote cache agent n done f g
        → Does (write_of (tmp_at cache agent n ++ x.0) x.1) reply g h → (Wrote cache agent n (done ++ x ∷ []) f h → IsKept f (write_all (tmp_at cache agent n) todo (entry_at cache digest)) h)
        → Kept f h × IsKept f (write_all (tmp_at cache agent n) todo (entry_at cache digest)) h
    write_replied done todo x n f g h (Ok u) w does more = (let wrote = wrote_more n done x f g h does.leaves w in (writing n f h wrote.name wrote.only, more wrote))
    write_replied done todo x n f g h (Err r) w does more = absurd does.says

    writes_kept : (done todo : List Placed) (n : ℕ) (f g : Files) (x : Placed) → Contains files x → ArePlacedApart files → files ≡ done ++ todo → Wrote cache agent n done f g → IsKept f (write_all (tmp_at cache agent n) todo (entry_at cache digest)) g
    writes_kept done [] n f g x has apart split w =
        let all : Wrote cache agent n files f g = subst (λ l. Wrote cache agent n l f g) (sym (split ∙ append-nil done)) w in
        alone_asks (Kept f) (Said f) (rename_of (tmp_at cache agent n) (entry_at cache digest)) (λ reply. ends (Ok (published_by reply))) g
        (can_move n f g all)
        (λ h left. still f g h left (writing n f g w.name w.only))
        (λ reply h does. move_replied n f g h reply x has all does)
    writes_kept done (y ∷ todo) n f g x has apart split w =
        let y_in : Contains files y = subst (λ l. Contains l y) (sym split) (Contains-append_right done (y ∷ todo) y (contains_first y todo)) in
        alone_asks (Kept f) (Said f) (write_of (tmp_at cache agent n ++ y.0) y.1) (λ reply. write_all (tmp_at cache agent n) todo (entry_at cache digest)) g
        (can_write n done y (disk_of g) (λ z z_done part rest. (let z_in : Contains files z = subst (λ l. Contains l z) (sym split) (Contains-append_left done (y ∷ todo) z z_done) in (apart y z y_in z_in part rest, apart z y z_in y_in part rest))) (above_tmp n done f g w) w.view)
        (λ h left. writing n f h w.name (else_then (Begins (tmp_at cache agent n)) (disk_of f) (disk_of g) (disk_of h) w.only (put_only n y (disk_of g) (disk_of h) left)))
        (λ reply h does. write_replied done todo y n f g h reply w does (λ wrote. writes_kept (done ++ y ∷ []) todo n f h x has apart (split ∙ sym (append_assoc done (y ∷ []) todo)) wrote))

    -- ---- the whole

    picked_kept : (f : Files) (r : Result ℕ Limit) (x : Placed) → Contains files x → ArePlacedApart files → IsClear cache (disk_of f) → Picks cache (codes "tmp") agent limit.Tmp r f
        → IsKept f (on_ok (λ n. write_all (tmp_at cache agent n) files (entry_at cache digest)) r) f
    picked_kept f (Ok n) x has apart clear picks = writes_kept [] files n f f x has apart refl (record { clear = clear; few = picks.0; name = picks.1; view = picks.1.free; only = λ q other. refl })
    picked_kept f (Err over) x has apart clear picks = alone_ends (Kept f) (Said f) (Err over) f picks

    pub publish_kept : (f : Files) (x : Placed) → Contains files x → ArePlacedApart files → IsClear cache (disk_of f) → IsKept f (publish_of cache agent digest files) f
    unfolding publish_of
    publish_kept f x has apart clear =
        alone_asks (Kept f) (Said f) (list_of (tmp_of cache)) (λ reply. on_ok (λ n. write_all (tmp_at cache agent n) files (entry_at cache digest)) (free_of limit.Tmp agent reply)) f
        tt
        (λ h left. inl left)
        (λ reply h does. (let same = list_left cache (codes "tmp") agent reply f h does in
        (inl same, subst (λ g. IsKept f (on_ok (λ n. write_all (tmp_at cache agent n) files (entry_at cache digest)) (free_of limit.Tmp agent reply)) g) (sym same) (picked_kept f (free_of limit.Tmp agent reply) x has apart clear (picks cache (codes "tmp") agent limit.Tmp reply f does.says does.small)))))

-- what is told before and after, in other words
pub told_then : (R S : Files → Files → Type 0) (x y : Option Told) → ((f g : Files) → R f g → S f g) → IfSome x (λ t. IfSome y (λ u. R t.files u.files)) → IfSome x (λ t. IfSome y (λ u. S t.files u.files))
told_then R S None y more h = tt
told_then R S (Some t) None more h = tt
told_then R S (Some t) (Some u) more h = more t.files u.files h

-- ---- an entry's files

module _ (cache : Path) (agent digest text : List ℕ) (built : List File) (apart : AreApart built) where
  abbrev all : List Placed
  all = entry_files text built

  entry_kept : (f : Files) → IsClear cache (disk_of f) → IsKept cache agent digest all f (publish_of cache agent digest all) f
  entry_kept f clear = publish_kept cache agent digest all f _ (list_in text built) (entry_apart text built apart) clear

  can_on : (s : State) (o : Option Told) → s.told ≡ o → On (λ f. IsClear cache (disk_of f)) o → CanRunOn (publish_of cache agent digest all) s
  can_on s None is clear = subst (λ (o : Option Told). IfSome o (λ t. CanRun (publish_of cache agent digest all) t.files)) (sym is) tt
  can_on s (Some t) is clear = subst (λ (o : Option Told). IfSome o (λ t. CanRun (publish_of cache agent digest all) t.files)) (sym is)
      (keeps_can (Alone (Kept cache agent digest all t.files)) (λ g h. Kept cache agent digest all t.files h) (Kept cache agent digest all t.files) (Said cache agent digest all t.files) (alone_terms (Kept cache agent digest all t.files)) (publish_of cache agent digest all) t.files (inl refl, entry_kept t.files clear))

  -- each call may be made
  pub publish_can : (s : State) → OnFiles (IsClear cache) s → CanRunOn (publish_of cache agent digest all) s
  publish_can s clear = can_on s s.told refl clear

  ran_on : (r : Result (Result Published Limit) Outage) (a b : State) (o : Option Told) → a.told ≡ o → On (λ f. IsClear cache (disk_of f)) o → Ran (publish_of cache agent digest all) r a b
      → IfSome o (λ t. IfSome b.told (λ u. PublishKeeps cache agent digest all t.files u.files × IfOk r (λ x. PublishSays cache agent digest all x t.files u.files)))
  ran_on r a b None is clear ran = tt
  ran_on r a b (Some t) is clear ran =
      keeps_ran (Alone (Kept cache agent digest all t.files)) (λ g h. Kept cache agent digest all t.files h) (Kept cache agent digest all t.files) (Said cache agent digest all t.files) (alone_terms (Kept cache agent digest all t.files)) (publish_of cache agent digest all) r a b
      (subst (λ (o : Option Told). On (λ g. Kept cache agent digest all t.files g × IsKept cache agent digest all t.files (publish_of cache agent digest all) g) o) (sym is) (inl refl, entry_kept t.files clear)) ran

  -- what a run leaves, wherever it stops, and by its answer
  publish_ran : (r : Result (Result Published Limit) Outage) (a b : State) → OnFiles (IsClear cache) a → Ran (publish_of cache agent digest all) r a b
      → Between (λ f g. PublishKeeps cache agent digest all f g × IfOk r (λ x. PublishSays cache agent digest all x f g)) a b
  publish_ran r a b clear ran = ran_on r a b a.told refl clear ran

  pub publish_keeps : (r : Result (Result Published Limit) Outage) (a b : State) → OnFiles (IsClear cache) a → Ran (publish_of cache agent digest all) r a b → Between (PublishKeeps cache agent digest all) a b
  publish_keeps r a b clear ran = told_then (λ f g. PublishKeeps cache agent digest all f g × IfOk r (λ x. PublishSays cache agent digest all x f g)) (PublishKeeps cache agent digest all) a.told b.told (λ f g h. h.0) (publish_ran r a b clear ran)

  pub publish_says : (r s : Result (Result Published Limit) Outage) (a b : State) → s ≡ r → OnFiles (IsClear cache) a → Ran (publish_of cache agent digest all) r a b → Between (λ f g. IfOk s (λ x. PublishSays cache agent digest all x f g)) a b
  publish_says r s a b same clear ran =
      subst (λ z. Between (λ f g. IfOk z (λ x. PublishSays cache agent digest all x f g)) a b) (sym same)
      (told_then (λ f g. PublishKeeps cache agent digest all f g × IfOk r (λ x. PublishSays cache agent digest all x f g)) (λ f g. IfOk r (λ x. PublishSays cache agent digest all x f g)) a.told b.told (λ f g h. h.1) (publish_ran r a b clear ran))
