-- The making of a plan's packages has one answer.
use Rattle.std.proofs.Common.{◌≡◌, ◌≤◌, ◌<◌, ◌⊎◌, inl, inr, ◌++◌, ◌+◌, [], ◌∷◌, ℕ, List, true, false, map, refl, ap, sym, ◌∙◌, subst, arith}
use Rattle.std.specs.Prelude.{Option, Some, None, Result, Ok, Err}
use Rattle.vk_spec.specs.Paths.{Path}
use Rattle.vk_spec.specs.Files.{Files}
use Rattle.vk_spec.specs.Standing.{Disk, disk_of, bare, under, Same}
use Rattle.vk_spec.proofs.FileLemmas.{none_some}
use Rattle.vk_base.specs.declared.limits.Limit as base
use Rattle.vk_base.specs.declared.limits.Limit.TheVariants as limit
use Rattle.vk_tree.specs.Trees.{IsTreeDisk}
use Rattle.vk_places.specs.Places.{entry_at, tmp_of, tmp_at, damaged_of, damaged_at, contents_at}
use Rattle.vk_entry.specs.Packages.{File}
use Rattle.vk_entry.specs.Contents.{content_of, contents_text}
use Rattle.vk_gather.specs.GatherIs.{GatherIs}
use Rattle.vk_gather.proofs.OneGathering.{gather_one}
use Rattle.vk_look.specs.LookIs.{LookIs}
use Rattle.vk_look.specs.Looks.{Looked}
use Rattle.vk_look.specs.declared.answers.Harm.{Harm}
use Rattle.vk_look.specs.declared.answers.Look.TheVariants as look
use Rattle.vk_look.proofs.OneAnswer.{one_answer}
use Rattle.vk_publish.specs.Entries.{HoldsJust, entry_files, put_all}
use Rattle.vk_publish.specs.Outcomes.{HasNoName}
use Rattle.vk_publish.proofs.PutLemmas.{list_in, put_has}
use Rattle.vk_make.specs.declared.answers.Mark.{Mark}
use Rattle.vk_make.specs.declared.answers.Mark.TheVariants.{Restored, Built, Rebuilt}
use Rattle.vk_make.specs.declared.answers.MakeEnd.TheVariants.{Collision, Limit, Refused}
use Rattle.vk_make.specs.Makes.{Task, Work, Item, OneMade, AllMade, Have, Planned, planned_after, next_item, with_item, none_yet, wanted_for, size_of}
use Rattle.vk_make.specs.MakeIs.{aside_for, asides, HasNewNames, HasToBeBuilt, IsSupplied, IsBuilt, HasPackage, EntryStands, IsCleared, IsLeftAlone, PassesLimit, by_entry, by_folder, by_package, by_damaged, by_tmp, ItemIs, Follows, ItemsAre, MadeIs}
use Rattle.vk_make.proofs.AloneItems.{damaged_stands}

-- ---- what stands at an entry

bare_whole : (text : List ℕ) (files : List File) (at : Path) (e : Disk) → Same bare (under at e) → HoldsJust (entry_files text files) at e → ⊥
bare_whole text files at e free whole =
    none_some (put_all (entry_files text files) bare (contents_at [])) (sym (whole (contents_at [])) ∙ free (contents_at []))
    (put_has (entry_files text files) (contents_at [], contents_text (map content_of files)) bare (list_in text files))

-- one limit of names
name_one : (full : base.Limit) (folder : Path) (named : ℕ → Path) (a b : base.Limit) (g : Files) → HasNoName full folder named a g g → HasNoName full folder named b g g → a ≡ b
name_one full folder named a b g (e, inl x) (f, inl y) = x.0 ∙ sym y.0
name_one full folder named a b g (e, inl x) (f, inr y) = absurd (y.1 x.1)
name_one full folder named a b g (e, inr x) (f, inl y) = absurd (x.1 y.1)
name_one full folder named a b g (e, inr x) (f, inr y) = x.0 ∙ sym y.0

past_room : (size room : ℕ) → size ≤ room → room < size → ⊥
past_room size room few many = omega (arith, few, many)

module _ (w : Work) (d : Disk) (tree : IsTreeDisk d) (g : Files) where
  module _ (away : ℕ) (i : Item) where
    abbrev entry : Path
    entry = entry_at w.cache i.task.digest

    -- ---- what an item comes to, step by step

    abbrev Publishing : Mark → List File → OneMade → Type 0
    Publishing mark built one =
        (HoldsJust (entry_files i.task.text built) entry (disk_of g) × (one ≡ Ok (record { mark = mark; files = built })))
        ⊎ (IsCleared w i g × (over : base.Limit) × HasNoName limit.Tmp (tmp_of w.cache) (tmp_at w.cache w.agent) over g g × (one ≡ Err (Limit over)))

    abbrev Supplying : Mark → Option (List File) → OneMade → Type 0
    Supplying mark None one = one ≡ Err Refused
    Supplying mark (Some built) one = ((i.room < size_of built) × (one ≡ Err (Limit (limit.Bytes w.most)))) ⊎ ((size_of built ≤ i.room) × Publishing mark built one)

    abbrev Gathering : Mark → Result (List File) base.Limit → OneMade → Type 0
    Gathering mark (Ok files) one = Supplying mark (w.supplies i.place files) one
    Gathering mark (Err over) one = one ≡ Err (Limit over)

    abbrev Building : Mark → OneMade → Type 0
    Building mark one = (r : Result (List File) base.Limit) × GatherIs w.most i.task.folder r d × Gathering mark r one

    abbrev Rebuilding : Harm → OneMade → Type 0
    Rebuilding harm one =
        (IsLeftAlone w away i d g × (over : base.Limit) × HasNoName limit.Damaged (damaged_of w.cache) (damaged_at w.cache w.agent) over g g × (one ≡ Err (Limit over)))
        ⊎ ((IsLeftAlone w away i d g → ⊥) × Building (Rebuilt harm) one)

    abbrev Looking : Looked → OneMade → Type 0
    Looking (Ok (look.Hit files)) one = one ≡ Ok (record { mark = Restored; files = files })
    Looking (Ok look.Absent) one = Building Built one
    Looking (Ok (look.Damaged harm)) one = Rebuilding harm one
    Looking (Ok (look.Collision kept)) one = one ≡ Err (Collision i.place)
    Looking (Err over) one = one ≡ Err (Limit (limit.Bytes w.most))

    abbrev Chain : OneMade → Type 0
    Chain one = (l : Looked) × LookIs (wanted_for w i) l d × Looking l one

    -- ---- a damaged entry was set aside where nothing stands, or one more name is new

    abbrev IsMoved : Mark → Type 0
    IsMoved Restored = Unit {0}
    IsMoved Built = Unit {0}
    IsMoved (Rebuilt harm) = IsLeftAlone w away i d g → ⊥

    cleared_moved : (mark : Mark) → HasToBeBuilt w i mark d → IsCleared w i g → IsMoved mark
    cleared_moved Restored has_to free = tt
    cleared_moved Built has_to free = tt
    cleared_moved (Rebuilt harm) has_to free = λ alone. (let stands = damaged_stands (wanted_for w i) harm d has_to in none_some (d (entry ++ stands.0)) (sym (alone.0 stands.0) ∙ free stands.0) stands.1)

    named_moved : (mark : Mark) → HasNewNames w (away + aside_for mark) d (disk_of g) → IsMoved mark
    named_moved Restored names = tt
    named_moved Built names = tt
    named_moved (Rebuilt harm) names = λ alone. alone.1 names

    -- ---- each answer is such a thing

    building_chain : (mark : Mark) (one : OneMade) → HasToBeBuilt w i mark d → IsMoved mark → Building mark one → Chain one
    building_chain Restored one has_to moved more = absurd has_to
    building_chain Built one has_to moved more = (Ok look.Absent, has_to, more)
    building_chain (Rebuilt harm) one has_to moved more = (Ok (look.Damaged harm), has_to, inr (moved, more))

    supplied_so : (mark : Mark) (answer : Option (List File)) (one : OneMade) → IsSupplied w i answer d → Supplying mark answer one → Building mark one
    supplied_so mark answer one is more = (Ok is.gathered, is.are, subst (λ o. Supplying mark o one) (sym is.is) more)

    built_so : (mark : Mark) (built : List File) (one : OneMade) → IsBuilt w i mark built d → Publishing mark built one → Building mark one
    built_so mark built one is more = supplied_so mark (Some built) one is.supplied (inr (is.fits, more))

    made_chain : (mark : Mark) (built : List File) → IsBuilt w i mark built d → HoldsJust (entry_files i.task.text built) entry (disk_of g) → HasNewNames w (away + aside_for mark) d (disk_of g) → Chain (Ok (record { mark = mark; files = built }))
    made_chain mark built is whole names =
        building_chain mark (Ok (record { mark = mark; files = built })) is.has_to (named_moved mark names)
        (built_so mark built (Ok (record { mark = mark; files = built })) is (inl (whole, refl)))

    item_chain : (mark : Mark) (files : List File) → HasPackage w i mark files d → EntryStands w i.task mark files d (disk_of g) → HasNewNames w (away + aside_for mark) d (disk_of g) → Chain (Ok (record { mark = mark; files = files }))
    item_chain Restored files is stands names = (Ok (look.Hit files), is, refl)
    item_chain Built files is stands names = made_chain Built files is stands names
    item_chain (Rebuilt harm) files is stands names = made_chain (Rebuilt harm) files is stands names

    passes_chain : (over : base.Limit) → PassesLimit w away i d g over → Chain (Err (Limit over))
    passes_chain _ (by_entry is) = (Err (limit.Bytes i.room), is, refl)
    passes_chain _ (by_folder mark over has_to free is) = building_chain mark (Err (Limit over)) has_to (cleared_moved mark has_to free) (Err over, is, refl)
    passes_chain _ (by_package mark built has_to free is many) = building_chain mark (Err (Limit (limit.Bytes w.most))) has_to (cleared_moved mark has_to free) (supplied_so mark (Some built) (Err (Limit (limit.Bytes w.most))) is (inl (many, refl)))
    passes_chain _ (by_damaged harm over has_to same none) = (Ok (look.Damaged harm), has_to, inl (same, over, none, refl))
    passes_chain _ (by_tmp mark built over is free none) = building_chain mark (Err (Limit over)) is.has_to (cleared_moved mark is.has_to free) (built_so mark built (Err (Limit over)) is (inr (free, over, none, refl)))

    chain : (one : OneMade) → ItemIs w away i one d g → Chain one
    chain (Ok made) h = item_chain made.mark made.files h.0 h.1 h.2
    chain (Err (Collision place)) h = (Ok (look.Collision h.1), h.2, ap (λ p. Err (Collision p)) h.0)
    chain (Err (Limit over)) h = passes_chain over h
    chain (Err Refused) h = building_chain h.0 (Err Refused) h.1 (cleared_moved h.0 h.1 h.2) (supplied_so h.0 None (Err Refused) h.3 refl)

    -- ---- and such a thing is one

    publishing_one : (mark : Mark) (built : List File) (a b : OneMade) → Publishing mark built a → Publishing mark built b → a ≡ b
    publishing_one mark built a b (inl x) (inl y) = x.1 ∙ sym y.1
    publishing_one mark built a b (inl x) (inr y) = absurd (bare_whole i.task.text built entry (disk_of g) y.0 x.0)
    publishing_one mark built a b (inr x) (inl y) = absurd (bare_whole i.task.text built entry (disk_of g) x.0 y.0)
    publishing_one mark built a b (inr x) (inr y) = x.3 ∙ ap (λ over. Err (Limit over)) (name_one limit.Tmp (tmp_of w.cache) (tmp_at w.cache w.agent) x.1 y.1 g x.2 y.2) ∙ sym y.3

    supplying_one : (mark : Mark) (answer : Option (List File)) (a b : OneMade) → Supplying mark answer a → Supplying mark answer b → a ≡ b
    supplying_one mark None a b x y = x ∙ sym y
    supplying_one mark (Some built) a b (inl x) (inl y) = x.1 ∙ sym y.1
    supplying_one mark (Some built) a b (inl x) (inr y) = absurd (past_room (size_of built) i.room y.0 x.0)
    supplying_one mark (Some built) a b (inr x) (inl y) = absurd (past_room (size_of built) i.room x.0 y.0)
    supplying_one mark (Some built) a b (inr x) (inr y) = publishing_one mark built a b x.1 y.1

    gathering_one : (mark : Mark) (r : Result (List File) base.Limit) (a b : OneMade) → Gathering mark r a → Gathering mark r b → a ≡ b
    gathering_one mark (Ok files) a b x y = supplying_one mark (w.supplies i.place files) a b x y
    gathering_one mark (Err over) a b x y = x ∙ sym y

    building_one : (mark : Mark) (a b : OneMade) → Building mark a → Building mark b → a ≡ b
    building_one mark a b x y = gathering_one mark y.0 a b (subst (λ r. Gathering mark r a) (gather_one w.most i.task.folder d x.0 y.0 tree x.1 y.1) x.2) y.2

    rebuilding_one : (harm : Harm) (a b : OneMade) → Rebuilding harm a → Rebuilding harm b → a ≡ b
    rebuilding_one harm a b (inl x) (inl y) = x.3 ∙ ap (λ over. Err (Limit over)) (name_one limit.Damaged (damaged_of w.cache) (damaged_at w.cache w.agent) x.1 y.1 g x.2 y.2) ∙ sym y.3
    rebuilding_one harm a b (inl x) (inr y) = absurd (y.0 x.0)
    rebuilding_one harm a b (inr x) (inl y) = absurd (x.0 y.0)
    rebuilding_one harm a b (inr x) (inr y) = building_one (Rebuilt harm) a b x.1 y.1

    looking_one : (l : Looked) (a b : OneMade) → Looking l a → Looking l b → a ≡ b
    looking_one (Ok (look.Hit files)) a b x y = x ∙ sym y
    looking_one (Ok look.Absent) a b x y = building_one Built a b x y
    looking_one (Ok (look.Damaged harm)) a b x y = rebuilding_one harm a b x y
    looking_one (Ok (look.Collision kept)) a b x y = x ∙ sym y
    looking_one (Err over) a b x y = x ∙ sym y

    chain_one : (a b : OneMade) → Chain a → Chain b → a ≡ b
    chain_one a b x y = looking_one y.0 a b (subst (λ l. Looking l a) (one_answer (wanted_for w i) d x.0 y.0 tree x.1 y.1) x.2) y.2

    item_one : (a b : OneMade) → ItemIs w away i a d g → ItemIs w away i b d g → a ≡ b
    item_one a b h k = chain_one a b (chain a h) (chain b k)

  -- ---- all items

  follows_one : (later : List Planned) (have : Have) (one : OneMade) (a b : AllMade) → ((next : Have) → ItemsAre w later next a d g → ItemsAre w later next b d g → a ≡ b)
      → Follows (λ h r. ItemsAre w later h r d g) have one a → Follows (λ h r. ItemsAre w later h r d g) have one b → a ≡ b
  follows_one later have (Ok made) a b more x y = more (with_item have made) x y
  follows_one later have (Err why) a b more x y = x ∙ sym y

  items_one : (later : List Planned) (have : Have) (a b : AllMade) → ItemsAre w later have a d g → ItemsAre w later have b d g → a ≡ b
  items_one [] have a b h k = h ∙ sym k
  items_one ((t, true) ∷ later) have a b h k = h ∙ sym k
  items_one ((t, false) ∷ later) have a b h k =
      follows_one later have k.0 a b (λ next x y. items_one later next a b x y)
      (subst (λ one. Follows (λ i r. ItemsAre w later i r d g) have one a) (item_one (asides have.items.made) (next_item t have) h.0 k.0 h.1 k.1) h.2) k.2

pub one_making : (w : Work) (tasks : List Task) (d : Disk) (g : Files) (one other : AllMade) → IsTreeDisk d → MadeIs w tasks one d g → MadeIs w tasks other d g → one ≡ other
one_making w tasks d g one other tree h k = items_one w d tree g (planned_after [] tasks) (none_yet w.most) one other h k
