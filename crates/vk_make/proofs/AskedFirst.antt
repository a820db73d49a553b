-- What stands at an entry is asked before anything is read or listed there.
use Rattle.std.proofs.Common.{◌≡◌, ◌⊎◌, inl, inr, ◌++◌, [], ◌∷◌, ℕ, List, true, false, length, length-append, append_assoc, sym, ◌∙◌, ap, subst, arith, refl}
use Rattle.std.specs.Prelude.{Bool, Option, Some, None, Result, Ok, Err, codes, nat_le}
use Rattle.std.specs.List.{Contains}
use Rattle.std.specs.Str.{bytes_eq}
use Rattle.std.proofs.lemmas.Bool.{cases_Bool}
use Rattle.std.proofs.lemmas.Slice.Eq.{bytes_eq-Decides}
use Rattle.hex.specs.Hex.{encode_lower}
use Rattle.vk_spec.specs.Paths.{Path, Begins}
use Rattle.vk_spec.specs.Calls.{Call, kind_of, read_of, piece_of, list_of, write_of, rename_of, remove_of, is_file, is_folder, is_absent}
use Rattle.vk_spec.proofs.ListLemmas.{contains_first, contains_later}
use Rattle.vk_base.specs.declared.limits.Limit as base
use Rattle.vk_base.specs.declared.limits.Limit.TheVariants as limit
use Rattle.vk_tree.proofs.MovingLemmas.{nested}
use Rattle.vk_protocol.specs.Below.{ReadsBelow}
use Rattle.vk_protocol.specs.Protocols.{Reply, Protocol, ends, asks, on_ok, each, ◌>>=◌}
use Rattle.vk_protocol.specs.Runs.{AsksOnly}
use Rattle.vk_places.specs.Places.{entry_at, tmp_at, damaged_at}
use Rattle.vk_places.proofs.ApartLemmas.{place_apart}
use Rattle.vk_entry.specs.Packages.{File}
use Rattle.vk_gather.specs.Gathers.{gather_of}
use Rattle.vk_gather.proofs.GatherAsks.{gather_below}
use Rattle.vk_look.specs.LookIs.{Wanted}
use Rattle.vk_look.specs.Looks.{Looked, look_of, look_stands}
use Rattle.vk_look.specs.declared.answers.Harm.{Harm}
use Rattle.vk_look.specs.declared.answers.Look.TheVariants as look
use Rattle.vk_look.proofs.CallLemmas.{look_below}
use Rattle.vk_look.proofs.PlaceTests.{if_case}
use Rattle.vk_publish.specs.Names.{free_of}
use Rattle.vk_publish.specs.Entries.{Placed, entry_files}
use Rattle.vk_publish.specs.Publish.{write_one, move_in, write_all, publish_of}
use Rattle.vk_publish.specs.Aside.{move_out, aside_of}
use Rattle.vk_publish.specs.Shared.{named_at}
use Rattle.vk_publish.specs.declared.answers.Moved.{Moved}
use Rattle.vk_make.specs.declared.answers.Mark.{Mark}
use Rattle.vk_make.specs.declared.answers.Mark.TheVariants.{Built, Rebuilt}
use Rattle.vk_make.specs.declared.answers.MakeEnd.TheVariants.{Limit}
use Rattle.vk_make.specs.Makes.{Task, Work, Item, Have, has_digest, planned_after, none_yet, next_item, add_item, make_one, make_of, items_in, item_of, looked, wanted_for, moved, build_item, gathered, supplied, publish_item, published, size_of}
use Rattle.vk_make.specs.Asked.{LooksIn, IsSeen, IsSeenFirst, MakesAsksFirst}

-- ---- what is asked first, through a protocol

module _ (place : Path) where
  pub seen_then : {A B : Type 0} (p : Protocol A) (k : A → Protocol B) → IsSeenFirst place p → ((x : A) → IsSeenFirst place (k x)) → IsSeenFirst place (p >>= k)
  seen_then (ends x) k first more = more x
  seen_then (asks call q) k first more = (
    first.0,
    λ reply. elim (first.1 reply) [
      | inl seen ↦ inl seen
      | inr later ↦ inr (seen_then (q reply) k later more)
    ],
  )

  pub seen_ok : {A B F : Type 0} (f : A → Protocol (Result B F)) (r : Result A F) → ((x : A) → IsSeenFirst place (f x)) → IsSeenFirst place (on_ok f r)
  seen_ok f (Ok x) more = more x
  seen_ok f (Err e) more = tt

  pub seen_each : {X S F : Type 0} (f : X → S → Protocol (Result S F)) (xs : List X) (s : S) → ((x : X) (t : S) → IsSeenFirst place (f x t)) → IsSeenFirst place (each f xs s)
  seen_each f [] s one = tt
  seen_each f (x ∷ xs) s one = seen_then (f x s) (on_ok (each f xs)) (one x s) (λ r. seen_ok (each f xs) r (λ t. seen_each f xs t one))

  -- a protocol whose calls don't look there
  pub seen_only : {A : Type 0} (M : Call → Type 0) (p : Protocol A) → ((call : Call) → M call → LooksIn place call → ⊥) → AsksOnly M p → IsSeenFirst place p
  seen_only M (ends x) none only = tt
  seen_only M (asks call k) none only = (none call only.0, λ reply. inr (seen_only M (k reply) none (only.1 reply)))

-- what reads below one path doesn't look in another that is apart from it
apart_calls : (below place : Path) → ((p : Path) → Begins below p → Begins place p → ⊥) → (call : Call) → ReadsBelow below call → LooksIn place call → ⊥
apart_calls below place apart (kind_of p) reads looks = looks
apart_calls below place apart (read_of p limit) reads looks = apart p reads looks
apart_calls below place apart (piece_of p at most) reads looks = apart p reads looks
apart_calls below place apart (list_of p) reads looks = apart p reads looks
apart_calls below place apart (write_of p bytes) reads looks = looks
apart_calls below place apart (rename_of p q) reads looks = looks
apart_calls below place apart (remove_of p) reads looks = looks

-- ---- a look

own_reply : (w : Wanted) (reply : Reply (kind_of w.entry)) → IsSeen w.entry (kind_of w.entry) reply ⊎ IsSeenFirst w.entry (look_stands w reply)
own_reply w (Ok is_file) = inl refl
own_reply w (Ok is_folder) = inl refl
own_reply w (Ok is_absent) = inr tt
own_reply w (Err r) = inr tt

own_look : (w : Wanted) → IsSeenFirst w.entry (look_of w)
unfolding look_of
own_look w = ((λ looks. looks), own_reply w)

name_or : (one other : List ℕ) → (one ≡ other) ⊎ (one ≡ other → ⊥)
name_or one other = elim (cases_Bool (bytes_eq one other)) [
  | inl same ↦ inl ((bytes_eq-Decides one other).0 same)
  | inr differ ↦ inr (λ e. let clash : true ≡ false = sym ((bytes_eq-Decides one other).1 e) ∙ differ in (cc))
]

module _ (w : Work) (name : List ℕ) where
  abbrev entry : Path
  entry = named_at w.cache name

  abbrev First : {A : Type 0} → Protocol A → Type 0
  First p = IsSeenFirst entry p

  other_apart : (digest : List ℕ) → (encode_lower digest ≡ name → ⊥) → (p : Path) → Begins (entry_at w.cache digest) p → Begins entry p → ⊥
  other_apart digest differ p one other = place_apart w.cache (codes "abi2") (encode_lower digest) (codes "abi2") name one.0 other.0 (λ f m. differ m) (sym one.1 ∙ other.1)

  look_first : (i : Item) → First (look_of (wanted_for w i))
  look_first i = elim (name_or (encode_lower i.task.digest) name) [
    | inl same ↦ subst (λ n. IsSeenFirst (named_at w.cache n) (look_of (wanted_for w i))) same (own_look (wanted_for w i))
    | inr differ ↦ seen_only entry (ReadsBelow (entry_at w.cache i.task.digest)) (look_of (wanted_for w i))
        (apart_calls (entry_at w.cache i.task.digest) entry (other_apart i.task.digest differ)) (look_below (wanted_for w i))
  ]

  -- ---- what is moved and written

  -- a folder of the cache lies below no entry
  folder_above : (folder : List ℕ) → Begins entry (w.cache ++ folder ∷ []) → ⊥
  folder_above folder b = omega (arith, ap length b.1, length-append entry b.0, length-append w.cache (folder ∷ []), length-append w.cache (codes "abi2" ∷ name ∷ []))

  write_first : (at to : Path) (files : List Placed) → First (write_all at files to)
  write_first at to files =
      seen_then entry (each (write_one at) files tt) (on_ok (move_in at to)) (seen_each entry (write_one at) files tt (λ file u. ((λ looks. looks), λ reply. inr tt)))
      (λ r. seen_ok entry (move_in at to) r (λ u. ((λ looks. looks), λ reply. inr tt)))

  publish_first : (digest : List ℕ) (files : List Placed) → First (publish_of w.cache w.agent digest files)
  unfolding publish_of
  publish_first digest files = (
    folder_above (codes "tmp"),
    λ reply. inr (seen_ok entry (λ n. write_all (tmp_at w.cache w.agent n) files (entry_at w.cache digest)) (free_of limit.Tmp w.agent reply)
        (λ n. write_first (tmp_at w.cache w.agent n) (entry_at w.cache digest) files)),
  )

  aside_first : (digest : List ℕ) → First (aside_of w.cache w.agent digest)
  unfolding aside_of
  aside_first digest = (
    folder_above (codes "damaged"),
    λ reply. inr (seen_ok entry (λ n. move_out (entry_at w.cache digest) (damaged_at w.cache w.agent n)) (free_of limit.Damaged w.agent reply)
        (λ n. ((λ looks. looks), λ reply. inr tt))),
  )

  -- ---- a gathering

  -- the cache is apart from the folder of the task's port
  abbrev IsBeside : Task → Type 0
  IsBeside t = (Begins w.cache t.folder → ⊥) × (Begins t.folder w.cache → ⊥)

  folder_apart : (t : Task) → IsBeside t → (p : Path) → Begins t.folder p → Begins entry p → ⊥
  folder_apart t beside p one other = elim (nested t.folder entry one.0 other.0 (sym one.1 ∙ other.1)) [
    | inl above ↦ elim (nested t.folder w.cache above.0 (codes "abi2" ∷ name ∷ []) (sym above.1)) [
      | inl begins ↦ beside.1 begins
      | inr begins ↦ beside.0 begins
    ]
    | inr below ↦ beside.0 (codes "abi2" ∷ name ∷ below.0, below.1 ∙ append_assoc w.cache (codes "abi2" ∷ name ∷ []) below.0)
  ]

  gather_first : (t : Task) → IsBeside t → First (gather_of w.most t.folder)
  gather_first t beside = seen_only entry (ReadsBelow t.folder) (gather_of w.most t.folder) (apart_calls t.folder entry (folder_apart t beside)) (gather_below w.most t.folder)

  -- ---- one item

  module _ (i : Item) (beside : IsBeside i.task) where
    package_first : (mark : Mark) (files : List File) → First (publish_item w i mark files)
    package_first mark files = seen_then entry (publish_of w.cache w.agent i.task.digest (entry_files i.task.text files)) (λ r. ends (published mark files r)) (publish_first i.task.digest (entry_files i.task.text files)) (λ r. tt)

    supplied_first : (mark : Mark) (o : Option (List File)) → First (supplied w i mark o)
    supplied_first mark None = tt
    supplied_first mark (Some files) = if_case First (nat_le (size_of files) i.room) (publish_item w i mark files) (ends (Err (Limit (limit.Bytes w.most)))) (λ few. package_first mark files) (λ many. tt)

    gathered_first : (mark : Mark) (r : Result (List File) base.Limit) → First (gathered w i mark r)
    gathered_first mark (Ok files) = supplied_first mark (w.supplies i.place files)
    gathered_first mark (Err over) = tt

    build_first : (mark : Mark) → First (build_item w i mark)
    build_first mark = seen_then entry (gather_of w.most i.task.folder) (gathered w i mark) (gather_first i.task beside) (gathered_first mark)

    moved_first : (harm : Harm) (r : Result Moved base.Limit) → First (moved w i harm r)
    moved_first harm (Ok m) = build_first (Rebuilt harm)
    moved_first harm (Err over) = tt

    looked_first : (l : Looked) → First (looked w i l)
    looked_first (Ok (look.Hit files)) = tt
    looked_first (Ok look.Absent) = build_first Built
    looked_first (Ok (look.Damaged harm)) = seen_then entry (aside_of w.cache w.agent i.task.digest) (moved w i harm) (aside_first i.task.digest) (moved_first harm)
    looked_first (Ok (look.Collision kept)) = tt
    looked_first (Err over) = tt

    item_first : (again : Bool) → First (item_of w i again)
    unfolding item_of
    item_first true = tt
    item_first false = seen_then entry (look_of (wanted_for w i)) (looked w i) (look_first i) looked_first

  -- ---- all items

  each_first : (seen : List (List ℕ)) (tasks : List Task) (have : Have) → ((t : Task) → Contains tasks t → IsBeside t) → First (each (make_one w) (planned_after seen tasks) have)
  each_first seen [] have beside = tt
  each_first seen (t ∷ tasks) have beside =
      seen_then entry (make_one w (t, has_digest seen t.digest) have) (on_ok (each (make_one w) (planned_after (t.digest ∷ seen) tasks)))
      (seen_then entry (item_of w (next_item t have) (has_digest seen t.digest)) (on_ok (add_item have))
      (item_first (next_item t have) (beside t (contains_first t tasks)) (has_digest seen t.digest)) (λ r. seen_ok entry (add_item have) r (λ made. tt)))
      (λ r. seen_ok entry (each (make_one w) (planned_after (t.digest ∷ seen) tasks)) r (λ next. each_first (t.digest ∷ seen) tasks next (λ u has. beside u (contains_later t u tasks has))))

pub asks_first : MakesAsksFirst
unfolding make_of
asks_first w tasks name below above =
    seen_then (named_at w.cache name) (each (make_one w) (planned_after [] tasks) (none_yet w.most)) (λ r. ends (items_in r))
    (each_first w name [] tasks (none_yet w.most) (λ t has. (below t has, above t has))) (λ r. tt)
