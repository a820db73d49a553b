-- Publishing among others.
use Rattle.std.proofs.Common.{◌≡◌, ◌++◌, [], ◌∷◌, ℕ, List, refl, sym, ◌∙◌, subst, append_assoc}
use Rattle.std.specs.Prelude.{Result, Ok, Err, codes}
use Rattle.std.specs.List.{Contains}
use Rattle.std.proofs.lemmas.List.{append-nil}
use Rattle.std.proofs.lemmas.List.Elements.{Contains-append_left, Contains-append_right}
use Rattle.sha2.specs.Sha256.{sha256}
use Rattle.vk_spec.specs.Paths.{Path}
use Rattle.vk_spec.specs.Files.{Files}
use Rattle.vk_spec.specs.Standing.{Disk, disk_of, Else}
use Rattle.vk_spec.specs.Calls.{list_of, write_of, rename_of, CanMake, Says, missing, too_large, exists, many}
use Rattle.vk_spec.proofs.ListLemmas.{contains_first}
use Rattle.vk_base.specs.declared.limits.Limit.{Limit}
use Rattle.vk_base.specs.declared.limits.Limit.TheVariants as limit
use Rattle.vk_protocol.specs.Keeps.{Keeps}
use Rattle.vk_protocol.specs.Protocols.{Reply, answer_of, Protocol, ends, on_ok}
use Rattle.vk_protocol.specs.Runs.{Does}
use Rattle.vk_protocol.specs.Turns.{Left, goes, AllKeep, GoTogether, LeftKeeps}
use Rattle.vk_protocol.proofs.TurnLemmas.{turns_keep}
use Rattle.vk_places.specs.Places.{agent_name, entry_at, tmp_of, tmp_at}
use Rattle.vk_places.proofs.ApartLemmas.{tmp_apart, bare_above}
use Rattle.vk_publish.specs.Names.{free_of}
use Rattle.vk_publish.specs.Entries.{Placed, entry_files, HoldsJust}
use Rattle.vk_publish.specs.Publish.{published_by, write_all, publish_of}
use Rattle.vk_publish.specs.Outcomes.{IsClear}
use Rattle.vk_publish.specs.Shared.{Pair, name_of, IsEntry, IsSound, Effect, quiet, moved as moves_in, Later, EndsWhole, pair_of, SeveralPublish}
use Rattle.vk_publish.specs.declared.answers.Published.{Published}
use Rattle.vk_publish.proofs.NewNames.{Picks, picks, list_left}
use Rattle.vk_publish.proofs.PutLemmas.{put_else, ArePlacedApart, entry_apart, list_in}
use Rattle.vk_publish.proofs.PublishKept.{can_write, view_more, holds_stands}
use Rattle.vk_publish.proofs.SharedLemmas.{nothing_done, entry_later, stood_whole, effect_later, shared_terms}

module _ (all : List Pair) (cache : Path) (agent : List ℕ) (pair : Pair) (member : Contains all pair) (apart : ArePlacedApart (entry_files pair.0 pair.1)) where
  abbrev files : List Placed
  files = entry_files pair.0 pair.1

  abbrev entry : Path
  entry = entry_at cache (sha256 pair.0)

  abbrev IsKept : Protocol (Result Published Limit) → Files → Type 0
  IsKept p f = Keeps (Later all cache agent) (λ f g. Effect all cache agent (disk_of f) (disk_of g)) (EndsWhole all cache (name_of pair)) p f

  -- what stands below an own name stays
  own_view : (n : ℕ) (done : List Placed) (f g : Files) → Later all cache agent f g → HoldsJust done (tmp_at cache agent n) (disk_of f) → HoldsJust done (tmp_at cache agent n) (disk_of g)
  own_view n done f g later view r = later.others.own n r ∙ view r

  -- ---- the move

  can_move : (n : ℕ) (d : Disk) → IsClear cache d → CanMake (rename_of (tmp_at cache agent n) entry) d
  can_move n d clear = (
    bare_above cache (codes "abi2") (name_of pair) d clear.above clear.entries,
    (λ b. tmp_apart cache agent (sha256 pair.0) n entry b.0 [] b.1 (sym (append-nil entry))),
    (λ b. tmp_apart cache agent (sha256 pair.0) n (tmp_at cache agent n) [] b.0 (sym (append-nil (tmp_at cache agent n))) b.1),
  )

  moved : (n : ℕ) (g h : Files) → HoldsJust files (tmp_at cache agent n) (disk_of g) → Does (rename_of (tmp_at cache agent n) entry) (Ok tt) g h → IsEntry all cache (name_of pair) (disk_of h)
  moved n g h view does = record { pair = pair; member = member; named = refl; whole = λ r. does.leaves.lands r ∙ view r }

  move_replied : (n : ℕ) (g h : Files) (reply : Reply (rename_of (tmp_at cache agent n) entry)) → IsSound all cache (disk_of g) → HoldsJust files (tmp_at cache agent n) (disk_of g) → Does (rename_of (tmp_at cache agent n) entry) reply g h
      → Effect all cache agent (disk_of g) (disk_of h) × IsKept (ends (Ok (published_by reply))) h
  move_replied n g h (Ok u) sound view does = (
    moves_in n (name_of pair) does.leaves does.says.1 (moved n g h view does),
    λ i later. entry_later all cache agent (name_of pair) h i later (moved n g h view does),
  )
  move_replied n g h (Err missing) sound view does = absurd (does.says (holds_stands files (tmp_at cache agent n) (disk_of g) _ (list_in pair.0 pair.1) view))
  move_replied n g h (Err too_large) sound view does = absurd does.says
  move_replied n g h (Err exists) sound view does = (
    nothing_done all cache agent g h does.leaves,
    λ i later. entry_later all cache agent (name_of pair) h i later (subst (λ j. IsEntry all cache (name_of pair) (disk_of j)) (sym does.leaves) (stood_whole all cache (name_of pair) (disk_of g) sound does.says.1)),
  )
  move_replied n g h (Err many) sound view does = absurd does.says

  move_kept : (n : ℕ) (f : Files) → HoldsJust files (tmp_at cache agent n) (disk_of f) → IsKept (write_all (tmp_at cache agent n) [] entry) f
  move_kept n f view = λ g later. (
    can_move n (disk_of g) later.sound.clear,
    (λ h left tree. nothing_done all cache agent g h left),
    (λ reply h does tree. move_replied n g h reply later.sound (own_view n files f g later view) does),
  )

  -- ---- the writes

  write_quiet : (n : ℕ) (x : Placed) (d e : Disk) → Else (λ q. q ≡ tmp_at cache agent n ++ x.0) d e → Effect all cache agent d e
  write_quiet n x d e only = quiet (λ q other. only q (λ same. other (n, (x.0, same))))

  write_replied : (n : ℕ) (done todo : List Placed) (x : Placed) (g h : Files) (reply : Reply (write_of (tmp_at cache agent n ++ x.0) x.1)) → HoldsJust done (tmp_at cache agent n) (disk_of g) → Does (write_of (tmp_at cache agent n ++ x.0) x.1) reply g h
      → (HoldsJust (done ++ x ∷ []) (tmp_at cache agent n) (disk_of h) → IsKept (write_all (tmp_at cache agent n) todo entry) h) → Effect all cache agent (disk_of g) (disk_of h) × IsKept (write_all (tmp_at cache agent n) todo entry) h
  write_replied n done todo x g h (Ok u) view does more = (
    write_quiet n x (disk_of g) (disk_of h) (put_else (tmp_at cache agent n ++ x.0) x.1 (disk_of g) (disk_of h) does.leaves),
    more (view_more cache agent (sha256 pair.0) n done x (disk_of g) (disk_of h) does.leaves view),
  )
  write_replied n done todo x g h (Err r) view does more = absurd does.says

  writes_kept : (n : ℕ) (done todo : List Placed) (f : Files) → files ≡ done ++ todo → HoldsJust done (tmp_at cache agent n) (disk_of f) → IsKept (write_all (tmp_at cache agent n) todo entry) f
  writes_kept n done [] f split view = move_kept n f (subst (λ l. HoldsJust l (tmp_at cache agent n) (disk_of f)) (sym (split ∙ append-nil done)) view)
  writes_kept n done (y ∷ todo) f split view = λ g later.
      (let y_in : Contains files y = subst (λ l. Contains l y) (sym split) (Contains-append_right done (y ∷ todo) y (contains_first y todo)) in
      let here = own_view n done f g later view in (
        can_write cache agent (sha256 pair.0) n done y (disk_of g)
            (λ z z_done part rest. (let z_in : Contains files z = subst (λ l. Contains l z) (sym split) (Contains-append_left done (y ∷ todo) z z_done) in (apart y z y_in z_in part rest, apart z y z_in y_in part rest)))
            (bare_above cache (codes "tmp") (agent_name agent n) (disk_of g) later.sound.clear.above later.sound.clear.tmp) here,
        (λ h left tree. write_quiet n y (disk_of g) (disk_of h) left),
        (λ reply h does tree. write_replied n done todo y g h reply here does (λ more. writes_kept n (done ++ y ∷ []) todo h (split ∙ sym (append_assoc done (y ∷ []) todo)) more)),
      ))

  -- ---- the whole

  picked_kept : (f : Files) (r : Result ℕ Limit) → Picks cache (codes "tmp") agent limit.Tmp r f → IsKept (on_ok (λ n. write_all (tmp_at cache agent n) files entry) r) f
  picked_kept f (Ok n) picks = writes_kept n [] files f refl picks.1.free
  picked_kept f (Err over) picks = λ g later. tt

  pub pair_kept : (f : Files) → IsKept (pair_of cache agent pair) f
  unfolding publish_of
  pair_kept f = λ g later. (
    tt,
    (λ h left tree. nothing_done all cache agent g h left),
    (λ reply h does tree. (let same = list_left cache (codes "tmp") agent reply g h does in (
      nothing_done all cache agent g h same,
      picked_kept h (free_of limit.Tmp agent reply) (picks cache (codes "tmp") agent limit.Tmp reply h (subst (λ i. Says (list_of (tmp_of cache)) (answer_of (list_of (tmp_of cache)) reply) (disk_of i)) (sym same) does.says) does.small),
    ))),
  )

-- ---- several of them

pub several_publish : SeveralPublish
several_publish all cache agents pairs differ each turns f g before after are sound ran =
    (kept.holds, λ who x is. ended who x (kept.keep who (goes (ends x)) is))
  where
    together : GoTogether (λ who. Later all cache (agents who)) (λ who f g. Effect all cache (agents who) (disk_of f) (disk_of g)) (λ f. IsSound all cache (disk_of f))
    together = record {
      each = λ who. shared_terms all cache (agents who);
      apart = λ who other not_who f g holds eff tree. effect_later all cache (agents who) (agents other) f g (differ other who not_who) tree eff holds;
    }

    left_keeps : (who : ℕ) (left : Left (Result Published Limit)) → left ≡ goes (pair_of cache (agents who) (pairs who)) → LeftKeeps (Later all cache (agents who)) (λ f g. Effect all cache (agents who) (disk_of f) (disk_of g)) (EndsWhole all cache (name_of (pairs who))) left f
    left_keeps who left is =
        subst (λ l. LeftKeeps (Later all cache (agents who)) (λ f g. Effect all cache (agents who) (disk_of f) (disk_of g)) (EndsWhole all cache (name_of (pairs who))) l f) (sym is)
        (pair_kept all cache (agents who) (pairs who) (each who).0 (entry_apart (pairs who).0 (pairs who).1 (each who).1) f)

    kept : AllKeep (λ who. Later all cache (agents who)) (λ who f g. Effect all cache (agents who) (disk_of f) (disk_of g)) (λ f. IsSound all cache (disk_of f)) (λ who. EndsWhole all cache (name_of (pairs who))) g after
    kept = turns_keep (Result Published Limit) (λ who. Later all cache (agents who)) (λ who f g. Effect all cache (agents who) (disk_of f) (disk_of g)) (λ f. IsSound all cache (disk_of f)) (λ who. EndsWhole all cache (name_of (pairs who))) together turns f g before after
        (record { holds = sound; keep = λ who left is. left_keeps who left (are who left is) }) ran

    ended : (who : ℕ) (x : Result Published Limit) → LeftKeeps (Later all cache (agents who)) (λ f g. Effect all cache (agents who) (disk_of f) (disk_of g)) (EndsWhole all cache (name_of (pairs who))) (goes (ends x)) g → EndsWhole all cache (name_of (pairs who)) x g
    ended who x keeps = keeps g ((shared_terms all cache (agents who)).nothing g kept.holds)
