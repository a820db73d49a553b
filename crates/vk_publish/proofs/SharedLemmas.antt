-- What the calls of one agent are to the others, and what always holds.
use Rattle.std.proofs.Common.{◌≡◌, ◌≢◌, ◌<◌, ◌⊎◌, inl, inr, ◌+◌, ◌++◌, [], ◌∷◌, ℕ, List, true, false, length, length-append, refl, ap, sym, ◌∙◌, subst, arith}
use Rattle.std.specs.Prelude.{IsSome, codes}
use Rattle.std.specs.Str.{bytes_eq}
use Rattle.std.proofs.lemmas.Bool.{cases_Bool}
use Rattle.std.proofs.lemmas.Slice.Eq.{bytes_eq-Decides}
use Rattle.vk_spec.specs.Paths.{Path, Begins}
use Rattle.vk_spec.specs.Files.{Files}
use Rattle.vk_spec.specs.Standing.{Disk, disk_of, bare, under, Same, Else, Stands}
use Rattle.vk_spec.specs.Calls.{Moves}
use Rattle.vk_spec.proofs.FileLemmas.{none_some}
use Rattle.vk_tree.specs.Trees.{IsTreeDisk}
use Rattle.vk_protocol.specs.Keeps.{AreTerms}
use Rattle.vk_places.specs.Places.{place, agent_name, tmp_at}
use Rattle.vk_places.proofs.ApartLemmas.{place_apart, same_agent, tmp_apart_name}
use Rattle.vk_publish.specs.Entries.{entry_files}
use Rattle.vk_publish.specs.Outcomes.{IsClear}
use Rattle.vk_publish.specs.Shared.{Pair, named_at, IsEntry, IsSound, Effect, quiet, moved, Others, Later}
use Rattle.vk_publish.proofs.PutLemmas.{list_in}
use Rattle.vk_publish.proofs.PublishKept.{holds_stands}

name_or : (one other : List ℕ) → (one ≡ other) ⊎ (one ≡ other → ⊥)
name_or one other = elim (cases_Bool (bytes_eq one other)) [
  | inl same ↦ inl ((bytes_eq-Decides one other).0 same)
  | inr differ ↦ inr (λ e. let clash : true ≡ false = sym ((bytes_eq-Decides one other).1 e) ∙ differ in (cc))
]

stands_view : (p : Path) (d e : Disk) → Same (under p d) (under p e) → Stands d p → Stands e p
stands_view p d e same s = (s.0, subst (λ o. IsSome o) (sym (same s.0)) s.1)

module _ (all : List Pair) (cache : Path) where
  pub nothing_done : (agent : List ℕ) (f g : Files) → g ≡ f → Effect all cache agent (disk_of f) (disk_of g)
  nothing_done agent f g same = quiet (λ q other. ap (λ h. disk_of h q) same)

  -- ---- what stays

  entry_untouched : (agent name : List ℕ) (d e : Disk) → Else (λ q. (n : ℕ) × Begins (tmp_at cache agent n) q) d e → Same (under (named_at cache name) d) (under (named_at cache name) e)
  entry_untouched agent name d e else r = else (named_at cache name ++ r) (λ b. tmp_apart_name cache agent name b.0 (named_at cache name ++ r) b.1.0 r b.1.1 refl)

  entry_beside : (agent name other : List ℕ) (n : ℕ) (d e : Disk) → (other ≡ name → ⊥) → Moves (tmp_at cache agent n) (named_at cache name) d e → Same (under (named_at cache other) d) (under (named_at cache other) e)
  entry_beside agent name other n d e differ moves r = moves.others (named_at cache other ++ r) (λ b. elim b [
    | inl t ↦ tmp_apart_name cache agent other n (named_at cache other ++ r) t.0 r t.1 refl
    | inr h ↦ place_apart cache (codes "abi2") other (codes "abi2") name r h.0 (λ f m. differ m) h.1
  ])

  -- an entry that stays the same is one still
  pub entry_still : (name : List ℕ) (d e : Disk) → Same (under (named_at cache name) d) (under (named_at cache name) e) → IsEntry all cache name d → IsEntry all cache name e
  entry_still name d e same is = record { pair = is.pair; member = is.member; named = is.named; whole = λ r. same r ∙ is.whole r }

  either_still : (name : List ℕ) (d e : Disk) → Same (under (named_at cache name) d) (under (named_at cache name) e) → Same bare (under (named_at cache name) d) ⊎ IsEntry all cache name d → Same bare (under (named_at cache name) e) ⊎ IsEntry all cache name e
  either_still name d e same (inl none) = inl (λ r. same r ∙ none r)
  either_still name d e same (inr is) = inr (entry_still name d e same is)

  whole_kept : (agent : List ℕ) (d e : Disk) → Effect all cache agent d e → ((name : List ℕ) → Same bare (under (named_at cache name) d) ⊎ IsEntry all cache name d) → (name : List ℕ) → Same bare (under (named_at cache name) e) ⊎ IsEntry all cache name e
  whole_kept agent d e (quiet else) whole name = either_still name d e (entry_untouched agent name d e else) (whole name)
  whole_kept agent d e (moved n at moves free full) whole name =
      elim (name_or name at) [
        | inl same ↦ inr (subst (λ x. IsEntry all cache x e) (sym same) full)
        | inr other ↦ either_still name d e (entry_beside agent at name n d e other moves) (whole name)
      ]

  -- a path that is too short lies below no name in a folder of the cache
  too_short : (q : Path) (folder name : List ℕ) → length q < length cache + 2 → Begins (place cache folder name) q → ⊥
  too_short q folder name short b = omega (arith, ap length b.1, length-append (place cache folder name) b.0, length-append cache (folder ∷ name ∷ []), short)

  short_same : (agent : List ℕ) (d e : Disk) (q : Path) → Effect all cache agent d e → length q < length cache + 2 → e q ≡ d q
  short_same agent d e q (quiet else) short = else q (λ b. too_short q (codes "tmp") (agent_name agent b.0) short b.1)
  short_same agent d e q (moved n at moves free full) short = moves.others q (λ b. elim b [
    | inl t ↦ too_short q (codes "tmp") (agent_name agent n) short t
    | inr h ↦ too_short q (codes "abi2") at short h
  ])

  clear_kept : (agent : List ℕ) (d e : Disk) → Effect all cache agent d e → IsClear cache d → IsClear cache e
  clear_kept agent d e eff clear = record {
    above = λ front rest is. short_same agent d e front eff (omega (arith, ap length is, length-append front rest)) ∙ clear.above front rest is;
    entries = short_same agent d e (cache ++ codes "abi2" ∷ []) eff (omega (arith, length-append cache (codes "abi2" ∷ []))) ∙ clear.entries;
    tmp = short_same agent d e (cache ++ codes "tmp" ∷ []) eff (omega (arith, length-append cache (codes "tmp" ∷ []))) ∙ clear.tmp;
    damaged = short_same agent d e (cache ++ codes "damaged" ∷ []) eff (omega (arith, length-append cache (codes "damaged" ∷ []))) ∙ clear.damaged;
  }

  pub sound_kept : (agent : List ℕ) (d e : Disk) → IsTreeDisk e → Effect all cache agent d e → IsSound all cache d → IsSound all cache e
  sound_kept agent d e tree eff sound = record { whole = whole_kept agent d e eff sound.whole; clear = clear_kept agent d e eff sound.clear; tree = tree }

  -- ---- what the others see

  entry_stays : (agent : List ℕ) (d e : Disk) → Effect all cache agent d e → (name : List ℕ) → Stands d (named_at cache name) → Same (under (named_at cache name) d) (under (named_at cache name) e)
  entry_stays agent d e (quiet else) name stands = entry_untouched agent name d e else
  entry_stays agent d e (moved n at moves free full) name stands =
      elim (name_or name at) [
        | inl same ↦ absurd (free (subst (λ x. Stands d (named_at cache x)) same stands))
        | inr other ↦ entry_beside agent at name n d e other moves
      ]

  own_stays : (agent other : List ℕ) (d e : Disk) → other ≢ agent → Effect all cache agent d e → (m : ℕ) → Same (under (tmp_at cache other m) d) (under (tmp_at cache other m) e)
  own_stays agent other d e differ (quiet else) m r = else (tmp_at cache other m ++ r) (λ b. place_apart cache (codes "tmp") (agent_name other m) (codes "tmp") (agent_name agent b.0) r b.1.0 (λ f k. differ (same_agent other agent m b.0 k)) b.1.1)
  own_stays agent other d e differ (moved n at moves free full) m r = moves.others (tmp_at cache other m ++ r) (λ x. elim x [
    | inl t ↦ place_apart cache (codes "tmp") (agent_name other m) (codes "tmp") (agent_name agent n) r t.0 (λ f k. differ (same_agent other agent m n k)) t.1
    | inr h ↦ tmp_apart_name cache other at m (tmp_at cache other m ++ r) r h.0 refl h.1
  ])

  -- what one agent does is what the others may do, to another
  pub effect_later : (agent other : List ℕ) (f g : Files) → other ≢ agent → IsTreeDisk (disk_of g) → Effect all cache agent (disk_of f) (disk_of g) → IsSound all cache (disk_of f) → Later all cache other f g
  effect_later agent other f g differ tree eff sound = record {
    others = record { kept = entry_stays agent (disk_of f) (disk_of g) eff; own = own_stays agent other (disk_of f) (disk_of g) differ eff };
    sound = sound_kept agent (disk_of f) (disk_of g) tree eff sound;
  }

  others_then : (agent : List ℕ) (d e f : Disk) → Others cache agent d e → Others cache agent e f → Others cache agent d f
  others_then agent d e f one two = record {
    kept = λ name stands r. two.kept name (stands_view (named_at cache name) d e (one.kept name stands) stands) r ∙ one.kept name stands r;
    own = λ n r. two.own n r ∙ one.own n r;
  }

  pub shared_terms : (agent : List ℕ) → AreTerms (Later all cache agent) (λ f g. Effect all cache agent (disk_of f) (disk_of g)) (λ f. IsSound all cache (disk_of f))
  shared_terms agent = record {
    nothing = λ f sound. record { others = record { kept = λ name s r. refl; own = λ n r. refl }; sound = sound };
    more = λ f g h one two. record { others = others_then agent (disk_of f) (disk_of g) (disk_of h) one.others two.others; sound = two.sound };
    others = λ f g later. later.sound;
    own = λ f g sound eff tree. sound_kept agent (disk_of f) (disk_of g) tree eff sound;
  }

  -- ---- an entry stays whole

  entry_stands : (name : List ℕ) (d : Disk) → IsEntry all cache name d → Stands d (named_at cache name)
  entry_stands name d is = holds_stands (entry_files is.pair.0 is.pair.1) (named_at cache name) d _ (list_in is.pair.0 is.pair.1) is.whole

  pub entry_later : (agent name : List ℕ) (f g : Files) → Later all cache agent f g → IsEntry all cache name (disk_of f) → IsEntry all cache name (disk_of g)
  entry_later agent name f g later is = entry_still name (disk_of f) (disk_of g) (later.others.kept name (entry_stands name (disk_of f) is)) is

  -- what stands in a sound cache is a whole entry
  pub stood_whole : (name : List ℕ) (d : Disk) → IsSound all cache d → Stands d (named_at cache name) → IsEntry all cache name d
  stood_whole name d sound stands = elim (sound.whole name) [
    | inl none ↦ absurd (none_some (d (named_at cache name ++ stands.0)) (none stands.0) stands.1)
    | inr is ↦ is
  ]
