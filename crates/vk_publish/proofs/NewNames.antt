-- What was listed says which names are new.
use Rattle.std.proofs.Common.{◌≡◌, ◌≤◌, ◌⊎◌, inl, inr, ◌++◌, [], ◌∷◌, ℕ, List, true, false, length, refl, sym, subst, append_assoc, arith}
use Rattle.std.specs.Prelude.{Option, Some, None, IsSome, Result, Ok, Err}
use Rattle.std.specs.Prelude.{Bool}
use Rattle.std.proofs.lemmas.List.{append-nil}
use Rattle.vk_spec.specs.Paths.{Path}
use Rattle.vk_spec.specs.Files.{Files}
use Rattle.vk_spec.specs.Standing.{Disk, disk_of, bare, under, Same, Stands, IsFolder, IsAs, Entry, IsListing}
use Rattle.vk_spec.specs.Calls.{list_of, Says, IsSmall, most_entries, missing, too_large, exists, many}
use Rattle.vk_base.specs.declared.limits.Limit.{Limit}
use Rattle.vk_walk.proofs.EntryLemmas.{listings_within}
use Rattle.vk_tree.proofs.ListingLemmas.{some_entry}
use Rattle.vk_protocol.specs.Protocols.{Reply, answer_of}
use Rattle.vk_protocol.specs.Runs.{Does}
use Rattle.vk_places.specs.Places.{place, agent_name}
use Rattle.vk_places.proofs.ApartLemmas.{deeper}
use Rattle.vk_publish.specs.Names.{names_most, is_taken, least_free, picked, free_of}
use Rattle.vk_publish.specs.Outcomes.{HasMany, IsLeastFree, HasNoName}
use Rattle.vk_publish.proofs.NameLemmas.{not_taken, some_taken, least_found, all_taken}

pub is_some : {X : Type 0} (o : Option X) → (o ≡ None) ⊎ IsSome o
is_some None = inl refl
is_some (Some x) = inr refl

module _ (cache : Path) (text : List ℕ) (agent : List ℕ) where
  abbrev folder : Path
  folder = cache ++ text ∷ []

  abbrev named : ℕ → Path
  named n = place cache text (agent_name agent n)

  -- ---- with a listing

  free_listed : (n : ℕ) (es : List Entry) (d : Disk) → IsListing d folder es → is_taken es (agent_name agent n) ≡ false → Same bare (under (named n) d)
  free_listed n es d listing free r = elim (is_some (d (named n ++ r))) [
    | inl none ↦ none
    | inr some ↦ (let e = listing.all (agent_name agent n) r (subst (λ p. IsSome (d p)) (deeper cache text (agent_name agent n) r) some) in absurd (not_taken es (agent_name agent n) free e.0 e.1 e.2))
  ]

  stands_as : (d : Disk) (name : List ℕ) (is : Bool) → IsAs d (folder ++ name ∷ []) is → Stands d (folder ++ name ∷ [])
  stands_as d name true folder_is = (folder_is.0 ∷ folder_is.1, folder_is.2)
  stands_as d name false file_is = ([], subst (λ p. IsSome (d p)) (sym (append-nil (folder ++ name ∷ []))) file_is)

  taken_listed : (n : ℕ) (es : List Entry) (d : Disk) → IsListing d folder es → is_taken es (agent_name agent n) ≡ true → Stands d (named n)
  taken_listed n es d listing taken =
      let e = some_taken es (agent_name agent n) taken in
      subst (λ p. Stands d p) (append_assoc cache (text ∷ []) (agent_name agent n ∷ []))
      (subst (λ name. Stands d (folder ++ name ∷ [])) e.2 (stands_as d e.0.name e.0.folder (listing.entries_of.sound e.0 e.1)))

  few_listed : (es : List Entry) (d : Disk) → IsListing d folder es → length es ≤ most_entries → HasMany folder d → ⊥
  few_listed es d listing small has = omega (arith, listings_within d folder es has.0 listing has.1, small, has.2)

  -- ---- without one

  free_absent : (n : ℕ) (d : Disk) → (IsFolder d folder → ⊥) → Same bare (under (named n) d)
  free_absent n d none r = elim (is_some (d (named n ++ r))) [
    | inl free ↦ free
    | inr some ↦ absurd (none (agent_name agent n, r, subst (λ p. IsSome (d p)) (deeper cache text (agent_name agent n) r) some))
  ]

  few_absent : (d : Disk) → (IsFolder d folder → ⊥) → HasMany folder d → ⊥
  few_absent d none has = none (some_entry d folder has.0 has.1 (omega (arith, has.2)))

  -- ---- by the reply

  -- what the number that is chosen says, or why there is none
  abbrev pub Picks : Limit → Result ℕ Limit → Files → Type 0
  Picks full (Ok n) f = (HasMany folder (disk_of f) → ⊥) × IsLeastFree named (disk_of f) n
  Picks full (Err over) f = HasNoName full folder named over f f

  pick_listed : (full : Limit) (o : Option ℕ) (es : List Entry) (f : Files) → least_free agent es ≡ o → (HasMany folder (disk_of f) → ⊥)
      → ((n : ℕ) → is_taken es (agent_name agent n) ≡ false → Same bare (under (named n) (disk_of f))) → ((n : ℕ) → is_taken es (agent_name agent n) ≡ true → Stands (disk_of f) (named n)) → Picks full (picked full o) f
  pick_listed full (Some n) es f is few free taken =
      let found = least_found agent es names_most 0 n is in
      (few, record { within = omega (arith, found.within); free = free n found.free; least = λ m less. taken m (found.lower m (omega arith) less) })
  pick_listed full None es f is few free taken = (refl, inr (refl, few, λ n within. taken n (all_taken agent es names_most 0 is n (omega arith) (omega (arith, within)))))

  pub picks : (full : Limit) (reply : Reply (list_of folder)) (f : Files) → Says (list_of folder) (answer_of (list_of folder) reply) (disk_of f) → IsSmall (list_of folder) (answer_of (list_of folder) reply) → Picks full (free_of full agent reply) f
  picks full (Ok es) f says small = pick_listed full (least_free agent es) es f refl (few_listed es (disk_of f) says.0 small) (λ n free. free_listed n es (disk_of f) says.0 free) (λ n taken. taken_listed n es (disk_of f) says.0 taken)
  picks full (Err missing) f says small = pick_listed full (least_free agent []) [] f refl (few_absent (disk_of f) says) (λ n free. free_absent n (disk_of f) says) (λ n taken. (cc))
  picks full (Err too_large) f says small = absurd says
  picks full (Err exists) f says small = absurd says
  picks full (Err many) f says small = (refl, inl (refl, says))

  pub list_left : (reply : Reply (list_of folder)) (f g : Files) → Does (list_of folder) reply f g → g ≡ f
  list_left (Ok es) f g does = does.leaves
  list_left (Err r) f g does = does.leaves
