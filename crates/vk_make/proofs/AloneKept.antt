-- What is kept of the files since the start, call by call.
use Rattle.std.proofs.Common.{◌≡◌, ◌≢◌, ◌≤◌, ◌⊎◌, inl, inr, ◌++◌, [], ◌∷◌, ◌+◌, ℕ, List, false, length, length-append, append_assoc, refl, ap, sym, ◌∙◌, subst, arith}
use Rattle.std.specs.Prelude.{None, IsSome, codes}
use Rattle.std.specs.List.{Contains}
use Rattle.hex.specs.Hex.{encode_lower}
use Rattle.vk_spec.specs.Paths.{Path, Begins}
use Rattle.vk_spec.specs.Standing.{Disk, bare, under, Same, Else, Stands}
use Rattle.vk_spec.proofs.FileLemmas.{none_some}
use Rattle.vk_places.specs.Places.{place, agent_name, entry_at, tmp_of, tmp_at, damaged_at}
use Rattle.vk_places.proofs.ApartLemmas.{place_apart, tmp_apart, damaged_apart}
use Rattle.vk_entry.proofs.DigestLemmas.{digest_apart}
use Rattle.vk_publish.specs.Outcomes.{IsClear}
use Rattle.vk_publish.proofs.NewNames.{is_some}
use Rattle.vk_make.specs.Makes.{Task, Work, has_digest}
use Rattle.vk_make.specs.Leaving.{IsAtHand, IsAllKept}
use Rattle.vk_make.specs.Keeping.{IsLeft, IsNew, IsOfTask, IsKeptSince, CanMakeAlone}
use Rattle.vk_make.proofs.AlonePlaces.{cases_digest, damaged_not_tmp, meet, same_then, stands_now}

-- what a publishing or a setting aside may change: a name that is new now, or this entry
abbrev pub Touched : Work → Disk → List ℕ → Path → Type 0
Touched w e digest q = IsNew (tmp_at w.cache w.agent) e q ⊎ (IsNew (damaged_at w.cache w.agent) e q ⊎ Begins (entry_at w.cache digest) q)

-- the entries of digests that weren't seen so far are as they were
abbrev pub Untouched : Work → List Task → Disk → List (List ℕ) → Disk → Type 0
Untouched w tasks d seen e = (t : Task) → Contains tasks t → has_digest seen t.digest ≡ false → Same (under (entry_at w.cache t.digest) d) (under (entry_at w.cache t.digest) e)

pub untouched_start : (w : Work) (tasks : List Task) (d : Disk) (seen : List (List ℕ)) → Untouched w tasks d seen d
untouched_start w tasks d seen t has new r = refl

-- ---- what an item leaves to the others

-- since these files the entries of other digests are as they were, and so is all that is being made
pub record Since (w : Work) (tasks : List Task) (t : Task) (s e : Disk) : Type 0 where
  pub others : (other : Task) → Contains tasks other → t.digest ≢ other.digest → Same (under (entry_at w.cache other.digest) s) (under (entry_at w.cache other.digest) e)
  pub tmp : Same (under (tmp_of w.cache) s) (under (tmp_of w.cache) e)

pub since_start : (w : Work) (tasks : List Task) (t : Task) (s : Disk) → Since w tasks t s s
since_start w tasks t s = record { others = λ other has differ r. refl; tmp = λ r. refl }

module _ (w : Work) (tasks : List Task) (d : Disk) (can : CanMakeAlone w tasks d) where
  abbrev tmp : ℕ → Path
  tmp n = tmp_at w.cache w.agent n

  abbrev away : ℕ → Path
  away n = damaged_at w.cache w.agent n

  abbrev entry : List ℕ → Path
  entry digest = entry_at w.cache digest

  abbrev Changed : Path → Type 0
  Changed q = IsNew (tmp_at w.cache w.agent) d q ⊎ (IsNew (damaged_at w.cache w.agent) d q ⊎ IsOfTask w tasks q)

  -- ---- the entries of two digests are apart

  entries_apart : (one other : Task) (q : Path) → Contains tasks one → Contains tasks other → one.digest ≢ other.digest → Begins (entry one.digest) q → Begins (entry other.digest) q → ⊥
  entries_apart one other q in_one in_other differ b c =
      place_apart w.cache (codes "abi2") (encode_lower one.digest) (codes "abi2") (encode_lower other.digest) b.0 c.0
      (λ f m. differ (digest_apart one.digest other.digest (can.digests one in_one) (can.digests other in_other) m)) (sym b.1 ∙ c.1)

  tmp_entry : (n : ℕ) (digest : List ℕ) (q : Path) → Begins (tmp n) q → Begins (entry digest) q → ⊥
  tmp_entry n digest q b c = tmp_apart w.cache w.agent digest n q b.0 c.0 b.1 c.1

  away_entry : (n : ℕ) (digest : List ℕ) (q : Path) → Begins (away n) q → Begins (entry digest) q → ⊥
  away_entry n digest q b c = damaged_apart w.cache w.agent digest n q b.0 c.0 b.1 c.1

  -- ---- where something may have changed

  new_bare : (named : ℕ → Path) (q : Path) → IsNew named d q → d q ≡ None
  new_bare named q is = ap d is.2.1 ∙ is.1 is.2.0

  stood_still : (q : Path) → IsSome (d q) → (IsOfTask w tasks q → ⊥) → Changed q → ⊥
  stood_still q some none (inl new) = none_some (d q) (new_bare (tmp_at w.cache w.agent) q new) some
  stood_still q some none (inr (inl new)) = none_some (d q) (new_bare (damaged_at w.cache w.agent) q new) some
  stood_still q some none (inr (inr of)) = none of

  in_cache : (folder name : List ℕ) (q : Path) → Begins (place w.cache folder name) q → Begins w.cache q
  in_cache folder name q b = (folder ∷ name ∷ b.0, b.1 ∙ append_assoc w.cache (folder ∷ name ∷ []) b.0)

  changed_in : (q : Path) → Changed q → Begins w.cache q
  changed_in q (inl new) = in_cache (codes "tmp") (agent_name w.agent new.0) q new.2
  changed_in q (inr (inl new)) = in_cache (codes "damaged") (agent_name w.agent new.0) q new.2
  changed_in q (inr (inr of)) = in_cache (codes "abi2") (encode_lower of.0.digest) q of.2

  is_long : (folder name : List ℕ) (q : Path) → length q ≤ length w.cache + 1 → Begins (place w.cache folder name) q → ⊥
  is_long folder name q short b = omega (arith, short, ap length b.1, length-append (place w.cache folder name) b.0, length-append w.cache (folder ∷ name ∷ []))

  short_stays : (q : Path) → length q ≤ length w.cache + 1 → Changed q → ⊥
  short_stays q short (inl new) = is_long (codes "tmp") (agent_name w.agent new.0) q short new.2
  short_stays q short (inr (inl new)) = is_long (codes "damaged") (agent_name w.agent new.0) q short new.2
  short_stays q short (inr (inr of)) = is_long (codes "abi2") (encode_lower of.0.digest) q short of.2

  -- ---- what is kept says of later files

  pub kept_start : IsKeptSince w tasks d d
  kept_start = record { entries = λ t has. inl (λ r. refl); others = λ q none. refl }

  module _ (e : Disk) (kept : IsKeptSince w tasks d e) where
    folder_apart : (t : Task) (r : Path) → Contains tasks t → Changed (t.folder ++ r) → ⊥
    folder_apart t r has changed = (let b = changed_in (t.folder ++ r) changed in elim (meet t.folder r w.cache b.0 b.1) [
      | inl above ↦ can.above t has above
      | inr below ↦ can.below t has below
    ])

    -- the folder of a task is as it was
    pub folder_same : (t : Task) → Contains tasks t → Same (under t.folder d) (under t.folder e)
    folder_same t has r = kept.others (t.folder ++ r) (folder_apart t r has)

    child_clear : (folder : List ℕ) → d (w.cache ++ folder ∷ []) ≡ None → e (w.cache ++ folder ∷ []) ≡ None
    child_clear folder none = kept.others (w.cache ++ folder ∷ []) (short_stays (w.cache ++ folder ∷ []) (omega (arith, length-append w.cache (folder ∷ [])))) ∙ none

    pub clear_since : IsClear w.cache e
    clear_since = record {
      above = λ front rest is. kept.others front (short_stays front (omega (arith, ap length is, length-append front rest))) ∙ can.clear.above front rest is;
      entries = child_clear (codes "abi2") can.clear.entries;
      tmp = child_clear (codes "tmp") can.clear.tmp;
      damaged = child_clear (codes "damaged") can.clear.damaged;
    }

    free_since : (at : Path) → ((r : Path) → IsOfTask w tasks (at ++ r) → ⊥) → Same bare (under at e) → Same bare (under at d)
    free_since at apart free r = elim (is_some (d (at ++ r))) [
      | inl none ↦ none
      | inr some ↦ absurd (none_some (d (at ++ r)) (sym (kept.others (at ++ r) (stood_still (at ++ r) some (apart r))) ∙ free r) some)
    ]

    new_tmp : (q : Path) → IsNew (tmp_at w.cache w.agent) e q → IsNew (tmp_at w.cache w.agent) d q
    new_tmp q new = (new.0, free_since (tmp new.0) (λ r of. tmp_entry new.0 of.0.digest (tmp new.0 ++ r) (r, refl) of.2) new.1, new.2)

    pub free_away : (n : ℕ) → Same bare (under (away n) e) → Same bare (under (away n) d)
    free_away n free = free_since (away n) (λ r of. away_entry n of.0.digest (away n ++ r) (r, refl) of.2) free

    new_away : (q : Path) → IsNew (damaged_at w.cache w.agent) e q → IsNew (damaged_at w.cache w.agent) d q
    new_away q new = (new.0, free_away new.0 new.1, new.2)

    touched_changed : (t : Task) (q : Path) → Contains tasks t → Touched w e t.digest q → Changed q
    touched_changed t q has (inl new) = inl (new_tmp q new)
    touched_changed t q has (inr (inl new)) = inr (inl (new_away q new))
    touched_changed t q has (inr (inr b)) = inr (inr (t, has, b))

    touched_apart : (t other : Task) (q : Path) → Contains tasks t → Contains tasks other → t.digest ≢ other.digest → Begins (entry other.digest) q → Touched w e t.digest q → ⊥
    touched_apart t other q has has_other differ b (inl new) = tmp_entry new.0 other.digest q new.2 b
    touched_apart t other q has has_other differ b (inr (inl new)) = away_entry new.0 other.digest q new.2 b
    touched_apart t other q has has_other differ b (inr (inr c)) = entries_apart t other q has has_other differ c b

    module _ (h : Disk) where
      pub left_same : (digest : List ℕ) → Same (under (entry digest) e) (under (entry digest) h) → IsLeft w tasks digest d e → IsLeft w tasks digest d h
      left_same digest same (inl was) = inl (same_then (under (entry digest) d) (under (entry digest) e) (under (entry digest) h) was same)
      left_same digest same (inr (place, t, at, is, inl aside)) =
          let here : Same (under (entry t.digest) e) (under (entry t.digest) h) = subst (λ x. Same (under (entry x) e) (under (entry x) h)) (sym is) same in
          inr (place, t, at, is, inl (record { room = aside.room; harm = aside.harm; was = aside.was; now = λ r. here r ∙ aside.now r }))
      left_same digest same (inr (place, t, at, is, inr whole)) =
          let here : Same (under (entry t.digest) e) (under (entry t.digest) h) = subst (λ x. Same (under (entry x) e) (under (entry x) h)) (sym is) same in
          inr (place, t, at, is, inr (record { room = whole.room; mark = whole.mark; built = whole.built; is = whole.is; now = λ r. here r ∙ whole.now r }))

      module _ (t : Task) (has : Contains tasks t) (only : Else (Touched w e t.digest) e h) where
        pub other_same : (other : Task) → Contains tasks other → t.digest ≢ other.digest → Same (under (entry other.digest) e) (under (entry other.digest) h)
        other_same other has_other differ r = only (entry other.digest ++ r) (touched_apart t other (entry other.digest ++ r) has has_other differ (r, refl))

        -- one call more
        pub kept_more : IsLeft w tasks t.digest d h → IsKeptSince w tasks d h
        kept_more left = record {
          entries = λ other has_other. elim (cases_digest t.digest other.digest) [
            | inl same ↦ subst (λ x. IsLeft w tasks x d h) same left
            | inr differ ↦ left_same other.digest (other_same other has_other differ) (kept.entries other has_other)
          ];
          others = λ q none. only q (λ touched. none (touched_changed t q has touched)) ∙ kept.others q none;
        }

        own_apart : (n m : ℕ) (r s : Path) → Stands e (away n) → Same bare (under (away m) e) → away n ++ r ≡ away m ++ s → ⊥
        own_apart n m r s stands free is = place_apart w.cache (codes "damaged") (agent_name w.agent n) (codes "damaged") (agent_name w.agent m) r s
            (λ f same. none_some (e (away n ++ stands.0)) (ap (λ name. e (place w.cache (codes "damaged") name ++ stands.0)) same ∙ free stands.0) stands.1) is

        away_apart : (n : ℕ) (r : Path) → Stands e (away n) → Touched w e t.digest (away n ++ r) → ⊥
        away_apart n r stands (inl new) = place_apart w.cache (codes "damaged") (agent_name w.agent n) (codes "tmp") (agent_name w.agent new.0) r new.2.0 (λ f m. damaged_not_tmp f) new.2.1
        away_apart n r stands (inr (inl new)) = own_apart n new.0 r new.2.0 stands new.1 new.2.1
        away_apart n r stands (inr (inr b)) = away_entry n t.digest (away n ++ r) (r, refl) b

        -- what was set aside stays where it is
        away_same : (n : ℕ) → Stands e (away n) → Same (under (away n) e) (under (away n) h)
        away_same n stands r = only (away n ++ r) (away_apart n r stands)

        -- what stood at an entry that is as it was, or where nothing stood just now
        pub hand_more : (digest : List ℕ) → Same (under (entry digest) e) (under (entry digest) h) ⊎ Same bare (under (entry digest) e) → IsAtHand w digest d e → IsAtHand w digest d h
        hand_more digest (inl same) (inl was) = inl (same_then (under (entry digest) d) (under (entry digest) e) (under (entry digest) h) was same)
        hand_more digest (inr free) (inl was) = inr (inl (λ r. sym (was r) ∙ free r))
        hand_more digest any (inr (inl none)) = inr (inl none)
        hand_more digest any (inr (inr (n, free, stands, moved))) = inr (inr (n, free, stands, same_then (under (entry digest) d) (under (away n) e) (under (away n) h) moved (away_same n (stands_now (entry digest) (away n) d e moved stands))))

        pub all_kept : ((other : Task) → Contains tasks other → IsAtHand w other.digest d e) → IsLeft w tasks t.digest d h → IsAtHand w t.digest d h → IsAllKept w tasks d h
        all_kept hand left own = record {
          since = kept_more left;
          hand = λ other has_other. elim (cases_digest t.digest other.digest) [
            | inl same ↦ subst (λ x. IsAtHand w x d h) same own
            | inr differ ↦ hand_more other.digest (inl (other_same other has_other differ)) (hand other has_other)
          ];
        }

        -- and what an item leaves to the others
        pub since_more : (s : Disk) → Same (under (tmp_of w.cache) e) (under (tmp_of w.cache) h) → Since w tasks t s e → Since w tasks t s h
        since_more s tmp_same since = record {
          others = λ other has_other differ. same_then (under (entry other.digest) s) (under (entry other.digest) e) (under (entry other.digest) h) (since.others other has_other differ) (other_same other has_other differ);
          tmp = same_then (under (tmp_of w.cache) s) (under (tmp_of w.cache) e) (under (tmp_of w.cache) h) since.tmp tmp_same;
        }
