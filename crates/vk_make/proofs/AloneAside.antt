-- How many entries were set aside, by the names that are new.
use Rattle.std.proofs.Common.{◌≡◌, ◌≢◌, ◌≤◌, ◌⊎◌, inl, inr, ◌++◌, [], ◌∷◌, ◌+◌, ℕ, List, length, get_or, refl, ap, sym, subst, arith}
use Rattle.std.specs.Prelude.{codes}
use Rattle.std.specs.List.{Contains}
use Rattle.hex.specs.Hex.{encode_lower}
use Rattle.vk_spec.specs.Paths.{Path, Begins}
use Rattle.vk_spec.specs.Lists.{NoRepeats}
use Rattle.vk_spec.specs.Standing.{Disk, bare, under, Same, Else, Stands}
use Rattle.vk_spec.proofs.FileLemmas.{none_some}
use Rattle.vk_spec.proofs.ListLemmas.{contains_nothing, contains_first, contains_later, contains_cases}
use Rattle.vk_walk.proofs.ShorterLemmas.{no_longer}
use Rattle.vk_places.specs.Places.{agent_name, entry_at, tmp_at, damaged_at}
use Rattle.vk_places.proofs.ApartLemmas.{place_apart}
use Rattle.vk_make.specs.Makes.{Work}
use Rattle.vk_make.specs.MakeIs.{aside_at, IsNewName, HasNewNames}
use Rattle.vk_make.proofs.AlonePlaces.{cases_digest, damaged_not_tmp, stands_now}

-- these names are new, and no others
pub record AreAside (w : Work) (count : ℕ) (d e : Disk) : Type 0 where
  pub names : List (List ℕ)
  pub once : NoRepeats names
  pub many : length names ≡ count
  pub new : (name : List ℕ) → Contains names name → IsNewName w d e name
  pub all : (name : List ℕ) → IsNewName w d e name → Contains names name

-- what stood among what was set aside still does
abbrev pub Stay : Work → Disk → Disk → Type 0
Stay w s e = (name : List ℕ) → Stands s (aside_at w name) → Stands e (aside_at w name)

not_both : (d : Disk) (p : Path) → Same bare (under p d) → Stands d p → ⊥
not_both d p free stands = none_some (d (p ++ stands.0)) (free stands.0) stands.1

damaged_not_entries : codes "damaged" ≡ codes "abi2" → ⊥
damaged_not_entries e = let h : 100 ≡ 97 = ap (λ l. get_or l 0 0) e in absurd (omega (arith, h))

too_few : (n m : ℕ) → n + 1 ≤ m → m ≡ n → ⊥
too_few n m long same = omega (arith, long, same)

module _ (w : Work) where
  pub aside_start : (d : Disk) → AreAside w 0 d d
  aside_start d = record { names = []; once = tt; many = refl; new = λ name has. absurd (contains_nothing name has); all = λ name is. absurd (not_both d (aside_at w name) is.0 is.1) }

  -- ---- a publishing leaves them, a setting aside brings one

  pub published_names : (digest : List ℕ) (n : ℕ) (e h : Disk) → Else (λ q. Begins (tmp_at w.cache w.agent n) q ⊎ Begins (entry_at w.cache digest) q) e h → (name : List ℕ) → Same (under (aside_at w name) e) (under (aside_at w name) h)
  published_names digest n e h only name r = only (aside_at w name ++ r) (λ any. elim any [
    | inl b ↦ place_apart w.cache (codes "damaged") name (codes "tmp") (agent_name w.agent n) r b.0 (λ f m. damaged_not_tmp f) b.1
    | inr b ↦ place_apart w.cache (codes "damaged") name (codes "abi2") (encode_lower digest) r b.0 (λ f m. damaged_not_entries f) b.1
  ])

  pub moved_names : (digest : List ℕ) (n : ℕ) (e h : Disk) → Else (λ q. Begins (entry_at w.cache digest) q ⊎ Begins (damaged_at w.cache w.agent n) q) e h → (name : List ℕ) → agent_name w.agent n ≢ name → Same (under (aside_at w name) e) (under (aside_at w name) h)
  moved_names digest n e h only name differ r = only (aside_at w name ++ r) (λ any. elim any [
    | inl b ↦ place_apart w.cache (codes "damaged") name (codes "abi2") (encode_lower digest) r b.0 (λ f m. damaged_not_entries f) b.1
    | inr b ↦ place_apart w.cache (codes "damaged") name (codes "damaged") (agent_name w.agent n) r b.0 (λ f m. differ (sym m)) b.1
  ])

  module _ (e h : Disk) where
    pub stay_same : ((name : List ℕ) → Same (under (aside_at w name) e) (under (aside_at w name) h)) → Stay w e h
    stay_same same name stands = stands_now (aside_at w name) (aside_at w name) e h (same name) stands

    back_same : (name : List ℕ) → Same (under (aside_at w name) e) (under (aside_at w name) h) → Stands h (aside_at w name) → Stands e (aside_at w name)
    back_same name same stands = stands_now (aside_at w name) (aside_at w name) h e (λ r. sym (same r)) stands

    pub aside_same : (count : ℕ) (d : Disk) → ((name : List ℕ) → Same (under (aside_at w name) e) (under (aside_at w name) h)) → AreAside w count d e → AreAside w count d h
    aside_same count d same are = record {
      names = are.names;
      once = are.once;
      many = are.many;
      new = λ name has. (let n = are.new name has in (n.0, stay_same same name n.1));
      all = λ name n. are.all name (n.0, back_same name (same name) n.1);
    }

    module _ (own : List ℕ) (free : Same bare (under (aside_at w own) e)) (others : (name : List ℕ) → own ≢ name → Same (under (aside_at w name) e) (under (aside_at w name) h)) where
      stood_other : (name : List ℕ) → Stands e (aside_at w name) → own ≢ name
      stood_other name stands same = not_both e (aside_at w name) (subst (λ x. Same bare (under (aside_at w x) e)) same free) stands

      pub stay_more : Stay w e h
      stay_more name stands = stands_now (aside_at w name) (aside_at w name) e h (others name (stood_other name stands)) stands

      pub aside_more : (count : ℕ) (d : Disk) → Same bare (under (aside_at w own) d) → Stands h (aside_at w own) → AreAside w count d e → AreAside w (count + 1) d h
      aside_more count d was stands are = record {
        names = own ∷ are.names;
        once = ((λ has. not_both e (aside_at w own) free (are.new own has).1), are.once);
        many = omega (arith, are.many);
        new = λ name has. elim (contains_cases own name are.names has) [
          | inl same ↦ subst (λ x. IsNewName w d h x) same (was, stands)
          | inr later ↦ (let n = are.new name later in (n.0, stay_more name n.1))
        ];
        all = λ name n. elim (cases_digest own name) [
          | inl same ↦ subst (λ x. Contains (own ∷ are.names) x) same (contains_first own are.names)
          | inr differ ↦ contains_later own name are.names (are.all name (n.0, back_same name (others name differ) n.1))
        ];
      }

  -- ---- what they say

  pub new_names : (count : ℕ) (d e : Disk) → AreAside w count d e → HasNewNames w count d e
  new_names count d e are = record { names = are.names; once = are.once; many = are.many; new = are.new }

  pub no_more : (count : ℕ) (d e : Disk) → AreAside w count d e → HasNewNames w (count + 1) d e → ⊥
  no_more count d e are has = too_few count (length are.names) (subst (λ n. n ≤ length are.names) has.many (no_longer has.names are.names has.once (λ name at. are.all name (has.new name at)))) are.many

  pub names_stay : (count : ℕ) (d e h : Disk) → Stay w e h → HasNewNames w count d e → HasNewNames w count d h
  names_stay count d e h stay has = record { names = has.names; once = has.once; many = has.many; new = λ name at. (let n = has.new name at in (n.0, stay name n.1)) }
