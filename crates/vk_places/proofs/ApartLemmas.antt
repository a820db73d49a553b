-- Places in a cache that are apart, and what stands above them.
use Rattle.std.proofs.Common.{◌≡◌, ◌⊎◌, inl, inr, ◌++◌, [], ◌∷◌, ℕ, List, length, take, get_or, refl, ap, sym, ◌∙◌, length-append, append_assoc, arith}
use Rattle.std.specs.Prelude.{codes, None}
use Rattle.std.proofs.Math.Seq.{take-append_seam}
use Rattle.std.proofs.lemmas.List.{append_cancel_left, append-nil}
use Rattle.vk_spec.specs.Paths.{Path}
use Rattle.vk_spec.specs.Standing.{Disk}
use Rattle.vk_spec.specs.Calls.{IsBareAbove}
use Rattle.vk_places.specs.Places.{place, four_digits, agent_name, entry_at, tmp_at, damaged_at}

-- ---- two places

pub place_apart : (cache : Path) (folder name other_folder other : List ℕ) (r s : Path) → (folder ≡ other_folder → name ≡ other → ⊥) → place cache folder name ++ r ≡ place cache other_folder other ++ s → ⊥
place_apart cache folder name other_folder other r s differ e =
    let whole : folder ∷ name ∷ r ≡ other_folder ∷ other ∷ s = append_cancel_left cache (folder ∷ name ∷ r) (other_folder ∷ other ∷ s) (sym (append_assoc cache (folder ∷ name ∷ []) r) ∙ e ∙ append_assoc cache (other_folder ∷ other ∷ []) s) in
    let folders : folder ≡ other_folder = (cc) in
    let names : name ≡ other = (cc) in
    differ folders names

tmp_not_entries : codes "tmp" ≡ codes "abi2" → ⊥
tmp_not_entries e = let h : 116 ≡ 97 = ap (λ l. get_or l 0 0) e in absurd (omega (arith, h))

damaged_not_entries : codes "damaged" ≡ codes "abi2" → ⊥
damaged_not_entries e = let h : 100 ≡ 97 = ap (λ l. get_or l 0 0) e in absurd (omega (arith, h))

pub tmp_apart_name : (cache : Path) (agent name : List ℕ) (n : ℕ) (q r s : Path) → q ≡ tmp_at cache agent n ++ r → q ≡ place cache (codes "abi2") name ++ s → ⊥
tmp_apart_name cache agent name n q r s one other = place_apart cache (codes "tmp") (agent_name agent n) (codes "abi2") name r s (λ f m. tmp_not_entries f) (sym one ∙ other)

pub tmp_apart : (cache : Path) (agent digest : List ℕ) (n : ℕ) (q r s : Path) → q ≡ tmp_at cache agent n ++ r → q ≡ entry_at cache digest ++ s → ⊥
tmp_apart cache agent digest n q r s one other = tmp_apart_name cache agent _ n q r s one other

pub damaged_apart : (cache : Path) (agent digest : List ℕ) (n : ℕ) (q r s : Path) → q ≡ damaged_at cache agent n ++ r → q ≡ entry_at cache digest ++ s → ⊥
damaged_apart cache agent digest n q r s one other = place_apart cache (codes "damaged") (agent_name agent n) (codes "abi2") _ r s (λ f m. damaged_not_entries f) (sym one ∙ other)

-- a name in a folder of the cache, as the folder has it
pub deeper : (cache : Path) (folder name : List ℕ) (r : Path) → place cache folder name ++ r ≡ (cache ++ folder ∷ []) ++ name ∷ r
deeper cache folder name r = append_assoc cache (folder ∷ name ∷ []) r ∙ sym (append_assoc cache (folder ∷ []) (name ∷ r))

-- ---- the names of two agents

front_same : (a b c d : List ℕ) → length a ≡ length c → a ++ b ≡ c ++ d → a ≡ c
front_same a b c d len e = sym (take-append_seam a b) ∙ ap (take (length a)) e ∙ ap (λ k. take k (c ++ d)) len ∙ take-append_seam c d

pub same_agent : (one other : List ℕ) (n m : ℕ) → agent_name one n ≡ agent_name other m → one ≡ other
same_agent one other n m e =
    let whole : length (agent_name one n) ≡ length (agent_name other m) = ap length e in
    let len : length one ≡ length other = omega (arith, whole, length-append one (codes "-" ++ four_digits n), length-append other (codes "-" ++ four_digits m)) in
    front_same one (codes "-" ++ four_digits n) other (codes "-" ++ four_digits m) len e

-- ---- above a place

-- a longer path is cut before the seam of two, or behind it
pub cut_at : (a p q : Path) (part : List ℕ) (rest : Path) → a ++ p ≡ q ++ part ∷ rest → ((n : List ℕ) × (more : Path) × (a ≡ q ++ n ∷ more)) ⊎ ((r : Path) × (q ≡ a ++ r) × (p ≡ r ++ part ∷ rest))
cut_at [] p q part rest e = inr (q, refl, e)
cut_at (x ∷ a) p [] part rest e = inl (x, a, refl)
cut_at (x ∷ a) p (y ∷ q) part rest e =
    let heads : x ≡ y = (cc) in
    let tails : a ++ p ≡ q ++ part ∷ rest = (cc) in
    elim (cut_at a p q part rest tails) [
      | inl c ↦ inl (c.0, c.1, λ i. heads i ∷ c.2 i)
      | inr c ↦ inr (c.0, (λ i. sym heads i ∷ c.1 i), c.2)
    ]

behind_cache : (cache : Path) (folder name : List ℕ) (d : Disk) (q r : Path) (part : List ℕ) (rest : Path) → d cache ≡ None → d (cache ++ folder ∷ []) ≡ None → q ≡ cache ++ r → folder ∷ name ∷ [] ≡ r ++ part ∷ rest → d q ≡ None
behind_cache cache folder name d q [] part rest here below at is = ap d (at ∙ append-nil cache) ∙ here
behind_cache cache folder name d q (x ∷ []) part rest here below at is = (let first : x ≡ folder = (cc) in ap d (at ∙ ap (λ y. cache ++ y ∷ []) first) ∙ below)
behind_cache cache folder name d q (x ∷ y ∷ r) part rest here below at is = absurd (omega (arith, ap length is, length-append r (part ∷ rest)))

-- where no file stands at the cache or above it, nor at the folder, none stands above a name in it
pub bare_above : (cache : Path) (folder name : List ℕ) (d : Disk) → ((front rest : Path) → cache ≡ front ++ rest → d front ≡ None) → d (cache ++ folder ∷ []) ≡ None → IsBareAbove d (place cache folder name)
bare_above cache folder name d above below q part rest is = elim (cut_at cache (folder ∷ name ∷ []) q part rest is) [
  | inl c ↦ above q (c.0 ∷ c.1) c.2
  | inr c ↦ behind_cache cache folder name d q c.0 part rest (above cache [] (sym (append-nil cache))) below c.1 c.2
]
