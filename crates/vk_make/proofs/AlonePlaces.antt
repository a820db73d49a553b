-- Places of a cache that are apart, and what stands there before and after.
use Rattle.std.proofs.Common.{◌≡◌, ◌≢◌, ◌⊎◌, inl, inr, ◌++◌, [], ◌∷◌, ◌||◌, ℕ, List, Bool, true, false, length, get_or, length-append, refl, ap, sym, ◌∙◌, subst, arith}
use Rattle.std.specs.Prelude.{IsSome, codes}
use Rattle.std.specs.Str.{bytes_eq}
use Rattle.hex.specs.Hex.{encode_lower}
use Rattle.vk_spec.specs.Paths.{Path, Begins}
use Rattle.vk_spec.specs.Standing.{Disk, bare, under, Same, Else, Stands}
use Rattle.vk_places.specs.Places.{place, agent_name, entry_at, tmp_of, tmp_at, damaged_at}
use Rattle.vk_places.proofs.ApartLemmas.{place_apart, deeper}
use Rattle.vk_look.proofs.PlaceTests.{same_bytes, other_bytes}
use Rattle.vk_publish.proofs.NewNames.{is_some}

-- ---- paths and digests

pub cases_digest : (a b : List ℕ) → (a ≡ b) ⊎ (a ≢ b)
cases_digest a b = elim (bytes_eq a b) as (λ o. bytes_eq a b ≡ o → (a ≡ b) ⊎ (a ≢ b)) [
  | true ↦ λ e. inl (same_bytes a b e)
  | false ↦ λ e. inr (other_bytes a b e)
] refl

pub neither : (a b : Bool) → a || b ≡ false → (a ≡ false) × (b ≡ false)
neither true b e = (cc)
neither false b e = (refl, e)

entries_not_tmp : codes "abi2" ≡ codes "tmp" → ⊥
entries_not_tmp e = let h : 97 ≡ 116 = ap (λ l. get_or l 0 0) e in absurd (omega (arith, h))

pub damaged_not_tmp : codes "damaged" ≡ codes "tmp" → ⊥
damaged_not_tmp e = let h : 100 ≡ 116 = ap (λ l. get_or l 0 0) e in absurd (omega (arith, h))

-- two paths that begin one have it that one begins the other
pub meet : (a b c d : Path) → a ++ b ≡ c ++ d → Begins a c ⊎ Begins c a
meet [] b c d e = inl (c, refl)
meet (x ∷ a) b [] d e = inr (x ∷ a, refl)
meet (x ∷ a) b (y ∷ c) d e =
    let heads : x ≡ y = (cc) in
    let tails : a ++ b ≡ c ++ d = (cc) in
    elim (meet a b c d tails) [
      | inl m ↦ inl (m.0, λ i. sym heads i ∷ m.1 i)
      | inr m ↦ inr (m.0, λ i. heads i ∷ m.1 i)
    ]

-- where all that such a test passes may differ
pub else_more : (P Q : Path → Type 0) (d e : Disk) → ((q : Path) → P q → Q q) → Else P d e → Else Q d e
else_more P Q d e more only q other = only q (λ p. other (more q p))

pub same_then : (d e h : Disk) → Same d e → Same e h → Same d h
same_then d e h one two p = two p ∙ one p

pub stands_now : (p q : Path) (d e : Disk) → Same (under p d) (under q e) → Stands d p → Stands e q
stands_now p q d e same s = (s.0, subst (λ o. IsSome o) (sym (same s.0)) s.1)

pub bare_where : (d : Disk) (p : Path) → (Stands d p → ⊥) → Same bare (under p d)
bare_where d p none r = elim (is_some (d (p ++ r))) [
  | inl free ↦ free
  | inr some ↦ absurd (none (r, some))
]

-- ---- what is being made

module _ (cache : Path) (agent digest : List ℕ) (n : ℕ) (e h : Disk) where
  tmp_long : (folder name : List ℕ) → Begins (place cache folder name) (tmp_of cache ++ []) → ⊥
  tmp_long folder name b = omega (arith, ap length b.1, length-append (place cache folder name) b.0, length-append cache (folder ∷ name ∷ []), length-append (tmp_of cache) [], length-append cache (codes "tmp" ∷ []))

  tmp_differs : (folder name other : List ℕ) (r : Path) → (folder ≡ codes "tmp" → name ≡ other → ⊥) → Begins (place cache folder name) (tmp_of cache ++ other ∷ r) → ⊥
  tmp_differs folder name other r differ b = place_apart cache folder name (codes "tmp") other b.0 r differ (sym b.1 ∙ sym (deeper cache (codes "tmp") other r))

  tmp_apart_from : (folder name : List ℕ) (r : Path) → (folder ≡ codes "tmp" → ⊥) → Begins (place cache folder name) (tmp_of cache ++ r) → ⊥
  tmp_apart_from folder name [] differ b = tmp_long folder name b
  tmp_apart_from folder name (other ∷ r) differ b = tmp_differs folder name other r (λ f m. differ f) b

  -- what was made is gone from there
  pub tmp_published : Same bare (under (tmp_at cache agent n) e) → Same bare (under (tmp_at cache agent n) h) → Else (λ q. Begins (tmp_at cache agent n) q ⊎ Begins (entry_at cache digest) q) e h → Same (under (tmp_of cache) e) (under (tmp_of cache) h)
  tmp_published free gone only [] = only (tmp_of cache ++ []) (λ any. elim any [
    | inl b ↦ tmp_long (codes "tmp") (agent_name agent n) b
    | inr b ↦ tmp_apart_from (codes "abi2") (encode_lower digest) [] entries_not_tmp b
  ])
  tmp_published free gone only (name ∷ r) = elim (cases_digest (agent_name agent n) name) [
    | inl is ↦
        (let at : tmp_at cache agent n ++ r ≡ tmp_of cache ++ name ∷ r = deeper cache (codes "tmp") (agent_name agent n) r ∙ ap (λ x. tmp_of cache ++ x ∷ r) is in
        sym (ap h at) ∙ gone r ∙ sym (free r) ∙ ap e at)
    | inr differ ↦ only (tmp_of cache ++ name ∷ r) (λ any. elim any [
      | inl b ↦ tmp_differs (codes "tmp") (agent_name agent n) name r (λ f m. differ m) b
      | inr b ↦ tmp_apart_from (codes "abi2") (encode_lower digest) (name ∷ r) entries_not_tmp b
    ])
  ]

  pub tmp_aside : Else (λ q. Begins (entry_at cache digest) q ⊎ Begins (damaged_at cache agent n) q) e h → Same (under (tmp_of cache) e) (under (tmp_of cache) h)
  tmp_aside only r = only (tmp_of cache ++ r) (λ any. elim any [
    | inl b ↦ tmp_apart_from (codes "abi2") (encode_lower digest) r entries_not_tmp b
    | inr b ↦ tmp_apart_from (codes "damaged") (agent_name agent n) r damaged_not_tmp b
  ])
