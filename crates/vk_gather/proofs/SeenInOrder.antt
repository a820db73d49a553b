-- Paths as they are seen from a folder, in the order of their texts.
use Rattle.std.proofs.Common.{◌≡◌, ◌⊎◌, inl, inr, List, [], ◌∷◌, ◌++◌, length, drop, true, false, refl, ap, sym, ◌∙◌, subst}
use Rattle.std.proofs.lemmas.Slice.Eq.{bytes_eq-Decides, starts_is}
use Rattle.std.specs.Prelude.{Bool, if◌then◌else◌}
use Rattle.std.specs.List.{Contains}
use Rattle.std.specs.declared.cmp.Ordering.{Ordering}
use Rattle.std.specs.declared.cmp.Ordering.TheVariants.{Less, Equal, Greater}
use Rattle.std.specs.Ordering.{ordering_reverse}
use Rattle.vk_spec.specs.Lists.{NoRepeats}
use Rattle.vk_spec.specs.Paths.{Path}
use Rattle.vk_spec.proofs.ListLemmas.{contains_nothing, contains_first, contains_later, contains_cases}
use Rattle.vk_base.specs.Paths.{begins, text_of_path}
use Rattle.vk_base.proofs.PathLemmas.{no_begin}
use Rattle.vk_tree.proofs.PlaceLemmas.{part_total, cancel}
use Rattle.vk_walk.specs.Walks.{text_order}
use Rattle.vk_gather.specs.Gathers.{by_order, put_seen, seen_in}

-- each text before the later ones
abbrev pub Ascend : List Path → Type 0
Ascend [] = Unit {0}
Ascend (p ∷ ps) = ((q : Path) → Contains ps q → text_order p q ≡ Less) × Ascend ps

-- ---- one path among others

order_case : {X : Type 0} (Q : X → Type 0) (o : Ordering) (x y z : X) → (o ≡ Less → Q x) → (o ≡ Equal → Q y) → (o ≡ Greater → Q z) → Q (by_order o x y z)
order_case Q Less x y z less equal greater = less refl
order_case Q Equal x y z less equal greater = equal refl
order_case Q Greater x y z less equal greater = greater refl

turned : (p q : Path) → text_order p q ≡ Greater → text_order q p ≡ Less
turned p q e = part_total.antisymm (text_of_path q) (text_of_path p) ∙ ap ordering_reverse e

texts_apart : (p : Path) → text_order p p ≡ Less → ⊥
texts_apart p e =
    let other : text_order p p ≡ Greater = part_total.antisymm (text_of_path p) (text_of_path p) ∙ ap ordering_reverse e in
    let clash : Less ≡ Greater = sym e ∙ other in (cc)

put_from : (p : Path) (qs : List Path) (q : Path) → Contains (put_seen p qs) q → (p ≡ q) ⊎ Contains qs q
put_from p [] q at = contains_cases p q [] at
put_from p (r ∷ qs) q at =
    order_case (λ l. Contains l q → (p ≡ q) ⊎ Contains (r ∷ qs) q) (text_order p r) (p ∷ r ∷ qs) (r ∷ qs) (r ∷ put_seen p qs)
    (λ e at. contains_cases p q (r ∷ qs) at)
    (λ e at. inr at)
    (λ e at. elim (contains_cases r q (put_seen p qs) at) [
      | inl same ↦ inr (subst (Contains (r ∷ qs)) same (contains_first r qs))
      | inr later ↦ elim (put_from p qs q later) [ inl own ↦ inl own | inr old ↦ inr (contains_later r q qs old) ]
    ]) at

put_keeps : (p : Path) (qs : List Path) (q : Path) → Contains qs q → Contains (put_seen p qs) q
put_keeps p [] q at = contains_later p q [] at
put_keeps p (r ∷ qs) q at =
    order_case (λ l. Contains l q) (text_order p r) (p ∷ r ∷ qs) (r ∷ qs) (r ∷ put_seen p qs)
    (λ e. contains_later p q (r ∷ qs) at)
    (λ e. at)
    (λ e. elim (contains_cases r q qs at) [
      | inl same ↦ subst (Contains (r ∷ put_seen p qs)) same (contains_first r (put_seen p qs))
      | inr later ↦ contains_later r q (put_seen p qs) (put_keeps p qs q later)
    ])

put_there : (p : Path) (qs : List Path) → ((q : Path) → Contains qs q → text_order p q ≡ Equal → p ≡ q) → Contains (put_seen p qs) p
put_there p [] one = contains_first p []
put_there p (r ∷ qs) one =
    order_case (λ l. Contains l p) (text_order p r) (p ∷ r ∷ qs) (r ∷ qs) (r ∷ put_seen p qs)
    (λ e. contains_first p (r ∷ qs))
    (λ e. subst (Contains (r ∷ qs)) (sym (one r (contains_first r qs) e)) (contains_first r qs))
    (λ e. contains_later r p (put_seen p qs) (put_there p qs (λ q at. one q (contains_later r q qs at))))

before_all : (p r : Path) (qs : List Path) → text_order p r ≡ Less → Ascend (r ∷ qs) → (q : Path) → Contains (r ∷ qs) q → text_order p q ≡ Less
before_all p r qs less order q at = elim (contains_cases r q qs at) [
  | inl same ↦ subst (λ x. text_order p x ≡ Less) same less
  | inr later ↦ part_total.trans (text_of_path p) (text_of_path r) (text_of_path q) less (order.0 q later)
]

put_ascends : (p : Path) (qs : List Path) → Ascend qs → Ascend (put_seen p qs)
put_ascends p [] order = ((λ q at. absurd (contains_nothing q at)), tt)
put_ascends p (r ∷ qs) order =
    order_case Ascend (text_order p r) (p ∷ r ∷ qs) (r ∷ qs) (r ∷ put_seen p qs)
    (λ e. (before_all p r qs e order, order))
    (λ e. order)
    (λ e. (
      (λ q at. elim (put_from p qs q at) [
        | inl own ↦ subst (λ x. text_order r x ≡ Less) own (turned p r e)
        | inr old ↦ order.0 q old
      ]),
      put_ascends p qs order.1,
    ))

-- none stands twice
pub ascend_once : (ps : List Path) → Ascend ps → NoRepeats ps
ascend_once [] order = tt
ascend_once (p ∷ ps) order = ((λ at. texts_apart p (order.0 p at)), ascend_once ps order.1)

-- ---- the paths that a folder begins

abbrev seen_of : Path → Path → Path
seen_of folder p = (46 ∷ []) ∷ drop (length folder) p

if_case : {X : Type 0} (Q : X → Type 0) (b : Bool) (x y : X) → (b ≡ true → Q x) → (b ≡ false → Q y) → Q (if b then x else y)
if_case Q true x y then_it else_it = then_it refl
if_case Q false x y then_it else_it = else_it refl

begun : (folder path : Path) → begins folder path ≡ true → path ≡ folder ++ drop (length folder) path
begun folder path e = (starts_is bytes_eq-Decides path folder (begins folder path) refl).0 e

pub seen_ascends : (folder : Path) (ps : List Path) → Ascend (seen_in folder ps)
seen_ascends folder [] = tt
seen_ascends folder (p ∷ ps) =
    if_case Ascend (begins folder p) (put_seen (seen_of folder p) (seen_in folder ps)) (seen_in folder ps)
    (λ e. put_ascends (seen_of folder p) (seen_in folder ps) (seen_ascends folder ps))
    (λ e. seen_ascends folder ps)

-- each is seen of a path
pub seen_from : (folder : Path) (ps : List Path) (q : Path) → Contains (seen_in folder ps) q → (rest : Path) × Contains ps (folder ++ rest) × (q ≡ (46 ∷ []) ∷ rest)
seen_from folder [] q at = absurd (contains_nothing q at)
seen_from folder (p ∷ ps) q at =
    if_case (λ l. Contains l q → (rest : Path) × Contains (p ∷ ps) (folder ++ rest) × (q ≡ (46 ∷ []) ∷ rest)) (begins folder p) (put_seen (seen_of folder p) (seen_in folder ps)) (seen_in folder ps)
    (λ e at. elim (put_from (seen_of folder p) (seen_in folder ps) q at) [
      | inl own ↦ (drop (length folder) p, subst (Contains (p ∷ ps)) (begun folder p e) (contains_first p ps), sym own)
      | inr old ↦ (let r = seen_from folder ps q old in (r.0, contains_later p (folder ++ r.0) ps r.1, r.2))
    ])
    (λ e at. let r = seen_from folder ps q at in (r.0, contains_later p (folder ++ r.0) ps r.1, r.2)) at

-- of paths that the folder begins, no two have one text
abbrev pub TextsTell : Path → List Path → Type 0
TextsTell folder ps = (a b : Path) → Contains ps (folder ++ a) → Contains ps (folder ++ b) → text_order ((46 ∷ []) ∷ a) ((46 ∷ []) ∷ b) ≡ Equal → a ≡ b

tells_later : (folder p : Path) (ps : List Path) → TextsTell folder (p ∷ ps) → TextsTell folder ps
tells_later folder p ps one a b at_a at_b e = one a b (contains_later p (folder ++ a) ps at_a) (contains_later p (folder ++ b) ps at_b) e

-- then each is seen
pub seen_all : (folder : Path) (ps : List Path) (rest : Path) → TextsTell folder ps → Contains ps (folder ++ rest) → Contains (seen_in folder ps) ((46 ∷ []) ∷ rest)
seen_all folder [] rest one at = absurd (contains_nothing (folder ++ rest) at)
seen_all folder (p ∷ ps) rest one at =
    if_case (λ l. Contains l ((46 ∷ []) ∷ rest)) (begins folder p) (put_seen (seen_of folder p) (seen_in folder ps)) (seen_in folder ps)
    (λ e. elim (contains_cases p (folder ++ rest) ps at) [
      | inl same ↦ (
          let tail : drop (length folder) p ≡ rest = cancel folder (drop (length folder) p) rest (sym (begun folder p e) ∙ same) in
          subst (λ r. Contains (put_seen (seen_of folder p) (seen_in folder ps)) ((46 ∷ []) ∷ r)) tail
          (put_there (seen_of folder p) (seen_in folder ps) (λ q there tied.
          let r = seen_from folder ps q there in
          let one_rest : drop (length folder) p ≡ r.0 = one (drop (length folder) p) r.0 (subst (Contains (p ∷ ps)) (begun folder p e) (contains_first p ps)) (contains_later p (folder ++ r.0) ps r.1)
          (subst (λ x. text_order (seen_of folder p) x ≡ Equal) r.2 tied) in
          ap (λ l. (46 ∷ []) ∷ l) one_rest ∙ sym r.2)))
      | inr later ↦ put_keeps (seen_of folder p) (seen_in folder ps) ((46 ∷ []) ∷ rest) (seen_all folder ps rest (tells_later folder p ps one) later)
    ])
    (λ e. elim (contains_cases p (folder ++ rest) ps at) [
      | inl same ↦ absurd (no_begin folder p e (rest, same))
      | inr later ↦ seen_all folder ps rest (tells_later folder p ps one) later
    ])
