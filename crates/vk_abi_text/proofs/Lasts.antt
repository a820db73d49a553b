-- The last of a list, by its key.
use Rattle.std.proofs.Common.{◌≡◌, ◌<◌, ◌≤◌, ◌+◌, ◌-◌, ◌&&◌, ◌++◌, ◌∷◌, ℕ, Bool, true, false, Decides, List, [], get_or, length, length-append, map, take, refl, ap, sym, ◌∙◌, subst, arith}
use Rattle.std.specs.List.{Contains}
use Rattle.std.specs.Str.{bytes_eq}
use Rattle.std.proofs.lemmas.List.{map-append, take_all, take_more}
use Rattle.std.proofs.lemmas.Slice.Eq.{bytes_eq-Decides}
use Rattle.vk_spec.specs.Settings.{Instance}
use Rattle.vk_base.proofs.PathLemmas.{both}
use Rattle.vk_resolution.proofs.Members.{and_true, contains_single}
use Rattle.std.proofs.Common.{inl, inr}
use Rattle.vk_abi_text.specs.Adding.{TellsLast}
use Rattle.vk_abi_text.proofs.Gathers.{last_split}
use Rattle.vk_abi_text.proofs.LineParts.{instance_is}
use Rattle.vk_abi_text.proofs.Selections.{in_either}

at_end : {X : Type 0} (before : List X) (x d : X) → get_or (before ++ x ∷ []) (length before) d ≡ x
at_end [] x d = refl
at_end (b ∷ before) x d = at_end before x d

pushed_same : {X : Type 0} (xs ys : List X) (x y : X) → xs ++ x ∷ [] ≡ ys ++ y ∷ [] → x ≡ y
pushed_same xs ys x y e =
    let same : length xs ≡ length ys = omega (arith, ap length e, length-append xs (x ∷ []), length-append ys (y ∷ [])) in
    sym (at_end xs x y) ∙ ap (λ l. get_or l (length xs) y) e ∙ ap (λ n. get_or (ys ++ y ∷ []) n y) same ∙ at_end ys y y

module _ {A X K : Type 0} (view : A → X) (key : X → K) (xs : List A) (item : A) (k : K) where
  last_view : 0 < length xs → item ≡ get_or xs (length xs - 1) item → (before : List X) × (map view xs ≡ before ++ view item ∷ [])
  last_view some is =
      let s = last_split xs some in
      let count : length xs - 1 ≡ length s.0 = omega (arith, ap length s.2, length-append s.0 (s.1 ∷ [])) in
      let same : item ≡ s.1 = is ∙ ap (λ n. get_or xs n item) count ∙ ap (λ l. get_or l (length s.0) item) s.2 ∙ at_end s.0 s.1 item in
      (map view s.0, ap (map view) s.2 ∙ map-append view s.0 (s.1 ∷ []) ∙ ap (λ y. map view s.0 ++ view y ∷ []) (sym same))

  tells : (test : Bool) → 0 < length xs → item ≡ get_or xs (length xs - 1) item → Decides test (key (view item) ≡ k) → TellsLast key (map view xs) k test
  tells true some is decides = λ other. let s = last_view some is in other s.0 (view item) s.1 (decides.0 refl)
  tells false some is decides = λ before x e same.
      let s = last_view some is in
      let whole : key (view item) ≡ k = ap key (pushed_same s.0 before (view item) x (sym s.1 ∙ e)) ∙ same in
      let clash : false ≡ true = decides.1 whole in (cc)

  pub tells_last : (test tested : Bool) → test ≡ tested → 0 < length xs → item ≡ get_or xs (length xs - 1) item → Decides tested (key (view item) ≡ k) → TellsLast key (map view xs) k test
  tells_last test tested same some is decides = tells test some is (subst (λ b. Decides b (key (view item) ≡ k)) (sym same) decides)

pub nothing_last : {A X K : Type 0} (view : A → X) (key : X → K) (xs : List A) (k : K) → length xs < 1 → TellsLast key (map view xs) k false
nothing_last view key [] k none before x e = absurd (no_end before x e)
  where
    no_end : {X : Type 0} (before : List X) (x : X) → [] ≡ before ++ x ∷ [] → ⊥
    no_end [] x e = (cc)
    no_end (b ∷ before) x e = (cc)
nothing_last view key (y ∷ xs) k none before x e = absurd (omega (arith, none))

pub instance_decides : (i j : Instance) → Decides (bytes_eq i.port j.port && bytes_eq i.triplet j.triplet) (i ≡ j)
instance_decides i j = (
  (λ e. let each = both (bytes_eq i.port j.port) (bytes_eq i.triplet j.triplet) e in instance_is i j ((bytes_eq-Decides i.port j.port).0 each.0) ((bytes_eq-Decides i.triplet j.triplet).0 each.1)),
  (λ e. and_true (bytes_eq i.port j.port) (bytes_eq i.triplet j.triplet) ((bytes_eq-Decides i.port j.port).1 (ap (λ x. x.port) e)) ((bytes_eq-Decides i.triplet j.triplet).1 (ap (λ x. x.triplet) e))),
)

-- ---- none so far

module _ {A X : Type 0} (view : A → X) (xs : List A) (n : ℕ) (k : X) where
  pub none_more : (item : A) → n < length xs → item ≡ get_or xs n item → (Contains (map view (take n xs)) k → ⊥) → (view item ≡ k → ⊥) → Contains (map view (take (n + 1) xs)) k → ⊥
  none_more item within is none other h =
      let longer : map view (take (n + 1) xs) ≡ map view (take n xs) ++ view item ∷ [] = ap (map view) (take_more xs n item within ∙ ap (λ y. take n xs ++ y ∷ []) (sym is)) ∙ map-append view (take n xs) (item ∷ []) in
      elim (in_either (map view (take n xs)) (view item ∷ []) k (subst (λ l. Contains l k) longer h)) [
        | inl old ↦ none old
        | inr new ↦ other (contains_single (view item) k new)
      ]

  pub none_all : length xs ≤ n → (Contains (map view (take n xs)) k → ⊥) → Contains (map view xs) k → ⊥
  none_all ends none h = none (subst (λ l. Contains (map view l) k) (sym (take_all n xs ends)) h)
