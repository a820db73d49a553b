-- Which of two paths begins the other, as a test.
use Rattle.std.proofs.Common.{◌≡◌, ◌&&◌, ◌||◌, Bool, true, false, List, [], ◌∷◌, ◌++◌, bytes_eq, refl, ap, sym, ◌∙◌}
use Rattle.std.specs.List.{list_any}
use Rattle.std.proofs.lemmas.Slice.Eq.{bytes_eq-Decides}
use Rattle.vk_spec.specs.Paths.{Path, Begins}
use Rattle.vk_recipe.specs.Builds.{begins, overlap}

both : (a b : Bool) → (a && b) ≡ true → (a ≡ true) × (b ≡ true)
both true b e = (refl, e)
both false b e = (cc)

-- the test holds where the path begins the other
pub begins_if : (p q : Path) → Begins p q → begins p q ≡ true
begins_if [] q begun = refl
begins_if (part ∷ p) [] begun = let clash : [] ≡ part ∷ (p ++ begun.0) = begun.1 in (cc)
begins_if (part ∷ p) (first ∷ q) begun =
    let split : first ∷ q ≡ part ∷ (p ++ begun.0) = begun.1 in
    let same : part ≡ first = (cc) in
    let later : q ≡ p ++ begun.0 = (cc) in
    rw ((bytes_eq-Decides part first).1 same) (begins_if p q (begun.0, later))

pub begins_then : (p q : Path) → begins p q ≡ true → Begins p q
begins_then [] q is = (q, refl)
begins_then (part ∷ p) [] is = (cc)
begins_then (part ∷ p) (first ∷ q) is =
    let each = both (bytes_eq part first) (begins p q) is in
    let same : part ≡ first = (bytes_eq-Decides part first).0 each.0 in
    let rest = begins_then p q each.1 in
    (rest.0, ap (λ l. first ∷ l) rest.1 ∙ ap (λ x. x ∷ (p ++ rest.0)) (sym same))

either : (a b c d : Bool) → ((a || b) || (c || d)) ≡ ((a || c) || (b || d))
either true b c d = refl
either false true true d = refl
either false true false d = refl
either false false c d = refl

-- a path overlaps one of some where it begins one or one begins it
pub overlap_any : (p : Path) (paths : List Path) → list_any (overlap p) paths ≡ (list_any (begins p) paths || list_any (λ q. begins q p) paths)
overlap_any p [] = refl
overlap_any p (q ∷ paths) =
    ap (λ b. (begins p q || begins q p) || b) (overlap_any p paths)
    ∙ either (begins p q) (begins q p) (list_any (begins p) paths) (list_any (λ r. begins r p) paths)
