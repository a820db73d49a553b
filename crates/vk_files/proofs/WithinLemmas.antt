-- Which paths were looked at: none, one, and one after the other.
use Rattle.std.proofs.Common.{◌≡◌, ◌⊎◌, inl, inr, List, [], ◌∷◌, ◌++◌, refl, ap, sym, subst, ◌∙◌, arith}
use Rattle.std.specs.List.{Contains}
use Rattle.std.proofs.lemmas.List.{append-nil, append_assoc, map-append}
use Rattle.std.proofs.lemmas.List.Elements.{All-contains, All-from_recursion, Contains-append_cases}
use Rattle.vk_spec.specs.Lists.{IsWithin}
use Rattle.vk_spec.specs.Paths.{Path}
use Rattle.vk_files.specs.Kept.{Seen, Kept, paths_of}
use Rattle.vk_files.specs.Within.{LooksWithin}

none_in : {X : Type 0} (ys : List X) → IsWithin [] ys
none_in ys x has = let low = has.1 in absurd (omega (arith, low))

is_that : {X : Type 0} (x y : X) → Contains (x ∷ []) y → x ≡ y
is_that x y has = All-contains (λ z. x ≡ z) (x ∷ []) y (All-from_recursion (λ z. x ≡ z) (x ∷ []) (refl, tt)) has

-- one element of a list
pub one_in : {X : Type 0} (x : X) (ys : List X) → Contains ys x → IsWithin (x ∷ []) ys
one_in x ys there y has = subst (Contains ys) (is_that x y has) there

pub both_in : {X : Type 0} (xs ys zs : List X) → IsWithin xs zs → IsWithin ys zs → IsWithin (xs ++ ys) zs
both_in xs ys zs one two x has = by (Contains-append_cases xs ys x has)
  where
    by : Contains xs x ⊎ Contains ys x → Contains zs x
    by (inl there) = one x there
    by (inr there) = two x there

-- nothing was looked at
pub none_since : {kept now : Kept} (paths : List Path) → now ≡ kept → LooksWithin paths kept now
none_since {kept = kept} paths same = record { more = []; kept = same ∙ sym (append-nil kept); within = none_in paths }

pub nothing_since : (paths : List Path) (kept : Kept) → LooksWithin paths kept kept
nothing_since paths kept = none_since paths refl

-- one path was looked at
pub one_since : {path : Path} {kept now : Kept} (seen : Seen) → now ≡ kept ++ (path, seen) ∷ [] → LooksWithin (path ∷ []) kept now
one_since {path = path} seen is = record { more = (path, seen) ∷ []; kept = is; within = λ x has. has }

-- one after the other
pub within_then : {paths : List Path} {a b c : Kept} → LooksWithin paths a b → LooksWithin paths b c → LooksWithin paths a c
within_then {paths = paths} {a = a} one two = record {
  more = one.more ++ two.more;
  kept = two.kept ∙ ap (λ k. k ++ two.more) one.kept ∙ append_assoc a one.more two.more;
  within = subst (λ asked. IsWithin asked paths) (sym (map-append (λ e. e.0) one.more two.more)) (both_in (paths_of one.more) (paths_of two.more) paths one.within two.within);
}

-- what is within a list is within a wider one
pub within_wider : {paths wider : List Path} {a b : Kept} → IsWithin paths wider → LooksWithin paths a b → LooksWithin wider a b
within_wider wide one = record { more = one.more; kept = one.kept; within = λ x has. wide x (one.within x has) }
