-- The parts of a path, one by one, and that each is a part's text.
use Rattle.std.proofs.Common.{◌≡◌, ◌≢◌, ◌==◌, ◌&&◌, ◌||◌, ◌<◌, ◌+◌, ◌^◌, inl, not, ℕ, suc, true, false, List, [], ◌∷◌, ◌++◌, length, drop, refl, ap, sym, ◌∙◌, subst, arith}
use Rattle.std.proofs.lemmas.Bool.Decides.{nat_tests}
use Rattle.std.proofs.lemmas.List.{append-nil}
use Rattle.std.proofs.lemmas.List.Elements.{All-head, All-tail}
use Rattle.std.proofs.lemmas.Result.{IfOk-weaker}
use Rattle.std.proofs.lemmas.Slice.Eq.{bytes_eq-Decides}
use Rattle.std.proofs.Math.Seq.{drop-append_seam, drop-nil}
use Rattle.std.specs.Prelude.{Bool, Option, Some, None, is_some, IsTrue, MatchOption, Result, IfOk}
use Rattle.std.specs.List.{All, list_any}
use Rattle.std.specs.Str.{bytes_eq}
use Rattle.std.specs.declared.cmp.Ordering.TheVariants.{Less, Equal}
use Rattle.std.specs.Cmp.{tied_itself}
use Rattle.vk_spec.specs.Paths.{Path, path_cmp, Begins}
use Rattle.std.proofs.Common.{zero}
use Rattle.vk_spec.proofs.FileLemmas.{path_total}
use Rattle.vk_base.specs.Paths.{Lacks, IsPart, IsPath, IsFrom, lacks, is_part, parts_of, ups_of, joined}
use Rattle.vk_base.proofs.PathLemmas.{ups_most, joined-here}
use Rattle.vk_tree.specs.Listing.{is_more}
use Rattle.vk_tree.specs.Moving.{IsMovedTo}

drop_one : (n : ℕ) (all : Path) → drop (suc n) all ≡ drop 1 (drop n all)
drop_one n [] = ap (drop 1) (sym (drop-nil n))
drop_one zero (part ∷ all) = refl
drop_one (suc n) (part ∷ all) = drop_one n all

-- the next part is taken, if there is one
one_more : (n : ℕ) → n + 1 ≡ suc n
one_more n = omega arith

pub one_taken : {B : Type 0} (text : B → List ℕ) (r : Option B) (old new all : Path) (n : ℕ) → old ≡ drop n all → MatchOption r ((old ≡ []) × (new ≡ [])) (λ b. old ≡ text b ∷ new) → new ≡ drop (n + 1) all
one_taken text None old new all n is next = next.1 ∙ sym (ap (λ m. drop m all) (one_more n) ∙ drop_one n all ∙ ap (drop 1) (sym is ∙ next.0))
one_taken text (Some b) old new all n is next = sym (ap (λ m. drop m all) (one_more n) ∙ drop_one n all ∙ ap (drop 1) (sym is ∙ next))

-- what is left of a path after the parts of a folder
pub parts_below : (dir path : Path) → IsPath dir → (begun : Begins dir path) → drop (length (parts_of dir)) (parts_of path) ≡ begun.0
parts_below [] path is begun = let no : [] ≡ _ ∷ _ = is.key_is in (cc)
parts_below (a ∷ dir) path is begun = ap (λ p. drop (length dir) (parts_of p)) begun.1 ∙ drop-append_seam dir begun.0

not_itself : (p : Path) → path_cmp p p ≡ Less → ⊥
not_itself p less = let clash : Equal ≡ Less = sym (tied_itself path_total p) ∙ less in (cc)

-- a later path has a name in the folder
pub some_part : (dir path left : Path) → IsPath dir → left ≡ drop (length (parts_of dir)) (parts_of path) → left ≡ [] → path_cmp dir path ≡ Less → Begins dir path → ⊥
some_part dir path left is left_is none less begun =
    let same : path ≡ dir = begun.1 ∙ ap (λ rest. dir ++ rest) (sym (parts_below dir path is begun) ∙ sym left_is ∙ none) ∙ append-nil dir in
    not_itself dir (ap (path_cmp dir) (sym same) ∙ less)

pub part_found : (dir path left more : Path) (name : List ℕ) → IsPath dir → left ≡ drop (length (parts_of dir)) (parts_of path) → left ≡ name ∷ more → Begins dir path → path ≡ dir ++ name ∷ more
part_found dir path left more name is left_is next begun = begun.1 ∙ ap (λ rest. dir ++ rest) (sym (parts_below dir path is begun) ∙ sym left_is ∙ next)

pub more_follow : {B : Type 0} (text : B → List ℕ) (r : Option B) (more after : Path) → MatchOption r ((more ≡ []) × (after ≡ [])) (λ b. more ≡ text b ∷ after) → is_some r ≡ is_more more
more_follow text None more after next = sym (ap is_more next.0)
more_follow text (Some b) more after next = sym (ap is_more next)

-- ---- a part's text passes the test

no_byte : (b c : ℕ) → c ≢ b → not (c == b) ≡ true
no_byte b c other = grind (arith, nat_tests)

both_hold : (one two : Bool) → one ≡ true → two ≡ true → (one && two) ≡ true
both_hold one two e f = ap (λ t. t && two) e ∙ f

lacks_test : (b : ℕ) (text : List ℕ) → Lacks b text → lacks b text ≡ true
lacks_test b [] all = refl
lacks_test b (c ∷ text) all = both_hold (not (c == b)) (lacks b text) (no_byte b c (All-head (λ x. x ≢ b) c text all)) (lacks_test b text (All-tail (λ x. x ≢ b) c text all))

not_either : (one two : Bool) → not (one || two) ≡ (not one && not two)
not_either true two = refl
not_either false two = refl

pub lacks_none : (b : ℕ) (text : List ℕ) → not (list_any (λ c. c == b) text) ≡ lacks b text
lacks_none b [] = refl
lacks_none b (c ∷ text) = not_either (c == b) (list_any (λ x. x == b) text) ∙ ap (λ t. not (c == b) && t) (lacks_none b text)

other_text : (one two : List ℕ) → one ≢ two → not (bytes_eq one two) ≡ true
other_text one two other =
    elim (bytes_eq one two) as (λ t. bytes_eq one two ≡ t → not t ≡ true) [
      | true ↦ λ e. absurd (other ((bytes_eq-Decides one two).0 e))
      | false ↦ λ e. refl
    ] refl

some_bytes : (text : List ℕ) → text ≢ [] → not (length text == 0) ≡ true
some_bytes [] some = absurd (some refl)
some_bytes (c ∷ text) some = grind (arith, nat_tests)

pub part_test : (part : List ℕ) → IsPart part → is_part part ≡ true
part_test part is =
    both_hold (not (length part == 0)) _ (some_bytes part is.some)
    (both_hold (not (bytes_eq part (46 ∷ []))) _ (other_text part (46 ∷ []) is.not_here)
    (both_hold (not (bytes_eq part (46 ∷ 46 ∷ []))) _ (other_text part (46 ∷ 46 ∷ []) is.not_above)
    (both_hold (lacks 47 part) (lacks 0 part) (lacks_test 47 part is.no_slash) (lacks_test 0 part is.no_zero))))

part_of_all : (front more : Path) (part : List ℕ) → All IsPart (front ++ part ∷ more) → IsPart part
part_of_all [] more part all = All-head IsPart part more all
part_of_all (x ∷ front) more part all = part_of_all front more part (All-tail IsPart x (front ++ part ∷ more) all)

-- a name in a folder
pub name_is_part : (dir path more : Path) (name : List ℕ) → IsPath dir → IsPath path → path ≡ dir ++ name ∷ more → IsTrue (is_part name)
name_is_part [] path more name is is_path e = let no : [] ≡ _ ∷ _ = is.key_is in (cc)
name_is_part (a ∷ dir) path more name is is_path e =
    part_test name (part_of_all dir more name (subst (All IsPart) (ap parts_of (sym is_path.key_is) ∙ ap parts_of e) is_path.path.each))

-- ---- a path below one folder, seen from another

pub few_steps : (from to path below : Path) → IsPath to → IsFrom from path (Some below) → ups_of to + ups_of below < 2 ^ 32
few_steps from to path below is seen =
    let none : ups_of below ≡ 0 = ap ups_of seen.2 in
    omega (arith, none, ap ups_of is.key_is, ups_most is.rooted is.ups is.parts, is.path.small)

pub moved_to : {E : Type 0} (from to path below : Path) (r : Result Path E) → IsPath to → IsFrom from path (Some below) → IfOk r (λ p. p ≡ joined to below) → IfOk r (IsMovedTo from to path)
moved_to from to path below r is seen ok =
    IfOk-weaker r (λ p. p ≡ joined to below) (IsMovedTo from to path) (λ p e. inl (seen.0, seen.1, e ∙ ap (joined to) seen.2 ∙ joined-here to seen.0 is)) ok
