-- What is done of a plan, what is left of it, and what stands.
use Rattle.std.proofs.Common.{◌≡◌, ◌≢◌, inl, inr, ◌++◌, ◌||◌, [], ◌∷◌, ◌+◌, ℕ, List, true, false, length, length-append, append_assoc, refl, ap, sym, ◌∙◌, subst, arith}
use Rattle.std.specs.Prelude.{Some, slice_get}
use Rattle.std.specs.List.{Contains}
use Rattle.std.specs.Str.{bytes_eq}
use Rattle.std.proofs.Math.Bool.{or-true}
use Rattle.std.proofs.lemmas.List.Elements.{Contains-append_left, Contains-append_right, Contains-push_cases}
use Rattle.std.proofs.lemmas.List.Sums.{sum_by-append, sum_by-cons}
use Rattle.std.proofs.lemmas.Slice.Eq.{bytes_eq-Decides}
use Rattle.vk_spec.specs.Standing.{Disk, under, Same}
use Rattle.vk_spec.proofs.ListLemmas.{contains_nothing, contains_first, contains_later}
use Rattle.vk_places.specs.Places.{entry_at, tmp_of}
use Rattle.vk_entry.specs.Packages.{File}
use Rattle.vk_look.proofs.PlaceTests.{other_bytes}
use Rattle.vk_make.specs.declared.answers.Mark.{Mark}
use Rattle.vk_make.specs.declared.answers.Mark.TheVariants.{Restored, Built, Rebuilt}
use Rattle.vk_make.specs.Makes.{Task, Work, MadeItem, Have, next_item, with_item, has_digest, none_yet}
use Rattle.vk_make.specs.MakeIs.{EntryStands, aside_for, asides}
use Rattle.vk_make.specs.Leaving.{EntriesStand}
use Rattle.vk_make.proofs.AlonePlaces.{neither, same_then}
use Rattle.vk_make.proofs.AloneKept.{Untouched, untouched_start, Since}
use Rattle.vk_make.proofs.AloneAside.{AreAside, aside_start}
use Rattle.vk_make.proofs.AloneItems.{IsNext}

at_seam : {X : Type 0} (before : List X) (x : X) (later : List X) → slice_get (before ++ x ∷ later) (length before) ≡ Some x
at_seam [] x later = refl
at_seam (y ∷ before) x later = at_seam before x later

-- ---- the entries of what is done

pub stand_same : (w : Work) (t : Task) (m : Mark) (files : List File) (d e h : Disk) → Same (under (entry_at w.cache t.digest) e) (under (entry_at w.cache t.digest) h) → EntryStands w t m files d e → EntryStands w t m files d h
stand_same w t Restored files d e h same stands = λ r. same r ∙ stands r
stand_same w t Built files d e h same stands = λ r. same r ∙ stands r
stand_same w t (Rebuilt harm) files d e h same stands = λ r. same r ∙ stands r

all_same : (w : Work) (ts : List Task) (ms : List Mark) (ps : List (List File)) (d e h : Disk) → ((t : Task) → Contains ts t → Same (under (entry_at w.cache t.digest) e) (under (entry_at w.cache t.digest) h)) → EntriesStand w ts ms ps d e → EntriesStand w ts ms ps d h
all_same w [] [] [] d e h same stand = tt
all_same w [] [] (p ∷ ps) d e h same stand = absurd stand
all_same w [] (m ∷ ms) ps d e h same stand = absurd stand
all_same w (t ∷ ts) [] ps d e h same stand = absurd stand
all_same w (t ∷ ts) (m ∷ ms) [] d e h same stand = absurd stand
all_same w (t ∷ ts) (m ∷ ms) (p ∷ ps) d e h same stand = (stand_same w t m p d e h (same t (contains_first t ts)) stand.0, all_same w ts ms ps d e h (λ o has. same o (contains_later t o ts has)) stand.1)

one_more : (w : Work) (ts : List Task) (ms : List Mark) (ps : List (List File)) (t : Task) (m : Mark) (p : List File) (d e : Disk) → EntriesStand w ts ms ps d e → EntryStands w t m p d e → EntriesStand w (ts ++ t ∷ []) (ms ++ m ∷ []) (ps ++ p ∷ []) d e
one_more w [] [] [] t m p d e stand one = (one, tt)
one_more w [] [] (q ∷ ps) t m p d e stand one = absurd stand
one_more w [] (n ∷ ms) ps t m p d e stand one = absurd stand
one_more w (s ∷ ts) [] ps t m p d e stand one = absurd stand
one_more w (s ∷ ts) (n ∷ ms) [] t m p d e stand one = absurd stand
one_more w (s ∷ ts) (n ∷ ms) (q ∷ ps) t m p d e stand one = (stand.0, one_more w ts ms ps t m p d e stand.1 one)

-- ---- what was seen

seen_later : (a b : List ℕ) (seen : List (List ℕ)) → has_digest seen b ≡ true → has_digest (a ∷ seen) b ≡ true
seen_later a b seen is = ap (λ o. bytes_eq a b || o) is ∙ or-true (bytes_eq a b)

seen_first : (a b : List ℕ) (seen : List (List ℕ)) → a ≡ b → has_digest (a ∷ seen) b ≡ true
seen_first a b seen is = ap (λ o. o || has_digest seen b) ((bytes_eq-Decides a b).1 is)

pub fresh_differs : (seen : List (List ℕ)) (a b : List ℕ) → has_digest seen a ≡ false → has_digest seen b ≡ true → a ≢ b
fresh_differs seen a b fresh is same = (let clash : false ≡ true = sym fresh ∙ ap (has_digest seen) same ∙ is in (cc))

-- what is done, what is left of the tasks, and what stands
pub record AreDone (w : Work) (tasks before later : List Task) (seen : List (List ℕ)) (have : Have) (d e : Disk) : Type 0 where
  pub split : tasks ≡ before ++ later
  pub even : length before ≡ length have.items.packages
  pub seen_are : (t : Task) → Contains before t → has_digest seen t.digest ≡ true
  pub still : Untouched w tasks d seen e
  pub tmp : Same (under (tmp_of w.cache) d) (under (tmp_of w.cache) e)
  pub stand : EntriesStand w before have.items.made have.items.packages d e
  pub aside : AreAside w (asides have.items.made) d e

one_aside : (made : List Mark) (m : Mark) → asides made + aside_for m ≡ asides (made ++ m ∷ [])
one_aside made m = omega (arith, sum_by-append aside_for made (m ∷ []), sum_by-cons aside_for m [])

pub done_start : (w : Work) (tasks : List Task) (d : Disk) → AreDone w tasks [] tasks [] (none_yet w.most) d d
done_start w tasks d = record { split = refl; even = refl; seen_are = λ t has. absurd (contains_nothing t has); still = untouched_start w tasks d []; tmp = λ r. refl; stand = tt; aside = aside_start w d }

module _ (w : Work) (tasks before later : List Task) (seen : List (List ℕ)) (t : Task) (have : Have) (d e : Disk) (done : AreDone w tasks before (t ∷ later) seen have d e) where
  pub before_in : (o : Task) → Contains before o → Contains tasks o
  before_in o has = subst (λ l. Contains l o) (sym done.split) (Contains-append_left before (t ∷ later) o has)

  pub done_next : IsNext tasks (next_item t have)
  done_next = record {
    member = subst (λ l. Contains l t) (sym done.split) (Contains-append_right before (t ∷ later) t (contains_first t later));
    stands = ap (slice_get tasks) (sym done.even) ∙ ap (λ l. slice_get l (length before)) done.split ∙ at_seam before t later;
  }

  -- one more is done
  pub done_more : (made : MadeItem) (h : Disk) → has_digest seen t.digest ≡ false → Since w tasks t e h → EntryStands w t made.mark made.files d h → AreAside w (asides have.items.made + aside_for made.mark) d h → AreDone w tasks (before ++ t ∷ []) later (t.digest ∷ seen) (with_item have made) d h
  done_more made h fresh since stands aside = record {
    split = done.split ∙ sym (append_assoc before (t ∷ []) later);
    even = omega (arith, done.even, length-append before (t ∷ []), length-append have.items.packages (made.files ∷ []));
    seen_are = λ o has. elim (Contains-push_cases before t o has) [
      | inl old ↦ seen_later t.digest o.digest seen (done.seen_are o old)
      | inr same ↦ seen_first t.digest o.digest seen (ap (λ x. x.digest) same)
    ];
    still = λ o has new. (let both = neither (bytes_eq t.digest o.digest) (has_digest seen o.digest) new in
        same_then (under (entry_at w.cache o.digest) d) (under (entry_at w.cache o.digest) e) (under (entry_at w.cache o.digest) h) (done.still o has both.1) (since.others o has (other_bytes t.digest o.digest both.0)));
    tmp = same_then (under (tmp_of w.cache) d) (under (tmp_of w.cache) e) (under (tmp_of w.cache) h) done.tmp since.tmp;
    stand = one_more w before have.items.made have.items.packages t made.mark made.files d h
        (all_same w before have.items.made have.items.packages d e h (λ o has. since.others o (before_in o has) (fresh_differs seen t.digest o.digest fresh (done.seen_are o has))) done.stand) stands;
    aside = subst (λ n. AreAside w n d h) (one_aside have.items.made made.mark) aside;
  }
