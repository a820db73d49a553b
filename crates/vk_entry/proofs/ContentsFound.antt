-- The function on bytes gives the files of which they are the list.
use Rattle.std.proofs.Common.{◌≡◌, ◌↔◌, ℕ, Bool, true, false, List, map, cond, refl, ap, sym, ◌∙◌, subst}
use Rattle.std.specs.Prelude.{Option, Some, None, Ok, Err}
use Rattle.vk_base.specs.declared.stops.Unread.TheVariants as unread
use Rattle.vk_entry.specs.Answers.{Ends, IsTold, Reading}
use Rattle.vk_entry.specs.Contents.{Content}
use Rattle.vk_entry.specs.ContentLists.{IsList, IsRefused}
use Rattle.vk_entry.specs.ContentsIn.{contents_in, contents_said, is_list}
use Rattle.vk_entry.specs.ContentViews.{content_view}
use Rattle.vk_entry.specs.declared.reading.EntryFault.{EntryFault}
use Rattle.vk_entry.proofs.ContentReading.{said_again}
use Rattle.vk_entry.proofs.ContentTests.{list_decides}
use Rattle.vk_entry.proofs.Outcomes.{never_both}

some_where : {X : Type 0} (test : Bool) (x y : X) → cond test (Some x) None ≡ Some y → (test ≡ true) × (x ≡ y)
some_where true x y e = (refl, (cc))
some_where false x y e = absurd (cc)

pub list_in : (bytes : List ℕ) (cs : List Content) → contents_in bytes ≡ Some cs → IsList bytes cs
unfolding contents_in
list_in bytes cs is =
    let found = some_where (is_list bytes (contents_said bytes)) (contents_said bytes) cs is in
    subst (IsList bytes) found.1 ((list_decides bytes (contents_said bytes)).0 found.0)

pub in_list : (bytes : List ℕ) (cs : List Content) → IsList bytes cs → contents_in bytes ≡ Some cs
unfolding contents_in
in_list bytes cs is =
    let said : contents_said bytes ≡ cs = ap contents_said is.0 ∙ said_again cs is.1 in
    let passes : is_list bytes (contents_said bytes) ≡ true = ap (is_list bytes) said ∙ (list_decides bytes cs).1 is in
    ap (λ test. cond test (Some (contents_said bytes)) None) passes ∙ ap (λ l. Some l) said

pub files_in : (bytes : List ℕ) (cs : List Content) → (contents_in bytes ≡ Some cs) ↔ IsList bytes cs
files_in bytes cs = (list_in bytes cs, in_list bytes cs)

none_by : (bytes : List ℕ) (told : Option (List Content)) → contents_in bytes ≡ told → ((cs : List Content) → IsList bytes cs → ⊥) → told ≡ None
none_by bytes None is none = refl
none_by bytes (Some cs) is none = absurd (none cs (list_in bytes cs is))

pub none_in : (bytes : List ℕ) → (contents_in bytes ≡ None) ↔ ((cs : List Content) → IsList bytes cs → ⊥)
none_in bytes = (
  λ none cs list. let clash : None ≡ Some cs = sym none ∙ in_list bytes cs list in (cc),
  λ none. none_by bytes (contents_in bytes) refl none,
)

pub refused_in : (bytes : List ℕ) (fault : EntryFault) → IsRefused bytes fault → contents_in bytes ≡ None
refused_in bytes fault refused = (none_in bytes).1 (λ cs list. never_both bytes cs fault list refused)

pub told_in : (bytes : List ℕ) (answer : Reading) → Ends bytes answer → IsTold (contents_in bytes) answer
told_in bytes (Ok lines) ends = in_list bytes (map content_view lines) ends
told_in bytes (Err (unread.Fault fault)) ends = refused_in bytes fault ends
told_in bytes (Err (unread.Memory memory)) ends = tt
