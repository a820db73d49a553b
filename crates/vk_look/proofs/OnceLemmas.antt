-- A look reads no path twice.
use Rattle.std.proofs.Common.{◌≡◌, inl, inr, ◌++◌, [], ◌∷◌, ℕ, List, get_or, false, refl, ap, sym, ◌∙◌, subst, map, arith}
use Rattle.std.specs.Prelude.{Option, Some, None, Result, Ok, Err, codes}
use Rattle.std.specs.List.{Contains, AllByRecursion, All}
use Rattle.std.specs.List.Sorted.{IsStrictlySortedBy}
use Rattle.std.specs.declared.cmp.Ordering.TheVariants.{Less}
use Rattle.std.specs.Ordering.{nat_cmp}
use Rattle.std.specs.Str.{bytes_eq}
use Rattle.std.specs.Cmp.Lexicographic.{slice_cmp}
use Rattle.std.proofs.lemmas.List.{append_cancel_left}
use Rattle.std.proofs.lemmas.List.Elements.{All-head, All-tail}
use Rattle.sha2.specs.Sha256.{sha256}
use Rattle.vk_spec.specs.Lists.{NoRepeats}
use Rattle.vk_spec.specs.Paths.{Path, anchor}
use Rattle.vk_spec.specs.Calls.{Call, Kind, is_file, is_folder, is_absent, Refusal}
use Rattle.vk_spec.proofs.ListLemmas.{contains_nothing, contains_first, contains_later, contains_cases}
use Rattle.vk_base.specs.Paths.{parts_of, text_of_path}
use Rattle.vk_base.proofs.PathLemmas.{key_again}
use Rattle.vk_walk.specs.Walks.{Limit}
use Rattle.vk_walk.specs.Walked.{walk_limits}
use Rattle.vk_protocol.specs.Protocols.{Protocol, Reply, ends, asks, each, on_ok, ◌>>=◌}
use Rattle.vk_protocol.specs.Runs.{AsksOnly}
use Rattle.vk_walk.specs.WalkProtocol.{walk_of}
use Rattle.vk_entry.specs.Packages.{File}
use Rattle.vk_entry.specs.Contents.{Content}
use Rattle.vk_entry.specs.ContentLists.{Ascend, AreContents, IsContent}
use Rattle.vk_entry.proofs.ContentsFound.{list_in}
use Rattle.vk_places.specs.Places.{text_at, contents_at, file_at}
use Rattle.vk_resolution.proofs.Members.{contains_map}
use Rattle.vk_entry.specs.Differences.{difference_of}
use Rattle.vk_entry.specs.declared.differences.Difference.{Difference}
use Rattle.vk_look.specs.LookIs.{file_places, places_of, Wanted}
use Rattle.vk_look.specs.Looks.{damaged, look_of, look_stands, look_kept, look_contents, look_listed, look_compared, look_found, list_told, look_file, file_told, keeps, no_files, looked}
use Rattle.vk_look.specs.LookCalls.{ReadsAnew}
use Rattle.vk_look.specs.declared.answers.Harm.{Harm}
use Rattle.vk_look.specs.declared.answers.Harm.TheVariants.{Text}
use Rattle.vk_look.proofs.PlaceTests.{if_case}
use Rattle.vk_walk.specs.WalkProtocol.{ListsIn}
use Rattle.vk_walk.proofs.WalkAsks.{walk_lists}
use Rattle.vk_walk.proofs.EntryLemmas.{differ}

-- ---- the places of an entry are apart

text_not_list : codes "abi.txt" ≡ codes "contents.txt" → ⊥
text_not_list e = let h : 97 ≡ 99 = ap (λ l. get_or l 0 0) e in absurd (omega (arith, h))

files_not_text : codes "files" ≡ codes "abi.txt" → ⊥
files_not_text e = let h : 102 ≡ 97 = ap (λ l. get_or l 0 0) e in absurd (omega (arith, h))

files_not_list : codes "files" ≡ codes "contents.txt" → ⊥
files_not_list e = let h : 102 ≡ 99 = ap (λ l. get_or l 0 0) e in absurd (omega (arith, h))

name_same : (entry : Path) (one other : List ℕ) (r s : Path) → entry ++ one ∷ r ≡ entry ++ other ∷ s → one ≡ other
name_same entry one other r s e = let tails : one ∷ r ≡ other ∷ s = append_cancel_left entry (one ∷ r) (other ∷ s) e in (cc)

rest_same : (entry : Path) (name : List ℕ) (r s : Path) → entry ++ name ∷ r ≡ entry ++ name ∷ s → r ≡ s
rest_same entry name r s e = let tails : name ∷ r ≡ name ∷ s = append_cancel_left entry (name ∷ r) (name ∷ s) e in (cc)

path_of_parts : (c : Content) → IsContent c → c.path ≡ anchor false 0 ∷ parts_of c.path
path_of_parts c right =
    sym (key_again c.path right.path.0.is_short.path)
    ∙ (λ i. anchor (right.path.1.unrooted i) (right.path.1.level i) ∷ parts_of c.path)

same_place : (entry : Path) (c x : Content) → IsContent c → IsContent x → file_at entry c.path ≡ file_at entry x.path → c.path ≡ x.path
same_place entry c x one other e = path_of_parts c one ∙ ap (λ r. anchor false 0 ∷ r) (rest_same entry (codes "files") (parts_of c.path) (parts_of x.path) e) ∙ sym (path_of_parts x other)

-- ---- the listed files stand at different places

below_none : (entry : Path) (c : Content) (cs : List Content) → IsContent c → All IsContent cs → AllByRecursion (λ t. slice_cmp nat_cmp (text_of_path c.path) t ≡ Less) (map (λ x. text_of_path x.path) cs)
    → Contains (file_places entry cs) (file_at entry c.path) → ⊥
below_none entry c [] right all less at = contains_nothing (file_at entry c.path) at
below_none entry c (x ∷ cs) right all less at = elim (contains_cases (file_at entry x.path) (file_at entry c.path) (file_places entry cs) at) [
  | inl same ↦ (let path : x.path ≡ c.path = same_place entry x c (All-head IsContent x cs all) right same in differ (text_of_path c.path) (text_of_path x.path) less.0 (ap text_of_path (sym path)))
  | inr later ↦ below_none entry c cs right (All-tail IsContent x cs all) less.1 later
]

places_once : (entry : Path) (cs : List Content) → All IsContent cs → Ascend cs → NoRepeats (file_places entry cs)
unfolding IsStrictlySortedBy
places_once entry [] all order = tt
places_once entry (c ∷ cs) all order = (below_none entry c cs (All-head IsContent c cs all) (All-tail IsContent c cs all) order.0, places_once entry cs (All-tail IsContent c cs all) order.1)

-- ---- each call

-- listing a folder reads nothing
anew_listed : {A : Type 0} (folder : Path) (seen : List Path) (call : Call) (k : Reply call → Protocol A) → ListsIn folder call → ((reply : Reply call) → ReadsAnew seen (k reply)) → ReadsAnew seen (asks call k)
anew_listed {A = A} folder seen call k lists more = subst (λ c. (k : Reply c → Protocol A) → ((reply : Reply c) → ReadsAnew seen (k reply)) → ReadsAnew seen (asks c k)) (sym lists.2) (λ k more. (tt, more)) k more

anew_after : {A B : Type 0} (folder : Path) (seen : List Path) (m : Protocol A) (f : A → Protocol B) → AsksOnly (ListsIn folder) m → ((x : A) → ReadsAnew seen (f x)) → ReadsAnew seen (m >>= f)
anew_after folder seen (ends x) f lists more = more x
anew_after folder seen (asks call k) f lists more = anew_listed folder seen call (λ reply. k reply >>= f) lists.0 (λ reply. anew_after folder seen (k reply) f (lists.1 reply) more)

module _ (w : Wanted) where
  files_anew : (kept : List ℕ) (seen : List Path) (cs : List Content) (r : Result (Option (List File)) Harm) → NoRepeats (file_places w.entry cs) → ((q : Path) → Contains (file_places w.entry cs) q → Contains seen q → ⊥)
      → ReadsAnew seen (on_ok (each (look_file w.entry) cs) r >>= λ r. ends (looked w kept r))
  files_anew kept seen cs (Err harm) once apart = tt
  files_anew kept seen [] (Ok files) once apart = tt
  files_anew kept seen (c ∷ cs) (Ok files) once apart = (
    apart (file_at w.entry c.path) (contains_first (file_at w.entry c.path) (file_places w.entry cs)),
    λ reply. files_anew kept (file_at w.entry c.path ∷ seen) cs (file_told c files reply) once.1
        (λ q at was. elim (contains_cases (file_at w.entry c.path) q seen was) [
          | inl same ↦ once.0 (subst (Contains (file_places w.entry cs)) (sym same) at)
          | inr before ↦ apart q (contains_later (file_at w.entry c.path) q (file_places w.entry cs) at) before
        ]),
  )

  -- the text and the contents list
  abbrev two_read : List Path
  two_read = contents_at w.entry ∷ text_at w.entry ∷ []

  files_apart : (cs : List Content) (q : Path) → Contains (file_places w.entry cs) q → Contains two_read q → ⊥
  files_apart cs q at was =
      let c = contains_map (λ c. file_at w.entry c.path) cs q at in
      elim (contains_cases (contents_at w.entry) q (text_at w.entry ∷ []) was) [
        | inl list ↦ files_not_list (name_same w.entry _ _ (parts_of c.0.path) [] (c.2 ∙ sym list))
        | inr more ↦ elim (contains_cases (text_at w.entry) q [] more) [
          | inl text ↦ files_not_text (name_same w.entry _ _ (parts_of c.0.path) [] (c.2 ∙ sym text))
          | inr none ↦ contains_nothing q none
        ]
      ]

  compared_anew : (kept : List ℕ) (cs : List Content) (o : Option Difference) → AreContents cs → ReadsAnew two_read (look_compared w kept cs o)
  compared_anew kept cs (Some harm) are = tt
  compared_anew kept cs None are = files_anew kept two_read cs (Ok (no_files (keeps w kept cs))) (places_once w.entry cs are.each are.order) (files_apart cs)

  found_anew : (kept : List ℕ) (cs : List Content) (r : Result (List Path) Limit) → AreContents cs → ReadsAnew two_read (look_found w kept cs r)
  found_anew kept cs (Err l) are = tt
  found_anew kept cs (Ok found) are = compared_anew kept cs (difference_of found (places_of w.entry cs)) are

  listed_anew : (kept : List ℕ) (o : Option (List Content)) → ((cs : List Content) → o ≡ Some cs → AreContents cs) → ReadsAnew two_read (look_listed w kept o)
  listed_anew kept None are = tt
  listed_anew kept (Some cs) are = anew_after w.entry two_read (walk_of walk_limits w.entry) (look_found w kept cs) (walk_lists walk_limits w.entry) (λ r. found_anew kept cs r (are cs refl))

  told_are : (r : Result (List ℕ) Refusal) (cs : List Content) → list_told r ≡ Some cs → AreContents cs
  told_are (Ok bytes) cs e = (list_in bytes cs e).1
  told_are (Err r) cs e = (cc)

  list_anew : (q : Path) → Contains (text_at w.entry ∷ []) q → q ≡ contents_at w.entry → ⊥
  list_anew q was is = elim (contains_cases (text_at w.entry) q [] was) [
    | inl text ↦ text_not_list (name_same w.entry _ _ [] [] (text ∙ is))
    | inr none ↦ contains_nothing q none
  ]

  kept_anew : (r : Result (List ℕ) Refusal) → ReadsAnew (text_at w.entry ∷ []) (look_kept w r)
  kept_anew (Err r) = tt
  kept_anew (Ok kept) = if_case (ReadsAnew (text_at w.entry ∷ [])) (bytes_eq (sha256 kept) w.hash) (look_contents w kept) (damaged Text)
      (λ e. ((λ was. list_anew (contents_at w.entry) was refl), λ reply. listed_anew kept (list_told reply) (told_are reply))) (λ e. tt)

  stands_anew : (r : Result Kind Refusal) → ReadsAnew [] (look_stands w r)
  stands_anew (Ok is_file) = tt
  stands_anew (Ok is_folder) = ((λ was. contains_nothing (text_at w.entry) was), λ reply. kept_anew reply)
  stands_anew (Ok is_absent) = tt
  stands_anew (Err r) = tt

  pub look_anew : ReadsAnew [] (look_of w)
  unfolding look_of
  look_anew = (tt, λ reply. stands_anew reply)
