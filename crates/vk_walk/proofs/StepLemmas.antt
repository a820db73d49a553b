-- The steps of a walk, each from one cut to the next.
use Rattle.std.proofs.Common.{◌≡◌, ◌≤◌, ◌<◌, ◌+◌, inl, inr, ℕ, List, [], ◌∷◌, ◌++◌, length, ap, sym, ◌∙◌, subst, arith}
use Rattle.std.proofs.lemmas.List.{append-nil, append_assoc}
use Rattle.std.proofs.lemmas.List.Elements.{Contains-append_cases, Contains-append_left, Contains-push, Contains-push_cases}
use Rattle.std.specs.Prelude.{IsSome}
use Rattle.std.specs.List.{Contains}
use Rattle.std.specs.declared.cmp.Ordering.TheVariants.{Less, Equal}
use Rattle.std.specs.Cmp.{tied_itself}
use Rattle.vk_spec.specs.Lists.{NoRepeats}
use Rattle.vk_spec.specs.Paths.{Path, path_cmp, Begins}
use Rattle.vk_spec.proofs.FileLemmas.{path_total, none_some}
use Rattle.vk_spec.proofs.OrderLemmas.{less_below}
use Rattle.vk_spec.proofs.ListLemmas.{contains_nothing, contains_first, contains_later, contains_cases}
use Rattle.vk_spec.specs.Standing.{Disk, Entry, IsFile, IsFolder, Stands, ByName, AreEntries, IsListing}
use Rattle.vk_tree.specs.Listing.{IsAscending}
use Rattle.vk_tree.specs.Trees.{IsTreeDisk}
use Rattle.vk_walk.specs.Walks.{Limits, Limit, deep, entries, files, Passes, IsFirst, IsCalm, AreFiles}
use Rattle.vk_walk.specs.Progress.{Upto, Before, Through, Until}
use Rattle.vk_tree.proofs.PlaceLemmas.{lower_name, name_not_below, higher_not_before, before_name, not_before_own, cancel}
use Rattle.vk_walk.proofs.ShorterLemmas.{no_longer}
use Rattle.vk_walk.proofs.EntryLemmas.{file_stands, folder_stands, listings_within, earlier, later, differ}

not_before : (p q : Path) → Begins p q → path_cmp q p ≡ Less → ⊥
not_before p q (rest, e) h = not_before_own p rest (ap (λ x. path_cmp x p) (sym e) ∙ h)

begins_up : (p : Path) (name : List ℕ) (q : Path) → Begins (p ++ name ∷ []) q → Begins p q
begins_up p name q h = (name ∷ h.0, h.1 ∙ append_assoc p (name ∷ []) h.0)

pub begins_longer : (folder p : Path) (name : List ℕ) → Begins folder p → Begins folder (p ++ name ∷ [])
begins_longer folder p name h = (h.0 ++ name ∷ [], ap (λ q. q ++ name ∷ []) h.1 ∙ append_assoc folder h.0 (name ∷ []))

pub file_no_folder : (d : Disk) (p : Path) → IsTreeDisk d → IsFile d p → IsFolder d p → ⊥
file_no_folder d p tree file folder = none_some (d (p ++ folder.0 ∷ folder.1)) (tree p folder.0 folder.1 file) folder.2

passes_stands : (most : Limits) (d : Disk) (folder q : Path) (limit : Limit) → Passes most d folder q limit → Stands d q
passes_stands most d folder q deep h = folder_stands d q h.0
passes_stands most d folder q entries h = folder_stands d q h.0
passes_stands most d folder q files h = file_stands d q h.0

passes_within : (most : Limits) (d : Disk) (folder q : Path) (limit : Limit) → Passes most d folder q limit → Begins folder q
passes_within most d folder q deep h = h.1
passes_within most d folder q entries h = h.1
passes_within most d folder q files h = h.1

-- another cut with the same things in it
recut : (most : Limits) (d : Disk) (folder : Path) (C D : Path → Type 0) (found : List Path)
    → ((q : Path) → Stands d q → C q → D q) → ((q : Path) → Stands d q → D q → C q) → Upto most d folder C found → Upto most d folder D found
recut most d folder C D found to from u = record {
  order = u.order;
  sound = λ q h. (let s = u.sound q h in (s.0, s.1, to q (file_stands d q s.0) s.2));
  all = λ q file below at. u.all q file below (from q (file_stands d q file) at);
  calm = λ q other at passes. u.calm q other (from q (passes_stands most d folder q other passes) at) passes;
}

-- nothing is before the folder
pub start : (most : Limits) (d : Disk) (folder : Path) → Upto most d folder (Before folder) []
start most d folder = record {
  order = tt;
  sound = λ q h. absurd (contains_nothing q h);
  all = λ q file below at. absurd (not_before folder q below at);
  calm = λ q other at passes. not_before folder q (passes_within most d folder q other passes) at;
}

ascending_push : (found : List Path) (p : Path) → IsAscending found → ((q : Path) → Contains found q → path_cmp q p ≡ Less) → IsAscending (found ++ p ∷ [])
ascending_push [] p order before = ((λ q h. absurd (contains_nothing q h)), tt)
ascending_push (x ∷ xs) p order before = (
  (λ q h. elim (Contains-push_cases xs p q h) [
    | inl old ↦ order.0 q old
    | inr same ↦ subst (λ r. path_cmp x r ≡ Less) same (before x (contains_first x xs))
  ]),
  ascending_push xs p order.1 (λ q h. before q (contains_later x q xs h)),
)

pub distinct : (xs : List Path) → IsAscending xs → NoRepeats xs
distinct [] order = tt
distinct (x ∷ xs) order = ((λ h. let clash : Equal ≡ Less = sym (tied_itself path_total x) ∙ order.0 x h in (cc)), distinct xs order.1)

-- a file stands alone
alone : (d : Disk) (p q : Path) → IsTreeDisk d → IsFile d p → Begins p q → Stands d q → p ≡ q
alone d p q tree file ([], e) stands = sym (e ∙ append-nil p)
alone d p q tree file (part ∷ more, e) stands =
    let same : q ++ stands.0 ≡ p ++ part ∷ (more ++ stands.0) = ap (λ x. x ++ stands.0) e ∙ append_assoc p (part ∷ more) stands.0 in
    absurd (none_some (d (q ++ stands.0)) (ap d same ∙ tree p part (more ++ stands.0) file) stands.1)

few : (most : Limits) (d : Disk) (folder p : Path) (found : List Path) (limit : Limit) → IsTreeDisk d → IsFile d p → length found < most.files → Upto most d folder (Before p) found → Passes most d folder p limit → ⊥
few most d folder p found deep tree file less u h = file_no_folder d p tree file h.0
few most d folder p found entries tree file less u h = file_no_folder d p tree file h.0
few most d folder p found files tree file less u h =
    let shorter : length h.2 ≤ length found = no_longer h.2 found h.3 (λ q c. let b = h.4 q c in u.all q b.0 b.1 b.2) in
    let many : most.files ≤ length h.2 = h.5 in
    omega (arith, shorter, many, less)

-- a file is taken
pub take_file : (most : Limits) (d : Disk) (folder p : Path) (found : List Path) → IsTreeDisk d → IsFile d p → Begins folder p → length found < most.files
    → Upto most d folder (Before p) found → Upto most d folder (Through p) (found ++ p ∷ [])
take_file most d folder p found tree file below less u = record {
  order = ascending_push found p u.order (λ q h. (u.sound q h).2);
  sound = λ q h. elim (Contains-push_cases found p q h) [
    | inl old ↦ (let s = u.sound q old in (s.0, s.1, inl s.2))
    | inr same ↦ subst (λ r. IsFile d r × Begins folder r × Through p r) same (file, below, inr ([], sym (append-nil p)))
  ];
  all = λ q is within at. elim at [
    | inl before ↦ Contains-append_left found (p ∷ []) q (u.all q is within before)
    | inr begins ↦ subst (Contains (found ++ p ∷ [])) (alone d p q tree file begins (file_stands d q is)) (Contains-push found p)
  ];
  calm = λ q other at passes. elim at [
    | inl before ↦ u.calm q other before passes
    | inr begins ↦ (let same = alone d p q tree file begins (passes_stands most d folder q other passes) in
        few most d folder p found other tree file less u (subst (λ r. Passes most d folder r other) (sym same) passes))
  ];
}

-- the limits
pub files_first : (most : Limits) (d : Disk) (folder p : Path) (found : List Path) → IsFile d p → Begins folder p → most.files ≤ length found
    → Upto most d folder (Before p) found → IsFirst most d folder files
files_first most d folder p found file below many u = record {
  place = p;
  passes = (file, below, found, distinct found u.order, (λ q c. u.sound q c), many);
  none = λ q other less passes. u.calm q other less passes;
}

pub deep_first : (most : Limits) (d : Disk) (folder p : Path) (found : List Path) → IsFolder d p → Begins folder p → length folder + most.depth < length p
    → Upto most d folder (Before p) found → IsFirst most d folder deep
deep_first most d folder p found is below far u = record { place = p; passes = (is, below, far); none = λ q other less passes. u.calm q other less passes }

pub entries_first : (most : Limits) (d : Disk) (folder p : Path) (found : List Path) (es : List Entry) → IsFolder d p → Begins folder p → length p ≤ length folder + most.depth
    → AreEntries d p es → most.entries < length es → Upto most d folder (Before p) found → IsFirst most d folder entries
entries_first most d folder p found es is below near listing many u = record { place = p; passes = (is, below, near, es, listing, many); none = λ q other less passes. u.calm q other less passes }

-- what is left of a folder beside its entries is itself
itself : (d : Disk) (p q : Path) (es : List Entry) → IsListing d p es → Begins p q → Stands d q → ((e : Entry) → Contains es e → Begins (p ++ e.name ∷ []) q → ⊥) → p ≡ q
itself d p q es listing ([], e) stands out = sym (e ∙ append-nil p)
itself d p q es listing (part ∷ more, e) stands out =
    let same : q ++ stands.0 ≡ p ++ part ∷ (more ++ stands.0) = ap (λ x. x ++ stands.0) e ∙ append_assoc p (part ∷ more) stands.0 in
    let f = listing.all part (more ++ stands.0) (subst (λ r. IsSome (d r)) same stands.1) in
    absurd (out f.0 f.1 (more, e ∙ ap (λ n. p ++ n ∷ more) (sym f.2) ∙ sym (append_assoc p (f.0.name ∷ []) more)))

calm_folder : (most : Limits) (d : Disk) (folder p : Path) (es : List Entry) (limit : Limit) → IsTreeDisk d → IsFolder d p → length p ≤ length folder + most.depth → IsListing d p es → length es ≤ most.entries → Passes most d folder p limit → ⊥
calm_folder most d folder p es deep tree is near listing small h = let far : length folder + most.depth < length p = h.2 in omega (arith, far, near)
calm_folder most d folder p es entries tree is near listing small h =
    let many : most.entries < length h.3 = h.5 in
    let shorter : length h.3 ≤ length es = listings_within d p es h.3 listing h.4 in
    omega (arith, many, shorter, small)
calm_folder most d folder p es files tree is near listing small h = file_no_folder d p tree h.0 is

-- a folder is entered
pub enter : (most : Limits) (d : Disk) (folder p : Path) (found : List Path) (es : List Entry) → IsTreeDisk d → IsFolder d p → length p ≤ length folder + most.depth
    → IsListing d p es → length es ≤ most.entries → Upto most d folder (Before p) found → Upto most d folder (Until p es) found
enter most d folder p found es tree is near listing small u = record {
  order = u.order;
  sound = λ q h. (let s = u.sound q h in (s.0, s.1, (inl s.2, λ e c begins. not_before p q (begins_up p e.name q begins) s.2)));
  all = λ q file within at. elim at.0 [
    | inl before ↦ u.all q file within before
    | inr begins ↦ (let same = itself d p q es listing begins (file_stands d q file) at.1 in absurd (file_no_folder d p tree (subst (IsFile d) (sym same) file) is))
  ];
  calm = λ q other at passes. elim at.0 [
    | inl before ↦ u.calm q other before passes
    | inr begins ↦ (let same = itself d p q es listing begins (passes_stands most d folder q other passes) at.1 in
        calm_folder most d folder p es other tree is near listing small (subst (λ r. Passes most d folder r other) (sym same) passes))
  ];
}

-- where something in a folder stands, seen from an entry
data Side (p : Path) (e : Entry) (rest : List Entry) (q : Path) : Type 0 where
  lower : Before (p ++ e.name ∷ []) q → Side p e rest q
  here : Begins (p ++ e.name ∷ []) q → Side p e rest q
  higher : (f : Entry) → Contains rest f → Begins (p ++ f.name ∷ []) q → Side p e rest q

side : (d : Disk) (p q : Path) (done : List Entry) (e : Entry) (rest : List Entry) → IsListing d p (done ++ e ∷ rest) → Stands d q → Through p q → Side p e rest q
side d p q done e rest listing stands (inl less) = lower (path_total.trans q p (p ++ e.name ∷ []) less (less_below p e.name []))
side d p q done e rest listing stands (inr ([], eq)) = lower (ap (λ x. path_cmp x (p ++ e.name ∷ [])) (eq ∙ append-nil p) ∙ less_below p e.name [])
side d p q done e rest listing stands (inr (part ∷ more, eq)) =
    let same : q ++ stands.0 ≡ p ++ part ∷ (more ++ stands.0) = ap (λ x. x ++ stands.0) eq ∙ append_assoc p (part ∷ more) stands.0 in
    let f = listing.all part (more ++ stands.0) (subst (λ r. IsSome (d r)) same stands.1) in
    let at : q ≡ p ++ f.0.name ∷ more = eq ∙ ap (λ n. p ++ n ∷ more) (sym f.2) in
    let begins : Begins (p ++ f.0.name ∷ []) q = (more, at ∙ sym (append_assoc p (f.0.name ∷ []) more)) in
    elim (Contains-append_cases done (e ∷ rest) f.0 f.1) [
      | inl old ↦ lower (ap (λ x. path_cmp x (p ++ e.name ∷ [])) at ∙ lower_name p f.0.name e.name more (earlier done e rest f.0 listing.entries_of.order old))
      | inr new ↦ elim (contains_cases e f.0 rest new) [
        | inl is ↦ here (subst (λ x. Begins (p ++ x.name ∷ []) q) (sym is) begins)
        | inr last ↦ higher f.0 last begins
      ]
    ]

out_of_rest : (p q : Path) (done : List Entry) (e : Entry) (rest : List Entry) (f : Entry) → ByName (done ++ e ∷ rest) → Contains rest f → Begins (p ++ f.name ∷ []) q → path_cmp q (p ++ e.name ∷ []) ≡ Less → ⊥
out_of_rest p q done e rest f order c begins less =
    higher_not_before p e.name f.name begins.0 (later done e rest f order c) (ap (λ x. path_cmp x (p ++ e.name ∷ [])) (sym (begins.1 ∙ append_assoc p (f.name ∷ []) begins.0)) ∙ less)

-- the next entry is reached
pub next : (most : Limits) (d : Disk) (folder p : Path) (found : List Path) (done : List Entry) (e : Entry) (rest : List Entry) → IsListing d p (done ++ e ∷ rest)
    → Upto most d folder (Until p (e ∷ rest)) found → Upto most d folder (Before (p ++ e.name ∷ [])) found
next most d folder p found done e rest listing u = recut most d folder (Until p (e ∷ rest)) (Before (p ++ e.name ∷ [])) found
    (λ q stands at. elim (side d p q done e rest listing stands at.0) [
      | lower less ↦ less
      | here begins ↦ absurd (at.1 e (contains_first e rest) begins)
      | higher f c begins ↦ absurd (at.1 f (contains_later e f rest c) begins)
    ])
    (λ q stands less. (
      before_name p e.name q less,
      λ f c begins. elim (contains_cases e f rest c) [
        | inl same ↦ name_not_below p e.name begins.0 (ap (λ x. path_cmp x (p ++ e.name ∷ [])) (sym (begins.1 ∙ append_assoc p (f.name ∷ []) begins.0 ∙ ap (λ x. p ++ x.name ∷ begins.0) (sym same))) ∙ less)
        | inr last ↦ out_of_rest p q done e rest f listing.entries_of.order last begins less
      ],
    ))
    u

-- an entry is dealt with
pub passed : (most : Limits) (d : Disk) (folder p : Path) (found : List Path) (done : List Entry) (e : Entry) (rest : List Entry) → IsListing d p (done ++ e ∷ rest)
    → Upto most d folder (Through (p ++ e.name ∷ [])) found → Upto most d folder (Until p rest) found
passed most d folder p found done e rest listing u = recut most d folder (Through (p ++ e.name ∷ [])) (Until p rest) found
    (λ q stands at. elim at [
      | inl less ↦ (before_name p e.name q less, λ f c begins. out_of_rest p q done e rest f listing.entries_of.order c begins less)
      | inr begins ↦ (
        inr (begins_up p e.name q begins),
        λ f c other.
            (let same : e.name ∷ begins.0 ≡ f.name ∷ other.0 = cancel p (e.name ∷ begins.0) (f.name ∷ other.0)
            (sym (append_assoc p (e.name ∷ []) begins.0) ∙ sym begins.1 ∙ other.1 ∙ append_assoc p (f.name ∷ []) other.0) in
            differ e.name f.name (later done e rest f listing.entries_of.order c) (cc)),
      )
    ])
    (λ q stands at. elim (side d p q done e rest listing stands at.0) [
      | lower less ↦ inl less
      | here begins ↦ inr begins
      | higher f c begins ↦ absurd (at.1 f c begins)
    ])
    u

-- a folder is left
pub leave : (most : Limits) (d : Disk) (folder p : Path) (found : List Path) → Upto most d folder (Until p []) found → Upto most d folder (Through p) found
leave most d folder p found u = recut most d folder (Until p []) (Through p) found (λ q stands at. at.0) (λ q stands at. (at, λ e c. absurd (contains_nothing e c))) u

-- the walk is done
pub finish : (most : Limits) (d : Disk) (folder : Path) (found : List Path) → Upto most d folder (Through folder) found → AreFiles d folder found × IsCalm most d folder
finish most d folder found u = (
  record {
    order = u.order;
    sound = λ q h. (let s = u.sound q h in (s.0, s.1));
    all = λ q file below. u.all q file below (inr below);
  },
  λ q other passes. u.calm q other (inr (passes_within most d folder q other passes)) passes,
)
