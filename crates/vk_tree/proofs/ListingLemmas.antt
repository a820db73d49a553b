-- One file more, when a folder is listed.
use Rattle.std.proofs.Common.{◌≡◌, ◌≤◌, ◌<◌, ◌⊎◌, inl, inr, ℕ, true, false, List, [], ◌∷◌, ◌++◌, length, length-append, refl, ap, sym, ◌∙◌, subst, arith}
use Rattle.std.proofs.lemmas.List.{append_assoc, length-map}
use Rattle.std.proofs.lemmas.List.Elements.{Contains-push, Contains-push_cases, Contains-append_left}
use Rattle.std.specs.Prelude.{IsSome, Bool, Ok, Err}
use Rattle.std.specs.List.{Contains}
use Rattle.std.specs.declared.cmp.Ordering.{Ordering}
use Rattle.std.specs.declared.cmp.Ordering.TheVariants.{Less, Equal, Greater}
use Rattle.std.specs.Ordering.{nat_cmp, ordering_then}
use Rattle.std.specs.Cmp.Lexicographic.{slice_cmp}
use Rattle.std.specs.FinMap.{slice_cmp-IsAntisymmetric, nat_cmp-IsAntisymmetric}
use Rattle.vk_spec.specs.Paths.{Path, path_cmp, Begins}
use Rattle.vk_spec.proofs.ListLemmas.{contains_nothing, contains_first, contains_later, contains_cases}
use Rattle.vk_spec.proofs.OrderLemmas.{begun_between, less_below, no_gt}
use Rattle.vk_spec.specs.Standing.{Disk, Entry, IsFolder, IsAs, ByName, AreEntries, IsListing}
use Rattle.vk_spec.specs.Calls.{Says, list_of, most_entries}
use Rattle.vk_base.specs.declared.stops.Stop.{Stop}
use Rattle.vk_base.specs.declared.stops.Stop.TheVariants.{Fault, Failed, Memory}
use Rattle.vk_tree.specs.declared.trees.Listed.{Listed}
use Rattle.vk_tree.specs.declared.trees.ListFault.{ListFault}
use Rattle.vk_tree.specs.declared.trees.ListFault.TheVariants.{Missing, Many}
use Rattle.vk_tree.specs.Answers.{entry_of, entries_of, list_refusal, fault_by}
use Rattle.vk_tree.specs.Listing.{IsAscending, is_more, IsLastName, Added, Lists}
use Rattle.vk_tree.proofs.PlaceLemmas.{part_total, same_front, cancel}

-- the entry of a file
abbrev pub entry_at : List ℕ → Path → Entry
entry_at name more = record { name = name; folder = is_more more }

by_name_push : (found : List Entry) (x : Entry) → ByName found → ((e : Entry) → Contains found e → slice_cmp nat_cmp e.name x.name ≡ Less) → ByName (found ++ x ∷ [])
by_name_push [] x order before = ((λ f h. absurd (contains_nothing f h)), tt)
by_name_push (e ∷ es) x order before = (
  (λ f h. elim (Contains-push_cases es x f h) [
    | inl old ↦ order.0 f old
    | inr same ↦ subst (λ y. slice_cmp nat_cmp e.name y.name ≡ Less) same (before e (contains_first e es))
  ]),
  by_name_push es x order.1 (λ f h. before f (contains_later e f es h)),
)

at_name : (d : Disk) (dir : Path) (name : List ℕ) (more : Path) → IsSome (d (dir ++ name ∷ more)) → IsAs d (dir ++ name ∷ []) (is_more more)
at_name d dir name [] some = some
at_name d dir name (part ∷ rest) some = (part, rest, subst (λ q. IsSome (d q)) (sym (append_assoc dir (name ∷ []) (part ∷ rest))) some)

-- of two files in one folder, the later has the same name or a later one
tied_or_less : (o a : Ordering) → ordering_then o a ≡ Less → (o ≡ Less) ⊎ (o ≡ Equal)
tied_or_less Less a h = inl refl
tied_or_less Equal a h = inr refl
tied_or_less Greater a h = (cc)

name_after : (dir : Path) (name other : List ℕ) (more rest : Path) → path_cmp (dir ++ name ∷ more) (dir ++ other ∷ rest) ≡ Less → (slice_cmp nat_cmp name other ≡ Less) ⊎ (name ≡ other)
name_after dir name other more rest less =
    elim (tied_or_less (slice_cmp nat_cmp name other) (path_cmp more rest) (sym (same_front dir (name ∷ more) (other ∷ rest)) ∙ less)) [
      | inl lower ↦ inl lower
      | inr tied ↦ inr (slice_cmp-IsAntisymmetric nat_cmp-IsAntisymmetric name other tied)
    ]

-- the file's name is the last one
pub known_name : (d : Disk) (dir : Path) (name : List ℕ) (more : Path) (left : List Path) (found : List Entry) → IsLastName found name
    → Lists d dir ((dir ++ name ∷ more) ∷ left) found → Lists d dir left found
known_name d dir name more left found last n = record {
  order = n.order;
  sound = n.sound;
  all = λ other after some. elim (n.all other after some) [
    | inl known ↦ inl known
    | inr at ↦ elim (contains_cases (dir ++ name ∷ more) (dir ++ other ∷ after) left at) [
      | inl same ↦ (let tail : name ∷ more ≡ other ∷ after = cancel dir (name ∷ more) (other ∷ after) same in
          inl (last.1, subst (λ l. Contains l last.1) (sym last.2) (Contains-push last.0 last.1), last.3 ∙ (cc)))
      | inr later ↦ inr later
    ]
  ];
  ahead = λ e c other after at. n.ahead e c other after (contains_later (dir ++ name ∷ more) (dir ++ other ∷ after) left at);
  ascending = n.ascending.1;
  after = λ q at. n.after q (contains_later (dir ++ name ∷ more) q left at);
  files = λ q at. n.files q (contains_later (dir ++ name ∷ more) q left at);
}

last_pushed : (found : List Entry) (x : Entry) → IsLastName (found ++ x ∷ []) x.name
last_pushed found x = (found, x, refl, refl)

-- the file's name is a new one
pub new_name : (d : Disk) (dir : Path) (name : List ℕ) (more : Path) (left : List Path) (found : List Entry) → (IsLastName found name → ⊥)
    → Lists d dir ((dir ++ name ∷ more) ∷ left) found → Lists d dir left (found ++ entry_at name more ∷ [])
new_name d dir name more left found fresh n =
    let first = contains_first (dir ++ name ∷ more) left in
    let before : (e : Entry) → Contains found e → slice_cmp nat_cmp e.name name ≡ Less
    = λ e c. elim (n.ahead e c name more first) [ inl less ↦ less | inr last ↦ absurd (fresh last) ] in
    record {
      order = by_name_push found (entry_at name more) n.order before;
      sound = λ e c. elim (Contains-push_cases found (entry_at name more) e c) [
        | inl old ↦ n.sound e old
        | inr same ↦ subst (λ x. IsAs d (dir ++ x.name ∷ []) x.folder) same (at_name d dir name more (n.files (dir ++ name ∷ more) first))
      ];
      all = λ other after there. elim (n.all other after there) [
        | inl known ↦ inl (known.0, Contains-append_left found (entry_at name more ∷ []) known.0 known.1, known.2)
        | inr at ↦ elim (contains_cases (dir ++ name ∷ more) (dir ++ other ∷ after) left at) [
          | inl same ↦ (let tail : name ∷ more ≡ other ∷ after = cancel dir (name ∷ more) (other ∷ after) same in
              inl (entry_at name more, Contains-push found (entry_at name more), (cc)))
          | inr later ↦ inr later
        ]
      ];
      ahead = λ e c other after at. elim (name_after dir name other more after (n.ascending.0 (dir ++ other ∷ after) at)) [
        | inr same ↦ inr (subst (IsLastName (found ++ entry_at name more ∷ [])) same (last_pushed found (entry_at name more)))
        | inl less ↦ elim (Contains-push_cases found (entry_at name more) e c) [
          | inl old ↦ inl (part_total.trans e.name name other (before e old) less)
          | inr is ↦ inl (subst (λ x. slice_cmp nat_cmp x.name other ≡ Less) is less)
        ]
      ];
      ascending = n.ascending.1;
      after = λ q at. n.after q (contains_later (dir ++ name ∷ more) q left at);
      files = λ q at. n.files q (contains_later (dir ++ name ∷ more) q left at);
    }

-- no more files
pub all_listed : (d : Disk) (dir : Path) (found : List Entry) → Lists d dir [] found → IsListing d dir found
all_listed d dir found n = record {
  entries_of = record { order = n.order; sound = n.sound };
  all = λ name more some. elim (n.all name more some) [ inl known ↦ known | inr at ↦ absurd (contains_nothing (dir ++ name ∷ more) at) ];
}

-- the next one lies in another folder
none_left : (dir h : Path) (left : List Path) → path_cmp dir h ≡ Less → (Begins dir h → ⊥) → IsAscending (h ∷ left) → (name : List ℕ) (more : Path) → Contains (h ∷ left) (dir ++ name ∷ more) → ⊥
none_left dir h left after apart ascending name more c = elim (contains_cases h (dir ++ name ∷ more) left c) [
  | inl same ↦ apart (name ∷ more, same)
  | inr later ↦ apart (begun_between dir h (dir ++ name ∷ more) (name ∷ more, refl) (no_gt (path_cmp dir h) after) (no_gt (path_cmp h (dir ++ name ∷ more)) (ascending.0 (dir ++ name ∷ more) later)))
]

pub rest_apart : (d : Disk) (dir h : Path) (left : List Path) (found : List Entry) → (Begins dir h → ⊥) → Lists d dir (h ∷ left) found → IsListing d dir found
rest_apart d dir h left found apart n = record {
  entries_of = record { order = n.order; sound = n.sound };
  all = λ name more some. elim (n.all name more some) [
    | inl known ↦ known
    | inr at ↦ absurd (none_left dir h left (n.after h (contains_first h left)) apart n.ascending name more at)
  ];
}

-- all files after the folder
pub none_listed : (d : Disk) (dir : Path) (left : List Path) → IsAscending left → ((q : Path) → Contains left q → (path_cmp dir q ≡ Less) × IsSome (d q))
    → ((q : Path) → IsSome (d q) → path_cmp dir q ≡ Less → Contains left q) → Lists d dir left []
none_listed d dir left ascending are all = record {
  order = tt;
  sound = λ e c. absurd (contains_nothing e c);
  all = λ name more some. inr (all (dir ++ name ∷ more) some (less_below dir name more));
  ahead = λ e c. absurd (contains_nothing e c);
  ascending = ascending;
  after = λ q at. (are q at).0;
  files = λ q at. (are q at).1;
}

-- a first entry: a file stands at it or below it
entry_folder : (d : Disk) (dir : Path) (name : List ℕ) (folder : Bool) → IsAs d (dir ++ name ∷ []) folder → IsFolder d dir
entry_folder d dir name false h = (name, [], h)
entry_folder d dir name true h = (name, h.0 ∷ h.1, subst (λ q. IsSome (d q)) (append_assoc dir (name ∷ []) (h.0 ∷ h.1)) h.2)

pub some_entry : (d : Disk) (dir : Path) (es : List Entry) → AreEntries d dir es → 0 < length es → IsFolder d dir
some_entry d dir [] listing some = absurd (omega (arith, some))
some_entry d dir (e ∷ es) listing some = entry_folder d dir e.name e.folder (listing.sound e (contains_first e es))

-- no entry: no file lies below
pub no_entry : (d : Disk) (dir : Path) (es : List Entry) → IsListing d dir es → es ≡ [] → IsFolder d dir → ⊥
no_entry d dir es listing none folder =
    let e = listing.all folder.0 folder.1 folder.2 in contains_nothing e.0 (subst (λ l. Contains l e.0) none e.1)

-- one file more
pub one_listed : (d : Disk) (dir path : Path) (name : List ℕ) (folder : Bool) (more : Path) (left : List Path) (most : ℕ) (old new : List Entry)
    → path ≡ dir ++ name ∷ more → folder ≡ is_more more → Added most old (record { name = name; folder = folder }) (Ok tt) new → Lists d dir (path ∷ left) old → Lists d dir left new
one_listed d dir path name folder more left most old new path_is folder_is added lists =
    let here : Lists d dir ((dir ++ name ∷ more) ∷ left) old = subst (λ p. Lists d dir (p ∷ left) old) path_is lists in
    elim added [
      | inl known ↦ subst (Lists d dir left) (sym known.1) (known_name d dir name more left old known.0 here)
      | inr fresh ↦ subst (Lists d dir left) (sym (fresh.2 ∙ ap (λ b. old ++ record { name = name; folder = b } ∷ []) folder_is)) (new_name d dir name more left old fresh.0 here)
    ]

-- one entry more than may be
pub one_too_many : (d : Disk) (dir path : Path) (name : List ℕ) (more : Path) (left : List Path) (most : ℕ) (old : List Entry)
    → path ≡ dir ++ name ∷ more → (IsLastName old name → ⊥) → most ≤ length old → Lists d dir (path ∷ left) old → (es : List Entry) × AreEntries d dir es × (most < length es)
one_too_many d dir path name more left most old path_is fresh full lists =
    let here : Lists d dir ((dir ++ name ∷ more) ∷ left) old = subst (λ p. Lists d dir (p ∷ left) old) path_is lists in
    let all = new_name d dir name more left old fresh here in
    (old ++ entry_at name more ∷ [], record { order = all.order; sound = all.sound }, omega (arith, full, length-append old (entry_at name more ∷ [])))

pub still_few : (most : ℕ) (old new : List Listed) (e : Entry) → Added most (entries_of old) e (Ok tt) (entries_of new) → length old ≤ most → length new ≤ most
still_few most old new e (inl known) few = omega (arith, few, ap length known.1, length-map old entry_of, length-map new entry_of)
still_few most old new e (inr fresh) few = omega (arith, fresh.1, ap length fresh.2, length-append (entries_of old) (e ∷ []), length-map old entry_of, length-map new entry_of)

-- why a folder isn't listed
pub refused : (d : Disk) (dir path : Path) (name : List ℕ) (folder : Bool) (more : Path) (left : List Path) (most : ℕ) (old new : List Entry) (e : Stop ListFault)
    → most ≡ most_entries → path ≡ dir ++ name ∷ more → Added most old (record { name = name; folder = folder }) (Err e) new → Lists d dir (path ∷ left) old → Says (list_of dir) (Err (fault_by list_refusal e)) d
refused d dir path name folder more left most old new (Fault Many) same path_is added lists =
    let es = one_too_many d dir path name more left most old path_is added.0 added.1 lists in
    (es.0, es.1, subst (λ n. n < length es.0) same es.2)
refused d dir path name folder more left most old new (Fault Missing) same path_is added lists = absurd added
refused d dir path name folder more left most old new Failed same path_is added lists = absurd added
refused d dir path name folder more left most old new (Memory m) same path_is added lists = tt

pub entries_some : (d : Disk) (dir : Path) (found : List Listed) → IsListing d dir (entries_of found) → (found ≡ [] → ⊥) → IsFolder d dir
entries_some d dir [] listing some = absurd (some refl)
entries_some d dir (l ∷ ls) listing some = some_entry d dir (entries_of (l ∷ ls)) listing.entries_of (omega arith)
