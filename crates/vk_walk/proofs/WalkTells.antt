-- What a walk comes to over files that stay.
use Rattle.std.proofs.Common.{inl, inr, ◌≡◌, ◌≤◌, ◌<◌, ◌+◌, ℕ, zero, suc, List, [], ◌∷◌, ◌++◌, length, length-append, true, false, refl, sym, subst, arith}
use Rattle.std.specs.Prelude.{Bool, Result, Ok, Err, nat_le, if◌then◌else◌}
use Rattle.std.proofs.lemmas.Bool.Decides.{nat_tests}
use Rattle.std.proofs.lemmas.List.{append-nil, append_assoc}
use Rattle.std.proofs.lemmas.List.Elements.{Contains-append_right}
use Rattle.vk_spec.specs.Paths.{Path, Begins}
use Rattle.vk_spec.proofs.ListLemmas.{contains_first}
use Rattle.vk_spec.specs.Standing.{Disk, Entry, IsAs, IsFolder, IsListing}
use Rattle.vk_spec.specs.Calls.{list_of, missing, too_large, exists, many, most_entries}
use Rattle.vk_walk.specs.Walks.{Limits, Limit, files, IsFirst}
use Rattle.vk_tree.specs.Trees.{IsTreeDisk}
use Rattle.vk_walk.specs.Progress.{Upto, Before, Through, Until}
use Rattle.vk_walk.proofs.StepLemmas.{begins_longer, start, enter, next, passed, take_file, leave, finish, files_first, deep_first, entries_first}
use Rattle.vk_protocol.specs.Protocols.{Reply, on_ok, each}
use Rattle.vk_protocol.specs.Runs.{Replies, Tells}
use Rattle.vk_protocol.proofs.ProtocolLemmas.{tells_then, tells_more}
use Rattle.vk_tree.proofs.ListingLemmas.{some_entry}
use Rattle.vk_walk.specs.WalkProtocol.{listed, with_file, walk_at, walk_of, WalkedIs}

-- the folder is done so far, or a limit is the first that is passed
abbrev Goes : Limits → Path → (Path → Type 0) → Disk → Result (List Path) Limit → Type 0
Goes most folder cut d (Ok found) = Upto most d folder cut found
Goes most folder cut d (Err limit) = IsFirst most d folder limit

taken : (most : Limits) (d : Disk) (folder path : Path) (found : List Path) → IsTreeDisk d → IsAs d path false → Begins folder path → Upto most d folder (Before path) found → Goes most folder (Through path) d (with_file most.files path found)
taken most d folder path found tree file below upto =
    elim (nat_le most.files (length found)) as (λ b. nat_le most.files (length found) ≡ b → Goes most folder (Through path) d (if b then Err files else Ok (found ++ path ∷ []))) [
      | true ↦ λ e. files_first most d folder path found file below (grind (arith, nat_tests, e)) upto
      | false ↦ λ e. take_file most d folder path found tree file below (grind (arith, nat_tests, e)) upto
    ] refl

-- what is known where the walk comes to something of its folder
record Come (most : Limits) (left : ℕ) (folder path : Path) (is : Bool) (found : List Path) (d : Disk) : Type 0 where
  pub tree : IsTreeDisk d
  pub stands : IsAs d path is
  pub below : Begins folder path
  pub near : length path + left ≡ length folder + (most.depth + 1)
  pub upto : Upto most d folder (Before path) found

abbrev Walks : Limits → ℕ → Path → Disk → Type 0
Walks most left folder d = (path : Path) (is : Bool) (found : List Path) → Come most left folder path is found d → Tells (Goes most folder (Through path) d) (walk_at most.files left path is found) d

after_one : (most : Limits) (folder path : Path) (d : Disk) (done : List Entry) (e : Entry) (rest : List Entry) (r : Result (List Path) Limit) → IsListing d path (done ++ e ∷ rest)
    → Goes most folder (Through (path ++ e.name ∷ [])) d r → Goes most folder (Until path rest) d r
after_one most folder path d done e rest (Ok found) listing h = passed most d folder path found done e rest listing h
after_one most folder path d done e rest (Err limit) listing h = h

each_walked : (most : Limits) (left : ℕ) (folder path : Path) (d : Disk) (done rest : List Entry) (r : Result (List Path) Limit) → Walks most left folder d → IsTreeDisk d → Begins folder path
    → length path + (left + 1) ≡ length folder + (most.depth + 1) → IsListing d path (done ++ rest) → Goes most folder (Until path rest) d r
    → Tells (Goes most folder (Until path []) d) (on_ok (each (λ e found. walk_at most.files left (path ++ e.name ∷ []) e.folder found) rest) r) d
each_walked most left folder path d done rest (Err limit) walks tree below near listing h = h
each_walked most left folder path d done [] (Ok found) walks tree below near listing h = h
each_walked most left folder path d done (e ∷ rest) (Ok found) walks tree below near listing h =
    tells_then (Goes most folder (Through (path ++ e.name ∷ [])) d) (Goes most folder (Until path []) d) (walk_at most.files left (path ++ e.name ∷ []) e.folder found) (on_ok (each (λ e found. walk_at most.files left (path ++ e.name ∷ []) e.folder found) rest)) d
    (λ r g. each_walked most left folder path d (done ++ e ∷ []) rest r walks tree below near (subst (IsListing d path) (sym (append_assoc done (e ∷ []) rest)) listing) (after_one most folder path d done e rest r listing g))
    (walks (path ++ e.name ∷ []) e.folder found (record {
      tree = tree;
      stands = listing.entries_of.sound e (Contains-append_right done (e ∷ rest) e (contains_first e rest));
      below = begins_longer folder path e.name below;
      near = omega (arith, near, length-append path (e.name ∷ []));
      upto = next most d folder path found done e rest listing h;
    }))

left_folder : (most : Limits) (folder path : Path) (d : Disk) (r : Result (List Path) Limit) → Goes most folder (Until path []) d r → Goes most folder (Through path) d r
left_folder most folder path d (Ok found) h = leave most d folder path found h
left_folder most folder path d (Err limit) h = h

in_folder : (most : Limits) (left : ℕ) (folder path : Path) (found : List Path) (d : Disk) (reply : Reply (list_of path)) → most.entries ≡ most_entries → Walks most left folder d → Come most (suc left) folder path true found d → Replies (list_of path) reply d
    → Tells (Goes most folder (Through path) d) (on_ok (λ es. each (λ e found. walk_at most.files left (path ++ e.name ∷ []) e.folder found) es found) (listed reply)) d
in_folder most left folder path found d (Ok es) same walks c may =
    let near : length path + (left + 1) ≡ length folder + (most.depth + 1) = omega (arith, c.near) in
    let close : length path ≤ length folder + most.depth = omega (arith, near) in
    let small : length es ≤ most.entries = subst (λ n. length es ≤ n) (sym same) may.small in
    tells_more (Goes most folder (Until path []) d) (Goes most folder (Through path) d) (each (λ e found. walk_at most.files left (path ++ e.name ∷ []) e.folder found) es found) d (left_folder most folder path d)
    (each_walked most left folder path d [] es (Ok found) walks c.tree c.below near may.says.0 (enter most d folder path found es c.tree c.stands close may.says.0 small c.upto))
in_folder most left folder path found d (Err missing) same walks c may = absurd (may.says c.stands)
in_folder most left folder path found d (Err too_large) same walks c may = absurd may.says
in_folder most left folder path found d (Err exists) same walks c may = absurd may.says
in_folder most left folder path found d (Err many) same walks c may =
    let near : length path + (left + 1) ≡ length folder + (most.depth + 1) = omega (arith, c.near) in
    let close : length path ≤ length folder + most.depth = omega (arith, near) in
    entries_first most d folder path found may.says.0 c.stands c.below close may.says.1 (subst (λ n. n < length may.says.0) (sym same) may.says.2) c.upto

walked : (most : Limits) (left : ℕ) (folder : Path) (d : Disk) → most.entries ≡ most_entries → Walks most left folder d
walked most left folder d same path false found c = taken most d folder path found c.tree c.stands c.below c.upto
walked most zero folder d same path true found c = deep_first most d folder path found c.stands c.below (omega (arith, c.near)) c.upto
walked most (suc left) folder d same path true found c = λ reply may. in_folder most left folder path found d reply same (walked most left folder d same) c may

from_root : (most : Limits) (folder : Path) (d : Disk) (is : IsFolder d folder) (r : Result (List Path) Limit) → Goes most folder (Through folder) d r → WalkedIs most folder r d
from_root most folder d is (Ok found) h = ((λ f. finish most d folder found h), inl is)
from_root most folder d is (Err limit) h = h

as_folder : (most : Limits) (folder : Path) (d : Disk) (reply : Reply (list_of folder)) → most.entries ≡ most_entries → IsFolder d folder → Replies (list_of folder) reply d
    → Tells (λ r. WalkedIs most folder r d) (on_ok (λ es. each (λ e found. walk_at most.files most.depth (folder ++ e.name ∷ []) e.folder found) es []) (listed reply)) d
as_folder most folder d reply same is may =
    tells_more (Goes most folder (Through folder) d) (λ r. WalkedIs most folder r d) (on_ok (λ es. each (λ e found. walk_at most.files most.depth (folder ++ e.name ∷ []) e.folder found) es []) (listed reply)) d
    (from_root most folder d is)
    (in_folder most most.depth folder folder [] d reply same (walked most most.depth folder d same) (record { tree = may.tree; stands = is; below = ([], sym (append-nil folder)); near = omega arith; upto = start most d folder }) may)

root_tells : (most : Limits) (folder : Path) (d : Disk) → most.entries ≡ most_entries → (reply : Reply (list_of folder)) → Replies (list_of folder) reply d
    → Tells (λ r. WalkedIs most folder r d) (on_ok (λ es. each (λ e found. walk_at most.files most.depth (folder ++ e.name ∷ []) e.folder found) es []) (listed reply)) d
root_tells most folder d same (Ok es) may = as_folder most folder d (Ok es) same may.says.1 may
root_tells most folder d same (Err missing) may = ((λ f. absurd (may.says f)), inr refl)
root_tells most folder d same (Err too_large) may = absurd may.says
root_tells most folder d same (Err exists) may = absurd may.says
root_tells most folder d same (Err many) may = as_folder most folder d (Err many) same (some_entry d folder may.says.0 may.says.1 (omega (arith, may.says.2))) may

pub walk_tells : (most : Limits) (folder : Path) (d : Disk) → most.entries ≡ most_entries → Tells (λ r. WalkedIs most folder r d) (walk_of most folder) d
unfolding walk_of
walk_tells most folder d same = λ reply may. root_tells most folder d same reply may
