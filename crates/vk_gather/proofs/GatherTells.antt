-- What a gathering comes to over files that stay.
use Rattle.std.proofs.Common.{◌≡◌, ◌≤◌, ◌<◌, ◌+◌, ◌-◌, inl, inr, ℕ, List, [], ◌∷◌, ◌++◌, map, length, refl, ap, sym, ◌∙◌, subst, arith}
use Rattle.std.proofs.lemmas.Bool.Decides.{nat_tests}
use Rattle.std.proofs.lemmas.List.{map-append, append-nil, append_assoc}
use Rattle.std.proofs.lemmas.List.Elements.{Contains-append_right, Contains-push_cases}
use Rattle.std.proofs.lemmas.List.Sums.{sum_by-append, sum_by-cons}
use Rattle.std.specs.Prelude.{Some, IsSome, Result, Ok, Err}
use Rattle.std.specs.List.{Contains}
use Rattle.vk_spec.specs.Lists.{NoRepeats}
use Rattle.vk_spec.specs.Paths.{Path}
use Rattle.vk_spec.specs.Standing.{Disk, IsFile}
use Rattle.vk_spec.specs.Calls.{read_of, missing, too_large, exists, many}
use Rattle.vk_spec.proofs.FileLemmas.{none_some}
use Rattle.vk_spec.proofs.ListLemmas.{contains_nothing, contains_first}
use Rattle.vk_base.specs.Paths.{parts_of}
use Rattle.vk_base.specs.declared.limits.Limit.{Limit}
use Rattle.vk_base.specs.declared.limits.Limit.TheVariants as limit
use Rattle.vk_tree.specs.Trees.{IsTreeDisk}
use Rattle.vk_walk.specs.Walks as walks
use Rattle.vk_walk.specs.Walks.{text_order}
use Rattle.vk_walk.specs.Walked.{walk_limits}
use Rattle.vk_walk.specs.WalkProtocol.{walk_of, WalkedIs}
use Rattle.vk_walk.proofs.WalkTells.{walk_tells}
use Rattle.vk_protocol.specs.Protocols.{Reply, ends, on_ok, each, ◌>>=◌}
use Rattle.vk_protocol.specs.Runs.{Replies, Tells}
use Rattle.vk_protocol.proofs.ProtocolLemmas.{tells_then}
use Rattle.vk_folder.specs.Folders as folders
use Rattle.vk_folder.specs.Folders.{StandsBelow, ByText, AreFilesOf, bytes_of, HasMoreBytes}
use Rattle.vk_folder.proofs.FolderLemmas.{paths_of, below_same}
use Rattle.vk_folder.proofs.MemberLemmas.{contains_mapped, mapped_from, mapped_once}
use Rattle.vk_entry.specs.Packages.{File}
use Rattle.vk_gather.specs.Gathers.{Gathered, file_told, read_one, files_in, seen_in, read_found, gather_of}
use Rattle.vk_gather.specs.GatherIs.{HasPaths, folder_file, GatherIs}
use Rattle.vk_gather.proofs.SeenInOrder.{Ascend, ascend_once}
use Rattle.vk_gather.proofs.FolderSeen.{AreSeen, seen_of_walk}

-- ---- files of a list

one_path : (of : List folders.File) (f : folders.File) (left : List Path) → paths_of of ++ f.path ∷ left ≡ paths_of (of ++ f ∷ []) ++ left
one_path of f left = sym (append_assoc (paths_of of) (f.path ∷ []) left) ∙ ap (λ l. l ++ left) (sym (map-append (λ x. x.path) of (f ∷ [])))

one_more_bytes : (of : List folders.File) (f : folders.File) → bytes_of (of ++ f ∷ []) ≡ bytes_of of + length f.bytes
one_more_bytes of f = omega (arith, sum_by-append (λ x. length x.bytes) of (f ∷ []), sum_by-cons (λ x. length x.bytes) f [])

one_stands : (d : Disk) (folder : Path) (of : List folders.File) (f : folders.File) → StandsBelow d folder f → ((g : folders.File) → Contains of g → StandsBelow d folder g) → (g : folders.File) → Contains (of ++ f ∷ []) g → StandsBelow d folder g
one_stands d folder of f one all g at = elim (Contains-push_cases of f g at) [ inl old ↦ all g old | inr same ↦ subst (StandsBelow d folder) same one ]

by_text : (fs : List folders.File) → Ascend (paths_of fs) → ByText fs
by_text [] order = tt
by_text (f ∷ fs) order = ((λ g at. order.0 g.path (contains_mapped (λ x. x.path) fs g at)), by_text fs order.1)

room_taken : (room bytes before most : ℕ) → bytes ≤ room → room + before ≡ most → (room - bytes) + (before + bytes) ≡ most
room_taken room bytes before most small is = grind (arith, nat_tests, small, is)

module _ (most : ℕ) (folder : Path) (d : Disk) (seen : List Path) (are : AreSeen folder d seen) where
  -- the first paths were dealt with, and these are left
  record Reached (left : List Path) (g : Gathered) : Type 0 where
    pub of : List folders.File
    pub is : map folder_file g.files ≡ of
    pub split : seen ≡ paths_of of ++ left
    pub stand : (f : folders.File) → Contains of f → StandsBelow d folder f
    pub bytes : g.room + bytes_of of ≡ most

  -- all were read, or they have too many bytes
  abbrev Goes : Result Gathered Limit → Type 0
  Goes (Ok g) = Reached [] g
  Goes (Err fault) = (fault ≡ limit.Bytes most) × HasMoreBytes most d folder

  -- ---- the next file

  next_file : (x : Path) (left : List Path) (g : Gathered) → Reached (x ∷ left) g → (part : List ℕ) × (rest : Path) × (x ≡ (46 ∷ []) ∷ part ∷ rest) × IsFile d (folder ++ part ∷ rest)
  next_file x left g r = are.sound x (subst (λ l. Contains l x) (sym r.split) (Contains-append_right (paths_of r.of) (x ∷ left) x (contains_first x left)))

  there : (x : Path) (left : List Path) (g : Gathered) → Reached (x ∷ left) g → IsFile d (folder ++ parts_of x)
  there x left g r = let at = next_file x left g r in subst (λ p. IsSome (d (folder ++ p))) (sym (ap parts_of at.2)) at.3

  stands : (x : Path) (left : List Path) (g : Gathered) (bytes : List ℕ) → Reached (x ∷ left) g → d (folder ++ parts_of x) ≡ Some bytes → StandsBelow d folder (record { path = x; bytes = bytes })
  stands x left g bytes r is = let at = next_file x left g r in (at.0, at.1, at.2, ap (λ p. d (folder ++ p)) (sym (ap parts_of at.2)) ∙ is)

  step : (x : Path) (left : List Path) (g : Gathered) (bytes : List ℕ) → Reached (x ∷ left) g → d (folder ++ parts_of x) ≡ Some bytes → length bytes ≤ g.room
      → Reached left (record { files = g.files ++ record { path = x; bytes = bytes } ∷ []; room = g.room - length bytes })
  step x left g bytes r is small =
      let f : folders.File = record { path = x; bytes = bytes } in
      let file : File = record { path = x; bytes = bytes } in
      record {
        of = r.of ++ f ∷ [];
        is = map-append folder_file g.files (file ∷ []) ∙ ap (λ l. l ++ f ∷ []) r.is;
        split = r.split ∙ one_path r.of f left;
        stand = one_stands d folder r.of f (stands x left g bytes r is) r.stand;
        bytes = ap (λ n. (g.room - length bytes) + n) (one_more_bytes r.of f) ∙ room_taken g.room (length bytes) (bytes_of r.of) most small r.bytes;
      }

  over : (x : Path) (left : List Path) (g : Gathered) (bytes : List ℕ) → Reached (x ∷ left) g → d (folder ++ parts_of x) ≡ Some bytes → g.room < length bytes → HasMoreBytes most d folder
  over x left g bytes r is past =
      let f : folders.File = record { path = x; bytes = bytes } in (
        r.of ++ f ∷ [],
        mapped_once (λ h. h.path) (r.of ++ f ∷ []) left (subst NoRepeats (r.split ∙ one_path r.of f left) (ascend_once seen are.order)),
        one_stands d folder r.of f (stands x left g bytes r is) r.stand,
        omega (arith, r.bytes, past, one_more_bytes r.of f),
      )

  after_one : (x : Path) (left : List Path) (g : Gathered) (reply : Reply (read_of (folder ++ parts_of x) g.room)) → Replies (read_of (folder ++ parts_of x) g.room) reply d → Reached (x ∷ left) g
      → ((h : Gathered) → Reached left h → Tells Goes (each (read_one most folder) left h) d) → Tells Goes (on_ok (each (read_one most folder) left) (file_told most x g reply)) d
  after_one x left g (Ok bytes) may r more = more (record { files = g.files ++ record { path = x; bytes = bytes } ∷ []; room = g.room - length bytes }) (step x left g bytes r may.says may.small)
  after_one x left g (Err missing) may r more = absurd (none_some (d (folder ++ parts_of x)) may.says (there x left g r))
  after_one x left g (Err too_large) may r more = (refl, over x left g may.says.0 r may.says.1 may.says.2)
  after_one x left g (Err exists) may r more = absurd may.says
  after_one x left g (Err many) may r more = absurd may.says

  each_read : (left : List Path) (g : Gathered) → Reached left g → Tells Goes (each (read_one most folder) left g) d
  each_read [] g r = r
  each_read (x ∷ left) g r = λ reply may. after_one x left g reply may r (each_read left)

  -- ---- the end

  first : Reached seen (record { files = []; room = most })
  first = record { of = []; is = refl; split = refl; stand = λ f at. absurd (contains_nothing f at); bytes = omega arith }

  all_read : (g : Gathered) → Reached [] g → AreFilesOf d folder (map folder_file g.files)
  all_read g r =
      let whole : seen ≡ paths_of r.of = r.split ∙ append-nil (paths_of r.of) in
      subst (AreFilesOf d folder) (sym r.is) (record {
        order = by_text r.of (subst Ascend whole are.order);
        sound = r.stand;
        all = λ f b.
            let at : Contains seen f.path = subst (Contains seen) (sym b.2) (are.all b.0 b.1 (subst IsSome (sym b.3) refl)) in
            let own = mapped_from (λ h. h.path) r.of f.path (subst (λ l. Contains l f.path) whole at) in
            subst (Contains r.of) (below_same d folder own.0 f (r.stand own.0 own.1) b own.2) own.1;
      })

  ended : (r : Result Gathered Limit) → Goes r → GatherIs most folder (files_in r) d
  ended (Ok g) h = (are.calm, record { are = all_read g h; small = omega (arith, h.bytes, ap bytes_of h.is) })
  ended (Err fault) h = subst (λ f. GatherIs most folder (Err f) d) (sym h.0) (refl, are.calm, h.1)

  files_tell : Tells (λ r. GatherIs most folder r d) (each (read_one most folder) seen (record { files = []; room = most }) >>= λ r. ends (files_in r)) d
  files_tell = tells_then Goes (λ r. GatherIs most folder r d) (each (read_one most folder) seen (record { files = []; room = most })) (λ r. ends (files_in r)) d ended (each_read seen (record { files = []; room = most }) first)

-- ---- the whole

found_tells : (most : ℕ) (folder : Path) (d : Disk) → IsTreeDisk d → HasPaths folder d → (r : Result (List Path) walks.Limit) → WalkedIs walk_limits folder r d → Tells (λ r. GatherIs most folder r d) (read_found most folder r) d
found_tells most folder d tree paths (Ok found) h = files_tell most folder d (seen_in folder found) (seen_of_walk d folder found tree paths h)
found_tells most folder d tree paths (Err walks.deep) h = h
found_tells most folder d tree paths (Err walks.entries) h = h
found_tells most folder d tree paths (Err walks.files) h = h

on_tree : (most : ℕ) (folder : Path) (d : Disk) → IsTreeDisk d → HasPaths folder d → Tells (λ r. GatherIs most folder r d) (walk_of walk_limits folder >>= read_found most folder) d
on_tree most folder d tree paths = tells_then (λ r. WalkedIs walk_limits folder r d) (λ r. GatherIs most folder r d) (walk_of walk_limits folder) (read_found most folder) d
    (found_tells most folder d tree paths) (walk_tells walk_limits folder d refl)

-- what a gathering comes to is what the files say
pub gather_tells : (most : ℕ) (folder : Path) (d : Disk) → HasPaths folder d → Tells (λ r. GatherIs most folder r d) (gather_of most folder) d
unfolding gather_of walk_of
gather_tells most folder d paths = λ reply may. on_tree most folder d may.tree paths reply may
