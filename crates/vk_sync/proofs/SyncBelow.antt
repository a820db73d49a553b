-- No call of a synchronising changes anything but below its root.
use Rattle.std.proofs.Common.{◌++◌, ◌+◌, ◌/◌, [], ◌∷◌, ℕ, zero, suc, List, length, take, drop, Bool, true, false, refl, sym, subst}
use Rattle.std.specs.Prelude.{Result, Ok, Err, if◌then◌else◌}
use Rattle.std.specs.List.{All}
use Rattle.std.proofs.lemmas.List.Elements.{All-nil, All-cons, All-append, All-head, All-tail}
use Rattle.vk_spec.specs.Paths.{Path, Begins}
use Rattle.vk_spec.specs.Calls.{Call, remove_of}
use Rattle.vk_base.specs.declared.limits.Limit.{Limit}
use Rattle.vk_protocol.specs.Protocols.{Protocol, ends, asks, on_ok, each}
use Rattle.vk_protocol.specs.Runs.{AsksOnly}
use Rattle.vk_protocol.proofs.ProtocolLemmas.{only_then, only_each, only_more, only_ok}
use Rattle.vk_walk.specs.Walks as walks
use Rattle.vk_walk.specs.Walked.{walk_limits}
use Rattle.vk_walk.specs.WalkProtocol.{ListsIn, walk_of}
use Rattle.vk_walk.proofs.WalkAsks.{walk_lists}
use Rattle.vk_sync.specs.Syncs.{Placed, ChangesBelow, placed_in, is_in, paths_of, is_piece, most_piece, compare_from, compare_of, holds_of, noted, compare_one, remove_one, write_one, change_of, sync_found, sync_of}
use Rattle.vk_sync.proofs.WalkBelow.{Comes, OnDone, comes_then, comes_ok, only_by, found_below}

module _ (root : Path) where
  abbrev M : Call → Type 0
  M = ChangesBelow root

  lists_none : (call : Call) → ListsIn root call → M call
  lists_none call lists = subst M (sym lists.2) (λ q at. absurd at)

  either : {A : Type 0} (b : Bool) (p q : Protocol A) → AsksOnly M p → AsksOnly M q → AsksOnly M (if b then p else q)
  either true p q one other = one
  either false p q one other = other

  compares : (left : ℕ) (path : Path) (bytes : List ℕ) (at : ℕ) → AsksOnly M (compare_from left path bytes at)
  compares zero path bytes at = tt
  compares (suc left) path bytes at = (
    (λ q t. absurd t),
    (λ reply. either (is_piece (take most_piece (drop at bytes)) reply) (compare_from left path bytes (at + most_piece)) (ends false) (compares left path bytes (at + most_piece)) tt),
  )

  holds : (found : List Path) (file : Placed) → AsksOnly M (holds_of (is_in found) file)
  holds found file = either (is_in found file.0) (compare_of file.0 file.1) (ends false) (compares (length file.1 / most_piece + 1) file.0 file.1 0) tt

  compared : (found : List Path) (file : Placed) (lack : List Placed) → AsksOnly M (compare_one (is_in found) file lack)
  compared found file lack = only_then M (holds_of (is_in found) file) (λ h. ends (Ok (noted file lack h))) (holds found file) (λ h. tt)

  -- the files stand below the root
  abbrev AreIn : List Placed → Type 0
  AreIn files = All (λ (x : Placed). Begins root x.0) files

  keeps_in : (found : List Path) (file : Placed) (lack : List Placed) → Begins root file.0 → AreIn lack → Comes (OnDone AreIn) (compare_one (is_in found) file lack)
  keeps_in found file lack at are = comes_then (λ h. Unit {0}) (OnDone AreIn) (holds_of (is_in found) file) (λ h. ends (Ok (noted file lack h))) (any (holds_of (is_in found) file)) (λ h u. noted_in h)
    where
      any : {A : Type 0} (p : Protocol A) → Comes (λ x. Unit {0}) p
      any (ends x) = tt
      any (asks call k) = λ reply. any (k reply)

      noted_in : (h : Bool) → AreIn (noted file lack h)
      noted_in true = are
      noted_in false = All-append (λ (x : Placed). Begins root x.0) lack (file ∷ []) are (All-cons (λ (x : Placed). Begins root x.0) file [] at (All-nil (λ (x : Placed). Begins root x.0)))

  compared_in : (found : List Path) (files lack : List Placed) → AreIn files → AreIn lack → Comes (OnDone AreIn) (each (compare_one (is_in found)) files lack)
  compared_in found [] lack are in_lack = in_lack
  compared_in found (x ∷ xs) lack are in_lack = comes_then (OnDone AreIn) (OnDone AreIn) (compare_one (is_in found) x lack) (on_ok (each (compare_one (is_in found)) xs))
      (keeps_in found x lack (All-head (λ (x : Placed). Begins root x.0) x xs are) in_lack)
      (λ r is. comes_ok AreIn AreIn (each (compare_one (is_in found)) xs) r (λ t at. compared_in found xs t (All-tail (λ (x : Placed). Begins root x.0) x xs are) at) is)

  -- ---- the changes

  removes : (is_wanted : Path → Bool) (found : List Path) → All (Begins root) found → (u : Unit {0}) → AsksOnly M (each (remove_one is_wanted) found u)
  removes is_wanted [] are u = tt
  removes is_wanted (p ∷ ps) are u =
      only_then M (remove_one is_wanted p u) (on_ok (each (remove_one is_wanted) ps))
      (either (is_wanted p) (ends (Ok tt)) (asks (remove_of p) (λ reply. ends (Ok tt))) tt ((λ q same. subst (Begins root) (sym same) (All-head (Begins root) p ps are)), λ reply. tt))
      (λ r. only_ok M (each (remove_one is_wanted) ps) r (λ v. removes is_wanted ps (All-tail (Begins root) p ps are) v))

  writes : (lack : List Placed) → AreIn lack → (u : Unit {0}) → AsksOnly M (each write_one lack u)
  writes [] are u = tt
  writes (x ∷ xs) are u =
      only_then M (write_one x u) (on_ok (each write_one xs))
      ((λ q same. subst (Begins root) (sym same) (All-head (λ (x : Placed). Begins root x.0) x xs are)), λ reply. tt)
      (λ r. only_ok M (each write_one xs) r (λ v. writes xs (All-tail (λ (x : Placed). Begins root x.0) x xs are) v))

  changes : (files : List Placed) (found : List Path) (lack : List Placed) → All (Begins root) found → AreIn lack → AsksOnly M (change_of files found lack)
  changes files found lack are in_lack =
      only_then M (each (remove_one (is_in (paths_of files))) found tt) (on_ok (λ u. each write_one lack u)) (removes (is_in (paths_of files)) found are tt) (λ r. only_ok M (λ u. each write_one lack u) r (λ u. writes lack in_lack u))

  found_only : (files : List Placed) → AreIn files → (r : Result (List Path) walks.Limit) → OnDone (All (Begins root)) r → AsksOnly M (sync_found files r)
  found_only files are (Ok found) below =
      only_by M (OnDone AreIn) (each (compare_one (is_in found)) files []) (on_ok (change_of files found))
      (only_each M (compare_one (is_in found)) files [] (λ file lack. compared found file lack))
      (compared_in found files [] are (All-nil (λ (x : Placed). Begins root x.0)))
      (λ r is. lack_only files found below r is)
    where
      lack_only : (files : List Placed) (found : List Path) → All (Begins root) found → (r : Result (List Placed) Limit) → OnDone AreIn r → AsksOnly M (on_ok (change_of files found) r)
      lack_only files found below (Ok lack) is = changes files found lack below is
      lack_only files found below (Err over) is = tt
  found_only files are (Err over) below = tt

  placed_below : (wanted : List Placed) → AreIn (placed_in root wanted)
  placed_below [] = All-nil (λ (x : Placed). Begins root x.0)
  placed_below (x ∷ xs) = All-cons (λ (x : Placed). Begins root x.0) (root ++ x.0, x.1) (placed_in root xs) (x.0, refl) (placed_below xs)

  pub sync_below : (wanted : List Placed) → AsksOnly M (sync_of root wanted)
  unfolding sync_of
  sync_below wanted = only_by M (OnDone (All (Begins root))) (walk_of walk_limits root) (sync_found (placed_in root wanted))
      (only_more (ListsIn root) M (walk_of walk_limits root) lists_none (walk_lists walk_limits root)) (found_below walk_limits root) (λ r is. found_only (placed_in root wanted) (placed_below wanted) r is)
