-- What is only read in one place comes to the same over files that agree there.
use Rattle.std.proofs.Common.{◌≡◌, ◌++◌, [], ◌∷◌, ℕ, List, true, false, refl, ap, sym, ◌∙◌, subst, append_assoc}
use Rattle.std.specs.Prelude.{IsSome, Bool, Ok, Err}
use Rattle.vk_spec.specs.Paths.{Path, Begins}
use Rattle.vk_spec.specs.Standing.{Disk, under, Same, IsFolder, Entry, IsAs, AreEntries, IsListing}
use Rattle.vk_spec.specs.Calls.{Call, Kind, is_file, is_folder, is_absent, kind_of, read_of, piece_of, list_of, write_of, rename_of, remove_of, missing, too_large, exists, many, Says}
use Rattle.vk_tree.specs.Trees.{IsTreeDisk}
use Rattle.vk_protocol.specs.Below.{ReadsBelow}
use Rattle.vk_protocol.specs.Protocols.{Reply, answer_of, Protocol, ends, asks}
use Rattle.vk_protocol.specs.Runs.{AsksOnly, Reads, Tells}

pub reads_below : (place : Path) (call : Call) → ReadsBelow place call → Reads call
reads_below place (kind_of p) h = refl
reads_below place (read_of p limit) h = refl
reads_below place (piece_of p at most) h = refl
reads_below place (list_of p) h = refl
reads_below place (write_of p bytes) h = absurd h
reads_below place (rename_of a b) h = absurd h
reads_below place (remove_of p) h = absurd h

module _ (place : Path) (d e : Disk) (same : Same (under place d) (under place e)) where
  at_same : (p : Path) → Begins place p → e p ≡ d p
  at_same p b = ap e b.1 ∙ same b.0 ∙ sym (ap d b.1)

  below_same : (p rest : Path) → Begins place p → e (p ++ rest) ≡ d (p ++ rest)
  below_same p rest b = at_same (p ++ rest) (b.0 ++ rest, ap (λ x. x ++ rest) b.1 ∙ append_assoc place b.0 rest)

  folder_same : (p : Path) → Begins place p → IsFolder e p → IsFolder d p
  folder_same p b f = (f.0, f.1, subst (λ o. IsSome o) (below_same p (f.0 ∷ f.1) b) f.2)

  folder_back : (p : Path) → Begins place p → IsFolder d p → IsFolder e p
  folder_back p b f = (f.0, f.1, subst (λ o. IsSome o) (sym (below_same p (f.0 ∷ f.1) b)) f.2)

  kind_same : (p : Path) (k : Kind) → Begins place p → Says (kind_of p) (Ok k) e → Says (kind_of p) (Ok k) d
  kind_same p is_file b h = subst (λ o. IsSome o) (at_same p b) h
  kind_same p is_folder b h = folder_same p b h
  kind_same p is_absent b h = λ r. sym (below_same p r b) ∙ h r

  as_same : (p : Path) (name : List ℕ) (is : Bool) → Begins place p → IsAs e (p ++ name ∷ []) is → IsAs d (p ++ name ∷ []) is
  as_same p name true b h = folder_same (p ++ name ∷ []) (b.0 ++ name ∷ [], ap (λ x. x ++ name ∷ []) b.1 ∙ append_assoc place b.0 (name ∷ [])) h
  as_same p name false b h = subst (λ o. IsSome o) (below_same p (name ∷ []) b) h

  entries_same : (p : Path) (es : List Entry) → Begins place p → AreEntries e p es → AreEntries d p es
  entries_same p es b h = record { order = h.order; sound = λ x at. as_same p x.name x.folder b (h.sound x at) }

  listing_same : (p : Path) (es : List Entry) → Begins place p → IsListing e p es → IsListing d p es
  listing_same p es b h = record { entries_of = entries_same p es b h.entries_of; all = λ name rest is. h.all name rest (subst (λ o. IsSome o) (sym (below_same p (name ∷ rest) b)) is) }

  pub says_same : (call : Call) (reply : Reply call) → ReadsBelow place call → Says call (answer_of call reply) e → Says call (answer_of call reply) d
  says_same (kind_of p) (Ok k) b h = kind_same p k b h
  says_same (kind_of p) (Err r) b h = h
  says_same (read_of p limit) (Ok bytes) b h = sym (at_same p b) ∙ h
  says_same (read_of p limit) (Err missing) b h = sym (at_same p b) ∙ h
  says_same (read_of p limit) (Err too_large) b h = (h.0, sym (at_same p b) ∙ h.1, h.2)
  says_same (read_of p limit) (Err exists) b h = h
  says_same (read_of p limit) (Err many) b h = h
  says_same (piece_of p at most) (Ok bytes) b h = (h.0, sym (at_same p b) ∙ h.1, h.2)
  says_same (piece_of p at most) (Err missing) b h = sym (at_same p b) ∙ h
  says_same (piece_of p at most) (Err too_large) b h = h
  says_same (piece_of p at most) (Err exists) b h = h
  says_same (piece_of p at most) (Err many) b h = h
  says_same (list_of p) (Ok es) b h = (listing_same p es b h.0, folder_same p b h.1)
  says_same (list_of p) (Err missing) b h = λ f. h (folder_back p b f)
  says_same (list_of p) (Err too_large) b h = h
  says_same (list_of p) (Err exists) b h = h
  says_same (list_of p) (Err many) b h = (h.0, entries_same p h.0 b h.1, h.2)
  says_same (write_of p bytes) reply b h = absurd b
  says_same (rename_of x y) reply b h = absurd b
  says_same (remove_of p) reply b h = absurd b

  pub tells_same : {A : Type 0} (P : A → Type 0) (p : Protocol A) → IsTreeDisk d → AsksOnly (ReadsBelow place) p → Tells P p d → Tells P p e
  tells_same P (ends x) tree below tells = tells
  tells_same P (asks call k) tree below tells = λ reply may. tells_same P (k reply) tree (below.1 reply) (tells reply (record { says = says_same call reply below.0 may.says; small = may.small; tree = tree }))
