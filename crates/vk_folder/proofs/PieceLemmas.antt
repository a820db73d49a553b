-- A file that is given to a run piece by piece.
use Rattle.std.proofs.Common.{◌≡◌, ◌≤◌, ◌<◌, ◌+◌, ◌-◌, ℕ, List, ◌++◌, length, take, drop, min, refl, ap, sym, ◌∙◌, subst, arith}
use Rattle.std.proofs.lemmas.List.{append-nil, append_assoc, take-append-drop, take_all, length-take, length-drop}
use Rattle.std.proofs.Math.Seq.{take-add}
use Rattle.std.specs.Prelude.{Bool, false, Option, Some, Result, Ok, Err}
use Rattle.vk_spec.specs.Paths.{Path, Begins}
use Rattle.vk_spec.specs.States.{State, OnlyListed}
use Rattle.vk_spec.specs.Standing.{Disk, OnFiles}
use Rattle.vk_spec.specs.Calls.{Made, piece_of, is_failed}
use Rattle.vk_spec.proofs.CallLemmas.{narrow_of}
use Rattle.vk_spec.proofs.OptionLemmas.{of_each}
use Rattle.vk_spec.proofs.StateLemmas.{narrow_nothing, narrow_then, narrow_more}
use Rattle.vk_base.specs.Stops.{was_out, is_outage, is_failure, stop_of}
use Rattle.vk_base.specs.declared.limits.Limit.{Limit}
use Rattle.vk_base.specs.declared.limits.Limit.TheVariants.{Bytes}
use Rattle.vk_base.specs.declared.stops.Outage.{Outage}
use Rattle.vk_base.specs.declared.stops.Outage.TheVariants as outage
use Rattle.vk_base.specs.declared.stops.Stop.{Stop}
use Rattle.vk_base.specs.declared.stops.Stop.TheVariants.{Fault, Failed, Memory}
use Rattle.vk_digest.specs.Runs.{Holds}
use Rattle.vk_digest.specs.declared.DigestRun.{DigestRun}
use Rattle.vk_tree.specs.Answers.{read_answer}
use Rattle.vk_tree.specs.Trees.{IsTreeDisk}
use Rattle.vk_tree.proofs.OnFilesLemmas.{files_both, files_two, files_back}
use Rattle.vk_tree.specs.declared.trees.ReadFault.{ReadFault}
use Rattle.vk_tree.specs.declared.trees.ReadFault.TheVariants.{Missing, TooLarge}
use Rattle.vk_tree.proofs.OnFilesLemmas.{files_both, files_two, files_back}
use Rattle.vk_folder.specs.Hashed.{PieceIs, FedIs, IsOver, IsLess, Took, OnlyPieces, found_in, most_piece}
use Rattle.vk_folder.specs.declared.rooms.Room.{Room}
use Rattle.vk_folder.proofs.ReadLemmas.{reads_nothing, reads_listed, reads_then, reads_wider, reads_once, begins_then, own_noted}

fails_alike : (answer : Result (List ℕ) (Stop ReadFault)) → is_failed (read_answer answer) ≡ was_out (found_in answer)
fails_alike (Ok piece) = refl
fails_alike (Err (Fault Missing)) = refl
fails_alike (Err (Fault TooLarge)) = refl
fails_alike (Err Failed) = refl
fails_alike (Err (Memory m)) = refl

pub pieces_then : {place : Path} {failed : Bool} {a b c : State} → OnlyPieces place false a b → OnlyPieces place failed b c → OnlyPieces place failed a c
pieces_then x y = record { reads = reads_then x.reads y.reads; narrow = narrow_then x.narrow y.narrow }

pub pieces_nothing : {place : Path} (s : State) → OnlyPieces place false s s
pieces_nothing s = record { reads = reads_nothing s; narrow = narrow_nothing most_piece s }

pub pieces_listed : {place : Path} {failed : Bool} {a b : State} → OnlyListed failed a b → OnlyPieces place failed a b
pieces_listed x = record { reads = reads_listed x; narrow = narrow_more (omega arith) x.narrow }

-- what a longer path begins, this one begins
pub pieces_below : {place path : Path} {failed : Bool} {a b : State} → Begins place path → OnlyPieces path failed a b → OnlyPieces place failed a b
pieces_below {place = place} below x = record { reads = reads_wider (λ p. begins_then place below) x.reads; narrow = x.narrow }

-- asking for a piece
pub piece_read : (path : Path) (at : ℕ) (answer : Result (List ℕ) (Stop ReadFault)) {a b : State} → Made (piece_of path at most_piece) (read_answer answer) a b → OnlyPieces path (was_out (found_in answer)) a b
piece_read path at answer m = record { reads = reads_once refl m (fails_alike answer) (own_noted path (read_answer answer)); narrow = narrow_of m }

-- where the file is there, it has at least so many bytes, and these were given to the run
abbrev pub FedTo : Path → ℕ → DigestRun → DigestRun → Disk → Type 0
FedTo path at old new d = (all : List ℕ) → d path ≡ Some all → (at ≤ length all) × ((message : List ℕ) → Holds old message → Holds new (message ++ take at all))

pub fed_nothing : (path : Path) (run : DigestRun) (s : State) → OnFiles (FedTo path 0 run run) s
fed_nothing path run s = of_each s.told (λ t all is. (omega arith, λ message held. subst (Holds run) (sym (append-nil message)) held))

-- an outage is told as it is
told_alike : (o : Outage) → is_outage o ≡ is_failure {F = Limit} (stop_of o)
told_alike outage.Failed = refl
told_alike (outage.Memory m) = refl

pub read_out : (o : Outage) {place : Path} {a b c : State} → OnlyPieces place false a b → OnlyPieces place (is_outage o) b c → OnlyPieces place (is_failure {F = Limit} (stop_of o)) a c
read_out o {place = place} {a = a} {c = c} one two = subst (λ f. OnlyPieces place f a c) (told_alike o) (pieces_then one two)

-- ---- what is known of a file, at one disk

pub same_bytes : (all other : List ℕ) → Some all ≡ Some other → all ≡ other
same_bytes all other e = (cc)

-- how long a piece is
piece_long : (at : ℕ) (all : List ℕ) → length (take most_piece (drop at all)) ≡ min most_piece (length all - at)
piece_long at all = length-take most_piece (drop at all) ∙ ap (min most_piece) (length-drop at all)

more : (path : Path) (at : ℕ) (old new newer : DigestRun) (piece : List ℕ) (d : Disk) → length piece ≡ most_piece → ((message : List ℕ) → Holds new message → Holds newer (message ++ piece))
    → PieceIs path at (Ok (Some piece)) d → FedTo path at old new d → FedTo path (at + most_piece) old newer d
more path at old new newer piece d full update p fed = λ all is.
    let same : p.0 ≡ all = same_bytes p.0 all (sym p.1 ∙ is) in
    let is_piece : piece ≡ take most_piece (drop at all) = p.2 ∙ ap (λ l. take most_piece (drop at l)) same in
    let so_far = fed all is in
    let long : min most_piece (length all - at) ≡ most_piece = sym (piece_long at all) ∙ sym (ap length is_piece) ∙ full in (
      omega (arith, long, so_far.0),
      λ message held.
          let joined : (message ++ take at all) ++ piece ≡ message ++ take (at + most_piece) all = append_assoc message (take at all) piece ∙ ap (λ l. message ++ (take at all ++ l)) is_piece ∙ ap (λ l. message ++ l) (sym (take-add at most_piece all)) in
          subst (Holds newer) joined (update (message ++ take at all) (so_far.1 message held)),
    )

last : (path : Path) (at : ℕ) (old new newer : DigestRun) (room before after : Room) (piece : List ℕ) (d : Disk) → length piece < most_piece → before.most ≡ room.most → before.left + at ≡ room.left → IsLess before (length piece) after
    → ((message : List ℕ) → Holds new message → Holds newer (message ++ piece))
    → IsTreeDisk d → PieceIs path at (Ok (Some piece)) d → FedTo path at old new d → FedIs path room old newer (Ok (Some after)) d
last path at old new newer room before after piece d short most left less update tree p fed =
    let so_far = fed p.0 p.1 in
    let long : length piece ≡ min most_piece (length p.0 - at) = ap length p.2 ∙ piece_long at p.0 in
    let end : piece ≡ drop at p.0 = p.2 ∙ take_all most_piece (drop at p.0) (omega (arith, long, short, length-drop at p.0)) in
    let whole : take at p.0 ++ piece ≡ p.0 = ap (λ l. take at p.0 ++ l) end ∙ take-append-drop at p.0 in (
      tree,
      p.0,
      p.1,
      (less.0 ∙ most, omega (arith, less.1, left, long, short, so_far.0)),
      λ message held. subst (Holds newer) (append_assoc message (take at p.0) piece ∙ ap (λ l. message ++ l) whole) (update (message ++ take at p.0) (so_far.1 message held)),
    )

over : (path : Path) (at : ℕ) (old new : DigestRun) (room before : Room) (fault : Limit) (piece : List ℕ) (d : Disk) → before.most ≡ room.most → before.left + at ≡ room.left → fault ≡ Bytes before.most → before.left < length piece
    → IsTreeDisk d → PieceIs path at (Ok (Some piece)) d → FedTo path at old new d → IsOver path room fault d
over path at old new room before fault piece d most left is past tree p fed =
    let so_far = fed p.0 p.1 in
    let long : length piece ≡ min most_piece (length p.0 - at) = ap length p.2 ∙ piece_long at p.0 in
    (tree, is ∙ ap Bytes most, p.0, p.1, omega (arith, past, left, long, so_far.0))

-- ---- where the files are told, after some pieces

-- what three facts of the files say
pub files_three : (P Q R S : Disk → Type 0) (s : State) → ((d : Disk) → P d → Q d → R d → S d) → OnFiles P s → OnFiles Q s → OnFiles R s → OnFiles S s
files_three P Q R S s f h k l = files_two (λ d. P d × Q d) R S s (λ d x. f d x.0 x.1) (files_both P Q s h k) l

-- what is known of a piece where some were read before, of the files at the start
piece_then : (path : Path) (at : ℕ) (found : Option (List ℕ)) (piece : List ℕ) {a b : State} → OnlyPieces path false a b → found ≡ Some piece → OnFiles (PieceIs path at (Ok found)) b → OnFiles (PieceIs path at (Ok (Some piece))) a
piece_then path at found piece {b = b} read is p = files_back (PieceIs path at (Ok (Some piece))) read.reads.only (subst (λ o. OnFiles (PieceIs path at (Ok o)) b) is p)

pub fed_more : (path : Path) (at : ℕ) (old new newer : DigestRun) (found : Option (List ℕ)) (piece : List ℕ) {a b : State} → length piece ≡ most_piece → ((message : List ℕ) → Holds new message → Holds newer (message ++ piece))
    → OnlyPieces path false a b → found ≡ Some piece → OnFiles (PieceIs path at (Ok found)) b → OnFiles (FedTo path at old new) a → OnFiles (FedTo path (at + most_piece) old newer) a
fed_more path at old new newer found piece {a = a} full update read is p fed =
    files_two (PieceIs path at (Ok (Some piece))) (FedTo path at old new) (FedTo path (at + most_piece) old newer) a (λ d. more path at old new newer piece d full update) (piece_then path at found piece read is p) fed

pub fed_last : (path : Path) (at : ℕ) (old new newer : DigestRun) (room before after : Room) (found : Option (List ℕ)) (piece : List ℕ) {a b : State} → length piece < most_piece → before.most ≡ room.most → before.left + at ≡ room.left → IsLess before (length piece) after
    → ((message : List ℕ) → Holds new message → Holds newer (message ++ piece))
    → OnlyPieces path false a b → found ≡ Some piece → OnFiles IsTreeDisk b → OnFiles (PieceIs path at (Ok found)) b → OnFiles (FedTo path at old new) a → OnFiles (FedIs path room old newer (Ok (Some after))) a
fed_last path at old new newer room before after found piece {a = a} short most left less update read is tree p fed =
    files_three IsTreeDisk (PieceIs path at (Ok (Some piece))) (FedTo path at old new) (FedIs path room old newer (Ok (Some after))) a
    (λ d. last path at old new newer room before after piece d short most left less update) (files_back IsTreeDisk read.reads.only tree) (piece_then path at found piece read is p) fed

pub fed_over : (path : Path) (at : ℕ) (old new : DigestRun) (room before : Room) (e : Stop Limit) (bytes : ℕ) (found : Option (List ℕ)) (piece : List ℕ) {a b : State} → before.most ≡ room.most → before.left + at ≡ room.left → bytes ≡ length piece → Took before bytes (Err e)
    → OnlyPieces path false a b → found ≡ Some piece → OnFiles IsTreeDisk b → OnFiles (PieceIs path at (Ok found)) b → OnFiles (FedTo path at old new) a → OnFiles (FedIs path room old new (Err e)) a
fed_over path at old new room before (Fault fault) bytes found piece {a = a} most left long took read is tree p fed =
    files_three IsTreeDisk (PieceIs path at (Ok (Some piece))) (FedTo path at old new) (IsOver path room fault) a
    (λ d. over path at old new room before fault piece d most left took.0 (subst (λ n. before.left < n) long took.1)) (files_back IsTreeDisk read.reads.only tree) (piece_then path at found piece read is p) fed
fed_over path at old new room before Failed bytes found piece most left long took read is tree p fed = absurd took
fed_over path at old new room before (Memory m) bytes found piece most left long took read is tree p fed = absurd took

-- too many bytes are no failure of the tree
took_calm : (room : Room) (bytes : ℕ) (e : Stop Limit) → Took room bytes (Err e) → false ≡ is_failure e
took_calm room bytes (Fault fault) took = refl
took_calm room bytes Failed took = absurd took
took_calm room bytes (Memory m) took = absurd took

pub read_over : (room : Room) (bytes : ℕ) (e : Stop Limit) {place : Path} {a b c : State} → Took room bytes (Err e) → OnlyPieces place false a b → OnlyPieces place false b c → OnlyPieces place (is_failure e) a c
read_over room bytes e {place = place} {a = a} {c = c} took one two = subst (λ f. OnlyPieces place f a c) (took_calm room bytes e took) (pieces_then one two)
