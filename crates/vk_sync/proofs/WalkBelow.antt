-- Whatever is replied, a walk comes to paths below its folder.
use Rattle.std.proofs.Common.{◌++◌, [], ◌∷◌, ℕ, zero, suc, List, length, Bool, true, false, sym, ◌∙◌, ap, append_assoc}
use Rattle.std.specs.Prelude.{Result, Ok, Err, nat_le, if◌then◌else◌}
use Rattle.std.specs.List.{All}
use Rattle.std.proofs.lemmas.List.{append-nil}
use Rattle.std.proofs.lemmas.List.Elements.{All-nil, All-cons, All-append}
use Rattle.vk_spec.specs.Paths.{Path, Begins}
use Rattle.vk_spec.specs.Calls.{Call}
use Rattle.vk_protocol.specs.Protocols.{Reply, Protocol, ends, asks, on_ok, each, ◌>>=◌}
use Rattle.vk_protocol.specs.Runs.{AsksOnly}
use Rattle.vk_walk.specs.Walks.{Limits, files}
use Rattle.vk_walk.specs.WalkProtocol.{listed, with_file, walk_at, walk_of}

-- each end is such, whatever is replied
abbrev pub Comes : {A : Type 0} → (A → Type 0) → Protocol A → Type 0
Comes P (ends x) = P x
Comes P (asks call k) = (reply : Reply call) → Comes P (k reply)

pub comes_then : {A B : Type 0} (P : A → Type 0) (Q : B → Type 0) (m : Protocol A) (f : A → Protocol B) → Comes P m → ((x : A) → P x → Comes Q (f x)) → Comes Q (m >>= f)
comes_then P Q (ends x) f is more = more x is
comes_then P Q (asks call k) f is more = λ reply. comes_then P Q (k reply) f (is reply) more

-- what is asked behind it may go by what it comes to
pub only_by : {A B : Type 0} (M : Call → Type 0) (P : A → Type 0) (m : Protocol A) (f : A → Protocol B) → AsksOnly M m → Comes P m → ((x : A) → P x → AsksOnly M (f x)) → AsksOnly M (m >>= f)
only_by M P (ends x) f one is more = more x is
only_by M P (asks call k) f one is more = (one.0, λ reply. only_by M P (k reply) f (one.1 reply) (is reply) more)

abbrev pub OnDone : {A F : Type 0} → (A → Type 0) → Result A F → Type 0
OnDone P (Ok x) = P x
OnDone P (Err e) = Unit {0}

abbrev AreBelow : Path → List Path → Type 0
AreBelow root paths = All (Begins root) paths

pub comes_ok : {S T F : Type 0} (P : S → Type 0) (Q : T → Type 0) (k : S → Protocol (Result T F)) (r : Result S F) → ((t : S) → P t → Comes (OnDone Q) (k t)) → OnDone P r → Comes (OnDone Q) (on_ok k r)
comes_ok P Q k (Ok t) one is = one t is
comes_ok P Q k (Err e) one is = tt

-- what each member keeps, all of them keep
pub comes_each : {X S F : Type 0} (P : S → Type 0) (f : X → S → Protocol (Result S F)) (xs : List X) (s : S) → ((x : X) (t : S) → P t → Comes (OnDone P) (f x t)) → P s → Comes (OnDone P) (each f xs s)
comes_each P f [] s one is = is
comes_each P f (x ∷ xs) s one is = comes_then (OnDone P) (OnDone P) (f x s) (on_ok (each f xs)) (one x s is) (λ r h. comes_ok P P (each f xs) r (λ t at. comes_each P f xs t one at) h)

module _ {X S F : Type 0} (P : S → Type 0) (f : X → S → Protocol (Result S F)) where
  pub comes_listed : (r : Result (List X) F) (s : S) → ((x : X) (t : S) → P t → Comes (OnDone P) (f x t)) → P s → Comes (OnDone P) (on_ok (λ xs. each f xs s) r)
  comes_listed (Ok xs) s one is = comes_each P f xs s one is
  comes_listed (Err e) s one is = tt

module _ (root : Path) (most : ℕ) where
  file_below : (path : Path) (found : List Path) → Begins root path → AreBelow root found → OnDone (AreBelow root) (with_file most path found)
  file_below path found at are = file_by (nat_le most (length found))
    where
      file_by : (b : Bool) → OnDone (AreBelow root) (if b then Err files else Ok (found ++ path ∷ []))
      file_by true = tt
      file_by false = All-append (Begins root) found (path ∷ []) are (All-cons (Begins root) path [] at (All-nil (Begins root)))

  name_below : (path : Path) (name : List ℕ) → Begins root path → Begins root (path ++ name ∷ [])
  name_below path name at = (at.0 ++ name ∷ [], ap (λ p. p ++ name ∷ []) at.1 ∙ append_assoc root at.0 (name ∷ []))

  walk_below : (left : ℕ) (path : Path) (is : Bool) (found : List Path) → Begins root path → AreBelow root found → Comes (OnDone (AreBelow root)) (walk_at most left path is found)
  walk_below left path false found at are = file_below path found at are
  walk_below zero path true found at are = tt
  walk_below (suc left) path true found at are = λ reply.
      comes_listed (AreBelow root) (λ e found. walk_at most left (path ++ e.name ∷ []) e.folder found) (listed reply) found (λ e found are. walk_below left (path ++ e.name ∷ []) e.folder found (name_below path e.name at) are) are

-- all that a walk finds lies below its folder
pub found_below : (most : Limits) (root : Path) → Comes (OnDone (AreBelow root)) (walk_of most root)
unfolding walk_of
found_below most root = walk_below root most.files (suc most.depth) root true [] ([], sym (append-nil root)) (All-nil (Begins root))
