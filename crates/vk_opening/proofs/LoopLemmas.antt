-- Members of a list, each read with a tree, as a loop does that keeps the members which are left.
use Rattle.std.proofs.Common.{◌≡◌, false, cond, List, [], ◌∷◌, ◌++◌, length, map, refl, subst, arith}
use Rattle.std.specs.Prelude.{Result, Ok, Err}
use Rattle.std.specs.Result.{IsErrAnd, is_err}
use Rattle.std.proofs.lemmas.List.{map-append}
use Rattle.std.proofs.lemmas.List.Elements.{Contains-append_left}
use Rattle.std.proofs.lemmas.Result.{err_from_is_err_and}
use Rattle.vk_spec.specs.Lists.{IsWithin}
use Rattle.vk_spec.specs.Paths.{Path}
use Rattle.vk_spec.specs.Files.{Files}
use Rattle.vk_spec.specs.Reading.{read_each, Gives}
use Rattle.vk_spec.proofs.ListLemmas.{contains_later}
use Rattle.vk_spec.proofs.ReadingLemmas.{with_front, nothing_yet, goes_on_with, ends_with, is_done_with}
use Rattle.vk_base.specs.Stops.{fault_seen, has_failed}
use Rattle.vk_base.specs.declared.memory.Memory.{Memory}
use Rattle.vk_base.specs.declared.stops.Stop.{Stop}
use Rattle.vk_base.specs.declared.stops.Stop.TheVariants as stop
use Rattle.vk_files.specs.Kept.{Held}
use Rattle.vk_files.specs.Within.{up_to_first}
use Rattle.vk_files.specs.Finds.{Reads, ReadsFrom, NothingKnown}
use Rattle.vk_files.proofs.FindLemmas.{learned_here, learned_so, learned_then, finds_lacked}

-- a list without length
pub none_left : {X : Type 0} (left : List X) → length left ≡ 0 → left ≡ []
none_left [] none = refl
none_left (x ∷ left) none = absurd (omega arith)

-- the paths of the members up to the first that isn't read
abbrev pub asked : {X A P : Type 0} → (X → Path) → (X → Result A P) → List X → List Path
asked path one xs = map path (up_to_first (λ x. is_err (one x)) xs)

-- what is read of the members that are left goes on to what is read of all, and their paths are among those of all
pub record GoesOn {X R A P : Type 0} (path : X → Path) (out : R → A) (one : X → Result A P) (front : List R) (left all : List X) : Type 0 where
  pub read : with_front (map out front) (read_each (λ _ x. one x) 0 left) ≡ read_each (λ _ x. one x) 0 all
  pub among : IsWithin (asked path one left) (asked path one all)

-- each was read so far
pub record ReadSoFar {X R A P : Type 0} (path : X → Path) (out : R → A) (one : X → Files → Result A P) (front : List R) (left all : List X) (before now : Held) : Type 0 where
  pub reads : Reads false (λ f. GoesOn path out (λ x. one x f) front left all) (λ f. asked path (λ x. one x f) all) NothingKnown NothingKnown before now

module _ {X R A P : Type 0} {path : X → Path} {out : R → A} {one : X → Result A P} {front : List R} {x : X} {left all : List X} where
  first_within : GoesOn path out one front (x ∷ left) all → IsWithin (path x ∷ []) (asked path one all)
  first_within on p has = on.among p (Contains-append_left (path x ∷ []) (map path (cond (is_err (one x)) [] (up_to_first (λ x. is_err (one x)) left))) p has)

  one_more : (y : R) → one x ≡ Ok (out y) → GoesOn path out one front (x ∷ left) all → GoesOn path out one (front ++ y ∷ []) left all
  one_more y is on = record {
    read = rw (map-append out front (y ∷ [])) (goes_on_with one (map out front) x (out y) left _ is on.read);
    among = λ p has.
        subst (λ fails. IsWithin (path x ∷ map path (cond fails [] (up_to_first (λ x. is_err (one x)) left))) (asked path one all)) (passed is) on.among p
        (contains_later (path x) p (asked path one left) has);
  }
    where
      passed : one x ≡ Ok (out y) → is_err (one x) ≡ false
      passed is = rw is refl

-- nothing was read yet
pub so_far_none : {X R A P : Type 0} {path : X → Path} {out : R → A} {one : X → Files → Result A P} {front : List R} {left all : List X} {h : Held} → front ≡ [] → left ≡ all → ReadSoFar path out one front left all h h
so_far_none {one = one} {all = all} none is = record { reads = learned_here refl (λ f known. (known, record { read = rw (none, is) (nothing_yet (read_each (λ _ x. one x f) 0 all)); among = rw is (λ p has. has) })) }

module _ {X R A F P : Type 0} {refusal : F → P} {path : X → Path} {out : R → A} {one : X → Files → Result A P} {front : List R} {all : List X} {a b : Held} where
  -- what follows of the next member
  after_next : {answer : Result R (Stop F)} {x : X} {now left : List X} {c : Held} {Holds : Files → Type 0} → now ≡ x ∷ left → ReadSoFar path out one front now all a b → ReadsFrom refusal out answer (one x) (λ f. path x ∷ []) b c
      → ((f : Files) → GoesOn path out (λ x. one x f) front (x ∷ left) all → Gives out (fault_seen refusal) answer (one x f) → Holds f) → Reads (has_failed answer) Holds (λ f. asked path (λ x. one x f) all) NothingKnown NothingKnown a c
  after_next is so_far next holds =
      learned_then (subst (λ l. ReadSoFar path out one front l all a b) is so_far).reads next.reads (λ f known on. (known, (λ p has. has), first_within on, holds f on))

  -- one member more was read
  pub so_far_more : {y : R} {x : X} {now left : List X} {c : Held} → now ≡ x ∷ left → ReadSoFar path out one front now all a b → ReadsFrom refusal out (Ok y) (one x) (λ f. path x ∷ []) b c → ReadSoFar path out one (front ++ y ∷ []) left all a c
  so_far_more {y = y} is so_far next = record { reads = after_next is so_far next (λ f on gives. one_more y gives on) }

  -- a member was not read
  pub so_far_stopped : {s : Stop F} {answer : Result (List R) (Stop F)} {x : X} {now left : List X} {c : Held} → now ≡ x ∷ left → ReadSoFar path out one front now all a b → ReadsFrom {X = R} refusal out (Err s) (one x) (λ f. path x ∷ []) b c
      → IsErrAnd answer (λ e. e ≡ s) → ReadsFrom refusal (λ l. map out l) answer (λ f. read_each (λ _ x. one x f) 0 all) (λ f. asked path (λ x. one x f) all) a c
  so_far_stopped {s = s} {answer = answer} {x = x} {left = left} is so_far next err =
      let p = err_from_is_err_and answer err in
      rw (p.1, p.2) (record { reads = after_next is so_far next (λ f on fails. ends_with (fault_seen refusal s) (λ x. one x f) (map out front) x left _ fails on.read) })

  -- memory ran out after it
  pub so_far_lacking : {m : Memory} {y : R} {answer : Result (List R) (Stop F)} {x : X} {now left : List X} {c : Held} → now ≡ x ∷ left → ReadSoFar path out one front now all a b
      → ReadsFrom refusal out (Ok y) (one x) (λ f. path x ∷ []) b c → IsErrAnd answer (λ e. e ≡ stop.Memory m) → ReadsFrom refusal (λ l. map out l) answer (λ f. read_each (λ _ x. one x f) 0 all) (λ f. asked path (λ x. one x f) all) a c
  so_far_lacking is so_far next err = finds_lacked (after_next {Holds = NothingKnown} is so_far next (λ f on gives. tt)) err

  -- all were read
  pub so_far_all : {now : List X} → now ≡ [] → ReadSoFar path out one front now all a b → ReadsFrom {F = F} refusal (λ l. map out l) (Ok front) (λ f. read_each (λ _ x. one x f) 0 all) (λ f. asked path (λ x. one x f) all) a b
  so_far_all is so_far =
      record { reads = learned_so refl (λ f known. (known, λ p has. has)) (λ f before known on. (known, is_done_with (λ x. one x f) (map out front) _ on.read)) (subst (λ l. ReadSoFar path out one front l all a b) is so_far).reads }
