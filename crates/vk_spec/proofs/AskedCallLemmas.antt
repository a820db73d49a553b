-- Asking: nothing, one after the other, stopped, and of each member of a list.
use Rattle.std.proofs.Common.{◌≡◌, ◌+◌, ◌<◌, ◌≤◌, ℕ, Bool, false, List, [], ◌∷◌, ◌++◌, length, get_or, map, sym, subst}
use Rattle.std.specs.Prelude.{Option, None, Result, Ok, Err}
use Rattle.vk_spec.specs.Reading.{◌>>=◌, read_each, Gives, Fails}
use Rattle.vk_spec.proofs.ReadingLemmas.{with_front, nothing_yet, left_from, goes_on_by, ends_by, is_done_by, gives_then, fails_on}
use Rattle.vk_spec.specs.AskedCalls.{stopped_by, IsAsking, AnswersAs}

-- a loop over a list that asks of each member: nothing failed so far, and what is still asked, behind what was answered, is what is asked of all
pub record AnsweredSoFar {S W V X R A F : Type 0} (Only : Bool → S → S → Type 0) (On : (W → Type 0) → S → Type 0) (view : V → X) (out : R → A) (one : X → W → Result A F) (front : List R) (i : ℕ) (vs : List V) (before now : S) : Type 0 where
  pub only : Only false before now
  pub content : On (λ w. with_front (map out front) (left_from (λ _ x. one x w) i (map view vs)) ≡ read_each (λ _ x. one x w) 0 (map view vs)) before

module _ {S W E F : Type 0} {Only : Bool → S → S → Type 0} {On : (W → Type 0) → S → Type 0} (asking : IsAsking Only On) (failed : E → Bool) (fault : E → Option F) where
  -- what asks nothing
  pub answers_pure : {X Y : Type 0} (view : X → Y) (answer : Result X E) (meaning : W → Result Y F) (s : S) → stopped_by failed answer ≡ false → ((w : W) → Gives view fault answer (meaning w)) → AnswersAs Only On failed fault view answer meaning s s
  answers_pure view answer meaning s calm gives = record { only = subst (λ f. Only f s s) (sym calm) (asking.nothing s); content = asking.each (λ w. Gives view fault answer (meaning w)) s gives }

  -- a stop that tells nothing, after something was asked or before
  pub answers_nothing : {X Y : Type 0} (view : X → Y) (e : E) (meaning : W → Result Y F) (a b : S) → failed e ≡ false → fault e ≡ None → Only false a b → AnswersAs {X = X} Only On failed fault view (Err e) meaning a b
  answers_nothing view e meaning a b calm none only = record {
    only = subst (λ f. Only f a b) (sym calm) only;
    content = asking.each (λ w. Fails (fault e) (meaning w)) a (λ w. rw none tt);
  }

  -- something was asked, and then more
  pub answers_then : {X Y Z V : Type 0} {view : X → Y} {next_view : Z → V} {x : X} {answer : Result Z E} {meaning : W → Result Y F} {a b c : S} (next : Y → W → Result V F)
      → AnswersAs Only On failed fault view (Ok x) meaning a b → AnswersAs Only On failed fault next_view answer (next (view x)) b c → AnswersAs Only On failed fault next_view answer (λ w. meaning w >>= λ y. next y w) a c
  answers_then {view = view} {next_view = next_view} {x = x} {answer = answer} {meaning = meaning} {a = a} next first then = record {
    only = asking.then first.only then.only;
    content = asking.both (λ w. meaning w ≡ Ok (view x)) (λ w. Gives next_view fault answer (next (view x) w)) (λ w. Gives next_view fault answer (meaning w >>= λ y. next y w)) a
        (λ w is gives. gives_then view fault next_view x answer (meaning w) (λ y. next y w) is gives)
        first.content (asking.back (λ w. Gives next_view fault answer (next (view x) w)) first.only then.content);
  }

  -- asking stopped, so nothing more was asked
  pub answers_stopped : {X Y Z V : Type 0} {view : X → Y} {e : E} {meaning : W → Result Y F} {a b : S} (next_view : Z → V) (next : Y → W → Result V F)
      → AnswersAs Only On failed fault view (Err e) meaning a b → AnswersAs {X = Z} Only On failed fault next_view (Err e) (λ w. meaning w >>= λ y. next y w) a b
  answers_stopped {e = e} {meaning = meaning} {a = a} next_view next one = record {
    only = one.only;
    content = asking.both (λ w. Fails (fault e) (meaning w)) (λ w. Fails (fault e) (meaning w)) (λ w. Fails (fault e) (meaning w >>= λ y. next y w)) a
        (λ w fails _. fails_on (fault e) (meaning w) (λ y. next y w) fails) one.content one.content;
  }

  -- ---- the members of a list, one by one

  module _ {V X R A : Type 0} (view : V → X) (out : R → A) (one : X → W → Result A F) where
    pub answered_none : (front : List R) (vs : List V) (s : S) → front ≡ [] → AnsweredSoFar Only On view out one front 0 vs s s
    answered_none front vs s none = record {
      only = asking.nothing s;
      content = rw none (asking.each (λ w. with_front [] (left_from (λ _ x. one x w) 0 (map view vs)) ≡ read_each (λ _ x. one x w) 0 (map view vs)) s (λ w. nothing_yet (read_each (λ _ x. one x w) 0 (map view vs))));
    }

    pub answered_more : (front : List R) (y : R) (i : ℕ) (vs : List V) (v : V) (a b c : S) → i < length vs → v ≡ get_or vs i v
        → AnsweredSoFar Only On view out one front i vs a b → AnswersAs Only On failed fault out (Ok y) (one (view v)) b c → AnsweredSoFar Only On view out one (front ++ y ∷ []) (i + 1) vs a c
    answered_more front y i vs v a b c within is so_far then = record {
      only = asking.then so_far.only then.only;
      content = asking.both _ (λ w. one (view v) w ≡ Ok (out y)) _ a
          (λ w sofar gives. goes_on_by view out (λ _ x. one x w) front y i vs v _ within is gives sofar)
          so_far.content (asking.back (λ w. one (view v) w ≡ Ok (out y)) so_far.only then.content);
    }

    pub answered_stopped : (front : List R) (e : E) (i : ℕ) (vs : List V) (v : V) (a b c : S) → i < length vs → v ≡ get_or vs i v
        → AnsweredSoFar Only On view out one front i vs a b → AnswersAs {X = R} Only On failed fault out (Err e) (one (view v)) b c → AnswersAs {X = List R} Only On failed fault (λ l. map out l) (Err e) (λ w. read_each (λ _ x. one x w) 0 (map view vs)) a c
    answered_stopped front e i vs v a b c within is so_far then = record {
      only = asking.then so_far.only then.only;
      content = asking.both _ (λ w. Fails (fault e) (one (view v) w)) _ a
          (λ w sofar fails. ends_by view out (λ _ x. one x w) (fault e) front i vs v _ within is fails sofar)
          so_far.content (asking.back (λ w. Fails (fault e) (one (view v) w)) so_far.only then.content);
    }

    pub answered_all : (front : List R) (i : ℕ) (vs : List V) (a b : S) → length vs ≤ i
        → AnsweredSoFar Only On view out one front i vs a b → AnswersAs Only On failed fault (λ l. map out l) (Ok front) (λ w. read_each (λ _ x. one x w) 0 (map view vs)) a b
    answered_all front i vs a b past so_far = record {
      only = so_far.only;
      content = asking.both _ _ _ a (λ w sofar _. is_done_by view out (λ _ x. one x w) front i vs _ past sofar) so_far.content so_far.content;
    }
