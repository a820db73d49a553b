-- What is learned from files: nothing more, in other words, and one thing after the other.
use Rattle.std.proofs.Common.{◌≡◌, Bool, false, List, [], ◌∷◌, ◌++◌, refl, ap, sym, subst, ◌∙◌}
use Rattle.std.specs.Prelude.{Some, None, Result, Ok, Err}
use Rattle.std.specs.Result.{IsErrAnd}
use Rattle.std.proofs.lemmas.Result.{err_from_is_err_and}
use Rattle.std.proofs.lemmas.List.Elements.{Contains-append_left, Contains-append_right}
use Rattle.vk_spec.specs.Lists.{IsWithin}
use Rattle.vk_spec.specs.Paths.{Path}
use Rattle.vk_spec.specs.Files.{Files}
use Rattle.vk_spec.specs.States.{State}
use Rattle.vk_spec.specs.Reading.{◌>>=◌, Gives, Fails}
use Rattle.vk_spec.proofs.OptionLemmas.{of_each, of_both}
use Rattle.vk_spec.proofs.ReadingLemmas.{fails_on}
use Rattle.vk_base.specs.Stops.{fault_seen, has_failed, is_failure, stop_fault_in}
use Rattle.vk_base.specs.declared.memory.Memory.{Memory}
use Rattle.vk_base.specs.declared.stops.Stop.{Stop}
use Rattle.vk_base.specs.declared.stops.Stop.TheVariants as stop
use Rattle.vk_files.specs.Kept.{Seen, Kept, seen_at, Held, ReadOnce, IsFaithful}
use Rattle.vk_files.specs.Views.{kept_at}
use Rattle.vk_files.specs.Within.{LooksWithin, paths_after}
use Rattle.vk_files.specs.Finds.{IsLearned, Reads, Finds, NothingKnown, ReadsFrom}
use Rattle.vk_files.proofs.OnceLemmas.{nothing_read, once_then}
use Rattle.vk_files.proofs.ReadLemmas.{known_before, seen_there, still_right}
use Rattle.vk_files.proofs.WithinLemmas.{nothing_since, within_then, within_wider}

-- what needs no file
pub learned_here : {failed : Bool} {Holds : Files → Type 0} {paths : Files → List Path} {Before After : Files → Type 0} {h : Held} → failed ≡ false
    → ((f : Files) → Before f → After f × Holds f) → Reads failed Holds paths Before After h h
learned_here {paths = paths} {h = h} calm holds = record {
  once = rw calm (nothing_read h);
  learned = of_each h.tree.told (λ t before. let both = holds t.files before in record { right = both.0; holds = both.1; within = nothing_since (paths t.files) h.kept });
}

-- the same in other words, where as much was known before, and of more paths
pub learned_so : {failed other : Bool} {Holds OtherHolds : Files → Type 0} {paths others : Files → List Path} {Before OtherBefore After OtherAfter : Files → Type 0} {a b : Held} → other ≡ failed
    → ((f : Files) → OtherBefore f → Before f × IsWithin (paths f) (others f)) → ((f : Files) → OtherBefore f → After f → Holds f → OtherAfter f × OtherHolds f)
    → Reads failed Holds paths Before After a b → Reads other OtherHolds others OtherBefore OtherAfter a b
learned_so {a = a} same earlier later one = record {
  once = rw same one.once;
  learned = of_both a.tree.told one.learned one.learned (λ t one _ before.
      let start = earlier t.files before in
      let found = one start.0 in
      let both = later t.files before found.right found.holds in
      record { right = both.0; holds = both.1; within = within_wider start.1 found.within });
}

-- one thing after the other
pub learned_then : {failed : Bool} {First Next Holds : Files → Type 0} {first next paths : Files → List Path} {Before Between Known After : Files → Type 0} {a b c : Held}
    → Reads false First first Before Between a b → Reads failed Next next Known After b c
    → ((f : Files) → Between f → First f → Known f × IsWithin (first f) (paths f) × IsWithin (next f) (paths f) × (Next f → Holds f)) → Reads failed Holds paths Before After a c
learned_then {Next = Next} {next = next} {Known = Known} {After = After} {a = a} {b = b} {c = c} one then join = record {
  once = once_then one.once then.once;
  learned = of_both a.tree.told one.learned (known_before (λ f. Known f → IsLearned (After f) (Next f) (next f) b.kept c.kept) one.once then.learned) (λ t one then before.
      let first = one before in
      let joins = join t.files first.right first.holds in
      let next = then joins.0 in
      record { right = next.right; holds = joins.3 next.holds; within = within_then (within_wider joins.1 first.within) (within_wider joins.2 next.within) });
}

module _ {X Y F P : Type 0} {refusal : F → P} {view : X → Y} {answer : Result X (Stop F)} {meaning : Files → Result Y P} {Known : Files → Type 0} where
  -- what needs no file
  pub finds_here : {paths : Files → List Path} {h : Held} → has_failed answer ≡ false → ((f : Files) → Gives view (fault_seen refusal) answer (meaning f)) → Finds refusal view answer meaning paths Known Known h h
  finds_here calm gives = record { reads = learned_here calm (λ f known. (known, gives f)) }

  -- memory ran out before anything was read
  pub finds_lacking : {After : Files → Type 0} {paths : Files → List Path} {h : Held} {m : Memory} → IsErrAnd answer (λ e. e ≡ stop.Memory m) → ((f : Files) → Known f → After f) → Finds refusal view answer meaning paths Known After h h
  finds_lacking is still =
      let p = err_from_is_err_and answer is in
      rw (p.1, p.2) (record { reads = learned_here refl (λ f known. (still f known, tt)) })

  -- files were read, and then memory ran out
  pub finds_lacked : {Holds After : Files → Type 0} {paths : Files → List Path} {a b : Held} {m : Memory} → Reads false Holds paths Known After a b → IsErrAnd answer (λ e. e ≡ stop.Memory m) → Finds refusal view answer meaning paths Known After a b
  finds_lacked one is =
      let p = err_from_is_err_and answer is in
      rw (p.1, p.2) (record { reads = learned_so refl (λ f known. (known, λ p has. has)) (λ f known after holds. (after, tt)) one })

  -- the same where more may be looked at
  pub finds_wider : {After : Files → Type 0} {paths others : Files → List Path} {a b : Held} → ((f : Files) → IsWithin (paths f) (others f)) → Finds refusal view answer meaning paths Known After a b → Finds refusal view answer meaning others Known After a b
  finds_wider wide one = record { reads = learned_so refl (λ f known. (known, wide f)) (λ f known after gives. (after, gives)) one.reads }

  -- whatever is known besides
  pub finds_known : {paths : Files → List Path} {a b : Held} → Finds refusal view answer meaning paths NothingKnown NothingKnown a b → Finds refusal view answer meaning paths Known Known a b
  finds_known one = record { reads = learned_so refl (λ f known. (tt, λ p has. has)) (λ f known nothing gives. (known, gives)) one.reads }

in_front : {X P : Type 0} (paths : List Path) (read : Result X P) (more : X → List Path) → IsWithin paths (paths ++ paths_after read more)
in_front paths read more p = Contains-append_left paths (paths_after read more) p

module _ {X Y Z W F P : Type 0} {refusal : F → P} {view : X → Y} {next_view : Z → W} {answer : Result Z (Stop F)} {meaning : Files → Result Y P} {first : Files → List Path} {Before : Files → Type 0} {a b : Held}
    (next : Y → Files → Result W P) (more : Y → Files → List Path) where
  -- something was found, and then more
  pub finds_then : {x : X} {Between After : Files → Type 0} {c : Held} → Finds refusal view (Ok x) meaning first Before Between a b → Finds refusal next_view answer (next (view x)) (more (view x)) Between After b c
      → Finds refusal next_view answer (λ f. meaning f >>= λ y. next y f) (λ f. first f ++ paths_after (meaning f) (λ y. more y f)) Before After a c
  finds_then {x = x} one then = record {
    reads = learned_then one.reads then.reads (λ f between is. (between, in_front (first f) (meaning f) (λ y. more y f), rw is (λ p. Contains-append_right (first f) (more (view x) f) p), λ gives. rw is gives));
  }

  -- the same, where what is read then is among what was read first
  pub finds_again : {x : X} {again : Files → List Path} {Between After : Files → Type 0} {c : Held} → Finds refusal view (Ok x) meaning first Before Between a b → Finds refusal next_view answer (next (view x)) again Between After b c
      → ((f : Files) → meaning f ≡ Ok (view x) → IsWithin (again f) (first f)) → Finds refusal next_view answer (λ f. meaning f >>= λ y. next y f) (λ f. first f ++ paths_after (meaning f) (λ y. more y f)) Before After a c
  finds_again one then within = record {
    reads = learned_then one.reads then.reads (λ f between is.
        let wide = in_front (first f) (meaning f) (λ y. more y f) in
        (between, wide, (λ p has. wide p (within f is p has)), λ gives. rw is gives));
  }

  -- nothing was found, so nothing more was read
  pub finds_stopped : {s : Stop F} {After : Files → Type 0} → Finds {X = X} refusal view (Err s) meaning first Before After a b → IsErrAnd answer (λ e. e ≡ s)
      → Finds refusal next_view answer (λ f. meaning f >>= λ y. next y f) (λ f. first f ++ paths_after (meaning f) (λ y. more y f)) Before After a b
  finds_stopped {s = s} one is =
      let p = err_from_is_err_and answer is in
      rw (p.1, p.2) (record {
        reads = learned_so refl (λ f before. (before, in_front (first f) (meaning f) (λ y. more y f))) (λ f before after fails. (after, fails_on (fault_seen refusal s) (meaning f) (λ y. next y f) fails)) one.reads;
      })

module _ {X Y Z W F P : Type 0} {refusal : F → P} {view : X → Y} {next_view : Z → W} {answer : Result Z (Stop F)} {meaning : Files → Result Y P} {paths : Files → List Path} {Before : Files → Type 0} {a b : Held}
    (next : Y → Files → Result W P) where
  -- one thing after the other, where the paths of the second are among those of the first
  pub finds_inside : {x : X} {again : Files → List Path} {Between After : Files → Type 0} {c : Held} → Finds refusal view (Ok x) meaning paths Before Between a b → Finds refusal next_view answer (next (view x)) again Between After b c
      → ((f : Files) → meaning f ≡ Ok (view x) → IsWithin (again f) (paths f)) → Finds refusal next_view answer (λ f. meaning f >>= λ y. next y f) paths Before After a c
  finds_inside one then within = record { reads = learned_then one.reads then.reads (λ f between is. (between, (λ p has. has), within f is, λ gives. rw is gives)) }

  -- where they are the same
  pub finds_both : {x : X} {Between After : Files → Type 0} {c : Held} → Finds refusal view (Ok x) meaning paths Before Between a b → Finds refusal next_view answer (next (view x)) paths Between After b c
      → Finds refusal next_view answer (λ f. meaning f >>= λ y. next y f) paths Before After a c
  finds_both one then = finds_inside one then (λ f is p has. has)

  -- the first was not found
  pub finds_ended : {s : Stop F} {After : Files → Type 0} → Finds {X = X} refusal view (Err s) meaning paths Before After a b → IsErrAnd answer (λ e. e ≡ s) → Finds refusal next_view answer (λ f. meaning f >>= λ y. next y f) paths Before After a b
  finds_ended {s = s} one is =
      let p = err_from_is_err_and answer is in
      rw (p.1, p.2) (record { reads = learned_so refl (λ f before. (before, λ p has. has)) (λ f before after fails. (after, fails_on (fault_seen refusal s) (meaning f) (λ y. next y f) fails)) one.reads })

module _ {X Y Z F P : Type 0} {refusal : F → P} {view : X → Y} {next_view : Z → Y} {meaning : Files → Result Y P} {paths : Files → List Path} {Before After : Files → Type 0} {a b : Held} where
  -- what was found is answered in another form
  pub finds_as : {x : X} {z : Z} → next_view z ≡ view x → Finds refusal view (Ok x) meaning paths Before After a b → Finds refusal next_view (Ok z) meaning paths Before After a b
  finds_as same one = record { reads = learned_so refl (λ f before. (before, λ p has. has)) (λ f before after is. (after, is ∙ ap Ok (sym same))) one.reads }

  -- a stop is the same in any form
  pub finds_none : {s : Stop F} {answer : Result Z (Stop F)} → Finds {X = X} refusal view (Err s) meaning paths Before After a b → IsErrAnd answer (λ e. e ≡ s) → Finds refusal next_view answer meaning paths Before After a b
  finds_none {answer = answer} one is =
      let p = err_from_is_err_and answer is in
      rw (p.1, p.2) (record { reads = record { once = one.reads.once; learned = one.reads.learned } })

module _ {X Y F P : Type 0} {refusal : F → P} {view : X → Y} {answer : Result X (Stop F)} {path : Path} where
  -- a path was looked at, and the answer goes by what was seen there
  pub finds_seen : (meaning : Seen → Result Y P) (seen : Seen) {a b : Held} → IsFaithful a → ReadOnce false a b → LooksWithin (path ∷ []) a.kept b.kept → kept_at path b.kept ≡ Some seen → has_failed answer ≡ false → Gives view (fault_seen refusal) answer (meaning seen)
      → ReadsFrom refusal view answer (λ f. meaning (seen_at path f)) (λ f. path ∷ []) a b
  finds_seen meaning seen {a = a} {b = b} faithful once looks found calm gives = record {
    reads = record {
      once = rw calm once;
      learned = of_both a.tree.told faithful (still_right once) (λ t old right known.
          let is = seen_there path seen t.files b.kept (right old) found in
          record { right = tt; holds = subst (λ x. Gives view (fault_seen refusal) answer (meaning x)) is gives; within = looks });
    };
  }

  -- it was looked at in vain
  pub finds_unseen : (s : Stop F) {meaning : Files → Result Y P} {a b : Held} → ReadOnce (is_failure s) a b → LooksWithin (path ∷ []) a.kept b.kept → stop_fault_in s ≡ None → IsErrAnd answer (λ e. e ≡ s) → ReadsFrom refusal view answer meaning (λ f. path ∷ []) a b
  finds_unseen s {meaning = meaning} {a = a} once looks no_fault is =
      let p = err_from_is_err_and answer is in
      rw (p.1, p.2) (record { reads = record { once = once; learned = of_each a.tree.told (λ t known. record { right = tt; holds = fails s no_fault (meaning t.files); within = looks }) } })
    where
      fails : (s : Stop F) → stop_fault_in s ≡ None → (r : Result Y P) → Fails (fault_seen refusal s) r
      fails (stop.Fault f) none r = (cc)
      fails stop.Failed none r = tt
      fails (stop.Memory m) none r = tt

-- the same, where what is kept afterwards is the same
pub finds_kept : {X Y F P : Type 0} {refusal : F → P} {view : X → Y} {answer : Result X (Stop F)} {meaning : Files → Result Y P} {paths : Files → List Path} {Before After : Files → Type 0} {a : Held} {kept new : Kept} {tree : State}
    → new ≡ kept → Finds refusal view answer meaning paths Before After a (record { kept = kept; tree = tree }) → Finds refusal view answer meaning paths Before After a (record { kept = new; tree = tree })
finds_kept {refusal = refusal} {view = view} {answer = answer} {meaning = meaning} {paths = paths} {Before = Before} {After = After} {a = a} {tree = tree} same one =
    subst (λ k. Finds refusal view answer meaning paths Before After a (record { kept = k; tree = tree })) (sym same) one

-- what is read first needs no file
pub finds_after : {X Z W F P : Type 0} {refusal : F → P} {read : Result X P} {x : X} {view : Z → W} {answer : Result Z (Stop F)} {Before After : Files → Type 0} {a b : Held} (next : X → Files → Result W P) (more : X → Files → List Path)
    → read ≡ Ok x → Finds refusal view answer (next x) (more x) Before After a b → Finds refusal view answer (λ f. read >>= λ y. next y f) (λ f. paths_after read (λ y. more y f)) Before After a b
finds_after next more is one = rw is one
