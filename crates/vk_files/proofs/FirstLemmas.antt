-- The first of a list that passes a test of files, as a loop finds it, and which paths are looked at.
use Rattle.std.proofs.Common.{◌≡◌, ◌<◌, ◌≤◌, ◌+◌, ℕ, Bool, true, false, cond, List, [], ◌∷◌, ◌++◌, flat_map, length, get_or, drop, refl, ap, sym, subst, ◌∙◌}
use Rattle.std.specs.Prelude.{Option, Some, None, IfSome, option_map, Result, Ok, Err}
use Rattle.std.specs.Result.{IsErrAnd}
use Rattle.std.specs.List.{find}
use Rattle.std.proofs.lemmas.Result.{err_from_is_err_and}
use Rattle.std.proofs.lemmas.List.{drop_more}
use Rattle.std.proofs.Math.ListN.{drop_of_length-le}
use Rattle.std.proofs.lemmas.List.Elements.{Contains-append_left, Contains-append_right}
use Rattle.vk_spec.specs.Lists.{IsWithin}
use Rattle.vk_spec.specs.Paths.{Path}
use Rattle.vk_spec.specs.Files.{Files}
use Rattle.vk_spec.specs.Reading.{Gives, Fails}
use Rattle.vk_spec.proofs.OptionLemmas.{of_both}
use Rattle.vk_base.specs.Stops.{fault_seen, has_failed}
use Rattle.vk_base.specs.declared.stops.Stop.{Stop}
use Rattle.vk_files.specs.Kept.{Held}
use Rattle.vk_files.specs.Within.{up_to_first}
use Rattle.vk_files.specs.Finds.{Reads, Finds, NothingKnown, ReadsFrom}
use Rattle.vk_files.proofs.FindLemmas.{learned_here, learned_so, learned_then, finds_wider}

-- what is told without a fault doesn't fail
pub never : {Y W P : Type 0} (told : Option P) (y : Y) (w : W) → Fails told (Ok y) → Fails told (Ok w)
never None y w fails = tt
never (Some fault) y w fails = (cc)

-- the members from a place on, and behind the last
pub left_from : {X : Type 0} (i : ℕ) (xs : List X) (x : X) → i < length xs → x ≡ get_or xs i x → drop i xs ≡ x ∷ drop (i + 1) xs
left_from i xs x within is = drop_more xs i x within ∙ ap (λ y. y ∷ drop (i + 1) xs) (sym is)

pub nothing_left : {X : Type 0} (i : ℕ) (xs : List X) → length xs ≤ i → drop i xs ≡ []
nothing_left i xs past = drop_of_length-le xs past

-- what is found among those that are left is what is found among all, and their paths are among those of all
pub record GoesOn {A : Type 0} (paths : A → List Path) (test : A → Bool) (left all : List A) : Type 0 where
  pub found : find test left ≡ find test all
  pub among : IsWithin (flat_map paths (up_to_first test left)) (flat_map paths (up_to_first test all))

-- none passed so far
pub record NoneSoFar {A : Type 0} (paths : A → List Path) (test : Files → A → Bool) (left all : List A) (before now : Held) : Type 0 where
  pub reads : Reads false (λ f. GoesOn paths (test f) left all) (λ f. flat_map paths (up_to_first (test f) all)) NothingKnown NothingKnown before now

module _ {A : Type 0} (paths : A → List Path) (test : A → Bool) where
  first_within : {x : A} {left all : List A} → GoesOn paths test (x ∷ left) all → IsWithin (paths x) (flat_map paths (up_to_first test all))
  first_within {x = x} {left = left} on p has = on.among p (Contains-append_left (paths x) (flat_map paths (cond (test x) [] (up_to_first test left))) p has)

  passed : {x : A} {left all : List A} → test x ≡ false → GoesOn paths test (x ∷ left) all → GoesOn paths test left all
  passed {x = x} {left = left} {all = all} fails on = record {
    found = subst (λ b. cond b (Some x) (find test left) ≡ find test all) fails on.found;
    among = λ p has.
        subst (λ b. IsWithin (paths x ++ flat_map paths (cond b [] (up_to_first test left))) (flat_map paths (up_to_first test all))) fails on.among p
        (Contains-append_right (paths x) (flat_map paths (up_to_first test left)) p has);
  }

  taken : {x : A} {left all : List A} → test x ≡ true → GoesOn paths test (x ∷ left) all → find test all ≡ Some x
  taken {x = x} {left = left} passes on = sym on.found ∙ ap (λ b. cond b (Some x) (find test left)) passes

  -- the paths of the one that passes are among those
  found_among : (xs : List A) → IfSome (find test xs) (λ x. IsWithin (paths x) (flat_map paths (up_to_first test xs)))
  found_among [] = tt
  found_among (x ∷ xs) = by (found_among xs) (test x)
    where
      by : IfSome (find test xs) (λ y. IsWithin (paths y) (flat_map paths (up_to_first test xs))) → (passes : Bool)
          → IfSome (cond passes (Some x) (find test xs)) (λ y. IsWithin (paths y) (paths x ++ flat_map paths (cond passes [] (up_to_first test xs))))
      by later true = λ y has. Contains-append_left (paths x) [] y has
      by later false = of_both (find test xs) later later (λ y among _ z has. Contains-append_right (paths x) (flat_map paths (up_to_first test xs)) z (among z has))

  pub found_within : {P : Type 0} (xs : List A) (x : A) {read : Result (Option A) P} → read ≡ Ok (find test xs) → read ≡ Ok (Some x) → IsWithin (paths x) (flat_map paths (up_to_first test xs))
  found_within xs x told is =
      let found : find test xs ≡ Some x = (cc) in
      subst (λ o. IfSome o (λ x. IsWithin (paths x) (flat_map paths (up_to_first test xs)))) found (found_among xs)

pub none_yet : {A : Type 0} {paths : A → List Path} {test : Files → A → Bool} {all : List A} {h : Held} → NoneSoFar paths test all all h h
none_yet = record { reads = learned_here refl (λ f known. (known, record { found = refl; among = λ p has. has })) }

module _ {A F P : Type 0} {refusal : F → P} {paths : A → List Path} {test : Files → A → Bool} {all : List A} {a b : Held} where
  -- what follows of whether the next one passes
  after_next : {answer : Result Bool (Stop F)} {x : A} {now left : List A} {c : Held} {Holds : Files → Type 0} → now ≡ x ∷ left → NoneSoFar paths test now all a b
      → Finds refusal (λ b. b) answer (λ f. Ok (test f x)) (λ f. paths x) NothingKnown NothingKnown b c → ((f : Files) → GoesOn paths (test f) (x ∷ left) all → Gives (λ b. b) (fault_seen refusal) answer (Ok (test f x)) → Holds f)
      → Reads (has_failed answer) Holds (λ f. flat_map paths (up_to_first (test f) all)) NothingKnown NothingKnown a c
  after_next is so_far one holds = learned_then (subst (λ l. NoneSoFar paths test l all a b) is so_far).reads one.reads (λ f known on. (known, (λ p has. has), first_within paths (test f) on, holds f on))

  -- it doesn't pass
  pub none_more : {x : A} {now left : List A} {c : Held} → now ≡ x ∷ left → NoneSoFar paths test now all a b → Finds refusal (λ b. b) (Ok false) (λ f. Ok (test f x)) (λ f. paths x) NothingKnown NothingKnown b c → NoneSoFar paths test left all a c
  none_more {x = x} is so_far one = record { reads = after_next is so_far one (λ f on told. let fails : test f x ≡ false = (cc) in passed paths (test f) fails on) }

  module _ {R : Type 0} {seen : R → A} where
    -- it passes
    pub first_found : {r : R} {now left : List A} {c : Held} → now ≡ seen r ∷ left → NoneSoFar paths test now all a b → Finds refusal (λ b. b) (Ok true) (λ f. Ok (test f (seen r))) (λ f. paths (seen r)) NothingKnown NothingKnown b c
        → Finds refusal (option_map seen) (Ok (Some r)) (λ f. Ok (find (test f) all)) (λ f. flat_map paths (up_to_first (test f) all)) NothingKnown NothingKnown a c
    first_found {r = r} is so_far one = record { reads = after_next is so_far one (λ f on told. let passes : test f (seen r) ≡ true = (cc) in ap Ok (taken paths (test f) passes on)) }

    -- whether it passes isn't known
    pub first_stopped : {s : Stop F} {answer : Result (Option R) (Stop F)} {x : A} {now left : List A} {c : Held} → now ≡ x ∷ left → NoneSoFar paths test now all a b
        → Finds {X = Bool} refusal (λ b. b) (Err s) (λ f. Ok (test f x)) (λ f. paths x) NothingKnown NothingKnown b c → IsErrAnd answer (λ e. e ≡ s)
        → Finds refusal (option_map seen) answer (λ f. Ok (find (test f) all)) (λ f. flat_map paths (up_to_first (test f) all)) NothingKnown NothingKnown a c
    first_stopped {s = s} {answer = answer} {x = x} is so_far one err =
        let p = err_from_is_err_and answer err in
        rw (p.1, p.2) (record { reads = after_next is so_far one (λ f on. never (fault_seen refusal s) (test f x) (find (test f) all)) })

    -- none passes
    pub none_found : {now : List A} → now ≡ [] → NoneSoFar paths test now all a b
        → Finds {X = Option R} refusal (option_map seen) (Ok None) (λ f. Ok (find (test f) all)) (λ f. flat_map paths (up_to_first (test f) all)) NothingKnown NothingKnown a b
    none_found is so_far = record { reads = learned_so refl (λ f known. (known, λ p has. has)) (λ f before known on. (known, ap Ok (sym on.found))) (subst (λ l. NoneSoFar paths test l all a b) is so_far).reads }

-- ---- where a member is its own path

-- each path of a list by itself
each_alone : (xs : List Path) → flat_map (λ p. p ∷ []) xs ≡ xs
each_alone [] = refl
each_alone (x ∷ xs) = ap (λ l. x ∷ l) (each_alone xs)

-- the first of the paths at which there is a file
pub of_files : {X F P : Type 0} {refusal : F → P} {view : X → Option Path} {answer : Result X (Stop F)} {meaning : Files → Result (Option Path) P} {a b : Held} (test : Files → Path → Bool) (paths : List Path)
    → ReadsFrom refusal view answer meaning (λ f. flat_map (λ p. p ∷ []) (up_to_first (test f) paths)) a b → ReadsFrom refusal view answer meaning (λ f. up_to_first (test f) paths) a b
of_files test paths one = finds_wider (λ f. subst (λ l. IsWithin (flat_map (λ p. p ∷ []) (up_to_first (test f) paths)) l) (each_alone (up_to_first (test f) paths)) (λ p has. has)) one

-- it is one of those that were looked at
pub found_again : {P : Type 0} (test : Files → Path → Bool) (paths : List Path) {path : Path} (f : Files) {read : Result (Option Path) P} → read ≡ Ok (find (test f) paths) → read ≡ Ok (Some path) → IsWithin (path ∷ []) (up_to_first (test f) paths)
found_again test paths {path = path} f told is = subst (λ l. IsWithin (path ∷ []) l) (each_alone (up_to_first (test f) paths)) (found_within (λ p. p ∷ []) (test f) paths path told is)
