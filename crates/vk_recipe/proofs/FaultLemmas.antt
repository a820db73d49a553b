-- Steps that can be done, and the first one that can't.
use Rattle.std.proofs.Common.{◌≡◌, ◌⊎◌, ◌+◌, ◌||◌, inl, inr, ℕ, Bool, true, false, not, cond, List, [], ◌∷◌, ◌++◌, length, map, refl, ap, sym, ◌∙◌, subst, append_assoc, arith}
use Rattle.std.specs.Prelude.{Option, Some, None, IsSome, Result, Ok, Err, is_some, if◌then◌else◌}
use Rattle.std.specs.List.{Contains, list_any}
use Rattle.std.proofs.lemmas.List.{append-nil}
use Rattle.vk_spec.specs.Lists.{NoRepeats}
use Rattle.vk_spec.specs.Paths.{Path, Begins}
use Rattle.vk_spec.specs.Reading.{◌>>=◌, read_after}
use Rattle.vk_spec.proofs.ListLemmas.{contains_nothing, contains_first, contains_later, contains_cases}
use Rattle.vk_resolution.proofs.Members.{any_contains}
use Rattle.vk_entry.specs.Packages.{File}
use Rattle.vk_recipe.specs.Recipes.{Step}
use Rattle.vk_recipe.specs.Builds.{Job, begins, overlap, applies, source_of, paths_of, judged, package_of, recipe_in, build_of}
use Rattle.vk_recipe.specs.BuildLaws.{AreApart, CanBeDone, FailsFirst, LacksSource, Clashes}
use Rattle.vk_recipe.specs.declared.faults.RecipeFault.{RecipeFault}
use Rattle.vk_recipe.specs.declared.faults.RecipeFault.TheVariants as fault
use Rattle.vk_recipe.proofs.OverlapLemmas.{begins_then}
use Rattle.vk_recipe.proofs.DistinctLemmas.{apart_more, paths_more, nothing_apart}
use Rattle.vk_recipe.proofs.LawLemmas.{built_of, read_same}

either_begins : (p q : Path) (b : Bool) → begins p q ≡ b → (b || begins q p) ≡ true → Begins p q ⊎ Begins q p
either_begins p q true is e = inl (begins_then p q is)
either_begins p q false is e = inr (begins_then q p e)

pushed_cases : (steps : List Step) (s t : Step) → Contains (steps ++ s ∷ []) t → Contains steps t ⊎ (s ≡ t)
pushed_cases [] s t at = elim (contains_cases s t [] at) [ inl same ↦ inr same | inr none ↦ absurd (contains_nothing t none) ]
pushed_cases (x ∷ steps) s t at =
    elim (contains_cases x t (steps ++ s ∷ []) at) [
      | inl same ↦ inl (subst (Contains (x ∷ steps)) same (contains_first x steps))
      | inr later ↦ elim (pushed_cases steps s t later) [
        | inl old ↦ inl (contains_later x t steps old)
        | inr same ↦ inr same
      ]
    ]

in_middle : {X : Type 0} (front back : List X) (x : X) → Contains (front ++ x ∷ back) x
in_middle [] back x = contains_first x back
in_middle (y ∷ front) back x = contains_later y x (front ++ x ∷ back) (in_middle front back x)

in_front : {X : Type 0} (front back : List X) (x : X) → Contains front x → Contains (front ++ back) x
in_front [] back x at = absurd (contains_nothing x at)
in_front (y ∷ front) back x at =
    elim (contains_cases y x front at) [
      | inl same ↦ subst (Contains (y ∷ (front ++ back))) same (contains_first y (front ++ back))
      | inr later ↦ contains_later y x (front ++ back) (in_front front back x later)
    ]

module _ (job : Job) where
  abbrev Says : List Step → Result (List Step) RecipeFault → Type 0
  Says steps (Ok done) = CanBeDone job steps
  Says steps (Err (fault.NoSource k)) = LacksSource job steps k
  Says steps (Err (fault.DoublePath k)) = Clashes job steps k
  Says steps (Err fault.NoRecipe) = ⊥
  Says steps (Err (fault.Bad place why)) = ⊥

  can_more : (earlier : List Step) (s : Step) → CanBeDone job earlier → (applies job s ≡ true → IsSome (source_of job s.action)) → AreApart (paths_of job (earlier ++ s ∷ [])) → CanBeDone job (earlier ++ s ∷ [])
  can_more earlier s can source apart = record {
    sources = λ t at is. elim (pushed_cases earlier s t at) [
      | inl old ↦ can.sources t old is
      | inr same ↦ subst (λ x. applies job x ≡ true → IsSome (source_of job x.action)) same source is
    ];
    apart = apart;
  }

  one_path : (a : Bool) (s : Step) → applies job s ≡ a → paths_of job (s ∷ []) ≡ cond a (s.to ∷ []) []
  one_path true s is = ap (λ b. map (λ (t : Step). t.to) (cond b (s ∷ []) [])) is
  one_path false s is = ap (λ b. map (λ (t : Step). t.to) (cond b (s ∷ []) [])) is

  idle : (earlier : List Step) (s : Step) → applies job s ≡ false → CanBeDone job earlier → CanBeDone job (earlier ++ s ∷ [])
  idle earlier s is can =
      can_more earlier s can (λ e. let clash : false ≡ true = sym is ∙ e in (cc))
      (subst AreApart (sym (paths_more job earlier (s ∷ []) ∙ ap (λ l. paths_of job earlier ++ l) (one_path false s is) ∙ append-nil (paths_of job earlier))) can.apart)

  done : (earlier : List Step) (s : Step) → applies job s ≡ true → IsSome (source_of job s.action) → list_any (overlap s.to) (paths_of job earlier) ≡ false → CanBeDone job earlier → CanBeDone job (earlier ++ s ∷ [])
  done earlier s is source free can =
      can_more earlier s can (λ e. source)
      (subst AreApart (sym (paths_more job earlier (s ∷ []) ∙ ap (λ l. paths_of job earlier ++ l) (one_path true s is))) (apart_more (paths_of job earlier) s.to free can.apart))

  abbrev first : (earlier : List Step) (s : Step) (later : List Step) → CanBeDone job earlier → applies job s ≡ true → FailsFirst job (earlier ++ s ∷ later) (length earlier + 1)
  first earlier s later can is = record { earlier = earlier; step = s; later = later; split = refl; number = refl; before = can; runs = is }

  grown_length : (earlier : List Step) (s : Step) → length (earlier ++ s ∷ []) ≡ length earlier + 1
  grown_length [] s = refl
  grown_length (x ∷ earlier) s = let rest = grown_length earlier s in omega (arith, rest)

  step_by : (earlier : List Step) (s : Step) (steps : List Step) (a : Bool) (source : Option (List ℕ)) (b : Bool) → CanBeDone job earlier
      → applies job s ≡ a → source_of job s.action ≡ source → list_any (overlap s.to) (paths_of job earlier) ≡ b
      → (CanBeDone job (earlier ++ s ∷ []) → Says (earlier ++ s ∷ steps) (read_after (judged job) (earlier ++ s ∷ []) (length earlier + 1) steps))
      → Says (earlier ++ s ∷ steps) ((if a then (if not (is_some source) then Err (fault.NoSource (length earlier + 1)) else if b then Err (fault.DoublePath (length earlier + 1)) else Ok s) else Ok s) >>= λ y. read_after (judged job) (earlier ++ y ∷ []) (length earlier + 1) steps)
  step_by earlier s steps false source b can is from free rest = rest (idle earlier s is can)
  step_by earlier s steps true None b can is from free rest = record { fails = first earlier s steps can is; lacks = from }
  step_by earlier s steps true (Some bytes) true can is from free rest =
      let p = any_contains (overlap s.to) (paths_of job earlier) free in record {
        fails = first earlier s steps can is;
        has = ap is_some from;
        other = p.0;
        stands = p.1;
        begun = either_begins s.to p.0 (begins s.to p.0) refl p.2;
      }
  step_by earlier s steps true (Some bytes) false can is from free rest = rest (done earlier s is (ap is_some from) free can)

  says : (earlier steps : List Step) → CanBeDone job earlier → Says (earlier ++ steps) (read_after (judged job) earlier (length earlier) steps)
  unfolding read_after
  says earlier [] can = subst (CanBeDone job) (sym (append-nil earlier)) can
  says earlier (s ∷ steps) can =
      step_by earlier s steps (applies job s) (source_of job s.action) (list_any (overlap s.to) (paths_of job earlier)) can refl refl refl
      (λ more. subst (λ l. Says l (read_after (judged job) (earlier ++ s ∷ []) (length earlier + 1) steps)) (append_assoc earlier (s ∷ []) steps)
      (subst (λ n. Says ((earlier ++ s ∷ []) ++ steps) (read_after (judged job) (earlier ++ s ∷ []) n steps)) (grown_length earlier s)
      (says (earlier ++ s ∷ []) steps more)))

  none_done : CanBeDone job []
  none_done = record { sources = λ s at. absurd (contains_nothing s at); apart = nothing_apart job }

  told : (steps : List Step) (r : Result (List Step) RecipeFault) → read_after (judged job) [] 0 steps ≡ r → Says steps r
  told steps r e = subst (Says steps) e (says [] steps none_done)

  failed : (steps : List Step) (f : RecipeFault) → recipe_in job.folder ≡ Ok steps → build_of job ≡ Err f → read_after (judged job) [] 0 steps ≡ Err f
  unfolding build_of
  failed steps f is e = by (read_after (judged job) [] 0 steps) (sym (ap (λ r. r >>= λ l. read_after (judged job) [] 0 l >>= λ d. Ok (package_of job d)) is) ∙ e)
    where
      by : (r : Result (List Step) RecipeFault) → (r >>= λ d. Ok (package_of job d)) ≡ Err f → r ≡ Err f
      by (Ok d) h = (cc)
      by (Err g) h = let same : g ≡ f = (cc) in ap Err same

  pub lacks_source : (steps : List Step) (n : ℕ) → recipe_in job.folder ≡ Ok steps → build_of job ≡ Err (fault.NoSource n) → LacksSource job steps n
  lacks_source steps n is e = told steps (Err (fault.NoSource n)) (failed steps (fault.NoSource n) is e)

  pub clashes : (steps : List Step) (n : ℕ) → recipe_in job.folder ≡ Ok steps → build_of job ≡ Err (fault.DoublePath n) → Clashes job steps n
  clashes steps n is e = told steps (Err (fault.DoublePath n)) (failed steps (fault.DoublePath n) is e)

  pub all_done : (steps : List Step) (files : List File) → recipe_in job.folder ≡ Ok steps → build_of job ≡ Ok files → CanBeDone job steps × (files ≡ package_of job steps)
  all_done steps files is e =
      let built = built_of job files e in
      let same : built.0 ≡ steps = (let both : Ok built.0 ≡ Ok steps = sym built.1 ∙ is in (cc)) in
      (subst (CanBeDone job) same (told built.0 (Ok built.0) built.2), built.3 ∙ ap (package_of job) same)

  -- ---- where all steps can be done, a package is built

  twice : (paths later : List Path) (p : Path) → NoRepeats (paths ++ p ∷ later) → Contains paths p → ⊥
  twice [] later p once at = contains_nothing p at
  twice (q ∷ paths) later p once at =
      elim (contains_cases q p paths at) [
        | inl same ↦ once.0 (subst (Contains (paths ++ p ∷ later)) (sym same) (in_middle paths later p))
        | inr rest ↦ twice paths later p once.1 rest
      ]

  split_paths : (earlier later : List Step) (s : Step) → applies job s ≡ true → paths_of job (earlier ++ s ∷ later) ≡ paths_of job earlier ++ s.to ∷ paths_of job later
  split_paths earlier later s is =
      paths_more job earlier (s ∷ later)
      ∙ ap (λ l. paths_of job earlier ++ l) (paths_more job (s ∷ []) later ∙ ap (λ l. l ++ paths_of job later) (one_path true s is))

  not_both : (steps : List Step) (r : Result (List Step) RecipeFault) → CanBeDone job steps → Says steps r → read_after (judged job) [] 0 steps ≡ r → (done : List Step) × (r ≡ Ok done)
  not_both steps (Ok done) can is e = (done, refl)
  not_both steps (Err (fault.NoSource k)) can is e =
      let here = subst (λ l. Contains l is.fails.step) (sym is.fails.split) (in_middle is.fails.earlier is.fails.later is.fails.step) in
      let some = can.sources is.fails.step here is.fails.runs in
      let clash : false ≡ true = sym (ap is_some is.lacks) ∙ some in (cc)
  not_both steps (Err (fault.DoublePath k)) can is e =
      let x = is.fails in
      let apart = subst AreApart (ap (paths_of job) x.split ∙ split_paths x.earlier x.later x.step x.runs) can.apart in
      let before = in_front (paths_of job x.earlier) (x.step.to ∷ paths_of job x.later) is.other is.stands in
      let here = in_middle (paths_of job x.earlier) (paths_of job x.later) x.step.to in
      let same : is.other ≡ x.step.to = elim is.begun [
        | inl begun ↦ sym (apart.alone x.step.to is.other here before begun)
        | inr begun ↦ apart.alone is.other x.step.to before here begun
      ] in
      absurd (twice (paths_of job x.earlier) (paths_of job x.later) x.step.to apart.once (subst (Contains (paths_of job x.earlier)) same is.stands))
  not_both steps (Err fault.NoRecipe) can is e = absurd is
  not_both steps (Err (fault.Bad place why)) can is e = absurd is

  pub is_built : (steps : List Step) → recipe_in job.folder ≡ Ok steps → CanBeDone job steps → build_of job ≡ Ok (package_of job steps)
  unfolding build_of
  is_built steps is can =
      let read = not_both steps (read_after (judged job) [] 0 steps) can (told steps (read_after (judged job) [] 0 steps) refl) refl in
      let same : read.0 ≡ steps = read_same job [] 0 steps read.0 read.1 in
      ap (λ r. r >>= λ l. read_after (judged job) [] 0 l >>= λ d. Ok (package_of job d)) is
      ∙ ap (λ r. r >>= λ d. Ok (package_of job d)) read.1
      ∙ ap (λ l. Ok (package_of job l)) same
