-- The files that steps make have paths of which none begins another, and so different texts.
use Rattle.std.proofs.Common.{◌≡◌, ◌+◌, ◌||◌, inl, inr, ℕ, Bool, true, false, not, cond, List, [], ◌∷◌, ◌++◌, map, refl, ap, sym, ◌∙◌, subst, append_assoc}
use Rattle.std.specs.Prelude.{Option, Some, None, Ok, Err, flat_map, is_some, if◌then◌else◌}
use Rattle.std.specs.List.{Contains, filter, list_any}
use Rattle.std.proofs.lemmas.List.{append-nil, map-append}
use Rattle.vk_spec.specs.Lists.{NoRepeats}
use Rattle.vk_spec.specs.Paths.{Path, Begins}
use Rattle.vk_spec.specs.Reading.{read_after}
use Rattle.vk_spec.proofs.ReadingLemmas.{bind_ok}
use Rattle.vk_spec.proofs.ListLemmas.{contains_nothing, contains_first, contains_later, contains_cases, no_repeats_push}
use Rattle.vk_base.specs.Paths.{text_of_path}
use Rattle.vk_resolution.proofs.Members.{contains_map}
use Rattle.vk_entry.specs.Packages.{File, texts_of}
use Rattle.vk_entry.proofs.SameTexts.{same_path}
use Rattle.vk_recipe.specs.Recipes.{Step}
use Rattle.vk_recipe.specs.PackagePaths.{IsDestination}
use Rattle.vk_recipe.specs.Builds.{Job, begins, overlap, applies, source_of, paths_of, judged, made_of, file_of_step}
use Rattle.vk_recipe.specs.BuildLaws.{AreApart}
use Rattle.vk_recipe.specs.declared.faults.RecipeFault.TheVariants as fault
use Rattle.vk_recipe.proofs.OverlapLemmas.{begins_if}
use Rattle.vk_recipe.proofs.TakenLemmas.{pushed, none_of}

-- ---- paths that are apart

self_overlap : (p : Path) → overlap p p ≡ true
self_overlap p = ap (λ b. b || begins p p) (begins_if p p ([], sym (append-nil p)))

or_right : (a b : Bool) → b ≡ true → (a || b) ≡ true
or_right true b e = refl
or_right false b e = e

pub apart_more : (paths : List Path) (p : Path) → list_any (overlap p) paths ≡ false → AreApart paths → AreApart (paths ++ p ∷ [])
apart_more paths p free apart = record {
  once = no_repeats_push paths p apart.once (λ at. none_of (overlap p) paths p free at (self_overlap p));
  alone = λ q r one other begun.
      elim ((pushed paths p q).0 one) [
        | inl q_is ↦ elim ((pushed paths p r).0 other) [
          | inl r_is ↦ sym q_is ∙ r_is
          | inr r_at ↦ absurd (none_of (overlap p) paths r free r_at (ap (λ b. b || begins r p) (begins_if p r (subst (λ x. Begins x r) (sym q_is) begun))))
        ]
        | inr q_at ↦ elim ((pushed paths p r).0 other) [
          | inl r_is ↦ absurd (none_of (overlap p) paths q free q_at (or_right (begins p q) (begins q p) (begins_if q p (subst (Begins q) (sym r_is) begun))))
          | inr r_at ↦ apart.alone q r q_at r_at begun
        ]
      ];
}

-- ---- a step that can be done

module _ (job : Job) where
  -- where it can be done it makes its file, unless it doesn't apply, and no other stands in its way
  pub record IsDone (paths : List Path) (step : Step) : Type 0 where
    pub made : map (λ (f : File). f.path) (file_of_step job step) ≡ paths_of job (step ∷ [])
    pub apart : AreApart paths → AreApart (paths ++ paths_of job (step ∷ []))

  done_by : (earlier : List Path) (n : ℕ) (step found : Step) (a : Bool) (source : Option (List ℕ)) (b : Bool) → applies job step ≡ a → source_of job step.action ≡ source → list_any (overlap step.to) earlier ≡ b
      → (if a then (if not (is_some source) then Err (fault.NoSource (n + 1)) else if b then Err (fault.DoublePath (n + 1)) else Ok step) else Ok step) ≡ Ok found
      → (map (λ (f : File). f.path) (if a then made_of step.to source else []) ≡ map (λ (s : Step). s.to) (if a then step ∷ [] else []))
      × (AreApart earlier → AreApart (earlier ++ map (λ (s : Step). s.to) (if a then step ∷ [] else []))) × (found ≡ step)
  done_by earlier n step found false source b is from free e = (refl, (λ apart. subst AreApart (sym (append-nil earlier)) apart), (cc))
  done_by earlier n step found true None b is from free e = (cc)
  done_by earlier n step found true (Some bytes) true is from free e = (cc)
  done_by earlier n step found true (Some bytes) false is from free e = (refl, (λ apart. apart_more earlier step.to free apart), (cc))

  pub step_is_done : (earlier : List Step) (n : ℕ) (step found : Step) → judged job earlier n step ≡ Ok found → IsDone (paths_of job earlier) step × (found ≡ step)
  step_is_done earlier n step found e =
      let is = done_by (paths_of job earlier) n step found (applies job step) (source_of job step.action) (list_any (overlap step.to) (paths_of job earlier)) refl refl refl e in
      (record { made = is.0; apart = is.1 }, is.2)

  -- ---- all steps

  one_more : (a : Bool) (s : Step) (earlier more : List Step) → paths_of job (earlier ++ more) ≡ paths_of job earlier ++ paths_of job more
      → map (λ (t : Step). t.to) (cond a (s ∷ filter (applies job) (earlier ++ more)) (filter (applies job) (earlier ++ more))) ≡ map (λ (t : Step). t.to) (cond a (s ∷ filter (applies job) earlier) (filter (applies job) earlier)) ++ paths_of job more
  one_more true s earlier more rest = ap (λ l. s.to ∷ l) rest
  one_more false s earlier more rest = rest

  pub paths_more : (earlier more : List Step) → paths_of job (earlier ++ more) ≡ paths_of job earlier ++ paths_of job more
  paths_more [] more = refl
  paths_more (s ∷ earlier) more = one_more (applies job s) s earlier more (paths_more earlier more)

  -- no step's path lies in the way of another's
  pub all_apart : (earlier : List Step) (n : ℕ) (steps done : List Step) → read_after (judged job) earlier n steps ≡ Ok done → AreApart (paths_of job earlier) → AreApart (paths_of job (earlier ++ steps))
  unfolding read_after
  all_apart earlier n [] done e apart = subst (λ l. AreApart (paths_of job l)) (sym (append-nil earlier)) apart
  all_apart earlier n (s ∷ steps) done e apart =
      let first = bind_ok (judged job earlier n s) (λ y. read_after (judged job) (earlier ++ y ∷ []) (n + 1) steps) done e in
      let is = step_is_done earlier n s first.0 first.1 in
      let on = all_apart (earlier ++ first.0 ∷ []) (n + 1) steps done first.2
      (subst (λ y. AreApart (paths_of job (earlier ++ y ∷ []))) (sym is.1) (subst AreApart (sym (paths_more earlier (s ∷ []))) (is.0.apart apart))) in
      subst (λ l. AreApart (paths_of job l)) (ap (λ y. (earlier ++ y ∷ []) ++ steps) is.1 ∙ append_assoc earlier (s ∷ []) steps) on

  -- each step that applies makes its file
  pub all_made : (earlier : List Step) (n : ℕ) (steps done : List Step) → read_after (judged job) earlier n steps ≡ Ok done → map (λ (f : File). f.path) (flat_map (file_of_step job) steps) ≡ paths_of job steps
  unfolding read_after
  all_made earlier n [] done e = refl
  all_made earlier n (s ∷ steps) done e =
      let first = bind_ok (judged job earlier n s) (λ y. read_after (judged job) (earlier ++ y ∷ []) (n + 1) steps) done e in
      let is = step_is_done earlier n s first.0 first.1 in
      map-append (λ (f : File). f.path) (file_of_step job s) (flat_map (file_of_step job) steps)
      ∙ ap (λ l. l ++ map (λ (f : File). f.path) (flat_map (file_of_step job) steps)) is.0.made
      ∙ ap (λ l. paths_of job (s ∷ []) ++ l) (all_made (earlier ++ first.0 ∷ []) (n + 1) steps done first.2)
      ∙ sym (paths_more (s ∷ []) steps)

  one_right : (a : Bool) (s : Step) (steps : List Step) → IsDestination s.to → (p : Path) → (Contains (paths_of job steps) p → IsDestination p)
      → Contains (map (λ (t : Step). t.to) (cond a (s ∷ filter (applies job) steps) (filter (applies job) steps))) p → IsDestination p
  one_right true s steps is p rest at = elim (contains_cases s.to p (paths_of job steps) at) [
    | inl same ↦ subst IsDestination same is
    | inr later ↦ rest later
  ]
  one_right false s steps is p rest at = rest at

  pub paths_right : (steps : List Step) → ((s : Step) → Contains steps s → IsDestination s.to) → (p : Path) → Contains (paths_of job steps) p → IsDestination p
  paths_right [] each p at = absurd (contains_nothing p at)
  paths_right (s ∷ steps) each p at =
      one_right (applies job s) s steps (each s (contains_first s steps)) p
      (λ later. paths_right steps (λ t h. each t (contains_later s t steps h)) p later) at

  texts_apart : (paths : List Path) → ((p : Path) → Contains paths p → IsDestination p) → NoRepeats paths → NoRepeats (map text_of_path paths)
  texts_apart [] each once = tt
  texts_apart (p ∷ paths) each once = (
    (λ at.
        let q = contains_map text_of_path paths (text_of_path p) at in
        once.0 (subst (Contains paths) (same_path q.0 p (each q.0 (contains_later p q.0 paths q.1)).path (each p (contains_first p paths)).path q.2) q.1)),
    texts_apart paths (λ q h. each q (contains_later p q paths h)) once.1,
  )

  texts_by : (files : List File) → texts_of files ≡ map text_of_path (map (λ (f : File). f.path) files)
  texts_by [] = refl
  texts_by (f ∷ files) = ap (λ l. text_of_path f.path ∷ l) (texts_by files)

  pub nothing_apart : AreApart []
  nothing_apart = record { once = tt; alone = λ p q one other begun. absurd (contains_nothing p one) }

  -- the new files have different texts
  pub texts_differ : (steps done : List Step) → ((s : Step) → Contains steps s → IsDestination s.to) → read_after (judged job) [] 0 steps ≡ Ok done → NoRepeats (texts_of (flat_map (file_of_step job) steps))
  texts_differ steps done each read =
      subst NoRepeats (sym (texts_by (flat_map (file_of_step job) steps) ∙ ap (map text_of_path) (all_made [] 0 steps done read)))
      (texts_apart (paths_of job steps) (paths_right steps each) (all_apart [] 0 steps done read nothing_apart).once)
