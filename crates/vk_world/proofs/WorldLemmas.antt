-- A world over a tree: it stays sound, and its answers are what the pages say.
use Rattle.std.proofs.Common.{◌≡◌, ◌-◌, ℕ, suc, inl, inr, List, [], ◌∷◌, ◌++◌, length, take, drop, refl, ap, sym, subst, ◌∙◌, length-append, arith}
use Rattle.std.specs.Prelude.{Option, Some, None, option_map, IfSome, IsSome, Result, Ok, Err, IfOk}
use Rattle.std.specs.List.{Contains}
use Rattle.std.proofs.lemmas.List.Elements.{Contains-append_cases}
use Rattle.std.proofs.lemmas.List.{append-nil, append_assoc, append_cancel_left, map-append, take-append-le, take-append-drop, drop-append-le}
use Rattle.std.proofs.Math.ListN.{drop_of_length-le}
use Rattle.std.proofs.Math.Seq.{take-append_seam, take-length}
use Rattle.vk_spec.specs.Lists.{NoRepeats}
use Rattle.vk_spec.proofs.ListLemmas.{contains_nothing}
use Rattle.vk_spec.proofs.OptionLemmas.{of_each, of_both}
use Rattle.vk_spec.specs.Paths.{Path}
use Rattle.vk_spec.specs.Files.{Files}
use Rattle.vk_spec.specs.Calls.{is_failed}
use Rattle.vk_spec.specs.States.{Told, with_asked}
use Rattle.vk_spec.specs.Pages.{Page}
use Rattle.vk_spec.specs.Catalogues.{ArePages, OnPage, OnlyAsked, Asks}
use Rattle.vk_spec.specs.Conditions.{Condition}
use Rattle.vk_spec.specs.Versions.{Version}
use Rattle.vk_base.specs.Stops.{was_out}
use Rattle.vk_catalogue.specs.Views.{seen_by}
use Rattle.vk_base.specs.declared.stops.Outage.{Outage}
use Rattle.vk_base.specs.declared.stops.Outage.TheVariants as outage
use Rattle.vk_files.specs.Kept.{Kept, Held, paths_of}
use Rattle.vk_files.specs.Within.{LooksWithin}
use Rattle.vk_opening.specs.Layouts.{Layout}
use Rattle.vk_files.specs.Finds.{IsLearned}
use Rattle.vk_pages.specs.Homes.{home_of}
use Rattle.vk_pages.specs.Pages.{page_of}
use Rattle.vk_pages.specs.Asked.{page_paths}
use Rattle.vk_pages.proofs.PageLaws.{is_page}
use Rattle.vk_world.specs.HomeNotes.{FoundHome}
use Rattle.vk_world.specs.Libraries.{layout_of, IsRight, Serves, SaysFolderAt}
use Rattle.vk_world.specs.Worlds.{opened_in, asked_since, log_before, without_asked, places_in, page_paths_in}
use Rattle.vk_world.specs.Worlds.{ArePagePaths, origin_on, pages_in, learned_view, world_state, IsSoundOn, IsSound, IsReadSince}
use Rattle.vk_world.specs.declared.libraries.Library.{Library}
use Rattle.vk_world.proofs.LibraryLemmas.{layout_stays}

-- ---- lists

length_paths : (kept : Kept) → length (paths_of kept) ≡ length kept
length_paths [] = refl
length_paths (e ∷ es) = ap suc (length_paths es)

-- what stands before the paths that a log ends with
before_is : (log before asked : List Path) → log ≡ before ++ asked → log_before asked log ≡ before
before_is log before asked e =
    let n : length log - length asked ≡ length before = omega (arith, ap length e, length-append before asked) in
    rw (n, e) (take-append_seam before asked)

-- ---- a call about a port

-- what is told of files stays as the log grows
told_on : (P : Told → Type 0) (asked : List Path) (o : Option Told) → IfSome o (λ t. P (record { files = t.files; log = t.log ++ asked })) → IfSome (with_asked asked o) P
told_on P asked None holds = tt
told_on P asked (Some t) holds = holds

files_stay : {A : Type 0} (f : Option Told → A) (asked : List Path) (o : Option Told) → ((t : Told) → f (Some (record { files = t.files; log = t.log ++ asked })) ≡ f (Some t)) → f (with_asked asked o) ≡ f o
files_stay f asked None same = refl
files_stay f asked (Some t) same = same t

same_failed : {X A : Type 0} (view : X → A) (answer : Result X Outage) → is_failed (seen_by view answer) ≡ was_out answer
same_failed view (Ok x) = refl
same_failed view (Err outage.Failed) = refl
same_failed view (Err (outage.Memory m)) = refl

module _ {X : Type 0} {answer : Result X Outage} {Says : Files → FoundHome → X → Type 0} {port : List ℕ} {before after : Library} {a b : Held} (sound : IsSound a before) (served : Serves answer Says port before after a b) where
  abbrev was : List Path
  was = asked_since before.opened a.kept

  abbrev now : List Path
  now = asked_since after.opened b.kept

  abbrev more : List Path
  more = paths_of served.learns.reads.once.more

  paths_more : paths_of b.kept ≡ paths_of a.kept ++ more
  paths_more = ap paths_of served.learns.reads.once.kept ∙ map-append (λ e. e.0) a.kept served.learns.reads.once.more

  since_more : now ≡ was ++ more
  since_more =
      ap (λ n. drop n (paths_of b.kept)) served.stays.opened ∙ ap (drop before.opened) paths_more ∙ drop-append-le before.opened (paths_of a.kept) more sound.opened

  -- what was learned, where the files are told
  learned : IfSome a.tree.told (λ t. IsLearned (IsRight after t.files) (IfOk answer (Says t.files (home_of (layout_of before) port t.files))) (page_paths (layout_of before) t.files port) a.kept b.kept)
  learned = of_both a.tree.told sound.told served.learns.reads.learned (λ t on learned. learned on.right)

  -- the paths that were looked at are of the port's page
  more_paths : (paths : List ℕ → List Path) → ArePagePaths paths was → LooksWithin (paths port) a.kept b.kept → ArePagePaths paths now
  more_paths paths old looks p has =
      elim (Contains-append_cases was more p (subst (λ asked. Contains asked p) since_more has)) [
        | inl there ↦ old p there
        | inr since ↦ (port, looks.within p (subst (λ kept. Contains (paths_of kept) p) (append_cancel_left a.kept served.learns.reads.once.more looks.more (sym served.learns.reads.once.kept ∙ looks.kept)) since))
      ]

  sound_on : (t : Told) → IsSoundOn before a.kept t → IsRight after t.files → LooksWithin (page_paths (layout_of before) t.files port) a.kept b.kept → IsSoundOn after b.kept (record { files = t.files; log = t.log ++ more })
  sound_on t on right looks = record {
    right = right;
    before = on.before;
    log = ap (λ log. log ++ more) on.log ∙ append_assoc on.before was more ∙ ap (λ asked. on.before ++ asked) (sym since_more);
    within = subst (λ layout. ArePagePaths (page_paths layout t.files) now) (sym (layout_stays served.stays)) (more_paths (page_paths (layout_of before) t.files) on.within looks);
  }

  -- it stays sound
  pub still_sound : IsSound b after
  still_sound = record {
    opened = rw (served.stays.opened) (omega (arith, sound.opened, ap length paths_more, length-append (paths_of a.kept) more));
    told = subst (λ o. IfSome o (IsSoundOn after b.kept)) (sym served.learns.reads.once.looks.told)
        (told_on (IsSoundOn after b.kept) more a.tree.told (of_both a.tree.told sound.told learned (λ t on l. sound_on t on l.right l.within)));
  }

  -- what is told of files by the layout stays
  told_as : {A : Type 0} (f : Layout → Option Told → A) → ((layout : Layout) (t : Told) → f layout (Some (record { files = t.files; log = t.log ++ more })) ≡ f layout (Some t)) → f (layout_of after) b.tree.told ≡ f (layout_of before) a.tree.told
  told_as f same = ap (λ layout. f layout b.tree.told) (layout_stays served.stays) ∙ ap (f (layout_of before)) served.learns.reads.once.looks.told ∙ files_stay (f (layout_of before)) more a.tree.told (same (layout_of before))

  -- and so does what the tree told when the world was made
  told_stays : (o p : Option Told) → p ≡ with_asked more o → IfSome o (IsSoundOn before a.kept) → option_map (without_asked now) p ≡ option_map (without_asked was) o
  told_stays None p e on = ap (option_map (without_asked now)) e
  told_stays (Some t) p e on =
      let log : t.log ++ more ≡ on.before ++ now = ap (λ l. l ++ more) on.log ∙ append_assoc on.before was more ∙ ap (λ asked. on.before ++ asked) (sym since_more) in
      let same : log_before now (t.log ++ more) ≡ log_before was t.log = before_is (t.log ++ more) on.before now log ∙ sym (before_is t.log on.before was on.log) in
      ap (option_map (without_asked now)) e ∙ (λ i. Some (record { files = t.files; log = same i }))

  pub only_asked : OnlyAsked (was_out answer) (world_state a (learned_view before)) (world_state b (learned_view after))
  only_asked =
      let looks = served.learns.reads.once.looks in
      let opened = ap (λ n. take n (paths_of b.kept)) served.stays.opened ∙ ap (take before.opened) paths_more ∙ take-append-le before.opened (paths_of a.kept) more sound.opened in
      record {
        pages = told_as pages_in (λ layout t. refl);
        origin = λ i. record {
          told = told_stays a.tree.told b.tree.told looks.told sound.told i;
          changes = looks.changes i;
          opened = opened i;
          places = told_as places_in (λ layout t. refl) i;
          page_paths = told_as page_paths_in (λ layout t. refl) i;
        };
        calls = looks.calls;
        faults = looks.ends.faults;
        sure = looks.ends.sure;
        safe = looks.ends.safe;
      }

  -- its answers are what the pages say
  pub asks_served : {A : Type 0} (view : X → A) (PageSays : Page Condition → A → Type 0)
      → ((t : Told) → a.tree.told ≡ Some t → (x : X) → Says t.files (home_of (layout_of before) port t.files) x → PageSays (page_of (layout_of before) t.files port) (view x))
      → Asks port PageSays (seen_by view answer) (world_state a (learned_view before)) (world_state b (learned_view after))
  asks_served view PageSays page_says = record {
    told = told answer a.tree.told refl (of_both a.tree.told learned learned (λ t l _. l.holds));
    kept = kept a.tree.told;
    only = subst (λ failed. OnlyAsked failed (world_state a (learned_view before)) (world_state b (learned_view after))) (sym (same_failed view answer)) only_asked;
  }
    where
      kept : (o : Option Told) → IfSome (pages_in (layout_of before) o) ArePages
      kept None = tt
      kept (Some t) = is_page (layout_of before) t.files

      told : (r : Result X Outage) (o : Option Told) → a.tree.told ≡ o → IfSome o (λ t. IfOk r (Says t.files (home_of (layout_of before) port t.files))) → IfOk (seen_by view r) (λ x. IfSome (pages_in (layout_of before) o) (λ p. PageSays (p port) x))
      told (Err e) o is says = tt
      told (Ok x) None is says = tt
      told (Ok x) (Some t) is says = page_says t is x says

-- where the files are told, a version stands where they say
pub folder_told : {answer : Result (Option Path) Outage} {port : List ℕ} {v : Version} {before after : Library} {a b : Held} → IsSound a before → Serves answer (SaysFolderAt v) port before after a b
    → IfOk answer (λ folder. IfSome (pages_in (layout_of before) a.tree.told) (λ _. folder ≡ places_in (layout_of before) a.tree.told port v))
folder_told {answer = answer} {port = port} {v = v} {before = before} {a = a} sound served = by answer a.tree.told (of_both a.tree.told (learned sound served) (learned sound served) (λ t l _. l.holds))
  where
    by : (r : Result (Option Path) Outage) (o : Option Told) → IfSome o (λ t. IfOk r (SaysFolderAt v t.files (home_of (layout_of before) port t.files))) → IfOk r (λ folder. IfSome (pages_in (layout_of before) o) (λ _. folder ≡ places_in (layout_of before) o port v))
    by (Err e) o says = tt
    by (Ok folder) None says = tt
    by (Ok folder) (Some t) says = says

-- what holds on a port's page holds of the page of the files
pub on_page : (port : List ℕ) (P : Page Condition → Type 0) (lib : Library) (h : Held) (t : Told) → h.tree.told ≡ Some t → OnPage port P (world_state h (learned_view lib)) → P (page_of (layout_of lib) t.files port)
on_page port P lib h t is holds = subst (λ (o : Option Told). IfSome (option_map (λ u. page_of (layout_of lib) u.files) o) (λ p. P (p port))) is holds

-- ---- the beginning and the end

-- as a world begins, nothing was looked at since
none_since : (opened : ℕ) (kept : Kept) → opened ≡ length kept → asked_since opened kept ≡ []
none_since opened kept is = drop_of_length-le (paths_of kept) (rw (is, length_paths kept) (omega arith))

opened_at_start : (opened : ℕ) (kept : Kept) → opened ≡ length kept → opened_in opened kept ≡ paths_of kept
opened_at_start opened kept is = ap (λ n. take n (paths_of kept)) (is ∙ sym (length_paths kept)) ∙ take-length (paths_of kept)

pub sound_on_start : (lib : Library) (h : Held) → lib.opened ≡ length h.kept → ((files : Files) → IsRight lib files) → IsSound h lib
sound_on_start lib h opened right = record {
  opened = rw (opened, length_paths h.kept) (omega arith);
  told = of_each h.tree.told (λ t. record {
    right = right t.files;
    before = t.log;
    log = sym (append-nil t.log) ∙ ap (λ asked. t.log ++ asked) (sym (none_since lib.opened h.kept opened));
    within = subst (ArePagePaths (page_paths (layout_of lib) t.files)) (sym (none_since lib.opened h.kept opened)) (λ p has. absurd (contains_nothing p has));
  });
}

-- what the origin told, and what was looked at since, is what the tree tells
told_since : (lib : Library) (kept : Kept) (o : Option Told) → IfSome o (IsSoundOn lib kept)
    → o ≡ with_asked (asked_since lib.opened kept) (option_map (without_asked (asked_since lib.opened kept)) o)
told_since lib kept None sound = refl
told_since lib kept (Some t) sound =
    let asked = asked_since lib.opened kept in
    let before = before_is t.log sound.before asked sound.log in
    ap (λ log. Some (record { files = t.files; log = log })) (sound.log ∙ ap (λ l. l ++ asked) (sym before))

-- what opening looked at, and what was looked at since, is all that was
once_in_all : (opened : ℕ) (kept : Kept) → NoRepeats (paths_of kept) → NoRepeats (opened_in opened kept ++ asked_since opened kept)
once_in_all opened kept distinct = subst NoRepeats (sym (take-append-drop opened (paths_of kept))) distinct

-- each path that was looked at since is one of a port's page
page_paths_since : (lib : Library) (kept : Kept) (o : Option Told) → IfSome o (IsSoundOn lib kept)
    → IsSome (option_map (without_asked (asked_since lib.opened kept)) o) → ArePagePaths (page_paths_in (layout_of lib) o) (asked_since lib.opened kept)
page_paths_since lib kept None sound some = (cc)
page_paths_since lib kept (Some t) sound some = sound.within

pub read_since : (lib : Library) (h : Held) → IsSound h lib → NoRepeats (paths_of h.kept) → IsReadSince (world_state h (learned_view lib)).origin h.tree
read_since lib h sound distinct = record {
  asked = asked_since lib.opened h.kept;
  told = told_since lib h.kept h.tree.told sound.told;
  changes = refl;
  distinct = once_in_all lib.opened h.kept distinct;
  within = page_paths_since lib h.kept h.tree.told sound.told;
}

-- as a world begins, its origin is what the tree tells
told_at_start : (asked : List Path) (o : Option Told) → asked ≡ [] → option_map (without_asked asked) o ≡ o
told_at_start asked None nothing = refl
told_at_start asked (Some t) nothing =
    let log = before_is t.log t.log asked (sym (append-nil t.log) ∙ ap (λ asked. t.log ++ asked) (sym nothing)) in
    λ i. Some (record { files = t.files; log = log i })

pub origin_is : (lib : Library) (layout : Layout) (h : Held) → lib.opened ≡ length h.kept → layout_of lib ≡ layout → (world_state h (learned_view lib)).origin ≡ origin_on layout (paths_of h.kept) h.tree
origin_is lib layout h opened same = λ i. record {
  told = told_at_start (asked_since lib.opened h.kept) h.tree.told (none_since lib.opened h.kept opened) i;
  changes = h.tree.changes;
  opened = opened_at_start lib.opened h.kept opened i;
  places = places_in (same i) h.tree.told;
  page_paths = page_paths_in (same i) h.tree.told;
}
