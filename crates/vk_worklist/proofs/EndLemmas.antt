-- The first level, the next, the last, and too many; and what is known of pages, where they are told.
use Rattle.std.proofs.Common.{◌≡◌, ◌≤◌, ℕ, List, [], ◌∷◌, ◌++◌, length, take, drop, ap, sym, ◌∙◌, subst, inl, inr, arith}
use Rattle.std.specs.Prelude.{Option, Some, None, IfSome, Err}
use Rattle.std.specs.List.{Contains}
use Rattle.std.proofs.lemmas.List.{length-append, length-map, take_all, drop_all, take-append-drop}
use Rattle.std.proofs.lemmas.List.Elements.{Contains-push_cases}
use Rattle.std.proofs.Math.Seq.{take-append_seam}
use Rattle.vk_spec.specs.Settings.{Setting}
use Rattle.vk_spec.proofs.ListLemmas.{contains_nothing, no_repeats_push}
use Rattle.vk_base.specs.declared.stops.Stop.{Stop}
use Rattle.vk_base.specs.declared.stops.Stop.TheVariants as stop
use Rattle.vk_resolution.specs.Givens.{Pages}
use Rattle.vk_resolution.specs.Reasons.{Reason, facts_of, IsReasons}
use Rattle.vk_resolution.specs.Closing.{NotesReasons, IsTooMuch, IsClosing}
use Rattle.vk_resolution.specs.Closures.{HasTooManyFacts}
use Rattle.vk_resolution.specs.Planner.{inputs_of}
use Rattle.vk_resolution.proofs.Members.{map_contains}
use Rattle.vk_resolution.proofs.ClosureLemmas.{too_many}
use Rattle.vk_resolution.proofs.ClosingLemmas.{closing_first, closing_next, closing_last, facts_more, facts_within}
use Rattle.vk_worklist.specs.declared.faults.CloseFault.{CloseFault}
use Rattle.vk_worklist.specs.Entries.{reason_of, reasons_in, facts_in, IsNoted, IsNextLevel, IsFirstLevel, AreRoots}
use Rattle.vk_worklist.specs.Faults.{OnFault}
use Rattle.vk_worklist.proofs.MapLemmas.{Entries}

-- ---- where pages are told

-- what is known of the pages and the setting stays where they stay
pub stays : {o p : Option Pages} {s t : Setting} (P : Setting → Pages → Type 0) → p ≡ o → t ≡ s → IfSome o (P s) → IfSome p (P t)
stays {o = o} {t = t} P same setting h = subst (λ k. IfSome k (P t)) (sym same) (subst (λ k. IfSome o (P k)) (sym setting) h)

-- ---- faults

-- what follows of what holds where there is a fault
pub fault_means : {P Q : Type 0} (e : Stop CloseFault) (most : ℕ) → (P → Q) → OnFault {A = Unit {0}} (Err e) most P → OnFault {A = Unit {0}} (Err e) most Q
fault_means (stop.Fault fault) most f h = (h.0, f h.1)
fault_means stop.Failed most f h = tt
fault_means (stop.Memory m) most f h = tt

-- ---- the first level

pub first_made : (given fresh new : Entries) → IsNoted [] given fresh → IsNextLevel [] (reasons_in fresh) (reasons_in new) → IsFirstLevel (reasons_in given) (reasons_in new)
first_made given fresh new noted level = made (subst (NotesReasons [] (reasons_in given) []) (sym (ap reasons_in noted.behind)) noted.noted)
  where
    made : NotesReasons [] (reasons_in given) [] (reasons_in fresh) → IsFirstLevel (reasons_in given) (reasons_in new)
    made notes = subst (IsFirstLevel (reasons_in given)) (sym level.behind) (record {
      to = facts_within level.sorted (reasons_in given) (λ r h. given_of r (level.from r h));
      from = λ x h. elim (notes.facts.complete x h) [ inl known ↦ absurd (contains_nothing x known) | inr new_one ↦ facts_within (reasons_in fresh) level.sorted level.to x new_one ];
      distinct = level.distinct;
      ascends = level.ascends;
      causes = λ r h. given_of r (level.from r h);
    })
      where
        given_of : (r : Reason) → Contains (reasons_in fresh) r → Contains (reasons_in given) r
        given_of r h = elim (notes.causes r h) [ inl none ↦ absurd (contains_nothing r none) | inr put ↦ put.0 ]

pub first_closing : (o : Option Pages) (s : Setting) (given new : List Reason) → AreRoots s given → IsFirstLevel given new → IfSome o (λ pages. IsClosing (inputs_of s pages) new [] [])
first_closing None s given new roots level = tt
first_closing (Some pages) s given new roots level =
    closing_first (inputs_of s pages) new (λ x h. subst (λ l. Contains l x) roots.facts (level.to x h)) (λ x h. level.from x (subst (λ l. Contains l x) (sym roots.facts) h)) level.distinct level.ascends
    (λ r h. roots.causes r (level.causes r h))

-- more roots than there may be
pub first_forced : (o : Option Pages) (s : Setting) (given : List Reason) (most : ℕ) → s.max_facts ≡ most → AreRoots s given → IsTooMuch [] given [] most → IfSome o (λ pages. HasTooManyFacts (inputs_of s pages))
first_forced None s given most limit roots much = tt
first_forced (Some pages) s given most limit roots much =
    too_many (inputs_of s pages) (facts_of much.new ++ much.next.fact ∷ []) (record {
      distinct = no_repeats_push (facts_of much.new) much.next.fact (much.noted.facts.distinct tt) much.unnoted;
      within = λ other closed x h. closed.roots x (subst (λ l. Contains l x) roots.facts (elim (Contains-push_cases (facts_of much.new) much.next.fact x h) [
        | inl old ↦ elim (much.noted.facts.sound x old) [
          | inl none ↦ absurd (contains_nothing x none)
          | inr made ↦ facts_within much.done given much.within x made
        ]
        | inr same ↦ subst (Contains (facts_of given)) same (map_contains (λ (r : Reason). r.fact) given much.next much.brings)
      ]));
    }) (let a = length-append (facts_of much.new) (much.next.fact ∷ []) in let b = length-map much.new (λ (r : Reason). r.fact) in let c = much.more in omega (arith, a, b, c, limit))

-- ---- the next, and the last

pub next_closing : (o : Option Pages) (s : Setting) (lines fresh new : List Reason) → IfSome o (λ pages. IsClosing (inputs_of s pages) lines (facts_of lines) fresh) → IsNextLevel lines fresh new
    → IfSome o (λ pages. IsClosing (inputs_of s pages) new (facts_of lines) [])
next_closing None s lines fresh new was level = tt
next_closing (Some pages) s lines fresh new was level =
    subst (λ l. IsClosing (inputs_of s pages) l (facts_of lines) []) (sym level.behind) (closing_next (inputs_of s pages) lines fresh level.sorted was level.to level.from level.distinct level.ascends)

-- nothing stands behind the lines
pub last_closed : (o : Option Pages) (s : Setting) (lines all : Entries) → take (length lines) all ≡ lines → length all ≡ length lines
    → IfSome o (λ pages. IsClosing (inputs_of s pages) (reasons_in lines) (facts_in lines) (reasons_in (drop (length lines) all))) → IfSome o (λ pages. IsReasons (inputs_of s pages) (reasons_in all))
last_closed None s lines all kept long was = tt
last_closed (Some pages) s lines all kept long was =
    subst (λ es. IsReasons (inputs_of s pages) (reasons_in es)) (sym (sym (take_all (length lines) all (omega (arith, long))) ∙ kept))
    (closing_last (inputs_of s pages) (reasons_in lines) (subst (λ es. IsClosing (inputs_of s pages) (reasons_in lines) (facts_in lines) (reasons_in es)) (drop_all (length lines) all (omega (arith, long))) was))

pub kept_within : (lines all : Entries) → take (length lines) all ≡ lines → length lines ≤ length all
kept_within lines all kept =
    let parts = ap length (take-append-drop (length lines) all) in
    let long = length-append (take (length lines) all) (drop (length lines) all) in
    let same = ap length kept in
    omega (arith, parts, long, same)

pub level_behind : (lines all new : Entries) (settled : ℕ) → settled ≡ length lines → take (length lines) all ≡ lines → IsNextLevel (reasons_in (take settled all)) (reasons_in (drop settled all)) (reasons_in new)
    → IsNextLevel (reasons_in lines) (reasons_in (drop (length lines) all)) (reasons_in new)
level_behind lines all new settled is kept level =
    subst (λ es. IsNextLevel (reasons_in es) (reasons_in (drop (length lines) all)) (reasons_in new)) kept
    (subst (λ n. IsNextLevel (reasons_in (take n all)) (reasons_in (drop n all)) (reasons_in new)) is level)

-- the lines of before are the first of the new ones
pub lines_before : (lines fresh new : List Reason) (n : ℕ) → IsNextLevel lines fresh new → n ≡ length lines → facts_of lines ≡ take n (facts_of new)
lines_before lines fresh new n level is =
    let long : n ≡ length (facts_of lines) = is ∙ sym (length-map lines (λ (r : Reason). r.fact)) in
    sym (ap (λ l. take n (facts_of l)) level.behind ∙ ap (take n) (facts_more lines level.sorted) ∙ ap (λ m. take m (facts_of lines ++ facts_of level.sorted)) long ∙ take-append_seam (facts_of lines) (facts_of level.sorted))

pub few_facts : (es : Entries) (most : ℕ) → length es ≤ most → length (facts_in es) ≤ most
few_facts es most h = subst (λ n. n ≤ most) (sym (length-map (reasons_in es) (λ (r : Reason). r.fact) ∙ length-map es reason_of)) h
