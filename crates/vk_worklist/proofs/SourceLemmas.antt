-- The fact of a line is taken up: what it brings up, and what the rows have then.
use Rattle.std.proofs.Common.{◌≡◌, ◌<◌, ◌≤◌, ◌+◌, ℕ, zero, suc, Bool, true, false, cond, List, [], ◌∷◌, ◌++◌, length, take, drop, inl, inr, refl, ap, sym, ◌∙◌, subst, arith}
use Rattle.std.specs.Prelude.{Option, Some, None, IfSome, is_some, zip}
use Rattle.std.specs.List.{Contains}
use Rattle.std.proofs.lemmas.List.{take-append-drop, length-map, append-nil}
use Rattle.std.proofs.lemmas.List.Elements.{Contains-append_left, Contains-append_right}
use Rattle.vk_spec.specs.Lists.{NoRepeats}
use Rattle.vk_spec.specs.Settings.{Setting}
use Rattle.vk_spec.proofs.ListLemmas.{contains_nothing, contains_first, contains_cases}
use Rattle.vk_resolution.specs.Givens.{Pages}
use Rattle.vk_resolution.specs.Asking.{Fact}
use Rattle.vk_resolution.specs.Reasons.{Reason}
use Rattle.vk_resolution.specs.Closing.{Produces}
use Rattle.vk_resolution.specs.Planner.{inputs_of}
use Rattle.vk_resolution.proofs.Members.{true_false}
use Rattle.vk_model.specs.declared.facts.Fact as code
use Rattle.vk_model.specs.declared.reasons.Cause.{Cause}
use Rattle.vk_worklist.specs.Entries.{reason_of, reasons_in, facts_in}
use Rattle.vk_worklist.specs.Alone.{joins, alone_at}
use Rattle.vk_worklist.specs.Places.{IsSeatOf, KeepsSeats}
use Rattle.vk_worklist.specs.Rows.{needs_of, floors_of, is_need_of, is_floor_at, HasLines, AreRows}
use Rattle.vk_worklist.specs.Joining.{joined}
use Rattle.vk_worklist.specs.declared.rows.Row.{Row}
use Rattle.vk_worklist.proofs.RowLemmas.{rows_kept, seat_within}
use Rattle.vk_worklist.proofs.LevelLemmas.{first_distinct, line_whole}
use Rattle.vk_worklist.proofs.JoinLemmas.{joined_if, produced, has_lines_more}

-- the line at hand is new among those that were taken up
not_before : (taken : List Fact) (y : Fact) (rest : List Fact) → NoRepeats ((taken ++ y ∷ []) ++ rest) → Contains taken y → ⊥
not_before [] y rest distinct h = contains_nothing y h
not_before (x ∷ taken) y rest distinct h =
    elim (contains_cases x y taken h) [
      | inl same ↦ distinct.0 (subst (Contains ((taken ++ y ∷ []) ++ rest)) (sym same) (Contains-append_left (taken ++ y ∷ []) rest y (Contains-append_right taken (y ∷ []) y (contains_first y []))))
      | inr later ↦ not_before taken y rest distinct.1 later
    ]

not_yet : (facts : List Fact) (n : ℕ) (y : Fact) → NoRepeats facts → take (n + 1) facts ≡ take n facts ++ y ∷ [] → Contains (take n facts) y → ⊥
not_yet facts n y distinct next h = not_before (take n facts) y (drop (n + 1) facts) (subst NoRepeats (sym (line_whole facts n y next)) distinct) h

long_take : (xs : List Fact) (n : ℕ) → n < length xs → length (take n xs) ≡ n
long_take [] n h = absurd (omega (arith, h))
long_take (x ∷ xs) zero h = refl
long_take (x ∷ xs) (suc n) h = ap suc (long_take xs n (omega (arith, h)))

module _ (lines : List Fact) (n : ℕ) (y : Fact) (within : n < length lines) (distinct : NoRepeats lines) (at : take (n + 1) lines ≡ take n lines ++ y ∷ []) where
  pub line_is : suc (length (take n lines)) ≡ n + 1
  line_is = let e : length (take n lines) ≡ n = long_take lines n within in omega (arith, e)

  pub produced_if : (o : Option Pages) (s : Setting) (ports : List (List ℕ × Row)) (b : Bool) (own : List Reason) → IfSome o (λ pages. b ≡ joins (inputs_of s pages) y) → IfSome o (λ pages. own ≡ alone_at (inputs_of s pages) y (n + 1)) → IfSome o (λ pages. HasLines (inputs_of s pages) ports (take n lines))
      → IfSome o (λ pages. Produces (inputs_of s pages) (take n lines) y (own ++ joined_if b (joined lines ports (n + 1) y)))
  produced_if None s ports b own is alone tracks = tt
  produced_if (Some pages) s ports b own is alone tracks =
      subst (λ k. Produces (inputs_of s pages) (take n lines) y (k ++ joined_if b (joined lines ports (n + 1) y))) (sym alone)
      (subst (λ m. Produces (inputs_of s pages) (take n lines) y (alone_at (inputs_of s pages) y m ++ joined_if b (joined lines ports m y))) line_is
      (produced (inputs_of s pages) lines (take n lines) (drop n lines) ports y b is (sym (take-append-drop n lines)) (first_distinct (take n lines ++ y ∷ []) (drop (n + 1) lines) (subst NoRepeats (sym (line_whole lines n y at)) distinct)) (not_yet lines n y distinct at) tracks))

  pub both_if : (o : Option Pages) (s : Setting) (ports : List (List ℕ × Row)) (b : Bool) (own all : List Reason) → b ≡ true → IfSome o (λ pages. b ≡ joins (inputs_of s pages) y) → IfSome o (λ pages. own ≡ alone_at (inputs_of s pages) y (n + 1)) → IfSome o (λ pages. HasLines (inputs_of s pages) ports (take n lines))
      → all ≡ own ++ joined lines ports (n + 1) y → IfSome o (λ pages. Produces (inputs_of s pages) (take n lines) y all)
  both_if o s ports b own all some is alone tracks whole = subst (λ l. IfSome o (λ pages. Produces (inputs_of s pages) (take n lines) y l)) (ap (λ c. own ++ joined_if c (joined lines ports (n + 1) y)) some ∙ sym whole) (produced_if o s ports b own is alone tracks)

  pub lines_same : (o : Option Pages) (s : Setting) (ports : List (List ℕ × Row)) (b : Bool) → b ≡ false → IfSome o (λ pages. b ≡ joins (inputs_of s pages) y) → IfSome o (λ pages. HasLines (inputs_of s pages) ports (take n lines)) → IfSome o (λ pages. HasLines (inputs_of s pages) ports (take (n + 1) lines))
  lines_same None s ports b none is tracks = tt
  lines_same (Some pages) s ports b none is tracks =
      subst (HasLines (inputs_of s pages) ports) (sym at) (has_lines_more (inputs_of s pages) ports ports (take n lines) y tracks (λ so p. absurd (true_false (joins (inputs_of s pages) y) so (sym is ∙ none))) (λ so p. absurd (true_false (joins (inputs_of s pages) y) so (sym is ∙ none))) (λ e. refl))

  pub lines_both : (o : Option Pages) (s : Setting) (old new : List (List ℕ × Row)) (b : Bool) → b ≡ true → IfSome o (λ pages. b ≡ joins (inputs_of s pages) y) → IfSome o (λ pages. HasLines (inputs_of s pages) old (take n lines))
      → ((p : List ℕ) → needs_of new p ≡ needs_of old p ++ cond (is_need_of p y) ((n + 1) ∷ []) []) → ((p : List ℕ) → floors_of new p ≡ floors_of old p ++ cond (is_floor_at p y) ((n + 1) ∷ []) [])
      → IfSome o (λ pages. HasLines (inputs_of s pages) new (take (n + 1) lines))
  lines_both None s old new b some is tracks needs floors = tt
  lines_both (Some pages) s old new b some is tracks needs floors =
      subst (HasLines (inputs_of s pages) new) (sym at) (has_lines_more (inputs_of s pages) old new (take n lines) y tracks
      (λ so p. subst (λ m. needs_of new p ≡ needs_of old p ++ cond (is_need_of p y) (m ∷ []) []) (sym line_is) (needs p))
      (λ so p. subst (λ m. floors_of new p ≡ floors_of old p ++ cond (is_floor_at p y) (m ∷ []) []) (sym line_is) (floors p))
      (λ e. absurd (true_false (joins (inputs_of s pages) y) (sym is ∙ some) e)))

-- ---- by the places of ports

none_joined : (seat : Option ℕ) → seat ≡ None → is_some seat ≡ false
none_joined seat e = ap is_some e

some_joined : (seat : Option ℕ) (place : ℕ) → seat ≡ Some place → is_some seat ≡ true
some_joined seat place e = ap is_some e

some_seat : (seats : List (List ℕ)) (x : Fact) (seat : Option ℕ) (place : ℕ) → seat ≡ Some place → IfSome seat (IsSeatOf seats x) → IsSeatOf seats x place
some_seat seats x seat place e is = subst (λ o. IfSome o (IsSeatOf seats x)) e is

had_lines : (o : Option Pages) (s : Setting) (old new : List (List ℕ)) (rows : List Row) (taken : List Fact) → KeepsSeats old new → IfSome o (λ pages. AreRows (inputs_of s pages) old rows taken) → IfSome o (λ pages. HasLines (inputs_of s pages) (zip new rows) taken)
had_lines None s old new rows taken keeps are = tt
had_lines (Some pages) s old new rows taken keeps are = (rows_kept (inputs_of s pages) old new rows taken are keeps).lines

are_rows : (o : Option Pages) (s : Setting) (old new : List (List ℕ)) (before after : List Row) (taken more : List Fact) → KeepsSeats old new → (length before ≤ length new → length after ≤ length new)
    → IfSome o (λ pages. AreRows (inputs_of s pages) old before taken) → IfSome o (λ pages. HasLines (inputs_of s pages) (zip new after) more) → IfSome o (λ pages. AreRows (inputs_of s pages) new after more)
are_rows None s old new before after taken more keeps few are lines = tt
are_rows (Some pages) s old new before after taken more keeps few are lines = record { within = few (rows_kept (inputs_of s pages) old new before taken are keeps).within; lines = lines }

module _ (lines : List Fact) (n : ℕ) (y : Fact) (within : n < length lines) (distinct : NoRepeats lines) (at : take (n + 1) lines ≡ take n lines ++ y ∷ []) (o : Option Pages) (s : Setting) (old new : List (List ℕ)) (keeps : KeepsSeats old new) (seat : Option ℕ) (told : IfSome o (λ pages. is_some seat ≡ joins (inputs_of s pages) y)) where
  -- the fact isn't joined
  pub rows_same : (rows : List Row) → seat ≡ None → IfSome o (λ pages. AreRows (inputs_of s pages) old rows (take n lines)) → IfSome o (λ pages. AreRows (inputs_of s pages) new rows (take (n + 1) lines))
  rows_same rows none are = are_rows o s old new rows rows (take n lines) (take (n + 1) lines) keeps (λ few. few) are
      (lines_same lines n y within distinct at o s (zip new rows) (is_some seat) (none_joined seat none) told (had_lines o s old new rows (take n lines) keeps are))

  pub none_more : (rows : List Row) (own : List Reason) → seat ≡ None → IfSome o (λ pages. own ≡ alone_at (inputs_of s pages) y (n + 1)) → IfSome o (λ pages. AreRows (inputs_of s pages) old rows (take n lines)) → IfSome o (λ pages. Produces (inputs_of s pages) (take n lines) y own)
  none_more rows own none alone are =
      subst (λ l. IfSome o (λ pages. Produces (inputs_of s pages) (take n lines) y l)) (ap (λ c. own ++ joined_if c (joined lines (zip new rows) (n + 1) y)) (none_joined seat none) ∙ append-nil own)
      (produced_if lines n y within distinct at o s (zip new rows) (is_some seat) own told alone (had_lines o s old new rows (take n lines) keeps are))

  -- it is joined at a place
  module _ (place : ℕ) (some : seat ≡ Some place) (is : IfSome seat (IsSeatOf new y)) where
    there : IsSeatOf new y place
    there = some_seat new y seat place some is

    pub rows_both : (before after : List Row) → ((most : ℕ) → length before ≤ most → place < most → length after ≤ most)
        → ((seats : List (List ℕ)) (p : List ℕ) → IsSeatOf seats y place → needs_of (zip seats after) p ≡ needs_of (zip seats before) p ++ cond (is_need_of p y) ((n + 1) ∷ []) [])
        → ((seats : List (List ℕ)) (p : List ℕ) → IsSeatOf seats y place → floors_of (zip seats after) p ≡ floors_of (zip seats before) p ++ cond (is_floor_at p y) ((n + 1) ∷ []) [])
        → IfSome o (λ pages. AreRows (inputs_of s pages) old before (take n lines)) → IfSome o (λ pages. AreRows (inputs_of s pages) new after (take (n + 1) lines))
    rows_both before after few needs floors are = are_rows o s old new before after (take n lines) (take (n + 1) lines) keeps (λ long. few (length new) long (seat_within new y place there)) are
        (lines_both lines n y within distinct at o s (zip new before) (zip new after) (is_some seat) (some_joined seat place some) told (had_lines o s old new before (take n lines) keeps are) (λ p. needs new p there) (λ p. floors new p there))

    pub both_more : (rows : List Row) (own all : List Reason) → IfSome o (λ pages. own ≡ alone_at (inputs_of s pages) y (n + 1)) → IfSome o (λ pages. AreRows (inputs_of s pages) old rows (take n lines))
        → ((seats : List (List ℕ)) → IsSeatOf seats y place → all ≡ own ++ joined lines (zip seats rows) (n + 1) y) → IfSome o (λ pages. Produces (inputs_of s pages) (take n lines) y all)
    both_more rows own all alone are whole =
        both_if lines n y within distinct at o s (zip new rows) (is_some seat) own all (some_joined seat place some) told alone (had_lines o s old new rows (take n lines) keeps are) (whole new there)

pub within_facts : (es : List (code.Fact × Cause)) (n : ℕ) → n < length es → n < length (facts_in es)
within_facts es n h = subst (λ m. n < m) (sym (length-map (reasons_in es) (λ r. r.fact) ∙ length-map es reason_of)) h
