-- Reasons on lines: what a look-up finds, and one line more.
use Rattle.std.proofs.Common.{◌≡◌, ◌<◌, ◌+◌, ℕ, zero, suc, Bool, true, false, cond, List, [], ◌∷◌, ◌++◌, length, take, drop, get_or, inl, inr, refl, ap, sym, ◌∙◌, subst}
use Rattle.std.specs.Prelude.{Option, Some, None, is_some, MatchOption, slice_get}
use Rattle.std.specs.Map.{lookup, lookup_key}
use Rattle.std.specs.List.{Contains}
use Rattle.std.proofs.lemmas.List.{append_assoc, map-append, take_more, take-append-drop}
use Rattle.std.proofs.lemmas.Map.Made.{lookup_key_passes}
use Rattle.indexmap.specs.IndexMap.{insert_entry}
use Rattle.vk_spec.specs.Lists.{NoRepeats}
use Rattle.vk_spec.proofs.ListLemmas.{contains_nothing, contains_first, contains_later, contains_cases, no_repeats_push}
use Rattle.vk_resolution.specs.Asking as plain
use Rattle.vk_resolution.specs.Asking.{fact_key}
use Rattle.vk_resolution.specs.Reasons.{Reason, facts_of}
use Rattle.vk_resolution.proofs.Members.{true_false}
use Rattle.vk_resolution.proofs.Orders.{same_key-Decides}
use Rattle.vk_resolution.proofs.FactLemmas.{fact_key-IsKey}
use Rattle.vk_model.specs.declared.facts.Fact.{Fact}
use Rattle.vk_model.specs.declared.reasons.Cause.{Cause}
use Rattle.vk_model.specs.declared.reasons.Reason as told
use Rattle.vk_model.specs.FactViews.{fact_view, cause_view, reason_view, reasons_view}
use Rattle.vk_model.specs.FactKeys.{key_of}
use Rattle.vk_worklist.specs.Entries.{reason_of, reasons_in, facts_in}
use Rattle.vk_worklist.specs.Orders.{is_same}

abbrev pub Entries : Type 0
Entries = List (Fact × Cause)

same_view : (x y : Fact) → is_same x y ≡ true → fact_view x ≡ fact_view y
same_view x y e = fact_key-IsKey (fact_view x) (fact_view y) ((same_key-Decides (key_of x) (key_of y)).0 e)

view_same : (x y : Fact) → fact_view x ≡ fact_view y → is_same x y ≡ true
view_same x y e = (same_key-Decides (key_of x) (key_of y)).1 (ap fact_key e)

-- ---- a look-up

reason_get : (es : Entries) (n : ℕ) (e : Fact × Cause) → slice_get es n ≡ Some e → slice_get (reasons_in es) n ≡ Some (reason_of e)
reason_get [] n e at = (cc)
reason_get (d ∷ es) zero e at = let same : d ≡ e = (cc) in ap (λ z. Some (reason_of z)) same
reason_get (d ∷ es) (suc n) e at = reason_get es n e at

-- the entry that is found has the fact
pub claim_found : (es : Entries) (x k : Fact) (c : Cause) (n : ℕ) → lookup_key (is_same x) es ≡ Some k → slice_get es n ≡ Some (k, c) → slice_get (reasons_in es) n ≡ Some (record { fact = fact_view x; cause = cause_view c })
claim_found es x k c n key at =
    let same : fact_view k ≡ fact_view x = sym (same_view x k (lookup_key_passes (is_same x) es k key)) in
    reason_get es n (k, c) at ∙ ap (λ z. Some (record { fact = z; cause = cause_view c })) same

pub line_get : (es : Entries) (n : ℕ) (e : Fact × Cause) → slice_get es n ≡ Some e → slice_get (reasons_in es) n ≡ Some (reason_of e)
line_get es n e at = reason_get es n e at

later_found : (x : Fact) (e : Fact × Cause) (es : Entries) (b : Bool) → is_same x e.0 ≡ b → Contains (facts_in (e ∷ es)) (fact_view x) → (Contains (facts_in es) (fact_view x) → lookup (is_same x) es ≡ None → ⊥) → cond b (Some e.1) (lookup (is_same x) es) ≡ None → ⊥
later_found x e es true at h rest none = (cc)
later_found x e es false at h rest none =
    elim (contains_cases (fact_view e.0) (fact_view x) (facts_in es) h) [
      | inl same ↦ true_false (is_same x e.0) (view_same x e.0 (sym same)) at
      | inr later ↦ rest later none
    ]

-- a fact that isn't found stands on no line
pub claim_missing : (es : Entries) (x : Fact) → lookup (is_same x) es ≡ None → Contains (facts_in es) (fact_view x) → ⊥
claim_missing [] x none h = contains_nothing (fact_view x) h
claim_missing (e ∷ es) x none h = later_found x e es (is_same x e.0) refl h (λ later rest. claim_missing es x rest later) none

-- and one that has a line stands there
pub get_contains : (lines : List Reason) (n : ℕ) (r : Reason) → slice_get lines n ≡ Some r → Contains (facts_of lines) r.fact
get_contains [] n r at = (cc)
get_contains (q ∷ lines) zero r at = let same : q ≡ r = (cc) in subst (λ (z : Reason). Contains (facts_of (q ∷ lines)) z.fact) same (contains_first q.fact (facts_of lines))
get_contains (q ∷ lines) (suc n) r at = contains_later q.fact r.fact (facts_of lines) (get_contains lines n r at)

-- what a look-up answers
abbrev pub Claims : List Reason → plain.Fact → Option (ℕ × Cause) → Type 0
Claims lines x o = MatchOption o (Contains (facts_of lines) x → ⊥) (λ p. slice_get lines p.0 ≡ Some (record { fact = x; cause = cause_view p.1 }))

pub is_claimed : (lines : List Reason) (x : plain.Fact) (o : Option (ℕ × Cause)) → Claims lines x o → is_some o ≡ true → Contains (facts_of lines) x
is_claimed lines x None found some = (cc)
is_claimed lines x (Some p) found some = get_contains lines p.0 (record { fact = x; cause = cause_view p.1 }) found

pub not_claimed : (lines : List Reason) (x : plain.Fact) (o : Option (ℕ × Cause)) → Claims lines x o → is_some o ≡ false → Contains (facts_of lines) x → ⊥
not_claimed lines x None found none = found
not_claimed lines x (Some p) found none = (cc)

-- ---- one line more

put_by : (x : Fact) (c : Cause) (e : Fact × Cause) (es : Entries) (b : Bool) → is_same x e.0 ≡ b → (Contains (facts_in (e ∷ es)) (fact_view x) → ⊥) → cond b ((e.0, c) ∷ es) (e ∷ (es ++ (x, c) ∷ [])) ≡ e ∷ (es ++ (x, c) ∷ [])
put_by x c e es true at new = absurd (new (subst (λ z. Contains (z ∷ facts_in es) (fact_view x)) (same_view x e.0 at) (contains_first (fact_view x) (facts_in es))))
put_by x c e es false at new = refl

put_last : (x : Fact) (c : Cause) (es : Entries) → (Contains (facts_in es) (fact_view x) → ⊥) → insert_entry is_same es x c ≡ es ++ (x, c) ∷ []
put_last x c [] new = refl
put_last x c (e ∷ es) new =
    ap (λ l. cond (is_same x e.0) ((e.0, c) ∷ es) (e ∷ l)) (put_last x c es (λ h. new (contains_later (fact_view e.0) (fact_view x) (facts_in es) h)))
    ∙ put_by x c e es (is_same x e.0) refl new

pub line_put : (x : Fact) (c : Cause) (es new : Entries) (y : plain.Fact) → fact_view x ≡ y → (Contains (facts_in es) y → ⊥) → new ≡ insert_entry is_same es x c → reasons_in new ≡ reasons_in es ++ record { fact = y; cause = cause_view c } ∷ []
line_put x c es new y same unknown made =
    ap reasons_in (made ∙ put_last x c es (λ h. unknown (subst (Contains (facts_in es)) same h))) ∙ map-append reason_of es ((x, c) ∷ [])
    ∙ ap (λ z. reasons_in es ++ record { fact = z; cause = cause_view c } ∷ []) same

-- ---- where a fact stands twice

twice : (xs : List plain.Fact) (y : plain.Fact) (ys : List plain.Fact) → Contains xs y → NoRepeats (xs ++ y ∷ ys) → ⊥
twice [] y ys h distinct = contains_nothing y h
twice (x ∷ xs) y ys h distinct =
    elim (contains_cases x y xs h) [
      | inl same ↦ distinct.0 (subst (Contains (xs ++ y ∷ ys)) (sym same) (there xs y ys))
      | inr later ↦ twice xs y ys later distinct.1
    ]
  where
    there : (xs : List plain.Fact) (y : plain.Fact) (ys : List plain.Fact) → Contains (xs ++ y ∷ ys) y
    there [] y ys = contains_first y ys
    there (x ∷ xs) y ys = contains_later x y (xs ++ y ∷ ys) (there xs y ys)

pub stands_twice : (done : List Reason) (r : Reason) (rest all : List Reason) → all ≡ done ++ r ∷ rest → Contains (facts_of done) r.fact → NoRepeats (facts_of all) → ⊥
stands_twice done r rest all split h distinct = twice (facts_of done) r.fact (facts_of rest) h (subst NoRepeats (ap facts_of split ∙ map-append (λ (q : Reason). q.fact) done (r ∷ rest)) distinct)

pub distinct_more : (done new : List Reason) (r : Reason) → new ≡ done ++ r ∷ [] → NoRepeats (facts_of done) → (Contains (facts_of done) r.fact → ⊥) → NoRepeats (facts_of new)
distinct_more done new r split distinct unknown =
    subst NoRepeats (sym (ap facts_of split ∙ map-append (λ (q : Reason). q.fact) done (r ∷ []))) (no_repeats_push (facts_of done) r.fact distinct unknown)

-- what was popped is among all
pub popped_stands : (all left rest done : Entries) (e : Fact × Cause) → all ≡ left ++ done → left ≡ rest ++ e ∷ [] → Contains (facts_in all) (fact_view e.0)
popped_stands all left rest done e split popped =
    subst (λ l. Contains (facts_in l) (fact_view e.0)) (sym (split ∙ ap (λ l. l ++ done) popped ∙ append_assoc rest (e ∷ []) done)) (behind rest)
  where
    behind : (rest : Entries) → Contains (facts_in (rest ++ (e ∷ done))) (fact_view e.0)
    behind [] = contains_first (fact_view e.0) (facts_in done)
    behind (d ∷ rest) = contains_later (fact_view d.0) (fact_view e.0) (facts_in (rest ++ (e ∷ done))) (behind rest)

-- ---- reasons, one after the other

module _ (reasons : List told.Reason) (n : ℕ) (item : told.Reason) (within : n < length reasons) (is : item ≡ get_or reasons n item) where
  next_reason : take (n + 1) reasons ≡ take n reasons ++ item ∷ []
  next_reason = take_more reasons n item within ∙ ap (λ r. take n reasons ++ r ∷ []) (sym is)

  pub reasons_more : (lines new : List Reason) → lines ≡ reasons_view (take n reasons) → new ≡ lines ++ reason_view item ∷ [] → new ≡ reasons_view (take (n + 1) reasons)
  reasons_more lines new before made = made ∙ ap (λ l. l ++ reason_view item ∷ []) before ∙ sym (ap reasons_view next_reason ∙ map-append reason_view (take n reasons) (item ∷ []))

  pub reasons_split : (lines : List Reason) → lines ≡ reasons_view (take n reasons) → reasons_view reasons ≡ lines ++ reason_view item ∷ reasons_view (drop (n + 1) reasons)
  reasons_split lines before =
      ap reasons_view (sym (take-append-drop (n + 1) reasons) ∙ ap (λ l. l ++ drop (n + 1) reasons) next_reason ∙ append_assoc (take n reasons) (item ∷ []) (drop (n + 1) reasons))
      ∙ map-append reason_view (take n reasons) (item ∷ drop (n + 1) reasons)
      ∙ ap (λ l. l ++ reason_view item ∷ reasons_view (drop (n + 1) reasons)) (sym before)
