-- The last value of a variable, as a loop finds it.
use Rattle.std.proofs.Common.{◌≡◌, ◌+◌, ◌<◌, ◌++◌, ℕ, Bool, true, false, List, [], ◌∷◌, length, take, get_or, inl, inr, refl, ap, sym, ◌∙◌}
use Rattle.std.specs.Prelude.{codes, if◌then◌else◌}
use Rattle.std.specs.List.{filter, flat_map}
use Rattle.std.proofs.lemmas.Bool.{cases_Bool}
use Rattle.std.proofs.lemmas.List.{take_more, append-nil, append_assoc}
use Rattle.vk_spec.specs.Settings.{with_native}
use Rattle.vk_triplet.specs.declared.triplets.Variable.{Variable}
use Rattle.vk_triplet.specs.TripletReadings.{last_value, sets, value_of}
use Rattle.vk_triplet.specs.Marks.{architecture, table, marks_by, own_mark, marks_of}

pub last_push : (front : List Variable) (s : Variable) → last_value (front ++ s ∷ []) ≡ s.value
last_push [] s = refl
last_push (t ∷ []) s = refl
last_push (t ∷ u ∷ more) s = last_push (u ∷ more) s

filter_push : {X : Type 0} (test : X → Bool) (xs : List X) (x : X) → filter test (xs ++ x ∷ []) ≡ (if test x then filter test xs ++ x ∷ [] else filter test xs)
filter_push test [] x = refl
filter_push test (y ∷ ys) x =
    elim (cases_Bool (test x)) [
      | inl passes ↦ (let more = filter_push test ys x in let known = rw passes at more in elim (cases_Bool (test y)) [ inl here ↦ rw (here, passes, known) refl | inr other ↦ rw (other, passes, known) refl ])
      | inr fails ↦ (let more = filter_push test ys x in let known = rw fails at more in elim (cases_Bool (test y)) [ inl here ↦ rw (here, fails, known) refl | inr other ↦ rw (other, fails, known) refl ])
    ]

value_push : (name : List ℕ) (front : List Variable) (s : Variable) → value_of name (front ++ s ∷ []) ≡ (if sets name s then s.value else value_of name front)
value_push name front s =
    elim (cases_Bool (sets name s)) [
      | inl here ↦ (let more = filter_push (sets name) front s in let known = rw here at more in rw (here, known) (last_push (filter (sets name) front) s))
      | inr other ↦ (let more = filter_push (sets name) front s in let known = rw other at more in rw (other, known) refl)
    ]

-- one line more was seen
pub value_more : (name : List ℕ) (vs : List Variable) (i : ℕ) (v : Variable) → i < length vs → v ≡ get_or vs i v
    → value_of name (take (i + 1) vs) ≡ (if sets name v then v.value else value_of name (take i vs))
value_more name vs i v within is =
    ap (value_of name) (take_more vs i v within)
    ∙ rw (← is) (value_push name (take i vs) v)

-- `native` stands behind all other marks
behind : (own rows mark : List (List ℕ)) → own ++ (rows ++ mark) ≡ (own ++ (rows ++ [])) ++ mark
behind own rows mark = sym (append_assoc own rows mark) ∙ ap (λ (front : List (List ℕ)). (own ++ front) ++ mark) (sym (append-nil rows))

pub native_last : (variables : List Variable) → marks_of variables true ≡ with_native (marks_of variables false)
native_last variables = behind (own_mark (value_of architecture variables)) (flat_map (marks_by variables) table) (codes "native" ∷ [])
