-- Tasks, and the digests of those before them.
use Rattle.std.proofs.Common.{◌≡◌, ℕ, Bool, true, false, cond, List, [], ◌∷◌, ◌++◌, ◌||◌, map, not, refl, ap, sym, ◌∙◌, subst}
use Rattle.std.specs.List.{list_any}
use Rattle.std.specs.Str.{bytes_eq}
use Rattle.std.proofs.lemmas.List.{append_assoc, map-append}
use Rattle.std.proofs.lemmas.Slice.Eq.{bytes_eq-Decides}
use Rattle.std.proofs.lemmas.Bool.Decides.{same_from_decides}
use Rattle.indexmap.specs.IndexSet.{insert_key}
use Rattle.vk_digest.specs.declared.Digest.{Digest}
use Rattle.vk_make.specs.Makes.{Planned, has_digest, planned_after}
use Rattle.vk_shared.specs.declared.tasks.Task.{Task}
use Rattle.vk_shared.specs.declared.tasks.PlannedTask.{PlannedTask}
use Rattle.vk_shared.specs.Tasks.{IsNoted, IsPut, planned_view, task_view}

-- ---- one digest more

-- the test of the set's digests
abbrev pub same_digest : Digest → Digest → Bool
same_digest a b = bytes_eq a.bytes b.bytes

abbrev pub digests_in : List Digest → List (List ℕ)
digests_in ds = map (λ d. d.bytes) ds

turned : (x y : List ℕ) → bytes_eq x y ≡ bytes_eq y x
turned x y = same_from_decides (bytes_eq x y) (bytes_eq y x) (bytes_eq-Decides x y) ((λ e. sym ((bytes_eq-Decides y x).0 e)), (λ e. (bytes_eq-Decides y x).1 (sym e)))

as_seen : (ks : List Digest) (d : Digest) → list_any (same_digest d) ks ≡ has_digest (digests_in ks) d.bytes
as_seen [] d = refl
as_seen (k ∷ ks) d = ap (λ b. b || list_any (same_digest d) ks) (turned d.bytes k.bytes) ∙ ap (λ b. bytes_eq k.bytes d.bytes || b) (as_seen ks d)

or_swaps : (a b c : Bool) → (a || (b || c)) ≡ (b || (a || c))
or_swaps true true c = refl
or_swaps true false c = refl
or_swaps false true c = refl
or_swaps false false c = refl

last_seen : (xs : List (List ℕ)) (x d : List ℕ) → has_digest (xs ++ x ∷ []) d ≡ has_digest (x ∷ xs) d
last_seen [] x d = refl
last_seen (y ∷ xs) x d = ap (λ b. bytes_eq y d || b) (last_seen xs x d) ∙ or_swaps (bytes_eq y d) (bytes_eq x d) (has_digest xs d)

known_seen : (xs : List (List ℕ)) (x d : List ℕ) (b : Bool) → bytes_eq x d ≡ b → has_digest xs x ≡ true → has_digest xs d ≡ (b || has_digest xs d)
known_seen xs x d true e known = ap (has_digest xs) (sym ((bytes_eq-Decides x d).0 e)) ∙ known
known_seen xs x d false e known = refl

noted_by : (ks new : List Digest) (d : Digest) (b : Bool) → list_any (same_digest d) ks ≡ b → new ≡ cond b ks (ks ++ d ∷ []) → IsNoted ks d new b
noted_by ks new d true e is = record {
  told = sym e ∙ as_seen ks d;
  now = λ x. ap (λ l. has_digest (digests_in l) x) is ∙ known_seen (digests_in ks) d.bytes x (bytes_eq d.bytes x) refl (sym (as_seen ks d) ∙ e);
}
noted_by ks new d false e is = record {
  told = sym e ∙ as_seen ks d;
  now = λ x. ap (λ l. has_digest (digests_in l) x) is ∙ ap (λ l. has_digest l x) (map-append (λ k. k.bytes) ks (d ∷ [])) ∙ last_seen (digests_in ks) d.bytes x;
}

not_twice : (b : Bool) → not (not b) ≡ b
not_twice true = refl
not_twice false = refl

pub is_noted : (ks new : List Digest) (d : Digest) (added : Bool) → added ≡ not (list_any (same_digest d) ks) → new ≡ insert_key same_digest ks d → IsNoted ks d new (not added)
is_noted ks new d added told is = subst (IsNoted ks d new) (sym (ap not told ∙ not_twice (list_any (same_digest d) ks))) (noted_by ks new d (list_any (same_digest d) ks) refl is)

-- ---- the tasks so far

same_plan : (seen other : List (List ℕ)) → ((d : List ℕ) → has_digest seen d ≡ has_digest other d) → (ts : List Task) → planned_after seen (map task_view ts) ≡ planned_after other (map task_view ts)
same_plan seen other same [] = refl
same_plan seen other same (t ∷ ts) =
    ap (λ b. (task_view t, b) ∷ planned_after (t.digest.bytes ∷ seen) (map task_view ts)) (same t.digest.bytes)
    ∙ ap (λ l. (task_view t, has_digest other t.digest.bytes) ∷ l) (same_plan (t.digest.bytes ∷ seen) (t.digest.bytes ∷ other) (λ d. ap (λ b. bytes_eq t.digest.bytes d || b) (same d)) ts)

-- what was put, and what is left with the digests that were seen, are the plan
abbrev pub PlansOn : List Digest → List PlannedTask → List Task → List Planned → Type 0
PlansOn keys todo left plan = map planned_view todo ++ planned_after (digests_in keys) (map task_view left) ≡ plan

put_on : (keys new : List Digest) (todo : List PlannedTask) (t : Task) (was : Bool) (left : List Task) (plan : List Planned) → IsNoted keys t.digest new was → PlansOn keys todo (t ∷ left) plan → PlansOn new (todo ++ record { task = t; repeated = was } ∷ []) left plan
put_on keys new todo t was left plan noted before =
    ap (λ l. l ++ planned_after (digests_in new) (map task_view left)) (map-append planned_view todo (record { task = t; repeated = was } ∷ []))
    ∙ append_assoc (map planned_view todo) ((task_view t, was) ∷ []) (planned_after (digests_in new) (map task_view left))
    ∙ ap (λ b. map planned_view todo ++ (task_view t, b) ∷ planned_after (digests_in new) (map task_view left)) noted.told
    ∙ ap (λ l. map planned_view todo ++ (task_view t, has_digest (digests_in keys) t.digest.bytes) ∷ l) (same_plan (digests_in new) (t.digest.bytes ∷ digests_in keys) noted.now left)
    ∙ before

pub plans_more : {keys new : List Digest} {todo more : List PlannedTask} {t : Task} (left : List Task) (plan : List Planned) → IsPut keys todo t new more → PlansOn keys todo (t ∷ left) plan → PlansOn new more left plan
plans_more {keys} {new} {todo} {more} {t} left plan is before = subst (λ l. PlansOn new l left plan) (sym is.put) (put_on keys new todo t is.was left plan is.noted before)
