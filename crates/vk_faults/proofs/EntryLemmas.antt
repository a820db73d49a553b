-- Entries by the keys of troubles.
use Rattle.std.proofs.Common.{◌≡◌, ◌⊎◌, ℕ, true, false, List, [], ◌∷◌, map, inl, inr, refl, ap, sym, ◌∙◌, subst}
use Rattle.std.specs.Prelude.{is_some}
use Rattle.std.specs.declared.cmp.Ordering.{Ordering}
use Rattle.std.specs.declared.cmp.Ordering.TheVariants.{Less, Equal, Greater}
use Rattle.std.specs.Ordering.{is_eq, match_ordering}
use Rattle.std.specs.Cmp.{eq_by_cmp_equiv}
use Rattle.std.specs.BTreeMap.{is_at, insert_entry}
use Rattle.std.specs.Map.{lookup, keys_of}
use Rattle.std.specs.List.{Contains, AllByRecursion}
use Rattle.std.specs.List.Sorted.{IsStrictlySortedBy}
use Rattle.std.proofs.lemmas.Map.Keys.{sorted_head, sorted_tail}
use Rattle.std.proofs.lemmas.Map.Views.{Contains-keys_from_lookup, IsSome-lookup_from_Contains}
use Rattle.vk_spec.proofs.ListLemmas.{contains_nothing, contains_first, contains_later, contains_cases}
use Rattle.vk_spec.proofs.FileLemmas.{path_total, path_same}
use Rattle.vk_resolution.specs.Keys.{Key, key_cmp, Ascends}
use Rattle.vk_resolution.specs.Faults as plain
use Rattle.vk_resolution.specs.Faults.{trouble_key}
use Rattle.vk_resolution.proofs.Members.{contains_map, map_contains, contains_single, true_false}
use Rattle.vk_resolution.proofs.FactLemmas.{trouble_key-IsKey}
use Rattle.vk_faults.specs.declared.troubles.Trouble.{Trouble}
use Rattle.vk_faults.specs.Troubles.{trouble_view}
use Rattle.vk_faults.specs.Notes.{Note, Entry, note_of, noted, AreKeyed, IsNoted}

same_by : (k l : Key) (o : Ordering) → key_cmp k l ≡ o → is_eq o ≡ true → k ≡ l
same_by k l Less at e = (cc)
same_by k l Equal at e = path_same k l at
same_by k l Greater at e = (cc)

-- an entry stands by the key that is found
found : (es : List Entry) (k : Key) → is_some (lookup (is_at (key_cmp k)) es) ≡ true → (e : Entry) × Contains es e × (e.0 ≡ k)
found es k h = contains_map (λ (e : Entry). e.0) es k (Contains-keys_from_lookup (λ x y same. same_by x y (key_cmp x y) refl same) k es h)

is_found : (es : List Entry) (e : Entry) → Contains es e → is_some (lookup (is_at (key_cmp e.0)) es) ≡ true
is_found es e h = IsSome-lookup_from_Contains (eq_by_cmp_equiv path_total) e.0 es (map_contains (λ (x : Entry). x.0) es e h)

-- ---- one more entry

put_cases : (e x : Entry) (es rest : List Entry) (k : Key) (v : Trouble × ℕ) (o : Ordering) → key_cmp k e.0 ≡ o → (Contains rest x → (x ≡ (k, v)) ⊎ Contains es x) → Contains (match_ordering o ((k, v) ∷ e ∷ es) ((e.0, v) ∷ es) (e ∷ rest)) x → (x ≡ (k, v)) ⊎ Contains (e ∷ es) x
put_cases e x es rest k v Less at more h = elim (contains_cases (k, v) x (e ∷ es) h) [ inl same ↦ inl (sym same) | inr old ↦ inr old ]
put_cases e x es rest k v Equal at more h = elim (contains_cases (e.0, v) x es h) [
  | inl same ↦ inl (sym same ∙ ap (λ q. (q, v)) (sym (path_same k e.0 at)))
  | inr old ↦ inr (contains_later e x es old)
]
put_cases e x es rest k v Greater at more h = elim (contains_cases e x rest h) [
  | inl same ↦ inr (subst (Contains (e ∷ es)) same (contains_first e es))
  | inr later ↦ elim (more later) [ inl new ↦ inl new | inr old ↦ inr (contains_later e x es old) ]
]

put_is : (es : List Entry) (k : Key) (v : Trouble × ℕ) (x : Entry) → Contains (insert_entry key_cmp es k v) x → (x ≡ (k, v)) ⊎ Contains es x
put_is [] k v x h = inl (sym (contains_single (k, v) x h))
put_is (e ∷ es) k v x h = put_cases e x es (insert_entry key_cmp es k v) k v (key_cmp k e.0) refl (put_is es k v x) h

has_cases : (e : Entry) (es rest : List Entry) (k : Key) (v : Trouble × ℕ) (o : Ordering) → key_cmp k e.0 ≡ o → Contains rest (k, v) → Contains (match_ordering o ((k, v) ∷ e ∷ es) ((e.0, v) ∷ es) (e ∷ rest)) (k, v)
has_cases e es rest k v Less at later = contains_first (k, v) (e ∷ es)
has_cases e es rest k v Equal at later = subst (λ q. Contains ((q, v) ∷ es) (k, v)) (path_same k e.0 at) (contains_first (k, v) es)
has_cases e es rest k v Greater at later = contains_later e (k, v) rest later

put_has : (es : List Entry) (k : Key) (v : Trouble × ℕ) → Contains (insert_entry key_cmp es k v) (k, v)
put_has [] k v = contains_first (k, v) []
put_has (e ∷ es) k v = has_cases e es (insert_entry key_cmp es k v) k v (key_cmp k e.0) refl (put_has es k v)

keep_cases : (e x : Entry) (es rest : List Entry) (k : Key) (v : Trouble × ℕ) (o : Ordering) → key_cmp k e.0 ≡ o → (e.0 ≡ k → ⊥) → (Contains es x → Contains rest x) → Contains (e ∷ es) x → Contains (match_ordering o ((k, v) ∷ e ∷ es) ((e.0, v) ∷ es) (e ∷ rest)) x
keep_cases e x es rest k v Less at new more h = contains_later (k, v) x (e ∷ es) h
keep_cases e x es rest k v Equal at new more h = absurd (new (sym (path_same k e.0 at)))
keep_cases e x es rest k v Greater at new more h = elim (contains_cases e x es h) [
  | inl same ↦ subst (Contains (e ∷ rest)) same (contains_first e rest)
  | inr later ↦ contains_later e x rest (more later)
]

put_keeps : (es : List Entry) (k : Key) (v : Trouble × ℕ) → ((e : Entry) → Contains es e → e.0 ≡ k → ⊥) → (x : Entry) → Contains es x → Contains (insert_entry key_cmp es k v) x
put_keeps [] k v new x h = absurd (contains_nothing x h)
put_keeps (e ∷ es) k v new x h =
    keep_cases e x es (insert_entry key_cmp es k v) k v (key_cmp k e.0) refl (new e (contains_first e es)) (put_keeps es k v (λ y later. new y (contains_later e y es later)) x) h

-- ---- a note

pub note_known : (es : List Entry) (t : plain.Trouble) (n : ℕ) → AreKeyed es → is_some (lookup (is_at (key_cmp (trouble_key t))) es) ≡ true → IsNoted (t ∷ []) n (noted es) (noted es)
note_known es t n keyed h =
    let r = found es (trouble_key t) h in
    let same : trouble_view r.0.1.0 ≡ t = trouble_key-IsKey (trouble_view r.0.1.0) t (sym (keyed.each r.0 r.1) ∙ r.2) in
    record {
      keeps = λ note held. held;
      has = λ u at. (r.0.1.1, subst (λ z. Contains (noted es) (z, r.0.1.1)) (same ∙ contains_single t u at) (map_contains note_of es r.0 r.1));
      only = λ note held. inl held;
    }

module _ (es : List Entry) (k : Key) (trouble : Trouble) (n : ℕ) (is : k ≡ trouble_key (trouble_view trouble)) (keyed : AreKeyed es) where
  pub note_keyed : IsStrictlySortedBy key_cmp (keys_of (insert_entry key_cmp es k (trouble, n))) → AreKeyed (insert_entry key_cmp es k (trouble, n))
  note_keyed ordered = record {
    each = λ e h. elim (put_is es k (trouble, n) e h) [
      | inl new ↦ subst (λ (x : Entry). x.0 ≡ trouble_key (trouble_view x.1.0)) (sym new) is
      | inr old ↦ keyed.each e old
    ];
    ordered = ordered;
  }

  pub note_new : is_some (lookup (is_at (key_cmp k)) es) ≡ false → IsNoted (trouble_view trouble ∷ []) n (noted es) (noted (insert_entry key_cmp es k (trouble, n)))
  note_new none = record { keeps = keeps; has = has; only = only }
    where
      unknown : (e : Entry) → Contains es e → e.0 ≡ k → ⊥
      unknown e h same = true_false (is_some (lookup (is_at (key_cmp k)) es)) (subst (λ q. is_some (lookup (is_at (key_cmp q)) es) ≡ true) same (is_found es e h)) none

      keeps : (note : Note) → Contains (noted es) note → Contains (noted (insert_entry key_cmp es k (trouble, n))) note
      keeps note h =
          let p = contains_map note_of es note h in
          subst (Contains (noted (insert_entry key_cmp es k (trouble, n)))) p.2 (map_contains note_of (insert_entry key_cmp es k (trouble, n)) p.0 (put_keeps es k (trouble, n) unknown p.0 p.1))

      has : (t : plain.Trouble) → Contains (trouble_view trouble ∷ []) t → (m : ℕ) × Contains (noted (insert_entry key_cmp es k (trouble, n))) (t, m)
      has t at = (n, subst (λ z. Contains (noted (insert_entry key_cmp es k (trouble, n))) (z, n)) (contains_single (trouble_view trouble) t at) (map_contains note_of (insert_entry key_cmp es k (trouble, n)) (k, (trouble, n)) (put_has es k (trouble, n))))

      before : (m : ℕ) → Contains (noted es) (trouble_view trouble, m) → ⊥
      before m h =
          let p = contains_map note_of es (trouble_view trouble, m) h in
          let same : trouble_view p.0.1.0 ≡ trouble_view trouble = ap (λ (note : Note). note.0) p.2 in
          unknown p.0 p.1 (keyed.each p.0 p.1 ∙ ap trouble_key same ∙ sym is)

      by : (note : Note) (e : Entry) → note_of e ≡ note → (e ≡ (k, (trouble, n))) ⊎ Contains es e → Contains (noted es) note ⊎ ((note.1 ≡ n) × Contains (trouble_view trouble ∷ []) note.0 × ((m : ℕ) → Contains (noted es) (note.0, m) → ⊥))
      by note e seen (inl new) =
          let same : (trouble_view trouble, n) ≡ note = sym (ap note_of new) ∙ seen in
          inr (subst (λ (x : Note). (x.1 ≡ n) × Contains (trouble_view trouble ∷ []) x.0 × ((m : ℕ) → Contains (noted es) (x.0, m) → ⊥)) same (refl, contains_first (trouble_view trouble) [], before))
      by note e seen (inr old) = inl (subst (Contains (noted es)) seen (map_contains note_of es e old))

      only : (note : Note) → Contains (noted (insert_entry key_cmp es k (trouble, n))) note → Contains (noted es) note ⊎ ((note.1 ≡ n) × Contains (trouble_view trouble ∷ []) note.0 × ((m : ℕ) → Contains (noted es) (note.0, m) → ⊥))
      only note h = let p = contains_map note_of (insert_entry key_cmp es k (trouble, n)) note h in by note p.0 p.2 (put_is es k (trouble, n) p.0 p.1)

-- nothing is noted of nothing
pub note_nothing : (es : List Entry) (n : ℕ) → IsNoted [] n (noted es) (noted es)
note_nothing es n = record { keeps = λ note h. h; has = λ t h. absurd (contains_nothing t h); only = λ note h. inl h }

-- ---- the order of keys is that of troubles

each_of : {X : Type 0} (P : X → Type 0) (xs : List X) (x : X) → AllByRecursion P xs → Contains xs x → P x
each_of P [] x all h = absurd (contains_nothing x h)
each_of P (y ∷ ys) x all h = elim (contains_cases y x ys h) [ inl same ↦ subst P same all.0 | inr later ↦ each_of P ys x all.1 later ]

ascend : (es : List Entry) → IsStrictlySortedBy key_cmp (keys_of es) → ((e : Entry) → Contains es e → e.0 ≡ trouble_key (trouble_view e.1.0)) → Ascends trouble_key (map (λ note. note.0) (noted es))
ascend [] sorted keyed = tt
ascend (e ∷ es) sorted keyed = (first, ascend es (sorted_tail key_cmp e.0 (keys_of es) sorted) (λ x h. keyed x (contains_later e x es h)))
  where
    first : (t : plain.Trouble) → Contains (map (λ note. note.0) (noted es)) t → key_cmp (trouble_key (trouble_view e.1.0)) (trouble_key t) ≡ Less
    first t h =
        let p = contains_map (λ (note : Note). note.0) (noted es) t h in
        let q = contains_map note_of es p.0 p.1 in
        let same : trouble_view q.0.1.0 ≡ t = ap (λ (note : Note). note.0) q.2 ∙ p.2 in
        let less : key_cmp e.0 q.0.0 ≡ Less = each_of (λ k. key_cmp e.0 k ≡ Less) (keys_of es) q.0.0 (sorted_head key_cmp e.0 (keys_of es) sorted) (map_contains (λ (x : Entry). x.0) es q.0 q.1) in
        subst (λ k. key_cmp k (trouble_key t) ≡ Less) (keyed e (contains_first e es)) (subst (λ k. key_cmp e.0 k ≡ Less) (keyed q.0 (contains_later e q.0 es q.1) ∙ ap trouble_key same) less)

pub entries_ascend : (es : List Entry) → AreKeyed es → Ascends trouble_key (map (λ note. note.0) (noted es))
entries_ascend es keyed = ascend es keyed.ordered keyed.each

-- no entries
pub nothing_keyed : (es : List Entry) → es ≡ [] → IsStrictlySortedBy key_cmp (keys_of es) → AreKeyed es
nothing_keyed es none ordered = record { each = λ e h. absurd (contains_nothing e (subst (λ l. Contains l e) none h)); ordered = ordered }
