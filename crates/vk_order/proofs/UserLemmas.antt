-- Who needs whom.
use Rattle.std.proofs.Common.{◌≡◌, ◌<◌, ◌⊎◌, ◌+◌, ℕ, List, [], ◌∷◌, ◌++◌, length, take, set, get_or, inl, inr, ap, sym, ◌∙◌, subst, arith}
use Rattle.std.specs.List.{Contains}
use Rattle.std.proofs.lemmas.List.{get_or-set_same, get_or-set_other, length-set, get_or_past, get_or_default, take_more, take_at}
use Rattle.std.proofs.lemmas.List.Elements.{Contains-append_left, Contains-push, Contains-push_cases}
use Rattle.std.proofs.lemmas.Bool.{cases_lt}
use Rattle.vk_spec.proofs.ListLemmas.{contains_nothing}
use Rattle.vk_order.specs.Needs.{listed_at, AreUsers, IsPutInto}
use Rattle.vk_order.proofs.NumberLemmas.{same_or}

-- the users among the first items
pub record AreUsersUpTo (i : ℕ) (needs users : List (List ℕ)) : Type 0 where
  pub long : length users ≡ length needs
  pub to : (k n : ℕ) → k < i → Contains (listed_at needs k) n → Contains (listed_at users n) k
  pub from : (k n : ℕ) → Contains (listed_at users n) k → (k < i) × Contains (listed_at needs k) n

module _ (place : ℕ) (named : List ℕ) (before users : List (List ℕ)) (need : ℕ) (within : need < length users) where
  pub put_more : IsPutInto place named before users → IsPutInto place (named ++ need ∷ []) before (set users need (listed_at users need ++ place ∷ []))
  put_more is = record {
    long = length-set users need (listed_at users need ++ place ∷ []) ∙ is.long;
    kept = λ k n h. keep k n (is.kept k n h);
    put = λ n h. elim (Contains-push_cases named need n h) [
      | inl old ↦ keep place n (is.put n old)
      | inr new ↦ subst (λ m. Contains (listed_at (set users need (listed_at users need ++ place ∷ [])) m) place) new here
    ];
    only = λ k n h. elim (same_or n need) [
      | inl same ↦ at_need k n same h
      | inr other ↦ elsewhere k n (is.only k n (subst (λ l. Contains l k) (get_or-set_other users need n (listed_at users need ++ place ∷ []) [] other) h))
    ];
  }
    where
      at : get_or (set users need (listed_at users need ++ place ∷ [])) need [] ≡ listed_at users need ++ place ∷ []
      at = get_or-set_same users need (listed_at users need ++ place ∷ []) [] within

      here : Contains (listed_at (set users need (listed_at users need ++ place ∷ [])) need) place
      here = subst (λ l. Contains l place) (sym at) (Contains-push (listed_at users need) place)

      keep : (k n : ℕ) → Contains (listed_at users n) k → Contains (listed_at (set users need (listed_at users need ++ place ∷ [])) n) k
      keep k n h = elim (same_or n need) [
        | inl same ↦ subst (λ m. Contains (listed_at (set users need (listed_at users need ++ place ∷ [])) m) k) (sym same) (subst (λ l. Contains l k) (sym at) (Contains-append_left (listed_at users need) (place ∷ []) k (subst (λ m. Contains (listed_at users m) k) same h)))
        | inr other ↦ subst (λ l. Contains l k) (sym (get_or-set_other users need n (listed_at users need ++ place ∷ []) [] other)) h
      ]

      elsewhere : (k n : ℕ) → Contains (listed_at before n) k ⊎ ((k ≡ place) × Contains named n) → Contains (listed_at before n) k ⊎ ((k ≡ place) × Contains (named ++ need ∷ []) n)
      elsewhere k n (inl old) = inl old
      elsewhere k n (inr new) = inr (new.0, Contains-append_left named (need ∷ []) n new.1)

      at_need : (k n : ℕ) → n ≡ need → Contains (listed_at (set users need (listed_at users need ++ place ∷ [])) n) k → Contains (listed_at before n) k ⊎ ((k ≡ place) × Contains (named ++ need ∷ []) n)
      at_need k n same h =
          elim (Contains-push_cases (listed_at users need) place k (subst (λ l. Contains l k) at (subst (λ m. Contains (listed_at (set users need (listed_at users need ++ place ∷ [])) m) k) same h))) [
            | inl old ↦ elsewhere k n (is.only k n (subst (λ m. Contains (listed_at users m) k) (sym same) old))
            | inr new ↦ inr (sym new, subst (Contains (named ++ need ∷ [])) (sym same) (Contains-push named need))
          ]

pub users_more : (i : ℕ) (needs users after : List (List ℕ)) → AreUsersUpTo i needs users → IsPutInto i (listed_at needs i) users after → AreUsersUpTo (i + 1) needs after
users_more i needs users after are put = record {
  long = put.long ∙ are.long;
  to = λ k n below h. elim (cases_lt k i) [
    | inl earlier ↦ put.kept k n (are.to k n earlier h)
    | inr later ↦ (let same : i ≡ k = omega arith in subst (Contains (listed_at after n)) same (put.put n (subst (λ m. Contains (listed_at needs m) n) (sym same) h)))
  ];
  from = λ k n h. elim (put.only k n h) [
    | inl old ↦ (let r = are.from k n old in let below : k < i = r.0 in ((let up : k < i + 1 = omega arith in up), r.1))
    | inr new ↦ (let same : k ≡ i = new.0 in ((let up : k < i + 1 = omega arith in up), subst (λ m. Contains (listed_at needs m) n) (sym same) new.1))
  ];
}

pub users_all : (needs users : List (List ℕ)) → AreUsersUpTo (length needs) needs users → AreUsers needs users
users_all needs users are = record {
  long = are.long;
  to = λ k n h. elim (cases_lt k (length needs)) [
    | inl within ↦ are.to k n within h
    | inr past ↦ absurd (contains_nothing n (subst (λ l. Contains l n) (get_or_past needs k [] past) h))
  ];
  from = λ k n h. (are.from k n h).1;
}

pub put_step : (place i : ℕ) (needs : List ℕ) (before users : List (List ℕ)) (new d : List ℕ) → i < length needs → get_or needs i 0 < length users → new ≡ get_or users (get_or needs i 0) d ++ place ∷ [] → IsPutInto place (take i needs) before users
    → IsPutInto place (take (i + 1) needs) before (set users (get_or needs i 0) new)
put_step place i needs before users new d within inside is put =
    subst (λ l. IsPutInto place (take (i + 1) needs) before (set users (get_or needs i 0) l)) (sym (is ∙ ap (λ l. l ++ place ∷ []) (get_or_default users (get_or needs i 0) d [] inside)))
    (subst (λ l. IsPutInto place l before (set users (get_or needs i 0) (listed_at users (get_or needs i 0) ++ place ∷ []))) (sym (take_more needs i 0 within)) (put_more place (take i needs) before users (get_or needs i 0) inside put))

pub users_step : (i n : ℕ) (needs users before after past : List (List ℕ)) (named : List ℕ) → named ≡ listed_at needs i → before ≡ users → length before ≡ n → AreUsersUpTo i needs users → IsPutInto i named before after → AreUsersUpTo (i + 1) needs (take n (after ++ past))
users_step i n needs users before after past named is same size are put =
    subst (AreUsersUpTo (i + 1) needs) (sym (take_at after past n (put.long ∙ size)))
    (users_more i needs users after are (subst (λ l. IsPutInto i l users after) is (subst (λ l. IsPutInto i named l after) same put)))

pub users_end : (i : ℕ) (needs users : List (List ℕ)) → length needs ≡ i → AreUsersUpTo i needs users → AreUsers needs users
users_end i needs users size are = users_all needs users (subst (λ n. AreUsersUpTo n needs users) (sym size) are)
