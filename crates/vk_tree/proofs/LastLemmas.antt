-- The last entry of a list.
use Rattle.std.proofs.Common.{◌≡◌, ◌<◌, ◌-◌, ◌+◌, ℕ, List, [], ◌∷◌, ◌++◌, length, take, drop, get_or, refl, ap, sym, ◌∙◌, arith}
use Rattle.std.proofs.lemmas.List.{take-append-drop, drop_more, drop_all, map-append}
use Rattle.std.proofs.lemmas.Option.{slice_get_within, slice_get-get_or}
use Rattle.std.specs.Prelude.{Some, slice_get}
use Rattle.vk_spec.specs.Standing.{Entry}
use Rattle.vk_tree.specs.Answers.{entry_of, entries_of}
use Rattle.vk_tree.specs.Listing.{IsLastName}
use Rattle.vk_tree.specs.declared.trees.Listed.{Listed}

last_split : (xs : List Listed) (e : Listed) → slice_get xs (length xs - 1) ≡ Some e → (front : List Listed) × (xs ≡ front ++ e ∷ [])
last_split xs e h =
    let lt : length xs - 1 < length xs = slice_get_within xs (length xs - 1) e h in
    let both : Some (get_or xs (length xs - 1) e) ≡ Some e = sym (slice_get-get_or xs (length xs - 1) e lt) ∙ h in
    let same : get_or xs (length xs - 1) e ≡ e = (cc) in (
      take (length xs - 1) xs,
      sym (take-append-drop (length xs - 1) xs) ∙ ap (λ l. take (length xs - 1) xs ++ l) (drop_more xs (length xs - 1) e lt ∙ ap (λ y. y ∷ drop (length xs - 1 + 1) xs) same ∙ ap (λ l. e ∷ l) (drop_all (length xs - 1 + 1) xs (omega (arith, lt)))),
    )

abbrev end_of : List ℕ → List Entry → List ℕ
end_of name [] = name
end_of name (x ∷ xs) = end_of x.name xs

end_push : (name : List ℕ) (xs : List Entry) (x : Entry) → end_of name (xs ++ x ∷ []) ≡ x.name
end_push name [] x = refl
end_push name (y ∷ ys) x = end_push y.name ys x

split_entries : (xs : List Listed) (e : Listed) (front : List Listed) → xs ≡ front ++ e ∷ [] → entries_of xs ≡ entries_of front ++ entry_of e ∷ []
split_entries xs e front is = ap entries_of is ∙ map-append entry_of front (e ∷ [])

pub last_found : (xs : List Listed) (e : Listed) (name : List ℕ) → slice_get xs (length xs - 1) ≡ Some e → e.name ≡ name → IsLastName (entries_of xs) name
last_found xs e name h same = let s = last_split xs e h in (entries_of s.0, entry_of e, split_entries xs e s.0 s.1, same)

pub last_only : (xs : List Listed) (e : Listed) (name : List ℕ) → slice_get xs (length xs - 1) ≡ Some e → IsLastName (entries_of xs) name → e.name ≡ name
last_only xs e name h last =
    let s = last_split xs e h in
    sym (end_push [] (entries_of s.0) (entry_of e)) ∙ ap (end_of []) (sym (split_entries xs e s.0 s.1) ∙ last.2) ∙ end_push [] last.0 last.1 ∙ last.3
