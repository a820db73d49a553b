-- The reader's loop: a byte after the other.
use Rattle.std.proofs.Common.{◌≡◌, ◌+◌, ◌<◌, ◌≤◌, ℕ, List, length, drop, get_or, ap, sym, ◌∙◌}
use Rattle.std.specs.Prelude.{Option, Some, None, Result, Ok, Err, Bool, option_map, option_to_list}
use Rattle.std.proofs.lemmas.List.{drop_more, drop_all}
use Rattle.vk_spec.specs.Reading.{◌>>=◌, Fails}
use Rattle.vk_expr.specs.Tokens.{Token, token, sign_begun, is_word_byte, tokens_from}
use Rattle.vk_expr.specs.Reading.{State, steps}
use Rattle.vk_expr.specs.declared.faults.ExprFault.{ExprFault}
use Rattle.vk_expr.proofs.StepLemmas.{steps-append}

-- the token that begins at a place, if one does
abbrev pub begun : ℕ → Bool → List ℕ → List Token
begun at inside bytes = option_to_list (option_map (token at) (sign_begun inside (get_or bytes at 0) (drop (at + 1) bytes)))

-- the steps from a place on are those of the token there and those after it
byte_first : (s : State) (at : ℕ) (inside : Bool) (bytes : List ℕ) → at < length bytes → steps s (tokens_from at inside (drop at bytes)) ≡ (steps s (begun at inside bytes) >>= λ next. steps next (tokens_from (at + 1) (is_word_byte (get_or bytes at 0)) (drop (at + 1) bytes)))
unfolding tokens_from
byte_first s at inside bytes within =
    ap (λ l. steps s (tokens_from at inside l)) (drop_more bytes at 0 within)
    ∙ steps-append s (begun at inside bytes) (tokens_from (at + 1) (is_word_byte (get_or bytes at 0)) (drop (at + 1) bytes))

pub goes_on : (bytes : List ℕ) (s next : State) (at : ℕ) (inside : Bool) (total : Result State ExprFault) → at < length bytes → steps s (begun at inside bytes) ≡ Ok next → steps s (tokens_from at inside (drop at bytes)) ≡ total
    → steps next (tokens_from (at + 1) (is_word_byte (get_or bytes at 0)) (drop (at + 1) bytes)) ≡ total
goes_on bytes s next at inside total within here so_far =
    let split = byte_first s at inside bytes within in
    let rest : steps s (tokens_from at inside (drop at bytes)) ≡ steps next (tokens_from (at + 1) (is_word_byte (get_or bytes at 0)) (drop (at + 1) bytes)) = split ∙ ap (λ r. r >>= λ next. steps next (tokens_from (at + 1) (is_word_byte (get_or bytes at 0)) (drop (at + 1) bytes))) here in
    sym rest ∙ so_far

pub fails_on : (told : Option ExprFault) (bytes : List ℕ) (s : State) (at : ℕ) (inside : Bool) (total : Result State ExprFault) → at < length bytes → Fails told (steps s (begun at inside bytes)) → steps s (tokens_from at inside (drop at bytes)) ≡ total → Fails told total
fails_on None bytes s at inside total within here so_far = tt
fails_on (Some f) bytes s at inside total within here so_far =
    let rest : steps s (tokens_from at inside (drop at bytes)) ≡ Err f = byte_first s at inside bytes within ∙ ap (λ r. r >>= λ next. steps next (tokens_from (at + 1) (is_word_byte (get_or bytes at 0)) (drop (at + 1) bytes))) here in
    sym so_far ∙ rest

pub ends_on : (bytes : List ℕ) (s : State) (at : ℕ) (inside : Bool) (total : Result State ExprFault) → length bytes ≤ at → steps s (tokens_from at inside (drop at bytes)) ≡ total → total ≡ Ok s
unfolding tokens_from steps
ends_on bytes s at inside total past so_far = sym so_far ∙ ap (λ l. steps s (tokens_from at inside l)) (drop_all at bytes past)
