-- Whether a key is there, member by member.
use Rattle.std.proofs.Common.{◌≡◌, ◌||◌, ◌<◌, ◌≤◌, ◌+◌, ℕ, Bool, true, false, cond, List, length, drop, get_or, ◌∷◌, Bor, Vec, Option, Some, None, option_map, bytes_eq, refl, ap, sym, ◌∙◌, drop_of_length-le}
use Rattle.std.specs.Option.{is_some}
use Rattle.std.specs.declared.alloc.Global.{Global}
use Rattle.std.proofs.lemmas.List.{drop_more}
use Rattle.std.proofs.Math.Bool.{or_assoc, or-false}
use Rattle.json.specs.Json as json
use Rattle.json.specs.Find as look
use Rattle.json.specs.Value.{value_view, members_view}
use Rattle.json.specs.declared.value.Value.{Value, Object}
use Rattle.json.proofs.Trees.{view-Object}
use Rattle.serde_json.specs.Find.{get}
use Rattle.vk_json.specs.Values.{data_of, view}
use Rattle.vk_json.proofs.ValueLemmas.{get_same}

abbrev Entry : Type 0
Entry = Bor (List ℕ) × Value Global

-- the key is among members
abbrev pub has : List ℕ → List Entry → Bool
has key ms = is_some (look.get_member key (members_view ms))

-- it is the first member's, or one of those after it
first_or_later : (later : Option json.Json) (same : Bool) (j : json.Json) → is_some (look.later_or later (cond same (Some j) None)) ≡ same || is_some later
first_or_later None true j = refl
first_or_later None false j = refl
first_or_later (Some found) true j = refl
first_or_later (Some found) false j = refl

pub noted_so_far : (key : List ℕ) (ms : List Entry) (i : ℕ) (m : Entry) (before : Bool) {whole : Bool} → i < length ms → m ≡ get_or ms i m → before || has key (drop i ms) ≡ whole
    → (before || bytes_eq m.0.now key) || has key (drop (i + 1) ms) ≡ whole
noted_so_far key ms i m before within is so_far =
    let rest = drop (i + 1) ms in
    or_assoc before (bytes_eq m.0.now key) (has key rest)
    ∙ ap (λ b. before || b) (sym (first_or_later (look.get_member key (members_view rest)) (bytes_eq m.0.now key) (value_view m.1)))
    ∙ ap (λ n. before || has key (n ∷ rest)) is
    ∙ ap (λ l. before || has key l) (sym (drop_more ms i m within)) ∙ so_far

pub noted_all : (key : List ℕ) (ms : List Entry) (i : ℕ) (before : Bool) {whole : Bool} → length ms ≤ i → before || has key (drop i ms) ≡ whole → before ≡ whole
noted_all key ms i before past so_far = sym (or-false before) ∙ ap (λ l. before || has key l) (sym (drop_of_length-le ms past)) ∙ so_far

some_mapped : {A B : Type 0} (f : A → B) (found : Option A) → is_some (option_map f found) ≡ is_some found
some_mapped f None = refl
some_mapped f (Some x) = refl

-- the key of an object that was read
pub has_same : (key : List ℕ) (v : Value Global) (ms : Vec Entry Global) {listed : List Entry} → listed ≡ ms.items → v ≡ Object ms → has key listed ≡ is_some (get key (view v))
has_same key v ms same is =
    ap (has key) same ∙ sym (some_mapped data_of (look.get_member key (members_view ms.items)))
    ∙ ap (λ j. is_some (option_map data_of (look.get key j))) (sym (view-Object ms))
    ∙ ap is_some (get_same key (value_view (Object ms))) ∙ ap (λ w. is_some (get key (view w))) (sym is)
