-- An ask is among those that were noted exactly where an insert says so.
use Rattle.std.proofs.Common.{◌≡◌, Bool, true, false, not, List, map, refl, ap, sym}
use Rattle.std.proofs.Common.{◌∙◌}
use Rattle.std.specs.Prelude.{Ok, Err, if◌then◌else◌}
use Rattle.std.specs.List.{list_any}
use Rattle.vk_spec.proofs.ListLemmas.{any_by}
use Rattle.vk_spec.specs.Versions as plain
use Rattle.vk_spec.specs.Versions.{same_ask}
use Rattle.vk_version.specs.AskViews.{ask_view}
use Rattle.vk_version.specs.declared.asks.Ask.{Ask}
use Rattle.vk_json.specs.declared.faults.Why.TheVariants as why
use Rattle.vk_json.specs.Places.{here}
use Rattle.vk_registry.specs.Tables.{new_ask}

not_not : (b : Bool) → not (not b) ≡ b
not_not true = refl
not_not false = refl

-- the same of asks as they are kept
pub any_kept : (keys : List Ask) (ask : plain.Ask)
    → list_any (same_ask ask) (map ask_view keys) ≡ list_any
    (λ key. same_ask ask (ask_view key)) keys
any_kept keys ask = any_by ask_view (same_ask ask) keys

told : (keys : List Ask) (ask : Ask) (a : plain.Ask) (new : Bool) → ask_view ask ≡ a
    → new ≡ not (list_any (λ key. same_ask (ask_view ask) (ask_view key)) keys)
    → new_ask (map ask_view keys) a ≡ (if not new then Err (here why.Twice) else Ok tt)
told keys ask a new is added =
    ap (new_ask (map ask_view keys)) (sym is)
    ∙ ap (λ taken. if taken then Err (here why.Twice) else Ok tt)
    (any_kept keys (ask_view ask)
    ∙ sym (not_not (list_any (λ key. same_ask (ask_view ask) (ask_view key)) keys))
    ∙ ap not (sym added))

-- an ask that an insert puts at the end is new
pub told_new : (keys : List Ask) (ask : Ask) (a : plain.Ask) (new : Bool) → ask_view ask ≡ a
    → new ≡ not (list_any (λ key. same_ask (ask_view ask) (ask_view key)) keys) → new ≡ true
    → new_ask (map ask_view keys) a ≡ Ok tt
told_new keys ask a new is added holds = told keys ask a new is added
    ∙ ap (λ n. if not n then Err (here why.Twice) else Ok tt) holds

-- any other is not
pub told_twice : (keys : List Ask) (ask : Ask) (a : plain.Ask) (new : Bool) → ask_view ask ≡ a
    → new ≡ not (list_any (λ key. same_ask (ask_view ask) (ask_view key)) keys) → new ≡ false
    → new_ask (map ask_view keys) a ≡ Err (here why.Twice)
told_twice keys ask a new is added fails = told keys ask a new is added
    ∙ ap (λ n. if not n then Err (here why.Twice) else Ok tt) fails
