-- What one fact brings up alone, each with its cause, and which facts are joined with others of their port.
use Rattle.std.specs.Prelude.{ℕ, Bool, true, false, List, map}
use Rattle.vk_resolution.specs.Settings.{root, inst}
use Rattle.vk_resolution.specs.Asking.{Fact, need, floor, visit}
use Rattle.vk_resolution.specs.Consequences.{Inputs, Cause, by_root, by_baseline, by_override, by_overlay, by_minimum, by_one, by_two, steps_from, is_visited, rules_of}
use Rattle.vk_resolution.specs.Least.{IsReached}
use Rattle.vk_resolution.specs.Reasons.{Reason}

-- a cause that cites one line, whatever fact stands on it
abbrev pub on_line : ℕ → Cause Fact → Cause ℕ
on_line n by_root = by_root
on_line n (by_baseline x) = by_baseline n
on_line n (by_override x) = by_override n
on_line n (by_overlay x) = by_overlay n
on_line n (by_minimum x) = by_minimum n
on_line n (by_one x) = by_one n
on_line n (by_two x y) = by_two n n

-- what the fact of a line brings up alone
abbrev pub alone_at : Inputs → Fact → ℕ → List Reason
alone_at inputs y line = map (λ s. record { fact = s.fact; cause = on_line line s.cause }) (steps_from inputs y)

-- joined are needs of instances, and floors whose version is visited
abbrev pub joins : Inputs → Fact → Bool
joins inputs (need (root t) f) = false
joins inputs (need (inst i) f) = true
joins inputs (floor q a) = is_visited inputs q a
joins inputs (visit i f a) = false

-- it follows from the root facts in some number of steps
abbrev pub Follows : Inputs → Fact → Type 0
Follows inputs x = (n : ℕ) × IsReached (rules_of inputs) n x
