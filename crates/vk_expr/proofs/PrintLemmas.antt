-- Members that are printed one after the other.
use Rattle.std.proofs.Common.{ℕ, List, [], ◌++◌, true}
use Rattle.vk_spec.specs.Conditions.{Conditions, no_conditions, condition}
use Rattle.vk_expr.specs.Printing.{printed_as, others_of}

-- the members left, the first after what stands between
abbrev pub left_of : List ℕ → List ℕ → Conditions → List ℕ
left_of between sign no_conditions = []
left_of between sign (condition t ts) = between ++ (printed_as true t ++ others_of sign ts)
