-- Facts that are the same are fed to a hash alike.
use Rattle.std.proofs.Common.{◌≡◌, true, ap}
use Rattle.std.specs.Cmp.Lexicographic.{pointwise}
use Rattle.std.specs.Prelude.{◌==◌}
use Rattle.std.specs.Ordering.{on}
use Rattle.vk_resolution.proofs.Orders.{same_key-Decides}
use Rattle.vk_resolution.proofs.FactLemmas.{fact_key-IsKey}
use Rattle.vk_model.specs.declared.facts.Fact.{Fact}
use Rattle.vk_model.specs.FactViews.{fact_view}
use Rattle.vk_model.specs.FactKeys.{key_of, plain_hash, fact_hash}

pub hash_alike : (x y : Fact) → on key_of (pointwise (pointwise ◌==◌)) x y ≡ true → fact_hash x ≡ fact_hash y
hash_alike x y e = ap plain_hash (fact_key-IsKey (fact_view x) (fact_view y) ((same_key-Decides (key_of x) (key_of y)).0 e))
