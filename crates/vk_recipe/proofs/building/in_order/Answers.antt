use Rattle.std.proofs.Common.{ap, refl}
use Rattle.std.proofs.lemmas.Fn.{always_returns_same}
use Rattle.std.proofs.lemmas.Cmp.{nat_list_cmp_total}
use Rattle.std.proofs.lemmas.List.MinMax.{ranks_by}
use Rattle.std.specs.Ordering.{is_lt}
use Rattle.vk_base.specs.Paths.{text_of_path}
use Rattle.vk_entry.specs.PackageViews.{file_view}
use Rattle.vk_recipe.specs.Builds.{text_order}
use Rattle.vk_recipe.proofs.OrderLemmas.{sorted_package, sorted_is}
use Rattle.vk_recipe.proofs.building.in_order.Goals as goal

pub from_files-requires : goal.from_files-requires
from_files-requires c =
    rw (c.from_vec.ensures)
    (sorted_package c.args.files _ (rw c.into_vec-files.ensures at c.sort_unstable_by.ensures.permutation)
    (c.sort_unstable_by.ensures.sorted (λ p q. is_lt (text_order (file_view p) (file_view q))) (ranks_by nat_list_cmp_total (λ p. text_of_path p.path)) (always_returns_same _ _ _ (λ a r f k. (ap is_lt k.met, refl))))
    c.requires)

pub returns : goal.returns
returns c =
    rw (c.from_files.ensures, c.from_vec.ensures)
    (sorted_is c.args.files _ (rw c.into_vec-files.ensures at c.sort_unstable_by.ensures.permutation)
    (c.sort_unstable_by.ensures.sorted (λ p q. is_lt (text_order (file_view p) (file_view q))) (ranks_by nat_list_cmp_total (λ p. text_of_path p.path)) (always_returns_same _ _ _ (λ a r f k. (ap is_lt k.met, refl))))
    c.requires)
