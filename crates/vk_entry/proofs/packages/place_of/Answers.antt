use Rattle.std.proofs.Common.{rules}
use Rattle.std.proofs.lemmas.Fn.{always_returns_same}
use Rattle.vk_entry.specs.PackageViews.{file_view}
use Rattle.vk_entry.specs.Places.{order_of}
use Rattle.vk_entry.proofs.PackageLemmas.{found, absent}
use Rattle.vk_entry.proofs.packages.place_of.Goals as goal

pub returns-clause-found : goal.returns-clause-found
returns-clause-found c =
    found c.args.path.now c.args.files.now c.requires c.binary_search_by.result c.binary_search_by.ensures.bound
    (c.binary_search_by.ensures.position (λ file. order_of c.args.path.now (file_view file)) (always_returns_same _ _ _ (λ a r f k. search rules)))

pub returns-clause-absent : goal.returns-clause-absent
returns-clause-absent c =
    absent c.args.path.now c.args.files.now c.requires c.binary_search_by.result c.binary_search_by.ensures.bound
    (c.binary_search_by.ensures.position (λ file. order_of c.args.path.now (file_view file)) (always_returns_same _ _ _ (λ a r f k. search rules)))
