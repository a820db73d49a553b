use Rattle.std.proofs.Common.{◌≤◌, length}
use Rattle.std.specs.Prelude.{IsTrue}
use Rattle.std.specs.List.{All}
use Rattle.std.specs.Map.{keys_of}
use Rattle.std.specs.FinMap as map
use Rattle.vk_spec.specs.Standing.{disk_of}
use Rattle.vk_base.specs.Paths.{is_part}
use Rattle.vk_tree.specs.Answers.{entries_of}
use Rattle.vk_tree.specs.Listing.{Lists}
use Rattle.vk_tree.proofs.listing.list_in.Given as goal

abbrev pub invariant-loop-path : goal.invariant-loop-path
invariant-loop-path l = Lists (disk_of (map.from_entries l.files.entries)) l.dir (keys_of l.path-iterator) (entries_of l.found) × All (λ x. IsTrue (is_part x.name)) l.found × (length l.found ≤ 100000)
