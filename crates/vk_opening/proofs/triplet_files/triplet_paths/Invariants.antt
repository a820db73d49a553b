use Rattle.std.proofs.Common.{◌≡◌, map, take}
use Rattle.vk_opening.specs.Projects.{triplet_path}
use Rattle.vk_opening.proofs.triplet_files.triplet_paths.Given as goal

abbrev pub invariant-loop-folder : goal.invariant-loop-folder
invariant-loop-folder l = l.paths ≡ map (triplet_path l.name) (take l.folder-index l.folders)
