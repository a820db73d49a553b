-- Paths as they are seen from a folder, and their texts.
use Rattle.std.proofs.Common.{◌≡◌, ◌≤◌, ◌<◌, ◌+◌, [], ◌∷◌, ◌++◌, false, refl, ap, sym, ◌∙◌, arith}
use Rattle.std.specs.Prelude.{◌^◌}
use Rattle.vk_spec.specs.Paths.{Path, Begins}
use Rattle.vk_base.specs.Paths.{IsPath, is_rooted, ups_of, parts_of, joined}
use Rattle.vk_base.proofs.PathLemmas.{ups_most, joined-here, key_again}

-- a path's steps up, and none, are few enough
pub few_steps : (folder seen : Path) → IsPath folder → ups_of seen ≤ 0 → ups_of folder + ups_of seen < 2 ^ 32
few_steps folder seen path none = omega (arith, none, ap ups_of path.key_is, ups_most path.rooted path.ups path.parts, path.path.small)

-- the path of a file that is seen from a folder
pub seen_at : (folder seen rest : Path) → IsPath folder → seen ≡ (46 ∷ []) ∷ rest → joined folder seen ≡ folder ++ rest
seen_at folder seen rest path is = ap (joined folder) is ∙ joined-here folder rest path

-- a path that isn't rooted and has no steps up is one as it is seen from a folder
seen_here : (seen : Path) → IsPath seen → is_rooted seen ≡ false → ups_of seen ≡ 0 → seen ≡ (46 ∷ []) ∷ parts_of seen
seen_here seen path unrooted none = sym (key_again seen path) ∙ rw (unrooted, none) refl

-- so that the folder begins it where they are joined
pub joined_below : (folder seen : Path) → IsPath folder → IsPath seen → is_rooted seen ≡ false → ups_of seen ≡ 0 → Begins folder (joined folder seen)
joined_below folder seen folder_path path unrooted none = (parts_of seen, seen_at folder seen (parts_of seen) folder_path (seen_here seen path unrooted none))
