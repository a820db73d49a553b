-- Where a tree in memory has room, a file may be written or moved there.
use Rattle.std.proofs.Common.{◌≡◌, false, true, ℕ, List, ◌∷◌, ◌++◌, sym, ap, ◌∙◌}
use Rattle.std.specs.Prelude.{None, is_some}
use Rattle.std.specs.FinMap as map
use Rattle.vk_spec.specs.Paths.{Path, Begins}
use Rattle.vk_spec.specs.Files.{Files, HasRoomFor}
use Rattle.vk_spec.specs.Standing.{disk_of, IsFolder}
use Rattle.vk_spec.specs.Calls.{CanMake, write_of, rename_of}

no_folder : (path : Path) (f : Files) → HasRoomFor path f → IsFolder (disk_of f) path → ⊥
no_folder path f room folder =
    let none : map.get f (path ++ folder.0 ∷ folder.1) ≡ None = room.below folder.0 folder.1 in
    let some = folder.2 in
    let clash : false ≡ true = sym (ap is_some none) ∙ some in
    (cc)

pub can_write : (path : Path) (bytes : List ℕ) (f : Files) → HasRoomFor path f → CanMake (write_of path bytes) (disk_of f)
can_write path bytes f room = (room.above, no_folder path f room)

pub can_move : (from to : Path) (f : Files) → HasRoomFor to f → (Begins from to → ⊥) → (Begins to from → ⊥) → CanMake (rename_of from to) (disk_of f)
can_move from to f room one other = (room.above, one, other)
