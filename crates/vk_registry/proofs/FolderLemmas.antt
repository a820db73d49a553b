-- A folder that reads stays below the registry.
use Rattle.std.proofs.Common.{◌≡◌, Bool, true, false, not, ◌&&◌, eqb, refl, arith}
use Rattle.std.specs.Prelude.{Ok, Err, codes, if◌then◌else◌}
use Rattle.std.proofs.lemmas.Bool.Decides.{nat_tests}
use Rattle.serde_json.specs.Data.{Data}
use Rattle.vk_spec.specs.Paths.{Path}
use Rattle.vk_spec.specs.Reading.{◌>>=◌, or_fault}
use Rattle.vk_base.specs.Paths.{is_rooted, ups_of}
use Rattle.vk_base.specs.PathReading.{path_of}
use Rattle.vk_json.specs.declared.faults.Why.TheVariants as why
use Rattle.vk_json.specs.Places.{here}
use Rattle.vk_json.specs.Readings.{text_at}
use Rattle.vk_fields.specs.Saying.{said_here}
use Rattle.vk_fields.specs.Wording.{path_word}
use Rattle.vk_spec.specs.Fronts.{after}
use Rattle.vk_registry.specs.Folders.{IsBelow, unless_above, folder_of, folder_at}
use Rattle.vk_spec.proofs.ReadingLemmas.{bind_ok}

by_tests : (path found : Path) (rooted level : Bool) → is_rooted path ≡ rooted
    → eqb (ups_of path) 0 ≡ level
    → (if not rooted && level then Ok path else Err (here why.Path)) ≡ Ok found → IsBelow found
by_tests path found false true is ups e =
    let same : path ≡ found = (cc) in
    let none : ups_of path ≡ 0 = grind (arith, nat_tests) in
    record { unrooted = rw (← same) is; level = rw (← same) none }
by_tests path found false false is ups e = (cc)
by_tests path found true level is ups e = (cc)

pub folder_below : (d : Data) (path : Path) → folder_at d ≡ Ok path → IsBelow path
unfolding folder_of
folder_below d path e =
    let text = bind_ok (text_at d) folder_of path e in
    let rest =
    bind_ok (or_fault (here why.Path) (after (codes "$/") text.0))
    (λ rest. said_here path_word (path_of rest) >>= unless_above) path text.2 in
    let read = bind_ok (said_here path_word (path_of rest.0)) unless_above path rest.2 in
    by_tests read.0 path (is_rooted read.0) (eqb (ups_of read.0) 0) refl refl read.2
