-- Packages whose paths keep their rules can be published.
use Rattle.std.proofs.Common.{◌≡◌, ◌++◌, [], ◌∷◌, List, refl, ap, sym, ◌∙◌}
use Rattle.std.specs.List.{Contains}
use Rattle.vk_spec.specs.Paths.{Path, Begins}
use Rattle.vk_base.specs.Paths.{IsPath, parts_of}
use Rattle.vk_base.proofs.PathLemmas.{key_again}
use Rattle.vk_entry.specs.Packages.{File, IsPackagePath}
use Rattle.vk_publish.specs.Entries.{AreApart}

-- a package's path is `.` and its parts
pub package_key : (path : Path) → IsPath path → IsPackagePath path → path ≡ (46 ∷ []) ∷ parts_of path
package_key path is fits = sym (key_again path is) ∙ rw (fits.unrooted, fits.level) refl

-- where no path begins another, no file lies below another
pub parts_apart : (files : List File) → ((f : File) → Contains files f → IsPath f.path × IsPackagePath f.path) → ((f g : File) → Contains files f → Contains files g → Begins f.path g.path → f.path ≡ g.path) → AreApart files
parts_apart files each alone f g has other begins =
    let one = package_key f.path (each f has).0 (each f has).1 in
    let two = package_key g.path (each g other).0 (each g other).1 in
    ap parts_of (alone f g has other (begins.0, two ∙ ap (λ p. (46 ∷ []) ∷ p) begins.1 ∙ ap (λ p. p ++ begins.0) (sym one)))
