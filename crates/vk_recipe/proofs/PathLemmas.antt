-- The test of a package's path is what packages say of their paths.
use Rattle.std.proofs.Common.{◌≡◌, ◌↔◌, ◌&&◌, ◌==◌, Bool, true, false, nat_le, length, not, refl, sym, arith}
use Rattle.std.specs.Prelude.{IsTrue}
use Rattle.std.proofs.lemmas.Bool.Decides.{nat_tests}
use Rattle.vk_spec.specs.Paths.{Path}
use Rattle.vk_base.specs.Paths.{is_rooted, ups_of, parts_of}
use Rattle.vk_entry.specs.Packages.{IsPackagePath}
use Rattle.vk_recipe.specs.PackagePaths.{is_package_path}

each_true : (a b c d : Bool) → (a && b && c && d) ≡ true → (a ≡ true) × (b ≡ true) × (c ≡ true) × (d ≡ true)
each_true true true true true e = (refl, refl, refl, refl)
each_true true true true false e = (cc)
each_true true true false d e = (cc)
each_true true false c d e = (cc)
each_true false b c d e = (cc)

all_true : (a b c d : Bool) → a ≡ true → b ≡ true → c ≡ true → d ≡ true → (a && b && c && d) ≡ true
all_true a b c d one two three four = rw (one, two, three, four) refl

not_true : (b : Bool) → not b ≡ true → b ≡ false
not_true true e = (cc)
not_true false e = refl

not_false : (b : Bool) → b ≡ false → not b ≡ true
not_false true e = (cc)
not_false false e = refl

pub package_path : (path : Path) → is_package_path path ≡ true → IsPackagePath path
package_path path is =
    let each = each_true (not (is_rooted path)) (ups_of path == 0) (nat_le 1 (length (parts_of path))) (nat_le (length (parts_of path)) 60) is in
    let level = each.1 in
    let some = each.2 in
    let few = each.3 in record {
      unrooted = not_true (is_rooted path) each.0;
      level = grind (arith, nat_tests);
      some = grind (arith, nat_tests);
      few = grind (arith, nat_tests);
    }

pub path_tested : (path : Path) → IsPackagePath path → is_package_path path ≡ true
path_tested path is =
    let level = is.level in
    let some = is.some in
    let few = is.few in
    all_true (not (is_rooted path)) (ups_of path == 0) (nat_le 1 (length (parts_of path))) (nat_le (length (parts_of path)) 60)
    (not_false (is_rooted path) is.unrooted) (grind (arith, nat_tests)) (grind (arith, nat_tests)) (grind (arith, nat_tests))

by_both : (b c : Bool) → (b ≡ true → c ≡ true) → (c ≡ true → b ≡ true) → b ≡ c
by_both true c to from = sym (to refl)
by_both false true to from = from refl
by_both false false to from = refl

pub tested : (b : Bool) (path : Path) → IsTrue b ↔ IsPackagePath path → b ≡ is_package_path path
tested b path is = by_both b (is_package_path path) (λ e. path_tested path (is.0 e)) (λ e. is.1 (package_path path e))
