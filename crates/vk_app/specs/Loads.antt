-- The plan of a load, and what is shown of it.
use Rattle.std.specs.Prelude.{◌++◌, ℕ, List, length, Ok, codes, decimal}
use Rattle.hex.specs.Hex.{encode_lower}
use Rattle.sha2.specs.Sha256.{sha256}
use Rattle.vk_resolution.specs.Outcomes.{planned, refused}
use Rattle.vk_resolution.specs.Planning.{Item}
use Rattle.vk_resolution.specs.Reasons.{Reason}
use Rattle.vk_report.specs.Reports.{whole_report}
use Rattle.vk_app.specs.Resolutions.{Resolution, early, resolved, too_many}
use Rattle.vk_app.specs.Shown.{Shown, printed, shown_for}

-- a size, and how many items and facts a plan has
unfoldable pub counts : ℕ → ℕ → ℕ → List ℕ
counts size items facts = codes "self-load " ++ decimal size ++ codes "\nplanned " ++ decimal items ++ codes "\nfacts " ++ decimal facts ++ codes "\n"

-- the same, and the digest of its report
abbrev pub figures : ℕ → ℕ → ℕ → List ℕ → List ℕ
figures size items facts digest = counts size items facts ++ codes "sha256 " ++ digest ++ codes "\n"

-- those of a plan; the digest is the SHA-256 (FIPS 180-4), in hexadecimal digits
abbrev pub load_lines : ℕ → List Item → List Reason → List ℕ
load_lines size items reasons = figures size (length items) (length reasons) (encode_lower (sha256 (whole_report (Ok (planned items reasons)))))

-- what is shown of a load that comes to this: where there is no plan, what is shown of any project
abbrev pub load_shown : ℕ → Resolution → Shown
load_shown size (early e) = shown_for (early e)
load_shown size (resolved (planned items reasons)) = printed 0 (load_lines size items reasons)
load_shown size (resolved (refused lines reasons)) = shown_for (resolved (refused lines reasons))
load_shown size (too_many n) = shown_for (too_many n)
