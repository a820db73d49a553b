-- When the tests say that a port is pinned.
use Rattle.std.proofs.Common.{◌≡◌, ℕ, true, List, [], ◌∷◌, ◌++◌, ◌-◌, ◌+◌, length, take, drop, inl, inr, refl, ap, sym, ◌∙◌, arith}
use Rattle.std.specs.Prelude.{Result, Ok, Err, bytes_eq, codes}
use Rattle.std.proofs.lemmas.List.{take-append-drop, length-append}
use Rattle.std.proofs.Math.Seq.{drop-append_seam}
use Rattle.std.proofs.lemmas.Slice.Eq.{bytes_eq-Decides}
use Rattle.vk_spec.specs.Paths.{Path}
use Rattle.vk_spec.specs.Manifests.{Override}
use Rattle.vk_spec.specs.Pages.{Wrong, no_registry, no_baseline, bad_file, disagrees, Given, overlay, override, baseline, has_override, is_overlay_file, is_pinned_by}
use Rattle.vk_spec.specs.Settings.{Setting}
use Rattle.vk_resolution.specs.Givens.{Pages, is_pinned}
use Rattle.vk_resolution.specs.PinLaws.{IsInOverlay, IsPinned, by_overlay, by_override, by_odd_overlay, by_bad_overlay, by_failed_override, OverridesMean, OverlayFilesMean, PinnedMeans}
use Rattle.vk_resolution.proofs.Members.{any_contains, contains_any, or_true, or_left, or_right}
use Rattle.vk_resolution.proofs.Orders.{same_key-Decides}

pub overrides_mean : OverridesMean
overrides_mean overrides p = (
  (λ e. (let r = any_contains (λ (o : Override). bytes_eq o.name p) overrides e in (r.0, r.1, (bytes_eq-Decides r.0.name p).0 r.2))),
  (λ has. contains_any (λ (o : Override). bytes_eq o.name p) overrides has.0 has.1 ((bytes_eq-Decides has.0.name p).1 has.2)),
)

module _ (p : List ℕ) (path : Path) where
  abbrev end : Path
  end = p ∷ codes "vcpkg.json" ∷ []

  file_is : is_overlay_file p path ≡ true → IsInOverlay p path
  file_is e =
      let n : ℕ = length path - 2 in
      let last : drop n path ≡ end = (same_key-Decides (drop n path) end).0 e in
      (take n path, sym (take-append-drop n path) ∙ ap (λ l. take n path ++ l) last)

  is_file : IsInOverlay p path → is_overlay_file p path ≡ true
  is_file inside =
      let long : length path ≡ length inside.0 + 2 = ap length inside.1 ∙ length-append inside.0 end in
      let n : length path - 2 ≡ length inside.0 = omega arith in
      let last : drop (length path - 2) path ≡ end = ap (λ k. drop k path) n ∙ ap (drop (length inside.0)) inside.1 ∙ drop-append_seam inside.0 end in
      (same_key-Decides (drop (length path - 2) path) end).1 last

pub overlay_files_mean : OverlayFilesMean
overlay_files_mean p path = (file_is p path, is_file p path)

module _ (s : Setting) (pages : Pages) (p : List ℕ) where
  pinned_is : (given : Result Given Wrong) → (pages p).given ≡ given → is_pinned_by s.root.overrides p given ≡ true → IsPinned s pages p
  pinned_is (Ok (overlay v)) is e = by_overlay v is
  pinned_is (Ok (override a)) is e = by_override a is
  pinned_is (Ok (baseline a)) is e = (cc)
  pinned_is (Err (disagrees path field row manifest)) is e = by_odd_overlay path field row manifest is
  pinned_is (Err (bad_file path place word)) is e =
      elim (or_true (is_overlay_file p path) (has_override s.root.overrides p) e) [
        | inl file ↦ by_bad_overlay path place word is ((overlay_files_mean p path).0 file)
        | inr has ↦ by_failed_override (bad_file path place word) is ((overrides_mean s.root.overrides p).0 has)
      ]
  pinned_is (Err no_registry) is e = by_failed_override no_registry is ((overrides_mean s.root.overrides p).0 e)
  pinned_is (Err no_baseline) is e = by_failed_override no_baseline is ((overrides_mean s.root.overrides p).0 e)

  failed_is : (wrong : Wrong) → has_override s.root.overrides p ≡ true → is_pinned_by s.root.overrides p (Err wrong) ≡ true
  failed_is no_registry e = e
  failed_is no_baseline e = e
  failed_is (bad_file path place word) e = or_right (is_overlay_file p path) (has_override s.root.overrides p) e
  failed_is (disagrees path field row manifest) e = refl

  is_pinned_is : IsPinned s pages p → is_pinned s pages p ≡ true
  is_pinned_is (by_overlay v is) = ap (is_pinned_by s.root.overrides p) is
  is_pinned_is (by_override a is) = ap (is_pinned_by s.root.overrides p) is
  is_pinned_is (by_odd_overlay path field row manifest is) = ap (is_pinned_by s.root.overrides p) is
  is_pinned_is (by_bad_overlay path place word is inside) =
      ap (is_pinned_by s.root.overrides p) is ∙ or_left (is_overlay_file p path) (has_override s.root.overrides p) ((overlay_files_mean p path).1 inside)
  is_pinned_is (by_failed_override wrong is has) = ap (is_pinned_by s.root.overrides p) is ∙ failed_is wrong ((overrides_mean s.root.overrides p).1 has)

pub pinned_means : PinnedMeans
pinned_means s pages p = (pinned_is s pages p (pages p).given refl, is_pinned_is s pages p)
