-- The manifests that are kept: one found again, and one more.
use Rattle.std.proofs.Common.{◌≡◌, Bool, true, false, List, [], ◌∷◌, refl, subst}
use Rattle.std.specs.Prelude.{Some, bytes_eq, if◌then◌else◌}
use Rattle.std.proofs.lemmas.Slice.Eq.{bytes_eq-Decides}
use Rattle.indexmap.specs.IndexMap.{insert_entry}
use Rattle.vk_spec.specs.Files.{Files}
use Rattle.vk_version.specs.AskViews.{ask_view}
use Rattle.vk_spec.specs.Versions.{same_ask}
use Rattle.vk_spec.proofs.VersionLemmas.{both_decide, asks_equal, ask_itself}
use Rattle.vk_files.specs.Notes.{AreRight}
use Rattle.vk_files.proofs.NoteLemmas.{right_found}
use Rattle.vk_files.proofs.NotedLemmas.{noted}
use Rattle.vk_opening.specs.Layouts.{Layout}
use Rattle.vk_world.specs.PortAsks.{same_asked}
use Rattle.vk_world.specs.ManifestNotes.{FoundManifest, manifests_in, manifest_noted, IsManifestOf, IsNoteOf, AreManifests}
use Rattle.vk_world.specs.declared.manifests.Manifests.{Manifests}
use Rattle.vk_world.specs.declared.port_asks.PortAsk.{PortAsk}

pub key_is : (a b : PortAsk) → same_asked a b ≡ true → a ≡ b
key_is a b e =
    let one = ask_view a.ask in
    let other = ask_view b.ask in
    let p = (both_decide (bytes_eq a.port b.port) (same_ask one other) (bytes_eq-Decides a.port b.port) (asks_equal one other, λ q. subst (λ x. same_ask one x ≡ true) q (ask_itself one))).0 e in
    λ i. record { port = p.0 i; ask = record { text = (p.1 i).text; port = (p.1 i).port } }

-- what is kept for a port and an ask is right of them
pub note_right : (layout : Layout) (files : Files) (key : PortAsk) (manifests : Manifests) (found : FoundManifest) → AreManifests layout manifests files → manifest_noted key manifests ≡ Some found → IsManifestOf layout files key.port (ask_view key.ask) found
note_right layout files key manifests found right noted = right_found (IsNoteOf layout files) same_asked key_is (manifests_in manifests) key found right noted

-- with one note more that is right, or one in the place of another, all are
pub right_put : {K V W : Type 0} (P : K → W → Type 0) (view : V → W) (eq : K → K → Bool) → ((x y : K) → eq x y ≡ true → x ≡ y)
    → (es : List (K × V)) (k : K) (v : V) → AreRight P (noted view es) → P k (view v) → AreRight P (noted view (insert_entry eq es k v))
right_put P view eq same [] k v right new = (new, tt)
right_put P view eq same (e ∷ es) k v right new = by (eq k e.0) refl (right_put P view eq same es k v right.1 new)
  where
    by : (b : Bool) → eq k e.0 ≡ b → AreRight P (noted view (insert_entry eq es k v)) → AreRight P (noted view (if b then (e.0, v) ∷ es else e ∷ insert_entry eq es k v))
    by true is rest = (subst (λ key. P key (view v)) (same k e.0 is) new, right.1)
    by false is rest = (right.0, rest)
