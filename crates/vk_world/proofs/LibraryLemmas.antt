-- What a world learns of a port, by what was found for it.
use Rattle.std.proofs.Common.{◌≡◌, ℕ, false, List, refl, ap, sym, subst}
use Rattle.std.specs.Prelude.{Some, Result, Ok, IfOk, bytes_eq}
use Rattle.std.specs.List.{Contains}
use Rattle.std.proofs.lemmas.Result.{IfOk-weaker}
use Rattle.std.proofs.lemmas.Slice.Eq.{bytes_eq-Decides}
use Rattle.std.proofs.lemmas.List.Elements.{Contains-append_right}
use Rattle.vk_spec.specs.Files.{Files}
use Rattle.vk_spec.specs.Versions.{Ask}
use Rattle.vk_base.specs.Stops.{was_out}
use Rattle.vk_catalogue.specs.Views.{manifest_said}
use Rattle.vk_base.specs.declared.stops.Outage.{Outage}
use Rattle.vk_model.specs.declared.wrongs.Wrong.{Wrong}
use Rattle.vk_model.specs.declared.manifests.Manifest.{Manifest}
use Rattle.std.specs.declared.rc.Rc.{Rc}
use Rattle.vk_version.specs.AskViews.{ask_view}
use Rattle.vk_files.specs.Kept.{Held}
use Rattle.vk_files.proofs.NoteLemmas.{right_found}
use Rattle.vk_opening.specs.Layouts.{Layout}
use Rattle.vk_pages.specs.Asked.{home_paths, manifest_paths}
use Rattle.vk_files.specs.Finds.{NothingKnown}
use Rattle.vk_pages.specs.Homes.{home_of}
use Rattle.vk_opening.specs.Views.{layout_view}
use Rattle.vk_world.specs.Learning.{Learns, SaysNothing}
use Rattle.vk_world.specs.HomeNotes.{FoundHome, homes_in, home_noted, IsHomeOf}
use Rattle.vk_world.specs.ManifestNotes.{FoundManifest, manifest_noted, IsManifestOf, AreManifests}
use Rattle.vk_world.specs.Libraries.{layout_of, IsRight, Stays, Serves, SaysManifestAt}
use Rattle.vk_world.specs.declared.manifests.Manifests.{Manifests}
use Rattle.vk_world.specs.declared.port_asks.PortAsk.{PortAsk}
use Rattle.vk_world.specs.declared.libraries.Library.{Library}
use Rattle.vk_world.proofs.LearnLemmas.{learns_pure, learns_then, learns_so}
use Rattle.vk_world.proofs.NoteLemmas.{note_right}

pub layout_stays : {before after : Library} → Stays before after → layout_of after ≡ layout_of before
layout_stays s = ap layout_view s.layout

-- the home that was found is that of the files
home_is : {lib mid : Library} (port : List ℕ) (found : FoundHome) (files : Files) → Stays lib mid → home_noted port mid.homes ≡ Some found → IsRight mid files → found ≡ home_of (layout_of lib) port files
home_is {mid = mid} port found files stays noted right =
    subst (λ layout. found ≡ home_of layout port files) (layout_stays stays) (right_found (IsHomeOf (layout_of mid) files) bytes_eq (λ x y e. (bytes_eq-Decides x y).0 e) (homes_in mid.homes) port found right.homes.found noted)

-- what is answered by the home that was found is learned
pub serves_home : {X : Type 0} {lib mid : Library} {place : ℕ} {Says : Files → FoundHome → X → Type 0} {answer : Result X Outage} {port : List ℕ} {a b : Held} (found : FoundHome)
    → Serves (Ok place) (λ f found. SaysNothing f) port lib mid a b → home_noted port mid.homes ≡ Some found → ((f : Files) → IfOk answer (Says f found)) → was_out answer ≡ false → Serves answer Says port lib mid a b
serves_home {Says = Says} {answer = answer} {port = port} found looked noted says calm = record {
  learns = learns_so calm (λ f right. (right, λ p has. has)) (λ f before right nothing. (right, subst (λ home. IfOk answer (Says f home)) (home_is port found f looked.stays noted right) (says f))) looked.learns;
  stays = looked.stays;
}

-- ---- manifests

pub serves_manifest : {Z : Type 0} {lib mid : Library} {place : ℕ} {answer : Result (Result (Rc Manifest Z) Wrong) Outage} {port : List ℕ} {a b c : Held} (ask : Ask) (found : FoundHome)
    → Serves (Ok place) (λ f found. SaysNothing f) port lib mid a b → home_noted port mid.homes ≡ Some found
    → Learns answer (λ f. SaysManifestAt port ask f found) (λ f. manifest_paths found) NothingKnown NothingKnown b c → Serves answer (SaysManifestAt port ask) port lib mid a c
serves_manifest {lib = lib} {answer = answer} {port = port} ask found looked noted read = record {
  learns = learns_then looked.learns (learns_so refl
      (λ f both. (tt, λ p has. Contains-append_right (home_paths (layout_of lib) f port) _ p (subst (λ home. Contains (manifest_paths home) p) (home_is port found f looked.stays noted both.0) has)))
      (λ f both known says. (both.0, subst (λ home. IfOk answer (SaysManifestAt port ask f home)) (home_is port found f looked.stays noted both.0) says)) read);
  stays = looked.stays;
}

-- what was read is kept besides
pub serves_kept : {Z : Type 0} {lib mid : Library} {m : Result (Rc Manifest Z) Wrong} {answer : Result (Result (Rc Manifest Z) Wrong) Outage} {port : List ℕ} {a b : Held} (ask : Ask) (manifests : Manifests)
    → Serves (Ok m) (SaysManifestAt port ask) port lib mid a b → was_out answer ≡ false → IfOk answer (λ x. x ≡ m)
    → ((layout : Layout) (files : Files) → AreManifests layout mid.manifests files → IsManifestOf layout files port ask (manifest_said m) → AreManifests layout manifests files)
    → Serves answer (SaysManifestAt port ask) port lib (record mid { manifests = manifests }) a b
serves_kept {lib = lib} {mid = mid} {m = m} {answer = answer} {port = port} ask manifests read calm is kept = record {
  learns = learns_so calm (λ f right. (right, λ p has. has)) (λ f before right says. (
    record {
      homes = right.homes;
      manifests = kept (layout_of mid) f right.manifests (subst (λ layout. IsManifestOf layout f port ask (manifest_said m)) (sym (layout_stays read.stays)) says);
    },
    IfOk-weaker answer (λ x. x ≡ m) _ (λ x same. subst (SaysManifestAt port ask f (home_of (layout_of lib) port f)) (sym same) says) is,
  )) read.learns;
  stays = record { layout = read.stays.layout; opened = read.stays.opened };
}

-- what was kept is answered again
pub serves_again : {Z : Type 0} {lib : Library} {answer : Result (Result (Rc Manifest Z) Wrong) Outage} {h : Held} (key : PortAsk) (found : FoundManifest)
    → manifest_noted key lib.manifests ≡ Some found → IfOk answer (λ m. manifest_said m ≡ found) → was_out answer ≡ false → Serves answer (SaysManifestAt key.port (ask_view key.ask)) key.port lib lib h h
serves_again {lib = lib} {answer = answer} key found noted told calm = record {
  learns = learns_pure calm (λ f right. (right, IfOk-weaker answer _ _ (λ m same. subst (IsManifestOf (layout_of lib) f key.port (ask_view key.ask)) (sym same) (note_right (layout_of lib) f key lib.manifests found right.manifests noted)) told));
  stays = record { layout = refl; opened = refl };
}
