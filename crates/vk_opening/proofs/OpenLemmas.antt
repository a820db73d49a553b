-- What was read of a project is what is answered.
use Rattle.std.proofs.Common.{◌≡◌, ℕ, List, map, refl, sym}
use Rattle.std.specs.Prelude.{IfOk, Option, Result, Ok, Err}
use Rattle.vk_spec.specs.States.{OnlyRead}
use Rattle.vk_files.specs.Kept.{Held, paths_of}
use Rattle.vk_files.specs.Finds.{ReadsFrom}
use Rattle.vk_files.proofs.FindLemmas.{learned_so}
use Rattle.vk_base.specs.declared.stops.Stop.{Stop}
use Rattle.vk_model.specs.Views.{override_view}
use Rattle.vk_model.specs.declared.projects.Project.{Project}
use Rattle.vk_model.specs.declared.projects.Store.{Store}
use Rattle.vk_config.specs.Configs.{Config}
use Rattle.vk_opening.specs.Asked.{paths_with}
use Rattle.vk_opening.specs.Openings.{opening_with, opened_with}
use Rattle.vk_model.specs.EarlyViews.{early_view}
use Rattle.vk_opening.specs.OpeningViews.{opening_found, opening_view, Answers}
use Rattle.vk_base.specs.declared.instances.Instance.{Instance}
use Rattle.vk_base.specs.declared.memory.Memory.{Memory}
use Rattle.vk_base.specs.Stops.{was_out}
use Rattle.vk_spec.specs.Settings as plain
use Rattle.vk_resolution.specs.Keys.{IsListing}
use Rattle.vk_resolution.specs.Planning.{instance_key}
use Rattle.vk_resolution.specs.Settings.{IsOff}
use Rattle.vk_resolution.specs.RootLaws.{with_off}
use Rattle.vk_base.specs.FeatureViews.{feature_view}
use Rattle.vk_triplet.specs.Meanings.{meaning_of}
use Rattle.vk_model.specs.Views.{manifest_view}
use Rattle.vk_model.specs.SettingViews.{setting_view, instance_view}
use Rattle.vk_root.specs.RootSettings.{setting_of}
use Rattle.vk_opening.specs.Opened.{Opens, ListsOwnOff}
use Rattle.vk_opening.specs.Views.{triplets_view, overlay_view}
use Rattle.vk_model.specs.declared.settings.Setting.{Setting}
use Rattle.vk_opening.specs.declared.opens.Opened.{Opened}
use Rattle.vk_base.specs.declared.stops.Outage.{Outage}
use Rattle.vk_base.specs.declared.stops.Outage.TheVariants as outage
use Rattle.std.specs.Result.{IsErrAnd}
use Rattle.std.proofs.lemmas.Result.{err_from_is_err_and}
use Rattle.vk_model.specs.declared.earlies.Early.{Early}
use Rattle.vk_opening.specs.declared.opens.Opening.{Opening}
use Rattle.vk_opening.specs.declared.opens.Found.{Found}
use Rattle.vk_model.specs.declared.manifests.Manifest.{Manifest}

-- what was found is put together
pub found_is : (project : Project) (root : Manifest) (config : Config) (found : Found)
    → found.own.folder ≡ project.folder → found.own.overrides ≡ map override_view root.overrides
    → found.own.features ≡ project.features
    → opening_with project (manifest_view root) config (triplets_view found.triplets) (map overlay_view found.overlays)
    ≡ opening_found project (manifest_view root) config found
found_is project root config found folder overrides features = rw (folder, overrides, features) refl

-- the off list that is made of a setting is its own
pub lists_own : (setting : Setting) (off : Result (List Instance) Memory)
    → IfOk off (λ l. (o : List plain.Instance) (most : ℕ) → IsListing instance_key (IsOff (setting_of (manifest_view setting.root) (meaning_of setting.target) (meaning_of setting.host) (map feature_view setting.features) setting.defaults o most)) (map instance_view l))
    → IfOk off (λ l. ListsOwnOff (with_off (setting_view setting) (map instance_view l)))
lists_own setting (Ok l) lists = lists (map instance_view l) setting.max_facts
lists_own setting (Err m) lists = tt

-- memory ran out at the last
pub answers_lacking : {opening : Opening} {answer : Result Opened Outage} {m : Memory} → IsErrAnd answer (λ e. e ≡ outage.Memory m) → Answers (Ok opening) answer
answers_lacking {answer = answer} is =
    let p = err_from_is_err_and answer is in
    rw (p.1, p.2) (record { failed = refl; tells = λ given gives. tt })

-- what was read is answered
pub opens_with : {project : Project} {store : Option Store} {read : Result Opening (Stop Early)} {answer : Result Opened Outage} {a b : Held}
    → ReadsFrom early_view opening_view read (opened_with project store) (paths_with project store) a b → Answers read answer → Opens project store answer a b
opens_with {project = project} {store = store} r answers =
    record { reads = learned_so (sym answers.failed) (λ f known. (known, λ p has. has)) (λ f known after gives. (after, answers.tells (opened_with project store f) gives)) r.reads }

-- what a caller has of it: nothing but reading was done
pub only_read : {project : Project} {store : Option Store} {answer : Result Opened Outage} {before after : Held} → Opens project store answer before after → OnlyRead (was_out answer) before.tree after.tree
only_read o = record { asked = paths_of o.reads.once.more; looks = o.reads.once.looks }
