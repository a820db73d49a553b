-- What contracts see of what is given of a port, or wrong with it: plain data.
use Rattle.std.specs.Prelude.{Result, Ok, Err}
use Rattle.std.specs.declared.rc.Rc.{Rc}
use Rattle.vk_spec.specs.Pages as plain
use Rattle.vk_spec.specs.Manifests as manifests
use Rattle.vk_spec.specs.Conditions.{Condition}
use Rattle.vk_json.specs.Words.{word_of}
use Rattle.vk_version.specs.AskViews.{ask_view}
use Rattle.vk_model.specs.Views.{manifest_view}
use Rattle.vk_model.specs.declared.manifests.Manifest.{Manifest}
use Rattle.vk_model.specs.declared.wrongs.Field.{Field}
use Rattle.vk_model.specs.declared.wrongs.Field.TheVariants as field
use Rattle.vk_model.specs.declared.wrongs.Wrong.{Wrong}
use Rattle.vk_model.specs.declared.wrongs.Wrong.TheVariants as wrong
use Rattle.vk_model.specs.declared.wrongs.Given.{Given}
use Rattle.vk_model.specs.declared.wrongs.Given.TheVariants as given

abbrev pub field_view : Field → plain.Field
field_view field.Name = plain.name
field_view field.Class = plain.class
field_view field.Text = plain.text
field_view field.Port = plain.port

abbrev pub wrong_view : Wrong → plain.Wrong
wrong_view wrong.NoRegistry = plain.no_registry
wrong_view wrong.NoBaseline = plain.no_baseline
wrong_view (wrong.BadFile path place why) = plain.bad_file path place (word_of why)
wrong_view (wrong.Disagrees path f table manifest) =
    plain.disagrees path (field_view f) table manifest

abbrev pub given_view : Given → plain.Given
given_view (given.Overlay v) = plain.overlay v
given_view (given.Override a) = plain.override (ask_view a)
given_view (given.Baseline a) = plain.baseline (ask_view a)

-- a value as it is seen, or what is wrong
abbrev pub or_wrong : {A B : Type 0} → (A → B) → Result A Wrong → Result B plain.Wrong
or_wrong view (Ok x) = Ok (view x)
or_wrong view (Err e) = Err (wrong_view e)

abbrev pub given_said : Result Given Wrong → Result plain.Given plain.Wrong
given_said = or_wrong given_view

abbrev pub manifest_said : {Z : Type 0}
    → Result (Rc Manifest Z) Wrong → Result (manifests.Manifest Condition) plain.Wrong
manifest_said = or_wrong (λ m. manifest_view m.value)
