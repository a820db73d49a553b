-- What contracts see of the answers of a catalogue: plain data.
use Rattle.std.specs.Prelude.{Option, Result, Ok, Err}
use Rattle.vk_spec.specs.Calls.{Answer, Fault, fails, lacks}
use Rattle.vk_spec.specs.Pages as plain
use Rattle.vk_spec.specs.Versions as versions
use Rattle.vk_spec.specs.Manifests as manifests
use Rattle.vk_spec.specs.Conditions.{Condition}
use Rattle.vk_model.specs.declared.manifests.Manifest.{Manifest}
use Rattle.vk_version.specs.declared.versions.Version.{Version}
use Rattle.std.specs.declared.rc.Rc.{Rc}
use Rattle.vk_base.specs.declared.stops.Outage.{Outage}
use Rattle.vk_base.specs.declared.stops.Outage.TheVariants as stop
use Rattle.vk_model.specs.declared.wrongs.Wrong.{Wrong}
use Rattle.vk_model.specs.declared.wrongs.Given.{Given}
pub use Rattle.vk_model.specs.WrongViews.{field_view, wrong_view, given_view, or_wrong, given_said, manifest_said}

-- why there was no answer
abbrev pub stop_view : Outage → Fault
stop_view stop.Failed = fails
stop_view (stop.Memory m) = lacks

-- an answer as it is seen
abbrev pub seen_by : {A B : Type 0} → (A → B) → Result A Outage → Answer B
seen_by view (Ok x) = Ok (view x)
seen_by view (Err e) = Err (stop_view e)

abbrev pub given_answer : Result (Result Given Wrong) Outage → Answer (Result plain.Given plain.Wrong)
given_answer = seen_by given_said

abbrev pub version_answer : Result (Option Version) Outage → Answer (Option versions.Version)
version_answer = seen_by (λ v. v)

abbrev pub manifest_answer : {Z : Type 0} → Result (Result (Rc Manifest Z) Wrong) Outage → Answer (Result (manifests.Manifest Condition) plain.Wrong)
manifest_answer = seen_by manifest_said
