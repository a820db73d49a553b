-- What contracts see of facts, causes and reasons: the plain ones of resolution.
use Rattle.std.specs.Prelude.{ℕ, List, map}
use Rattle.vk_base.specs.FeatureViews.{feature_view}
use Rattle.vk_version.specs.AskViews.{ask_view}
use Rattle.vk_resolution.specs.Settings as plain_who
use Rattle.vk_resolution.specs.Asking as plain
use Rattle.vk_resolution.specs.Consequences as plain_cause
use Rattle.vk_resolution.specs.Reasons as plain_reason
use Rattle.vk_model.specs.SettingViews.{instance_view}
use Rattle.vk_model.specs.declared.facts.Who.{Who}
use Rattle.vk_model.specs.declared.facts.Who.TheVariants as who
use Rattle.vk_model.specs.declared.facts.Fact.{Fact}
use Rattle.vk_model.specs.declared.facts.Fact.TheVariants as fact
use Rattle.vk_model.specs.declared.reasons.Cause.{Cause}
use Rattle.vk_model.specs.declared.reasons.Cause.TheVariants as cause
use Rattle.vk_model.specs.declared.reasons.Reason.{Reason}

abbrev pub who_view : Who → plain_who.Who
who_view (who.Root t) = plain_who.root t
who_view (who.Inst i) = plain_who.inst (instance_view i)

abbrev pub fact_view : Fact → plain.Fact
fact_view (fact.Need w f) = plain.need (who_view w) (feature_view f)
fact_view (fact.Floor p a) = plain.floor p (ask_view a)
fact_view (fact.Visit i f a) = plain.visit (instance_view i) (feature_view f) (ask_view a)

abbrev pub cause_view : Cause → plain_cause.Cause ℕ
cause_view cause.Root = plain_cause.by_root
cause_view (cause.Baseline n) = plain_cause.by_baseline n
cause_view (cause.Override n) = plain_cause.by_override n
cause_view (cause.Overlay n) = plain_cause.by_overlay n
cause_view (cause.Minimum n) = plain_cause.by_minimum n
cause_view (cause.From n) = plain_cause.by_one n
cause_view (cause.Both n m) = plain_cause.by_two n m

abbrev pub reason_view : Reason → plain_reason.Reason
reason_view r = record { fact = fact_view r.fact; cause = cause_view r.cause }

abbrev pub reasons_view : List Reason → List plain_reason.Reason
reasons_view = map reason_view
