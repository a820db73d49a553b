-- What facts are compared by, and what is fed to a hash.
use Rattle.std.specs.Prelude.{[], ◌∷◌, ◌++◌}
use Rattle.std.specs.Hash as fed
use Rattle.vk_base.specs.ShortTexts.{text_fed}
use Rattle.vk_resolution.specs.Keys.{Key}
use Rattle.vk_resolution.specs.Settings.{root, inst}
use Rattle.vk_resolution.specs.Asking as plain
use Rattle.vk_resolution.specs.Asking.{fact_key}
use Rattle.vk_base.specs.FeatureViews.{feature_view}
use Rattle.vk_base.specs.declared.names.PortName.{PortName}
use Rattle.vk_base.specs.declared.names.TripletName.{TripletName}
use Rattle.vk_base.specs.declared.features.FeatureName.{FeatureName}
use Rattle.vk_base.specs.declared.instances.Instance.{Instance}
use Rattle.vk_version.specs.declared.asks.Ask.{Ask}
use Rattle.vk_model.specs.declared.facts.Fact.{Fact}
use Rattle.vk_model.specs.FactViews.{fact_view}

abbrev pub key_of : Fact → Key
key_of x = fact_key (fact_view x)

abbrev pub instance_key_of : Instance → Key
instance_key_of i = i.port ∷ i.triplet ∷ []

abbrev pub ask_key : Ask → Key
ask_key a = a.text ∷ (a.port ∷ []) ∷ []

abbrev pub floor_key : PortName → Ask → Key
floor_key p a = p ∷ ask_key a

abbrev pub need_key : Instance → FeatureName → Key
need_key i f = i.port ∷ i.triplet ∷ feature_view f ∷ []

abbrev pub root_key : TripletName → FeatureName → Key
root_key t f = t ∷ feature_view f ∷ []

abbrev pub looked_key : FeatureName → Ask → Key
looked_key f a = feature_view f ∷ ask_key a

abbrev pub visit_key : Instance → FeatureName → Ask → Key
visit_key i f a = i.port ∷ i.triplet ∷ looked_key f a

-- what is fed to a hash: all but an instance's triplet, which seldom tells facts apart
abbrev pub plain_hash : plain.Fact → fed.HashWrites
plain_hash (plain.need (root t) f) = text_fed t ++ fed.str f
plain_hash (plain.need (inst i) f) = text_fed i.port ++ fed.str f
plain_hash (plain.floor p a) = text_fed p ++ text_fed a.text ++ fed.u32 a.port
plain_hash (plain.visit i f a) = text_fed i.port ++ fed.str f ++ text_fed a.text ++ fed.u32 a.port

abbrev pub fact_hash : Fact → fed.HashWrites
fact_hash x = plain_hash (fact_view x)
