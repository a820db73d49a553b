use Rattle.vk_version.proofs.ApartLemmas.{dates_related, dates_by_port}
use Rattle.vk_version.proofs.SameTextLemmas.{same_dates}
use Rattle.vk_version.proofs.laws.dates_together.Goals as goal

pub returns : goal.returns
returns c =
    record {
      related =
          dates_related;
      ports =
          dates_by_port;
      texts =
          λ v w iv iw both days later. same_dates v w iv iw both.first both.second days later;
    }
