use Rattle.std.proofs.Common.{◌++◌, map, ◌∙◌, ap}
use Rattle.vk_version.specs.Schemes as the
use Rattle.vk_version.specs.Texts.{number_of}
use Rattle.vk_version.specs.Steps.{parts_in}
use Rattle.vk_version.proofs.DateLemmas.{later_numbered, date_reads, date_numbers}
use Rattle.vk_version.proofs.FaultLemmas.{fits_if-Ok}
use Rattle.vk_version.proofs.readers.read_date.Goals as goal

pub push_later-requires : goal.push_later-requires
push_later-requires c = later_numbered _ _ _ c.in_ok-day.ensures.ok

pub with_parts-requires : goal.with_parts-requires
with_parts-requires c =
    let date = c.in_ok-day.ensures.ok in
    let fit = fits_if-Ok _ c.in_ok-push_later.ensures.fits in
    record {
      version = record { scheme = the.date; reads = date_reads _ _ _ c.args.port date fit };
      numbers = c.in_ok-push_later.ensures.ok
          ∙ ap (λ l. l ++ map number_of (parts_in c.in_ok-day.later)) c.in_ok-numbers.ensures
          ∙ date_numbers _ _ _ date;
      pre = c.empty.ensures;
    }
