use Rattle.std.proofs.Common.{◌∙◌, [], ap}
use Rattle.std.specs.List.{list_all}
use Rattle.vk_catalogue.specs.PageViews.{row_view}
use Rattle.vk_catalogue.specs.SoundPages.{distinct_after, asks_in, is_row_right}
use Rattle.vk_catalogue.proofs.SoundLemmas.{sound_by}
use Rattle.vk_catalogue.proofs.pages.Page.is_sound.Goals as goal

pub returns : goal.returns
returns c =
    let distinct = c.in_ok-distinct.ensures ∙ ap (λ rows. distinct_after [] (asks_in rows)) c.as_slice.ensures in
    let rows = c.are_rows_right-rows.ensures ∙ ap (list_all (λ r. is_row_right (row_view r))) c.as_slice-2.ensures in
    sound_by c.args.self.now c.in_ok-distinct.distinct c.is_given_right-given.result c.are_rows_right-rows.result distinct c.is_given_right-given.ensures rows
