use Rattle.std.proofs.Common.{◌∙◌, ◌∷◌, [], ap, map}
use Rattle.std.specs.Prelude.{bytes_eq}
use Rattle.std.proofs.lemmas.List.{map-append}
use Rattle.indexmap.proofs.CallerLemmas.{insert_entry-new}
use Rattle.vk_choices.specs.ChoiceViews.{choice_view}
use Rattle.vk_choices.specs.declared.chosen.Choice.{Choice}
use Rattle.vk_choices.proofs.settling.put_choice.Goals as goal

pub returns : goal.returns
returns c =
    let choice : Choice = record { version = c.args.floor.version; line = c.args.floor.line } in
    ap (map choice_view) (c.in_ok-insert.ensures.entries ∙ insert_entry-new bytes_eq c.args.choices.now.ports c.args.port choice c.requires)
    ∙ map-append choice_view c.args.choices.now.ports.entries ((c.args.port, choice) ∷ [])
