use Rattle.std.proofs.Common.{◌≡◌, ◌++◌, ap, ◌∙◌}
use Rattle.std.specs.Prelude.{flat_map}
use Rattle.vk_forms.proofs.Found.{if_ok_then}
use Rattle.vk_resolution.specs.Lines.{ended}
use Rattle.vk_abi_text.specs.Lines.{heading, texts_of}
use Rattle.vk_abi_text.specs.Views.{source_view}
use Rattle.vk_abi_text.proofs.PutLemmas.{put_lines}
use Rattle.vk_abi_text.proofs.writing.abi_text.Goals as goal

pub returns-clause-text : goal.returns-clause-text
returns-clause-text c =
    let texts : c.put_files.new.lines.keys ≡ texts_of (source_view c.args.source.now) =
    put_lines (source_view c.args.source.now) c.new-lines.result.keys c.put_singles.new.lines.keys c.put_deps.new.lines.keys c.put_features.new.lines.keys c.put_files.new.lines.keys
    c.new-lines.ensures.empty c.in_ok-put_singles.ensures.lines c.in_ok-put_deps.ensures c.in_ok-put_features.ensures.lines c.in_ok-put_files.ensures.lines in
    if_ok_then c.text_of.result (λ text is. is ∙ ap (λ l. heading ++ flat_map ended l) texts) c.text_of.ensures
