use Rattle.std.proofs.Common.{◌≡◌, append_assoc, map, ap, ◌∙◌}
use Rattle.std.specs.Prelude.{string_bytes, codes}
use Rattle.std.specs.List.{join_by, range_with_len}
use Rattle.vk_gen.specs.Json.{with_commas}
use Rattle.vk_gen.specs.Loads.{baseline_entry, baseline_text}
use Rattle.vk_gen.proofs.ListTexts.{joined_texts}
use Rattle.vk_gen.proofs.texts.baseline_text.Goals as goal

pub returns : goal.returns
unfolding baseline_text
returns c =
    let joined : string_bytes c.in_ok-entries.entries ≡ with_commas (map baseline_entry (range_with_len 0 c.args.size))
    = c.in_ok-entries.ensures.ok ∙ ap (join_by string_bytes (codes ",")) c.deref.ensures.value ∙ joined_texts string_bytes (codes ",") c.in_ok-baseline_entries.field-0.items ∙ ap with_commas c.in_ok-baseline_entries.ensures in
    c.from_string.ensures ∙ (rw joined at c.in_ok-format.ensures.ok) ∙ simp append_assoc
