use Rattle.std.proofs.Common.{refl}
use Rattle.vk_forms.specs.Choices.{either_plain}
use Rattle.vk_entry.specs.ContentViews.{content_view}
use Rattle.vk_entry.proofs.ReadLemmas.{some_bytes, no_line_there}
use Rattle.vk_entry.proofs.reading.lacking.Goals as goal

pub returns : goal.returns
returns c = (
  some_bytes c.args.last.now c.is_empty.result c.is_empty.ensures c.if-is_empty.false,
  no_line_there (either_plain (λ u. u) content_view) c.args.last.now c.in_ok-line.line c.is_some.result c.in_ok-line.ensures c.is_some.ensures c.if-is_some.false,
  refl,
)
