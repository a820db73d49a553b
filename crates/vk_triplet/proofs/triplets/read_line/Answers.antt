use Rattle.std.proofs.Common.{◌≡◌, Some, ◌∙◌, sym, ap}
use Rattle.vk_triplet.specs.Views.{command_view}
use Rattle.vk_triplet.proofs.TextLemmas.{said_text}
use Rattle.vk_triplet.proofs.triplets.read_line.Goals as goal

pub variable_of-requires-clause-name : goal.variable_of-requires-clause-name
variable_of-requires-clause-name c =
    let is : c.said_by.result ≡ Some (Some c.in-Some-said.command) = c.in-Some.is ∙ ap Some c.in-Some-said.is in
    let said = rw (is, c.without_return.ensures, c.as_bytes.ensures.value) at c.said_by.ensures in
    (said_text c.args.line.now (command_view c.in-Some-said.command) c.utf8.line (sym said)).0

pub variable_of-requires-clause-value : goal.variable_of-requires-clause-value
variable_of-requires-clause-value c =
    let is : c.said_by.result ≡ Some (Some c.in-Some-said.command) = c.in-Some.is ∙ ap Some c.in-Some-said.is in
    let said = rw (is, c.without_return.ensures, c.as_bytes.ensures.value) at c.said_by.ensures in
    (said_text c.args.line.now (command_view c.in-Some-said.command) c.utf8.line (sym said)).1
