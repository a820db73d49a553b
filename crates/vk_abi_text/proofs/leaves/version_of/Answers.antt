use Rattle.vk_forms.proofs.Found.{if_ok_then}
use Rattle.vk_version.specs.Views.{class_view, scheme_view}
use Rattle.vk_abi_text.proofs.FormLemmas.{version_read}
use Rattle.vk_abi_text.proofs.leaves.version_of.Goals as goal

pub returns : goal.returns
returns c =
    if_ok_then c.found.result
    (version_read c.semantic_is_relaxed.ensures (class_view c.args.class) c.args.text.now c.args.port (scheme_view c.scheme_of.result) c.scheme_of.ensures c.read.result c.read.ensures)
    c.found.ensures
