use Rattle.vk_spec.proofs.FrontLemmas.{strip_is}
use Rattle.vk_registry.proofs.folders.after.Goals as goal

pub returns : goal.returns
returns c =
    strip_is c.args.front.now c.args.text.now c.strip_prefix.result c.strip_prefix.ensures.cases
