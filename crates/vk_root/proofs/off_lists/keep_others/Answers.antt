use Rattle.std.proofs.Common.{not, rules}
use Rattle.std.proofs.lemmas.Fn.{filter_same}
use Rattle.vk_root.specs.Offs.{has_instance}
use Rattle.vk_root.proofs.off_lists.keep_others.Goals as goal

pub returns : goal.returns
returns c = filter_same _ (λ i. not (has_instance c.args.wanted.now.keys i)) _ (λ x b f' k. search rules) _ _ c.retain.ensures.filtered
