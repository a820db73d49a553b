use Rattle.vk_base.specs.Names.{port_rule}
use Rattle.vk_base.proofs.NameLemmas.{rule_from_no_fault}
use Rattle.vk_base.proofs.NamePartLemmas.{name_is_part}
use Rattle.vk_registry.proofs.paths.port_folder.Goals as goal

pub child-requires : goal.child-requires
child-requires c = rw (c.as_str.ensures.text) (name_is_part port_rule c.args.port.now (rule_from_no_fault port_rule _ c.as_str.ensures.name))
