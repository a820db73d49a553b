use Rattle.std.proofs.Common.{refl}
use Rattle.vk_base.specs.Names.{port_rule}
use Rattle.vk_base.proofs.NameLemmas.{rule_from_no_fault}
use Rattle.vk_base.proofs.NamePartLemmas.{name_part}
use Rattle.vk_registry.proofs.paths.table_name.Goals as goal

pub returns-clause-part : goal.returns-clause-part
returns-clause-part c =
    rw (c.in_ok-push_str.ensures.ok, c.in_ok-name.ensures, c.as_str.ensures.text)
    (name_part port_rule c.args.port.now _ (rule_from_no_fault port_rule _ c.as_str.ensures.name) refl)
