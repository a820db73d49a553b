use Rattle.std.proofs.Common.{refl}
use Rattle.vk_base.specs.Names.{word_rule}
use Rattle.vk_base.proofs.NameLemmas.{rule_from_no_fault}
use Rattle.vk_base.proofs.NamePartLemmas.{name_part}
use Rattle.vk_opening.proofs.projects.triplet_file.Goals as goal

pub returns-clause-part : goal.returns-clause-part
returns-clause-part c =
    rw (c.in_ok-push_str.ensures.ok, c.in_ok-file.ensures, c.as_str.ensures.text)
    (name_part word_rule c.args.name.now _ (rule_from_no_fault word_rule _ c.as_str.ensures.name) refl)
