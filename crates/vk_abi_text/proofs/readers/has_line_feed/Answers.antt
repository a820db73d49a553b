use Rattle.std.proofs.Common.{subst}
use Rattle.vk_base.specs.Paths.{Lacks}
use Rattle.vk_forms.proofs.PairForms.{lacks_none}
use Rattle.vk_abi_text.proofs.readers.has_line_feed.Goals as goal

pub returns-in-Some-clause-has : goal.returns-in-Some-clause-has
returns-in-Some-clause-has c true_is lacks = lacks_none 10 _ _ (subst (Lacks 10) c.in-Some.ensures.0 lacks)
