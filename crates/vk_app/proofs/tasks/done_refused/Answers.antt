use Rattle.std.proofs.Common.{refl}
use Rattle.vk_app.proofs.DoneLemmas.{ends_early}
use Rattle.vk_app.proofs.tasks.done_refused.Goals as goal

pub returns-in-Plan : goal.returns-in-Plan
returns-in-Plan g c = λ earlier distinct. rw (c.refused.ensures.tree, c.into_tree.ensures, c.in-Plan.is) (ends_early _ _ c.args.early _ earlier _ (λ files. refl) distinct c.refused.ensures.end)

pub returns-in-Abi : goal.returns-in-Abi
returns-in-Abi g c = λ earlier distinct. rw (c.refused-in-Abi.ensures.tree, c.into_tree-in-Abi.ensures, c.in-Abi.is) (ends_early _ _ c.args.early _ earlier _ (λ files. refl) distinct c.refused-in-Abi.ensures.end)

pub returns-in-Check : goal.returns-in-Check
returns-in-Check g c = λ earlier distinct. rw c.in-Check.is (c.check_refused.ensures _ earlier distinct)

pub returns-in-SelfLoad : goal.returns-in-SelfLoad
returns-in-SelfLoad g c = λ earlier distinct. rw (c.refused-in-SelfLoad.ensures.tree, c.into_tree-in-SelfLoad.ensures, c.in-SelfLoad.is) (ends_early _ _ c.args.early _ earlier _ (λ files. refl) distinct c.refused-in-SelfLoad.ensures.end)
