use Rattle.std.proofs.lemmas.List.Elements.{All-contains}
use Rattle.vk_resolution.specs.Lines.{fault_line}
use Rattle.vk_resolution.specs.Planner.{inputs_of}
use Rattle.vk_abi_text.proofs.SameTexts.{texts_tell_inputs}
use Rattle.vk_abi.specs.Nodes.{IsRightNode}
use Rattle.vk_abi.proofs.NodeLemmas.{texts_tell_nodes}
use Rattle.vk_abi.proofs.PlanFeatures.{plan_features}
use Rattle.vk_abi.proofs.laws.a_plan_tells_its_builds.Goals as goal

pub returns-clause-features : goal.returns-clause-features
returns-clause-features c = λ setting pages items reasons outcome. plan_features (inputs_of setting pages) fault_line items reasons outcome

pub returns-clause-apart : goal.returns-clause-apart
returns-clause-apart c = λ shared other d e plan more pairs texts one two m n at_m at_n clear same.
    texts_tell_nodes texts_tell_inputs m n (All-contains IsRightNode one.nodes m one.right at_m) (All-contains IsRightNode two.nodes n two.right at_n) clear same
