use Rattle.std.proofs.Common.{◌++◌, ◌∙◌, ap, sym, subst}
use Rattle.vk_spec.specs.Lists.{NoRepeats}
use Rattle.vk_app.proofs.laws.a_plan_asks_for_no_path_twice.Goals as goal

pub returns : goal.returns
returns c = λ project status before after runs.
    let reads = runs.reads.reads in
    let asked = reads.parts ∙ ap (λ own. reads.first ++ (own ++ reads.rest)) reads.besides in
    (reads.only.asked, reads.only.looks.told, subst NoRepeats (sym asked) reads.distinct)
