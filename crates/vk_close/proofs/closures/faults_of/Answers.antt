use Rattle.vk_model.specs.FactViews.{reasons_view}
use Rattle.vk_close.proofs.CloseLemmas.{clean_told, dirty_told}
use Rattle.vk_close.proofs.closures.faults_of.Goals as goal

pub returns-then-clean-clause-faults : goal.returns-then-clean-clause-faults
returns-then-clean-clause-faults g c = clean_told (g.C.Catalogue.state c.args.cat.now).pages c.args.clean (reasons_view c.args.reasons.now) c.new.result c.if-clean.true c.new.ensures

pub returns-clause-faults : goal.returns-clause-faults
returns-clause-faults g c = rw c.as_slice.ensures at (dirty_told (g.C.Catalogue.state c.args.cat.now).pages c.args.clean (reasons_view c.as_slice.result.now) c.first_faults.result c.first_faults.ensures.faults)
