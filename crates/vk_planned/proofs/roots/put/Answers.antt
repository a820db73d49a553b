use Rattle.vk_planned.proofs.SetLemmas.{is_put}
use Rattle.vk_planned.proofs.roots.put.Goals as goal

pub returns : goal.returns
returns c = (is_put c.args.needs.now.keys c.insert.new.self.keys c.args.need c.in_ok-insert.ensures.keys).notes
