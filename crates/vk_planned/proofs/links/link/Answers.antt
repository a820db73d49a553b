use Rattle.vk_planned.proofs.LinkLemmas.{link_one}
use Rattle.vk_planned.proofs.links.link.Goals as goal

pub returns : goal.returns
returns c =
    link_one c.args.place c.in_ok-other.other c.args.needs.now.keys c.insert_full.new.self.keys c.args.need c.in_ok-other.ensures.stored.0 c.args.edges.now.items c.push.new.self.items
    c.in_ok-other.ensures.keys c.in_ok-other.ensures.stored.1 c.in_ok-other.ensures.stored.2 c.in_ok-push.ensures.items
