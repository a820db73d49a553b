use Rattle.std.proofs.Common.{ap, sym, ◌∙◌, drop_of_length-le}
use Rattle.json.specs.Value.{members_view}
use Rattle.vk_json.specs.Values.{entries_view, members_data}
use Rattle.vk_json.proofs.ValueLemmas.{entry_put, member_put}
use Rattle.vk_json.proofs.getters.by_key.Goals as goal

pub loop-key-preserved : goal.loop-key-preserved
loop-key-preserved c =
    let noted = ap entries_view c.in_ok-insert.ensures.entries ∙ entry_put c.loop-key.found.entries _ _ in
    sym (member_put c.args.object.now c.loop-key.key-index c.loop-key-item.result c.loop-key.found.entries c.insert.new.self.entries c.loop-key-test.true c.loop-key-item.is noted) ∙ c.loop-key.invariant

pub returns : goal.returns
returns c = sym (ap (λ ms. members_data (members_view ms) (entries_view c.loop-key.found.entries)) (drop_of_length-le c.args.object.now c.loop-key-test.false)) ∙ c.loop-key.invariant
