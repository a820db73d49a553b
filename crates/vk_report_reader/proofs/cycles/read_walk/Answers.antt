use Rattle.std.proofs.Common.{map}
use Rattle.vk_model.specs.SettingViews.{instance_view}
use Rattle.vk_report_reader.proofs.CycleForms.{walk_more, walk_ends, walk_none}
use Rattle.vk_report_reader.proofs.cycles.read_walk.Goals as goal

pub loop-rest-preserved : goal.loop-rest-preserved
loop-rest-preserved c =
    let read = rw (c.in-Some.is, c.in-One.is, c.as_str.ensures) at c.in_ok-next.ensures in
    walk_more c.args.text.now c.loop-rest.rest c.in-One.first.1.1 c.in-One.first.0 c.in-One.first.1.0 (map instance_view c.loop-rest.walk) (map instance_view c.push_instance.new.walk) c.loop-rest.invariant read c.in_ok-push_instance-in-One.ensures

pub returns-in-Other : goal.returns-in-Other
returns-in-Other c =
    let read = rw (c.in-Some.is, c.in-Other.is, c.as_str.ensures) at c.in_ok-next.ensures in
    walk_ends c.args.text.now c.loop-rest.rest c.in-Other.last.0 c.in-Other.last.1 (map instance_view c.loop-rest.walk) (map instance_view c.push_instance-in-Other.new.walk) c.loop-rest.invariant read c.in_ok-push_instance-in-Other.ensures

pub returns : goal.returns
returns c =
    let none = rw (c.in_default.is, c.as_str.ensures) at c.in_ok-next.ensures in
    walk_none c.args.text.now c.loop-rest.rest (map instance_view c.loop-rest.walk) c.loop-rest.invariant none
