use Rattle.vk_abi_text.specs.Views.{dep_view}
use Rattle.vk_abi_text.specs.Lines.{dep_line}
use Rattle.vk_abi_text.proofs.PutLemmas.{put_all, put_next, put_none}
use Rattle.vk_abi_text.proofs.writing.put_deps.Goals as goal

pub loop-dep-init : goal.loop-dep-init
loop-dep-init c = put_none c.args.lines.now.keys

pub loop-dep-preserved : goal.loop-dep-preserved
loop-dep-preserved c =
    put_next dep_view dep_line c.args.deps.now c.loop-dep.dep-index c.dep-item.result c.in_ok-dep_line.field-0 c.args.lines.now.keys c.loop-dep.lines.keys c.put.new.lines.keys
    c.loop-dep-test.true c.dep-item.is c.loop-dep.invariant c.in_ok-put.ensures c.in_ok-dep_line.ensures

pub returns : goal.returns
returns c = put_all dep_view dep_line c.args.deps.now c.loop-dep.dep-index c.args.lines.now.keys c.loop-dep.lines.keys c.loop-dep-test.false c.loop-dep.invariant
