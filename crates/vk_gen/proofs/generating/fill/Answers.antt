use Rattle.std.proofs.Common.{◌≡◌, ap, ◌∙◌, arith}
use Rattle.std.specs.Prelude.{flat_map}
use Rattle.std.specs.List.{range_with_len}
use Rattle.std.specs.FinMap as map
use Rattle.vk_gen.specs.Loads.{port_files, project_files, untouched}
use Rattle.vk_gen.specs.Puts.{with_files}
use Rattle.vk_gen.proofs.FilePaths.{at_first}
use Rattle.vk_gen.proofs.LoadLemmas.{all_put, port_put}
use Rattle.vk_gen.proofs.generating.fill.Goals as goal

pub put_project-requires-clause-files : goal.put_project-requires-clause-files
put_project-requires-clause-files c = at_first c.args.tree.now c.requires.new

pub loop-port-preserved : goal.loop-port-preserved
loop-port-preserved c =
    (c.in_ok-put_port.ensures.put ∙ ap (with_files (port_files c.args.size c.loop-port.port)) c.loop-port.invariant.0 ∙ port_put c.args.size c.loop-port.port _, c.in_ok-put_port.ensures.files)

pub returns : goal.returns
returns c =
    let all : c.loop-port.port ≡ c.args.size = omega (arith, c.loop-port-test.false) in
    c.loop-port.invariant.0 ∙ ap (λ k. with_files (flat_map (port_files c.args.size) (range_with_len 0 k)) (with_files (project_files c.args.size) (untouched map.empty))) all
    ∙ all_put c.args.size (omega (arith, c.requires.most))
