use Rattle.std.proofs.Common.{◌<◌, ◌^◌, rules, arith}
use Rattle.std.specs.Prelude.{decimal}
use Rattle.vk_forms.proofs.Numbers.{decimal_lacks}
use Rattle.vk_report_reader.proofs.PlaceLemmas.{headed_some, headed_none}
use Rattle.vk_report_reader.proofs.advances.read_numbered.Goals as goal

pub returns-in-Some : goal.returns-in-Some
returns-in-Some g c = headed_some (g.F.Form.prints c.args.form) (g.F.Form.is_right c.args.form) c.args.line.now (decimal c.args.number) (tt, g.F.Form.plain c.in-Some.found.1) (rw c.in-Some.is at c.in_ok-found.ensures)

pub returns : goal.returns
returns g c =
    let small : c.args.number < 2 ^ 32 = search rules in
    headed_none (g.F.Form.prints c.args.form) (g.F.Form.is_right c.args.form) c.args.line.now (decimal c.args.number) (decimal_lacks 32 c.args.number small (omega arith)) (rw c.in-None.is at c.in_ok-found.ensures)
