use Rattle.std.proofs.Common.{sym, ◌∙◌}
use Rattle.vk_forms.proofs.Found.{if_ok_then}
use Rattle.vk_abi_text.specs.Adding.{gathering_view}
use Rattle.vk_abi_text.specs.Forms.{line_view}
use Rattle.vk_abi_text.proofs.ReadLemmas.{follows_read}
use Rattle.vk_abi_text.proofs.gathering.follow.Goals as goal

pub returns-in-Some : goal.returns-in-Some
returns-in-Some c =
    let read = rw c.in-Some.is at c.in_ok-line.ensures in
    if_ok_then c.add.result
    (λ fits adds. follows_read c.args.last.now c.args.text.now (line_view c.in-Some.line) read.0 read.1 (sym c.cmp.ensures ∙ c.in-Less.is) (gathering_view c.args.gathering.now) (gathering_view c.add.new.gathering) fits adds) c.add.ensures
