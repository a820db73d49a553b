use Rattle.std.proofs.Common.{◌+◌, ◌≤◌, length, ap, sym, subst, arith}
use Rattle.std.specs.Prelude.{IfOk, IfSome}
use Rattle.std.proofs.lemmas.List.{length-map}
use Rattle.vk_spec.specs.Lists.{NoRepeats}
use Rattle.vk_resolution.specs.Reasons.{facts_of}
use Rattle.vk_model.specs.FactViews.{reason_view, reasons_view}
use Rattle.vk_model.specs.SettingViews.{setting_view}
use Rattle.vk_worklist.specs.Entries.{reason_of}
use Rattle.vk_worklist.specs.Ticks.{ticks}
use Rattle.vk_check.proofs.StepLemmas.{Holds, lines_repeat}
use Rattle.vk_check.proofs.certificates.certify.Goals as goal

pub returns-then-not-branch-clause-certified : goal.returns-then-not-branch-clause-certified
returns-then-not-branch-clause-certified g c =
    lines_repeat (g.C.Catalogue.state c.args.cat.now).pages (setting_view c.args.setting.now) (reasons_view c.args.reasons.now) (rw c.if-not-branch.true at c.in_ok-put_lines.ensures)

pub certify_setting-requires-clause-small : goal.certify_setting-requires-clause-small
certify_setting-requires-clause-small g c =
    let put = rw c.if-not-branch.false at c.in_ok-put_lines.ensures in
    let same = ap length put.0 in
    let lines = length-map c.put_lines.new.lines.entries reason_of in
    let reasons = length-map c.args.reasons.now reason_view in
    omega (arith, same, lines, reasons, c.requires)

pub certify_setting-requires-clause-distinct : goal.certify_setting-requires-clause-distinct
certify_setting-requires-clause-distinct g c =
    let put = rw c.if-not-branch.false at c.in_ok-put_lines.ensures in
    subst (λ l. NoRepeats (facts_of l)) (sym put.0) put.1

pub returns-clause-certified : goal.returns-clause-certified
returns-clause-certified g c =
    let put = rw c.if-not-branch.false at c.in_ok-put_lines.ensures in
    subst (λ l. IfOk c.certify_setting.result (λ holds. IfSome (g.C.Catalogue.state c.args.cat.now).pages (Holds l holds (setting_view c.args.setting.now)))) put.0 c.certify_setting.ensures.certified

pub returns-clause-ticks : goal.returns-clause-ticks
returns-clause-ticks g c =
    let put = rw c.if-not-branch.false at c.in_ok-put_lines.ensures in
    subst (λ l. c.certify_setting.new.steps ≤ c.args.steps.now + ticks (facts_of l)) put.0 c.certify_setting.ensures.ticks
