use Rattle.std.proofs.lemmas.Result.{err_from_is_err_and}
use Rattle.vk_worklist.specs.Entries.{reasons_in}
use Rattle.vk_worklist.proofs.EndLemmas.{fault_means, first_closing, first_forced}
use Rattle.vk_worklist.proofs.closing.close_lines.Goals as goal

pub returns-in_err-first_level-clause-facts : goal.returns-in_err-first_level-clause-facts
returns-in_err-first_level-clause-facts g c =
    let p = err_from_is_err_and c.from_residual.result c.from_residual.ensures.1 in
    rw (p.1, p.2) (fault_means c.in_err-first_level.field-0.0 c.args.most
    (first_forced (g.C.Catalogue.state c.args.cat.now).pages (g.S.Source.setting c.args.source.now) (reasons_in c.args.given.now.items) c.args.most c.requires.limit c.requires.roots) c.in_err-first_level.ensures.facts)

pub close_levels-requires-clause-closing : goal.close_levels-requires-clause-closing
close_levels-requires-clause-closing g c =
    first_closing (g.C.Catalogue.state c.args.cat.now).pages (g.S.Source.setting c.args.source.now) (reasons_in c.args.given.now.items) (reasons_in c.first_level.new.lines.entries) c.requires.roots c.in_ok-first_level.ensures.ok
