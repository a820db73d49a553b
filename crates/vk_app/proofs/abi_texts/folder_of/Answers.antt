use Rattle.std.proofs.Common.{◌≡◌, subst}
use Rattle.std.proofs.lemmas.Result.{err_from_is_err_and}
use Rattle.vk_spec.specs.Catalogues.{OnPages}
use Rattle.vk_base.specs.Names.{port_rule}
use Rattle.vk_base.proofs.NameLemmas.{rule_from_no_fault}
use Rattle.vk_base.proofs.NamePartLemmas.{name_is_part}
use Rattle.vk_world.specs.Worlds.{state_of}
use Rattle.vk_app.proofs.FolderLemmas.{folder_answered, never_without}
use Rattle.vk_app.proofs.abi_texts.folder_of.Goals as goal

pub child-requires : goal.child-requires
child-requires g c = rw (c.as_str.ensures.text) (name_is_part port_rule c.args.item.now.inst.port (rule_from_no_fault port_rule _ c.as_str.ensures.name))

pub returns-in_err-folder-clause-asked : goal.returns-in_err-folder-clause-asked
returns-in_err-folder-clause-asked g c =
    let p = err_from_is_err_and c.from_residual.result c.from_residual.ensures.1 in rw (p.1, p.2) c.in_err-folder.ensures.asked

pub returns-in_err-child-in-None-clause-asked : goal.returns-in_err-child-in-None-clause-asked
returns-in_err-child-in-None-clause-asked g c =
    let p = err_from_is_err_and c.from_residual-in_err-child-in-None.result c.from_residual-in_err-child-in-None.ensures.1 in rw (p.1, p.2) c.in_ok-folder.ensures.asked

pub returns-in-Some-clause-stands : goal.returns-in-Some-clause-stands
returns-in-Some-clause-stands g c =
    let s = state_of g.T.Tree.state c.args.world.now in
    folder_answered s c.args.item.now.inst.port c.args.item.now.version c.in-Some.folder (subst (λ o. OnPages (λ ps. o ≡ s.origin.places c.args.item.now.inst.port c.args.item.now.version) s) c.in-Some.is c.in_ok-folder.ensures.stands)

pub returns-in_ok-child-in-None-clause-stands : goal.returns-in_ok-child-in-None-clause-stands
returns-in_ok-child-in-None-clause-stands g c =
    let s = state_of g.T.Tree.state c.args.world.now in
    never_without g.T.Tree.state c.args.world.now c.args.item.now.inst.port c.args.item.now.version c.in_ok-child-in-None.field-0 c.requires
    (subst (λ o. OnPages (λ ps. o ≡ s.origin.places c.args.item.now.inst.port c.args.item.now.version) s) c.in-None.is c.in_ok-folder.ensures.stands)
