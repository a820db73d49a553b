use Rattle.vk_close.proofs.KnownLemmas.{placed_sound, some_sound}
use Rattle.vk_close.proofs.page_askers.PageAsker.see_any.Goals as goal

pub returns-in_ok-see_to-clause-sound : goal.returns-in_ok-see_to-clause-sound
returns-in_ok-see_to-clause-sound g c =
    placed_sound c.see_to.new.self c.args.port.now c.in_ok-see_to.field-0 c.in_ok-see_to.ensures.there (g.C.Catalogue.state c.args.cat.now).pages c.in_ok-see_to.ensures.kept

pub returns-else-is_empty-clause-sound : goal.returns-else-is_empty-clause-sound
returns-else-is_empty-clause-sound g c =
    some_sound c.args.self.now c.is_empty.result c.is_empty.ensures c.if-is_empty.false (g.C.Catalogue.state c.args.cat.now).pages c.requires.kept
