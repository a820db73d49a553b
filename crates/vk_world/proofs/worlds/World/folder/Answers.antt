use Rattle.vk_world.proofs.WorldLemmas.{still_sound, only_asked, folder_told}
use Rattle.vk_world.proofs.worlds.World.folder.Goals as goal

pub invariant_of-self : goal.invariant_of-self
invariant_of-self g c = still_sound c.self.invariant c.folder.ensures

pub returns-clause-stands : goal.returns-clause-stands
returns-clause-stands g c = rw (← c.self.view_is) (folder_told c.self.invariant c.folder.ensures)

pub returns-clause-asked : goal.returns-clause-asked
returns-clause-asked g c = rw (← c.self.view_is) (only_asked c.self.invariant c.folder.ensures)
