-- What contracts see of who has requirements, by borrowed names.
use Rattle.vk_resolution.specs.Settings.{Who, root, inst}
use Rattle.vk_root.specs.declared.requirers.Requirer.{Requirer}
use Rattle.vk_root.specs.declared.requirers.Requirer.TheVariants as requirer

abbrev pub requirer_view : Requirer → Who
requirer_view (requirer.Root t) = root t.now
requirer_view (requirer.Inst p t) = inst (record { port = p.now; triplet = t.now })
