use Rattle.vk_forms.proofs.VersionForms.{version_none}
use Rattle.vk_forms.proofs.versions.TextVersionForm.read.Goals as goal

pub returns-in-None : goal.returns-in-None
returns-in-None c = version_none c.args.text.now (rw c.in-None.is at c.in_ok-version.ensures)
