use Rattle.vk_forms.proofs.VersionForms.{ask_none}
use Rattle.vk_forms.proofs.versions.TextAskForm.read.Goals as goal

pub returns-in-None : goal.returns-in-None
returns-in-None c = ask_none c.args.text.now (rw c.in-None.is at c.in_ok-version.ensures)
