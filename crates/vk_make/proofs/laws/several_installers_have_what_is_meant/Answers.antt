use Rattle.vk_make.proofs.FewFiles.{meant_calm}
use Rattle.vk_make.proofs.SeveralLaw.{several_make_by}
use Rattle.vk_make.proofs.laws.several_installers_have_what_is_meant.Goals as goal

pub returns : goal.returns
returns c = several_make_by meant_calm
