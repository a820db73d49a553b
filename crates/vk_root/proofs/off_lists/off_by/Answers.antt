use Rattle.std.proofs.lemmas.Result.{IfOk-weaker}
use Rattle.vk_root.specs.AskedNames.{names_view}
use Rattle.vk_root.specs.Roots.{setting_at}
use Rattle.vk_root.proofs.NamedLemmas.{off_listing}
use Rattle.vk_root.proofs.off_lists.off_by.Goals as goal

pub returns : goal.returns
returns c =
    let wanted = c.in_ok-wanted.ensures in
    IfOk-weaker c.others_by.result _ _ (λ l others words defaults off most least.
    off_listing (setting_at c.args.root words defaults off most) (names_view c.args.features.now.keys) others.named wanted.0 c.in_ok-wanted.wanted.keys
    others.all wanted.2 wanted.1 least l others.order others.each) c.others_by.ensures
