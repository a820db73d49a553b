use Rattle.std.proofs.Common.{arith}
use Rattle.vk_resolution.proofs.Orders.{same_key-Decides}
use Rattle.vk_abi_text.specs.Views.{file_view}
use Rattle.vk_abi_text.proofs.Lasts.{tells_last}
use Rattle.vk_abi_text.proofs.gathering.is_last_path.Goals as goal

pub returns-in-len1-up : goal.returns-in-len1-up
returns-in-len1-up c =
    tells_last file_view (λ f. f.path) c.args.files.now c.last-item.result c.args.path.now c.eq.result _ c.eq.ensures (omega (arith, c.in-len1-up.len_at_least)) c.last-item.is
    (same_key-Decides c.last-item.result.path c.args.path.now)
