use Rattle.std.specs.Prelude.{codes}
use Rattle.vk_tree.specs.MemTrees.{mem_files}
use Rattle.vk_forms.proofs.Found.{if_ok_then}
use Rattle.vk_rows.proofs.CacheLemmas.{clear_from}
use Rattle.vk_rows.proofs.caches.is_clear.Goals as goal

pub returns : goal.returns
returns c =
    if_ok_then c.has_room_in-3.result
    (λ clear has is. clear_from c.args.cache.now (codes "-") (mem_files c.args.tree.now) (c.in_ok-has_room_in.ensures c.if-not-branch.false) (c.in_ok-has_room_in-2.ensures c.if-not-branch-2.false) (has is)) c.has_room_in-3.ensures
