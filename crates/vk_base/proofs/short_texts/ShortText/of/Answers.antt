use Rattle.vk_base.proofs.ShortTextLemmas.{copied}
use Rattle.vk_base.proofs.short_texts.ShortText.of.Goals as goal

pub invariant_of-result : goal.invariant_of-result
invariant_of-result c = copied _ _ c.if-bytes-gt-ROOM.false c.copy_from_slice.ensures.after c.as_bytes-bytes.ensures.utf8
