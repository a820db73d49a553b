-- What is found where a read is refused.
use Rattle.vk_tree.specs.declared.trees.ReadFault.{ReadFault}
use Rattle.vk_tree.specs.declared.trees.ReadFault.TheVariants as read
use Rattle.vk_files.specs.Kept.{Seen, absent, too_large}

abbrev pub seen_by : ReadFault → Seen
seen_by read.Missing = absent
seen_by read.TooLarge = too_large
