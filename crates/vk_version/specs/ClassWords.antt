-- The printed words of the classes of versions.
use Rattle.std.specs.Prelude.{ℕ, List, codes}
use Rattle.vk_spec.specs.Versions.{Class}
use Rattle.vk_spec.specs.Versions as plain

abbrev pub class_word : Class → List ℕ
class_word plain.dot = codes "dot"
class_word plain.date = codes "date"
class_word plain.text = codes "text"
