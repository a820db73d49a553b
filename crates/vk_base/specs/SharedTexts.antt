-- The bytes that a shared text has, however they are kept.
use Rattle.std.specs.Prelude.{ℕ, List, string_bytes}
use Rattle.vk_base.specs.declared.shared_texts.TextBytes.{TextBytes}
use Rattle.vk_base.specs.declared.shared_texts.TextBytes.TheVariants as kept

abbrev pub bytes_in : TextBytes → List ℕ
bytes_in (kept.Short text) = text
bytes_in (kept.Long text) = string_bytes text.value
