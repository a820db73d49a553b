-- What contracts see of how a file stands.
use Rattle.vk_files.specs.Readings as plain
use Rattle.vk_files.specs.declared.readers.Standing.{Standing}
use Rattle.vk_files.specs.declared.readers.Standing.TheVariants as standing

abbrev pub standing_view : Standing → plain.Standing
standing_view standing.Missing = plain.missing
standing_view standing.TooLong = plain.too_long
standing_view standing.Readable = plain.readable
