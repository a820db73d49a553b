-- What contracts see of a table: its rows as plain data.
use Rattle.vk_registry.specs.Tables as plain
use Rattle.vk_registry.specs.declared.tables.Row.{Row}

abbrev pub row_view : Row → plain.Row
row_view row = record { version = row.version; path = row.path }
