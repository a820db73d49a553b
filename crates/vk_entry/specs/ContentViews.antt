-- What contracts see of a line of a contents list.
use Rattle.vk_entry.specs.Contents as plain
use Rattle.vk_entry.specs.declared.contents.ContentLine.{ContentLine}

abbrev pub content_view : ContentLine → plain.Content
content_view c = record { path = c.path; size = c.size; digest = c.digest.bytes }
