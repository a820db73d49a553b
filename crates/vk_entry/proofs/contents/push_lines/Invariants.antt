use Rattle.std.proofs.Common.{◌≡◌, ◌++◌, take, map, string_bytes}
use Rattle.std.specs.List.{flat_map}
use Rattle.vk_resolution.specs.Lines.{ended}
use Rattle.vk_entry.specs.Contents.{content_text}
use Rattle.vk_entry.specs.ContentViews.{content_view}
use Rattle.vk_entry.proofs.contents.push_lines.Given as goal

abbrev pub invariant-loop-line : goal.invariant-loop-line
invariant-loop-line l = string_bytes l.text ≡ string_bytes l.initial.text ++ flat_map ended (map content_text (map content_view (take l.line-index l.lines)))
