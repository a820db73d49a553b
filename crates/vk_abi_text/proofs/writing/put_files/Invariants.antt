use Rattle.std.specs.List.{All}
use Rattle.vk_base.specs.Paths.{text_of_path}
use Rattle.vk_base.specs.Tokens.{IsByte}
use Rattle.std.proofs.Common.{map, take}
use Rattle.vk_abi_text.specs.Views.{file_view}
use Rattle.vk_abi_text.specs.Lines.{file_line, line_text}
use Rattle.vk_abi_text.specs.Puts.{Puts}
use Rattle.vk_abi_text.proofs.writing.put_files.Given as goal

abbrev pub invariant-loop-file : goal.invariant-loop-file
invariant-loop-file l = record {
  lines : Puts (map line_text (map file_line (map file_view (take l.file-index l.files)))) l.initial.lines.keys l.lines.keys;
  right : All (λ f. All IsByte (text_of_path f.path)) (map file_view (take l.file-index l.files));
}
