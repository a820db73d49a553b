use Rattle.std.proofs.lemmas.List.Elements.{All-nil}
use Rattle.std.specs.List.{All}
use Rattle.vk_base.specs.Paths.{text_of_path}
use Rattle.vk_base.specs.Tokens.{IsByte}
use Rattle.vk_abi_text.specs.Views.{file_view}
use Rattle.vk_abi_text.specs.Lines.{file_line}
use Rattle.vk_abi_text.proofs.PutLemmas.{put_all, put_next, put_none, right_all, right_next}
use Rattle.vk_abi_text.proofs.writing.put_files.Goals as goal

pub loop-file-init : goal.loop-file-init
loop-file-init c = record { lines = put_none c.args.lines.now.keys; right = All-nil (λ f. All IsByte (text_of_path f.path)) }

pub loop-file-preserved : goal.loop-file-preserved
loop-file-preserved c = record {
  lines = put_next file_view file_line c.args.files.now c.loop-file.file-index c.file-item.result c.in_ok-file_line.field-0 c.args.lines.now.keys c.loop-file.lines.keys c.put.new.lines.keys
      c.loop-file-test.true c.file-item.is c.loop-file.invariant.lines c.in_ok-put.ensures c.in_ok-file_line.ensures.line;
  right = right_next file_view (λ f. All IsByte (text_of_path f.path)) c.args.files.now c.loop-file.file-index c.file-item.result c.loop-file-test.true c.file-item.is c.loop-file.invariant.right c.in_ok-file_line.ensures.right;
}

pub returns-clause-lines : goal.returns-clause-lines
returns-clause-lines c = put_all file_view file_line c.args.files.now c.loop-file.file-index c.args.lines.now.keys c.loop-file.lines.keys c.loop-file-test.false c.loop-file.invariant.lines

pub returns-clause-right : goal.returns-clause-right
returns-clause-right c = right_all file_view (λ f. All IsByte (text_of_path f.path)) c.args.files.now c.loop-file.file-index c.loop-file-test.false c.loop-file.invariant.right
