use Rattle.vk_abi_text.proofs.PutLemmas.{put_one}
use Rattle.vk_abi_text.proofs.writing.put.Goals as goal

pub returns : goal.returns
returns c = put_one c.args.lines.now.keys c.insert.new.self.keys c.args.line c.in_ok-insert.ensures.keys
