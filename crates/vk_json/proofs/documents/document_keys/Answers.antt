use Rattle.vk_json.proofs.DocumentKeys.{keys_ascend}
use Rattle.vk_json.proofs.documents.document_keys.Goals as goal

pub returns : goal.returns
returns c = keys_ascend
