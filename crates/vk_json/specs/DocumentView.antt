-- A document as plain data.
use Rattle.serde_json.specs.Data.{Data}
use Rattle.vk_json.specs.Values.{view}
use Rattle.vk_json.specs.declared.documents.Doc.{Doc}

-- what was read
abbrev pub doc_data : Doc → Data
doc_data d = view d.value
