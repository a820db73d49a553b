-- How versions, paths and fields stand in printed lines.
use Rattle.std.specs.Prelude.{◌++◌, ℕ, List, codes, decimal}
use Rattle.vk_spec.specs.Paths.{Path}
use Rattle.vk_spec.specs.Versions.{Ask}
use Rattle.vk_spec.specs.Pages.{Field, name, class, text, port}
use Rattle.vk_base.specs.Paths.{text_of_path}
use Rattle.vk_base.specs.Tokens.{token_of}

-- a version: `text#port-version`
abbrev pub version_text : Ask → List ℕ
version_text ask = token_of ask.text ++ codes "#" ++ decimal ask.port

-- a path
abbrev pub path_text : Path → List ℕ
path_text path = token_of (text_of_path path)

-- a field
abbrev pub field_word : Field → List ℕ
field_word name = codes "name"
field_word class = codes "class"
field_word text = codes "text"
field_word port = codes "port-version"
