-- Lines that are put where they belong.
use Rattle.std.specs.Prelude.{◌≡◌, ◌++◌, ℕ, List, [], ◌∷◌}
use Rattle.vk_base.specs.Names.{IsName, port_rule, word_rule}
use Rattle.vk_resolution.specs.Keys.{in_order}
use Rattle.vk_abi_text.specs.Inputs.{Input}
use Rattle.vk_abi_text.specs.Rights.{IsRightBuilder, IsRightVersion}
use Rattle.vk_abi_text.specs.Lines.{AbiLine, builder_line, native_line, port_line, text_key, triplet_line, version_line}

-- where some texts stood in order, these stand in order with them
pub record Puts (more old new : List (List ℕ)) : Type 0 where
  pub puts : (texts : List (List ℕ)) → old ≡ in_order text_key texts → new ≡ in_order text_key (texts ++ more)

-- the lines of which there is one each
abbrev pub single_lines : Input → List AbiLine
single_lines i = builder_line i.builder ∷ native_line i.native ∷ port_line i.port ∷ triplet_line i.triplet i.triplet_digest ∷ version_line i.version ∷ []

-- what is said of these keeps its rules
abbrev pub HasRightSingles : Input → Type 0
HasRightSingles i = IsRightBuilder i.builder × IsName port_rule i.port × IsName word_rule i.triplet × IsRightVersion i.version
